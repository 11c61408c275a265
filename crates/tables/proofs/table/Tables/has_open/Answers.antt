use Rattle.std.proofs.Common.{rules, ◌∙◌}
use Rattle.std.proofs.lemmas.Iterator.{YieldsList-from_slice}
use Rattle.std.proofs.lemmas.Iterator.Search.{any_from_yields_List}
use borrow.Author.Tests.{tests}
use Rattle.machine.specs.State.{of_badge_at_lot}
use Rattle.register.proofs.Keys.{same_codes}
use Rattle.tables.proofs.Members.{any_is_some}
use Rattle.tables.proofs.table.Tables.has_open.Goals as goal

pub returns : goal.returns
returns c =
    any_from_yields_List (of_badge_at_lot c.args.badge c.args.lot.now c.args.right) _ _ c.any.result c.any.ensures.ran (YieldsList-from_slice c.args.self.now.accesses cc) (λ x b q k. rw (← same_codes) (search (rules, tests)))
    ∙ any_is_some (of_badge_at_lot c.args.badge c.args.lot.now c.args.right) c.args.self.now.accesses
