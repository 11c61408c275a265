use Rattle.std.proofs.Common.{rules, ◌∙◌}
use Rattle.std.proofs.lemmas.Iterator.{YieldsList-from_slice}
use Rattle.std.proofs.lemmas.Iterator.Search.{any_from_yields_List}
use borrow.Author.Tests.{tests}
use Rattle.machine.specs.State.{of_badge}
use Rattle.tables.proofs.Members.{any_is_some}
use Rattle.tables.proofs.table.Tables.has_open_of.Goals as goal

pub returns : goal.returns
returns c =
    any_from_yields_List (of_badge c.args.badge) _ _ c.any.result c.any.ensures.ran (YieldsList-from_slice c.args.self.now.accesses cc) (λ x b q k. search (rules, tests))
    ∙ any_is_some (of_badge c.args.badge) c.args.self.now.accesses
