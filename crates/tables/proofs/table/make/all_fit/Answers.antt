use Rattle.std.proofs.Common.{rules, ◌∙◌}
use Rattle.std.proofs.lemmas.Iterator.{YieldsList-from_slice}
use Rattle.std.proofs.lemmas.Iterator.Search.{all_from_yields_List}
use borrow.Author.Tests.{tests}
use Rattle.tables.proofs.Members.{all_is_all}
use Rattle.tables.proofs.table.make.all_fit.Goals as goal

pub returns : goal.returns
returns g c =
    all_from_yields_List g.T.Ranged.fit _ _ c.all.result c.all.ensures.ran (YieldsList-from_slice c.args.records.now cc) (λ x b q k. search (rules, tests))
    ∙ all_is_all g.T.Ranged.fit c.args.records.now
