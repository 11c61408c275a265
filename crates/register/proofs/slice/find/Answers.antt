-- The search finds the first that has the key. Assumes nothing.
use Rattle.std.proofs.Common.{Bool, ap, ◌∙◌, rules}
use Rattle.std.proofs.lemmas.Iterator.{YieldsList-from_slice}
use Rattle.std.proofs.lemmas.Iterator.Search.{find_from_yields_List}
use borrow.Author.Tests.{tests}
use Rattle.register.specs.Lists.{first}
use Rattle.register.proofs.Lists.{find_is_first}
use Rattle.register.proofs.slice.find.Goals as goal

pub returns : goal.returns
returns g c =
    let is : g.row.T.Denot → Bool = λ x. g.T.Key.PartialEq.eq (g.T.Keyed.keyed x) c.args.key.now in
    c.copied.ensures
    ∙ find_from_yields_List is _ _ c.find.result c.find.ensures.ran (YieldsList-from_slice c.first_places-register.result.now (cc)) (λ x b q k. search (rules, tests))
    ∙ find_is_first is _ ∙ ap (first is) c.first_places-register.ensures
