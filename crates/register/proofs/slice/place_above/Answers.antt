-- The first above the key stands where the search stops. Assumes nothing.
use Rattle.std.proofs.Common.{Bool, ap, ◌∙◌, rules}
use Rattle.std.specs.Ordering.{is_lt, is_some_and, partial_lt}
use Rattle.std.proofs.lemmas.Iterator.{YieldsList-from_slice}
use Rattle.std.proofs.lemmas.Iterator.Search.{position_from_yields_List}
use borrow.Author.Tests.{tests}
use Rattle.register.specs.Slices.{spot}
use Rattle.register.proofs.Slices.{spot_searched}
use Rattle.register.proofs.slice.place_above.Goals as goal

pub returns-clause-place : goal.returns-clause-place
returns-clause-place g c =
    let above : g.row.T.Denot → Bool = λ x. partial_lt g.T.Key.PartialOrd.partial_cmp c.args.key.now (g.T.Keyed.keyed x) in
    c.unwrap_or.ensures ∙ spot_searched above c.args.records.now c.position.result
    (position_from_yields_List above _ _ _ c.position.ensures.ran (YieldsList-from_slice c.args.records.now (cc)) (λ x b q k. search (rules, tests)))
    ∙ ap (λ (above : g.row.T.Denot → Bool). spot above c.args.records.now)
    (λ i x. is_some_and is_lt (g.met.T.Key.Ord.matches_partial_cmp c.args.key.now (g.T.Keyed.keyed x) i))
