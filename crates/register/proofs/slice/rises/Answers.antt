-- Neighbours are tested by `<`, which is what `cmp` says. `take_rest` and `min-zero` serve where a part of the slice is tested
-- that is the whole of it. Assumes nothing.
use Rattle.std.proofs.Common.{Bool, ap, ◌∙◌, rules}
use Rattle.std.specs.Ordering.{is_lt, is_some_and, partial_lt}
use Rattle.std.proofs.Math.Nat.{min-zero}
use Rattle.std.proofs.lemmas.List.{take_rest}
use Rattle.std.proofs.lemmas.List.Sorted.{answers_always}
use borrow.Author.Tests.{tests}
use Rattle.register.specs.Lists.{rises}
use Rattle.register.proofs.Rising.{rises_tested}
use Rattle.register.proofs.slice.rises.Goals as goal

pub returns : goal.returns
returns g c =
    let below : g.row.T.Denot → g.row.T.Denot → Bool = λ x y. partial_lt g.T.Key.PartialOrd.partial_cmp (g.T.Keyed.keyed x) (g.T.Keyed.keyed y) in
    rises_tested below c.args.records.now _ c.is_sorted_by.result (search (rules, take_rest, min-zero)) (c.is_sorted_by.ensures.cases below (answers_always _ _ _ (λ f a r q k. search (rules, tests))))
    ∙ ap (λ (below : g.row.T.Denot → g.row.T.Denot → Bool). rises below c.args.records.now)
    (λ i x y. is_some_and is_lt (g.met.T.Key.Ord.matches_partial_cmp (g.T.Keyed.keyed x) (g.T.Keyed.keyed y) i))
