-- The rows, and the count over them.
use Rattle.std.proofs.Common.{[], ◌==◌, cond, flat_map, rules, tests, ap, ◌∙◌}
use Rattle.std.proofs.lemmas.Iterator.{YieldsList-from_slice}
use Rattle.std.proofs.lemmas.Iterator.Consumers.{YieldsList-from_filter, count_from_yields_List}
use Rattle.std.proofs.lemmas.List.Sums.{length-filter}
use Rattle.grid.specs.Grid.{row_of, rows_of, passing_of}
use Rattle.grid.proofs.Rows.{items_from_fn, sum_by-flat_map}
use Rattle.grid.proofs.answer.Grid.new.Goals as goal

pub returns-clause-rows : goal.returns-clause-rows
unfolding rows_of
returns-clause-rows g c =
    items_from_fn (row_of (g.R.Rule.opening c.args.rule.now) c.args.lot.now c.args.right) _ _ [] (λ i y q k. search rules) c.from_fn-rows.ensures.items

pub returns-clause-passing : goal.returns-clause-passing
returns-clause-passing g c =
    let cells = flat_map (λ row. row) c.from_fn-rows.result in
    count_from_yields_List c.filter.result _ c.count-passing.ensures.ran
    (YieldsList-from_filter _ (λ answer. answer == 0) (YieldsList-from_slice cells (cc)) c.filter.ensures.closure (λ x b q k. search (rules, tests)))
    ∙ length-filter (λ answer. answer == 0) cells ∙ sum_by-flat_map (λ answer. cond (answer == 0) 1 0) c.from_fn-rows.result ∙ ap passing_of (returns-clause-rows g c)
