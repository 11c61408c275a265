use Rattle.std.proofs.Common.{rules}
use Rattle.grid.specs.Grid.{answer_at, row_of}
use Rattle.grid.proofs.Rows.{items_from_fn}
use Rattle.grid.proofs.answer.fn.Grid.new.from_fn.Goals as goal

pub returns : goal.returns
unfolding row_of
returns g c =
    items_from_fn (answer_at (g.R.Rule.opening c.captures.rule.now) c.captures.lot.now c.captures.right c.args.level) _ _ 0 (λ i y q k. search rules) c.from_fn.ensures.items
