-- The whole text, once every row is written.
use Rattle.std.proofs.Common.{rules, take_all}
use Rattle.std.proofs.Output.{has_written_append}
use Rattle.grid.proofs.text.GridDisplay.fmt.Goals as goal

pub returns-clause-writes : goal.returns-clause-writes
returns-clause-writes g c = λ p ok.
    let rows = rw (take_all c.loop-row.row-index c.args.self.now.rows (search rules)) at (c.loop-row.invariant p) in
    has_written_append g.W.Write.write_str_gives _ _ _ _ _ rows (c.writeln.ensures.writes rows.plain ok)
