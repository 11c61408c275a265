-- The line, once every cell is written.
use Rattle.std.proofs.Common.{true, refl, drop, rules, take_all, length-drop}
use borrow.Rule.Slice.PartMut.{mid_of}
use Rattle.std.proofs.Output.{has_written_append}
use Rattle.grid.proofs.text.RowDisplay.fmt.Goals as goal

pub returns-clause-writes : goal.returns-clause-writes
returns-clause-writes g c = λ p ok.
    let first = c.in_ok-write.ensures.writes p (refl {a = true}) in
    let rest = rw (take_all c.loop-answer.answer-index (mid_of 1 15 c.args.self.now.0) (search rules), take_all 15 (drop 1 c.args.self.now.0) (search (rules, length-drop))) at (c.loop-answer.invariant first.plain) in
    has_written_append g.W.Write.write_str_gives _ _ _ _ _ first
    (has_written_append g.W.Write.write_str_gives _ _ _ _ _ rest (c.writeln.ensures.writes rest.plain ok))
