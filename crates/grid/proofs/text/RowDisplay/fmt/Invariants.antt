use Rattle.std.proofs.Common.{take}
use Rattle.std.specs.Fmt.{IsPlainFormatter, HasWritten}
use Rattle.grid.specs.Text.{cells_text}
use Rattle.grid.proofs.text.RowDisplay.fmt.Given as goal

abbrev pub invariant-loop-answer : goal.invariant-loop-answer
invariant-loop-answer g l = IsPlainFormatter l.initial.f → HasWritten g.W.Write.write_str_gives l.initial.f (cells_text (take l.answer-index l.answer-items)) l.f
