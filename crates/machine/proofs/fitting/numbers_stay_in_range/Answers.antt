-- The theorem that `numbers_stay_in_range` carries. Assumes nothing.
use Rattle.machine.proofs.fitting.numbers_stay_in_range.Goals as goal
use Rattle.machine.proofs.Ranging.{shifts_fitting}

pub returns : goal.returns
returns c = shifts_fitting
