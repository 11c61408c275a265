-- The theorem that `accesses_are_placed` carries. Assumes nothing.
use Rattle.machine.proofs.placed.accesses_are_placed.Goals as goal
use Rattle.machine.proofs.Placing.{shifts_placed}

pub returns : goal.returns
returns c = shifts_placed
