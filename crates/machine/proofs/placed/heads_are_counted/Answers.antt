-- The theorem that `heads_are_counted` carries. Assumes nothing.
use Rattle.machine.proofs.placed.heads_are_counted.Goals as goal
use Rattle.machine.proofs.Placing.{shifts_counted}

pub returns : goal.returns
returns c = shifts_counted
