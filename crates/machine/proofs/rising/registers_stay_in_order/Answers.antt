-- The theorem that `registers_stay_in_order` carries. Assumes nothing.
use Rattle.machine.proofs.rising.registers_stay_in_order.Goals as goal
use Rattle.machine.proofs.Registers.{shifts_rising}

pub returns : goal.returns
returns c = shifts_rising
