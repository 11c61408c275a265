-- The theorem that `shifts_are_lawful` carries. Assumes nothing.
use Rattle.machine.proofs.law.shifts_are_lawful.Goals as goal
use Rattle.machine.proofs.Lawfulness.{shifts_lawful}

pub returns : goal.returns
returns c = shifts_lawful
