-- The theorem that `figures_hold` carries. Assumes nothing.
use Rattle.machine.proofs.figures.figures_hold.Goals as goal
use Rattle.machine.proofs.Worked.{figures}

pub returns : goal.returns
returns c = figures
