-- The theorem that `example_holds` carries. Assumes nothing.
use Rattle.machine.proofs.Worked.{example_holds}
use Rattle.machine.proofs.example.example_holds.Goals as goal

pub returns : goal.returns
returns c = example_holds
