-- The theorem that `calls_report_their_sweep` carries. Assumes nothing.
use Rattle.machine.proofs.report.calls_report_their_sweep.Goals as goal
use Rattle.machine.proofs.Reporting.{calls_reported}

pub returns : goal.returns
returns c = calls_reported
