-- Every shift from new is lawful. Assumes nothing.
use Rattle.machine.specs.Law.{ShiftsLawful}
use Rattle.machine.proofs.Replay.{records_agree, open_pass}
use Rattle.machine.proofs.Revoked.{revoked_justly}
use Rattle.machine.proofs.Called.{lines_called_for}
use Rattle.machine.proofs.Credit.{opened_once, closed_once, opened_first, open_not_closed, not_closed_open, homes_kept, holds_settle, credit}

pub shifts_lawful : ShiftsLawful
shifts_lawful p ordered badges lots first last es new shift = record {
  open_pass = open_pass new shift;
  revoked_justly = revoked_justly ordered new shift;
  lines_called_for = lines_called_for shift;
  opened_once = opened_once p badges lots first last es new shift;
  closed_once = closed_once p badges lots first last es new shift;
  opened_first = opened_first p badges lots first last es new shift;
  records_agree = records_agree new shift;
  open_not_closed = open_not_closed p badges lots first last es new shift;
  not_closed_open = not_closed_open p badges lots first last es new shift;
  homes_kept = homes_kept p badges lots first last es new shift;
  holds_settle = holds_settle p badges lots first last es new shift;
  credit = credit p badges lots first last es new shift;
}
