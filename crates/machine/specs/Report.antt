-- What a call reports of its sweep, and how much it writes. Assumes nothing.
use Rattle.std.specs.Prelude.{◌≡◌, ℕ, ◌+◌, ◌-◌, ◌*◌, ◌/◌, ◌≤◌, cond, List, [], ◌∷◌, length, ◌≢◌}
use Rattle.records.specs.declared.Badge.{Badge}
use Rattle.records.specs.declared.Lot.{Lot}
use Rattle.records.specs.declared.Line.{Line}
use Rattle.records.specs.declared.Call.{Call}
use Rattle.machine.specs.State.{Policy, State}
use Rattle.machine.specs.Step.{Outcome, step}
use Rattle.machine.specs.Journal.{Entry, revokes}
use Rattle.machine.specs.Law.{New, Shift}

abbrev pub revocations : List Line → ℕ
revocations [] = 0
revocations (l ∷ ls) = cond (revokes l) 1 0 + revocations ls

-- the staying questions put where k accesses were open before the sweep and v were revoked
abbrev pub questions_of : ℕ → ℕ → ℕ
questions_of k v = ((v + 1) * k) - ((v * (v + 1)) / 2)

-- before the sweep there were those still open and those revoked
pub record Reported (o : Outcome) : Type 0 where
  pub counted : o.returned ≡ 0 →
      o.questions ≡ questions_of (length o.after.scene.accesses + revocations o.lines) (revocations o.lines)
  pub uncounted : (o.returned ≢ 0) → o.questions ≡ 0
  pub lines_fit : length o.lines ≤ 65
  pub accesses_fit : length o.after.scene.accesses ≤ 64

-- every call after any shift from new
abbrev pub CallsReported : Type 0
CallsReported = (p : Policy) (badges : List Badge) (lots : List Lot) (first last : State) (es : List Entry) →
    New badges lots first → Shift p first es last → (sheet : ℕ) (call : Call) → Reported (step p last sheet call)
