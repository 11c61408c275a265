-- What a monitor asks by, and what a call of it shows of the machine's outcome. Assumes nothing.
use Rattle.std.specs.Prelude.{◌≡◌, ℕ, ◌+◌, ◌<◌, ◌≤◌, Bool, true, List, ◌++◌, length, take, drop}
use Rattle.register.specs.Lists.{some}
use Rattle.records.specs.Numbers.{returned_number}
use Rattle.records.specs.declared.Access.{Access}
use Rattle.records.specs.declared.Answer.{Answer}
use Rattle.records.specs.declared.Call.{Call}
use Rattle.records.specs.declared.Line.{Line}
use Rattle.records.specs.declared.Situation.{Situation}
use Rattle.usage.specs.Books.{Books}
use Rattle.machine.specs.State.{Policy, State, is_lot}
use Rattle.machine.specs.Sweep.{Swept, enter}
use Rattle.machine.specs.Step.{Outcome, step, sheet_after}
use Rattle.tables.specs.Tables.{state_of}
use Rattle.monitor.specs.declared.Monitor.{Monitor}

-- a rule's two answers and an order
abbrev pub policy_of : (Situation → ℕ) → (Situation → ℕ) → (Access → Access → Bool) → Policy
policy_of opening staying before = record { opening = opening; staying = staying; before = before }

-- what a monitor asks by, from what its rule and its order mean, and its state, from what its purse means
abbrev pub policy_by : {R O P : Type 0} → (R → Situation → ℕ) → (R → Situation → ℕ) → (O → Access → Access → Bool) → Monitor R O P → Policy
policy_by opening staying before m = policy_of (opening m.policy.rule) (staying m.policy.rule) (before m.policy.order)

abbrev pub state_by : {R O P : Type 0} → (P → Books) → Monitor R O P → State
state_by books m = state_of m.tables (books m.purse)

-- the four numbers of an answer, the state left and the whole sheet are the outcome's
pub record Answered (o : Outcome) (a : Answer) (after : State) (sheet new_sheet : List Line) : Type 0 where
  pub returned : returned_number a.returned ≡ o.returned
  pub lines : a.lines ≡ length o.lines
  pub serial : a.serial ≡ o.serial
  pub questions : a.questions ≡ o.questions
  pub state : after ≡ o.after
  pub written : new_sheet ≡ sheet_after o.lines sheet

-- a call of a monitor makes an outcome: it answers, leaves and writes what the outcome says, and keeps the rule and the order
pub record Makes {R O P : Type 0} (books : P → Books) (o : Outcome) (old : Monitor R O P) (sheet : List Line) (a : Answer) (new : Monitor R O P) (new_sheet : List Line) : Type 0 where
  pub step : Answered o a (state_by books new) sheet new_sheet
  pub policy : new.policy ≡ old.policy

-- the outcome is the machine's step
abbrev pub Steps : {R O P : Type 0} → (R → Situation → ℕ) → (R → Situation → ℕ) → (O → Access → Access → Bool) → (P → Books) → Call →
    Monitor R O P → List Line → Answer → Monitor R O P → List Line → Type 0
Steps opening staying before books call old sheet a new new_sheet =
    Makes books (step (policy_by opening staying before old) (state_by books old) (length sheet) call) old sheet a new new_sheet

-- an access that an open asked for can be opened: there are a sheet, a place, a serial and the lot
pub record CanOpen (a : Access) (s : State) (sheet : List Line) : Type 0 where
  pub room : 65 ≤ length sheet
  pub place : length s.scene.accesses < 64
  pub serial : s.next_serial ≤ 1000000000
  pub next : a.serial ≡ s.next_serial
  pub lot : some (is_lot a.lot) s.scene.lots ≡ true

-- a sheet with lines written from a place on
abbrev pub written_from : ℕ → List Line → List Line → List Line
written_from from lines sheet = take from sheet ++ (lines ++ drop (from + length lines) sheet)

-- a sweep's two numbers, the state left and the whole sheet, its lines written from a place on
pub record SweptBy (w : Swept) (from : ℕ) (r : ℕ × ℕ) (after : State) (sheet new_sheet : List Line) : Type 0 where
  pub lines : r.0 ≡ length w.lines
  pub questions : r.1 ≡ w.questions
  pub state : after ≡ w.after
  pub written : new_sheet ≡ written_from from w.lines sheet

-- an access entered, and the next serial with it
abbrev pub entered_under : Access → State → State
entered_under a s = record { scene = enter a s.scene; next_serial = s.next_serial + 1; books = s.books }
