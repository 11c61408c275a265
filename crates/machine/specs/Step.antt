-- The machine: what each call returns, writes and leaves. Assumes nothing.
use Rattle.std.specs.Prelude.{ℕ, ◌+◌, cond, List, [], ◌∷◌, ◌++◌, length, drop, Some, None, Option, ◌==◌}
use Rattle.records.specs.Numbers.{right_of}
use Rattle.records.specs.declared.Access.{Access}
use Rattle.records.specs.declared.Line.{Line}
use Rattle.records.specs.declared.Kind.TheVariants.{Opened, Denied, Ended}
use Rattle.records.specs.declared.Call.{Call}
use Rattle.records.specs.declared.Call.TheVariants.{Open, Use, Duty, End, Time, SetRoom, Grant, SetBadge, SetLot, DropBadge, DropLot}
use Rattle.usage.specs.Books.{hold_returns, hold_leaves, add_leaves}
use Rattle.machine.specs.State.{Policy, State, access_of, situation, hold_of, with_scene}
use Rattle.machine.specs.Lines.{asked, opening_line, closing_line}
use Rattle.machine.specs.Sweep.{Swept, enter, close, sweep}
use Rattle.machine.specs.Scenes.{use_scene, duty_scene, time_scene, room_scene, badge_scene, lot_scene, drop_badge_scene, drop_lot_scene}
use Rattle.machine.specs.Checks.{checks, first_applying}

-- what a call answers, the lines that it writes and the state that it leaves
pub record Outcome : Type 0 where
  pub returned : ℕ
  pub lines : List Line
  pub serial : ℕ
  pub questions : ℕ
  pub after : State

abbrev pub refused : ℕ → State → Outcome
refused n s = record { returned = n; lines = []; serial = 0; questions = 0; after = s }

-- the access that an open asks for
abbrev pub asked_for : State → ℕ → List ℕ → ℕ → ℕ → Access
asked_for s n c r units = asked s.scene n c (right_of r) units s.next_serial

-- a denial returns a number and writes one line
pub record Denial : Type 0 where
  pub returned : ℕ
  pub line : Line

abbrev pub denial_of : ℕ → ℕ → ℕ → Access → Denial
denial_of returned minute cause a = record { returned = returned; line = opening_line Denied 0 minute cause a }

-- by the rule's answer, then by what the purse would return
abbrev pub decided : ℕ → ℕ → ℕ → Access → Option Denial
decided answer credit minute a =
    cond (answer == 0) (cond (credit == 0) None (Some (denial_of 10 minute 256 a))) (Some (denial_of 9 minute answer a))

abbrev pub open_denial : Policy → State → Access → Option Denial
open_denial p s a =
    decided (p.opening (situation s.scene a)) (hold_returns a.account (hold_of a) s.books) s.scene.room.clock a

-- only an open can be denied
abbrev pub denial : Policy → State → Call → Option Denial
denial p s (Open n c r units) = open_denial p s (asked_for s n c r units)
denial p s (Use serial units) = None
denial p s (Duty serial) = None
denial p s (End serial) = None
denial p s (Time minutes) = None
denial p s (SetRoom t phase) = None
denial p s (Grant account amount) = None
denial p s (SetBadge n level role account) = None
denial p s (SetLot c level role stop limit prices) = None
denial p s (DropBadge n) = None
denial p s (DropLot c) = None

-- of an accepted call: the lines that it writes itself,
abbrev pub written : State → Call → List Line
written s (Open n c r units) = opening_line Opened s.next_serial s.scene.room.clock 0 (asked_for s n c r units) ∷ []
written s (Use serial units) = []
written s (Duty serial) = []
written s (End serial) = closing_line Ended s.scene.room.clock 0 (access_of s.scene serial) ∷ []
written s (Time minutes) = []
written s (SetRoom t phase) = []
written s (Grant account amount) = []
written s (SetBadge n level role account) = []
written s (SetLot c level role stop limit prices) = []
written s (DropBadge n) = []
written s (DropLot c) = []

-- the serial that it answers,
abbrev pub given : State → Call → ℕ
given s (Open n c r units) = s.next_serial
given s (Use serial units) = 0
given s (Duty serial) = 0
given s (End serial) = 0
given s (Time minutes) = 0
given s (SetRoom t phase) = 0
given s (Grant account amount) = 0
given s (SetBadge n level role account) = 0
given s (SetLot c level role stop limit prices) = 0
given s (DropBadge n) = 0
given s (DropLot c) = 0

abbrev pub opened : Access → State → State
opened a s = record {
  scene = enter a s.scene;
  next_serial = s.next_serial + 1;
  books = hold_leaves a.account (hold_of a) s.books;
}

abbrev pub with_grant : ℕ → ℕ → State → State
with_grant account amount s = record { scene = s.scene; next_serial = s.next_serial; books = add_leaves account amount s.books }

-- and the state that it leaves to the sweep
abbrev pub moved : State → Call → State
moved s (Open n c r units) = opened (asked_for s n c r units) s
moved s (Use serial units) = with_scene s (use_scene serial units s.scene)
moved s (Duty serial) = with_scene s (duty_scene serial s.scene)
moved s (End serial) = close (access_of s.scene serial) s
moved s (Time minutes) = with_scene s (time_scene minutes s.scene)
moved s (SetRoom t phase) = with_scene s (room_scene t phase s.scene)
moved s (Grant account amount) = with_grant account amount s
moved s (SetBadge n level role account) = with_scene s (badge_scene n level role account s.scene)
moved s (SetLot c level role stop limit prices) = with_scene s (lot_scene c level role stop limit prices s.scene)
moved s (DropBadge n) = with_scene s (drop_badge_scene n s.scene)
moved s (DropLot c) = with_scene s (drop_lot_scene c s.scene)

-- an accepted call sweeps
abbrev pub accepted : ℕ → List Line → Swept → Outcome
accepted serial lines w = record {
  returned = 0;
  lines = lines ++ w.lines;
  serial = serial;
  questions = w.questions;
  after = w.after;
}

abbrev pub unless_denied : Option Denial → State → Outcome → Outcome
unless_denied None s o = o
unless_denied (Some d) s o = record { returned = d.returned; lines = d.line ∷ []; serial = 0; questions = 0; after = s }

abbrev pub unless_refused : ℕ → State → Outcome → Outcome
unless_refused n s o = cond (n == 0) o (refused n s)

abbrev pub step : Policy → State → ℕ → Call → Outcome
step p s sheet call =
    unless_refused (first_applying (checks s sheet call)) s
    (unless_denied (denial p s call) s
    (accepted (given s call) (written s call) (sweep p (moved s call))))

-- the lines written stand first on the sheet, and the rest of it stays
abbrev pub sheet_after : List Line → List Line → List Line
sheet_after lines sheet = lines ++ drop (length lines) sheet
