-- What the tables hold, in the machine's words. Assumes nothing.
use Rattle.std.specs.Prelude.{◌≡◌, ℕ, false, cond, [], Ok, Err, Result, Some, None, Option, ◌==◌}
use Rattle.register.specs.Lists.{first}
use Rattle.records.specs.Numbers.{refusal_number, returned_number}
use Rattle.records.specs.declared.Access.{Access}
use Rattle.records.specs.declared.Lot.{Lot}
use Rattle.records.specs.declared.Refusal.{Refusal}
use Rattle.usage.specs.Books.{Books, books_of}
use Rattle.machine.specs.State.{Scene, State, is_access}
use Rattle.machine.specs.Sweep.{strike}
use Rattle.tables.specs.declared.table.Tables.{Tables}

-- the registers, the room and the open accesses
abbrev pub scene_of : Tables → Scene
scene_of t = record { badges = t.badges; lots = t.lots; room = t.room; accesses = t.accesses }

-- the state of a monitor with these tables and a purse of these books
abbrev pub state_of : Tables → Books → State
state_of t books = record { scene = scene_of t; next_serial = t.next_serial; books = books }

-- the same with no books, which the checks of an open do not read
abbrev pub unbooked : Tables → State
unbooked t = state_of t (books_of [] [] [] [])

-- what checks leave that returned a number: the one where they passed, else the other
abbrev pub if_passed : {X : Type 0} → ℕ → X → X → X
if_passed returned after before = cond (returned == 0) after before

-- a call returns the number of the first check that applies; it leaves the scene changed where none does, and else as it
-- was, and gives no serial
pub record Changes (n : ℕ) (changed : Scene) (old : Tables) (r : Result (Unit {0}) Refusal) (new : Tables) : Type 0 where
  pub returned : returned_number r ≡ n
  pub scene : scene_of new ≡ if_passed (returned_number r) changed (scene_of old)
  pub serial : new.next_serial ≡ old.next_serial

-- checks that found a record: it, where none applies, else what they returned
abbrev pub Checked : {X : Type 0} → ℕ → X → Result X Refusal → Type 0
Checked n x (Ok y) = (n ≡ 0) × (y ≡ x)
Checked n x (Err e) = (refusal_number e ≡ n) × ((n == 0) ≡ false)

-- the heads of a lot, 0 where there is none
abbrev pub heads_of : Option Lot → ℕ
heads_of None = 0
heads_of (Some l) = l.heads

-- the scene once the access of a serial is struck, where it is open
abbrev pub struck_one : Option Access → Scene → Scene
struck_one None s = s
struck_one (Some a) s = strike a s

abbrev pub struck : ℕ → Scene → Scene
struck serial s = struck_one (first (is_access serial) s.accesses) s
