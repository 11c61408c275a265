-- The journal of a shift, and its replay: what a reader of the calls, of what they returned and of their lines can know.
-- Assumes nothing.
use Rattle.std.specs.Prelude.{ℕ, Bool, true, false, cond, List, [], ◌∷◌, ◌++◌, Some, None, Option, ◌==◌}
use Rattle.register.specs.Lists.{first}
use Rattle.records.specs.Numbers.{right_of}
use Rattle.records.specs.Parts.{new_room}
use Rattle.records.specs.declared.Access.{Access}
use Rattle.records.specs.declared.Badge.{Badge}
use Rattle.records.specs.declared.Lot.{Lot}
use Rattle.records.specs.declared.Line.{Line}
use Rattle.records.specs.declared.Kind.{Kind}
use Rattle.records.specs.declared.Kind.TheVariants.{Opened, Denied, Ended, Revoked}
use Rattle.records.specs.declared.Call.{Call}
use Rattle.records.specs.declared.Call.TheVariants.{Open, Use, Duty, End, Time, SetRoom, Grant, SetBadge, SetLot, DropBadge, DropLot}
use Rattle.machine.specs.State.{Scene, is_access}
use Rattle.machine.specs.Lines.{asked}
use Rattle.machine.specs.Sweep.{enter, strike}
use Rattle.machine.specs.Scenes.{use_scene, duty_scene, time_scene, room_scene, badge_scene, lot_scene, drop_badge_scene, drop_lot_scene}

-- a call with its fields, what it returned, and the lines that it wrote
pub record Entry : Type 0 where
  pub call : Call
  pub returned : ℕ
  pub lines : List Line

-- what an accepted call changes by itself: accesses enter and leave, and heads change, by lines alone
abbrev pub effect : Call → Scene → Scene
effect (Open n c r units) s = s
effect (Use serial units) s = use_scene serial units s
effect (Duty serial) s = duty_scene serial s
effect (End serial) s = s
effect (Time minutes) s = time_scene minutes s
effect (SetRoom t phase) s = room_scene t phase s
effect (Grant account amount) s = s
effect (SetBadge n level role account) s = badge_scene n level role account s
effect (SetLot c level role stop limit prices) s = lot_scene c level role stop limit prices s
effect (DropBadge n) s = drop_badge_scene n s
effect (DropLot c) s = drop_lot_scene c s

-- an open enters the access that it asked for, under a serial; no other call enters one
abbrev pub entered_by : Call → ℕ → Scene → Scene
entered_by (Open n c r units) serial s = enter (asked s n c (right_of r) units serial) s
entered_by (Use _ _) serial s = s
entered_by (Duty _) serial s = s
entered_by (End _) serial s = s
entered_by (Time _) serial s = s
entered_by (SetRoom _ _) serial s = s
entered_by (Grant _ _) serial s = s
entered_by (SetBadge _ _ _ _) serial s = s
entered_by (SetLot _ _ _ _ _ _) serial s = s
entered_by (DropBadge _) serial s = s
entered_by (DropLot _) serial s = s

-- an access is struck, where there is one
abbrev pub struck : Option Access → Scene → Scene
struck None s = s
struck (Some a) s = strike a s

-- an opening line enters the access asked for, and a closing line strikes the access of its serial
abbrev pub joined_as : Kind → Call → ℕ → Scene → Scene
joined_as Opened call serial s = entered_by call serial s
joined_as Denied call serial s = s
joined_as Ended call serial s = struck (first (is_access serial) s.accesses) s
joined_as Revoked call serial s = struck (first (is_access serial) s.accesses) s

-- one line joins, and lines join in turn
abbrev pub joined : Call → Line → Scene → Scene
joined call l s = joined_as l.kind call l.serial s

abbrev pub all_joined : Call → List Line → Scene → Scene
all_joined call [] s = s
all_joined call (l ∷ ls) s = all_joined call ls (joined call l s)

-- an entry before its lines, and with them
abbrev pub before_lines : Entry → Scene → Scene
before_lines e s = cond (e.returned == 0) (effect e.call s) s

abbrev pub replay_entry : Entry → Scene → Scene
replay_entry e s = all_joined e.call e.lines (before_lines e s)

abbrev pub replay : List Entry → Scene → Scene
replay [] s = s
replay (e ∷ es) s = replay es (replay_entry e s)

-- the scene of a new monitor: its registers, a new room and no access
abbrev pub new_scene : List Badge → List Lot → Scene
new_scene badges lots = record { badges = badges; lots = lots; room = new_room; accesses = [] }

-- all the lines of a journal
abbrev pub lines_of : List Entry → List Line
lines_of [] = []
lines_of (e ∷ es) = e.lines ++ lines_of es

-- lines by kind
abbrev pub is_opening : Kind → Bool
is_opening Opened = true
is_opening Denied = false
is_opening Ended = false
is_opening Revoked = false

abbrev pub is_closing : Kind → Bool
is_closing Opened = false
is_closing Denied = false
is_closing Ended = true
is_closing Revoked = true

abbrev pub is_revoking : Kind → Bool
is_revoking Opened = false
is_revoking Denied = false
is_revoking Ended = false
is_revoking Revoked = true

abbrev pub opens : Line → Bool
opens l = is_opening l.kind

abbrev pub closes : Line → Bool
closes l = is_closing l.kind

abbrev pub revokes : Line → Bool
revokes l = is_revoking l.kind
