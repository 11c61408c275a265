-- Every number of every record is in its range, and units used never exceed units held. Assumes nothing.
use Rattle.std.specs.Prelude.{◌≡◌, ℕ, ◌≤◌, true, List, length}
use Rattle.register.specs.Lists.{In}
use Rattle.records.specs.declared.Access.{Access}
use Rattle.records.specs.declared.Badge.{Badge}
use Rattle.records.specs.declared.Lot.{Lot}
use Rattle.records.specs.declared.Room.{Room}
use Rattle.machine.specs.State.{Policy, State}
use Rattle.records.specs.Ranges.{badge_number_fits, code_fits, serial_fits, attribute_fits, units_fit, prices_fit, limit_fits, clock_fits, temperature_fits}
use Rattle.machine.specs.Journal.{Entry}
use Rattle.machine.specs.Law.{New, Shift}
use Rattle.machine.specs.Rising.{RisingLots}

pub record BadgeFits (b : Badge) : Type 0 where
  pub number : badge_number_fits b.number ≡ true
  pub level : attribute_fits b.level ≡ true
  pub role : attribute_fits b.role ≡ true
  pub account : attribute_fits b.account ≡ true

-- heads are at most the 64 accesses that can be open
pub record LotFits (l : Lot) : Type 0 where
  pub code : code_fits l.code ≡ true
  pub level : attribute_fits l.level ≡ true
  pub role : attribute_fits l.role ≡ true
  pub limit : limit_fits l.limit ≡ true
  pub prices : prices_fit l.prices ≡ true
  pub heads : l.heads ≤ 64

pub record RoomFits (r : Room) : Type 0 where
  pub clock : clock_fits r.clock ≡ true
  pub temperature : temperature_fits r.temperature ≡ true

-- an access's minutes are at most the room's clock
pub record AccessFits (clock : ℕ) (a : Access) : Type 0 where
  pub serial : serial_fits a.serial ≡ true
  pub badge : badge_number_fits a.badge ≡ true
  pub lot : code_fits a.lot ≡ true
  pub price : a.price ≤ 1000
  pub account : attribute_fits a.account ≡ true
  pub held : units_fit a.held ≡ true
  pub used : a.used ≤ a.held
  pub start : a.start ≤ clock
  pub last_use : a.last_use ≤ clock
  pub last_duty : a.last_duty ≤ clock

pub record RegistersFit (badges : List Badge) (lots : List Lot) : Type 0 where
  pub badges_fit : (b : Badge) → In b badges → BadgeFits b
  pub lots_fit : (l : Lot) → In l lots → LotFits l
  pub few_badges : length badges ≤ 64
  pub few_lots : length lots ≤ 64

pub record Fitting (s : State) : Type 0 where
  pub registers : RegistersFit s.scene.badges s.scene.lots
  pub room : RoomFits s.scene.room
  pub accesses : (a : Access) → In a s.scene.accesses → AccessFits s.scene.room.clock a
  pub few_accesses : length s.scene.accesses ≤ 64
  pub next_serial : s.next_serial ≤ 1000000001

-- after any shift from new, where the registers fit, the lots rise by code and had no heads, and the first serial fits
abbrev pub ShiftsFitting : Type 0
ShiftsFitting = (p : Policy) (badges : List Badge) (lots : List Lot) (first last : State) (es : List Entry) →
    RegistersFit badges lots → RisingLots lots → ((l : Lot) → In l lots → l.heads ≡ 0) → serial_fits first.next_serial ≡ true →
    New badges lots first → Shift p first es last → Fitting last
