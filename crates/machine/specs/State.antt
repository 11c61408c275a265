-- What a monitor holds, and what it is asked by. Assumes nothing.
use Rattle.std.specs.Prelude.{ℕ, ◌+◌, ◌-◌, ◌*◌, Bool, false, not, ◌&&◌, List, replicate, ◌==◌}
use Rattle.std.specs.Option.{unwrap_or}
use Rattle.register.specs.Lists.{first, changed}
use Rattle.register.specs.Codes.{same_code}
use Rattle.records.specs.Numbers.{same_right}
use Rattle.records.specs.declared.Badge.{Badge}
use Rattle.records.specs.declared.Lot.{Lot}
use Rattle.records.specs.declared.Room.{Room}
use Rattle.records.specs.declared.Access.{Access}
use Rattle.records.specs.declared.Situation.{Situation}
use Rattle.records.specs.declared.Right.{Right}
use Rattle.records.specs.declared.Right.TheVariants.{Read}
use Rattle.usage.specs.Books.{Books}

-- a rule by its two answers, and an order of revocation
pub record Policy : Type 0 where
  pub opening : Situation → ℕ
  pub staying : Situation → ℕ
  pub before : Access → Access → Bool

-- the records that questions are put about: the registers, the room and the open accesses
pub record Scene : Type 0 where
  pub badges : List Badge
  pub lots : List Lot
  pub room : Room
  pub accesses : List Access

pub record State : Type 0 where
  pub scene : Scene
  pub next_serial : ℕ
  pub books : Books

-- what a search that finds nothing gives; every use of one is behind a check that it finds something
abbrev pub no_badge : Badge
no_badge = record { number = 0; level = 0; role = 0; account = 0 }

abbrev pub no_lot : Lot
no_lot = record { code = replicate 8 0; level = 0; role = 0; stop = false; limit = 0; prices = replicate 4 0; heads = 0 }

abbrev pub no_access : Access
no_access = record {
  serial = 0;
  badge = 0;
  lot = replicate 8 0;
  right = Read;
  price = 0;
  account = 0;
  held = 0;
  used = 0;
  start = 0;
  last_use = 0;
  last_duty = 0;
}

-- by key
abbrev pub is_badge : ℕ → Badge → Bool
is_badge n b = b.number == n

abbrev pub is_lot : List ℕ → Lot → Bool
is_lot c l = same_code l.code c

abbrev pub is_access : ℕ → Access → Bool
is_access n a = a.serial == n

-- of a badge, at a lot, and of a badge at a lot under a right
abbrev pub of_badge : ℕ → Access → Bool
of_badge n a = a.badge == n

abbrev pub at_lot : List ℕ → Access → Bool
at_lot c a = same_code a.lot c

abbrev pub of_badge_at_lot : ℕ → List ℕ → Right → Access → Bool
of_badge_at_lot n c r a = of_badge n a && (at_lot c a && same_right a.right r)

abbrev pub badge_of : Scene → ℕ → Badge
badge_of s n = unwrap_or (first (is_badge n) s.badges) no_badge

abbrev pub lot_of : Scene → List ℕ → Lot
lot_of s c = unwrap_or (first (is_lot c) s.lots) no_lot

abbrev pub access_of : Scene → ℕ → Access
access_of s n = unwrap_or (first (is_access n) s.accesses) no_access

-- what a rule sees of an access
abbrev pub situation : Scene → Access → Situation
situation s a = record { badge = badge_of s a.badge; lot = lot_of s a.lot; room = s.room; access = a }

-- an access fails its staying question
abbrev pub fails : Policy → Scene → Access → Bool
fails p s a = not (p.staying (situation s a) == 0)

abbrev pub hold_of : Access → ℕ
hold_of a = a.held * a.price

abbrev pub charge_of : Access → ℕ
charge_of a = a.used * a.price

-- changes
abbrev pub with_badges : Scene → List Badge → Scene
with_badges s x = record { badges = x; lots = s.lots; room = s.room; accesses = s.accesses }

abbrev pub with_lots : Scene → List Lot → Scene
with_lots s x = record { badges = s.badges; lots = x; room = s.room; accesses = s.accesses }

abbrev pub with_room : Scene → Room → Scene
with_room s x = record { badges = s.badges; lots = s.lots; room = x; accesses = s.accesses }

abbrev pub with_accesses : Scene → List Access → Scene
with_accesses s x = record { badges = s.badges; lots = s.lots; room = s.room; accesses = x }

abbrev pub with_scene : State → Scene → State
with_scene s x = record { scene = x; next_serial = s.next_serial; books = s.books }

abbrev pub with_heads : ℕ → Lot → Lot
with_heads n l = record { code = l.code; level = l.level; role = l.role; stop = l.stop; limit = l.limit; prices = l.prices; heads = n }

-- one head more, and one fewer, at the lot of a code
abbrev pub raise : List ℕ → List Lot → List Lot
raise c lots = changed (is_lot c) (λ l. with_heads (l.heads + 1) l) lots

abbrev pub lower : List ℕ → List Lot → List Lot
lower c lots = changed (is_lot c) (λ l. with_heads (l.heads - 1) l) lots
