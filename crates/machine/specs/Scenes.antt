-- What each call but open, end and grant makes of the scene. Assumes nothing.
use Rattle.std.specs.Prelude.{ℕ, ◌+◌, cond, List, ℤ, ◌==◌, nat_lt}
use Rattle.register.specs.Lists.{some, without, changed, entered}
use Rattle.register.specs.Codes.{code_below}
use Rattle.records.specs.Numbers.{phase_of}
use Rattle.records.specs.declared.Access.{Access}
use Rattle.records.specs.declared.Badge.{Badge}
use Rattle.records.specs.declared.Lot.{Lot}
use Rattle.machine.specs.State.{Scene, is_badge, is_lot, is_access, with_badges, with_lots, with_room, with_accesses, with_heads}

abbrev pub after_use : ℕ → ℕ → Access → Access
after_use units clock a = record {
  serial = a.serial;
  badge = a.badge;
  lot = a.lot;
  right = a.right;
  price = a.price;
  account = a.account;
  held = a.held;
  used = a.used + units;
  start = a.start;
  last_use = clock;
  last_duty = a.last_duty;
}

abbrev pub after_duty : ℕ → Access → Access
after_duty clock a = record {
  serial = a.serial;
  badge = a.badge;
  lot = a.lot;
  right = a.right;
  price = a.price;
  account = a.account;
  held = a.held;
  used = a.used;
  start = a.start;
  last_use = a.last_use;
  last_duty = clock;
}

abbrev pub use_scene : ℕ → ℕ → Scene → Scene
use_scene serial units s = with_accesses s (changed (is_access serial) (after_use units s.room.clock) s.accesses)

abbrev pub duty_scene : ℕ → Scene → Scene
duty_scene serial s = with_accesses s (changed (is_access serial) (after_duty s.room.clock) s.accesses)

abbrev pub time_scene : ℕ → Scene → Scene
time_scene minutes s =
    with_room s (record { clock = s.room.clock + minutes; temperature = s.room.temperature; phase = s.room.phase })

abbrev pub room_scene : ℤ → ℕ → Scene → Scene
room_scene t phase s = with_room s (record { clock = s.room.clock; temperature = t; phase = phase_of phase })

-- a register with a record put in: in the place of the one with its key, or before the first with a larger key
abbrev pub put_badge : Badge → List Badge → List Badge
put_badge b badges =
    cond (some (is_badge b.number) badges)
    (changed (is_badge b.number) (λ _. b) badges)
    (entered (λ x. nat_lt b.number x.number) b badges)

-- a lot that is replaced keeps its heads
abbrev pub put_lot : Lot → List Lot → List Lot
put_lot l lots =
    cond (some (is_lot l.code) lots)
    (changed (is_lot l.code) (λ old. with_heads old.heads l) lots)
    (entered (λ x. code_below l.code x.code) l lots)

abbrev pub badge_scene : ℕ → ℕ → ℕ → ℕ → Scene → Scene
badge_scene n level role account s =
    with_badges s (put_badge (record { number = n; level = level; role = role; account = account }) s.badges)

abbrev pub lot_scene : List ℕ → ℕ → ℕ → ℕ → ℕ → List ℕ → Scene → Scene
lot_scene c level role stop limit prices s =
    with_lots s
    (put_lot (record { code = c; level = level; role = role; stop = (stop == 1); limit = limit; prices = prices; heads = 0 }) s.lots)

abbrev pub drop_badge_scene : ℕ → Scene → Scene
drop_badge_scene n s = with_badges s (without (is_badge n) s.badges)

abbrev pub drop_lot_scene : List ℕ → Scene → Scene
drop_lot_scene c s = with_lots s (without (is_lot c) s.lots)
