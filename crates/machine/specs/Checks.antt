-- What refuses a call: its checks, by rising number. Assumes nothing.
use Rattle.std.specs.Prelude.{ℕ, ◌+◌, Bool, true, cond, not, ◌&&◌, List, [], ◌∷◌, ◌++◌, length, ℤ, ◌==◌, nat_le, nat_lt}
use Rattle.register.specs.Lists.{some}
use Rattle.records.specs.Numbers.{right_of}
use Rattle.records.specs.declared.Call.{Call}
use Rattle.records.specs.declared.Call.TheVariants.{Open, Use, Duty, End, Time, SetRoom, Grant, SetBadge, SetLot, DropBadge, DropLot}
use Rattle.usage.specs.Books.{Books, add_returns}
use Rattle.machine.specs.State.{Scene, State, is_badge, is_lot, is_access, of_badge, at_lot, of_badge_at_lot, access_of}
use Rattle.records.specs.Ranges.{badge_number_fits, code_fits, serial_fits, attribute_fits, units_fit, prices_fit, limit_fits, clock_fits, temperature_fits}

-- the number of the first check that applies, 0 where none does
abbrev pub first_applying : List (ℕ × Bool) → ℕ
first_applying [] = 0
first_applying (c ∷ cs) = cond c.1 c.0 (first_applying cs)

-- each call's, at a sheet of so many lines
abbrev pub open_checks : State → ℕ → ℕ → List ℕ → ℕ → ℕ → List (ℕ × Bool)
open_checks s sheet n c r units =
    (1, nat_lt sheet 65)
    ∷ (2, not (badge_number_fits n && (code_fits c && (nat_le r 3 && units_fit units))))
    ∷ (3, not (some (is_badge n) s.scene.badges))
    ∷ (4, not (some (is_lot c) s.scene.lots))
    ∷ (6, some (of_badge_at_lot n c (right_of r)) s.scene.accesses)
    ∷ (7, nat_le 64 (length s.scene.accesses))
    ∷ (8, nat_lt 1000000000 s.next_serial)
    ∷ []

abbrev pub access_checks : Scene → ℕ → ℕ → Bool → List (ℕ × Bool)
access_checks s sheet serial fits =
    (1, nat_lt sheet 65) ∷ (2, not (serial_fits serial && fits)) ∷ (5, not (some (is_access serial) s.accesses)) ∷ []

abbrev pub use_checks : Scene → ℕ → ℕ → ℕ → List (ℕ × Bool)
use_checks s sheet serial units =
    access_checks s sheet serial (units_fit units)
    ++ ((13, nat_lt (access_of s serial).held ((access_of s serial).used + units)) ∷ [])

abbrev pub time_checks : Scene → ℕ → ℕ → List (ℕ × Bool)
time_checks s sheet minutes =
    (1, nat_lt sheet 65) ∷ (2, not (clock_fits minutes)) ∷ (15, not (clock_fits (s.room.clock + minutes))) ∷ []

abbrev pub room_checks : ℕ → ℤ → ℕ → List (ℕ × Bool)
room_checks sheet t phase = (1, nat_lt sheet 65) ∷ (2, not (temperature_fits t && nat_le phase 1)) ∷ []

-- the purse's own refusal of a grant, 2 or 14
abbrev pub grant_checks : Books → ℕ → ℕ → ℕ → List (ℕ × Bool)
grant_checks books sheet account amount =
    (1, nat_lt sheet 65) ∷ (add_returns account amount books, not (add_returns account amount books == 0)) ∷ []

abbrev pub badge_checks : Scene → ℕ → ℕ → ℕ → ℕ → ℕ → List (ℕ × Bool)
badge_checks s sheet n level role account =
    (1, nat_lt sheet 65)
    ∷ (2, not (badge_number_fits n && (attribute_fits level && (attribute_fits role && attribute_fits account))))
    ∷ (11, not (some (is_badge n) s.badges) && nat_le 64 (length s.badges))
    ∷ []

abbrev pub lot_checks : Scene → ℕ → List ℕ → ℕ → ℕ → ℕ → ℕ → List ℕ → List (ℕ × Bool)
lot_checks s sheet c level role stop limit prices =
    (1, nat_lt sheet 65)
    ∷ (2, not (code_fits c && (attribute_fits level && (attribute_fits role && (nat_le stop 1 && (limit_fits limit && prices_fit prices))))))
    ∷ (11, not (some (is_lot c) s.lots) && nat_le 64 (length s.lots))
    ∷ []

abbrev pub drop_badge_checks : Scene → ℕ → ℕ → List (ℕ × Bool)
drop_badge_checks s sheet n =
    (1, nat_lt sheet 65)
    ∷ (2, not (badge_number_fits n))
    ∷ (3, not (some (is_badge n) s.badges))
    ∷ (12, some (of_badge n) s.accesses)
    ∷ []

abbrev pub drop_lot_checks : Scene → ℕ → List ℕ → List (ℕ × Bool)
drop_lot_checks s sheet c =
    (1, nat_lt sheet 65) ∷ (2, not (code_fits c)) ∷ (4, not (some (is_lot c) s.lots)) ∷ (12, some (at_lot c) s.accesses) ∷ []

abbrev pub checks : State → ℕ → Call → List (ℕ × Bool)
checks s sheet (Open n c r units) = open_checks s sheet n c r units
checks s sheet (Use serial units) = use_checks s.scene sheet serial units
checks s sheet (Duty serial) = access_checks s.scene sheet serial true
checks s sheet (End serial) = access_checks s.scene sheet serial true
checks s sheet (Time minutes) = time_checks s.scene sheet minutes
checks s sheet (SetRoom t phase) = room_checks sheet t phase
checks s sheet (Grant account amount) = grant_checks s.books sheet account amount
checks s sheet (SetBadge n level role account) = badge_checks s.scene sheet n level role account
checks s sheet (SetLot c level role stop limit prices) = lot_checks s.scene sheet c level role stop limit prices
checks s sheet (DropBadge n) = drop_badge_checks s.scene sheet n
checks s sheet (DropLot c) = drop_lot_checks s.scene sheet c
