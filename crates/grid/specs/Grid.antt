-- What a rule's opening question answers, for one lot and one right, of the badge of every level and role. Assumes nothing.
use Rattle.std.specs.Prelude.{ℕ, List, map, sum_by, count_by, nat_eq}
use Rattle.std.specs.List.{range_with_len}
use Rattle.records.specs.declared.Badge.{Badge}
use Rattle.records.specs.declared.Lot.{Lot}
use Rattle.records.specs.declared.Access.{Access}
use Rattle.records.specs.declared.Right.{Right}
use Rattle.records.specs.declared.Situation.{Situation}
use Rattle.records.specs.Parts.{new_room, price_of}

-- the badge of a level and a role
abbrev pub badge_of : ℕ → ℕ → Badge
badge_of level role = record { number = 1; level = level; role = role; account = 0 }

-- the access that the badge asks for: it holds and has used nothing
abbrev pub wanted : Lot → Right → Access
wanted lot right = record {
  serial = 1;
  badge = 1;
  lot = lot.code;
  right = right;
  price = price_of lot right;
  account = 0;
  held = 0;
  used = 0;
  start = 0;
  last_use = 0;
  last_duty = 0;
}

-- what the rule sees
abbrev pub asked : Lot → Right → ℕ → ℕ → Situation
asked lot right level role = record { badge = badge_of level role; lot = lot; room = new_room; access = wanted lot right }

-- the answer at a level and a role
abbrev pub answer_at : (Situation → ℕ) → Lot → Right → ℕ → ℕ → ℕ
answer_at opening lot right level role = opening (asked lot right level role)

-- the answers at a level, by role
unfoldable pub row_of : (Situation → ℕ) → Lot → Right → ℕ → List ℕ
row_of opening lot right level = map (answer_at opening lot right level) (range_with_len 0 16)

-- the rows, by level
unfoldable pub rows_of : (Situation → ℕ) → Lot → Right → List (List ℕ)
rows_of opening lot right = map (row_of opening lot right) (range_with_len 0 16)

-- how many answers of a row pass
abbrev pub passing_in : List ℕ → ℕ
passing_in row = count_by (λ answer. nat_eq answer 0) row

-- how many answers of all rows pass
abbrev pub passing_of : List (List ℕ) → ℕ
passing_of rows = sum_by passing_in rows
