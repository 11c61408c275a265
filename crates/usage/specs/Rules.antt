-- What the rules answer of a situation: 0 for pass, else the number of the rule that fails. Assumes nothing.
use Rattle.std.specs.Prelude.{ℕ, ◌-◌, Bool, cond, not, ◌&&◌, Ok, Err, Result, ℤ, ◌==◌, int_le, nat_le}
use Rattle.std.specs.Int.NonZero.{non_zero_u8_get}
use Rattle.records.specs.declared.Situation.{Situation}
use Rattle.records.specs.declared.Right.{Right}
use Rattle.records.specs.Numbers.{same_right, phase_number}
use Rattle.usage.specs.Roles.{at_or_above}
use Rattle.usage.specs.declared.rule.Failed.{Failed}

-- the number that stands for an answer
abbrev pub answer_number : Result (Unit {0}) Failed → ℕ
answer_number (Ok _) = 0
answer_number (Err failed) = non_zero_u8_get failed.0

abbrev pub answer : Bool → ℕ → ℕ
answer passes number = cond passes 0 number

abbrev pub level_passes : Situation → Bool
level_passes s = nat_le s.lot.level s.badge.level

abbrev pub level_answer : ℕ → Situation → ℕ
level_answer number s = answer (level_passes s) number

abbrev pub role_passes : Situation → Bool
role_passes s = at_or_above s.badge.role s.lot.role

abbrev pub role_answer : ℕ → Situation → ℕ
role_answer number s = answer (role_passes s) number

abbrev pub stop_passes : Situation → Bool
stop_passes s = not s.lot.stop

abbrev pub stop_answer : ℕ → Situation → ℕ
stop_answer number s = answer (stop_passes s) number

abbrev pub heads_passes : Situation → Bool
heads_passes s = nat_le s.lot.heads s.lot.limit

abbrev pub heads_answer : ℕ → Situation → ℕ
heads_answer number s = answer (heads_passes s) number

-- at work, and within the two temperatures
abbrev pub room_passes : ℤ → ℤ → Situation → Bool
room_passes lowest highest s =
    phase_number s.room.phase == 0 && (int_le lowest s.room.temperature && int_le s.room.temperature highest)

abbrev pub room_answer : ℤ → ℤ → ℕ → Situation → ℕ
room_answer lowest highest number s = answer (room_passes lowest highest s) number

-- minutes since the last duty; a difference below nothing is 0
abbrev pub duty_passes : ℕ → Situation → Bool
duty_passes interval s = nat_le (s.room.clock - s.access.last_duty) interval

abbrev pub duty_answer : ℕ → ℕ → Situation → ℕ
duty_answer interval number s = answer (duty_passes interval s) number

-- the first part's failure, else the second part's answer
abbrev pub both_answer : ℕ → ℕ → ℕ
both_answer first second = cond (first == 0) second first

-- the part's answer under one right, 0 under the others
abbrev pub for_answer : Right → Situation → ℕ → ℕ
for_answer right s part = cond (same_right right s.access.right) part 0

-- the numbers that a rule can have, and can be made with
abbrev pub rule_number_fits : ℕ → Bool
rule_number_fits n = nat_le 1 n && nat_le n 255

abbrev pub interval_fits : ℕ → Bool
interval_fits n = nat_le n 1440
