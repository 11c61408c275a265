-- A worked day and every refusal, as the machine answers them. Assumes nothing.
use Rattle.std.specs.Prelude.{◌≡◌, ℕ, List, [], ◌∷◌, map, replicate, pos, codes}
use Rattle.records.specs.Numbers.{kind_number, right_number}
use Rattle.records.specs.declared.Line.{Line}
use Rattle.records.specs.declared.Call.{Call}
use Rattle.records.specs.declared.Call.TheVariants.{Open, Use, Time, SetRoom, Grant, SetBadge, SetLot, DropBadge, DropLot}
use Rattle.usage.specs.Books.{books_of, own_homes}
use Rattle.usage.specs.Orders.{earliest_start}
use Rattle.usage.specs.Rules.{both_answer, stop_answer, heads_answer, duty_answer}
use Rattle.machine.specs.State.{Policy, State, no_badge, no_access, with_badges, with_accesses, with_scene}
use Rattle.machine.specs.Step.{Outcome, step}
use Rattle.machine.specs.Runs.{outcomes, after_calls}
use Rattle.machine.specs.Journal.{new_scene}

-- Both (Stop 3, Both (Heads 4, Duty 5 with interval 30)), the earliest start first
abbrev pub line_policy : Policy
line_policy = record {
  opening = λ s. both_answer (stop_answer 3 s) 0;
  staying = λ s. both_answer (stop_answer 3 s) (both_answer (heads_answer 4 s) (duty_answer 30 5 s));
  before = earliest_start;
}

-- a new monitor with empty registers, serial 1 and the own purse at nothing
abbrev pub new_state : State
new_state = record {
  scene = new_scene [] [];
  next_serial = 1;
  books = books_of own_homes (replicate 16 0) (replicate 16 0) (replicate 16 0);
}

-- two cutters at a lot with room for one
abbrev pub day : List Call
day =
    SetBadge 7 5 3 0
    ∷ SetLot (codes "PIG00417") 2 13 0 1 (0 ∷ 0 ∷ 4 ∷ 9 ∷ [])
    ∷ Grant 0 100
    ∷ Open 7 (codes "PIG00417") 2 10
    ∷ SetBadge 8 5 1 0
    ∷ Time 5
    ∷ Open 8 (codes "PIG00417") 2 10
    ∷ []

-- a line in numbers: kind, serial, badge, right, minute, cause, amount, units, account
abbrev pub line_numbers : Line → List ℕ
line_numbers l =
    kind_number l.kind ∷ l.serial ∷ l.badge ∷ right_number l.right ∷ l.minute ∷ l.cause ∷ l.amount ∷ l.units ∷ l.account ∷ []

-- what a call answers, returned, serial and questions, and then its lines
abbrev pub outcome_numbers : Outcome → List (List ℕ)
outcome_numbers o = (o.returned ∷ o.serial ∷ o.questions ∷ []) ∷ map line_numbers o.lines

-- the second access is open, with 60 left; and states in which a number has run out
abbrev pub day_end : State
day_end = after_calls line_policy new_state day

abbrev pub full_of_accesses : State
full_of_accesses = with_scene day_end (with_accesses day_end.scene (replicate 64 no_access))

abbrev pub full_of_badges : State
full_of_badges = with_scene day_end (with_badges day_end.scene (replicate 64 no_badge))

abbrev pub last_serial_given : State
last_serial_given = record { scene = day_end.scene; next_serial = 1000000001; books = day_end.books }

-- a call at a state and a sheet: its outcome in numbers
abbrev pub tried : State → ℕ → Call → List (List ℕ)
tried s sheet call = outcome_numbers (step line_policy s sheet call)

-- a call that answers what it returned alone, and writes nothing
abbrev pub returns : ℕ → List (List ℕ)
returns n = (n ∷ 0 ∷ 0 ∷ []) ∷ []

pub record Example : Type 0 where
  pub day_answers : map outcome_numbers (outcomes line_policy new_state day)
      ≡ returns 0
      ∷ returns 0
      ∷ returns 0
      ∷ ((0 ∷ 1 ∷ 1 ∷ []) ∷ (1 ∷ 1 ∷ 7 ∷ 2 ∷ 0 ∷ 0 ∷ 40 ∷ 10 ∷ 0 ∷ []) ∷ [])
      ∷ ((0 ∷ 0 ∷ 1 ∷ []) ∷ [])
      ∷ ((0 ∷ 0 ∷ 1 ∷ []) ∷ [])
      ∷ ((0 ∷ 2 ∷ 3 ∷ []) ∷ (1 ∷ 2 ∷ 8 ∷ 2 ∷ 5 ∷ 0 ∷ 40 ∷ 10 ∷ 0 ∷ []) ∷ (4 ∷ 1 ∷ 7 ∷ 2 ∷ 5 ∷ 4 ∷ 0 ∷ 0 ∷ 0 ∷ []) ∷ [])
      ∷ []
  -- refusals write nothing; 9 and 10 write their denial
  pub short_sheet : tried day_end 64 (Time 1) ≡ returns 1
  pub out_of_range : tried day_end 65 (SetRoom (pos 601) 0) ≡ returns 2
  pub no_such_badge : tried day_end 65 (Open 9 (codes "PIG00417") 2 1) ≡ returns 3
  pub no_such_lot : tried day_end 65 (DropLot (codes "PIG00418")) ≡ returns 4
  pub no_such_access : tried day_end 65 (Use 1 1) ≡ returns 5
  pub open_already : tried day_end 65 (Open 8 (codes "PIG00417") 2 1) ≡ returns 6
  pub no_place : tried full_of_accesses 65 (Open 7 (codes "PIG00417") 2 1) ≡ returns 7
  pub no_serial : tried last_serial_given 65 (Open 7 (codes "PIG00417") 2 1) ≡ returns 8
  pub question_fails : tried (after_calls line_policy day_end (SetLot (codes "PIG00417") 2 13 1 1 (0 ∷ 0 ∷ 4 ∷ 9 ∷ []) ∷ [])) 65 (Open 7 (codes "PIG00417") 3 2)
      ≡ (9 ∷ 0 ∷ 0 ∷ []) ∷ (2 ∷ 0 ∷ 7 ∷ 3 ∷ 5 ∷ 3 ∷ 18 ∷ 2 ∷ 0 ∷ []) ∷ []
  pub credit_short : tried day_end 65 (Open 7 (codes "PIG00417") 2 16)
      ≡ (10 ∷ 0 ∷ 0 ∷ []) ∷ (2 ∷ 0 ∷ 7 ∷ 2 ∷ 5 ∷ 256 ∷ 64 ∷ 16 ∷ 0 ∷ []) ∷ []
  pub no_room_in_register : tried full_of_badges 65 (SetBadge 9 0 0 0) ≡ returns 11
  pub still_in_use : tried day_end 65 (DropBadge 8) ≡ returns 12
  pub units_run_out : tried day_end 65 (Use 2 11) ≡ returns 13
  pub granted_too_much : tried day_end 65 (Grant 0 999999901) ≡ returns 14
  pub clock_runs_out : tried day_end 65 (Time 9999996) ≡ returns 15
