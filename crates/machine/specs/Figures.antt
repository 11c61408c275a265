-- Worked figures: what the definitions come to where each number is known. Assumes nothing.
use Rattle.std.specs.Prelude.{◌≡◌, ℕ, true, false, List, [], ◌∷◌, map, replicate, ℤ, pos, negsuc}
use Rattle.records.specs.Parts.{new_room}
use Rattle.records.specs.declared.Room.{Room}
use Rattle.records.specs.declared.Situation.{Situation}
use Rattle.records.specs.declared.Kind.TheVariants.{Revoked}
use Rattle.records.specs.declared.Phase.TheVariants.{Work}
use Rattle.records.specs.declared.Call.{Call}
use Rattle.records.specs.declared.Call.TheVariants.{Open, Time, SetRoom, SetBadge, SetLot}
use Rattle.usage.specs.Roles.{at_or_above}
use Rattle.usage.specs.Rules.{heads_answer, room_answer, duty_answer}
use Rattle.usage.specs.Orders.{earliest_start}
use Rattle.usage.specs.Books.{Books, hold_returns}
use Rattle.machine.specs.State.{Policy, State, no_badge, no_lot, no_access}
use Rattle.machine.specs.Step.{Outcome, step}
use Rattle.machine.specs.Runs.{outcomes, after_calls}
use Rattle.machine.specs.Journal.{new_scene}
use Rattle.machine.specs.Law.{New}
use Rattle.machine.specs.Report.{questions_of}

-- at a lot with room for ten, so many heads
abbrev pub ten_with : ℕ → Situation
ten_with heads = record {
  badge = no_badge;
  lot = record { code = no_lot.code; level = 0; role = 0; stop = false; limit = 10; prices = no_lot.prices; heads = heads };
  room = new_room;
  access = no_access;
}

-- in a room as it is, with a last duty at minute 0
abbrev pub in_room : Room → Situation
in_room r = record { badge = no_badge; lot = no_lot; room = r; access = no_access }

abbrev pub at_minute : ℕ → Situation
at_minute minute = in_room (record { clock = minute; temperature = pos 0; phase = Work })

abbrev pub at_degree : ℤ → Situation
at_degree tenths = in_room (record { clock = 0; temperature = tenths; phase = Work })

-- a purse where all accounts share one home, with so much left there and nothing held or spent
abbrev pub with_credit : ℕ → Books
with_credit n = record { homes = replicate 16 0; left = n ∷ replicate 15 0; held = replicate 16 0; spent = replicate 16 0 }

-- a new monitor with empty registers, which lets everyone in and asks for a duty every 30 minutes, as rule 7
abbrev pub first_state : State
first_state = record { scene = new_scene [] []; next_serial = 1; books = with_credit 0 }

abbrev pub duty_policy : Policy
duty_policy = record { opening = λ _. 0; staying = duty_answer 30 7; before = earliest_start }

-- an access opened at minute 0, and thirty minutes, of which the room is at washdown from the tenth to the twentieth
abbrev pub half_hour : List Call
half_hour =
    SetBadge 1 0 0 0
    ∷ SetLot (replicate 8 65) 0 0 0 10 (replicate 4 0)
    ∷ Open 1 (replicate 8 65) 0 0
    ∷ Time 10
    ∷ SetRoom (pos 0) 1
    ∷ Time 10
    ∷ SetRoom (pos 0) 0
    ∷ Time 10
    ∷ []

-- then one minute more
abbrev pub one_minute_more : Outcome
one_minute_more = step duty_policy (after_calls duty_policy first_state half_hour) 65 (Time 1)

pub record Figures : Type 0 where
  -- role 1 is at or above role 13, role 2 is not
  pub role_1 : at_or_above 1 13 ≡ true
  pub role_2 : at_or_above 2 13 ≡ false
  -- at a limit of 10 the tenth head stays, the eleventh does not
  pub tenth_head : (number : ℕ) → heads_answer number (ten_with 10) ≡ 0
  pub eleventh_head : (number : ℕ) → heads_answer number (ten_with 11) ≡ number
  -- a duty every 30 minutes is late at minute 31
  pub duty_at_30 : (number : ℕ) → duty_answer 30 number (at_minute 30) ≡ 0
  pub duty_at_31 : (number : ℕ) → duty_answer 30 number (at_minute 31) ≡ number
  -- on the machine too, and washdown does not stop the clock: open at minute 30, revoked at minute 31
  pub begins_new : New [] [] first_state
  pub all_accepted : map (λ o. o.returned) (outcomes duty_policy first_state half_hour) ≡ replicate 8 0
  pub half_hour_gone : (after_calls duty_policy first_state half_hour).scene.room.clock ≡ 30
  pub open_at_30 : map (λ a. a.serial) (after_calls duty_policy first_state half_hour).scene.accesses ≡ 1 ∷ []
  pub accepted_at_31 : one_minute_more.returned ≡ 0
  pub minute_gone : one_minute_more.after.scene.room.clock ≡ 31
  pub revoked_at_31 : map (λ l. l.kind) one_minute_more.lines ≡ Revoked ∷ []
  pub by_the_rule : map (λ l. l.cause) one_minute_more.lines ≡ 7 ∷ []
  pub none_open_at_31 : one_minute_more.after.scene.accesses ≡ []
  -- from two degrees below zero to twelve above, in tenths of a degree
  pub room_at_lowest : (number : ℕ) → room_answer (negsuc 19) (pos 120) number (at_degree (negsuc 19)) ≡ 0
  pub room_at_zero : (number : ℕ) → room_answer (negsuc 19) (pos 120) number (at_degree (pos 0)) ≡ 0
  pub room_at_highest : (number : ℕ) → room_answer (negsuc 19) (pos 120) number (at_degree (pos 120)) ≡ 0
  pub room_below : (number : ℕ) → room_answer (negsuc 19) (pos 120) number (at_degree (negsuc 20)) ≡ number
  pub room_above : (number : ℕ) → room_answer (negsuc 19) (pos 120) number (at_degree (pos 121)) ≡ number
  -- 40 left bears a hold of 40, and 39 left does not
  pub hold_of_all : hold_returns 0 40 (with_credit 40) ≡ 0
  pub hold_of_more : hold_returns 0 40 (with_credit 39) ≡ 10
  -- two open and one revoked: two questions, then one; and the most that a sweep can put
  pub three_questions : questions_of 2 1 ≡ 3
  pub most_questions : questions_of 64 64 ≡ 2080
