-- The worked figures, by computation. Assumes nothing.
use Rattle.std.proofs.Common.{refl, arith}
use Rattle.usage.specs.Books.{Sound}
use Rattle.usage.proofs.Nothing.{nothing_at}
use Rattle.machine.specs.Sweep.{rounds}
use Rattle.machine.specs.Example.{Example}
use Rattle.machine.specs.Figures.{Figures, first_state}

new_sound : Sound first_state.books
new_sound = record {
  accounts = refl;
  lefts = refl;
  helds = refl;
  spents = refl;
  within = λ a. omega (arith, nothing_at 16 a);
  most = λ i. omega (arith, nothing_at 16 i);
}

pub figures : Figures
unfolding rounds
figures = record {
  role_1 = refl;
  role_2 = refl;
  tenth_head = λ _. refl;
  eleventh_head = λ _. refl;
  duty_at_30 = λ _. refl;
  duty_at_31 = λ _. refl;
  begins_new = record { scene = refl; books = record { left = refl; held = refl; spent = refl }; sound = new_sound };
  all_accepted = refl;
  half_hour_gone = refl;
  open_at_30 = refl;
  accepted_at_31 = refl;
  minute_gone = refl;
  revoked_at_31 = refl;
  by_the_rule = refl;
  none_open_at_31 = refl;
  room_at_lowest = λ _. refl;
  room_at_zero = λ _. refl;
  room_at_highest = λ _. refl;
  room_below = λ _. refl;
  room_above = λ _. refl;
  hold_of_all = refl;
  hold_of_more = refl;
  three_questions = refl;
  most_questions = refl;
}

-- the worked day and the refusals
pub example_holds : Example
unfolding rounds
example_holds = record {
  day_answers = refl;
  short_sheet = refl;
  out_of_range = refl;
  no_such_badge = refl;
  no_such_lot = refl;
  no_such_access = refl;
  open_already = refl;
  no_place = refl;
  no_serial = refl;
  question_fails = refl;
  credit_short = refl;
  no_room_in_register = refl;
  still_in_use = refl;
  units_run_out = refl;
  granted_too_much = refl;
  clock_runs_out = refl;
}
