-- Every number of every record is in its range, and units used never exceed units held: kept by every step.
-- Assumes nothing.
use Rattle.std.proofs.Common.{◌≡◌, ℕ, ◌+◌, ◌-◌, ◌≤◌, true, false, not, ◌&&◌, ltb, leb, List, length, Some, sym, refl, subst, arith}
use Rattle.std.proofs.lemmas.Bool.Decides.{nat_tests}
use Rattle.records.specs.Numbers.{right_of, right_number}
use Rattle.records.specs.declared.Access.{Access}
use Rattle.records.specs.declared.Badge.{Badge}
use Rattle.records.specs.declared.Lot.{Lot}
use Rattle.records.specs.declared.Call.{Call}
use Rattle.records.specs.declared.Call.TheVariants.{Open, Use, Duty, End, Time, SetRoom, Grant, SetBadge, SetLot, DropBadge, DropLot}
use Rattle.register.specs.Lists.{In, first, some, without, changed}
use Rattle.register.specs.Codes.{code_below}
use Rattle.register.specs.Tests.{not_refused, both}
use Rattle.register.proofs.Lists.{first_in, found, in_without, all_changed, all_append}
use Rattle.machine.specs.State.{Scene, State, is_badge, is_lot, is_access, no_badge, no_lot, badge_of, lot_of, access_of, with_badges, with_lots, with_accesses, with_scene, with_heads}
use Rattle.records.specs.Ranges.{badge_number_fits, code_fits, serial_fits, attribute_fits, units_fit, prices_fit, limit_fits, clock_fits, temperature_fits}
use Rattle.machine.specs.Scenes.{after_use, after_duty, put_badge, put_lot}
use Rattle.machine.specs.Checks.{checks, first_applying}
use Rattle.machine.specs.Sweep.{close}
use Rattle.machine.specs.Step.{asked_for, moved}
use Rattle.machine.specs.Law.{New}
use Rattle.machine.specs.Placed.{HeadsCounted}
use Rattle.machine.specs.Fitting.{BadgeFits, LotFits, RoomFits, AccessFits, RegistersFit, Fitting, ShiftsFitting}
use Rattle.machine.proofs.Cases.{shift_keeps}
use Rattle.machine.proofs.Checked.{NoneApply, none_apply, used_within}
use Rattle.machine.proofs.Registers.{new_badge, new_lot}
use Rattle.machine.proofs.Reporting.{shift_few}
use Rattle.machine.proofs.PlacingCounts.{open_at_most}
use Rattle.machine.proofs.Placing.{shifts_counted}
use Rattle.machine.proofs.RangingRecords.{get_or_between, LotRanges, with_heads_fits, Few, few_changed, few_without, few_put, later_fits, used_fits, duty_fits}

-- all but the heads of lots and the number of accesses, which are counted
record InRange (s : Scene) (next : ℕ) : Type 0 where
  badges : Few Badge BadgeFits s.badges
  lots : Few Lot LotRanges s.lots
  room : RoomFits s.room
  accesses : (a : Access) → In a s.accesses → AccessFits s.room.clock a
  serial : (1 ≤ next) × (next ≤ 1000000001)

abbrev Ranged : State → Type 0
Ranged s = InRange s.scene s.next_serial

-- heads of one lot change
few_heads : (c : List ℕ) (g : ℕ → ℕ) (lots : List Lot) → Few Lot LotRanges lots → Few Lot LotRanges (changed (is_lot c) (λ l. with_heads (g l.heads) l) lots)
few_heads c g lots h =
    few_changed LotRanges (is_lot c) (λ l. with_heads (g l.heads) l) lots (λ l e. h.each l (first_in (is_lot c) lots l e).0) h

ranged_close : (a : Access) (s : State) → Ranged s → Ranged (close a s)
ranged_close a s h = record {
  badges = h.badges;
  lots = few_heads a.lot (λ n. n - 1) s.scene.lots h.lots;
  room = h.room;
  accesses = λ b i. h.accesses b (in_without (is_access a.serial) s.scene.accesses b i);
  serial = h.serial;
}

-- what an accepted open asks for
asked_fits : (s : State) (sheet n : ℕ) (c : List ℕ) (r units : ℕ) → NoneApply (checks s sheet (Open n c r units)) → Ranged s →
    AccessFits s.scene.room.clock (asked_for s n c r units)
asked_fits s sheet n c r units clear h =
    let fits : not (badge_number_fits n && (code_fits c && (leb r 3 && units_fit units))) ≡ false = clear.1.0 in
    let its_badge : In (badge_of s.scene n) s.scene.badges =
    (found (is_badge n) s.scene.badges no_badge (not_refused (some (is_badge n) s.scene.badges) clear.1.1.0)).0 in
    let its_lot : In (lot_of s.scene c) s.scene.lots =
    (found (is_lot c) s.scene.lots no_lot (not_refused (some (is_lot c) s.scene.lots) clear.1.1.1.0)).0 in
    record {
      serial = in_range clear.1.1.1.1.1.1.0 h.serial.0;
      badge = grind (arith, nat_tests);
      lot = grind (arith, nat_tests);
      price = get_or_between 1000 (lot_of s.scene c).prices (right_number (right_of r)) (h.lots.each (lot_of s.scene c) its_lot).prices;
      account = (h.badges.each (badge_of s.scene n) its_badge).account;
      held = grind (arith, nat_tests);
      used = omega arith;
      start = omega arith;
      last_use = omega arith;
      last_duty = omega arith;
    }
  where
    in_range : ltb 1000000000 s.next_serial ≡ false → 1 ≤ s.next_serial → serial_fits s.next_serial ≡ true
    in_range e low = grind (arith, nat_tests)

ranged_opened : (s : State) (sheet n : ℕ) (c : List ℕ) (r units : ℕ) → NoneApply (checks s sheet (Open n c r units)) → Ranged s → Ranged (moved s (Open n c r units))
ranged_opened s sheet n c r units clear h = record {
  badges = h.badges;
  lots = few_heads c (λ k. k + 1) s.scene.lots h.lots;
  room = h.room;
  accesses =
      all_append (AccessFits s.scene.room.clock) (asked_for s n c r units) s.scene.accesses h.accesses
      (asked_fits s sheet n c r units clear h);
  serial = (omega arith, next clear.1.1.1.1.1.1.0);
}
  where
    next : ltb 1000000000 s.next_serial ≡ false → s.next_serial + 1 ≤ 1000000001
    next e = grind (arith, nat_tests)

-- one access changes, and stays in range
ranged_changed : (serial : ℕ) (f : Access → Access) (s : State) →
    ((a : Access) → first (is_access serial) s.scene.accesses ≡ Some a → AccessFits s.scene.room.clock a → AccessFits s.scene.room.clock (f a)) →
    Ranged s →
    Ranged (with_scene s (with_accesses s.scene (changed (is_access serial) f s.scene.accesses)))
ranged_changed serial f s fits h = record {
  badges = h.badges;
  lots = h.lots;
  room = h.room;
  accesses =
      all_changed (AccessFits s.scene.room.clock) (is_access serial) f s.scene.accesses h.accesses
      (λ a e. fits a e (h.accesses a (first_in (is_access serial) s.scene.accesses a e).0));
  serial = h.serial;
}

ranged_registers : (s : State) (badges : List Badge) (lots : List Lot) → Few Badge BadgeFits badges → Few Lot LotRanges lots → Ranged s →
    Ranged (with_scene s (with_lots (with_badges s.scene badges) lots))
ranged_registers s badges lots b l h = record {
  badges = b;
  lots = l;
  room = h.room;
  accesses = h.accesses;
  serial = h.serial;
}

badge_ranges : (n level role account : ℕ) → (badge_number_fits n && (attribute_fits level && (attribute_fits role && attribute_fits account))) ≡ true →
    BadgeFits (new_badge n level role account)
badge_ranges n level role account e = record {
  number = grind (arith, nat_tests);
  level = grind (arith, nat_tests);
  role = grind (arith, nat_tests);
  account = grind (arith, nat_tests);
}

lot_ranges : (c : List ℕ) (level role stop limit : ℕ) (prices : List ℕ) →
    (code_fits c && (attribute_fits level && (attribute_fits role && (leb stop 1 && (limit_fits limit && prices_fit prices))))) ≡ true →
    LotFits (new_lot c level role stop limit prices)
lot_ranges c level role stop limit prices e = record {
  code = grind (arith, nat_tests);
  level = grind (arith, nat_tests);
  role = grind (arith, nat_tests);
  limit = grind (arith, nat_tests);
  prices = grind (arith, nat_tests);
  heads = omega arith;
}

ranged_moved : (s : State) (sheet : ℕ) (call : Call) → first_applying (checks s sheet call) ≡ 0 → Ranged s → Ranged (moved s call)
ranged_moved s sheet (Open n c r units) pass h = ranged_opened s sheet n c r units (none_apply (checks s sheet (Open n c r units)) refl pass) h
ranged_moved s sheet (Use serial units) pass h =
    let clear = none_apply (checks s sheet (Use serial units)) refl pass in
    ranged_changed serial (after_use units s.scene.room.clock) s
    (λ a e. used_fits s.scene.room.clock units a (used_within s.scene serial units clear.1.1.1.0 a e)) h
ranged_moved s sheet (Duty serial) pass h =
    ranged_changed serial (after_duty s.scene.room.clock) s (λ a _. duty_fits s.scene.room.clock a) h
ranged_moved s sheet (End serial) pass h = ranged_close (access_of s.scene serial) s h
ranged_moved s sheet (Time minutes) pass h =
    let clear = none_apply (checks s sheet (Time minutes)) refl pass in
    record {
      badges = h.badges;
      lots = h.lots;
      room = record {
        clock = not_refused (clock_fits (s.scene.room.clock + minutes)) clear.1.1.0;
        temperature = h.room.temperature;
      };
      accesses = λ a i. later_fits s.scene.room.clock minutes a (h.accesses a i);
      serial = h.serial;
    }
ranged_moved s sheet (SetRoom t phase) pass h =
    let clear = none_apply (checks s sheet (SetRoom t phase)) refl pass in
    record {
      badges = h.badges;
      lots = h.lots;
      room = record {
        clock = h.room.clock;
        temperature = (both (temperature_fits t) (leb phase 1) (not_refused (temperature_fits t && leb phase 1) clear.1.0)).0;
      };
      accesses = h.accesses;
      serial = h.serial;
    }
ranged_moved s sheet (Grant account amount) pass h = h
ranged_moved s sheet (SetBadge n level role account) pass h =
    let clear = none_apply (checks s sheet (SetBadge n level role account)) refl pass in
    let new : Badge = new_badge n level role account in
    let fits : BadgeFits new =
    badge_ranges n level role account
    (not_refused (badge_number_fits n && (attribute_fits level && (attribute_fits role && attribute_fits account))) clear.1.0) in
    ranged_registers s (put_badge new s.scene.badges) s.scene.lots
    (few_put BadgeFits (is_badge n) (λ x. ltb n x.number) (λ _. new) new s.scene.badges (λ _. fits) fits clear.1.1.0 h.badges)
    h.lots h
ranged_moved s sheet (SetLot c level role stop limit prices) pass h =
    let clear = none_apply (checks s sheet (SetLot c level role stop limit prices)) refl pass in
    let new : Lot = new_lot c level role stop limit prices in
    let fits : LotFits new =
    lot_ranges c level role stop limit prices
    (not_refused (code_fits c && (attribute_fits level && (attribute_fits role && (leb stop 1 && (limit_fits limit && prices_fit prices))))) clear.1.0) in
    ranged_registers s s.scene.badges (put_lot new s.scene.lots) h.badges
    (few_put LotRanges (is_lot c) (λ x. code_below c x.code) (λ old. with_heads old.heads new) new s.scene.lots
    (λ _. fits) fits clear.1.1.0 h.lots)
    h
ranged_moved s sheet (DropBadge n) pass h =
    let clear = none_apply (checks s sheet (DropBadge n)) refl pass in
    ranged_registers s (without (is_badge n) s.scene.badges) s.scene.lots
    (few_without BadgeFits (is_badge n) s.scene.badges (not_refused (some (is_badge n) s.scene.badges) clear.1.1.0) h.badges)
    h.lots h
ranged_moved s sheet (DropLot c) pass h =
    let clear = none_apply (checks s sheet (DropLot c)) refl pass in
    ranged_registers s s.scene.badges (without (is_lot c) s.scene.lots) h.badges
    (few_without LotRanges (is_lot c) s.scene.lots (not_refused (some (is_lot c) s.scene.lots) clear.1.1.0) h.lots)
    h

-- heads are accesses open at the lot, and at most 64 are open
fitting : (s : State) → Ranged s → HeadsCounted s.scene → length s.scene.accesses ≤ 64 → Fitting s
fitting s h counted few = record {
  registers = record {
    badges_fit = h.badges.each;
    lots_fit = λ l i.
        with_heads_fits l.heads (with_heads 0 l) (h.lots.each l i) (omega (arith, counted l i, open_at_most l.code s.scene.accesses));
    few_badges = h.badges.few;
    few_lots = h.lots.few;
  };
  room = h.room;
  accesses = h.accesses;
  few_accesses = few;
  next_serial = h.serial.1;
}

ranged_new : (badges : List Badge) (lots : List Lot) (s : State) → RegistersFit badges lots → serial_fits s.next_serial ≡ true → New badges lots s → Ranged s
ranged_new badges lots s fits serial new =
    subst (λ (v : Scene). InRange v s.next_serial) (sym new.scene) (record {
      badges = record { each = fits.badges_fit; few = fits.few_badges };
      lots = record { each = λ l i. with_heads_fits 0 l (fits.lots_fit l i) (omega arith); few = fits.few_lots };
      room = record { clock = refl; temperature = refl };
      accesses = λ a i. absurd i;
      serial = (grind (arith, nat_tests), grind (arith, nat_tests));
    })

pub shifts_fitting : ShiftsFitting
shifts_fitting p badges lots first last es fits rising none serial new shift =
    fitting last
    (shift_keeps p Ranged (λ a s _. ranged_close a s) ranged_moved shift (ranged_new badges lots first fits serial new))
    (shifts_counted p badges lots first last es rising none new shift)
    (shift_few p badges lots first last es new shift)
