-- Every open access has its badge and its lot, and a lot's heads are the accesses open at it: kept by every step.
-- Assumes nothing.
use Rattle.std.proofs.Common.{◌≡◌, ℕ, List, sym, refl, subst}
use Rattle.records.specs.declared.Access.{Access}
use Rattle.records.specs.declared.Badge.{Badge}
use Rattle.records.specs.declared.Lot.{Lot}
use Rattle.records.specs.declared.Call.{Call}
use Rattle.records.specs.declared.Call.TheVariants.{Open, Use, Duty, End, Time, SetRoom, Grant, SetBadge, SetLot, DropBadge, DropLot}
use Rattle.register.specs.Lists.{In, some}
use Rattle.register.specs.Tests.{not_refused}
use Rattle.register.proofs.Lists.{in_without}
use Rattle.machine.specs.State.{Scene, State, is_badge, is_lot, is_access, access_of}
use Rattle.machine.specs.Scenes.{after_use, after_duty}
use Rattle.machine.specs.Checks.{checks, first_applying}
use Rattle.machine.specs.Sweep.{close}
use Rattle.machine.specs.Step.{asked_for, moved}
use Rattle.machine.specs.Law.{New}
use Rattle.machine.specs.Rising.{RisingLots}
use Rattle.machine.specs.Placed.{Placed, HeadsCounted, ShiftsPlaced, ShiftsCounted}
use Rattle.machine.proofs.Cases.{shift_keeps}
use Rattle.machine.proofs.Checked.{none_apply, access_open}
use Rattle.machine.proofs.Serials.{ApartSerials, first_access, apart_new, apart_close, apart_moved}
use Rattle.machine.proofs.Registers.{new_badge, new_lot, lots_apart, lots_close, lots_moved}
use Rattle.machine.proofs.PlacingScenes.{placed_entered, placed_struck, placed_changed, counted_entered, counted_struck, counted_changed, some_put_badge, some_put_lot, counted_put_lot, some_drop_badge, some_drop_lot}

placed_moved : (s : State) (sheet : ℕ) (call : Call) → first_applying (checks s sheet call) ≡ 0 → Placed s.scene → Placed (moved s call).scene
placed_moved s sheet (Open n c r units) pass h =
    let clear = none_apply (checks s sheet (Open n c r units)) refl pass in
    placed_entered (asked_for s n c r units) s.scene
    (not_refused (some (is_badge n) s.scene.badges) clear.1.1.0)
    (not_refused (some (is_lot c) s.scene.lots) clear.1.1.1.0) h
placed_moved s sheet (Use serial units) pass h =
    placed_changed (is_access serial) (after_use units s.scene.room.clock) s.scene (λ _. refl) (λ _. refl) h
placed_moved s sheet (Duty serial) pass h =
    placed_changed (is_access serial) (after_duty s.scene.room.clock) s.scene (λ _. refl) (λ _. refl) h
placed_moved s sheet (End serial) pass h = placed_struck (access_of s.scene serial) s.scene h
placed_moved s sheet (Time minutes) pass h = record { badges_known = h.badges_known; lots_known = h.lots_known }
placed_moved s sheet (SetRoom t phase) pass h = record { badges_known = h.badges_known; lots_known = h.lots_known }
placed_moved s sheet (Grant account amount) pass h = h
placed_moved s sheet (SetBadge n level role account) pass h = record {
  badges_known = λ a i. some_put_badge (new_badge n level role account) s.scene.badges a.badge (h.badges_known a i);
  lots_known = h.lots_known;
}
placed_moved s sheet (SetLot c level role stop limit prices) pass h = record {
  badges_known = h.badges_known;
  lots_known = λ a i. some_put_lot (new_lot c level role stop limit prices) s.scene.lots a.lot (h.lots_known a i);
}
placed_moved s sheet (DropBadge n) pass h =
    let clear = none_apply (checks s sheet (DropBadge n)) refl pass in record {
      badges_known = λ a i. some_drop_badge n s.scene.badges s.scene.accesses clear.1.1.1.0 a i (h.badges_known a i);
      lots_known = h.lots_known;
    }
placed_moved s sheet (DropLot c) pass h =
    let clear = none_apply (checks s sheet (DropLot c)) refl pass in record {
      badges_known = h.badges_known;
      lots_known = λ a i. some_drop_lot c s.scene.lots s.scene.accesses clear.1.1.1.0 a i (h.lots_known a i);
    }

pub shifts_placed : ShiftsPlaced
shifts_placed p badges lots first last es new shift =
    shift_keeps p (λ s. Placed s.scene) (λ a s _. placed_struck a s.scene) placed_moved shift
    (subst Placed (sym new.scene) (record { badges_known = λ a i. absurd i; lots_known = λ a i. absurd i }))

-- heads counted, of accesses at lots that are registered, with lots in order and accesses under serials of their own
record InPlace (s : State) : Type 0 where
  placed : Placed s.scene
  counted : HeadsCounted s.scene
  lots_rise : RisingLots s.scene.lots
  serials : ApartSerials s

counted_close : (a : Access) (s : State) → In a s.scene.accesses → InPlace s → HeadsCounted (close a s).scene
counted_close a s i h =
    counted_struck a s.scene (first_access s.scene.accesses a h.serials.apart i) (lots_apart s.scene.lots h.lots_rise) h.counted

in_place_close : (a : Access) (s : State) → In a s.scene.accesses → InPlace s → InPlace (close a s)
in_place_close a s i h = record {
  placed = placed_struck a s.scene h.placed;
  counted = counted_close a s i h;
  lots_rise = lots_close a s h.lots_rise;
  serials = apart_close a s h.serials;
}

counted_moved : (s : State) (sheet : ℕ) (call : Call) → first_applying (checks s sheet call) ≡ 0 → InPlace s → HeadsCounted (moved s call).scene
counted_moved s sheet (Open n c r units) pass h =
    counted_entered (asked_for s n c r units) s.scene (lots_apart s.scene.lots h.lots_rise) h.counted
counted_moved s sheet (Use serial units) pass h =
    counted_changed (is_access serial) (after_use units s.scene.room.clock) s.scene (λ _. refl) h.counted
counted_moved s sheet (Duty serial) pass h =
    counted_changed (is_access serial) (after_duty s.scene.room.clock) s.scene (λ _. refl) h.counted
counted_moved s sheet (End serial) pass h =
    let clear = none_apply (checks s sheet (End serial)) refl pass in
    counted_close (access_of s.scene serial) s (access_open s.scene serial clear.1.1.0) h
counted_moved s sheet (Time minutes) pass h = h.counted
counted_moved s sheet (SetRoom t phase) pass h = h.counted
counted_moved s sheet (Grant account amount) pass h = h.counted
counted_moved s sheet (SetBadge n level role account) pass h = h.counted
counted_moved s sheet (SetLot c level role stop limit prices) pass h =
    counted_put_lot (new_lot c level role stop limit prices) s.scene.lots s.scene.accesses refl h.placed.lots_known h.counted
counted_moved s sheet (DropBadge n) pass h = h.counted
counted_moved s sheet (DropLot c) pass h = λ l i. h.counted l (in_without (is_lot c) s.scene.lots l i)

in_place_moved : (s : State) (sheet : ℕ) (call : Call) → first_applying (checks s sheet call) ≡ 0 → InPlace s → InPlace (moved s call)
in_place_moved s sheet call pass h = record {
  placed = placed_moved s sheet call pass h.placed;
  counted = counted_moved s sheet call pass h;
  lots_rise = lots_moved s call h.lots_rise;
  serials = apart_moved s call h.serials;
}

in_place_new : (badges : List Badge) (lots : List Lot) (s : State) → RisingLots lots → ((l : Lot) → In l lots → l.heads ≡ 0) → New badges lots s → InPlace s
in_place_new badges lots s rising none new = record {
  placed = subst Placed (sym new.scene) (record { badges_known = λ a i. absurd i; lots_known = λ a i. absurd i });
  counted = subst HeadsCounted (sym new.scene) none;
  lots_rise = subst (λ (v : Scene). RisingLots v.lots) (sym new.scene) rising;
  serials = apart_new s new;
}

pub shifts_counted : ShiftsCounted
shifts_counted p badges lots first last es rising none new shift =
    (shift_keeps p InPlace in_place_close in_place_moved shift (in_place_new badges lots first rising none new)).counted
