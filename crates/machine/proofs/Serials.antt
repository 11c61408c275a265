-- Open accesses have serials of their own, all below the next: kept by every step, so that a serial finds its access.
-- Assumes nothing.
use Rattle.std.proofs.Common.{◌≡◌, ℕ, ◌+◌, ◌<◌, Bool, List, Some, sym, refl, subst, arith}
use Rattle.records.specs.declared.Access.{Access}
use Rattle.records.specs.declared.Badge.{Badge}
use Rattle.records.specs.declared.Lot.{Lot}
use Rattle.records.specs.declared.Call.{Call}
use Rattle.records.specs.declared.Call.TheVariants.{Open, Use, Duty, End, Time, SetRoom, Grant, SetBadge, SetLot, DropBadge, DropLot}
use Rattle.register.specs.Lists.{In, first, changed}
use Rattle.register.specs.Tests.{eqb_same, eqb_equal}
use Rattle.register.proofs.Lists.{first_in, in_without, all_changed, all_append}
use Rattle.register.proofs.Apart.{Apart, apart_without, apart_changed, apart_append, first_apart}
use Rattle.machine.specs.State.{Policy, Scene, State, is_access, access_of}
use Rattle.machine.specs.Scenes.{after_use, after_duty}
use Rattle.machine.specs.Sweep.{close}
use Rattle.machine.specs.Step.{opened, asked_for, moved}
use Rattle.machine.specs.Journal.{Entry}
use Rattle.machine.specs.Law.{Shift, New}
use Rattle.machine.proofs.Cases.{shift_keeps}

abbrev pub serial_of : Access → ℕ
serial_of a = a.serial

-- accesses under serials of their own, all below the next
pub record OwnSerials (xs : List Access) (next : ℕ) : Type 0 where
  pub apart : Apart serial_of xs
  pub below : (a : Access) → In a xs → a.serial < next

abbrev pub ApartSerials : State → Type 0
ApartSerials s = OwnSerials s.scene.accesses s.next_serial

-- a serial finds its access
pub first_access : (xs : List Access) (a : Access) → Apart serial_of xs → In a xs → first (is_access a.serial) xs ≡ Some a
first_access xs a h i =
    first_apart serial_of (is_access a.serial) xs a (eqb_same a.serial) (λ b e. eqb_equal b.serial a.serial e) h i

pub apart_new : {badges : List Badge} {lots : List Lot} (s : State) → New badges lots s → ApartSerials s
apart_new s new =
    subst (λ (v : Scene). OwnSerials v.accesses s.next_serial) (sym new.scene) (record { apart = tt; below = λ a i. absurd i })

-- kept where an access is closed
pub apart_close : (a : Access) (s : State) → ApartSerials s → ApartSerials (close a s)
apart_close a s h = record {
  apart = apart_without serial_of (is_access a.serial) s.scene.accesses h.apart;
  below = λ b i. h.below b (in_without (is_access a.serial) s.scene.accesses b i);
}

-- an access under the next serial
pub apart_opened : (a : Access) (s : State) → a.serial ≡ s.next_serial → ApartSerials s → ApartSerials (opened a s)
apart_opened a s e h = record {
  apart = apart_append serial_of s.scene.accesses a (λ b i k. unmet b (h.below b i) k) h.apart;
  below = all_append (λ b. b.serial < s.next_serial + 1) a s.scene.accesses (λ b i. omega (arith, h.below b i)) (omega arith);
}
  where
    unmet : (b : Access) → b.serial < s.next_serial → b.serial ≡ a.serial → ⊥
    unmet b l k = omega arith

-- a change of an access that keeps its serial
pub apart_accesses :
    (p : Access → Bool) (f : Access → Access) → ((a : Access) → (f a).serial ≡ a.serial) →
    (xs : List Access) (next : ℕ) → OwnSerials xs next → OwnSerials (changed p f xs) next
apart_accesses p f keeps xs next h = record {
  apart = apart_changed serial_of p f xs keeps h.apart;
  below =
      all_changed (λ a. a.serial < next) p f xs h.below
      (λ a e. subst (λ (n : ℕ). n < next) (sym (keeps a)) (h.below a (first_in p xs a e).0));
}

-- and by every call
pub apart_moved : (s : State) (call : Call) → ApartSerials s → ApartSerials (moved s call)
apart_moved s (Open n c r units) h = apart_opened (asked_for s n c r units) s refl h
apart_moved s (Use serial units) h =
    apart_accesses (is_access serial) (after_use units s.scene.room.clock) (λ _. refl) s.scene.accesses s.next_serial h
apart_moved s (Duty serial) h =
    apart_accesses (is_access serial) (after_duty s.scene.room.clock) (λ _. refl) s.scene.accesses s.next_serial h
apart_moved s (End serial) h = apart_close (access_of s.scene serial) s h
apart_moved s (Time minutes) h = h
apart_moved s (SetRoom t phase) h = h
apart_moved s (Grant account amount) h = h
apart_moved s (SetBadge n level role account) h = h
apart_moved s (SetLot c level role stop limit prices) h = h
apart_moved s (DropBadge n) h = h
apart_moved s (DropLot c) h = h

pub apart_shift :
    {p : Policy} {badges : List Badge} {lots : List Lot} {s t : State} {es : List Entry} → New badges lots s → Shift p s es t → ApartSerials t
apart_shift {p} {badges} {lots} {s} new shift =
    shift_keeps p ApartSerials (λ a t _. apart_close a t) (λ t _ call _. apart_moved t call) shift (apart_new s new)
