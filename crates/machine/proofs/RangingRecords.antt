-- Each change of a register, a room or an access keeps the numbers in their ranges. Assumes nothing.
use Rattle.std.proofs.Common.{◌≡◌, ℕ, zero, suc, ◌+◌, ◌≤◌, Bool, true, false, cond, not, ◌&&◌, leb, List, [], ◌∷◌, length, get_or, Some, subst, arith}
use Rattle.std.proofs.lemmas.Bool.Decides.{nat_tests}
use Rattle.records.specs.declared.Access.{Access}
use Rattle.records.specs.declared.Lot.{Lot}
use Rattle.register.specs.Lists.{In, first, some, without, changed, entered}
use Rattle.register.specs.Tests.{both}
use Rattle.register.proofs.Lists.{in_without, all_changed, all_entered, by_put, length_changed, length_entered, length_without}
use Rattle.machine.specs.State.{with_heads}
use Rattle.records.specs.Ranges.{between, all_between}
use Rattle.machine.specs.Scenes.{after_use, after_duty}
use Rattle.machine.specs.Fitting.{LotFits, AccessFits}

-- a number of a list in range is in range, and a default of 0 is
pub get_or_between : (high : ℕ) (ns : List ℕ) (k : ℕ) → all_between 0 high ns ≡ true → get_or ns k 0 ≤ high
get_or_between high [] k e = omega arith
get_or_between high (n ∷ ns) zero e = grind (arith, nat_tests)
get_or_between high (n ∷ ns) (suc k) e = get_or_between high ns k (both (between 0 high n) (all_between 0 high ns) e).1

-- what a lot has in range by itself: all but its heads
abbrev pub LotRanges : Lot → Type 0
LotRanges l = LotFits (with_heads 0 l)

-- and with any heads up to 64, all of it
pub with_heads_fits : (n : ℕ) (l : Lot) → LotFits l → n ≤ 64 → LotFits (with_heads n l)
with_heads_fits n l h few = record { code = h.code; level = h.level; role = h.role; limit = h.limit; prices = h.prices; heads = few }

-- registers of at most 64 records, each in its ranges
pub record Few (X : Type 0) (P : X → Type 0) (xs : List X) : Type 0 where
  pub each : (x : X) → In x xs → P x
  pub few : length xs ≤ 64

module _ {X : Type 0} (P : X → Type 0) where
  pub few_changed : (q : X → Bool) (f : X → X) (xs : List X) → ((x : X) → first q xs ≡ Some x → P (f x)) → Few X P xs → Few X P (changed q f xs)
  few_changed q f xs new h = record {
    each = all_changed P q f xs h.each new;
    few = let same : length (changed q f xs) ≡ length xs = length_changed q f xs in let most : length xs ≤ 64 = h.few in omega arith;
  }

  few_entered : (q : X → Bool) (new : X) (xs : List X) → P new → leb 64 (length xs) ≡ false → Few X P xs → Few X P (entered q new xs)
  few_entered q new xs holds room h = record {
    each = all_entered P q new xs h.each holds;
    few = let more : length (entered q new xs) ≡ suc (length xs) = length_entered q new xs in let less : suc (length xs) ≤ 64 = grind (arith, nat_tests) in omega arith;
  }

  pub few_without : (q : X → Bool) (xs : List X) → some q xs ≡ true → Few X P xs → Few X P (without q xs)
  few_without q xs e h = record {
    each = λ x i. h.each x (in_without q xs x i);
    few = let less : suc (length (without q xs)) ≡ length xs = length_without q xs e in let most : length xs ≤ 64 = h.few in omega arith;
  }

  -- in the place of the one that passes, or where none does and there is room, entered
  pub few_put : (q r : X → Bool) (f : X → X) (new : X) (xs : List X) → ((x : X) → P (f x)) → P new →
      (not (some q xs) && leb 64 (length xs)) ≡ false → Few X P xs → Few X P (cond (some q xs) (changed q f xs) (entered r new xs))
  few_put q r f new xs kept holds full h =
      by_put (Few X P) q r f new xs
      (λ _. few_changed q f xs (λ x _. kept x) h)
      (λ none. few_entered r new xs holds (subst (λ t. (not t && leb 64 (length xs)) ≡ false) none full) h)

-- an access at a clock, with other units used and other minutes
access_fits : {clock : ℕ} (now used last_use last_duty : ℕ) (a : Access) → AccessFits clock a → used ≤ a.held → clock ≤ now → last_use ≤ now → last_duty ≤ now →
    AccessFits now (record {
      serial = a.serial;
      badge = a.badge;
      lot = a.lot;
      right = a.right;
      price = a.price;
      account = a.account;
      held = a.held;
      used = used;
      start = a.start;
      last_use = last_use;
      last_duty = last_duty;
    })
access_fits now used last_use last_duty a h units later use_past duty_past = record {
  serial = h.serial;
  badge = h.badge;
  lot = h.lot;
  price = h.price;
  account = h.account;
  held = h.held;
  used = units;
  start = omega (arith, h.start, later);
  last_use = use_past;
  last_duty = duty_past;
}

-- time passes, units are used, a duty is done
pub later_fits : (clock minutes : ℕ) (a : Access) → AccessFits clock a → AccessFits (clock + minutes) a
later_fits clock minutes a h =
    access_fits (clock + minutes) a.used a.last_use a.last_duty a h h.used (omega arith)
    (omega (arith, h.last_use)) (omega (arith, h.last_duty))

pub used_fits : (clock units : ℕ) (a : Access) → a.used + units ≤ a.held → AccessFits clock a → AccessFits clock (after_use units clock a)
used_fits clock units a more h = access_fits clock (a.used + units) clock a.last_duty a h more (omega arith) (omega arith) h.last_duty

pub duty_fits : (clock : ℕ) (a : Access) → AccessFits clock a → AccessFits clock (after_duty clock a)
duty_fits clock a h = access_fits clock a.used a.last_use clock a h h.used (omega arith) h.last_use (omega arith)
