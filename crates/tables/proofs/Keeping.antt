-- What the tables keep is kept by every change of them, and bounds heads. Assumes nothing.
use Rattle.std.proofs.Common.{◌≡◌, ℕ, ◌+◌, ◌-◌, ◌≤◌, Bool, true, false, cond, List, [], ◌∷◌, ◌++◌, length, Some, sym, refl, ◌∙◌, subst, arith}
use Rattle.register.specs.Lists.{In, first, some, without, changed}
use Rattle.register.specs.Tests.{eqb_equal}
use Rattle.register.proofs.Lists.{first_in, in_without, all_changed, all_append}
use Rattle.records.specs.declared.Access.{Access}
use Rattle.records.specs.declared.Lot.{Lot}
use Rattle.records.specs.declared.Call.TheVariants.{SetLot, DropLot}
use Rattle.records.specs.Parts.{new_room}
use Rattle.usage.specs.Books.{books_of}
use Rattle.machine.specs.State.{Scene, State, is_lot, is_access, at_lot, raise, lower}
use Rattle.machine.specs.Scenes.{put_lot}
use Rattle.machine.specs.Rising.{RisingLots}
use Rattle.machine.proofs.Registers.{new_lot, lots_apart, lots_moved, heads_rise}
use Rattle.machine.proofs.Serials.{apart_opened, apart_accesses, apart_close}
use Rattle.machine.proofs.PlacingCounts.{open_at_changed, open_at_most}
use Rattle.machine.proofs.PlacingScenes.{lotted_heads, counted_entered, counted_struck, counted_put_lot, some_put_lot, some_drop_lot}
use Rattle.tables.specs.Kept.{Kept}

-- lots and accesses in a scene, and with a next serial in a state
abbrev scene_with : List Lot → List Access → Scene
scene_with lots xs = record { badges = []; lots = lots; room = new_room; accesses = xs }

abbrev state_with : List Lot → List Access → ℕ → State
state_with lots xs next = record { scene = scene_with lots xs; next_serial = next; books = books_of [] [] [] [] }

pub kept_new : (lots : List Lot) (next : ℕ) → RisingLots lots → ((l : Lot) → In l lots → l.heads ≡ 0) → Kept lots [] next
kept_new lots next rise none = record {
  lots_rise = rise;
  lots_known = λ a i. absurd i;
  heads_counted = none;
  own_serials = record { apart = tt; below = λ a i. absurd i };
}

-- a lot is put in, and taken out where no access is open at it
pub kept_put : (c : List ℕ) (level role stop limit : ℕ) (prices : List ℕ) (lots : List Lot) (xs : List Access) (next : ℕ) → Kept lots xs next →
    Kept (put_lot (new_lot c level role stop limit prices) lots) xs next
kept_put c level role stop limit prices lots xs next h = record {
  lots_rise = lots_moved (state_with lots xs next) (SetLot c level role stop limit prices) h.lots_rise;
  lots_known = λ a i. some_put_lot (new_lot c level role stop limit prices) lots a.lot (h.lots_known a i);
  heads_counted = counted_put_lot (new_lot c level role stop limit prices) lots xs refl h.lots_known h.heads_counted;
  own_serials = h.own_serials;
}

pub kept_dropped : (c : List ℕ) (lots : List Lot) (xs : List Access) (next : ℕ) → some (at_lot c) xs ≡ false → Kept lots xs next →
    Kept (without (is_lot c) lots) xs next
kept_dropped c lots xs next none h = record {
  lots_rise = lots_moved (state_with lots xs next) (DropLot c) h.lots_rise;
  lots_known = λ a i. some_drop_lot c lots xs none a i (h.lots_known a i);
  heads_counted = λ l i. h.heads_counted l (in_without (is_lot c) lots l i);
  own_serials = h.own_serials;
}

-- an access changes, and keeps its serial and its lot
pub kept_changed : (p : Access → Bool) (f : Access → Access) (lots : List Lot) (xs : List Access) (next : ℕ) →
    ((a : Access) → (f a).serial ≡ a.serial) → ((a : Access) → (f a).lot ≡ a.lot) → Kept lots xs next → Kept lots (changed p f xs) next
kept_changed p f lots xs next serial lot h = record {
  lots_rise = h.lots_rise;
  lots_known =
      all_changed (λ a. some (is_lot a.lot) lots ≡ true) p f xs h.lots_known
      (λ a e. subst (λ (c : List ℕ). some (is_lot c) lots ≡ true) (sym (lot a)) (h.lots_known a (first_in p xs a e).0));
  heads_counted = λ l i. h.heads_counted l i ∙ sym (open_at_changed l.code p f xs lot);
  own_serials = apart_accesses p f serial xs next h.own_serials;
}

-- an access enters under the next serial at a lot that is registered, and the access of a serial is struck
pub kept_entered : (a : Access) (lots : List Lot) (xs : List Access) (next : ℕ) → a.serial ≡ next → some (is_lot a.lot) lots ≡ true → Kept lots xs next →
    Kept (raise a.lot lots) (xs ++ (a ∷ [])) (next + 1)
kept_entered a lots xs next serial there h = record {
  lots_rise = heads_rise a.lot (λ l. l.heads + 1) lots h.lots_rise;
  lots_known =
      lotted_heads (xs ++ (a ∷ [])) a.lot (λ n. n + 1) lots
      (all_append (λ b. some (is_lot b.lot) lots ≡ true) a xs h.lots_known there);
  heads_counted = counted_entered a (scene_with lots xs) (lots_apart lots h.lots_rise) h.heads_counted;
  own_serials = apart_opened a (state_with lots xs next) serial h.own_serials;
}

pub kept_struck : (a : Access) (lots : List Lot) (xs : List Access) (next : ℕ) → first (is_access a.serial) xs ≡ Some a → Kept lots xs next →
    Kept (lower a.lot lots) (without (is_access a.serial) xs) next
kept_struck a lots xs next this_one h = record {
  lots_rise = heads_rise a.lot _ lots h.lots_rise;
  lots_known = λ b j. lotted_heads xs a.lot (λ n. n - 1) lots h.lots_known b (in_without (is_access a.serial) xs b j);
  heads_counted = counted_struck a (scene_with lots xs) this_one (lots_apart lots h.lots_rise) h.heads_counted;
  own_serials = apart_close a (state_with lots xs next) h.own_serials;
}

-- the access found by a serial is under it
pub found_under : (serial : ℕ) (xs : List Access) (a : Access) → first (is_access serial) xs ≡ Some a → a.serial ≡ serial
found_under serial xs a e = eqb_equal a.serial serial (first_in (is_access serial) xs a e).1

-- and is found by its own
pub found_again : (serial : ℕ) (xs : List Access) (a : Access) → first (is_access serial) xs ≡ Some a → first (is_access a.serial) xs ≡ Some a
found_again serial xs a e = subst (λ (n : ℕ). first (is_access n) xs ≡ Some a) (sym (found_under serial xs a e)) e

-- heads are no more than the accesses that are open
pub heads_few : (lots : List Lot) (xs : List Access) (next : ℕ) → length xs ≤ 64 → Kept lots xs next → (l : Lot) → In l lots → l.heads ≤ 64
heads_few lots xs next few h l i = omega (arith, h.heads_counted l i, open_at_most l.code xs)

-- and through equations
pub kept_at : (lots more_lots : List Lot) (xs more : List Access) (next : ℕ) → more_lots ≡ lots → more ≡ xs → Kept lots xs next → Kept more_lots more next
kept_at lots more_lots xs more next e f h =
    subst (λ (v : List Lot). Kept v more next) (sym e) (subst (λ (v : List Access). Kept lots v next) (sym f) h)

-- a lot that was put in, or had no place
pub kept_put_if : (b : Bool) (c : List ℕ) (level role stop limit : ℕ) (prices : List ℕ) (lots more : List Lot) (xs : List Access) (next : ℕ) →
    more ≡ cond b (put_lot (new_lot c level role stop limit prices) lots) lots → Kept lots xs next → Kept more xs next
kept_put_if true c level role stop limit prices lots more xs next e h =
    kept_at _ _ _ _ _ e refl (kept_put c level role stop limit prices lots xs next h)
kept_put_if false c level role stop limit prices lots more xs next e h = kept_at _ _ _ _ _ e refl h
