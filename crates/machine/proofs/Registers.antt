-- Registers that begin in order stay in order, and records in order have different keys. Assumes nothing.
use Rattle.std.proofs.Common.{◌≡◌, ℕ, Bool, true, false, cond, eqb, ltb, List, [], ◌∷◌, is_some, Some, sym, refl, ◌∙◌, subst, ⊎_elim, arith}
use Rattle.std.proofs.lemmas.Bool.Decides.{nat_tests}
use Rattle.register.specs.Lists.{In, first, some, without, changed, entered}
use Rattle.register.specs.Codes.{same_code, code_below}
use Rattle.register.specs.Tests.{by_test, not_both}
use Rattle.register.proofs.Lists.{by_put}
use Rattle.register.proofs.Apart.{Apart}
use Rattle.register.specs.CodesLemmas.{code_below_irreflexive, same_code_symmetric, same_code_equal, code_below_transitive, code_below_total}
use Rattle.records.specs.declared.Access.{Access}
use Rattle.records.specs.declared.Badge.{Badge}
use Rattle.records.specs.declared.Lot.{Lot}
use Rattle.records.specs.declared.Call.{Call}
use Rattle.records.specs.declared.Call.TheVariants.{Open, Use, Duty, End, Time, SetRoom, Grant, SetBadge, SetLot, DropBadge, DropLot}
use Rattle.machine.specs.State.{Scene, State, is_badge, is_lot, access_of, with_heads}
use Rattle.machine.specs.Sweep.{close}
use Rattle.machine.specs.Step.{moved}
use Rattle.machine.specs.Rising.{BelowNext, Rising, RisingBadges, RisingLots, InOrder, ShiftsRising}
use Rattle.machine.proofs.Cases.{shift_keeps}

-- an order of keys, with a test of their sameness
record Keys {K : Type 0} (below same : K → K → Bool) : Type 0 where
  irreflexive : (a : K) → below a a ≡ false
  transitive : (a b c : K) → below a b ≡ true → below b c ≡ true → below a c ≡ true
  total : (a b : K) → below a b ≡ false → same b a ≡ false → below b a ≡ true
  equal : (a b : K) → same a b ≡ true → a ≡ b

numbers : Keys ltb eqb
numbers = record {
  irreflexive = λ a. grind (arith, nat_tests);
  transitive = λ a b c p q. grind (arith, nat_tests);
  total = λ a b p q. grind (arith, nat_tests);
  equal = λ a b p. grind (arith, nat_tests);
}

codes : Keys code_below same_code
codes = record {
  irreflexive = code_below_irreflexive;
  transitive = code_below_transitive;
  total = λ a b p q. code_below_total a b p (same_code_symmetric a b ∙ q);
  equal = same_code_equal;
}

-- registers of any records by any key
module _ {X K : Type 0} (key : X → K) {below same : K → K → Bool} (keys : Keys below same) where
  abbrev goes_before : X → X → Bool
  goes_before x y = below (key x) (key y)

  next_without : (p : X → Bool) (x : X) (xs : List X) → BelowNext goes_before x xs → Rising goes_before xs → BelowNext goes_before x (without p xs)
  next_without p x [] h r = h
  next_without p x (y ∷ ys) h r =
      by_test (p y) (λ b. BelowNext goes_before x (cond b ys (y ∷ without p ys)))
      (λ _. further ys r.0) (λ _. h)
    where
      further : (zs : List X) → BelowNext goes_before y zs → BelowNext goes_before x zs
      further [] k = k
      further (z ∷ zs) k = keys.transitive (key x) (key y) (key z) h k

  -- a record struck
  without_rises : (p : X → Bool) (xs : List X) → Rising goes_before xs → Rising goes_before (without p xs)
  without_rises p [] r = r
  without_rises p (x ∷ xs) r =
      by_test (p x) (λ b. Rising goes_before (cond b xs (x ∷ without p xs)))
      (λ _. r.1) (λ _. (next_without p x xs r.0 r.1, without_rises p xs r.1))

  -- a record changed under its key
  changed_rises : (p : X → Bool) (f : X → X) → ((x : X) → p x ≡ true → key (f x) ≡ key x) →
      (xs : List X) → Rising goes_before xs → Rising goes_before (changed p f xs)
  changed_rises p f keeps [] r = r
  changed_rises p f keeps (x ∷ xs) r =
      by_test (p x) (λ b. p x ≡ b → Rising goes_before (cond b (f x ∷ xs) (x ∷ changed p f xs)))
      (λ _ e. (as_before xs (sym (keeps x e)) r.0, r.1))
      (λ _ e. (next_changed xs r.0, changed_rises p f keeps xs r.1))
      refl
    where
      as_before : (zs : List X) → key x ≡ key (f x) → BelowNext goes_before x zs → BelowNext goes_before (f x) zs
      as_before [] e k = k
      as_before (z ∷ zs) e k = subst (λ (v : K). below v (key z) ≡ true) e k

      next_changed : (zs : List X) → BelowNext goes_before x zs → BelowNext goes_before x (changed p f zs)
      next_changed [] k = k
      next_changed (z ∷ zs) k =
          by_test (p z) (λ b. p z ≡ b → BelowNext goes_before x (cond b (f z ∷ zs) (z ∷ changed p f zs)))
          (λ _ e. subst (λ (v : K). below (key x) v ≡ true) (sym (keeps z e)) k)
          (λ _ _. k)
          refl

  -- a record with a new key, before the first with a larger one
  entered_rises : (new : X) (xs : List X) → some (λ x. same (key x) (key new)) xs ≡ false →
      Rising goes_before xs → Rising goes_before (entered (λ x. below (key new) (key x)) new xs)
  entered_rises new [] e r = (tt, tt)
  entered_rises new (x ∷ xs) e r =
      by_test (below (key new) (key x))
      (λ b. below (key new) (key x) ≡ b → Rising goes_before (cond b (new ∷ x ∷ xs) (x ∷ entered (λ y. below (key new) (key y)) new xs)))
      (λ _ h. (h, r))
      (λ _ h. (next_entered xs (keys.total (key new) (key x) h other.0) r.0, entered_rises new xs other.1 r.1))
      refl
    where
      other : (same (key x) (key new) ≡ false) × (some (λ y. same (key y) (key new)) xs ≡ false)
      other =
          by_test (same (key x) (key new))
          (λ b. is_some (cond b (Some x) (first (λ y. same (key y) (key new)) xs)) ≡ false → (b ≡ false) × (some (λ y. same (key y) (key new)) xs ≡ false))
          (λ _ k. not_both true refl k) (λ _ k. (refl, k)) e

      next_entered : (zs : List X) → below (key x) (key new) ≡ true → BelowNext goes_before x zs →
          BelowNext goes_before x (entered (λ y. below (key new) (key y)) new zs)
      next_entered [] h k = h
      next_entered (z ∷ zs) h k =
          by_test (below (key new) (key z))
          (λ b. BelowNext goes_before x (cond b (new ∷ z ∷ zs) (z ∷ entered (λ y. below (key new) (key y)) new zs)))
          (λ _. h) (λ _. k)

  -- a record put in: in the place of the one with its key, or where it belongs
  put_rises : (new : X) (f : X → X) → ((x : X) → key (f x) ≡ key new) → (xs : List X) → Rising goes_before xs →
      Rising goes_before
      (cond (some (λ x. same (key x) (key new)) xs) (changed (λ x. same (key x) (key new)) f xs)
      (entered (λ x. below (key new) (key x)) new xs))
  put_rises new f keeps xs r =
      by_put (Rising goes_before) (λ x. same (key x) (key new)) (λ x. below (key new) (key x)) f new xs
      (λ _. changed_rises (λ x. same (key x) (key new)) f (λ x h. keeps x ∙ sym (keys.equal (key x) (key new) h)) xs r)
      (λ e. entered_rises new xs e r)

  -- a record goes before all that stand after it, so that none of them has its key
  before_all : (x : X) (xs : List X) → BelowNext goes_before x xs → Rising goes_before xs → (y : X) → In y xs → goes_before x y ≡ true
  before_all x [] h r y i = absurd i
  before_all x (z ∷ xs) h r y i =
      ⊎_elim (λ e. subst (λ v. goes_before x v ≡ true) (sym e) h)
      (λ k. keys.transitive (key x) (key z) (key y) h (before_all z xs r.0 r.1 y k)) i

  rising_apart : (xs : List X) → Rising goes_before xs → Apart key xs
  rising_apart [] r = tt
  rising_apart (x ∷ xs) r = (
    λ y i e. not_both (below (key x) (key x)) (subst (λ (k : K). below (key x) k ≡ true) (sym e) (before_all x xs r.0 r.1 y i)) (keys.irreflexive (key x)),
    rising_apart xs r.1,
  )

-- the records that calls put in
abbrev pub new_badge : ℕ → ℕ → ℕ → ℕ → Badge
new_badge n level role account = record { number = n; level = level; role = role; account = account }

abbrev pub new_lot : List ℕ → ℕ → ℕ → ℕ → ℕ → List ℕ → Lot
new_lot c level role stop limit prices =
    record { code = c; level = level; role = role; stop = eqb stop 1; limit = limit; prices = prices; heads = 0 }

abbrev number_of : Badge → ℕ
number_of b = b.number

abbrev pub code_of : Lot → List ℕ
code_of l = l.code

-- lots in order have different codes
pub lots_apart : (lots : List Lot) → RisingLots lots → Apart code_of lots
lots_apart = rising_apart code_of codes

-- badges
badges_moved : (s : State) (call : Call) → RisingBadges s.scene.badges → RisingBadges (moved s call).scene.badges
badges_moved s (Open n c r units) h = h
badges_moved s (Use serial units) h = h
badges_moved s (Duty serial) h = h
badges_moved s (End serial) h = h
badges_moved s (Time minutes) h = h
badges_moved s (SetRoom t phase) h = h
badges_moved s (Grant account amount) h = h
badges_moved s (SetBadge n level role account) h =
    let b : Badge = new_badge n level role account in
    put_rises number_of numbers b (λ _. b) (λ _. refl) s.scene.badges h
badges_moved s (SetLot c level role stop limit prices) h = h
badges_moved s (DropBadge n) h = without_rises number_of numbers (is_badge n) s.scene.badges h
badges_moved s (DropLot c) h = h

-- lots, whose heads are raised and lowered
pub heads_rise : (c : List ℕ) (f : Lot → ℕ) (lots : List Lot) → RisingLots lots → RisingLots (changed (is_lot c) (λ l. with_heads (f l) l) lots)
heads_rise c f lots h = changed_rises code_of codes (is_lot c) (λ l. with_heads (f l) l) (λ _ _. refl) lots h

pub lots_close : (a : Access) (s : State) → RisingLots s.scene.lots → RisingLots (close a s).scene.lots
lots_close a s h = heads_rise a.lot _ s.scene.lots h

pub lots_moved : (s : State) (call : Call) → RisingLots s.scene.lots → RisingLots (moved s call).scene.lots
lots_moved s (Open n c r units) h = heads_rise c _ s.scene.lots h
lots_moved s (Use serial units) h = h
lots_moved s (Duty serial) h = h
lots_moved s (End serial) h = lots_close (access_of s.scene serial) s h
lots_moved s (Time minutes) h = h
lots_moved s (SetRoom t phase) h = h
lots_moved s (Grant account amount) h = h
lots_moved s (SetBadge n level role account) h = h
lots_moved s (SetLot c level role stop limit prices) h =
    let l : Lot = new_lot c level role stop limit prices in
    put_rises code_of codes l (λ old. with_heads old.heads l) (λ _. refl) s.scene.lots h
lots_moved s (DropBadge n) h = h
lots_moved s (DropLot c) h = without_rises code_of codes (is_lot c) s.scene.lots h

-- both
abbrev Orderly : State → Type 0
Orderly s = InOrder s.scene.badges s.scene.lots

orderly_close : (a : Access) (s : State) → Orderly s → Orderly (close a s)
orderly_close a s h = record { badges_rise = h.badges_rise; lots_rise = lots_close a s h.lots_rise }

orderly_moved : (s : State) (call : Call) → Orderly s → Orderly (moved s call)
orderly_moved s call h = record { badges_rise = badges_moved s call h.badges_rise; lots_rise = lots_moved s call h.lots_rise }

pub shifts_rising : ShiftsRising
shifts_rising p badges lots first last es rise new shift =
    shift_keeps p Orderly (λ a s _. orderly_close a s) (λ s _ call _. orderly_moved s call) shift
    (subst (λ (x : Scene). InOrder x.badges x.lots) (sym new.scene) rise)
