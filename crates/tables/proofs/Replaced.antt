-- A record that is found by its key and put back changed is the change of the first with that key. Assumes nothing.
use Rattle.std.proofs.Common.{◌≡◌, ℕ, ◌+◌, Bool, true, false, cond, ◌||◌, List, length, is_ok, is_some, Some, None, Option, Ok, Err, Result, nat_eq, nat_lt, sym, refl, ap, ◌∙◌}
use Rattle.std.specs.Ordering.{is_lt, nat_cmp}
use Rattle.std.specs.Cmp.Lexicographic.{pointwise, slice_cmp}
use Rattle.register.specs.Lists.{first, some, changed, entered}
use Rattle.register.specs.Codes.{code_below}
use Rattle.register.proofs.Lists.{first_in, some_first, changed_known}
use Rattle.register.specs.CodesLemmas.{same_code_equal}
use Rattle.register.specs.Tests.{by_test, by_option, eqb_equal}
use Rattle.register.specs.Slices.{full, insertion, register_inserted}
use Rattle.register.specs.declared.slice.Full.{Full}
use Rattle.records.specs.declared.Access.{Access}
use Rattle.records.specs.declared.Lot.{Lot}
use Rattle.machine.specs.State.{is_lot, is_access, with_heads}
use Rattle.machine.specs.Scenes.{after_use, put_lot}
use Rattle.tables.specs.Tables.{heads_of}
use Rattle.tables.proofs.Coded.{lots_sought, lots_above}

module _ {X K : Type 0} (is : K → X → Bool) (key : X → K) (equal : (k : K) (x : X) → is k x ≡ true → key x ≡ k) where
  replaced : (f : X → X) (xs : List X) (k : K) (x new : X) → first (is k) xs ≡ Some x → new ≡ f x → key new ≡ key x →
      changed (is (key new)) (λ _. new) xs ≡ changed (is k) f xs
  replaced f xs k x new found change same =
      ap (λ j. changed (is j) (λ _. new) xs) (same ∙ equal k x (first_in (is k) xs x found).1) ∙ changed_known (is k) f xs x new found change

pub lot_replaced : (f : Lot → Lot) (xs : List Lot) (c : List ℕ) (x new : Lot) → first (is_lot c) xs ≡ Some x → new ≡ f x → new.code ≡ x.code →
    changed (is_lot new.code) (λ _. new) xs ≡ changed (is_lot c) f xs
lot_replaced = replaced is_lot (λ l. l.code) (λ c l h. same_code_equal l.code c h)

pub access_replaced : (f : Access → Access) (xs : List Access) (n : ℕ) (x new : Access) → first (is_access n) xs ≡ Some x → new ≡ f x → new.serial ≡ x.serial →
    changed (is_access new.serial) (λ _. new) xs ≡ changed (is_access n) f xs
access_replaced = replaced is_access (λ a. a.serial) (λ n a h. eqb_equal a.serial n h)

-- an access put back with other units used and another minute of last use
abbrev pub noted_use : ℕ → ℕ → Access → Access
noted_use used clock a = record {
  serial = a.serial;
  badge = a.badge;
  lot = a.lot;
  right = a.right;
  price = a.price;
  account = a.account;
  held = a.held;
  used = used;
  start = a.start;
  last_use = clock;
  last_duty = a.last_duty;
}

pub use_replaced : (xs : List Access) (n units clock before : ℕ) (x : Access) → first (is_access n) xs ≡ Some x → before ≡ x.used →
    changed (is_access x.serial) (λ _. noted_use (before + units) clock x) xs ≡ changed (is_access n) (after_use units clock) xs
use_replaced xs n units clock before x found e =
    access_replaced (after_use units clock) xs n x (noted_use (before + units) clock x) found (ap (λ u. noted_use (u + units) clock x) e) refl

-- the heads at a lot that is found become others
pub heads_replaced : (f : ℕ → ℕ) (lots : List Lot) (c : List ℕ) (x : Lot) (n : ℕ) → first (is_lot c) lots ≡ Some x → n ≡ f x.heads →
    changed (λ l. pointwise nat_eq l.code x.code) (λ _. with_heads n x) lots ≡ changed (is_lot c) (λ l. with_heads (f l.heads) l) lots
heads_replaced f lots c x n found e =
    ap (λ p. changed p (λ _. with_heads n x) lots) (lots_sought x.code)
    ∙ lot_replaced (λ l. with_heads (f l.heads) l) lots c x (with_heads n x) found (ap (λ k. with_heads k x) e) refl

-- a lot put in the place of the one with its code, with the heads of that one
lot_back : (l : Lot) (lots : List Lot) (heads : ℕ) → some (is_lot l.code) lots ≡ true → heads ≡ heads_of (first (is_lot l.code) lots) →
    changed (is_lot l.code) (λ _. with_heads heads l) lots ≡ put_lot l lots
lot_back l lots heads there e =
    let found : (x : Lot) × (first (is_lot l.code) lots ≡ Some x) = some_first (is_lot l.code) lots there in
    let known : heads ≡ found.0.heads = e ∙ ap heads_of found.1 in
    changed_known (is_lot l.code) (λ old. with_heads old.heads l) lots found.0 (with_heads heads l) found.1 (ap (λ h. with_heads h l) known)
    ∙ sym (ap (λ b. cond b (changed (is_lot l.code) (λ old. with_heads old.heads l) lots) (entered (λ x. code_below l.code x.code) l lots)) there)

pub lot_put_back : (l new : Lot) (lots : List Lot) (heads : ℕ) → new ≡ l → some (is_lot l.code) lots ≡ true → heads ≡ heads_of (first (is_lot l.code) lots) →
    changed (is_lot new.code) (λ _. with_heads heads new) lots ≡ put_lot l lots
lot_put_back l new lots heads same there e = ap (λ n. changed (is_lot n.code) (λ _. with_heads heads n) lots) same ∙ lot_back l lots heads there e

-- a lot without heads that was put in, or had no place
pub record PutIn (l : Lot) (lots more : List Lot) (r : Result (Option Lot) Full) : Type 0 where
  pub accepted : is_ok r ≡ (some (is_lot l.code) lots || nat_lt (length lots) 64)
  pub after : more ≡ cond (is_ok r) (put_lot l lots) lots

module _ (l : Lot) (lots more : List Lot) (heads : ℕ) (r : Result (Option Lot) Full) (none : l.heads ≡ 0) (known : heads ≡ heads_of (first (is_lot l.code) lots)) where
  put_in_words : r ≡ insertion (first (is_lot l.code) lots) (nat_lt (length lots) 64) →
      more ≡ register_inserted r (is_lot l.code) (λ x. code_below l.code x.code) (with_heads heads l) lots → PutIn l lots more r
  put_in_words how after =
      by_option (first (is_lot l.code) lots) (λ o. first (is_lot l.code) lots ≡ o → PutIn l lots more r)
      (λ e _. let absent : some (is_lot l.code) lots ≡ false = ap is_some e in
      let bare : with_heads heads l ≡ l = ap (λ n. with_heads n l) (known ∙ ap heads_of e ∙ sym none) in
      by_test (nat_lt (length lots) 64) (λ b. nat_lt (length lots) 64 ≡ b → PutIn l lots more r)
      (λ t _. let is : r ≡ Ok None = how ∙ ap (λ o. insertion o (nat_lt (length lots) 64)) e ∙ ap (λ b. cond b (Ok None) (Err full)) t in
      record {
        accepted = ap is_ok is ∙ sym (ap (λ b. b || nat_lt (length lots) 64) absent ∙ t);
        after = after ∙ ap (λ q. register_inserted q (is_lot l.code) (λ x. code_below l.code x.code) (with_heads heads l) lots) is
            ∙ ap (λ x. entered (λ y. code_below l.code y.code) x lots) bare
            ∙ sym (ap (λ q. cond (is_ok q) (put_lot l lots) lots) is
            ∙ ap (λ b. cond b (changed (is_lot l.code) (λ old. with_heads old.heads l) lots) (entered (λ x. code_below l.code x.code) l lots)) absent);
      })
      (λ t _. let is : r ≡ Err full = how ∙ ap (λ o. insertion o (nat_lt (length lots) 64)) e ∙ ap (λ b. cond b (Ok None) (Err full)) t in
      record {
        accepted = ap is_ok is ∙ sym (ap (λ b. b || nat_lt (length lots) 64) absent ∙ t);
        after = after ∙ ap (λ q. register_inserted q (is_lot l.code) (λ x. code_below l.code x.code) (with_heads heads l) lots) is
            ∙ sym (ap (λ q. cond (is_ok q) (put_lot l lots) lots) is);
      })
      refl)
      (λ x e _. let there : some (is_lot l.code) lots ≡ true = ap is_some e in
      let is : r ≡ Ok (Some x) = how ∙ ap (λ o. insertion o (nat_lt (length lots) 64)) e in
      record {
        accepted = ap is_ok is ∙ sym (ap (λ b. b || nat_lt (length lots) 64) there);
        after = after ∙ ap (λ q. register_inserted q (is_lot l.code) (λ x. code_below l.code x.code) (with_heads heads l) lots) is
            ∙ lot_back l lots heads there known ∙ sym (ap (λ q. cond (is_ok q) (put_lot l lots) lots) is);
      })
      refl

  pub put_in : r ≡ insertion (first (λ x. pointwise nat_eq x.code l.code) lots) (nat_lt (length lots) 64) →
      more ≡ register_inserted r (λ x. pointwise nat_eq x.code l.code) (λ x. is_lt (slice_cmp nat_cmp l.code x.code)) (with_heads heads l) lots → PutIn l lots more r
  put_in how after =
      put_in_words
      (how ∙ ap (λ p. insertion (first p lots) (nat_lt (length lots) 64)) (lots_sought l.code))
      (after ∙ ap (λ p. register_inserted r p (λ x. is_lt (slice_cmp nat_cmp l.code x.code)) (with_heads heads l) lots) (lots_sought l.code)
      ∙ ap (λ q. register_inserted r (is_lot l.code) q (with_heads heads l) lots) (lots_above l.code))
