-- How many accesses are open at a lot: one more where one enters, one fewer where one is struck. Assumes nothing.
use Rattle.std.proofs.Common.{◌≡◌, ℕ, ◌+◌, ◌≤◌, Bool, false, cond, List, [], ◌∷◌, ◌++◌, length, Some, sym, refl, ap, ◌∙◌, inl, inr, arith}
use Rattle.std.proofs.lemmas.Bool.Decides.{nat_tests}
use Rattle.records.specs.declared.Access.{Access}
use Rattle.register.specs.Lists.{In, first, without, changed}
use Rattle.register.specs.Codes.{same_code}
use Rattle.register.proofs.Totals.{total, total_append, total_without, total_changed}
use Rattle.machine.specs.State.{at_lot}
use Rattle.machine.specs.Placed.{open_at}

-- 1 for an access at the lot
abbrev one_at : List ℕ → Access → ℕ
one_at c a = cond (at_lot c a) 1 0

open_at_total : (c : List ℕ) (xs : List Access) → open_at c xs ≡ total (one_at c) xs
open_at_total c [] = refl
open_at_total c (x ∷ xs) = ap (λ n. one_at c x + n) (open_at_total c xs)

-- an access more, and one fewer
pub open_at_append : (c : List ℕ) (xs : List Access) (a : Access) → open_at c (xs ++ (a ∷ [])) ≡ open_at c xs + cond (at_lot c a) 1 0
open_at_append c xs a = omega (arith, open_at_total c (xs ++ (a ∷ [])), total_append (one_at c) xs a, open_at_total c xs)

pub open_at_without : (c : List ℕ) (p : Access → Bool) (xs : List Access) (a : Access) → first p xs ≡ Some a →
    open_at c xs ≡ cond (at_lot c a) 1 0 + open_at c (without p xs)
open_at_without c p xs a e = omega (arith, open_at_total c xs, total_without (one_at c) p xs a e, open_at_total c (without p xs))

-- a change that keeps the lots of accesses
pub open_at_changed : (c : List ℕ) (p : Access → Bool) (f : Access → Access) (xs : List Access) → ((a : Access) → (f a).lot ≡ a.lot) →
    open_at c (changed p f xs) ≡ open_at c xs
open_at_changed c p f xs keeps =
    open_at_total c (changed p f xs) ∙ total_changed (one_at c) p f xs (λ a. ap (λ l. cond (same_code l c) 1 0) (keeps a)) ∙ sym (open_at_total c xs)

-- none where no access is at the lot
pub open_at_none : (c : List ℕ) (xs : List Access) → ((a : Access) → In a xs → at_lot c a ≡ false) → open_at c xs ≡ 0
open_at_none c [] none = refl
open_at_none c (x ∷ xs) none =
    let here : at_lot c x ≡ false = none x (inl refl) in
    let later : open_at c xs ≡ 0 = open_at_none c xs (λ a i. none a (inr i)) in
    ap (λ b. cond b 1 0 + open_at c xs) here ∙ omega arith

-- no more than all
pub open_at_most : (c : List ℕ) (xs : List Access) → open_at c xs ≤ length xs
open_at_most c [] = omega arith
open_at_most c (x ∷ xs) = let later : open_at c xs ≤ length xs = open_at_most c xs in grind (arith, nat_tests)
