-- Arrays that a closure fills, and how many answers of all rows pass. Assumes nothing.
use Rattle.std.proofs.Common.{◌≡◌, ℕ, ◌+◌, ◌<◌, List, [], ◌∷◌, get_or, map, zero, suc, sym, ap, ◌∙◌, refl, subst, arith}
use denote.Param.Members.{Mut}
use Rattle.std.specs.Fn.{Called}
use Rattle.std.specs.Array.{IsFromFnResult, IsFromFnResultFrom}
use Rattle.std.specs.List.{range_with_len, flat_map, sum_by}
use Rattle.std.proofs.lemmas.List.FromFn.{fill_by_all}
use Rattle.std.proofs.lemmas.List.Sums.{sum_by-append, sum_by-cons}

-- where each call leaves the closure as it was and answers h of the index
module _ {F B : Type 0} {g : Mut F (ℕ × Unit {0}) B} (h : ℕ → B) (f : F) (ys : List B) (d : B) (calls : (i : ℕ) (y : B) (q : F) → Called g f (i, tt) y q → (q ≡ f) × (y ≡ h i)) where
  at_each : (p : F) (i n j k : ℕ) → p ≡ f → IsFromFnResultFrom g p ys i n → j < n → i + j ≡ k → get_or ys k d ≡ h k
  at_each p i zero j k e made lt is = absurd (omega arith)
  at_each p i (suc n) zero k e made lt is =
      let at : i ≡ k = omega arith in
      subst (λ m. get_or ys m d ≡ h m) at (made.2.1 d ∙ (calls i made.1 made.0 (rw e at made.3)).1)
  at_each p i (suc n) (suc j) k e made lt is =
      at_each made.0 (i + 1) n j k (calls i made.1 made.0 (rw e at made.3)).0 made.4 (omega arith) (omega arith)

  pub items_from_fn : {n : ℕ} → IsFromFnResult g f ys n → ys ≡ map h (range_with_len 0 n)
  items_from_fn {n} made = fill_by_all h ys n d made.long (λ k lt. at_each f 0 n k k refl made.each lt (omega arith))

-- the sum over rows is the sum over all that is in them
pub sum_by-flat_map : (f : ℕ → ℕ) (rows : List (List ℕ)) → sum_by f (flat_map (λ row. row) rows) ≡ sum_by (sum_by f) rows
sum_by-flat_map f [] = refl
sum_by-flat_map f (row ∷ rows) =
    sum_by-append f row (flat_map (λ r. r) rows) ∙ ap (λ rest. sum_by f row + rest) (sum_by-flat_map f rows) ∙ sym (sum_by-cons (sum_by f) row rows)
