-- Whether a list rises, from what std's test of neighbours answers. Assumes nothing.
use Rattle.std.proofs.Common.{◌≡◌, ℕ, zero, suc, ◌+◌, ◌<◌, Bool, true, false, ◌&&◌, List, [], ◌∷◌, length, get_or, refl, ap, ◌∙◌, subst, arith}
use Rattle.std.specs.List.{AllAdjacentBelow, IsAllAdjacentAnswer}
use Rattle.register.specs.Lists.{rises}
use Rattle.register.specs.Tests.{by_test}

one_on : (k : ℕ) → suc k + 1 ≡ suc (k + 1)
one_on k = omega arith

module _ {X : Type 0} (below : X → X → Bool) where
  all_pass : (xs : List X) → AllAdjacentBelow (λ x y. true ≡ below x y) xs (length xs) → true ≡ rises below xs
  all_pass [] pass = refl
  all_pass (x ∷ []) pass = refl
  all_pass (x ∷ y ∷ ys) pass =
      let here : true ≡ below x y = pass 0 x (omega arith) in
      let later : true ≡ rises below (y ∷ ys) = all_pass (y ∷ ys) (λ k d h.
      subst (λ n. true ≡ below (get_or (y ∷ ys) k d) (get_or (x ∷ y ∷ ys) n d)) (one_on k) (pass (suc k) d (omega arith))) in
      λ i. here i && later i

  one_fails : (xs : List X) (k : ℕ) → k + 1 < length xs → ((d : X) → false ≡ below (get_or xs k d) (get_or xs (k + 1) d)) → false ≡ rises below xs
  one_fails [] k h fails = absurd (omega arith)
  one_fails (x ∷ []) k h fails = absurd (omega arith)
  one_fails (x ∷ y ∷ ys) zero h fails = ap (λ b. b && rises below (y ∷ ys)) (fails x)
  one_fails (x ∷ y ∷ ys) (suc k) h fails =
      by_test (below x y) (λ b. false ≡ (b && rises below (y ∷ ys)))
      (λ _. one_fails (y ∷ ys) k (omega arith) (λ d.
      subst (λ n. false ≡ below (get_or (y ∷ ys) k d) (get_or (x ∷ y ∷ ys) n d)) (one_on k) (fails d))) (λ _. refl)

  pub rises_answered : (xs : List X) (r : Bool) → IsAllAdjacentAnswer (λ x y b. b ≡ below x y) xs r → r ≡ rises below xs
  rises_answered xs true pass = all_pass xs pass
  rises_answered xs false fail = one_fails xs fail.0 fail.1 fail.2

  -- and from what it answers of the list that it was given
  pub rises_tested : (xs ys : List X) (r : Bool) → ys ≡ xs → IsAllAdjacentAnswer (λ x y b. b ≡ below x y) ys r → r ≡ rises below xs
  rises_tested xs ys r same answer = rises_answered ys r answer ∙ ap (rises below) same
