-- A number of each member, summed over a list, and what the changes of a register make of the sum. Assumes nothing.
use Rattle.std.proofs.Common.{◌≡◌, ℕ, ◌+◌, Bool, cond, List, [], ◌∷◌, ◌++◌, Some, refl, ap, arith}
use Rattle.register.specs.Lists.{first, without, changed}
use Rattle.register.specs.Tests.{by_test, none_some}

abbrev pub total : {X : Type 0} → (X → ℕ) → List X → ℕ
total n [] = 0
total n (x ∷ xs) = n x + total n xs

module _ {X : Type 0} (n : X → ℕ) where
  pub total_append : (xs : List X) (new : X) → total n (xs ++ (new ∷ [])) ≡ total n xs + n new
  total_append [] new = omega arith
  total_append (x ∷ xs) new = omega (arith, total_append xs new)

  -- the first that passes is the one that leaves
  pub total_without : (p : X → Bool) (xs : List X) (x : X) → first p xs ≡ Some x → total n xs ≡ n x + total n (without p xs)
  total_without p [] x e = none_some e
  total_without p (y ∷ xs) x e =
      by_test (p y) (λ b. cond b (Some y) (first p xs) ≡ Some x → n y + total n xs ≡ n x + total n (cond b xs (y ∷ without p xs)))
      (λ _ h. let same : y ≡ x = cc in ap (λ v. n v + total n xs) same)
      (λ _ h. omega (arith, total_without p xs x h)) e

  -- a change that keeps each member's number
  pub total_changed : (p : X → Bool) (f : X → X) (xs : List X) → ((x : X) → n (f x) ≡ n x) → total n (changed p f xs) ≡ total n xs
  total_changed p f [] keeps = refl
  total_changed p f (y ∷ xs) keeps =
      by_test (p y) (λ b. total n (cond b (f y ∷ xs) (y ∷ changed p f xs)) ≡ n y + total n xs)
      (λ _. ap (λ m. m + total n xs) (keeps y)) (λ _. ap (λ m. n y + m) (total_changed p f xs keeps))
