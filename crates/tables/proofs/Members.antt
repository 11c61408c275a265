-- Std's tests of a list, in the repository's words. Assumes nothing.
use Rattle.std.proofs.Common.{◌≡◌, Bool, cond, ◌&&◌, ◌||◌, List, [], ◌∷◌, is_some, Some, refl, ap}
use Rattle.std.specs.List.{list_any, list_all}
use Rattle.register.specs.Lists.{first, some, all}
use Rattle.register.specs.Tests.{by_test}

module _ {X : Type 0} (p : X → Bool) where
  pub any_is_some : (xs : List X) → list_any p xs ≡ some p xs
  any_is_some [] = refl
  any_is_some (x ∷ xs) =
      by_test (p x) (λ b. (b || list_any p xs) ≡ is_some (cond b (Some x) (first p xs))) (λ _. refl) (λ _. any_is_some xs)

  pub all_is_all : (xs : List X) → list_all p xs ≡ all p xs
  all_is_all [] = refl
  all_is_all (x ∷ xs) = ap (λ b. p x && b) (all_is_all xs)
