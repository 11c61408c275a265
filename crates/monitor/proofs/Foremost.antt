-- The foremost of those that fail, found with their answers, is the one to revoke with its answer. Assumes nothing.
use Rattle.std.proofs.Common.{◌≡◌, ℕ, ◌≤◌, cond, not, eqb, List, [], ◌∷◌, length, drop, Some, None, Option, sym, refl, ap, ◌∙◌}
use Rattle.std.proofs.lemmas.List.{drop_all}
use Rattle.register.specs.Tests.{by_test}
use Rattle.records.specs.declared.Access.{Access}
use Rattle.machine.specs.State.{Policy, Scene, situation, fails}
use Rattle.machine.specs.Sweep.{sooner_of, foremost_from}
use Rattle.monitor.specs.declared.policy.Failing.{Failing}
use Rattle.monitor.specs.Failing.{failing, with_cause, ahead, foremost_with, foremost_of}

module _ (p : Policy) (s : Scene) where
  ahead_is : (a : Access) (best : Option Access) →
      ahead p.before (failing a (p.staying (situation s a))) (with_cause p s best) ≡ with_cause p s (sooner_of p.before a best)
  ahead_is a None = refl
  ahead_is a (Some b) =
      by_test (p.before a b)
      (λ t. cond t (Some (failing a (p.staying (situation s a)))) (Some (failing b (p.staying (situation s b)))) ≡ with_cause p s (cond t (Some a) (Some b)))
      (λ _. refl) (λ _. refl)

  foremost_with_is : (a : Access) (best : Option Access) →
      foremost_with p.before a (p.staying (situation s a)) (with_cause p s best) ≡ with_cause p s (cond (fails p s a) (sooner_of p.before a best) best)
  foremost_with_is a best =
      by_test (eqb (p.staying (situation s a)) 0)
      (λ t. cond t (with_cause p s best) (ahead p.before (failing a (p.staying (situation s a))) (with_cause p s best))
      ≡ with_cause p s (cond (not t) (sooner_of p.before a best) best))
      (λ _. refl) (λ _. ahead_is a best)

  pub foremost_is : (best : Option Access) (xs : List Access) →
      foremost_of p s (with_cause p s best) xs ≡ with_cause p s (foremost_from p.before (fails p s) best xs)
  foremost_is best [] = refl
  foremost_is best (a ∷ xs) =
      ap (λ o. foremost_of p s o xs) (foremost_with_is a best) ∙ foremost_is (cond (fails p s a) (sooner_of p.before a best) best) xs

  -- all of them
  pub foremost_all : (best : Option Failing) (xs ys : List Access) (i : ℕ) → length xs ≤ i → xs ≡ ys → foremost_of p s best (drop i xs) ≡ foremost_of p s None xs →
      best ≡ with_cause p s (foremost_from p.before (fails p s) None ys)
  foremost_all best xs ys i h same inv =
      sym (ap (foremost_of p s best) (drop_all i xs h)) ∙ inv ∙ ap (foremost_of p s None) same ∙ foremost_is None ys
