-- Lists whose members have different keys, and what the changes of a register keep of them. Assumes nothing.
use Rattle.std.proofs.Common.{◌≡◌, Bool, true, false, cond, ◌⊎◌, List, [], ◌∷◌, ◌++◌, Some, sym, refl, ap, ◌∙◌, subst, inl, inr, ⊎_elim}
use Rattle.register.specs.Lists.{In, first, without, changed}
use Rattle.register.specs.Tests.{by_test, not_both, not_passing}
use Rattle.register.proofs.Lists.{first_in, in_without, all_changed, all_append}

-- no two members have the same key
abbrev pub Apart : {X K : Type 0} → (X → K) → List X → Type 0
Apart key [] = Unit {0}
Apart key (x ∷ xs) = ((y : _) → In y xs → key x ≡ key y → ⊥) × Apart key xs

module _ {X K : Type 0} (key : X → K) where
  pub apart_without : (p : X → Bool) (xs : List X) → Apart key xs → Apart key (without p xs)
  apart_without p [] a = a
  apart_without p (y ∷ xs) a =
      by_test (p y) (λ b. Apart key (cond b xs (y ∷ without p xs)))
      (λ _. a.1) (λ _. (λ z i. a.0 z (in_without p xs z i), apart_without p xs a.1))

  pub apart_changed : (p : X → Bool) (f : X → X) (xs : List X) → ((x : X) → key (f x) ≡ key x) → Apart key xs → Apart key (changed p f xs)
  apart_changed p f [] keeps a = a
  apart_changed p f (y ∷ xs) keeps a =
      by_test (p y) (λ b. Apart key (cond b (f y ∷ xs) (y ∷ changed p f xs)))
      (λ _. (λ z i e. a.0 z i (sym (keeps y) ∙ e), a.1))
      (λ _. (
        all_changed (λ z. key y ≡ key z → ⊥) p f xs a.0 (λ z h e. a.0 z (first_in p xs z h).0 (e ∙ keeps z)),
        apart_changed p f xs keeps a.1,
      ))

  pub apart_append : (xs : List X) (new : X) → ((y : X) → In y xs → key y ≡ key new → ⊥) → Apart key xs → Apart key (xs ++ (new ∷ []))
  apart_append [] new other a = (λ z i. absurd i, a)
  apart_append (y ∷ xs) new other a =
      (all_append (λ z. key y ≡ key z → ⊥) new xs a.0 (other y (inl refl)), apart_append xs new (λ z i. other z (inr i)) a.1)

  -- a test that the key of a member alone passes finds the member
  pub first_apart : (p : X → Bool) (xs : List X) (x : X) → p x ≡ true → ((y : X) → p y ≡ true → key y ≡ key x) → Apart key xs → In x xs → first p xs ≡ Some x
  first_apart p [] x passes alone a i = absurd i
  first_apart p (y ∷ xs) x passes alone a i =
      by_test (p y) (λ b. p y ≡ b → cond b (Some y) (first p xs) ≡ Some x)
      (λ _ e. ⊎_elim (λ k. ap Some (sym k)) (λ k. absurd (a.0 x k (alone y e))) i)
      (λ _ e. ⊎_elim (λ k. not_both (p x) passes (ap p k ∙ e)) (λ k. first_apart p xs x passes alone a.1 k) i)
      refl

  -- a member after a change at a key is one of another key, or the changed one
  pub in_changed_apart : (p : X → Bool) (f : X → X) (k : K) (xs : List X) (x : X) → ((y : X) → p y ≡ true → key y ≡ k) → Apart key xs →
      In x (changed p f xs) → (In x xs × (p x ≡ false)) ⊎ ((y : X) × (In y xs × ((p y ≡ true) × (x ≡ f y))))
  in_changed_apart p f k [] x tells_key a i = absurd i
  in_changed_apart p f k (y ∷ xs) x tells_key a i =
      by_test (p y)
      (λ b. p y ≡ b → In x (cond b (f y ∷ xs) (y ∷ changed p f xs)) →
      (In x (y ∷ xs) × (p x ≡ false)) ⊎ ((z : X) × (In z (y ∷ xs) × ((p z ≡ true) × (x ≡ f z)))))
      (λ _ e h. ⊎_elim (λ m. inr (y, (inl refl, (e, m))))
      (λ m. inl (inr m, not_passing (p x) (λ t. a.0 x m (tells_key y e ∙ sym (tells_key x t))))) h)
      (λ _ e h. ⊎_elim (λ m. inl (inl m, subst (λ v. p v ≡ false) (sym m) e))
      (λ m. ⊎_elim (λ n. inl (inr n.0, n.1)) (λ n. inr (n.0, (inr n.1.0, n.1.1))) (in_changed_apart p f k xs x tells_key a.1 m)) h)
      refl i
