-- Members of lists: of appended ones, and of those that registers become when a record is struck, changed or entered.
-- Assumes nothing.
use Rattle.std.proofs.Common.{◌≡◌, suc, ◌≤◌, Bool, true, false, cond, ◌⊎◌, List, [], ◌∷◌, ◌++◌, length, is_some, Some, None, Option, unwrap_or, sym, refl, ap, ◌∙◌, subst, inl, inr, ⊎_elim, arith}
use Rattle.std.specs.List.{find}
use Rattle.register.specs.Lists.{In, first, some, without, changed, entered}
use Rattle.register.specs.Tests.{by_test, by_option, not_both, none_some, not_passing}

module _ {X : Type 0} where
  pub in_append_split : (x : X) (xs ys : List X) → In x (xs ++ ys) → In x xs ⊎ In x ys
  in_append_split x [] ys i = inr i
  in_append_split x (y ∷ xs) ys i = ⊎_elim (λ h. inl (inl h)) (λ h. ⊎_elim (λ k. inl (inr k)) inr (in_append_split x xs ys h)) i

  -- std's search finds the first that passes
  pub find_is_first : (p : X → Bool) (xs : List X) → find p xs ≡ first p xs
  find_is_first p [] = refl
  find_is_first p (x ∷ xs) = ap (cond (p x) (Some x)) (find_is_first p xs)

  -- the first that passes is a member, and passes
  pub first_in : (p : X → Bool) (xs : List X) (x : X) → first p xs ≡ Some x → In x xs × (p x ≡ true)
  first_in p [] x e = none_some e
  first_in p (y ∷ xs) x e =
      by_test (p y) (λ b. p y ≡ b → cond b (Some y) (first p xs) ≡ Some x → In x (y ∷ xs) × (p x ≡ true))
      (λ _ h k. let same : x ≡ y = cc in (inl same, subst (λ v. p v ≡ true) (sym same) h))
      (λ _ h k. let later : In x xs × (p x ≡ true) = first_in p xs x k in (inr later.0, later.1))
      refl e

  pub some_first : (p : X → Bool) (xs : List X) → some p xs ≡ true → (x : X) × (first p xs ≡ Some x)
  some_first p xs e = by_option (first p xs) (λ o. is_some o ≡ true → (x : X) × (o ≡ Some x)) (λ _ h. not_both false h refl) (λ x _ _. (x, refl)) e

  -- where some member passes, the search gives a member that passes, whatever its default
  pub found : (p : X → Bool) (xs : List X) (d : X) → some p xs ≡ true → In (unwrap_or (first p xs) d) xs × (p (unwrap_or (first p xs) d) ≡ true)
  found p xs d e =
      let x : (x : X) × (first p xs ≡ Some x) = some_first p xs e in
      subst (λ (o : Option X). In (unwrap_or o d) xs × (p (unwrap_or o d) ≡ true)) (sym x.1) (first_in p xs x.0 x.1)

  pub some_in : (p : X → Bool) (xs : List X) (x : X) → In x xs → p x ≡ true → some p xs ≡ true
  some_in p [] x i h = absurd i
  some_in p (y ∷ xs) x i h =
      by_test (p y) (λ b. p y ≡ b → is_some (cond b (Some y) (first p xs)) ≡ true)
      (λ _ _. refl)
      (λ _ e. ⊎_elim (λ k. not_both (p x) h (ap p k ∙ e)) (λ k. some_in p xs x k h) i)
      refl

  -- a member that passes, where one does
  pub passing : (p : X → Bool) (xs : List X) → some p xs ≡ true → (x : X) × (In x xs × (p x ≡ true))
  passing p xs e = let x : (x : X) × (first p xs ≡ Some x) = some_first p xs e in (x.0, first_in p xs x.0 x.1)

  -- where none passes, no member does
  pub none_in : (p : X → Bool) (xs : List X) (x : X) → some p xs ≡ false → In x xs → p x ≡ false
  none_in p xs x none i = not_passing (p x) (λ h. not_both (some p xs) (some_in p xs x i h) none)

  pub in_without : (p : X → Bool) (xs : List X) (x : X) → In x (without p xs) → In x xs
  in_without p [] x i = i
  in_without p (y ∷ xs) x i =
      by_test (p y) (λ b. In x (cond b xs (y ∷ without p xs)) → In x (y ∷ xs))
      (λ _ h. inr h) (λ _ h. ⊎_elim inl (λ k. inr (in_without p xs x k)) h) i

  -- a member that does not pass stays
  pub stays_without : (p : X → Bool) (xs : List X) (x : X) → In x xs → p x ≡ false → In x (without p xs)
  stays_without p [] x i h = i
  stays_without p (y ∷ xs) x i h =
      by_test (p y) (λ b. p y ≡ b → In x (cond b xs (y ∷ without p xs)))
      (λ _ e. ⊎_elim (λ k. not_both (p x) (ap p k ∙ e) h) (λ k. k) i)
      (λ _ e. ⊎_elim inl (λ k. inr (stays_without p xs x k h)) i)
      refl

  -- a member after a change is one from before, or the change of the first that passes
  pub in_changed : (p : X → Bool) (f : X → X) (xs : List X) (x : X) → In x (changed p f xs) → In x xs ⊎ ((y : X) × ((first p xs ≡ Some y) × (x ≡ f y)))
  in_changed p f [] x i = absurd i
  in_changed p f (y ∷ xs) x i =
      by_test (p y) (λ b. In x (cond b (f y ∷ xs) (y ∷ changed p f xs)) → In x (y ∷ xs) ⊎ ((z : X) × ((cond b (Some y) (first p xs) ≡ Some z) × (x ≡ f z))))
      (λ _ h. ⊎_elim (λ k. inr (y, (refl, k))) (λ k. inl (inr k)) h)
      (λ _ h. ⊎_elim (λ k. inl (inl k)) (λ k. ⊎_elim (λ m. inl (inr m)) inr (in_changed p f xs x k)) h) i

  -- a member from before stays through a change, or is itself changed
  pub stays_changed : (p : X → Bool) (f : X → X) (xs : List X) (x : X) → In x xs →
      In x (changed p f xs) ⊎ ((p x ≡ true) × In (f x) (changed p f xs))
  stays_changed p f [] x i = absurd i
  stays_changed p f (y ∷ xs) x i =
      by_test (p y) (λ b. p y ≡ b → In x (cond b (f y ∷ xs) (y ∷ changed p f xs)) ⊎ ((p x ≡ true) × In (f x) (cond b (f y ∷ xs) (y ∷ changed p f xs))))
      (λ _ h. ⊎_elim (λ k. inr (subst (λ v. p v ≡ true) (sym k) h, inl (ap f k))) (λ k. inl (inr k)) i)
      (λ _ h. ⊎_elim (λ k. inl (inl k)) (λ k. ⊎_elim (λ m. inl (inr m)) (λ m. inr (m.0, inr m.1)) (stays_changed p f xs x k)) i)
      refl

  pub in_entered : (p : X → Bool) (new : X) (xs : List X) (x : X) → In x (entered p new xs) → (x ≡ new) ⊎ In x xs
  in_entered p new [] x i = ⊎_elim inl (λ k. absurd k) i
  in_entered p new (y ∷ xs) x i =
      by_test (p y) (λ b. In x (cond b (new ∷ y ∷ xs) (y ∷ entered p new xs)) → (x ≡ new) ⊎ In x (y ∷ xs))
      (λ _ h. h)
      (λ _ h. ⊎_elim (λ k. inr (inl k)) (λ k. ⊎_elim inl (λ m. inr (inr m)) (in_entered p new xs x k)) h)
      i

  pub stays_entered : (p : X → Bool) (new : X) (xs : List X) (x : X) → In x xs → In x (entered p new xs)
  stays_entered p new [] x i = absurd i
  stays_entered p new (y ∷ xs) x i =
      by_test (p y) (λ b. In x (cond b (new ∷ y ∷ xs) (y ∷ entered p new xs)))
      (λ _. inr i) (λ _. ⊎_elim inl (λ k. inr (stays_entered p new xs x k)) i)

  -- what holds of every member, after a change, an entry and an append
  pub all_changed : (P : X → Type 0) (p : X → Bool) (f : X → X) (xs : List X) → ((x : X) → In x xs → P x) →
      ((x : X) → first p xs ≡ Some x → P (f x)) → (x : X) → In x (changed p f xs) → P x
  all_changed P p f xs all new x i = ⊎_elim (λ h. all x h) (λ h. subst P (sym h.1.1) (new h.0 h.1.0)) (in_changed p f xs x i)

  pub all_entered : (P : X → Type 0) (p : X → Bool) (new : X) (xs : List X) → ((x : X) → In x xs → P x) → P new →
      (x : X) → In x (entered p new xs) → P x
  all_entered P p new xs all holds x i = ⊎_elim (λ h. subst P (sym h) holds) (λ h. all x h) (in_entered p new xs x i)

  pub all_append : (P : X → Type 0) (new : X) (xs : List X) → ((x : X) → In x xs → P x) → P new → (x : X) → In x (xs ++ (new ∷ [])) → P x
  all_append P new xs all holds x i =
      ⊎_elim (λ h. all x h) (λ h. ⊎_elim (λ k. subst P (sym k) holds) (λ k. absurd k) h) (in_append_split x xs (new ∷ []) i)

  -- whether one passes, after a change, an entry and a strike
  pub some_changed : (p q : X → Bool) (f : X → X) (xs : List X) → ((x : X) → q x ≡ true → p x ≡ true → p (f x) ≡ true) →
      some p xs ≡ true → some p (changed q f xs) ≡ true
  some_changed p q f xs keeps e =
      let x : (x : X) × (In x xs × (p x ≡ true)) = passing p xs e in
      ⊎_elim (λ h. some_in p (changed q f xs) x.0 h x.1.1)
      (λ h. some_in p (changed q f xs) (f x.0) h.1 (keeps x.0 h.0 x.1.1))
      (stays_changed q f xs x.0 x.1.0)

  pub some_entered : (p q : X → Bool) (new : X) (xs : List X) → some p xs ≡ true → some p (entered q new xs) ≡ true
  some_entered p q new xs e =
      let x : (x : X) × (In x xs × (p x ≡ true)) = passing p xs e in
      some_in p (entered q new xs) x.0 (stays_entered q new xs x.0 x.1.0) x.1.1

  pub some_without : (p q : X → Bool) (xs : List X) → ((x : X) → p x ≡ true → q x ≡ false) → some p xs ≡ true → some p (without q xs) ≡ true
  some_without p q xs other e =
      let x : (x : X) × (In x xs × (p x ≡ true)) = passing p xs e in
      some_in p (without q xs) x.0 (stays_without q xs x.0 x.1.0 (other x.0 x.1.1)) x.1.1

  -- a record put in: in the place of the first that passes, or where none does, entered
  pub by_put : (P : List X → Type 0) (p q : X → Bool) (f : X → X) (new : X) (xs : List X) →
      (some p xs ≡ true → P (changed p f xs)) → (some p xs ≡ false → P (entered q new xs)) → P (cond (some p xs) (changed p f xs) (entered q new xs))
  by_put P p q f new xs replaced added = by_test (some p xs) (λ b. P (cond b (changed p f xs) (entered q new xs))) replaced added

  pub length_changed : (p : X → Bool) (f : X → X) (xs : List X) → length (changed p f xs) ≡ length xs
  length_changed p f [] = refl
  length_changed p f (y ∷ xs) =
      by_test (p y) (λ b. length (cond b (f y ∷ xs) (y ∷ changed p f xs)) ≡ suc (length xs)) (λ _. refl) (λ _. ap suc (length_changed p f xs))

  pub length_entered : (p : X → Bool) (new : X) (xs : List X) → length (entered p new xs) ≡ suc (length xs)
  length_entered p new [] = refl
  length_entered p new (y ∷ xs) =
      by_test (p y) (λ b. length (cond b (new ∷ y ∷ xs) (y ∷ entered p new xs)) ≡ suc (suc (length xs))) (λ _. refl) (λ _. ap suc (length_entered p new xs))

  -- one member fewer, where one passes
  pub length_without : (p : X → Bool) (xs : List X) → some p xs ≡ true → suc (length (without p xs)) ≡ length xs
  length_without p [] e = not_both false e refl
  length_without p (y ∷ xs) e =
      by_test (p y) (λ b. is_some (cond b (Some y) (first p xs)) ≡ true → suc (length (cond b xs (y ∷ without p xs))) ≡ suc (length xs))
      (λ _ _. refl) (λ _ h. ap suc (length_without p xs h)) e

  -- and none more, whether one passes or not
  pub length_without_most : (p : X → Bool) (xs : List X) → length (without p xs) ≤ length xs
  length_without_most p [] = omega arith
  length_without_most p (y ∷ xs) =
      let later : length (without p xs) ≤ length xs = length_without_most p xs in
      by_test (p y) (λ b. length (cond b xs (y ∷ without p xs)) ≤ suc (length xs)) (λ _. omega arith) (λ _. omega arith)

  -- a change where none passes, and a change whose subject is known
  pub changed_none : (p : X → Bool) (f : X → X) (xs : List X) → first p xs ≡ None → changed p f xs ≡ xs
  changed_none p f [] e = refl
  changed_none p f (y ∷ xs) e =
      by_test (p y) (λ b. cond b (Some y) (first p xs) ≡ None → cond b (f y ∷ xs) (y ∷ changed p f xs) ≡ y ∷ xs)
      (λ _ h. none_some (sym h)) (λ _ h. ap (λ ys. y ∷ ys) (changed_none p f xs h)) e

  pub without_none : (p : X → Bool) (xs : List X) → first p xs ≡ None → without p xs ≡ xs
  without_none p [] e = refl
  without_none p (y ∷ xs) e =
      by_test (p y) (λ b. cond b (Some y) (first p xs) ≡ None → cond b xs (y ∷ without p xs) ≡ y ∷ xs)
      (λ _ h. none_some (sym h)) (λ _ h. ap (λ ys. y ∷ ys) (without_none p xs h)) e

  pub changed_known : (p : X → Bool) (f : X → X) (xs : List X) (x new : X) → first p xs ≡ Some x → new ≡ f x → changed p (λ _. new) xs ≡ changed p f xs
  changed_known p f [] x new e same = refl
  changed_known p f (y ∷ xs) x new e same =
      by_test (p y) (λ b. cond b (Some y) (first p xs) ≡ Some x → cond b (new ∷ xs) (y ∷ changed p (λ _. new) xs) ≡ cond b (f y ∷ xs) (y ∷ changed p f xs))
      (λ _ h. let known : y ≡ x = cc in ap (λ v. v ∷ xs) (same ∙ ap f (sym known)))
      (λ _ h. ap (λ ys. y ∷ ys) (changed_known p f xs x new h same)) e
