-- The foremost of the accesses that fail: it is one of them and goes before every other, and where there is none, none
-- fails. Assumes nothing.
use Rattle.std.proofs.Common.{◌≡◌, Bool, true, false, cond, not, ◌⊎◌, List, [], ◌∷◌, Some, None, Option, sym, refl, ap, ◌∙◌, subst, inl, inr, ⊎_elim}
use Rattle.records.specs.declared.Access.{Access}
use Rattle.register.specs.Lists.{In}
use Rattle.register.specs.Tests.{by_test, none_some, not_passing, not_both}
use Rattle.usage.specs.Orders.{Ordered}
use Rattle.machine.specs.State.{Policy, Scene, fails}
use Rattle.machine.specs.Sweep.{sooner_of, foremost_from, to_revoke}

-- it is the best so far, or a member that fails
foremost_from_in :
    (before : Access → Access → Bool) (failing : Access → Bool) (best : Option Access) (xs : List Access) (a : Access) →
    foremost_from before failing best xs ≡ Some a → (best ≡ Some a) ⊎ (In a xs × (failing a ≡ true))
foremost_from_in before failing best [] a e = inl e
foremost_from_in before failing best (x ∷ xs) a e =
    let later : (cond (failing x) (sooner_of before x best) best ≡ Some a) ⊎ (In a xs × (failing a ≡ true)) =
    foremost_from_in before failing (cond (failing x) (sooner_of before x best) best) xs a e in
    ⊎_elim (λ h. now_or_before (failing x) refl h) (λ h. inr (inr h.0, h.1)) later
  where
    here : failing x ≡ true → Some x ≡ Some a → (best ≡ Some a) ⊎ (In a (x ∷ xs) × (failing a ≡ true))
    here f h = let same : a ≡ x = cc in inr (inl same, subst (λ v. failing v ≡ true) (sym same) f)

    pick : (o : Option Access) → best ≡ o → failing x ≡ true → sooner_of before x o ≡ Some a → (best ≡ Some a) ⊎ (In a (x ∷ xs) × (failing a ≡ true))
    pick None b f h = here f h
    pick (Some y) b f h =
        by_test (before x y) (λ t. cond t (Some x) (Some y) ≡ Some a → (best ≡ Some a) ⊎ (In a (x ∷ xs) × (failing a ≡ true)))
        (λ _ k. here f k) (λ _ k. inl (b ∙ k)) h

    now_or_before : (t : Bool) → failing x ≡ t → cond t (sooner_of before x best) best ≡ Some a → (best ≡ Some a) ⊎ (In a (x ∷ xs) × (failing a ≡ true))
    now_or_before true f h = pick best refl f h
    now_or_before false f h = inl h

-- the one to revoke is open, and fails
pub to_revoke_in : (p : Policy) (s : Scene) (a : Access) → to_revoke p s ≡ Some a → In a s.accesses × (fails p s a ≡ true)
to_revoke_in p s a e =
    ⊎_elim none_some (λ h. h)
    (foremost_from_in p.before (fails p s) None s.accesses a e)

-- where none is foremost of those that fail, none fails
pub none_fails :
    (before : Access → Access → Bool) (failing : Access → Bool) (best : Option Access) (xs : List Access) →
    foremost_from before failing best xs ≡ None → (best ≡ None) × ((a : Access) → In a xs → failing a ≡ false)
none_fails before failing best [] e = (e, λ a i. absurd i)
none_fails before failing best (x ∷ xs) e =
    let later : (cond (failing x) (sooner_of before x best) best ≡ None) × ((a : Access) → In a xs → failing a ≡ false) =
    none_fails before failing (cond (failing x) (sooner_of before x best) best) xs e in
    let here : (best ≡ None) × (failing x ≡ false) = passed (failing x) best later.0 in
    (here.0, λ a i. ⊎_elim (λ k. ap failing k ∙ here.1) (λ k. later.1 a k) i)
  where
    chosen : (b : Access) (t : Bool) → cond t (Some x) (Some b) ≡ None → ⊥
    chosen b true k = none_some (sym k)
    chosen b false k = none_some (sym k)

    passed : (f : Bool) (o : Option Access) → cond f (sooner_of before x o) o ≡ None → (o ≡ None) × (f ≡ false)
    passed true None k = none_some (sym k)
    passed true (Some b) k = absurd (chosen b (before x b) k)
    passed false o k = (k, refl)

-- an access is another or goes before it
abbrev Leads : (Access → Access → Bool) → Access → Access → Type 0
Leads before a b = (a ≡ b) ⊎ (before a b ≡ true)

module _ (before : Access → Access → Bool) (ordered : Ordered before) (a : Access) where
  -- the foremost is the best so far or goes before it
  foremost_best :
      (f : Bool) (x : Access) (best : Option Access) →
      ((y : Access) → cond f (sooner_of before x best) best ≡ Some y → Leads before a y) →
      (y : Access) → best ≡ Some y → Leads before a y
  foremost_best false x best h y e = h y e
  foremost_best true x None h y e = none_some e
  foremost_best true x (Some b) h y e =
      by_test (before x b)
      (λ t. ((c : Access) → cond t (Some x) (Some b) ≡ Some c → Leads before a c) → Leads before a y)
      (λ k g. let same : b ≡ y = cc in
      let k' : before x y ≡ true = subst (λ (v : Access). before x v ≡ true) same k in
      inr (⊎_elim (λ m. subst (λ (v : Access). before v y ≡ true) (sym m) k') (λ m. ordered.transitive a x y m k') (g x refl)))
      (λ k g. g y e)
      h

  -- what does not go before the best so far comes after the foremost
  behind : (x b : Access) → before x b ≡ false → Leads before a b → (x.serial ≡ a.serial → ⊥) → before a x ≡ true
  behind x b e h other = ordered.connected a x (λ k. other (sym k)) ∙ ap not (⊎_elim at_best past_best h)
    where
      at_best : a ≡ b → before x a ≡ false
      at_best k = subst (λ (v : Access). before x v ≡ false) (sym k) e

      past_best : before a b ≡ true → before x a ≡ false
      past_best k = not_passing (before x a) (λ m. not_both (before x b) (ordered.transitive x a b m k) e)

  ahead : (x : Access) → Leads before a x → (x.serial ≡ a.serial → ⊥) → before a x ≡ true
  ahead x h other = ⊎_elim (λ k. absurd (other (sym (ap (λ (v : Access). v.serial) k)))) (λ k. k) h

  foremost_next :
      (x : Access) (best : Option Access) →
      ((y : Access) → sooner_of before x best ≡ Some y → Leads before a y) →
      (x.serial ≡ a.serial → ⊥) → before a x ≡ true
  foremost_next x None h other = ahead x (h x refl) other
  foremost_next x (Some b) h other =
      by_test (before x b)
      (λ t. before x b ≡ t → ((y : Access) → cond t (Some x) (Some b) ≡ Some y → Leads before a y) → before a x ≡ true)
      (λ _ _ g. ahead x (g x refl) other) (λ _ e g. behind x b e (g b refl) other) refl h

  -- the foremost goes before every other that fails
  pub foremost_goes :
      (failing : Access → Bool) (best : Option Access) (xs : List Access) → foremost_from before failing best xs ≡ Some a →
      ((y : Access) → best ≡ Some y → Leads before a y)
      × ((b : Access) → In b xs → failing b ≡ true → (b.serial ≡ a.serial → ⊥) → before a b ≡ true)
  foremost_goes failing best [] e = (λ y k. let same : a ≡ y = cc in inl same, λ b i. absurd i)
  foremost_goes failing best (x ∷ xs) e =
      let later :
      ((y : Access) → cond (failing x) (sooner_of before x best) best ≡ Some y → Leads before a y)
      × ((b : Access) → In b xs → failing b ≡ true → (b.serial ≡ a.serial → ⊥) → before a b ≡ true) =
      foremost_goes failing (cond (failing x) (sooner_of before x best) best) xs e in (
        foremost_best (failing x) x best later.0,
        λ b i f other. ⊎_elim (λ k. at_next later.0 b k f other) (λ k. later.1 b k f other) i,
      )
    where
      here :
          ((y : Access) → cond (failing x) (sooner_of before x best) best ≡ Some y → Leads before a y) →
          failing x ≡ true → (x.serial ≡ a.serial → ⊥) → before a x ≡ true
      here g f other =
          foremost_next x best
          (subst (λ (t : Bool). (y : Access) → cond t (sooner_of before x best) best ≡ Some y → Leads before a y) f g)
          other

      at_next :
          ((y : Access) → cond (failing x) (sooner_of before x best) best ≡ Some y → Leads before a y) →
          (b : Access) → b ≡ x → failing b ≡ true → (b.serial ≡ a.serial → ⊥) → before a b ≡ true
      at_next g b k =
          subst (λ (v : Access). failing v ≡ true → (v.serial ≡ a.serial → ⊥) → before a v ≡ true) (sym k) (here g)
