-- Each change of a scene keeps its accesses placed: at badges and lots that are registered, and counted by their heads.
-- Assumes nothing.
use Rattle.std.proofs.Common.{◌≡◌, ℕ, ◌+◌, ◌-◌, Bool, true, false, cond, ltb, List, [], ◌∷◌, ◌++◌, Some, sym, ap, ◌∙◌, subst, ⊎_elim, arith}
use Rattle.std.proofs.lemmas.Bool.Decides.{nat_tests}
use Rattle.records.specs.declared.Access.{Access}
use Rattle.records.specs.declared.Badge.{Badge}
use Rattle.records.specs.declared.Lot.{Lot}
use Rattle.register.specs.Lists.{In, first, some, without, changed}
use Rattle.register.specs.Codes.{same_code, code_below}
use Rattle.register.specs.Tests.{not_both, not_passing}
use Rattle.register.proofs.Lists.{first_in, none_in, in_without, all_changed, all_entered, all_append, some_changed, some_entered, some_without, by_put}
use Rattle.register.proofs.Apart.{Apart, in_changed_apart}
use Rattle.register.specs.CodesLemmas.{same_code_symmetric, same_code_equal}
use Rattle.machine.specs.State.{Scene, is_badge, is_lot, is_access, of_badge, at_lot, with_accesses, with_heads}
use Rattle.machine.specs.Scenes.{put_badge, put_lot}
use Rattle.machine.specs.Sweep.{enter, strike}
use Rattle.machine.specs.Placed.{Placed, HeadsCounted, open_at}
use Rattle.machine.proofs.Registers.{code_of}
use Rattle.machine.proofs.PlacingCounts.{open_at_append, open_at_none, open_at_without, open_at_changed}

-- each access has its lot, and each lot's heads are the accesses open at it
abbrev pub Lotted : List Access → List Lot → Type 0
Lotted xs lots = (a : Access) → In a xs → some (is_lot a.lot) lots ≡ true

abbrev pub Counted : List Access → List Lot → Type 0
Counted xs lots = (l : Lot) → In l lots → l.heads ≡ open_at l.code xs

-- heads change, and no code does
pub lotted_heads : (xs : List Access) (c : List ℕ) (g : ℕ → ℕ) (lots : List Lot) → Lotted xs lots →
    Lotted xs (changed (is_lot c) (λ l. with_heads (g l.heads) l) lots)
lotted_heads xs c g lots known a i = some_changed (is_lot a.lot) (is_lot c) (λ l. with_heads (g l.heads) l) lots (λ _ _ e. e) (known a i)

-- the heads of an access's lot change as the count there does, and the counts of other lots stay
counted_heads : (a : Access) (g : ℕ → ℕ) (lots : List Lot) (xs ys : List Access) → Apart code_of lots → Counted xs lots →
    ((c : List ℕ) → open_at c ys ≡ cond (at_lot c a) (g (open_at c xs)) (open_at c xs)) →
    Counted ys (changed (is_lot a.lot) (λ l. with_heads (g l.heads) l) lots)
counted_heads a g lots xs ys apart counted counts l i =
    ⊎_elim (λ h. counted l h.0 ∙ sym (count l false h.1))
    (λ h. subst (λ (v : Lot). v.heads ≡ open_at v.code ys) (sym h.1.1.1) (ap g (counted h.0 h.1.0) ∙ sym (count h.0 true h.1.1.0)))
    (in_changed_apart code_of (is_lot a.lot) (λ m. with_heads (g m.heads) m) a.lot lots l (λ m. same_code_equal m.code a.lot) apart i)
  where
    count : (m : Lot) (b : Bool) → is_lot a.lot m ≡ b → open_at m.code ys ≡ cond b (g (open_at m.code xs)) (open_at m.code xs)
    count m b e =
        counts m.code ∙ ap (λ t. cond t (g (open_at m.code xs)) (open_at m.code xs)) (same_code_symmetric a.lot m.code ∙ e)

-- an access enters, at a badge and a lot that are registered
pub placed_entered : (a : Access) (s : Scene) → some (is_badge a.badge) s.badges ≡ true → some (is_lot a.lot) s.lots ≡ true →
    Placed s → Placed (enter a s)
placed_entered a s badge lot h = record {
  badges_known = all_append (λ b. some (is_badge b.badge) s.badges ≡ true) a s.accesses h.badges_known badge;
  lots_known =
      lotted_heads (s.accesses ++ (a ∷ [])) a.lot (λ n. n + 1) s.lots
      (all_append (λ b. some (is_lot b.lot) s.lots ≡ true) a s.accesses h.lots_known lot);
}

pub counted_entered : (a : Access) (s : Scene) → Apart code_of s.lots → HeadsCounted s → HeadsCounted (enter a s)
counted_entered a s apart h = counted_heads a (λ n. n + 1) s.lots s.accesses (s.accesses ++ (a ∷ [])) apart h one_more
  where
    one_more : (c : List ℕ) → open_at c (s.accesses ++ (a ∷ [])) ≡ cond (at_lot c a) (open_at c s.accesses + 1) (open_at c s.accesses)
    one_more c =
        let more : open_at c (s.accesses ++ (a ∷ [])) ≡ open_at c s.accesses + cond (at_lot c a) 1 0 = open_at_append c s.accesses a in
        grind (arith, nat_tests)

-- the access of a serial is struck
pub placed_struck : (a : Access) (s : Scene) → Placed s → Placed (strike a s)
placed_struck a s h = record {
  badges_known = λ b j. h.badges_known b (in_without (is_access a.serial) s.accesses b j);
  lots_known = λ b j.
      lotted_heads s.accesses a.lot (λ n. n - 1) s.lots h.lots_known b (in_without (is_access a.serial) s.accesses b j);
}

pub counted_struck : (a : Access) (s : Scene) → first (is_access a.serial) s.accesses ≡ Some a → Apart code_of s.lots →
    HeadsCounted s → HeadsCounted (strike a s)
counted_struck a s this_one apart h =
    counted_heads a (λ n. n - 1) s.lots s.accesses (without (is_access a.serial) s.accesses) apart h one_fewer
  where
    one_fewer : (c : List ℕ) →
        open_at c (without (is_access a.serial) s.accesses) ≡ cond (at_lot c a) (open_at c s.accesses - 1) (open_at c s.accesses)
    one_fewer c =
        let less : open_at c s.accesses ≡ cond (at_lot c a) 1 0 + open_at c (without (is_access a.serial) s.accesses) =
        open_at_without c (is_access a.serial) s.accesses a this_one in
        grind (arith, nat_tests)

-- an access changes, and keeps its badge and its lot
pub placed_changed : (p : Access → Bool) (f : Access → Access) (s : Scene) → ((a : Access) → (f a).badge ≡ a.badge) → ((a : Access) → (f a).lot ≡ a.lot) →
    Placed s → Placed (with_accesses s (changed p f s.accesses))
placed_changed p f s badge lot h = record {
  badges_known =
      all_changed (λ b. some (is_badge b.badge) s.badges ≡ true) p f s.accesses h.badges_known
      (λ b e. subst (λ (n : ℕ). some (is_badge n) s.badges ≡ true) (sym (badge b)) (h.badges_known b (first_in p s.accesses b e).0));
  lots_known =
      all_changed (λ b. some (is_lot b.lot) s.lots ≡ true) p f s.accesses h.lots_known
      (λ b e. subst (λ (c : List ℕ). some (is_lot c) s.lots ≡ true) (sym (lot b)) (h.lots_known b (first_in p s.accesses b e).0));
}

pub counted_changed : (p : Access → Bool) (f : Access → Access) (s : Scene) → ((a : Access) → (f a).lot ≡ a.lot) →
    HeadsCounted s → HeadsCounted (with_accesses s (changed p f s.accesses))
counted_changed p f s lot h l i = h l i ∙ sym (open_at_changed l.code p f s.accesses lot)

pub some_put_badge : (b : Badge) (badges : List Badge) (n : ℕ) → some (is_badge n) badges ≡ true → some (is_badge n) (put_badge b badges) ≡ true
some_put_badge b badges n e =
    by_put (λ xs. some (is_badge n) xs ≡ true) (is_badge b.number) (λ x. ltb b.number x.number) (λ _. b) b badges
    (λ _. some_changed (is_badge n) (is_badge b.number) (λ _. b) badges (λ x same this. grind (arith, nat_tests)) e)
    (λ _. some_entered (is_badge n) (λ x. ltb b.number x.number) b badges e)

pub some_put_lot : (l : Lot) (lots : List Lot) (c : List ℕ) → some (is_lot c) lots ≡ true → some (is_lot c) (put_lot l lots) ≡ true
some_put_lot l lots c e =
    by_put (λ xs. some (is_lot c) xs ≡ true) (is_lot l.code) (λ x. code_below l.code x.code) (λ old. with_heads old.heads l) l lots
    (λ _. some_changed (is_lot c) (is_lot l.code) (λ old. with_heads old.heads l) lots
    (λ x same this. subst (λ (d : List ℕ). same_code d c ≡ true) (same_code_equal x.code l.code same) this) e)
    (λ _. some_entered (is_lot c) (λ x. code_below l.code x.code) l lots e)

-- a lot that is put in keeps the heads of the one that it replaces, or has none and no access is at it
pub counted_put_lot : (l : Lot) (lots : List Lot) (xs : List Access) → l.heads ≡ 0 → ((a : Access) → In a xs → some (is_lot a.lot) lots ≡ true) →
    Counted xs lots → Counted xs (put_lot l lots)
counted_put_lot l lots xs new known counted =
    by_put (Counted xs) (is_lot l.code) (λ x. code_below l.code x.code) (λ old. with_heads old.heads l) l lots
    (λ _. all_changed (λ m. m.heads ≡ open_at m.code xs) (is_lot l.code) (λ old. with_heads old.heads l) lots counted
    (λ m e. let its : In m lots × (is_lot l.code m ≡ true) = first_in (is_lot l.code) lots m e in
    counted m its.0 ∙ ap (λ (d : List ℕ). open_at d xs) (same_code_equal m.code l.code its.1)))
    (λ none. all_entered (λ m. m.heads ≡ open_at m.code xs) (λ x. code_below l.code x.code) l lots counted
    (new ∙ sym (open_at_none l.code xs (λ a i. not_passing (at_lot l.code a) (λ e. away none a i (same_code_equal a.lot l.code e))))))
  where
    away : some (is_lot l.code) lots ≡ false → (a : Access) → In a xs → a.lot ≡ l.code → ⊥
    away none a i e = not_both (some (is_lot l.code) lots) (subst (λ (d : List ℕ). some (is_lot d) lots ≡ true) e (known a i)) none

-- what is dropped is no open access's
pub some_drop_badge : (n : ℕ) (badges : List Badge) (xs : List Access) → some (of_badge n) xs ≡ false → (a : Access) → In a xs →
    some (is_badge a.badge) badges ≡ true → some (is_badge a.badge) (without (is_badge n) badges) ≡ true
some_drop_badge n badges xs none a i e =
    let other : of_badge n a ≡ false = none_in (of_badge n) xs a none i in
    some_without (is_badge a.badge) (is_badge n) badges (λ x same. grind (arith, nat_tests)) e

pub some_drop_lot : (c : List ℕ) (lots : List Lot) (xs : List Access) → some (at_lot c) xs ≡ false → (a : Access) → In a xs →
    some (is_lot a.lot) lots ≡ true → some (is_lot a.lot) (without (is_lot c) lots) ≡ true
some_drop_lot c lots xs none a i e =
    some_without (is_lot a.lot) (is_lot c) lots
    (λ x same. subst (λ (d : List ℕ). same_code d c ≡ false) (sym (same_code_equal x.code a.lot same)) (none_in (at_lot c) xs a none i)) e
