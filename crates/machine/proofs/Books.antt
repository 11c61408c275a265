-- The books by home: what is granted there is spent, held or left. Assumes nothing.
use Rattle.std.proofs.Common.{◌≡◌, ℕ, ◌+◌, ◌-◌, ◌<◌, ◌≤◌, true, cond, eqb, List, length, get_or, set, sym, refl, ap, ◌∙◌, subst, arith, length-set, get_or-set_other, get_or-set_same}
use lib.Seq.{set-get_or}
use Rattle.std.proofs.lemmas.Bool.Decides.{nat_tests}
use Rattle.register.specs.Tests.{by_test, not_both, eqb_same, eqb_equal, eqb_other}
use Rattle.usage.specs.Books.{Books, home_in, home, left_at, held_at, spent_at, Empty, Sound, after_add, after_hold, after_settle, add_returns, hold_returns, settle_returns, if_accepted, add_leaves, hold_leaves, settle_leaves}
use Rattle.usage.proofs.Nothing.{nothing_at}

-- an amount at one home alone
abbrev pub only_at : ℕ → ℕ → ℕ → ℕ
only_at place amount h = cond (eqb place h) amount 0

-- books with these homes, in which each home's grants are what is spent, held and left
pub record Even (homes : List ℕ) (b : Books) (granted held spent : ℕ → ℕ) : Type 0 where
  pub same_homes : b.homes ≡ homes
  pub sound : Sound b
  pub held_is : (h : ℕ) → get_or b.held h 0 ≡ held h
  pub spent_is : (h : ℕ) → get_or b.spent h 0 ≡ spent h
  pub total : (h : ℕ) → granted h ≡ spent h + (held h + get_or b.left h 0)

home_same : {homes : List ℕ} {b : Books} {g d s : ℕ → ℕ} → Even homes b g d s → (a : ℕ) → home b a ≡ home_in homes a
home_same even a = ap (λ (v : List ℕ). get_or v a 0) even.same_homes

-- other words for the same sums
pub even_alike : {homes : List ℕ} {b : Books} {g g' d d' s s' : ℕ → ℕ} → Even homes b g d s →
    ((h : ℕ) → g' h ≡ g h) → ((h : ℕ) → d' h ≡ d h) → ((h : ℕ) → s' h ≡ s h) → Even homes b g' d' s'
even_alike even eg ed es = record {
  same_homes = even.same_homes;
  sound = even.sound;
  held_is = λ h. even.held_is h ∙ sym (ed h);
  spent_is = λ h. even.spent_is h ∙ sym (es h);
  total = λ h. omega (arith, eg h, ed h, es h, even.total h);
}

pub even_empty : (b : Books) → Empty b → Sound b → Even b.homes b (λ _. 0) (λ _. 0) (λ _. 0)
even_empty b empty sound = record {
  same_homes = refl;
  sound = sound;
  held_is = λ h. ap (λ (v : List ℕ). get_or v h 0) empty.held ∙ nothing_at 16 h;
  spent_is = λ h. ap (λ (v : List ℕ). get_or v h 0) empty.spent ∙ nothing_at 16 h;
  total = λ h. let left : get_or b.left h 0 ≡ 0 = ap (λ (v : List ℕ). get_or v h 0) empty.left ∙ nothing_at 16 h in omega arith;
}

only_here : (place n : ℕ) → only_at place n place ≡ n
only_here place n = ap (λ t. cond t n 0) (eqb_same place)

only_elsewhere : (place n h : ℕ) → (place ≡ h → ⊥) → only_at place n h ≡ 0
only_elsewhere place n h apart = ap (λ t. cond t n 0) (eqb_other place h apart)

-- a fact of every home: at the place, and elsewhere
by_place : (place h : ℕ) (P : ℕ → Type 0) → P place → ((place ≡ h → ⊥) → P h) → P h
by_place place h P here elsewhere =
    by_test (eqb place h) (λ _. P h)
    (λ e. subst P (eqb_equal place h e) here)
    (λ e. elsewhere (λ k. not_both (eqb place h) (subst (λ v. eqb place v ≡ true) k (eqb_same place)) e))

-- books with new numbers at one home
abbrev books_set : Books → ℕ → ℕ → ℕ → ℕ → Books
books_set b place l d s = record { homes = b.homes; left = set b.left place l; held = set b.held place d; spent = set b.spent place s }

even_set : (homes : List ℕ) (b : Books) (g d s : ℕ → ℕ) → Even homes b g d s → (place l' d' s' : ℕ) (granted held spent : ℕ → ℕ) →
    place < 16 → l' + (d' + s') ≤ 1000000000 →
    granted place ≡ s' + (d' + l') → held place ≡ d' → spent place ≡ s' →
    ((h : ℕ) → (place ≡ h → ⊥) → (granted h ≡ g h) × ((held h ≡ d h) × (spent h ≡ s h))) →
    Even homes (books_set b place l' d' s') granted held spent
even_set homes b g d s even place l' d' s' granted held spent within most here_g here_d here_s elsewhere = record {
  same_homes = even.same_homes;
  sound = record {
    accounts = even.sound.accounts;
    lefts = length-set b.left place l' ∙ even.sound.lefts;
    helds = length-set b.held place d' ∙ even.sound.helds;
    spents = length-set b.spent place s' ∙ even.sound.spents;
    within = even.sound.within;
    most = λ h.
        by_place place h
        (λ v. get_or (set b.left place l') v 0 + (get_or (set b.held place d') v 0 + get_or (set b.spent place s') v 0) ≤ 1000000000)
        (omega (arith, left_here, held_here, spent_here))
        (λ k. omega (arith, other b.left l' h k, other b.held d' h k, other b.spent s' h k, even.sound.most h));
  };
  held_is = λ h.
      by_place place h (λ v. get_or (set b.held place d') v 0 ≡ held v)
      (held_here ∙ sym here_d)
      (λ k. other b.held d' h k ∙ even.held_is h ∙ sym (elsewhere h k).1.0);
  spent_is = λ h.
      by_place place h (λ v. get_or (set b.spent place s') v 0 ≡ spent v)
      (spent_here ∙ sym here_s)
      (λ k. other b.spent s' h k ∙ even.spent_is h ∙ sym (elsewhere h k).1.1);
  total = λ h.
      by_place place h (λ v. granted v ≡ spent v + (held v + get_or (set b.left place l') v 0))
      (omega (arith, left_here))
      (λ k. omega (arith, other b.left l' h k, even.total h, (elsewhere h k).0, (elsewhere h k).1.0, (elsewhere h k).1.1));
}
  where
    same : (xs : List ℕ) (n : ℕ) → length xs ≡ 16 → get_or (set xs place n) place 0 ≡ n
    same xs n long = get_or-set_same xs place n 0 (omega arith)

    other : (xs : List ℕ) (n h : ℕ) → (place ≡ h → ⊥) → get_or (set xs place n) h 0 ≡ get_or xs h 0
    other xs n h apart = get_or-set_other xs place h n 0 (λ e. apart (sym e))

    left_here : get_or (set b.left place l') place 0 ≡ l'
    left_here = same b.left l' even.sound.lefts

    held_here : get_or (set b.held place d') place 0 ≡ d'
    held_here = same b.held d' even.sound.helds

    spent_here : get_or (set b.spent place s') place 0 ≡ s'
    spent_here = same b.spent s' even.sound.spents

-- an accepted grant
pub even_add : {homes : List ℕ} {b : Books} {g d s : ℕ → ℕ} (a amount : ℕ) → Even homes b g d s → add_returns a amount b ≡ 0 →
    Even homes (add_leaves a amount b) (λ h. g h + only_at (home_in homes a) amount h) d s
even_add {homes} {b} {g} {d} {s} a amount even accepts =
    subst (λ v. Even homes (add_leaves a amount b) (λ h. g h + only_at v amount h) d s) (home_same even a)
    (subst (λ v. Even homes v (λ h. g h + only_at (home b a) amount h) d s) (sym leaves)
    (even_set homes b g d s even (home b a) (left_at b a + amount) (held_at b a) (spent_at b a) (λ h. g h + only_at (home b a) amount h) d s
    (even.sound.within a) fits
    (omega (arith, only_here (home b a) amount, even.total (home b a), even.held_is (home b a), even.spent_is (home b a)))
    (sym (even.held_is (home b a))) (sym (even.spent_is (home b a)))
    (λ h k. (omega (arith, only_elsewhere (home b a) amount h k), (refl, refl)))))
  where
    fits : left_at b a + amount + (held_at b a + spent_at b a) ≤ 1000000000
    fits = grind (arith, nat_tests)

    leaves : add_leaves a amount b ≡ books_set b (home b a) (left_at b a + amount) (held_at b a) (spent_at b a)
    leaves =
        ap (λ n. if_accepted n (after_add a amount b) b) accepts
        ∙ ap (λ (v : List ℕ). record { homes = b.homes; left = set b.left (home b a) (left_at b a + amount); held = v; spent = b.spent })
        (sym (set-get_or b.held (home b a) 0))
        ∙ ap (λ (v : List ℕ). record { homes = b.homes; left = set b.left (home b a) (left_at b a + amount); held = set b.held (home b a) (held_at b a); spent = v })
        (sym (set-get_or b.spent (home b a) 0))

-- a hold that is accepted
pub even_hold : {homes : List ℕ} {b : Books} {g d s : ℕ → ℕ} (a amount : ℕ) → Even homes b g d s → hold_returns a amount b ≡ 0 →
    Even homes (hold_leaves a amount b) g (λ h. d h + only_at (home_in homes a) amount h) s
even_hold {homes} {b} {g} {d} {s} a amount even accepts =
    subst (λ v. Even homes (hold_leaves a amount b) g (λ h. d h + only_at v amount h) s) (home_same even a)
    (subst (λ v. Even homes v g (λ h. d h + only_at (home b a) amount h) s) (sym leaves)
    (even_set homes b g d s even (home b a) (left_at b a - amount) (held_at b a + amount) (spent_at b a) g (λ h. d h + only_at (home b a) amount h) s
    (even.sound.within a) (omega (arith, fits, even.sound.most (home b a)))
    (omega (arith, fits, even.total (home b a), even.held_is (home b a), even.spent_is (home b a)))
    (omega (arith, only_here (home b a) amount, even.held_is (home b a))) (sym (even.spent_is (home b a)))
    (λ h k. (refl, (omega (arith, only_elsewhere (home b a) amount h k), refl)))))
  where
    fits : amount ≤ left_at b a
    fits = grind (arith, nat_tests)

    leaves : hold_leaves a amount b ≡ books_set b (home b a) (left_at b a - amount) (held_at b a + amount) (spent_at b a)
    leaves =
        ap (λ n. if_accepted n (after_hold a amount b) b) accepts
        ∙ ap (λ (v : List ℕ). record { homes = b.homes; left = set b.left (home b a) (left_at b a - amount); held = set b.held (home b a) (held_at b a + amount); spent = v })
        (sym (set-get_or b.spent (home b a) 0))

-- one of the holds is at most what is held at its home, and so can be settled
hold_held : {homes : List ℕ} {b : Books} {g d s : ℕ → ℕ} (a hold : ℕ) (held : ℕ → ℕ) → Even homes b g d s →
    ((h : ℕ) → held h + only_at (home_in homes a) hold h ≡ d h) → hold ≤ held_at b a
hold_held {homes} {b} a hold held even falls =
    subst (λ v. hold ≤ get_or b.held v 0) (sym (home_same even a))
    (omega (arith, falls (home_in homes a), only_here (home_in homes a) hold, even.held_is (home_in homes a)))

pub settle_accepted : {homes : List ℕ} {b : Books} {g d s : ℕ → ℕ} (a hold charge : ℕ) (held : ℕ → ℕ) → Even homes b g d s → a ≤ 15 → charge ≤ hold →
    ((h : ℕ) → held h + only_at (home_in homes a) hold h ≡ d h) → settle_returns a hold charge b ≡ 0
settle_accepted {homes} {b} a hold charge held even known covered falls =
    let enough : hold ≤ held_at b a = hold_held a hold held even falls in
    let small : hold ≤ 1000000000 = omega (arith, enough, even.sound.most (home b a)) in
    grind (arith, nat_tests)

-- a settlement of one of the holds: what is held falls by the hold
pub even_settle : {homes : List ℕ} {b : Books} {g d s : ℕ → ℕ} (a hold charge : ℕ) (held : ℕ → ℕ) → Even homes b g d s → a ≤ 15 → charge ≤ hold →
    ((h : ℕ) → held h + only_at (home_in homes a) hold h ≡ d h) →
    Even homes (settle_leaves a hold charge b) g held (λ h. s h + only_at (home_in homes a) charge h)
even_settle {homes} {b} {g} {d} {s} a hold charge held even known covered falls =
    subst (λ v. ((h : ℕ) → held h + only_at v hold h ≡ d h) → Even homes (settle_leaves a hold charge b) g held (λ h. s h + only_at v charge h))
    (home_same even a) own falls
  where
    own : ((h : ℕ) → held h + only_at (home b a) hold h ≡ d h) → Even homes (settle_leaves a hold charge b) g held (λ h. s h + only_at (home b a) charge h)
    own less =
        subst (λ v. Even homes v g held (λ h. s h + only_at (home b a) charge h)) (sym (ap (λ n. if_accepted n (after_settle a hold charge b) b) accepts))
        (even_set homes b g d s even (home b a) (left_at b a + (hold - charge)) (held_at b a - hold) (spent_at b a + charge)
        g held (λ h. s h + only_at (home b a) charge h)
        (even.sound.within a) (omega (arith, enough, even.sound.most (home b a)))
        (omega (arith, enough, even.total (home b a), even.held_is (home b a), even.spent_is (home b a)))
        (omega (arith, here, even.held_is (home b a)))
        (omega (arith, only_here (home b a) charge, even.spent_is (home b a)))
        (λ h k. (refl, (omega (arith, less h, only_elsewhere (home b a) hold h k), omega (arith, only_elsewhere (home b a) charge h k)))))
      where
        here : held (home b a) + hold ≡ d (home b a)
        here = omega (arith, less (home b a), only_here (home b a) hold)

        enough : hold ≤ held_at b a
        enough = hold_held a hold held even falls

        accepts : settle_returns a hold charge b ≡ 0
        accepts = settle_accepted a hold charge held even known covered falls
