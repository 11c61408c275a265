-- The lines, the open accesses and the books kept together, line by line. Assumes nothing.
use Rattle.std.proofs.Common.{◌≡◌, ℕ, ◌+◌, ◌≤◌, Bool, true, false, cond, ◌&&◌, eqb, List, [], ◌∷◌, ◌++◌, Some, sym, refl, ap, ◌∙◌, subst, append_assoc, append-nil, mul-le-mul_right, arith}
use Rattle.records.specs.declared.Access.{Access}
use Rattle.records.specs.declared.Line.{Line}
use Rattle.records.specs.declared.Kind.{Kind}
use Rattle.records.specs.declared.Kind.TheVariants.{Opened, Revoked}
use Rattle.register.specs.Lists.{In, first, without, changed}
use Rattle.register.specs.Tests.{by_test}
use Rattle.register.proofs.Lists.{first_in, in_without, all_changed, all_append}
use Rattle.register.proofs.Apart.{Apart}
use Rattle.register.proofs.Totals.{total, total_append, total_without}
use Rattle.usage.specs.Books.{home_in, add_returns, hold_returns, settle_returns}
use Rattle.machine.specs.State.{Policy, Scene, State, is_access, situation, hold_of, charge_of, with_accesses, with_scene}
use Rattle.machine.specs.Lines.{opening_line, closing_line}
use Rattle.machine.specs.Sweep.{close, sweep}
use Rattle.machine.specs.Step.{opened, with_grant}
use Rattle.machine.specs.Journal.{opens, closes, is_opening, is_closing}
use Rattle.machine.specs.Law.{still_open, amounts}
use Rattle.machine.proofs.Foremost.{to_revoke_in}
use Rattle.machine.proofs.Cases.{by_sweep}
use Rattle.machine.proofs.Serials.{serial_of, ApartSerials, first_access, apart_close}
use Rattle.machine.proofs.LinesAppended.{amounts_more}
use Rattle.machine.proofs.Lines.{Tag, tag_of, tags, line_tag, pending, tags_append, tags_without, in_tags, Told, told_denied, told_opened, told_closed}
use Rattle.machine.proofs.Books.{only_at, Even, even_alike, even_add, even_hold, even_settle, settle_accepted}

-- the hold of a tag at a home, and the holds of tags there
abbrev hold_at : List ℕ → ℕ → Tag → ℕ
hold_at homes h t = only_at (home_in homes t.account) t.hold h

abbrev pub owed : List ℕ → ℕ → List Tag → ℕ
owed homes h ts = total (hold_at homes h) ts

owed_tags : (homes : List ℕ) (h : ℕ) (xs : List Access) → owed homes h (tags xs) ≡ total (λ a. hold_at homes h (tag_of a)) xs
owed_tags homes h [] = refl
owed_tags homes h (a ∷ xs) = ap (λ n. hold_at homes h (tag_of a) + n) (owed_tags homes h xs)

owed_without : (homes : List ℕ) (h : ℕ) (xs : List Access) (a : Access) → first (is_access a.serial) xs ≡ Some a →
    owed homes h (tags (without (is_access a.serial) xs)) + hold_at homes h (tag_of a) ≡ owed homes h (tags xs)
owed_without homes h xs a e =
    omega (
      arith,
      owed_tags homes h xs,
      owed_tags homes h (without (is_access a.serial) xs),
      total_without (λ b. hold_at homes h (tag_of b)) (is_access a.serial) xs a e,
    )

-- the holds of what the lines leave open are the amounts of the lines that opened it
pub owed_pending : (homes : List ℕ) (h : ℕ) (all ls : List Line) → owed homes h (pending all ls) ≡ amounts (home_in homes) h (still_open all) ls
owed_pending homes h all [] = refl
owed_pending homes h all (l ∷ ls) =
    let later : owed homes h (pending all ls) ≡ amounts (home_in homes) h (still_open all) ls = owed_pending homes h all ls in
    by_test (still_open all l)
    (λ b. owed homes h (cond b (line_tag l ∷ pending all ls) (pending all ls)) ≡ cond (b && eqb (home_in homes l.account) h) l.amount 0 + amounts (home_in homes) h (still_open all) ls)
    (λ _. ap (λ n. hold_at homes h (line_tag l) + n) later) (λ _. omega arith)

spent_same : (homes : List ℕ) (h : ℕ) (ls : List Line) (l : Line) → closes l ≡ false →
    amounts (home_in homes) h closes (ls ++ (l ∷ [])) ≡ amounts (home_in homes) h closes ls
spent_same homes h ls l c =
    let nothing : cond (closes l && eqb (home_in homes l.account) h) l.amount 0 ≡ 0 = ap (λ b. cond (b && eqb (home_in homes l.account) h) l.amount 0) c in
    omega (arith, amounts_more (home_in homes) h closes ls l)

tags_changed : (p : Access → Bool) (f : Access → Access) → ((a : Access) → tag_of (f a) ≡ tag_of a) → (xs : List Access) → tags (changed p f xs) ≡ tags xs
tags_changed p f same [] = refl
tags_changed p f same (x ∷ xs) =
    let later : tags (changed p f xs) ≡ tags xs = tags_changed p f same xs in
    by_test (p x) (λ b. tags (cond b (f x ∷ xs) (x ∷ changed p f xs)) ≡ tag_of x ∷ tags xs)
    (λ _. ap (λ z. z ∷ tags xs) (same x)) (λ _. ap (λ z. tag_of x ∷ z) later)

-- an access within its hold, at an account that there is
pub record Fits (a : Access) : Type 0 where
  pub covered : a.used ≤ a.held
  pub known : a.account ≤ 15

-- the lines tell of the open accesses; each home's grants are the charges, the open holds and what is left
pub record Kept (homes : List ℕ) (s : State) (ls : List Line) (g : ℕ → ℕ) : Type 0 where
  pub told : Told (tags s.scene.accesses) s.next_serial ls
  pub even : Even homes s.books g (λ h. owed homes h (tags s.scene.accesses)) (λ h. amounts (home_in homes) h closes ls)
  pub fits : (a : Access) → In a s.scene.accesses → Fits a

module _ {homes : List ℕ} {s : State} {ls : List Line} {g : ℕ → ℕ} (kept : Kept homes s ls g) where
  -- other words for the same grants
  pub kept_alike : {g' : ℕ → ℕ} → ((h : ℕ) → g' h ≡ g h) → Kept homes s ls g'
  kept_alike e = record { told = kept.told; even = even_alike kept.even e (λ _. refl) (λ _. refl); fits = kept.fits }

  -- a scene with the same tags
  pub kept_scene : (x : Scene) → tags s.scene.accesses ≡ tags x.accesses → ((a : Access) → In a x.accesses → Fits a) →
      Kept homes (with_scene s x) ls g
  kept_scene x e fits = record {
    told = subst (λ v. Told v s.next_serial ls) e kept.told;
    even = subst (λ v. Even homes s.books g (λ h. owed homes h v) (λ h. amounts (home_in homes) h closes ls)) e kept.even;
    fits = fits;
  }

  -- the access of a serial changed, with its tag as it was
  pub kept_changed : (serial : ℕ) (f : Access → Access) → ((a : Access) → tag_of (f a) ≡ tag_of a) →
      ((a : Access) → first (is_access serial) s.scene.accesses ≡ Some a → Fits a → (f a).used ≤ (f a).held) →
      Kept homes (with_scene s (with_accesses s.scene (changed (is_access serial) f s.scene.accesses))) ls g
  kept_changed serial f same within =
      kept_scene (with_accesses s.scene (changed (is_access serial) f s.scene.accesses))
      (sym (tags_changed (is_access serial) f same s.scene.accesses))
      (all_changed Fits (is_access serial) f s.scene.accesses kept.fits
      (λ a e. new_fits a e (kept.fits a (first_in (is_access serial) s.scene.accesses a e).0)))
    where
      new_fits : (a : Access) → first (is_access serial) s.scene.accesses ≡ Some a → Fits a → Fits (f a)
      new_fits a e h = record { covered = within a e h; known = subst (λ (t : Tag). t.account ≤ 15) (sym (same a)) h.known }

  -- a grant
  pub kept_granted : (account amount : ℕ) → add_returns account amount s.books ≡ 0 →
      Kept homes (with_grant account amount s) ls (λ h. g h + only_at (home_in homes account) amount h)
  kept_granted account amount accepts = record { told = kept.told; even = even_add account amount kept.even accepts; fits = kept.fits }

  -- a line that neither opens nor closes
  pub kept_denied : (l : Line) → opens l ≡ false → closes l ≡ false → Kept homes s (ls ++ (l ∷ [])) g
  kept_denied l o c = record {
    told = told_denied kept.told l o c;
    even = even_alike kept.even (λ _. refl) (λ _. refl) (λ h. spent_same homes h ls l c);
    fits = kept.fits;
  }

  -- a line that opens an access, with its hold
  pub kept_opened : (a : Access) (minute cause : ℕ) → a.serial ≡ s.next_serial → Fits a → hold_returns a.account (hold_of a) s.books ≡ 0 →
      Kept homes (opened a s) (ls ++ (opening_line Opened s.next_serial minute cause a ∷ [])) g
  kept_opened a minute cause serial fits accepts = record {
    told = subst (λ v. Told v (s.next_serial + 1) (ls ++ (l ∷ []))) (sym one_tag_more) (told_opened kept.told l refl refl refl);
    even =
        even_alike (even_hold a.account (hold_of a) kept.even accepts) (λ _. refl)
        (λ h. ap (owed homes h) one_tag_more ∙ total_append (hold_at homes h) (tags s.scene.accesses) (line_tag l))
        (λ h. spent_same homes h ls l refl);
    fits = all_append Fits a s.scene.accesses kept.fits fits;
  }
    where
      l : Line
      l = opening_line Opened s.next_serial minute cause a

      one_tag_more : tags (s.scene.accesses ++ (a ∷ [])) ≡ tags s.scene.accesses ++ (line_tag l ∷ [])
      one_tag_more =
          let same : tag_of a ≡ line_tag (opening_line Opened s.next_serial minute cause a) = cc in
          tags_append s.scene.accesses (a ∷ []) ∙ ap (λ t. tags s.scene.accesses ++ (t ∷ [])) same

  -- a line that closes an open access, settled
  -- the hold of an open access can be settled
  pub kept_settles : (a : Access) → Apart serial_of s.scene.accesses → In a s.scene.accesses →
      settle_returns a.account (hold_of a) (charge_of a) s.books ≡ 0
  kept_settles a apart i =
      settle_accepted a.account (hold_of a) (charge_of a) (λ h. owed homes h (tags (without (is_access a.serial) s.scene.accesses))) kept.even (kept.fits a i).known (mul-le-mul_right a.price (kept.fits a i).covered)
      (λ h. owed_without homes h s.scene.accesses a (first_access s.scene.accesses a apart i))

  pub kept_closed : (a : Access) (kind : Kind) (minute cause : ℕ) → is_opening kind ≡ false → is_closing kind ≡ true →
      Apart serial_of s.scene.accesses → In a s.scene.accesses → Kept homes (close a s) (ls ++ (closing_line kind minute cause a ∷ [])) g
  kept_closed a kind minute cause o c apart i = record {
    told =
        subst (λ v. Told v s.next_serial (ls ++ (closing_line kind minute cause a ∷ []))) (sym (tags_without a.serial s.scene.accesses apart))
        (told_closed kept.told (closing_line kind minute cause a) o c (in_tags s.scene.accesses a i));
    even =
        even_alike
        (even_settle a.account (hold_of a) (charge_of a) (λ h. owed homes h (tags (without (is_access a.serial) s.scene.accesses)))
        kept.even (kept.fits a i).known (mul-le-mul_right a.price (kept.fits a i).covered)
        (λ h. owed_without homes h s.scene.accesses a (first_access s.scene.accesses a apart i)))
        (λ _. refl) (λ _. refl)
        (λ h. amounts_more (home_in homes) h closes ls (closing_line kind minute cause a)
        ∙ ap (λ b. amounts (home_in homes) h closes ls + cond (b && eqb (home_in homes a.account) h) (charge_of a) 0) c);
    fits = λ b k. kept.fits b (in_without (is_access a.serial) s.scene.accesses b k);
  }

-- every revocation of a sweep is such a line
pub kept_swept : {homes : List ℕ} {g : ℕ → ℕ} (p : Policy) (s : State) (ls : List Line) → ApartSerials s → Kept homes s ls g →
    Kept homes (sweep p s).after (ls ++ (sweep p s).lines) g
kept_swept {homes} {g} p s ls =
    by_sweep p (λ t w. (ms : List Line) → ApartSerials t → Kept homes t ms g → Kept homes w.after (ms ++ w.lines) g)
    (λ t rest e ms apart k. subst (λ v. Kept homes t v g) (sym (append-nil ms)) k)
    (λ t a rest e later ms apart k.
    let l : Line = closing_line Revoked t.scene.room.clock (p.staying (situation t.scene a)) a in
    subst (λ v. Kept homes (rest (close a t)).after v g) (append_assoc ms (l ∷ []) (rest (close a t)).lines)
    (later (ms ++ (l ∷ [])) (apart_close a t apart)
    (kept_closed k a Revoked t.scene.room.clock (p.staying (situation t.scene a)) refl refl apart.apart (to_revoke_in p t.scene a e).0)))
    s ls
