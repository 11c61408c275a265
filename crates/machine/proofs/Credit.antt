-- What lines and books show of every shift from new: the serials, what is open, and the credit. Assumes nothing.
use Rattle.std.proofs.Common.{◌≡◌, ℕ, ◌+◌, true, List, [], ◌∷◌, ◌++◌, get_or, sym, ap, ◌∙◌, subst, arith}
use Rattle.records.specs.declared.Access.{Access}
use Rattle.records.specs.declared.Badge.{Badge}
use Rattle.records.specs.declared.Lot.{Lot}
use Rattle.records.specs.declared.Line.{Line}
use Rattle.register.specs.Lists.{In}
use Rattle.usage.specs.Books.{home_in, settle_returns}
use Rattle.machine.specs.State.{Policy, Scene, State, hold_of, charge_of}
use Rattle.machine.specs.Step.{step}
use Rattle.machine.specs.Journal.{Entry, lines_of, opens, closes}
use Rattle.machine.specs.Law.{Shift, New, serials, Distinct, still_open, amounts, grants}
use Rattle.machine.specs.Law.Shift.{start, then}
use Rattle.machine.proofs.Serials.{apart_shift}
use Rattle.machine.proofs.Replay.{entry_of}
use Rattle.machine.proofs.LinesAppended.{lines_more, grants_more}
use Rattle.machine.proofs.Lines.{tags, in_tags, of_tags, Told, told_none, told_open, told_not_closed, Followed, followed_at}
use Rattle.machine.proofs.Books.{Even, even_empty}
use Rattle.machine.proofs.CreditKept.{owed, owed_pending, Kept, kept_alike, kept_settles}
use Rattle.machine.proofs.CreditSteps.{kept_step}

kept_new : {badges : List Badge} {lots : List Lot} (s : State) → New badges lots s → Kept s.books.homes s [] (λ _. 0)
kept_new s new = record {
  told = subst (λ (v : List Access). Told (tags v) s.next_serial []) (sym none) (told_none s.next_serial);
  even =
      subst (λ (v : List Access). Even s.books.homes s.books (λ _. 0) (λ h. owed s.books.homes h (tags v)) (λ _. 0)) (sym none)
      (even_empty s.books new.books new.sound);
  fits = λ a i. absurd (subst (λ (v : List Access). In a v) none i);
}
  where
    none : s.scene.accesses ≡ []
    none = ap (λ (v : Scene). v.accesses) new.scene

kept_shift : {p : Policy} {badges : List Badge} {lots : List Lot} {s t : State} {es : List Entry} → New badges lots s → Shift p s es t →
    Kept s.books.homes t (lines_of es) (λ h. grants (home_in s.books.homes) h es)
kept_shift {s = s} new start = kept_new s new
kept_shift {p} {s = s} new (then {t = t} {es = es} sheet call shift) =
    let e : Entry = entry_of call (step p t sheet call) in
    subst (λ v. Kept s.books.homes (step p t sheet call).after v (λ h. grants (home_in s.books.homes) h (es ++ (e ∷ [])))) (sym (lines_more es e))
    (kept_alike (kept_step p t (kept_shift new shift) (apart_shift new shift) sheet call) (λ h. grants_more (home_in s.books.homes) h es e))

-- the fields of the law that lines and books show
module _ (p : Policy) (badges : List Badge) (lots : List Lot) (first last : State) (es : List Entry)
    (new : New badges lots first) (shift : Shift p first es last) where
  kept_last : Kept first.books.homes last (lines_of es) (λ h. grants (home_in first.books.homes) h es)
  kept_last = kept_shift new shift

  pub opened_once : Distinct (serials opens (lines_of es))
  opened_once = kept_last.told.opened.once

  pub closed_once : Distinct (serials closes (lines_of es))
  closed_once = kept_last.told.closed.once

  pub opened_first : (before after : List Line) (l : Line) → lines_of es ≡ before ++ (l ∷ after) → closes l ≡ true → In l.serial (serials opens before)
  opened_first before after l e c = followed_at [] before after l (subst (λ v. Followed [] v) e kept_last.told.followed) c

  pub open_not_closed : (a : Access) → In a last.scene.accesses →
      In a.serial (serials opens (lines_of es)) × (In a.serial (serials closes (lines_of es)) → ⊥)
  open_not_closed a i =
      told_open kept_last.told a.serial (in_tags last.scene.accesses a i)

  pub not_closed_open : (n : ℕ) → In n (serials opens (lines_of es)) → (In n (serials closes (lines_of es)) → ⊥) →
      (a : Access) × (In a last.scene.accesses × (a.serial ≡ n))
  not_closed_open n i out = of_tags last.scene.accesses n (told_not_closed kept_last.told n i out)

  pub homes_kept : last.books.homes ≡ first.books.homes
  homes_kept = kept_last.even.same_homes

  pub holds_settle : (a : Access) → In a last.scene.accesses → settle_returns a.account (hold_of a) (charge_of a) last.books ≡ 0
  holds_settle a i = kept_settles kept_last a (apart_shift new shift).apart i

  pub credit : (h : ℕ) →
      grants (home_in first.books.homes) h es
      ≡ amounts (home_in first.books.homes) h closes (lines_of es)
      + (amounts (home_in first.books.homes) h (still_open (lines_of es)) (lines_of es) + get_or last.books.left h 0)
  credit h = omega (arith, kept_last.even.total h, holds)
    where
      holds : owed first.books.homes h (tags last.scene.accesses) ≡ amounts (home_in first.books.homes) h (still_open (lines_of es)) (lines_of es)
      holds = ap (owed first.books.homes h) (sym kept_last.told.still) ∙ owed_pending first.books.homes h (lines_of es) (lines_of es)
