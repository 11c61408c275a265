-- What is known of a call that no check refuses, and of a call that is denied. Assumes nothing.
use Rattle.std.proofs.Common.{◌≡◌, ℕ, ◌+◌, ◌≤◌, Bool, true, false, cond, not, ◌&&◌, eqb, ltb, List, [], ◌∷◌, length, Some, None, Option, unwrap_or, sym, refl, ap, subst, arith}
use Rattle.std.proofs.lemmas.Bool.Decides.{nat_tests}
use Rattle.records.specs.declared.Access.{Access}
use Rattle.records.specs.declared.Line.{Line}
use Rattle.records.specs.declared.Kind.TheVariants.{Denied}
use Rattle.records.specs.declared.Call.{Call}
use Rattle.records.specs.declared.Call.TheVariants.{Open, Use, Duty, End, Time, SetRoom, Grant, SetBadge, SetLot, DropBadge, DropLot}
use Rattle.register.specs.Lists.{In, first, some}
use Rattle.register.specs.Tests.{by_test, none_some, not_refused, both, eqb_equal, not_below}
use Rattle.register.proofs.Lists.{found}
use Rattle.usage.specs.Books.{hold_returns}
use Rattle.machine.specs.State.{Policy, Scene, State, is_access, no_access, access_of, situation, hold_of}
use Rattle.machine.specs.Journal.{revokes}
use Rattle.machine.specs.Law.{asks_to_open}
use Rattle.machine.specs.Report.{revocations}
use Rattle.machine.specs.Checks.{first_applying}
use Rattle.machine.specs.Step.{asked_for, Denial, denial_of, decided, open_denial, denial, written}

-- of checks none of which applies, each does not; their numbers are known not to be 0, which `refl` shows of literals
abbrev pub numbered : List (ℕ × Bool) → Bool
numbered [] = true
numbered (c ∷ cs) = not (eqb c.0 0) && numbered cs

abbrev pub NoneApply : List (ℕ × Bool) → Type 0
NoneApply [] = Unit {0}
NoneApply (c ∷ cs) = (c.1 ≡ false) × NoneApply cs

pub none_apply : (cs : List (ℕ × Bool)) → numbered cs ≡ true → first_applying cs ≡ 0 → NoneApply cs
none_apply [] n e = tt
none_apply (c ∷ cs) n e =
    by_test c.1 (λ b. cond b c.0 (first_applying cs) ≡ 0 → (b ≡ false) × NoneApply cs)
    (λ _ h. absurd (grind (arith, nat_tests)))
    (λ _ h. (refl, none_apply cs (both (not (eqb c.0 0)) (numbered cs) n).1 h)) e

-- the access that a call names is open, and has its serial
pub access_named : (s : Scene) (serial : ℕ) → not (some (is_access serial) s.accesses) ≡ false → is_access serial (access_of s serial) ≡ true
access_named s serial e = (found (is_access serial) s.accesses no_access (not_refused (some (is_access serial) s.accesses) e)).1

pub access_open : (s : Scene) (serial : ℕ) → not (some (is_access serial) s.accesses) ≡ false → In (access_of s serial) s.accesses
access_open s serial e = (found (is_access serial) s.accesses no_access (not_refused (some (is_access serial) s.accesses) e)).0

-- and units that a use asks for are within what it holds
pub used_within : (s : Scene) (serial units : ℕ) → ltb (access_of s serial).held ((access_of s serial).used + units) ≡ false →
    (a : Access) → first (is_access serial) s.accesses ≡ Some a → a.used + units ≤ a.held
used_within s serial units within a e =
    not_below a.held (a.used + units)
    (subst (λ (o : Option Access). ltb (unwrap_or o no_access).held ((unwrap_or o no_access).used + units) ≡ false) e within)

-- a grant's own check is that the purse returns another number than 0
pub grant_accepted : (sheet_short : Bool) (n : ℕ) → first_applying ((1, sheet_short) ∷ (n, not (eqb n 0)) ∷ []) ≡ 0 → n ≡ 0
grant_accepted sheet_short n e = grind (arith, nat_tests)

-- what an accepted call writes itself: at most one line, and no revocation
pub record OwnLines (ls : List Line) : Type 0 where
  pub none_revoked : revocations ls ≡ 0
  pub at_most_one : length ls ≤ 1

no_line : OwnLines []
no_line = record { none_revoked = refl; at_most_one = omega arith }

one_line : (l : Line) → revokes l ≡ false → OwnLines (l ∷ [])
one_line l e = record { none_revoked = ap (λ b. cond b 1 0 + 0) e; at_most_one = omega arith }

pub own_lines : (s : State) (call : Call) → OwnLines (written s call)
own_lines s (Open n c r units) = one_line _ refl
own_lines s (Use serial units) = no_line
own_lines s (Duty serial) = no_line
own_lines s (End serial) = one_line _ refl
own_lines s (Time minutes) = no_line
own_lines s (SetRoom t phase) = no_line
own_lines s (Grant account amount) = no_line
own_lines s (SetBadge n level role account) = no_line
own_lines s (SetLot c level role stop limit prices) = no_line
own_lines s (DropBadge n) = no_line
own_lines s (DropLot c) = no_line

-- an open by its rule's answer and its credit: not denied, or denied under a number
by_decision :
    (answer credit minute : ℕ) (a : Access) (P : Option Denial → Type 0) → (credit ≡ 0 → P None) →
    ((n cause : ℕ) → eqb n 0 ≡ false → P (Some (denial_of n minute cause a))) → P (decided answer credit minute a)
by_decision answer credit minute a P passes fails =
    by_test (eqb answer 0) (λ b. P (cond b (cond (eqb credit 0) None (Some (denial_of 10 minute 256 a))) (Some (denial_of 9 minute answer a))))
    (λ _. by_test (eqb credit 0) (λ b. P (cond b None (Some (denial_of 10 minute 256 a)))) (λ e. passes (eqb_equal credit 0 e)) (λ _. fails 10 256 refl))
    (λ _. fails 9 answer refl)

-- an open that is not denied has its hold
pub hold_accepted : (p : Policy) (s : State) (a : Access) → open_denial p s a ≡ None → hold_returns a.account (hold_of a) s.books ≡ 0
hold_accepted p s a =
    by_decision (p.opening (situation s.scene a)) (hold_returns a.account (hold_of a) s.books) s.scene.room.clock a
    (λ o. o ≡ None → hold_returns a.account (hold_of a) s.books ≡ 0)
    (λ h _. h) (λ n cause _ e. none_some (sym e))

-- only an open is denied; a denial returns another number than 0, and its line is a denying one
pub record Denies (call : Call) (d : Denial) : Type 0 where
  pub asks : asks_to_open call ≡ true
  pub returned : eqb d.returned 0 ≡ false
  pub kind : d.line.kind ≡ Denied

pub denies : (p : Policy) (s : State) (call : Call) (d : Denial) → denial p s call ≡ Some d → Denies call d
denies p s (Open n c r units) d =
    let a : Access = asked_for s n c r units in
    by_decision (p.opening (situation s.scene a)) (hold_returns a.account (hold_of a) s.books) s.scene.room.clock a
    (λ o. o ≡ Some d → Denies (Open n c r units) d)
    (λ _ e. none_some e)
    (λ returned cause other e.
    let same : denial_of returned s.scene.room.clock cause a ≡ d = cc in subst (Denies (Open n c r units)) same (record { asks = refl; returned = other; kind = refl }))
denies p s (Use serial units) d = none_some
denies p s (Duty serial) d = none_some
denies p s (End serial) d = none_some
denies p s (Time minutes) d = none_some
denies p s (SetRoom t phase) d = none_some
denies p s (Grant account amount) d = none_some
denies p s (SetBadge n level role account) d = none_some
denies p s (SetLot c level role stop limit prices) d = none_some
denies p s (DropBadge n) d = none_some
denies p s (DropLot c) d = none_some
