-- Proofs by cases and by induction that every theorem on shifts shares: a step, the rounds of a sweep, a shift.
-- Assumes nothing.
use Rattle.std.proofs.Common.{◌≡◌, ℕ, zero, suc, ◌≤◌, false, cond, eqb, List, [], ◌∷◌, length, Some, None, refl, ap, subst, arith}
use Rattle.records.specs.declared.Access.{Access}
use Rattle.records.specs.declared.Call.{Call}
use Rattle.register.specs.Lists.{In}
use Rattle.register.specs.Tests.{by_test, by_option, eqb_same, eqb_equal}
use Rattle.register.proofs.Lists.{some_in, length_without}
use Rattle.machine.specs.State.{Policy, State, is_access, fails}
use Rattle.machine.specs.Sweep.{Swept, close, foremost_from, to_revoke, round, rounds, sweep}
use Rattle.machine.specs.Step.{Outcome, Denial, refused, denial, given, written, moved, accepted, unless_denied, step}
use Rattle.machine.specs.Checks.{checks, first_applying}
use Rattle.machine.specs.Journal.{Entry}
use Rattle.machine.specs.Law.{Shift}
use Rattle.machine.specs.Law.Shift.{start, then}
use Rattle.machine.proofs.Foremost.{to_revoke_in}

no_length : {X : Type 0} (xs : List X) → length xs ≤ 0 → xs ≡ []
no_length [] h = refl
no_length (x ∷ xs) h = absurd (omega arith)

-- a step refuses, denies or accepts
pub by_step :
    (p : Policy) (s : State) (sheet : ℕ) (call : Call) (P : Outcome → Type 0) →
    ((n : ℕ) → eqb n 0 ≡ false → P (refused n s)) →
    ((d : Denial) → first_applying (checks s sheet call) ≡ 0 → denial p s call ≡ Some d → P (unless_denied (Some d) s (refused 0 s))) →
    (first_applying (checks s sheet call) ≡ 0 → denial p s call ≡ None →
    P (accepted (given s call) (written s call) (sweep p (moved s call)))) →
    P (step p s sheet call)
by_step p s sheet call P refuses denies accepts =
    let n : ℕ = first_applying (checks s sheet call) in
    let o : Outcome = accepted (given s call) (written s call) (sweep p (moved s call)) in
    by_test (eqb n 0) (λ b. P (cond b (unless_denied (denial p s call) s o) (refused n s)))
    (λ e. by_option (denial p s call) (λ d. P (unless_denied d s o)) (accepts (eqb_equal n 0 e)) (λ d. denies d (eqb_equal n 0 e)))
    (λ e. refuses n e)

-- closing the one to revoke leaves one access fewer
pub length_close : (p : Policy) (s : State) (a : Access) → to_revoke p s.scene ≡ Some a →
    suc (length (close a s).scene.accesses) ≡ length s.scene.accesses
length_close p s a e =
    length_without (is_access a.serial) s.scene.accesses
    (some_in (is_access a.serial) s.scene.accesses a (to_revoke_in p s.scene a e).0 (eqb_same a.serial))

-- a sweep, round by round: done where none is to be revoked, and one round more where one is
by_rounds :
    (p : Policy) (P : State → Swept → Type 0) →
    ((s : State) (rest : State → Swept) → to_revoke p s.scene ≡ None → P s (round p s None rest)) →
    ((s : State) (a : Access) (rest : State → Swept) → to_revoke p s.scene ≡ Some a → P (close a s) (rest (close a s)) → P s (round p s (Some a) rest)) →
    (fuel : ℕ) (s : State) → length s.scene.accesses ≤ fuel → P s (rounds p fuel s)
unfolding rounds
by_rounds p P done more zero s few =
    let none : s.scene.accesses ≡ [] = no_length s.scene.accesses few in
    subst (λ n. P s (record { lines = []; questions = n; after = s })) (ap length none)
    (done s (λ t. rounds p zero t) (ap (foremost_from p.before (fails p s.scene) None) none))
by_rounds p P done more (suc n) s few =
    let next : (t : State) → length t.scene.accesses ≤ n → P t (rounds p n t) = by_rounds p P done more n in
    by_option (to_revoke p s.scene) (λ o. P s (round p s o (λ t. rounds p n t)))
    (done s (λ t. rounds p n t))
    (λ a e. more s a (λ t. rounds p n t) e
    (next (close a s) (omega (arith, few, length_close p s a e))))

-- the whole sweep
pub by_sweep :
    (p : Policy) (P : State → Swept → Type 0) →
    ((s : State) (rest : State → Swept) → to_revoke p s.scene ≡ None → P s (round p s None rest)) →
    ((s : State) (a : Access) (rest : State → Swept) → to_revoke p s.scene ≡ Some a → P (close a s) (rest (close a s)) → P s (round p s (Some a) rest)) →
    (s : State) → P s (sweep p s)
by_sweep p P done more s = by_rounds p P done more (length s.scene.accesses) s (omega arith)

-- what closing an open access keeps, and what an accepted call leaves to the sweep keeps, a step keeps
pub step_keeps : (p : Policy) (P : State → Type 0) → ((a : Access) (t : State) → In a t.scene.accesses → P t → P (close a t)) →
    (s : State) (sheet : ℕ) (call : Call) → (first_applying (checks s sheet call) ≡ 0 → P s → P (moved s call)) → P s → P (step p s sheet call).after
step_keeps p P closing s sheet call moving h =
    by_step p s sheet call (λ o. P o.after) (λ n _. h) (λ d _ _. h)
    (λ pass _.
    by_sweep p (λ t w. P t → P w.after) (λ t rest _ k. k) (λ t a rest e later k. later (closing a t (to_revoke_in p t.scene a e).0 k))
    (moved s call) (moving pass h))

-- what holds of a first state and is kept by every step holds of the last
pub by_shift :
    (p : Policy) (P : State → Type 0) →
    ((s : State) (sheet : ℕ) (call : Call) → P s → P (step p s sheet call).after) →
    {s t : State} {es : List Entry} → Shift p s es t → P s → P t
by_shift p P keeps start h = h
by_shift p P keeps (then sheet call shift) h = keeps _ sheet call (by_shift p P keeps shift h)

-- what closing an open access and every accepted call keep, a shift keeps
pub shift_keeps : (p : Policy) (P : State → Type 0) → ((a : Access) (s : State) → In a s.scene.accesses → P s → P (close a s)) →
    ((s : State) (sheet : ℕ) (call : Call) → first_applying (checks s sheet call) ≡ 0 → P s → P (moved s call)) →
    {s t : State} {es : List Entry} → Shift p s es t → P s → P t
shift_keeps p P closing moving shift h = by_shift p P (λ s sheet call. step_keeps p P closing s sheet call (moving s sheet call)) shift h
