-- Every line of a journal was called for. Assumes nothing.
use Rattle.std.proofs.Common.{◌≡◌, ℕ, true, not, ◌&&◌, eqb, List, [], ◌∷◌, sym, refl, ap, ◌∙◌, subst, ⊎_elim, arith}
use Rattle.std.proofs.lemmas.Bool.Decides.{nat_tests}
use Rattle.records.specs.declared.Line.{Line}
use Rattle.records.specs.declared.Kind.{Kind}
use Rattle.records.specs.declared.Call.{Call}
use Rattle.records.specs.declared.Call.TheVariants.{Open, Use, Duty, End, Time, SetRoom, Grant, SetBadge, SetLot, DropBadge, DropLot}
use Rattle.register.specs.Lists.{In}
use Rattle.register.proofs.Lists.{in_append_split}
use Rattle.machine.specs.State.{Policy, State, access_of}
use Rattle.machine.specs.Sweep.{sweep}
use Rattle.machine.specs.Checks.{checks, first_applying}
use Rattle.machine.specs.Step.{written, moved, step}
use Rattle.machine.specs.Journal.{Entry}
use Rattle.machine.specs.Law.{Shift, called_for}
use Rattle.machine.specs.Law.Shift.{start, then}
use Rattle.machine.proofs.Cases.{by_step, by_sweep}
use Rattle.machine.proofs.Checked.{none_apply, access_named, Denies, denies}
use Rattle.machine.proofs.Replay.{entry_of}

abbrev CalledFor : Call → ℕ → Line → Type 0
CalledFor call returned l = called_for l.kind l.serial call returned ≡ true

abbrev AllCalledFor : Call → ℕ → List Line → Type 0
AllCalledFor call returned ls = (l : Line) → In l ls → CalledFor call returned l

none_called_for : (call : Call) (returned : ℕ) → AllCalledFor call returned []
none_called_for call returned l i = absurd i

one_called_for : (call : Call) (returned : ℕ) (m : Line) (ls : List Line) → CalledFor call returned m → AllCalledFor call returned ls →
    AllCalledFor call returned (m ∷ ls)
one_called_for call returned m ls here later l i = ⊎_elim (λ e. subst (CalledFor call returned) (sym e) here) (later l) i

-- a sweep only revokes
sweep_called_for : (p : Policy) (call : Call) (s : State) → AllCalledFor call 0 (sweep p s).lines
sweep_called_for p call =
    by_sweep p (λ s w. AllCalledFor call 0 w.lines) (λ s rest _. none_called_for call 0) (λ s a rest _ later. one_called_for call 0 _ _ refl later)

-- what an accepted call writes itself
written_called_for : (s : State) (sheet : ℕ) (call : Call) → first_applying (checks s sheet call) ≡ 0 → AllCalledFor call 0 (written s call)
written_called_for s sheet (Open n c r units) e = one_called_for (Open n c r units) 0 _ [] refl (none_called_for (Open n c r units) 0)
written_called_for s sheet (Use serial units) e = none_called_for (Use serial units) 0
written_called_for s sheet (Duty serial) e = none_called_for (Duty serial) 0
written_called_for s sheet (End serial) e = one_called_for (End serial) 0 _ [] own (none_called_for (End serial) 0)
  where
    named : eqb (access_of s.scene serial).serial serial ≡ true
    named = access_named s.scene serial (none_apply (checks s sheet (End serial)) refl e).1.1.0

    own : (eqb serial (access_of s.scene serial).serial && true) ≡ true
    own = grind (arith, nat_tests, named)
written_called_for s sheet (Time minutes) e = none_called_for (Time minutes) 0
written_called_for s sheet (SetRoom t phase) e = none_called_for (SetRoom t phase) 0
written_called_for s sheet (Grant account amount) e = none_called_for (Grant account amount) 0
written_called_for s sheet (SetBadge n level role account) e = none_called_for (SetBadge n level role account) 0
written_called_for s sheet (SetLot c level role stop limit prices) e = none_called_for (SetLot c level role stop limit prices) 0
written_called_for s sheet (DropBadge n) e = none_called_for (DropBadge n) 0
written_called_for s sheet (DropLot c) e = none_called_for (DropLot c) 0

step_called_for : (p : Policy) (s : State) (sheet : ℕ) (call : Call) → AllCalledFor call (step p s sheet call).returned (step p s sheet call).lines
step_called_for p s sheet call =
    by_step p s sheet call (λ o. AllCalledFor call o.returned o.lines)
    (λ n _. none_called_for call n)
    (λ d _ e.
    let k : Denies call d = denies p s call d e in
    one_called_for call d.returned d.line []
    (ap (λ (v : Kind). called_for v d.line.serial call d.returned) k.kind
    ∙ ap (λ b. b && not (eqb d.returned 0)) k.asks
    ∙ ap not k.returned)
    (none_called_for call d.returned))
    (λ e _ l i. ⊎_elim (written_called_for s sheet call e l) (sweep_called_for p call (moved s call) l)
    (in_append_split l (written s call) (sweep p (moved s call)).lines i))

pub lines_called_for : {p : Policy} {first last : State} {es : List Entry} → Shift p first es last →
    (e : Entry) → In e es → (l : Line) → In l e.lines → called_for l.kind l.serial e.call e.returned ≡ true
lines_called_for start e i = absurd i
lines_called_for {p} (then {t = t} {es = es} sheet call shift) e i =
    let new : Entry = entry_of call (step p t sheet call) in
    let before : In e es → (l : Line) → In l e.lines → CalledFor e.call e.returned l = lines_called_for shift e in
    ⊎_elim before
    (⊎_elim (λ k. subst (λ (v : Entry). AllCalledFor v.call v.returned v.lines) (sym k) (step_called_for p t sheet call)) (λ k. absurd k))
    (in_append_split e es (new ∷ []) i)
