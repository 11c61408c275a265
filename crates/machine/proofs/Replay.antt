-- The journal's replay comes to the scene of the machine, and every access open in it passes. Assumes nothing.
use Rattle.std.proofs.Common.{◌≡◌, ℕ, Bool, false, cond, eqb, List, [], ◌∷◌, ◌++◌, None, Option, sym, refl, ap, ◌∙◌, subst}
use Rattle.records.specs.declared.Access.{Access}
use Rattle.records.specs.declared.Badge.{Badge}
use Rattle.records.specs.declared.Lot.{Lot}
use Rattle.records.specs.declared.Line.{Line}
use Rattle.records.specs.declared.Kind.{Kind}
use Rattle.records.specs.declared.Call.{Call}
use Rattle.records.specs.declared.Call.TheVariants.{Open, Use, Duty, End, Time, SetRoom, Grant, SetBadge, SetLot, DropBadge, DropLot}
use Rattle.register.specs.Lists.{In, first}
use Rattle.register.proofs.Apart.{Apart}
use Rattle.machine.specs.State.{Policy, Scene, State, is_access, access_of, fails}
use Rattle.machine.specs.Sweep.{strike, close, sweep}
use Rattle.machine.specs.Checks.{checks, first_applying}
use Rattle.machine.specs.Step.{Outcome, written, moved, step}
use Rattle.machine.specs.Journal.{Entry, effect, struck, joined_as, joined, all_joined, replay_entry, replay, new_scene}
use Rattle.machine.specs.Law.{Shift, New}
use Rattle.machine.specs.Law.Shift.{start, then}
use Rattle.machine.proofs.Foremost.{to_revoke_in, none_fails}
use Rattle.machine.proofs.Cases.{by_step, by_sweep, by_shift}
use Rattle.machine.proofs.Checked.{none_apply, access_open, Denies, denies}
use Rattle.machine.proofs.Serials.{serial_of, ApartSerials, first_access, apart_close, apart_moved, apart_shift}

-- what a journal notes of a call
abbrev pub entry_of : Call → Outcome → Entry
entry_of call o = record { call = call; returned = o.returned; lines = o.lines }

all_joined_append : (call : Call) (ls ms : List Line) (s : Scene) → all_joined call (ls ++ ms) s ≡ all_joined call ms (all_joined call ls s)
all_joined_append call [] ms s = refl
all_joined_append call (l ∷ ls) ms s = all_joined_append call ls ms (joined call l s)

replay_append : (es fs : List Entry) (s : Scene) → replay (es ++ fs) s ≡ replay fs (replay es s)
replay_append [] fs s = refl
replay_append (e ∷ es) fs s = replay_append es fs (replay_entry e s)

-- an open access is struck by its serial
pub struck_found : (s : Scene) (a : Access) → Apart serial_of s.accesses → In a s.accesses →
    struck (first (is_access a.serial) s.accesses) s ≡ strike a s
struck_found s a h i = ap (λ (o : Option Access). struck o s) (first_access s.accesses a h i)

-- the lines of a sweep come to its scene
joined_sweep : (p : Policy) (call : Call) (s : State) → ApartSerials s → all_joined call (sweep p s).lines s.scene ≡ (sweep p s).after.scene
joined_sweep p call =
    by_sweep p (λ s w. ApartSerials s → all_joined call w.lines s.scene ≡ w.after.scene)
    (λ s rest _ _. refl)
    (λ s a rest e later h.
    ap (all_joined call (rest (close a s)).lines) (struck_found s.scene a h.apart (to_revoke_in p s.scene a e).0)
    ∙ later (apart_close a s h))

-- the lines that an accepted call writes itself come to the scene that it leaves to the sweep
pub joined_written :
    (s : State) (sheet : ℕ) (call : Call) → ApartSerials s → first_applying (checks s sheet call) ≡ 0 →
    all_joined call (written s call) (effect call s.scene) ≡ (moved s call).scene
joined_written s sheet (Open n c r units) h e = refl
joined_written s sheet (Use serial units) h e = refl
joined_written s sheet (Duty serial) h e = refl
joined_written s sheet (End serial) h e =
    struck_found s.scene (access_of s.scene serial) h.apart
    (access_open s.scene serial (none_apply (checks s sheet (End serial)) refl e).1.1.0)
joined_written s sheet (Time minutes) h e = refl
joined_written s sheet (SetRoom t phase) h e = refl
joined_written s sheet (Grant account amount) h e = refl
joined_written s sheet (SetBadge n level role account) h e = refl
joined_written s sheet (SetLot c level role stop limit prices) h e = refl
joined_written s sheet (DropBadge n) h e = refl
joined_written s sheet (DropLot c) h e = refl

-- one entry
replayed_step :
    (p : Policy) (s : State) (sheet : ℕ) (call : Call) → ApartSerials s →
    (step p s sheet call).after.scene ≡ replay_entry (entry_of call (step p s sheet call)) s.scene
replayed_step p s sheet call h =
    by_step p s sheet call (λ o. o.after.scene ≡ replay_entry (entry_of call o) s.scene)
    (λ n e. sym (unchanged n e))
    (λ d _ e.
    let k : Denies call d = denies p s call d e in
    sym (ap (λ (v : Kind). joined_as v call d.line.serial (cond (eqb d.returned 0) (effect call s.scene) s.scene)) k.kind
    ∙ unchanged d.returned k.returned))
    (λ e _. sym (all_joined_append call (written s call) (sweep p (moved s call)).lines (effect call s.scene)
    ∙ ap (all_joined call (sweep p (moved s call)).lines) (joined_written s sheet call h e)
    ∙ joined_sweep p call (moved s call) (apart_moved s call h)))
  where
    unchanged : (n : ℕ) → eqb n 0 ≡ false → cond (eqb n 0) (effect call s.scene) s.scene ≡ s.scene
    unchanged n e = ap (λ (b : Bool). cond b (effect call s.scene) s.scene) e

-- the machine's records are the journal's
pub records_agree :
    {p : Policy} {badges : List Badge} {lots : List Lot} {first last : State} {es : List Entry} →
    New badges lots first → Shift p first es last → last.scene ≡ replay es (new_scene badges lots)
records_agree new start = new.scene
records_agree {p} {badges} {lots} new (then {t = t} {es = es} sheet call shift) =
    let before : t.scene ≡ replay es (new_scene badges lots) = records_agree new shift in
    let e : Entry = entry_of call (step p t sheet call) in
    replayed_step p t sheet call (apart_shift new shift)
    ∙ ap (replay_entry e) before
    ∙ sym (replay_append es (e ∷ []) (new_scene badges lots))

-- every open access passes
abbrev pub AllPass : Policy → Scene → Type 0
AllPass p s = (a : Access) → In a s.accesses → fails p s a ≡ false

pass_sweep : (p : Policy) (s : State) → AllPass p (sweep p s).after.scene
pass_sweep p =
    by_sweep p (λ s w. AllPass p w.after.scene)
    (λ s rest e. (none_fails p.before (fails p s.scene) None s.scene.accesses e).1)
    (λ s a rest _ later. later)

pass_step : (p : Policy) (s : State) (sheet : ℕ) (call : Call) → AllPass p s.scene → AllPass p (step p s sheet call).after.scene
pass_step p s sheet call h =
    by_step p s sheet call (λ o. AllPass p o.after.scene) (λ n _. h) (λ d _ _. h) (λ _ _. pass_sweep p (moved s call))

-- every access that the journal leaves open passes
pub open_pass :
    {p : Policy} {badges : List Badge} {lots : List Lot} {first last : State} {es : List Entry} →
    New badges lots first → Shift p first es last → AllPass p (replay es (new_scene badges lots))
open_pass {p} new shift =
    subst (λ (v : Scene). AllPass p v) (records_agree new shift)
    (by_shift p (λ s. AllPass p s.scene) (pass_step p) shift
    (subst (λ (v : Scene). AllPass p v) (sym new.scene) (λ a i. absurd i)))
