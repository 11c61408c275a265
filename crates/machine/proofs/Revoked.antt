-- Each revocation is just: the access was open and failed, and every other that failed comes later in the order.
-- Assumes nothing.
use Rattle.std.proofs.Common.{◌≡◌, ℕ, ◌+◌, true, false, cond, List, [], ◌∷◌, ◌++◌, Some, None, sym, refl, ap, subst, arith}
use Rattle.records.specs.declared.Access.{Access}
use Rattle.records.specs.declared.Badge.{Badge}
use Rattle.records.specs.declared.Lot.{Lot}
use Rattle.records.specs.declared.Line.{Line}
use Rattle.records.specs.declared.Kind.TheVariants.{Revoked}
use Rattle.records.specs.declared.Call.{Call}
use Rattle.usage.specs.Orders.{Ordered}
use Rattle.register.specs.Tests.{by_test, not_both}
use Rattle.machine.specs.State.{Policy, Scene, State, situation, fails}
use Rattle.machine.specs.Lines.{closing_line}
use Rattle.machine.specs.Sweep.{close, to_revoke, sweep}
use Rattle.machine.specs.Step.{written, moved, step}
use Rattle.machine.specs.Journal.{Entry, effect, joined, all_joined, before_lines, replay_entry, replay, new_scene, is_revoking, revokes}
use Rattle.machine.specs.Law.{Shift, New, Just, JustLines, JustJournal}
use Rattle.machine.specs.Law.Shift.{start, then}
use Rattle.machine.specs.Report.{revocations}
use Rattle.machine.proofs.Foremost.{to_revoke_in, foremost_goes}
use Rattle.machine.proofs.Cases.{by_step, by_sweep}
use Rattle.machine.proofs.Checked.{own_lines, denies}
use Rattle.machine.proofs.Serials.{ApartSerials, apart_close, apart_moved, apart_shift}
use Rattle.machine.proofs.Replay.{entry_of, struck_found, joined_written, records_agree}

-- the one to revoke is revoked justly
just_line :
    (p : Policy) → Ordered p.before → (s : Scene) (a : Access) → to_revoke p s ≡ Some a → (minute : ℕ) →
    Just p s (closing_line Revoked minute (p.staying (situation s a)) a)
just_line p ordered s a e minute = record {
  access = a;
  stood = (to_revoke_in p s a e).0;
  serial = refl;
  failed = (to_revoke_in p s a e).1;
  cause = refl;
  foremost = (foremost_goes p.before ordered a (fails p s) None s.accesses e).1;
}

just_sweep :
    (p : Policy) (call : Call) → Ordered p.before → (s : State) → ApartSerials s → JustLines p call (sweep p s).lines s.scene
just_sweep p call ordered =
    by_sweep p (λ s w. ApartSerials s → JustLines p call w.lines s.scene)
    (λ s rest _ _. tt)
    (λ s a rest e later h. (
      λ _. just_line p ordered s.scene a e s.scene.room.clock,
      subst (λ (v : Scene). JustLines p call (rest (close a s)).lines v)
          (sym (struck_found s.scene a h.apart (to_revoke_in p s.scene a e).0))
          (later (apart_close a s h)),
    ))

just_lines_append :
    (p : Policy) (call : Call) (ls ms : List Line) (s : Scene) →
    JustLines p call ls s → JustLines p call ms (all_joined call ls s) → JustLines p call (ls ++ ms) s
just_lines_append p call [] ms s h k = k
just_lines_append p call (l ∷ ls) ms s h k = (h.0, just_lines_append p call ls ms (joined call l s) h.1 k)

-- lines without a revocation
just_none : (p : Policy) (call : Call) (ls : List Line) (s : Scene) → revocations ls ≡ 0 → JustLines p call ls s
just_none p call [] s e = tt
just_none p call (l ∷ ls) s e =
    by_test (revokes l) (λ b. cond b 1 0 + revocations ls ≡ 0 → (b ≡ true → Just p s l) × JustLines p call ls (joined call l s))
    (λ _ h. absurd (omega arith))
    (λ _ h. (λ k. not_both false k refl, just_none p call ls (joined call l s) (omega arith))) e

just_step :
    (p : Policy) → Ordered p.before → (s : State) (sheet : ℕ) (call : Call) → ApartSerials s →
    JustLines p call (step p s sheet call).lines (before_lines (entry_of call (step p s sheet call)) s.scene)
just_step p ordered s sheet call h =
    by_step p s sheet call (λ o. JustLines p call o.lines (before_lines (entry_of call o) s.scene))
    (λ n _. tt)
    (λ d _ e. (λ k. not_both (is_revoking d.line.kind) k (ap is_revoking (denies p s call d e).kind), tt))
    (λ e _. just_lines_append p call (written s call) (sweep p (moved s call)).lines (effect call s.scene)
    (just_none p call (written s call) (effect call s.scene) (own_lines s call).none_revoked)
    (subst (λ (v : Scene). JustLines p call (sweep p (moved s call)).lines v) (sym (joined_written s sheet call h e))
    (just_sweep p call ordered (moved s call) (apart_moved s call h))))

just_journal_append :
    (p : Policy) (es fs : List Entry) (s : Scene) → JustJournal p es s → JustJournal p fs (replay es s) → JustJournal p (es ++ fs) s
just_journal_append p [] fs s h k = k
just_journal_append p (e ∷ es) fs s h k = (h.0, just_journal_append p es fs (replay_entry e s) h.1 k)

-- every revocation of a journal is just
pub revoked_justly :
    {p : Policy} {badges : List Badge} {lots : List Lot} {first last : State} {es : List Entry} →
    Ordered p.before → New badges lots first → Shift p first es last → JustJournal p es (new_scene badges lots)
revoked_justly ordered new start = tt
revoked_justly {p} {badges} {lots} ordered new (then {t = t} {es = es} sheet call shift) =
    let e : Entry = entry_of call (step p t sheet call) in
    let before : JustJournal p es (new_scene badges lots) = revoked_justly ordered new shift in
    just_journal_append p es (e ∷ []) (new_scene badges lots) before (
      subst (λ (v : Scene). JustLines p call e.lines (before_lines e v)) (records_agree new shift)
          (just_step p ordered t sheet call (apart_shift new shift)),
      tt,
    )
