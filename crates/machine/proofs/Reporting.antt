-- What a call reports of its sweep: questions by the closed formula, and lines and accesses within their bounds.
-- Assumes nothing.
use Rattle.std.proofs.Common.{◌≡◌, ℕ, zero, suc, ◌+◌, ◌*◌, ◌≤◌, true, false, cond, eqb, leb, List, [], ◌∷◌, ◌++◌, length, Some, sym, refl, ap, ◌∙◌, subst, suc-mul, add-mul, mul-suc, mul-add, arith, length-append}
use Rattle.std.proofs.lemmas.Bool.Decides.{nat_tests}
use Rattle.records.specs.declared.Badge.{Badge}
use Rattle.records.specs.declared.Lot.{Lot}
use Rattle.records.specs.declared.Line.{Line}
use Rattle.records.specs.declared.Call.{Call}
use Rattle.records.specs.declared.Call.TheVariants.{Open, Use, Duty, End, Time, SetRoom, Grant, SetBadge, SetLot, DropBadge, DropLot}
use Rattle.register.proofs.Lists.{length_changed, length_without_most}
use Rattle.machine.specs.State.{Policy, Scene, State, is_access, access_of}
use Rattle.machine.specs.Scenes.{after_use, after_duty}
use Rattle.machine.specs.Sweep.{Swept, one_more, close, sweep}
use Rattle.machine.specs.Checks.{checks, open_checks, first_applying}
use Rattle.machine.specs.Step.{Outcome, refused, unless_denied, asked_for, given, written, moved, accepted, step}
use Rattle.machine.specs.Journal.{Entry, revokes}
use Rattle.machine.specs.Law.{New, Shift}
use Rattle.machine.specs.Report.{revocations, questions_of, Reported, CallsReported}
use Rattle.machine.proofs.Checked.{none_apply, OwnLines, own_lines, denies}
use Rattle.machine.proofs.Cases.{by_step, by_sweep, by_shift, length_close}

-- 1 + 2 + .. + v
abbrev triangle : ℕ → ℕ
triangle zero = 0
triangle (suc v) = suc v + triangle v

triangle_doubled : (v : ℕ) → v * (v + 1) ≡ triangle v * 2
triangle_doubled zero = refl
triangle_doubled (suc v) =
    let h : v * (v + 1) ≡ triangle v * 2 = triangle_doubled v in
    let e : v * (v + 1) ≡ v * v + v * 1 = mul-add v v 1 in
    let f : suc v * (suc v + 1) ≡ suc v * suc v + suc v * 1 = mul-add (suc v) (suc v) 1 in
    let g : suc v * suc v ≡ suc v * v + suc v = mul-suc (suc v) v in
    let k : suc v * v ≡ v * v + v = suc-mul v v in
    omega arith

-- questions and triangle together make the product
formula : (k v q : ℕ) → q + triangle v ≡ (v + 1) * k → q ≡ questions_of k v
formula k v q e = omega (arith, triangle_doubled v)

-- one round more, with one access more before it
more_questions : (k v q : ℕ) → q + triangle v ≡ (v + 1) * k → (suc k + q) + triangle (suc v) ≡ (suc v + 1) * suc k
more_questions k v q e =
    let f : (suc v + 1) * suc k ≡ (suc v + 1) * k + (suc v + 1) = mul-suc (suc v + 1) k in
    let g : (suc v + 1) * k ≡ suc v * k + 1 * k = add-mul (suc v) 1 k in
    let h : suc v * k ≡ v * k + k = suc-mul v k in
    let i : (v + 1) * k ≡ v * k + 1 * k = add-mul v 1 k in
    omega arith

-- a sweep: each access is still open or was revoked, each line is a revocation, and the questions are as counted
record SweepReports (s : State) (w : Swept) : Type 0 where
  counted : length w.after.scene.accesses + revocations w.lines ≡ length s.scene.accesses
  all_revoke : length w.lines ≡ revocations w.lines
  asked : w.questions + triangle (revocations w.lines) ≡ (revocations w.lines + 1) * length s.scene.accesses

round_reports : (t u : State) (l : Line) (w : Swept) → revokes l ≡ true → suc (length u.scene.accesses) ≡ length t.scene.accesses →
    SweepReports u w → SweepReports t (one_more (length t.scene.accesses) l w)
round_reports t u l w e fewer h =
    let one : revocations (l ∷ w.lines) ≡ suc (revocations w.lines) = ap (λ b. cond b 1 0 + revocations w.lines) e ∙ one_add (revocations w.lines) in
    record {
      counted = omega (arith, h.counted);
      all_revoke = omega (arith, h.all_revoke);
      asked =
          subst (λ (k : ℕ). (k + w.questions) + triangle (revocations (l ∷ w.lines)) ≡ (revocations (l ∷ w.lines) + 1) * k) fewer
          (subst (λ (v : ℕ). (suc (length u.scene.accesses) + w.questions) + triangle v ≡ (v + 1) * suc (length u.scene.accesses)) (sym one)
          (more_questions (length u.scene.accesses) (revocations w.lines) w.questions h.asked));
    }
  where
    one_add : (n : ℕ) → 1 + n ≡ suc n
    one_add n = omega arith

sweep_reports : (p : Policy) (s : State) → SweepReports s (sweep p s)
sweep_reports p s =
    by_sweep p SweepReports
    (λ t rest e. record { counted = omega arith; all_revoke = refl; asked = omega arith })
    (λ t a rest e h. round_reports t (close a t) _ (rest (close a t)) refl (length_close p t a e) h)
    s

-- by the formula, of the accesses open before a sweep and the lines that it writes
pub sweep_questions : (p : Policy) (s : State) → (sweep p s).questions ≡ questions_of (length s.scene.accesses) (length (sweep p s).lines)
sweep_questions p s =
    let h : SweepReports s (sweep p s) = sweep_reports p s in
    formula (length s.scene.accesses) (revocations (sweep p s).lines) (sweep p s).questions h.asked
    ∙ ap (questions_of (length s.scene.accesses)) (sym h.all_revoke)

-- at most 64 accesses are open
abbrev pub FewOpen : State → Type 0
FewOpen s = length s.scene.accesses ≤ 64

room_for_one : (s : State) (sheet n : ℕ) (c : List ℕ) (r units : ℕ) → first_applying (open_checks s sheet n c r units) ≡ 0 →
    length s.scene.accesses ≤ 63
room_for_one s sheet n c r units e =
    let h : leb 64 (length s.scene.accesses) ≡ false = (none_apply (open_checks s sheet n c r units) refl e).1.1.1.1.1.0 in
    grind (arith, nat_tests)

moved_few : (s : State) (sheet : ℕ) (call : Call) → first_applying (checks s sheet call) ≡ 0 → FewOpen s → FewOpen (moved s call)
moved_few s sheet (Open n c r units) e h = omega (arith, room_for_one s sheet n c r units e, length-append s.scene.accesses (asked_for s n c r units ∷ []))
moved_few s sheet (Use serial units) e h = omega (arith, length_changed (is_access serial) (after_use units s.scene.room.clock) s.scene.accesses)
moved_few s sheet (Duty serial) e h = omega (arith, length_changed (is_access serial) (after_duty s.scene.room.clock) s.scene.accesses)
moved_few s sheet (End serial) e h = omega (arith, length_without_most (is_access (access_of s.scene serial).serial) s.scene.accesses)
moved_few s sheet (Time minutes) e h = h
moved_few s sheet (SetRoom t phase) e h = h
moved_few s sheet (Grant account amount) e h = h
moved_few s sheet (SetBadge n level role account) e h = h
moved_few s sheet (SetLot c level role stop limit prices) e h = h
moved_few s sheet (DropBadge n) e h = h
moved_few s sheet (DropLot c) e h = h

revocations_append : (ls ms : List Line) → revocations (ls ++ ms) ≡ revocations ls + revocations ms
revocations_append [] ms = omega arith
revocations_append (l ∷ ls) ms = let h : revocations (ls ++ ms) ≡ revocations ls + revocations ms = revocations_append ls ms in omega arith

-- an accepted call
accepted_reports : (s : State) (serial : ℕ) (ls : List Line) (w : Swept) → FewOpen s → OwnLines ls → SweepReports s w → Reported (accepted serial ls w)
accepted_reports s serial ls w few own h =
    let v : revocations (ls ++ w.lines) ≡ revocations w.lines = omega (arith, revocations_append ls w.lines, own.none_revoked) in
    record {
      counted = λ _.
          subst (λ (n : ℕ). w.questions ≡ questions_of (length w.after.scene.accesses + n) n) (sym v)
          (subst (λ (k : ℕ). w.questions ≡ questions_of k (revocations w.lines)) (sym h.counted)
          (formula (length s.scene.accesses) (revocations w.lines) w.questions h.asked));
      uncounted = λ e. absurd (e refl);
      lines_fit = omega (arith, length-append ls w.lines, own.at_most_one, h.counted, h.all_revoke);
      accesses_fit = omega (arith, h.counted);
    }

-- a refused or denied call
unaccepted_reports : (o : Outcome) → eqb o.returned 0 ≡ false → o.questions ≡ 0 → length o.lines ≤ 65 → FewOpen o.after → Reported o
unaccepted_reports o e none lines few = record { counted = λ h. absurd (grind (arith, nat_tests)); uncounted = λ _. none; lines_fit = lines; accesses_fit = few }

pub reported : (p : Policy) (s : State) (sheet : ℕ) (call : Call) → FewOpen s → Reported (step p s sheet call)
reported p s sheet call few =
    by_step p s sheet call Reported
    (λ n e. unaccepted_reports (refused n s) e refl (omega arith) few)
    (λ d _ e. unaccepted_reports (unless_denied (Some d) s (refused 0 s)) (denies p s call d e).returned refl (omega arith) few)
    (λ e _. accepted_reports (moved s call) (given s call) (written s call) (sweep p (moved s call)) (moved_few s sheet call e few)
    (own_lines s call) (sweep_reports p (moved s call)))

-- at most 64 are open after every shift
pub shift_few : (p : Policy) (badges : List Badge) (lots : List Lot) (first last : State) (es : List Entry) → New badges lots first → Shift p first es last → FewOpen last
shift_few p badges lots first last es new shift =
    by_shift p FewOpen (λ s sheet call few. (reported p s sheet call few).accesses_fit) shift
    (subst (λ (x : Scene). length x.accesses ≤ 64) (sym new.scene) (omega arith))

pub calls_reported : CallsReported
calls_reported p badges lots first last es new shift sheet call = reported p last sheet call (shift_few p badges lots first last es new shift)
