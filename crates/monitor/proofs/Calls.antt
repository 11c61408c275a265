-- What a call answers, from its checks, its change and the sweep. Assumes nothing.
use Rattle.std.proofs.Common.{◌≡◌, ℕ, suc, ◌+◌, ◌<◌, ◌≤◌, true, false, cond, eqb, ltb, leb, List, [], ◌∷◌, ◌++◌, length, drop, set, Ok, refl, ap, ◌∙◌, subst, add-one, one-add, arith}
use Rattle.std.proofs.lemmas.Bool.Decides.{nat_tests}
use Rattle.register.specs.Lists.{some}
use Rattle.register.specs.Tests.{by_test, not_refused}
use Rattle.records.specs.declared.Answer.{Answer}
use Rattle.records.specs.declared.Line.{Line}
use Rattle.usage.specs.Books.{Books}
use Rattle.machine.specs.State.{Policy, Scene, State, is_lot, with_scene}
use Rattle.machine.specs.Sweep.{sweep}
use Rattle.machine.specs.Checks.{first_applying, open_checks}
use Rattle.machine.specs.Step.{Outcome, accepted, refused, unless_refused, sheet_after}
use Rattle.machine.proofs.Checked.{none_apply}
use Rattle.tables.specs.Tables.{if_passed}
use Rattle.monitor.specs.Answered.{Answered, SweptBy, written_from}

-- the rest of a call from the state that its checks left
finished : (p : Policy) (s moved t : State) (n : ℕ) → t ≡ if_passed n moved s →
    unless_refused n t (accepted 0 [] (sweep p t)) ≡ unless_refused n s (accepted 0 [] (sweep p moved))
finished p s moved t n e =
    by_test (eqb n 0) (λ b. t ≡ cond b moved s → cond b (accepted 0 [] (sweep p t)) (refused n t) ≡ cond b (accepted 0 [] (sweep p moved)) (refused n s))
    (λ _ h. ap (λ x. accepted 0 [] (sweep p x)) h) (λ _ h. ap (refused n) h) e

abbrev state : Scene → ℕ → Books → State
state scene next_serial books = record { scene = scene; next_serial = next_serial; books = books }

-- a call that changes the scene alone
pub scene_call : (p : Policy) (s : State) (scene new_scene : Scene) (next_serial returned n : ℕ) (a : Answer) (after : State) (sheet new_sheet : List Line) →
    returned ≡ n → new_scene ≡ if_passed returned scene s.scene → next_serial ≡ s.next_serial →
    Answered (unless_refused returned (state new_scene next_serial s.books) (accepted 0 [] (sweep p (state new_scene next_serial s.books)))) a after sheet new_sheet →
    Answered (unless_refused n s (accepted 0 [] (sweep p (with_scene s scene)))) a after sheet new_sheet
scene_call p s scene new_scene next_serial returned n a after sheet new_sheet number changed kept h =
    let moved : state new_scene next_serial s.books ≡ if_passed returned (with_scene s scene) s =
    ap (λ k. state new_scene k s.books) kept ∙ ap (λ x. with_scene s x) changed
    ∙ by_test (eqb returned 0) (λ b. with_scene s (cond b scene s.scene) ≡ cond b (with_scene s scene) s) (λ _. refl) (λ _. refl) in
    subst (λ (o : Outcome). Answered o a after sheet new_sheet)
    (finished p s (with_scene s scene) (state new_scene next_serial s.books) returned moved ∙ ap (λ k. unless_refused k s (accepted 0 [] (sweep p (with_scene s scene)))) number) h

-- a line on the first place of a sheet, and lines behind it
more_lines : (l : Line) (lines sheet : List Line) → 0 < length sheet → written_from 1 lines (set sheet 0 l) ≡ sheet_after (l ∷ lines) sheet
more_lines l lines [] h = absurd (omega arith)
more_lines l lines (x ∷ sheet) h = ap (λ n. l ∷ (lines ++ drop n (l ∷ sheet))) (one-add (length lines))

-- a call that writes a line of its own and then sweeps
pub line_call : (p : Policy) (moved t : State) (serial : ℕ) (l line : Line) (r : ℕ × ℕ) (after : State) (sheet new_sheet : List Line) →
    0 < length sheet → t ≡ moved → line ≡ l → SweptBy (sweep p t) 1 r after (set sheet 0 line) new_sheet →
    Answered (accepted serial (l ∷ []) (sweep p moved)) (record { returned = Ok tt; lines = r.0 + 1; serial = serial; questions = r.1 }) after sheet new_sheet
line_call p moved t serial l line r after sheet new_sheet h same same_line swept = record {
  returned = refl;
  lines = add-one r.0 ∙ ap suc (swept.lines ∙ ap (λ x. length (sweep p x).lines) same);
  serial = refl;
  questions = swept.questions ∙ ap (λ x. (sweep p x).questions) same;
  state = swept.state ∙ ap (λ x. (sweep p x).after) same;
  written = swept.written ∙ more_lines line (sweep p t).lines sheet h ∙ ap (λ x. sheet_after (x ∷ (sweep p t).lines) sheet) same_line
      ∙ ap (λ x. sheet_after (l ∷ (sweep p x).lines) sheet) same;
}

-- an open that no check refuses has a sheet, a place, a serial and a lot
pub record OpenPassed (s : State) (sheet : ℕ) (c : List ℕ) : Type 0 where
  pub room : 65 ≤ sheet
  pub place : length s.scene.accesses < 64
  pub serial : s.next_serial ≤ 1000000000
  pub lot : some (is_lot c) s.scene.lots ≡ true

pub open_passed : (s : State) (sheet n : ℕ) (c : List ℕ) (r units : ℕ) → first_applying (open_checks s sheet n c r units) ≡ 0 → OpenPassed s sheet c
open_passed s sheet n c r units e =
    let none = none_apply (open_checks s sheet n c r units) refl e in
    let long : ltb sheet 65 ≡ false = none.0 in
    let free : leb 64 (length s.scene.accesses) ≡ false = none.1.1.1.1.1.0 in
    let left : ltb 1000000000 s.next_serial ≡ false = none.1.1.1.1.1.1.0 in
    record {
      room = grind (arith, nat_tests);
      place = grind (arith, nat_tests);
      serial = grind (arith, nat_tests);
      lot = not_refused (some (is_lot c) s.scene.lots) none.1.1.1.0;
    }
