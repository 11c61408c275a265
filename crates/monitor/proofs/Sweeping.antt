-- A sweep that is under way: what was written and asked so far, and what is left of the machine's sweep. Assumes nothing.
use Rattle.std.proofs.Common.{◌≡◌, ℕ, suc, ◌+◌, ◌*◌, ◌<◌, ◌≤◌, Bool, List, [], ◌∷◌, ◌++◌, length, get_or, take, drop, set, Some, None, sym, refl, ap, ◌∙◌, append_assoc, arith, length-append}
use Rattle.std.proofs.lemmas.List.{append-nil, set_at, drop_more, length-take-le, take-append-drop}
use Rattle.register.specs.Tests.{by_option, none_some}
use Rattle.records.specs.declared.Access.{Access}
use Rattle.records.specs.declared.Line.{Line}
use Rattle.records.specs.declared.Kind.TheVariants.{Revoked}
use Rattle.records.specs.declared.Situation.{Situation}
use Rattle.machine.specs.State.{Policy, State, situation}
use Rattle.machine.specs.Lines.{closing_line}
use Rattle.machine.specs.Sweep.{close, to_revoke, one_more, sweep}
use Rattle.machine.proofs.Cases.{length_close}
use Rattle.machine.proofs.Rounds.{done, sweep_done, sweep_more}
use Rattle.monitor.specs.declared.policy.Failing.{Failing}
use Rattle.monitor.specs.declared.Monitor.{Monitor}
use Rattle.monitor.specs.Answered.{policy_of, policy_by, written_from, SweptBy}
use Rattle.monitor.specs.Failing.{failing, with_cause}

-- one line more, right behind those written
pub written_more : (from : ℕ) (lines sheet : List Line) (l : Line) → from + length lines < length sheet →
    set (written_from from lines sheet) (from + length lines) l ≡ written_from from (lines ++ (l ∷ [])) sheet
written_more from lines sheet l h =
    let n : ℕ = from + length lines in
    let front : List Line = take from sheet ++ lines in
    let long : length front ≡ n = length-append (take from sheet) lines ∙ ap (λ k. k + length lines) (length-take-le from sheet (omega arith)) in
    let next : n + 1 ≡ from + length (lines ++ (l ∷ [])) = omega (arith, length-append lines (l ∷ [])) in
    ap (λ t. set t n l) (sym (append_assoc (take from sheet) lines (drop n sheet)) ∙ ap (λ t. front ++ t) (drop_more sheet n l h))
    ∙ set_at front (get_or sheet n l) (drop (n + 1) sheet) l n long
    ∙ append_assoc (take from sheet) lines (l ∷ drop (n + 1) sheet)
    ∙ ap (λ t. take from sheet ++ t) (sym (append_assoc lines (l ∷ []) (drop (n + 1) sheet)))
    ∙ ap (λ k. take from sheet ++ ((lines ++ (l ∷ [])) ++ drop k sheet)) next

-- nothing written yet
written_none : (from : ℕ) (sheet : List Line) → sheet ≡ written_from from [] sheet
written_none from sheet = sym (take-append-drop from sheet) ∙ ap (λ n. take from sheet ++ drop n sheet) (omega arith)

-- from a first state to one between two rounds
pub record Underway (p : Policy) (first s : State) (from lines questions : ℕ) (sheet new_sheet : List Line) : Type 0 where
  pub so_far : List Line
  pub many : length so_far ≡ lines
  pub left : so_far ++ (sweep p s).lines ≡ (sweep p first).lines
  pub asked : questions + (sweep p s).questions ≡ (sweep p first).questions
  pub after : (sweep p s).after ≡ (sweep p first).after
  pub written : new_sheet ≡ written_from from so_far sheet
  pub counted : lines + length s.scene.accesses ≡ length first.scene.accesses
  pub few : length first.scene.accesses ≤ 64
  pub room : from + length first.scene.accesses ≤ length sheet
  pub few_asked : questions ≤ lines * 64

pub underway_begins : (p : Policy) (s : State) (from : ℕ) (sheet : List Line) → length s.scene.accesses ≤ 64 → from + length s.scene.accesses ≤ length sheet →
    Underway p s s from 0 0 sheet sheet
underway_begins p s from sheet few room = record {
  so_far = [];
  many = refl;
  left = refl;
  asked = omega arith;
  after = refl;
  written = written_none from sheet;
  counted = omega arith;
  few = few;
  room = room;
  few_asked = omega arith;
}

-- what a round found is to be revoked, with its answer
pub found_failing : (p : Policy) (s : State) (f : Failing) → Some f ≡ with_cause p s.scene (to_revoke p s.scene) →
    (to_revoke p s.scene ≡ Some f.access) × (f.cause ≡ p.staying (situation s.scene f.access))
found_failing p s f e =
    by_option (to_revoke p s.scene) (λ o. Some f ≡ with_cause p s.scene o → (o ≡ Some f.access) × (f.cause ≡ p.staying (situation s.scene f.access)))
    (λ _ h. none_some (sym h))
    (λ a _ h. let same : f ≡ failing a (p.staying (situation s.scene a)) = cc in
    (ap (λ x. Some x.access) (sym same), ap (λ x. x.cause) same ∙ ap (λ x. p.staying (situation s.scene x.access)) (sym same)))
    e

pub found_none : (p : Policy) (s : State) → None ≡ with_cause p s.scene (to_revoke p s.scene) → to_revoke p s.scene ≡ None
found_none p s e =
    by_option (to_revoke p s.scene) (λ o. None ≡ with_cause p s.scene o → o ≡ None)
    (λ _ _. refl) (λ a _ h. none_some h) e

module _ (p : Policy) (first s : State) (from lines questions : ℕ) (sheet new_sheet : List Line) (u : Underway p first s from lines questions sheet new_sheet) where
  -- one round more
  pub underway_more : (a : Access) (l : Line) (next : State) (more : ℕ) → to_revoke p s.scene ≡ Some a →
      l ≡ closing_line Revoked s.scene.room.clock (p.staying (situation s.scene a)) a → next ≡ close a s →
      more ≡ questions + length s.scene.accesses →
      Underway p first next from (lines + 1) more sheet (set new_sheet (from + lines) l)
  underway_more a l next more e line_is next_is more_is =
      let here : sweep p s ≡ one_more (length s.scene.accesses) (closing_line Revoked s.scene.room.clock (p.staying (situation s.scene a)) a) (sweep p (close a s)) = sweep_more p s a e in
      let fewer : suc (length (close a s).scene.accesses) ≡ length s.scene.accesses = length_close p s a e in
      let rest : sweep p s ≡ one_more (length s.scene.accesses) l (sweep p next) =
      here ∙ ap (λ x. one_more (length s.scene.accesses) x (sweep p (close a s))) (sym line_is) ∙ ap (λ t. one_more (length s.scene.accesses) l (sweep p t)) (sym next_is) in
      let shorter : suc (length next.scene.accesses) ≡ length s.scene.accesses = ap (λ t. suc (length t.scene.accesses)) next_is ∙ fewer in
      record {
        so_far = u.so_far ++ (l ∷ []);
        many = omega (arith, length-append u.so_far (l ∷ []), u.many);
        left = append_assoc u.so_far (l ∷ []) (sweep p next).lines ∙ ap (λ ls. u.so_far ++ ls) (sym (ap (λ w. w.lines) rest)) ∙ u.left;
        asked = omega (arith, u.asked, ap (λ w. w.questions) rest, more_is);
        after = sym (ap (λ w. w.after) rest) ∙ u.after;
        written = ap (λ t. set t (from + lines) l) u.written
            ∙ ap (λ n. set (written_from from u.so_far sheet) (from + n) l) (sym u.many)
            ∙ written_more from u.so_far sheet l (omega (arith, u.many, u.counted, u.room, shorter));
        counted = omega (arith, u.counted, shorter);
        few = u.few;
        room = u.room;
        few_asked = omega (arith, u.few_asked, u.counted, u.few, more_is);
      }

  -- none is left to revoke
  pub underway_ends : (more : ℕ) → to_revoke p s.scene ≡ None → more ≡ questions + length s.scene.accesses →
      SweptBy (sweep p first) from (lines, more) s sheet new_sheet
  underway_ends more e more_is =
      let here : sweep p s ≡ done s = sweep_done p s e in
      let all : u.so_far ≡ (sweep p first).lines = sym (append-nil u.so_far) ∙ ap (λ w. u.so_far ++ w.lines) (sym here) ∙ u.left in
      record {
        lines = sym u.many ∙ ap length all;
        questions = omega (arith, u.asked, ap (λ w. w.questions) here, more_is);
        state = sym (ap (λ w. w.after) here) ∙ u.after;
        written = u.written ∙ ap (λ ls. written_from from ls sheet) all;
      }

-- a policy by a rule and an order, and by equal ones
pub same_policy : {R O : Type 0} (opening staying : R → Situation → ℕ) (before : O → Access → Access → Bool) (r q : R) (o t : O) → r ≡ q → o ≡ t →
    policy_of (opening r) (staying r) (before o) ≡ policy_of (opening q) (staying q) (before t)
same_policy opening staying before r q o t e f =
    ap (λ x. policy_of (opening x) (staying x) (before o)) e ∙ ap (λ x. policy_of (opening q) (staying q) (before x)) f

-- and by monitors that ask by the same
pub kept_policy : {R O P : Type 0} (opening staying : R → Situation → ℕ) (before : O → Access → Access → Bool) (m n : Monitor R O P) → m.policy ≡ n.policy →
    policy_by opening staying before m ≡ policy_by opening staying before n
kept_policy opening staying before m n e =
    same_policy opening staying before m.policy.rule n.policy.rule m.policy.order n.policy.order (ap (λ q. q.rule) e) (ap (λ q. q.order) e)
