-- Each round writes the machine's line, closes its access and asks as many questions. Assumes nothing.
use Rattle.std.proofs.Common.{◌≡◌, ◌≤◌, length, Some, None, sym, refl, ap, ◌∙◌, subst, arith}
use Rattle.records.specs.declared.Kind.TheVariants.{Revoked}
use Rattle.machine.specs.State.{Policy, State, situation}
use Rattle.machine.specs.Lines.{closing_line}
use Rattle.machine.specs.Report.{questions_of}
use Rattle.machine.specs.Sweep.{to_revoke, sweep}
use Rattle.machine.proofs.Reporting.{sweep_questions}
use Rattle.machine.proofs.Cases.{length_close}
use Rattle.machine.proofs.Foremost.{to_revoke_in}
use Rattle.machine.proofs.Serials.{first_access}
use Rattle.monitor.specs.Answered.{policy_by, state_by, SweptBy}
use Rattle.monitor.specs.Failing.{with_cause}
use Rattle.monitor.proofs.Sweeping.{underway_begins, underway_more, underway_ends, found_failing, found_none, kept_policy}
use Rattle.monitor.proofs.Monitor.sweep.Goals as goal

pub loop-failing-init : goal.loop-failing-init
loop-failing-init g c =
    let p : Policy = policy_by g.R.Rule.opening g.R.Rule.staying g.O.Order.before c.args.self.now in
    let first : State = state_by g.P.Purse.books c.args.self.now in
    let few : length first.scene.accesses ≤ 64 = c.args.self.now.tables.accesses_fit in
    (refl, underway_begins p first c.args.from c.args.sheet.now few c.requires)

pub close-requires : goal.close-requires
close-requires g c =
    let p : Policy = policy_by g.R.Rule.opening g.R.Rule.staying g.O.Order.before c.loop-failing.self in
    let s : State = state_by g.P.Purse.books c.loop-failing.self in
    let found = found_failing p s c.in-Some.failing c.in-Some.ensures.failing in
    first_access s.scene.accesses c.in-Some.failing.access c.loop-failing.self.tables.kept.own_serials.apart (to_revoke_in p s.scene c.in-Some.failing.access found.0).0

pub loop-failing-smaller : goal.loop-failing-smaller
loop-failing-smaller g c =
    let p : Policy = policy_by g.R.Rule.opening g.R.Rule.staying g.O.Order.before c.loop-failing.self in
    let s : State = state_by g.P.Purse.books c.loop-failing.self in
    let found = found_failing p s c.in-Some.failing c.in-Some.ensures.failing in
    omega (arith, length_close p s c.in-Some.failing.access found.0, ap (λ t. length t.scene.accesses) c.close.ensures.state)

pub loop-failing-preserved : goal.loop-failing-preserved
loop-failing-preserved g c =
    let p : Policy = policy_by g.R.Rule.opening g.R.Rule.staying g.O.Order.before c.args.self.now in
    let first : State = state_by g.P.Purse.books c.args.self.now in
    let s : State = state_by g.P.Purse.books c.loop-failing.self in
    let same : policy_by g.R.Rule.opening g.R.Rule.staying g.O.Order.before c.loop-failing.self ≡ p =
    kept_policy g.R.Rule.opening g.R.Rule.staying g.O.Order.before c.loop-failing.self c.args.self.now c.loop-failing.invariant.0 in
    let found = found_failing p s c.in-Some.failing (subst (λ (q : Policy). Some c.in-Some.failing ≡ with_cause q s.scene (to_revoke q s.scene)) same c.in-Some.ensures.failing) in
    let line_is : c.closing_line.result ≡ closing_line Revoked s.scene.room.clock (p.staying (situation s.scene c.in-Some.failing.access)) c.in-Some.failing.access =
    c.closing_line.ensures
    ∙ ap (λ r. closing_line Revoked r.clock c.from.result c.in-Some.failing.access) c.room-minute.ensures
    ∙ ap (λ n. closing_line Revoked s.scene.room.clock n c.in-Some.failing.access) (c.from.ensures ∙ found.1) in (
      c.close.ensures.policy ∙ c.loop-failing.invariant.0,
      underway_more p first s c.args.from c.loop-failing.lines c.loop-failing.questions c.args.sheet.now c.loop-failing.sheet c.loop-failing.invariant.1
          c.in-Some.failing.access c.closing_line.result (state_by g.P.Purse.books c.close.new.self) c.first_failing.new.questions
          found.0 line_is c.close.ensures.state c.first_failing.ensures.counted,
    )

pub returns : goal.returns
returns g c =
    let p : Policy = policy_by g.R.Rule.opening g.R.Rule.staying g.O.Order.before c.args.self.now in
    let first : State = state_by g.P.Purse.books c.args.self.now in
    let s : State = state_by g.P.Purse.books c.loop-failing.self in
    let same : policy_by g.R.Rule.opening g.R.Rule.staying g.O.Order.before c.loop-failing.self ≡ p =
    kept_policy g.R.Rule.opening g.R.Rule.staying g.O.Order.before c.loop-failing.self c.args.self.now c.loop-failing.invariant.0 in
    let none = found_none p s (subst (λ (q : Policy). None ≡ with_cause q s.scene (to_revoke q s.scene)) same c.in_default.ensures.failing) in
    let swept : SweptBy (sweep p first) c.args.from (c.loop-failing.lines, c.first_failing.new.questions) s c.args.sheet.now c.loop-failing.sheet =
    underway_ends p first s c.args.from c.loop-failing.lines c.loop-failing.questions c.args.sheet.now c.loop-failing.sheet c.loop-failing.invariant.1
    c.first_failing.new.questions none c.first_failing.ensures.counted in
    record {
      swept = swept;
      formula = swept.questions ∙ sweep_questions p first ∙ ap (questions_of (length first.scene.accesses)) (sym swept.lines);
      few = omega (arith, c.loop-failing.invariant.1.counted, c.loop-failing.invariant.1.few);
      policy = c.loop-failing.invariant.0;
    }
