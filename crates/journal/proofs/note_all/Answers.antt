-- Each turn notes one call more. Assumes nothing.
use Rattle.std.proofs.Common.{[], vec_items, refl, ◌∙◌}
use Rattle.records.specs.declared.Call.TheVariants.{Open}
use Rattle.machine.specs.State.{Policy, State}
use Rattle.monitor.specs.Answered.{policy_by, state_by}
use Rattle.monitor.proofs.Sweeping.{kept_policy}
use Rattle.journal.proofs.Noting.{noted_more}
use Rattle.journal.proofs.note_all.Goals as goal

pub loop-call-preserved : goal.loop-call-preserved
loop-call-preserved g c =
    let p : Policy = policy_by g.R.Rule.opening g.R.Rule.staying g.O.Order.before c.args.monitor.now in
    let q : Policy = policy_by g.R.Rule.opening g.R.Rule.staying g.O.Order.before c.loop-call.monitor in
    let first : State = state_by g.P.Purse.books c.args.monitor.now in (
      c.note.ensures.policy ∙ c.loop-call.invariant.0,
      noted_more p q (kept_policy g.R.Rule.opening g.R.Rule.staying g.O.Order.before c.loop-call.monitor c.args.monitor.now c.loop-call.invariant.0)
          first c.args.calls.now c.loop-call.call-index (vec_items c.loop-call.entries) (vec_items c.note.new.entries)
          (state_by g.P.Purse.books c.loop-call.monitor) (state_by g.P.Purse.books c.note.new.monitor) _ (Open 0 [] 0 0)
          c.loop-call.invariant.1 c.loop-call-test.true refl c.in_ok-note.ensures.ok.0 c.in_ok-note.ensures.ok.1,
    )
