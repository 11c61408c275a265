use Rattle.std.proofs.Common.{length}
use Rattle.machine.specs.State.{Policy, State}
use Rattle.machine.proofs.Reporting.{reported}
use Rattle.monitor.specs.Answered.{policy_by, state_by}
use Rattle.monitor.proofs.Monitor.apply.Goals as goal

pub returns : goal.returns
returns g c =
    let p : Policy = policy_by g.R.Rule.opening g.R.Rule.staying g.O.Order.before c.args.self.now in
    let s : State = state_by g.P.Purse.books c.args.self.now in
    record {
      step = c.call.ensures;
      reported = reported p s (length c.args.sheet.now) c.args.call
          c.args.self.now.tables.accesses_fit;
    }
