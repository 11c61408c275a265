use Rattle.std.proofs.Common.{arith}
use Rattle.machine.specs.State.{Policy}
use Rattle.tables.specs.Tables.{scene_of}
use Rattle.monitor.specs.Answered.{policy_of}
use Rattle.monitor.proofs.Foremost.{foremost_all}
use Rattle.monitor.proofs.policy.Policy.first_failing.Goals as goal

pub returns-clause-failing : goal.returns-clause-failing
returns-clause-failing g c =
    let p : Policy = policy_of (g.R.Rule.opening c.args.self.now.rule) (g.R.Rule.staying c.args.self.now.rule) (g.O.Order.before c.args.self.now.order) in
    foremost_all p (scene_of c.args.tables.now) c.loop-access.foremost c.accesses-access-items.result.now (scene_of c.args.tables.now).accesses c.loop-access.access-index (omega arith)
    c.accesses-access-items.ensures c.loop-access.invariant.1
