use Rattle.std.proofs.Common.{◌≡◌, length}
use Rattle.tables.specs.Tables.{scene_of}
use Rattle.monitor.specs.Answered.{policy_by, state_by}
use Rattle.monitor.proofs.Sweeping.{Underway}
use Rattle.monitor.proofs.Monitor.sweep.Given as goal

-- the policy is that at the start, and the sweep is under way
abbrev pub invariant-loop-failing : goal.invariant-loop-failing
invariant-loop-failing g l =
    (l.self.policy ≡ l.initial.self.policy)
    × Underway (policy_by g.R.Rule.opening g.R.Rule.staying g.O.Order.before l.initial.self)
    (state_by g.P.Purse.books l.initial.self)
    (state_by g.P.Purse.books l.self)
    l.from l.lines l.questions l.initial.sheet l.sheet

-- each round closes one
abbrev pub decreases-loop-failing : goal.decreases-loop-failing
decreases-loop-failing g l = length (scene_of l.self.tables).accesses
