use Rattle.std.proofs.Common.{◌≡◌, ◌+◌, drop, None}
use Rattle.tables.specs.Tables.{scene_of}
use Rattle.monitor.specs.Answered.{policy_of}
use Rattle.monitor.specs.Failing.{foremost_of}
use Rattle.monitor.proofs.policy.Policy.first_failing.Given as goal

-- each access so far was questioned, and what is left to question gives the foremost of all
abbrev pub invariant-loop-access : goal.invariant-loop-access
invariant-loop-access g l =
    (l.questions ≡ l.initial.questions + l.access-index)
    × (foremost_of (policy_of (g.R.Rule.opening l.self.rule) (g.R.Rule.staying l.self.rule) (g.O.Order.before l.self.order)) (scene_of l.tables) l.foremost (drop l.access-index l.access-items)
    ≡ foremost_of (policy_of (g.R.Rule.opening l.self.rule) (g.R.Rule.staying l.self.rule) (g.O.Order.before l.self.order)) (scene_of l.tables) None l.access-items)
