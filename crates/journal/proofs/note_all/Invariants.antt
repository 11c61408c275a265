-- What holds while calls are made. Assumes nothing.
use Rattle.std.proofs.Common.{◌≡◌, vec_items}
use Rattle.monitor.specs.Answered.{policy_by, state_by}
use Rattle.journal.specs.Notes.{NotedTo}
use Rattle.journal.proofs.note_all.Given as goal

-- the policy is that at the start, and each call so far was noted
abbrev pub invariant-loop-call : goal.invariant-loop-call
invariant-loop-call g l =
    (l.monitor.policy ≡ l.initial.monitor.policy)
    × NotedTo (policy_by g.R.Rule.opening g.R.Rule.staying g.O.Order.before l.initial.monitor)
    (state_by g.P.Purse.books l.initial.monitor)
    l.calls l.call-index (vec_items l.entries) (state_by g.P.Purse.books l.monitor)
