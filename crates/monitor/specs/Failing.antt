-- The access to revoke with its answer, as it is found while questions are put one after another. Assumes nothing.
use Rattle.std.specs.Prelude.{ℕ, Bool, cond, List, [], ◌∷◌, Some, None, Option, ◌==◌}
use Rattle.records.specs.declared.Access.{Access}
use Rattle.machine.specs.State.{Policy, Scene, situation}
use Rattle.monitor.specs.declared.policy.Failing.{Failing}

abbrev pub failing : Access → ℕ → Failing
failing a cause = record { access = a; cause = cause }

-- the one to revoke, with its answer to the staying question
abbrev pub with_cause : Policy → Scene → Option Access → Option Failing
with_cause p s None = None
with_cause p s (Some a) = Some (failing a (p.staying (situation s a)))

-- of a failing access and the foremost so far, the one that goes first
abbrev pub ahead : (Access → Access → Bool) → Failing → Option Failing → Option Failing
ahead before new None = Some new
ahead before new (Some best) = cond (before new.access best.access) (Some new) (Some best)

-- the foremost so far, once an access has answered
abbrev pub foremost_with : (Access → Access → Bool) → Access → ℕ → Option Failing → Option Failing
foremost_with before a answer best = cond (answer == 0) best (ahead before (failing a answer) best)

-- and once the accesses of a list have answered
abbrev pub foremost_of : Policy → Scene → Option Failing → List Access → Option Failing
foremost_of p s best [] = best
foremost_of p s best (a ∷ more) = foremost_of p s (foremost_with p.before a (p.staying (situation s a)) best) more
