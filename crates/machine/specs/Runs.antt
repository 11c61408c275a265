-- Calls in turn, each at a sheet of 65 lines. Assumes nothing.
use Rattle.std.specs.Prelude.{List, [], ◌∷◌}
use Rattle.records.specs.declared.Call.{Call}
use Rattle.machine.specs.State.{Policy, State}
use Rattle.machine.specs.Step.{Outcome, step}

abbrev pub outcomes : Policy → State → List Call → List Outcome
outcomes p s [] = []
outcomes p s (call ∷ calls) = step p s 65 call ∷ outcomes p (step p s 65 call).after calls

abbrev pub after_calls : Policy → State → List Call → State
after_calls p s [] = s
after_calls p s (call ∷ calls) = after_calls p (step p s 65 call).after calls
