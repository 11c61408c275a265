-- The places from there on move up by one, and the first is written. Assumes nothing.
use Rattle.std.proofs.Common.{arith}
use Rattle.register.proofs.Slices.{moved_up}
use Rattle.register.proofs.slice.enter.Goals as goal

pub returns : goal.returns
returns g c = moved_up c.args.records.now c.copy_within.new.self c.args.count c.args.at c.args.new (omega arith) (omega arith) c.copy_within.ensures.after
