-- The places from there on turn left by one. Assumes nothing.
use Rattle.std.proofs.Common.{◌-◌, length, take, append_assoc, length-take-le, arith}
use Rattle.std.proofs.lemmas.Slice.{put_mid-rotated}
use Rattle.register.proofs.slice.strike.Goals as goal

pub returns-clause-after : goal.returns-clause-after
returns-clause-after g c =
    let held = take c.args.count c.args.records.now in
    let fits = length-take-le c.args.count c.args.records.now (omega arith) in
    let turned =
    put_mid-rotated c.args.at (length held - c.args.at) held c.rotate_left.new.self c.index-held-at.result (omega (arith, fits)) (omega (arith, fits))
    c.rotate_left.ensures.after in
    rw (turned, ← c.index-held-at.is, append_assoc)
