-- The first that has the key is struck at its place in the register. Assumes nothing.
use Rattle.std.proofs.Common.{refl, sym}
use Rattle.register.proofs.Lists.{without_none}
use Rattle.register.proofs.Slices.{found, found_nowhere, struck_first, struck_slice, struck_register}
use Rattle.register.proofs.slice.remove.Goals as goal

pub returns : goal.returns
returns g c =
    let there =
    found g.T.Key.PartialEq.eq g.T.Keyed.keyed c.args.count c.args.records.now c.place_of.ensures (refl {a = c.args.key.now}) c.first_places-held.ensures c.in_ok-at.was in
    let after = struck_slice _ c.args.count c.args.records.now _ there.place c.strike.result c.strike.new.records c.first_places-held.ensures c.strike.ensures.after in
    record {
      removed = struck_first there c.strike.result c.strike.ensures.struck;
      after = after;
      register = struck_register there c.strike.result c.strike.new.records after;
    }

pub returns-in_err-at : goal.returns-in_err-at
returns-in_err-at g c =
    let nowhere =
    found_nowhere g.T.Key.PartialEq.eq g.T.Keyed.keyed c.args.count c.args.records.now c.place_of.ensures (refl {a = c.args.key.now}) c.first_places-held.ensures c.in_err-at.was in
    rw c.from_residual.ensures (record {
      removed = sym nowhere;
      after = refl {a = c.args.records.now};
      register = λ _. sym (without_none _ _ nowhere);
    })
