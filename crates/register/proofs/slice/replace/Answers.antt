-- A record is written at the place of its key in the register. Assumes nothing.
use Rattle.std.proofs.Common.{sym, ◌∙◌}
use Rattle.register.proofs.Lists.{changed_none}
use Rattle.register.proofs.Slices.{found, found_nowhere, replaced_slice, replaced_register, struck_first, unreplaced_slice}
use Rattle.register.proofs.slice.replace.Goals as goal

pub returns : goal.returns
returns g c =
    let there =
    found g.T.Key.PartialEq.eq g.T.Keyed.keyed c.args.count c.args.records.now c.place_of.ensures c.key.ensures c.first_places.ensures c.in_ok-at.was in
    rw (c.replace.ensures.value, ← c.index-records-at.is, c.replace.ensures.after) (record {
      replaced = struck_first there c.index-records-at.result c.index-records-at.is;
      after = replaced_slice there c.args.new;
      register = replaced_register there c.args.new;
    })

pub returns-in_err-at : goal.returns-in_err-at
returns-in_err-at g c =
    let nowhere =
    found_nowhere g.T.Key.PartialEq.eq g.T.Keyed.keyed c.args.count c.args.records.now c.place_of.ensures c.key.ensures c.first_places.ensures c.in_err-at.was in
    record {
      replaced = c.from_residual.ensures ∙ sym nowhere;
      after = sym (unreplaced_slice _ c.args.count c.args.records.now c.args.new nowhere);
      register = sym (changed_none _ (λ _. c.args.new) _ nowhere);
    }
