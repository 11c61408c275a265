use Rattle.std.proofs.Common.{refl, ap, ◌∙◌, rules}
use Rattle.machine.specs.State.{is_access, with_accesses}
use Rattle.machine.specs.Scenes.{after_use}
use Rattle.tables.specs.Tables.{scene_of}
use Rattle.tables.proofs.Keeping.{kept_changed, kept_at}
use Rattle.tables.proofs.Replaced.{use_replaced}
use Rattle.tables.proofs.table.Tables.use_units.Goals as goal

pub invariant_of-self-clause-kept : goal.invariant_of-self-clause-kept
invariant_of-self-clause-kept c =
    kept_at _ _ _ _ _ refl
    (c.replace.ensures.after ∙ use_replaced c.args.self.now.accesses c.args.serial c.args.units c.args.self.now.room.clock c.from.result c.in_ok-access.access (search rules) c.from.ensures)
    (kept_changed (is_access c.args.serial) (after_use c.args.units c.args.self.now.room.clock) c.args.self.now.lots c.args.self.now.accesses
    c.args.self.now.next_serial (λ _. refl) (λ _. refl) c.args.self.now.kept)

pub returns : goal.returns
returns c =
    record {
      returned = search rules;
      scene = ap (with_accesses (scene_of c.args.self.now))
          (c.replace.ensures.after
          ∙ use_replaced c.args.self.now.accesses c.args.serial c.args.units c.args.self.now.room.clock c.from.result c.in_ok-access.access (search rules) c.from.ensures);
      serial = refl;
    }
