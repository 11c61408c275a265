use Rattle.std.proofs.Common.{refl, ap, ◌∙◌, rules}
use Rattle.machine.specs.State.{is_access, with_accesses}
use Rattle.machine.specs.Scenes.{after_duty}
use Rattle.tables.specs.Tables.{scene_of}
use Rattle.tables.proofs.Keeping.{kept_changed, kept_at}
use Rattle.tables.proofs.Replaced.{access_replaced}
use Rattle.tables.proofs.table.Tables.duty.Goals as goal

pub invariant_of-self-clause-kept : goal.invariant_of-self-clause-kept
invariant_of-self-clause-kept c =
    kept_at _ _ _ _ _ refl
    (c.replace.ensures.after
    ∙ access_replaced (after_duty c.args.self.now.room.clock) c.args.self.now.accesses c.args.serial c.in_ok-access.access _ (search rules) refl refl)
    (kept_changed (is_access c.args.serial) (after_duty c.args.self.now.room.clock) c.args.self.now.lots c.args.self.now.accesses c.args.self.now.next_serial
    (λ _. refl) (λ _. refl) c.args.self.now.kept)

pub returns : goal.returns
returns c =
    record {
      returned = search rules;
      scene = ap (with_accesses (scene_of c.args.self.now))
          (c.replace.ensures.after
          ∙ access_replaced (after_duty c.args.self.now.room.clock) c.args.self.now.accesses c.args.serial c.in_ok-access.access _ (search rules) refl refl);
      serial = search rules;
    }
