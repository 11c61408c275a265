use Rattle.std.proofs.Common.{◌≡◌, ℕ, List, nat_eq, sym, refl, ap, ◌∙◌, rules}
use Rattle.std.specs.Cmp.Lexicographic.{pointwise}
use Rattle.register.specs.Lists.{without}
use Rattle.records.specs.declared.Lot.{Lot}
use Rattle.machine.specs.State.{is_lot, with_lots}
use Rattle.tables.specs.Tables.{scene_of}
use Rattle.tables.proofs.Coded.{lots_sought}
use Rattle.tables.proofs.Keeping.{kept_dropped, kept_at}
use Rattle.tables.proofs.table.Tables.drop_lot.Goals as goal

dropped : (c : List ℕ) (lots more : List Lot) → more ≡ without (λ l. pointwise nat_eq l.code c) lots → more ≡ without (is_lot c) lots
dropped c lots more e = e ∙ ap (λ p. without p lots) (lots_sought c)

pub invariant_of-self-clause-kept : goal.invariant_of-self-clause-kept
invariant_of-self-clause-kept c =
    kept_at _ _ _ _ _ (dropped c.args.code c.args.self.now.lots c.remove.new.self c.remove.ensures.after) refl
    (kept_dropped c.args.code c.args.self.now.lots c.args.self.now.accesses c.args.self.now.next_serial (sym c.if-has_open_at.ensures) c.args.self.now.kept)

pub returns : goal.returns
returns c =
    record {
      returned = search rules;
      scene = ap (with_lots (scene_of c.args.self.now)) (dropped c.args.code c.args.self.now.lots c.remove.new.self c.remove.ensures.after);
      serial = refl;
    }
