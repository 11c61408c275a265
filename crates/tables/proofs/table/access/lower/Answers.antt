use Rattle.std.proofs.Common.{◌≡◌, ◌-◌, Some, None, length, refl, ap, ◌∙◌, sym}
use Rattle.register.specs.Lists.{first}
use Rattle.register.proofs.Lists.{changed_none, length_changed}
use Rattle.machine.specs.State.{is_lot, with_heads, lower}
use Rattle.tables.proofs.Coded.{lots_sought}
use Rattle.tables.proofs.Replaced.{heads_replaced}
use Rattle.tables.proofs.table.access.lower.Goals as goal

pub returns-in-Some : goal.returns-in-Some
returns-in-Some c =
    let found : first (is_lot c.args.code.now) c.args.lots.now ≡ Some c.in-Some.lot =
    sym (c.find.ensures ∙ ap (λ p. first p c.args.lots.now) (lots_sought c.args.code.now)) ∙ c.in-Some.is in
    let after : c.replace.new.self ≡ lower c.args.code.now c.args.lots.now =
    c.replace.ensures.after ∙ heads_replaced (λ n. n - 1) c.args.lots.now c.args.code.now c.in-Some.lot c.saturating_sub.result found c.saturating_sub.ensures in
    record { after = after; many = ap length after ∙ length_changed (is_lot c.args.code.now) (λ l. with_heads (l.heads - 1) l) c.args.lots.now }

pub returns-in_default : goal.returns-in_default
returns-in_default c =
    let none : first (is_lot c.args.code.now) c.args.lots.now ≡ None =
    sym (c.find.ensures ∙ ap (λ p. first p c.args.lots.now) (lots_sought c.args.code.now)) ∙ c.in_default.is in
    record { after = sym (changed_none (is_lot c.args.code.now) (λ l. with_heads (l.heads - 1) l) c.args.lots.now none); many = refl }
