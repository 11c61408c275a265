use Rattle.std.proofs.Common.{◌≡◌, ◌+◌, ◌∷◌, [], ◌++◌, Some, is_some, sym, refl, ap, ◌∙◌, arith, rules}
use Rattle.register.specs.Lists.{first}
use Rattle.register.proofs.Lists.{first_in}
use Rattle.machine.specs.State.{is_lot, raise}
use Rattle.tables.proofs.Keeping.{kept_entered, kept_at, heads_few}
use Rattle.tables.proofs.Replaced.{heads_replaced}
use Rattle.tables.proofs.table.Tables.enter.Goals as goal

pub overflow_add-lot : goal.overflow_add-lot
overflow_add-lot c =
    let found = first_in (is_lot c.args.access.now.lot) c.args.self.now.lots c.in-Some.lot (sym c.lot.ensures ∙ c.in-Some.is) in
    omega (arith, heads_few c.args.self.now.lots c.args.self.now.accesses c.args.self.now.next_serial c.args.self.now.accesses_fit c.args.self.now.kept c.in-Some.lot found.0)

pub invariant_of-self-2-clause-kept : goal.invariant_of-self-2-clause-kept
invariant_of-self-2-clause-kept c =
    let found : first (is_lot c.args.access.now.lot) c.args.self.now.lots ≡ Some c.in-Some.lot = sym c.lot.ensures ∙ c.in-Some.is in
    let last : c.push.new.self ≡ c.args.self.now.accesses ++ (c.args.access.now ∷ []) = search rules in
    kept_at _ _ _ _ _
    (c.replace.ensures.after ∙ heads_replaced (λ n. n + 1) c.args.self.now.lots c.args.access.now.lot c.in-Some.lot (c.in-Some.lot.heads + 1) found refl) last
    (kept_entered c.args.access.now c.args.self.now.lots c.args.self.now.accesses c.args.self.now.next_serial c.if-access-self.false (ap is_some found) c.args.self.now.kept)

pub returns-clause-scene : goal.returns-clause-scene
returns-clause-scene c =
    let found : first (is_lot c.args.access.now.lot) c.args.self.now.lots ≡ Some c.in-Some.lot = sym c.lot.ensures ∙ c.in-Some.is in
    let last : c.push.new.self ≡ c.args.self.now.accesses ++ (c.args.access.now ∷ []) = search rules in
    let raised : c.replace.new.self ≡ raise c.args.access.now.lot c.args.self.now.lots =
    c.replace.ensures.after ∙ heads_replaced (λ n. n + 1) c.args.self.now.lots c.args.access.now.lot c.in-Some.lot (c.in-Some.lot.heads + 1) found refl in
    cc
