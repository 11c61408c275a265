-- The way up from a role: at each of its three ends the answer is the definition's, and with it the two rules'.
use Rattle.std.proofs.Common.{◌≡◌, ℕ, Bool, true, Decides, ap, ◌∙◌}
use Rattle.std.proofs.lemmas.Bool.Decides.{Decides-at}
use Rattle.usage.specs.Roles.{at_or_above, Above}
use Rattle.usage.proofs.Parents.{decides_above, met_same, met_higher}
use Rattle.usage.proofs.role.+at_or_above.Goals as goal

decided : (role other : ℕ) (r : Bool) → r ≡ at_or_above role other → Decides r (Above role other)
decided role other r e = Decides-at r (at_or_above role other) e (decides_above role other)

pub returns-then-role-other : goal.returns-then-role-other
returns-then-role-other t c =
    let e : true ≡ at_or_above c.args.role c.args.other = met_same _ _ c.if-role-other.true in
    record { value = e; meaning = decided _ _ _ e }

pub returns : goal.returns
returns t c =
    let e : c.at_or_above.result ≡ at_or_above c.args.role c.args.other =
    c.at_or_above.ensures.value ∙ ap (at_or_above c.args.role) c.parent_of.ensures
    ∙ met_higher c.args.role c.args.other c.if-role-other.false c.if-other-eq0.false in
    record { value = e; meaning = decided _ _ _ e }
