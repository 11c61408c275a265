use Rattle.std.proofs.Common.{◌≡◌, ℕ, List, Some, None, sym, refl, ◌∙◌, ap}
use Rattle.register.specs.Lists.{first, without}
use Rattle.records.specs.declared.Access.{Access}
use Rattle.machine.specs.State.{Scene, is_access, with_accesses}
use Rattle.machine.specs.Sweep.{strike}
use Rattle.tables.specs.Tables.{scene_of, struck, struck_one}
use Rattle.tables.proofs.Keeping.{kept_struck, kept_at, found_under, found_again}
use Rattle.register.proofs.Lists.{without_none}
use Rattle.tables.proofs.table.Tables.strike.Goals as goal

-- what the removal left, by the access's own serial
gone : (serial : ℕ) (xs rest : List Access) (a : Access) → first (is_access serial) xs ≡ Some a → rest ≡ without (is_access serial) xs → rest ≡ without (is_access a.serial) xs
gone serial xs rest a found left = left ∙ ap (λ n. without (is_access n) xs) (sym (found_under serial xs a found))

pub invariant_of-self-clause-kept : goal.invariant_of-self-clause-kept
invariant_of-self-clause-kept c =
    let xs = c.args.self.now.accesses in
    let found : first (is_access c.args.serial) xs ≡ Some c.in-Some.access = sym c.remove.ensures.removed ∙ c.in-Some.is in
    kept_at _ _ _ _ _ c.lower.ensures.after (gone c.args.serial xs c.remove.new.self c.in-Some.access found c.remove.ensures.after)
    (kept_struck c.in-Some.access c.args.self.now.lots xs c.args.self.now.next_serial (found_again c.args.serial xs c.in-Some.access found) c.args.self.now.kept)

-- nothing is struck
kept_all : (serial : ℕ) (xs rest : List Access) → first (is_access serial) xs ≡ None → rest ≡ without (is_access serial) xs → rest ≡ xs
kept_all serial xs rest none left = left ∙ without_none (is_access serial) xs none

pub invariant_of-self-in_default-clause-kept : goal.invariant_of-self-in_default-clause-kept
invariant_of-self-in_default-clause-kept c =
    kept_at _ _ _ _ _ refl
    (kept_all c.args.serial c.args.self.now.accesses c.remove.new.self (sym c.remove.ensures.removed ∙ c.in_default.is) c.remove.ensures.after) c.args.self.now.kept

pub returns-in_default-clause-scene : goal.returns-in_default-clause-scene
returns-in_default-clause-scene c =
    let s : Scene = scene_of c.args.self.now in
    let none : first (is_access c.args.serial) s.accesses ≡ None = sym c.remove.ensures.removed ∙ c.in_default.is in
    ap (with_accesses s) (kept_all c.args.serial s.accesses c.remove.new.self none c.remove.ensures.after) ∙ sym (ap (λ o. struck_one o s) none)

pub returns-in-Some-clause-scene : goal.returns-in-Some-clause-scene
returns-in-Some-clause-scene c =
    let xs = c.args.self.now.accesses in
    let s : Scene = scene_of c.args.self.now in
    let found : first (is_access c.args.serial) xs ≡ Some c.in-Some.access = sym c.remove.ensures.removed ∙ c.in-Some.is in
    let accesses = gone c.args.serial xs c.remove.new.self c.in-Some.access found c.remove.ensures.after in
    let which : struck c.args.serial s ≡ strike c.in-Some.access s = ap (λ o. struck_one o s) found in
    let lots = c.lower.ensures.after in
    cc
