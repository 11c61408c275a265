use Rattle.std.proofs.Common.{◌≡◌, ℕ, Bool, true, false, cond, not, ◌&&◌, ◌||◌, leb, length, is_ok, Ok, Err, Result, nat_lt, sym, ap, refl, ◌∙◌, arith, rules}
use Rattle.std.proofs.lemmas.Bool.Decides.{nat_tests}
use Rattle.register.specs.Lists.{some}
use Rattle.records.proofs.Refusals.{refused}
use Rattle.records.specs.declared.Refusal.TheVariants.{OutOfRange, RegisterFull}
use Rattle.records.specs.Numbers.{returned_number}
use Rattle.records.specs.declared.Lot.{Lot}
use Rattle.records.specs.declared.Refusal.{Refusal}
use Rattle.machine.specs.State.{Scene, is_lot, with_lots}
use Rattle.machine.specs.Scenes.{put_lot}
use Rattle.machine.proofs.Registers.{new_lot}
use Rattle.tables.specs.Tables.{scene_of, if_passed}
use Rattle.tables.proofs.Keeping.{kept_put_if}
use Rattle.tables.proofs.table.Tables.set_lot.Goals as goal

-- a scene whose lots changed where a call was accepted
if_accepted : (r : Result (Unit {0}) Refusal) (s : Scene) (l : Lot) → with_lots s (cond (is_ok r) (put_lot l s.lots) s.lots) ≡ if_passed (returned_number r) (with_lots s (put_lot l s.lots)) s
if_accepted (Ok x) s l = refl
if_accepted (Err e) s l = sym (ap (λ b. cond b (with_lots s (put_lot l s.lots)) s) (refused e))

-- what it returns, where it is there or a place is free, and where not
put_returns : (there : Bool) (n : ℕ) → returned_number (cond (there || nat_lt n 64) (Ok tt) (Err RegisterFull)) ≡ cond (not there && leb 64 n) 11 0
put_returns true n = refl
put_returns false n = grind (arith, nat_tests)

-- a call whose first two checks do not apply
passed : (short fits : Bool) (rest : ℕ) → short ≡ false → fits ≡ true → rest ≡ cond short 1 (cond (not fits) 2 rest)
passed short fits rest e f = sym (ap (λ b. cond b 1 (cond (not fits) 2 rest)) e ∙ ap (λ b. cond (not b) 2 rest) f)

pub invariant_of-self-2-clause-kept : goal.invariant_of-self-2-clause-kept
invariant_of-self-2-clause-kept c =
    let same : c.in_ok-lot_of.field-0 ≡ new_lot c.args.code c.args.level c.args.role c.args.stop c.args.limit c.args.prices = search rules in
    kept_put_if (is_ok c.put.result) c.args.code c.args.level c.args.role c.args.stop c.args.limit c.args.prices c.args.self.now.lots c.put.new.lots
    c.args.self.now.accesses c.args.self.now.next_serial
    (c.put.ensures.after ∙ ap (λ l. cond (is_ok c.put.result) (put_lot l c.args.self.now.lots) c.args.self.now.lots) same) c.args.self.now.kept

pub returns : goal.returns
returns c =
    let same : c.in_ok-lot_of.field-0 ≡ new_lot c.args.code c.args.level c.args.role c.args.stop c.args.limit c.args.prices = search rules in
    let s : Scene = scene_of c.args.self.now in
    record {
      returned = ap returned_number (c.put.ensures.returned ∙ ap (λ l. cond (some (is_lot l.code) s.lots || nat_lt (length s.lots) 64) (Ok tt) (Err RegisterFull)) same)
          ∙ put_returns (some (is_lot c.args.code) s.lots) (length s.lots) ∙ passed _ _ _ (search rules) (search rules);
      scene = ap (with_lots s) (c.put.ensures.after ∙ ap (λ l. cond (is_ok c.put.result) (put_lot l s.lots) s.lots) same)
          ∙ if_accepted c.put.result s (new_lot c.args.code c.args.level c.args.role c.args.stop c.args.limit c.args.prices);
      serial = refl;
    }

pub returns-in_err-lot_of : goal.returns-in_err-lot_of
returns-in_err-lot_of c =
    let refused_is : c.from_residual-in_err-lot_of.result ≡ Err OutOfRange = search rules in
    record { returned = search rules; scene = search rules; serial = refl }
