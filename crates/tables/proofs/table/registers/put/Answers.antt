use Rattle.std.proofs.Common.{◌≡◌, ℕ, true, false, cond, List, length, is_ok, Option, Ok, Err, Result, nat_eq, nat_lt, sym, ap, ◌∙◌, rules}
use Rattle.std.specs.Ordering.{is_lt, nat_cmp}
use Rattle.std.specs.Cmp.Lexicographic.{pointwise, slice_cmp}
use Rattle.register.specs.Lists.{first}
use Rattle.register.specs.Slices.{insertion, register_inserted}
use Rattle.register.specs.declared.slice.Full.{Full}
use Rattle.records.specs.declared.Lot.{Lot}
use Rattle.records.specs.declared.Refusal.TheVariants.{RegisterFull}
use Rattle.machine.specs.State.{with_heads}
use Rattle.machine.specs.Scenes.{put_lot}
use Rattle.tables.specs.Tables.{heads_of}
use Rattle.tables.proofs.Coded.{lots_sought}
use Rattle.tables.proofs.Replaced.{PutIn, put_in}
use Rattle.tables.proofs.table.registers.put.Goals as goal

-- a lot put in with the heads of the one that a search found
was_put : (lot : Lot) (lots more : List Lot) (found : Option Lot) (heads : ℕ) (r : Result (Option Lot) Full) → lot.heads ≡ 0 →
    found ≡ first (λ x. pointwise nat_eq x.code lot.code) lots → heads ≡ heads_of found →
    r ≡ insertion (first (λ x. pointwise nat_eq x.code lot.code) lots) (nat_lt (length lots) 64) →
    more ≡ register_inserted r (λ x. pointwise nat_eq x.code lot.code) (λ x. is_lt (slice_cmp nat_cmp lot.code x.code)) (with_heads heads lot) lots → PutIn lot lots more r
was_put lot lots more found heads r none sought known =
    put_in lot lots more heads r none (known ∙ ap heads_of (sought ∙ ap (λ p. first p lots) (lots_sought lot.code)))

pub returns-in_err-insert-clause-returned : goal.returns-in_err-insert-clause-returned
returns-in_err-insert-clause-returned c =
    let heads : c.map_or-heads.result ≡ heads_of c.find.result = search rules in
    let put = was_put c.args.lot c.args.lots.now c.insert.new.self c.find.result c.map_or-heads.result c.insert.result c.requires c.find.ensures heads
    c.insert.ensures.how c.insert.ensures.after in
    let failed : is_ok c.insert.result ≡ false = ap is_ok c.in_err-insert.was in
    let refusal : c.from_residual.result ≡ Err RegisterFull = search rules in
    refusal ∙ sym (ap (λ b. cond b (Ok tt) (Err RegisterFull)) (sym put.accepted ∙ failed))

pub returns : goal.returns
returns c =
    let heads : c.map_or-heads.result ≡ heads_of c.find.result = search rules in
    let put = was_put c.args.lot c.args.lots.now c.insert.new.self c.find.result c.map_or-heads.result c.insert.result c.requires c.find.ensures heads
    c.insert.ensures.how c.insert.ensures.after in
    let done : is_ok c.insert.result ≡ true = ap is_ok c.in_ok-insert.was in
    record {
      returned = sym (ap (λ b. cond b (Ok tt) (Err RegisterFull)) (sym put.accepted ∙ done));
      after = put.after ∙ ap (λ b. cond b (put_lot c.args.lot c.args.lots.now) c.args.lots.now) done;
      within = c.insert.ensures.within;
    }
