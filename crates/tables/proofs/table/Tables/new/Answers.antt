use Rattle.std.proofs.Common.{◌≡◌, ◌≤◌, Bool, true, false, List, length, sym, refl, ap, ◌∙◌, rules}
use Rattle.std.specs.Ordering.{is_lt, nat_cmp}
use Rattle.std.specs.Cmp.Lexicographic.{slice_cmp}
use Rattle.register.specs.Lists.{all, rises}
use Rattle.records.specs.Parts.{new_room}
use Rattle.records.specs.declared.Badge.{Badge}
use Rattle.records.specs.declared.Lot.{Lot}
use Rattle.machine.specs.Rising.{badge_below, lot_below}
use Rattle.tables.specs.Made.{badge_fits, lot_fits}
use Rattle.tables.proofs.Coded.{badges_ordered, lots_ordered}
use Rattle.tables.proofs.Keeping.{kept_new, kept_at}
use Rattle.tables.proofs.Making.{in_order, in_range, without_heads, scene_made}
use Rattle.tables.proofs.table.Tables.new.Goals as goal

-- what the tests of order say, in the machine's words
badges_rise : (badges : List Badge) (b : Bool) → b ≡ rises (λ x y. is_lt (nat_cmp x.number y.number)) badges → rises badge_below badges ≡ b
badges_rise badges b e = sym (e ∙ ap (λ below. rises below badges) badges_ordered)

lots_rise : (lots : List Lot) (b : Bool) → b ≡ rises (λ x y. is_lt (slice_cmp nat_cmp x.code y.code)) lots → rises lot_below lots ≡ b
lots_rise lots b e = sym (e ∙ ap (λ below. rises below lots) lots_ordered)

pub returns-then-not-rises-2 : goal.returns-then-not-rises-2
returns-then-not-rises-2 c =
    let badges : rises badge_below c.args.badges.now ≡ true = badges_rise c.args.badges.now true c.if-not-rises.ensures in
    let lots : rises lot_below c.args.lots.now ≡ false = lots_rise c.args.lots.now false c.if-not-rises-2.ensures in
    search rules

pub invariant_of-result-clause-kept : goal.invariant_of-result-clause-kept
invariant_of-result-clause-kept c =
    let lots_fit : all lot_fits c.args.lots.now ≡ true = sym c.if-not-all_fit-2.ensures in
    let held : c.in_ok-lot_register.lot_register ≡ c.args.lots.now = search rules in
    let order = in_order c.args.badges.now c.args.lots.now (badges_rise c.args.badges.now true c.if-not-rises.ensures) (lots_rise c.args.lots.now true c.if-not-rises-2.ensures) in
    kept_at _ _ _ _ _ held c.new.ensures (kept_new c.args.lots.now c.args.first_serial order.lots_rise (without_heads c.args.lots.now lots_fit))

pub returns : goal.returns
returns c =
    let badges_fit : all badge_fits c.args.badges.now ≡ true = sym c.if-not-all_fit.ensures in
    let lots_fit : all lot_fits c.args.lots.now ≡ true = sym c.if-not-all_fit-2.ensures in
    let badges : rises badge_below c.args.badges.now ≡ true = badges_rise c.args.badges.now true c.if-not-rises.ensures in
    let lots : rises lot_below c.args.lots.now ≡ true = lots_rise c.args.lots.now true c.if-not-rises-2.ensures in
    let held_badges : c.in_ok-badge_register.badge_register ≡ c.args.badges.now = search rules in
    let held_lots : c.in_ok-lot_register.lot_register ≡ c.args.lots.now = search rules in
    let room : c.default-4.result ≡ new_room = search rules in
    let few_badges : length c.args.badges.now ≤ 64 = search rules in
    let few_lots : length c.args.lots.now ≤ 64 = search rules in (
      search rules,
      record {
        scene = scene_made c.args.badges.now _ c.args.lots.now _ _ _ held_badges held_lots room c.new.ensures;
        serial = refl;
        in_order = in_order c.args.badges.now c.args.lots.now badges lots;
        in_range = in_range c.args.badges.now c.args.lots.now badges_fit lots_fit few_badges few_lots;
        without_heads = without_heads c.args.lots.now lots_fit;
      },
    )
