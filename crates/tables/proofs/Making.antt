-- Registers that pass the maker's checks are in range, in order and without heads. Assumes nothing.
use Rattle.std.proofs.Common.{◌≡◌, ◌≤◌, Bool, true, eqb, List, [], ◌∷◌, length, sym, subst, ⊎_elim, arith}
use Rattle.register.specs.Lists.{In, all, before_next, rises}
use Rattle.register.specs.Tests.{both, eqb_equal}
use Rattle.records.specs.Ranges.{badge_number_fits, code_fits, attribute_fits, limit_fits, prices_fit}
use Rattle.records.specs.Parts.{new_room}
use Rattle.records.specs.declared.Access.{Access}
use Rattle.records.specs.declared.Room.{Room}
use Rattle.records.specs.declared.Badge.{Badge}
use Rattle.records.specs.declared.Lot.{Lot}
use Rattle.machine.specs.Journal.{new_scene}
use Rattle.machine.specs.Rising.{BelowNext, Rising, badge_below, lot_below, InOrder}
use Rattle.machine.specs.Fitting.{BadgeFits, LotFits, RegistersFit}
use Rattle.tables.specs.Made.{badge_fits, lot_fits}

module _ {X : Type 0} where
  all_in : (p : X → Bool) (xs : List X) → all p xs ≡ true → (x : X) → In x xs → p x ≡ true
  all_in p [] e x i = absurd i
  all_in p (y ∷ xs) e x i =
      let parts : (p y ≡ true) × (all p xs ≡ true) = both (p y) (all p xs) e in
      ⊎_elim (λ h. subst (λ v. p v ≡ true) (sym h) parts.0) (λ h. all_in p xs parts.1 x h) i

  next_below : (below : X → X → Bool) (x : X) (xs : List X) → before_next below x xs ≡ true → BelowNext below x xs
  next_below below x [] e = tt
  next_below below x (y ∷ xs) e = e

  rising : (below : X → X → Bool) (xs : List X) → rises below xs ≡ true → Rising below xs
  rising below [] e = tt
  rising below (x ∷ xs) e =
      let parts : (before_next below x xs ≡ true) × (rises below xs ≡ true) = both (before_next below x xs) (rises below xs) e in
      (next_below below x xs parts.0, rising below xs parts.1)

pub in_order : (badges : List Badge) (lots : List Lot) → rises badge_below badges ≡ true → rises lot_below lots ≡ true → InOrder badges lots
in_order badges lots e f = record { badges_rise = rising badge_below badges e; lots_rise = rising lot_below lots f }

badge_in_range : (b : Badge) → badge_fits b ≡ true → BadgeFits b
badge_in_range b e =
    let number = both (badge_number_fits b.number) _ e in
    let level = both (attribute_fits b.level) _ number.1 in
    let role = both (attribute_fits b.role) (attribute_fits b.account) level.1 in
    record { number = number.0; level = level.0; role = role.0; account = role.1 }

no_heads : (l : Lot) → lot_fits l ≡ true → l.heads ≡ 0
no_heads l e =
    let code = both (code_fits l.code) _ e in
    let level = both (attribute_fits l.level) _ code.1 in
    let role = both (attribute_fits l.role) _ level.1 in
    let limit = both (limit_fits l.limit) _ role.1 in
    eqb_equal l.heads 0 (both (prices_fit l.prices) (eqb l.heads 0) limit.1).1

lot_in_range : (l : Lot) → lot_fits l ≡ true → LotFits l
lot_in_range l e =
    let code = both (code_fits l.code) _ e in
    let level = both (attribute_fits l.level) _ code.1 in
    let role = both (attribute_fits l.role) _ level.1 in
    let limit = both (limit_fits l.limit) _ role.1 in
    let prices = both (prices_fit l.prices) (eqb l.heads 0) limit.1 in
    record { code = code.0; level = level.0; role = role.0; limit = limit.0; prices = prices.0; heads = omega (arith, no_heads l e) }

pub in_range : (badges : List Badge) (lots : List Lot) → all badge_fits badges ≡ true → all lot_fits lots ≡ true → length badges ≤ 64 → length lots ≤ 64 → RegistersFit badges lots
in_range badges lots e f few_badges few_lots = record {
  badges_fit = λ b i. badge_in_range b (all_in badge_fits badges e b i);
  lots_fit = λ l i. lot_in_range l (all_in lot_fits lots f l i);
  few_badges = few_badges;
  few_lots = few_lots;
}

pub without_heads : (lots : List Lot) → all lot_fits lots ≡ true → (l : Lot) → In l lots → l.heads ≡ 0
without_heads lots e l i = no_heads l (all_in lot_fits lots e l i)

-- a new scene, from what each part of it was made equal to
pub scene_made : (badges more_badges : List Badge) (lots more_lots : List Lot) (room : Room) (xs : List Access) →
    more_badges ≡ badges → more_lots ≡ lots → room ≡ new_room → xs ≡ [] →
    record { badges = more_badges; lots = more_lots; room = room; accesses = xs } ≡ new_scene badges lots
scene_made badges more_badges lots more_lots room xs e f g h = cc
