-- Badges stand by rising number and lots by rising code, strictly, so that no two share a key. Assumes nothing.
use Rattle.std.specs.Prelude.{◌≡◌, Bool, true, List, [], ◌∷◌, nat_lt}
use Rattle.register.specs.Codes.{code_below}
use Rattle.records.specs.declared.Badge.{Badge}
use Rattle.records.specs.declared.Lot.{Lot}
use Rattle.machine.specs.State.{Policy, State}
use Rattle.machine.specs.Journal.{Entry}
use Rattle.machine.specs.Law.{New, Shift}

-- each goes before the next
abbrev pub BelowNext : {X : Type 0} → (X → X → Bool) → X → List X → Type 0
BelowNext below x [] = Unit {0}
BelowNext below x (y ∷ ys) = below x y ≡ true

abbrev pub Rising : {X : Type 0} → (X → X → Bool) → List X → Type 0
Rising below [] = Unit {0}
Rising below (x ∷ xs) = BelowNext below x xs × Rising below xs

abbrev pub badge_below : Badge → Badge → Bool
badge_below a b = nat_lt a.number b.number

abbrev pub lot_below : Lot → Lot → Bool
lot_below a b = code_below a.code b.code

abbrev pub RisingBadges : List Badge → Type 0
RisingBadges badges = Rising badge_below badges

abbrev pub RisingLots : List Lot → Type 0
RisingLots lots = Rising lot_below lots

pub record InOrder (badges : List Badge) (lots : List Lot) : Type 0 where
  pub badges_rise : RisingBadges badges
  pub lots_rise : RisingLots lots

-- registers that begin in order stay in order
abbrev pub ShiftsRising : Type 0
ShiftsRising = (p : Policy) (badges : List Badge) (lots : List Lot) (first last : State) (es : List Entry) →
    InOrder badges lots → New badges lots first → Shift p first es last → InOrder last.scene.badges last.scene.lots
