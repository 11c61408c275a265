-- Every open access has its badge and its lot, and a lot's heads are the accesses open at it. Assumes nothing.
use Rattle.std.specs.Prelude.{◌≡◌, ℕ, ◌+◌, true, cond, List, [], ◌∷◌}
use Rattle.register.specs.Lists.{In, some}
use Rattle.records.specs.declared.Access.{Access}
use Rattle.records.specs.declared.Badge.{Badge}
use Rattle.records.specs.declared.Lot.{Lot}
use Rattle.machine.specs.State.{Policy, Scene, State, is_badge, is_lot, at_lot}
use Rattle.machine.specs.Journal.{Entry}
use Rattle.machine.specs.Law.{New, Shift}
use Rattle.machine.specs.Rising.{RisingLots}

-- how many accesses are open at a lot
abbrev pub open_at : List ℕ → List Access → ℕ
open_at c [] = 0
open_at c (a ∷ more) = cond (at_lot c a) 1 0 + open_at c more

pub record Placed (s : Scene) : Type 0 where
  pub badges_known : (a : Access) → In a s.accesses → some (is_badge a.badge) s.badges ≡ true
  pub lots_known : (a : Access) → In a s.accesses → some (is_lot a.lot) s.lots ≡ true

-- after any shift from new
abbrev pub ShiftsPlaced : Type 0
ShiftsPlaced = (p : Policy) (badges : List Badge) (lots : List Lot) (first last : State) (es : List Entry) →
    New badges lots first → Shift p first es last → Placed last.scene

abbrev pub HeadsCounted : Scene → Type 0
HeadsCounted s = (l : Lot) → In l s.lots → l.heads ≡ open_at l.code s.accesses

-- after any shift from new, where the lots that it began with rise by code and had no heads
abbrev pub ShiftsCounted : Type 0
ShiftsCounted = (p : Policy) (badges : List Badge) (lots : List Lot) (first last : State) (es : List Entry) →
    RisingLots lots → ((l : Lot) → In l lots → l.heads ≡ 0) → New badges lots first → Shift p first es last → HeadsCounted last.scene
