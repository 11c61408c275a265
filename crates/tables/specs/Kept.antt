-- What the tables keep of lots, open accesses and the next serial, so that a lot's heads are counted in a byte.
-- Assumes nothing.
use Rattle.std.specs.Prelude.{◌≡◌, ℕ, true, List}
use Rattle.register.specs.Lists.{In, some}
use Rattle.records.specs.declared.Access.{Access}
use Rattle.records.specs.declared.Lot.{Lot}
use Rattle.machine.specs.State.{is_lot}
use Rattle.machine.specs.Rising.{RisingLots}
use Rattle.machine.specs.Placed.{open_at}
use Rattle.machine.proofs.Serials.{OwnSerials}

-- lots rise by code, each access is at one of them and under a serial of its own below the next, and heads are the
-- accesses open at a lot
pub record Kept (lots : List Lot) (accesses : List Access) (next : ℕ) : Type 0 where
  pub lots_rise : RisingLots lots
  pub lots_known : (a : Access) → In a accesses → some (is_lot a.lot) lots ≡ true
  pub heads_counted : (l : Lot) → In l lots → l.heads ≡ open_at l.code accesses
  pub own_serials : OwnSerials accesses next
