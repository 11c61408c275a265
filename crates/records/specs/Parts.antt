-- Parts of records that several crates speak of. Assumes nothing.
use Rattle.std.specs.Prelude.{ℕ, pos, slice_index}
use Rattle.records.specs.Numbers.{right_number}
use Rattle.records.specs.declared.Lot.{Lot}
use Rattle.records.specs.declared.Room.{Room}
use Rattle.records.specs.declared.Right.{Right}
use Rattle.records.specs.declared.Phase.TheVariants.{Work}

-- a room as it is when new
abbrev pub new_room : Room
new_room = record { clock = 0; temperature = pos 0; phase = Work }

-- what a unit costs under a right
abbrev pub price_of : Lot → Right → ℕ
price_of l r = slice_index l.prices (right_number r)
