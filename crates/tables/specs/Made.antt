-- The registers that tables can be made with. Assumes nothing.
use Rattle.std.specs.Prelude.{◌≡◌, ℕ, Bool, not, ◌&&◌, List, [], ◌∷◌, length, codes, ◌==◌, nat_le}
use Rattle.register.specs.Lists.{In, all, rises}
use Rattle.records.specs.Ranges.{badge_number_fits, code_fits, serial_fits, attribute_fits, limit_fits, prices_fit}
use Rattle.records.specs.declared.Badge.{Badge}
use Rattle.records.specs.declared.Lot.{Lot}
use Rattle.machine.specs.Journal.{new_scene}
use Rattle.machine.specs.Rising.{badge_below, lot_below, InOrder}
use Rattle.machine.specs.Fitting.{RegistersFit}
use Rattle.tables.specs.declared.table.Tables.{Tables}
use Rattle.tables.specs.declared.table.make.Unmade.{Unmade}
use Rattle.tables.specs.declared.table.make.Unmade.TheVariants.{OutOfRange, RegisterFull, OutOfOrder}
use Rattle.tables.specs.Tables.{scene_of}

-- the number of each reason why none are made
abbrev pub unmade_number : Unmade → ℕ
unmade_number OutOfRange = 2
unmade_number RegisterFull = 11
unmade_number OutOfOrder = 20

-- and what it says to a reader
abbrev pub unmade_text : Unmade → List ℕ
unmade_text OutOfRange = codes "the first serial or a field is out of range"
unmade_text RegisterFull = codes "a register has over 64 records"
unmade_text OutOfOrder = codes "the records of a register do not rise by key"

abbrev pub badge_fits : Badge → Bool
badge_fits b = badge_number_fits b.number && (attribute_fits b.level && (attribute_fits b.role && attribute_fits b.account))

-- a lot that nobody has open
abbrev pub lot_fits : Lot → Bool
lot_fits l =
    code_fits l.code
    && (attribute_fits l.level && (attribute_fits l.role && (limit_fits l.limit && (prices_fit l.prices && l.heads == 0))))

-- what refuses a first serial and registers, by rising number
abbrev pub maker_checks : ℕ → List Badge → List Lot → List (ℕ × Bool)
maker_checks first badges lots =
    (2, not (serial_fits first && (all badge_fits badges && all lot_fits lots)))
    ∷ (11, not (nat_le (length badges) 64 && nat_le (length lots) 64))
    ∷ (20, not (rises badge_below badges && rises lot_below lots))
    ∷ []

-- tables as they are made
pub record Made (first : ℕ) (badges : List Badge) (lots : List Lot) (t : Tables) : Type 0 where
  pub scene : scene_of t ≡ new_scene badges lots
  pub serial : t.next_serial ≡ first
  -- of these registers
  pub in_order : InOrder badges lots
  pub in_range : RegistersFit badges lots
  pub without_heads : (l : Lot) → In l lots → l.heads ≡ 0
