-- The access that an open asks for, and the lines that report accesses. Assumes nothing.
use Rattle.std.specs.Prelude.{ℕ, List}
use Rattle.records.specs.Parts.{price_of}
use Rattle.records.specs.declared.Access.{Access}
use Rattle.records.specs.declared.Line.{Line}
use Rattle.records.specs.declared.Kind.{Kind}
use Rattle.records.specs.declared.Right.{Right}
use Rattle.machine.specs.State.{Scene, badge_of, lot_of, hold_of, charge_of}

-- the access asked for, as it would be opened
abbrev pub asked : Scene → ℕ → List ℕ → Right → ℕ → ℕ → Access
asked s n c r units serial = record {
  serial = serial;
  badge = n;
  lot = c;
  right = r;
  price = price_of (lot_of s c) r;
  account = (badge_of s n).account;
  held = units;
  used = 0;
  start = s.room.clock;
  last_use = s.room.clock;
  last_duty = s.room.clock;
}

-- a line of an access: its own badge, lot, right and account, with an amount and units
abbrev pub line_of : Kind → ℕ → ℕ → ℕ → ℕ → ℕ → Access → Line
line_of kind serial minute cause amount units a = record {
  kind = kind;
  serial = serial;
  badge = a.badge;
  lot = a.lot;
  right = a.right;
  minute = minute;
  cause = cause;
  amount = amount;
  units = units;
  account = a.account;
}

-- opened or denied: the hold and the units asked for
abbrev pub opening_line : Kind → ℕ → ℕ → ℕ → Access → Line
opening_line kind serial minute cause a = line_of kind serial minute cause (hold_of a) a.held a

-- ended or revoked: the charge and the units used
abbrev pub closing_line : Kind → ℕ → ℕ → Access → Line
closing_line kind minute cause a = line_of kind a.serial minute cause (charge_of a) a.used a
