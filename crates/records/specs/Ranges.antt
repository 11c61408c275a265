-- The ranges of numbers. Assumes nothing.
use Rattle.std.specs.Prelude.{ℕ, Bool, true, ◌&&◌, List, [], ◌∷◌, ℤ, pos, negsuc, int_le, nat_le}

abbrev pub between : ℕ → ℕ → ℕ → Bool
between low high n = nat_le low n && nat_le n high

abbrev pub all_between : ℕ → ℕ → List ℕ → Bool
all_between low high [] = true
all_between low high (n ∷ ns) = between low high n && all_between low high ns

abbrev pub badge_number_fits : ℕ → Bool
badge_number_fits n = between 1 4294967295 n

abbrev pub code_fits : List ℕ → Bool
code_fits c = all_between 0x21 0x7E c

abbrev pub serial_fits : ℕ → Bool
serial_fits n = between 1 1000000000 n

-- a level, a role or an account
abbrev pub attribute_fits : ℕ → Bool
attribute_fits n = nat_le n 15

abbrev pub units_fit : ℕ → Bool
units_fit n = nat_le n 1000

abbrev pub price_fits : ℕ → Bool
price_fits n = between 0 1000 n

abbrev pub prices_fit : List ℕ → Bool
prices_fit ps = all_between 0 1000 ps

abbrev pub limit_fits : ℕ → Bool
limit_fits n = nat_le n 64

abbrev pub clock_fits : ℕ → Bool
clock_fits n = nat_le n 10000000

-- -400 to 600 tenths of a degree
abbrev pub temperature_fits : ℤ → Bool
temperature_fits t = int_le (negsuc 399) t && int_le t (pos 600)

-- an amount of credit
abbrev pub amount_fits : ℕ → Bool
amount_fits n = nat_le n 1000000000
