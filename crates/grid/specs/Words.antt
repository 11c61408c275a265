-- The two words that a program is asked with, LEVEL and ROLE, and which of them is wrong. Assumes nothing.
use Rattle.std.specs.Prelude.{ℕ, ◌+◌, ◌-◌, cond, ◌&&◌, List, [], length, Some, None, Ok, Err, codes, Option, Result, ◌==◌, nat_le, slice_index, slice_index_or}
use Rattle.grid.specs.declared.words.Wrong.{Wrong}
use Rattle.grid.specs.declared.words.Wrong.TheVariants.{NoLevel, NoRole, BadLevel, BadRole, OneTooMany}

-- the number of a digit from 0 to the highest one
abbrev pub digit_of : ℕ → ℕ → Option ℕ
digit_of highest byte = cond (nat_le 48 byte && nat_le byte (48 + highest)) (Some (byte - 48)) None

abbrev pub ten_and : Option ℕ → Option ℕ
ten_and (Some digit) = Some (10 + digit)
ten_and None = None

-- the number of a word from 0 to 15: one digit, or a 1 and a digit up to 5
abbrev pub number_of : List ℕ → Option ℕ
number_of word =
    cond (length word == 1) (digit_of 9 (slice_index word 0))
    (cond (length word == 2 && slice_index word 0 == 49) (ten_and (digit_of 5 (slice_index word 1))) None)

abbrev pub with_role : ℕ → Option ℕ → ℕ → Result (ℕ × ℕ) Wrong
with_role level None count = Err BadRole
with_role level (Some role) count = cond (count == 2) (Ok (level, role)) (Err OneTooMany)

abbrev pub with_level : Option ℕ → List (List ℕ) → Result (ℕ × ℕ) Wrong
with_level None words = Err BadLevel
with_level (Some level) words =
    cond (length words == 1) (Err NoRole) (with_role level (number_of (slice_index_or words 1 [])) (length words))

-- the level and the role, or the first word that is wrong
abbrev pub read_of : List (List ℕ) → Result (ℕ × ℕ) Wrong
read_of words = cond (length words == 0) (Err NoLevel) (with_level (number_of (slice_index_or words 0 [])) words)

abbrev pub wrong_text : Wrong → List ℕ
wrong_text NoLevel = codes "LEVEL is missing"
wrong_text BadLevel = codes "LEVEL is not a number from 0 to 15"
wrong_text NoRole = codes "ROLE is missing"
wrong_text BadRole = codes "ROLE is not a number from 0 to 15"
wrong_text OneTooMany = codes "one word too many"
