-- The grid of a lot under two rules: rule 1 asks for its level, then rule 2 for its role. Assumes nothing.
use Rattle.std.specs.Prelude.{◌≡◌, ℕ, false, cond, List, [], ◌∷◌, Ok, Err, codes, Result, nat_le}
use Rattle.records.specs.declared.Lot.{Lot}
use Rattle.records.specs.declared.Right.TheVariants.{Read}
use Rattle.records.specs.declared.Situation.{Situation}
use Rattle.usage.specs.Rules.{level_answer, role_answer, both_answer}
use Rattle.grid.specs.declared.answer.Grid.{Grid}
use Rattle.grid.specs.declared.words.Wrong.{Wrong}
use Rattle.grid.specs.declared.words.Wrong.TheVariants.{BadLevel, BadRole}
use Rattle.grid.specs.declared.profile.Fault.{Fault}
use Rattle.grid.specs.declared.profile.Fault.TheVariants.{Word, NoMemory}
use Rattle.grid.specs.Grid.{rows_of, passing_of}
use Rattle.grid.specs.Text.{grid_text}
use Rattle.grid.specs.Words.{wrong_text, read_of}

-- a lot of a level and a wanted role, with nothing else to it
abbrev pub plain_lot : ℕ → ℕ → Lot
plain_lot level role = record { code = codes "00000000"; level = level; role = role; stop = false; limit = 0; prices = 0 ∷ 0 ∷ 0 ∷ 0 ∷ []; heads = 0 }

-- the level's answer, then the role's
abbrev pub level_then_role : Situation → ℕ
level_then_role s = both_answer (level_answer 1 s) (role_answer 2 s)

abbrev pub profile_grid : ℕ → ℕ → Grid
profile_grid level role = record {
  rows = rows_of level_then_role (plain_lot level role) Read;
  passing = passing_of (rows_of level_then_role (plain_lot level role) Read);
}

-- the grid, where there is such a level and such a role
abbrev pub profile_of : ℕ → ℕ → Result Grid Wrong
profile_of level role = cond (nat_le level 15) (cond (nat_le role 15) (Ok (profile_grid level role)) (Err BadRole)) (Err BadLevel)

abbrev pub profile_at : Result (ℕ × ℕ) Wrong → Result Grid Wrong
profile_at (Ok pair) = profile_of pair.0 pair.1
profile_at (Err wrong) = Err wrong

-- the grid that the words ask for
abbrev pub profile_read : List (List ℕ) → Result Grid Wrong
profile_read words = profile_at (read_of words)

-- the grid's text, where there is memory for it; or the word that is wrong
abbrev pub Told : {S : Type 0} → (S → List ℕ) → Result S Fault → Result Grid Wrong → Type 0
Told bytes (Ok text) (Ok grid) = bytes text ≡ grid_text grid
Told bytes (Ok text) (Err wrong) = ⊥
Told bytes (Err fault) (Ok grid) = fault ≡ NoMemory
Told bytes (Err fault) (Err wrong) = fault ≡ Word wrong

abbrev pub fault_text : Fault → List ℕ
fault_text (Word wrong) = wrong_text wrong
fault_text NoMemory = codes "no memory"
