-- Roles: each but role 0 has a parent, and a role is above those that it is reached from. Assumes nothing.
use Rattle.std.specs.Prelude.{ℕ, zero, suc, ◌<◌, Bool, not, ◌&&◌, ◌||◌, List, [], ◌∷◌, ◌==◌, slice_index}

-- the parents of roles 1 to 15 stand at places 1 to 15; role 0 has none, and its place is not asked for
abbrev pub parents : List ℕ
parents = 0 ∷ 0 ∷ 0 ∷ 1 ∷ 1 ∷ 2 ∷ 2 ∷ 3 ∷ 3 ∷ 4 ∷ 5 ∷ 5 ∷ 6 ∷ 7 ∷ 9 ∷ 12 ∷ []

abbrev pub parent : ℕ → ℕ
parent role = slice_index parents role

-- the role is met on at most so many steps up from the other
abbrev pub met_within : ℕ → ℕ → ℕ → Bool
met_within zero role other = role == other
met_within (suc steps) role other = role == other || (not (other == 0) && met_within steps role (parent other))

-- a role is at or above another: equal to it, or at or above its parent. A parent is below its child, so that no more
-- steps are wanted than the other's number
abbrev pub at_or_above : ℕ → ℕ → Bool
at_or_above role other = met_within other role other

-- the same in two rules
pub data Above : ℕ → ℕ → Type 0 where
  equal : {role : ℕ} → Above role role
  over_parent : {role other : ℕ} → 0 < other → Above role (parent other) → Above role other
