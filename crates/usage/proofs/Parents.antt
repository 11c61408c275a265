-- A parent is below its child, so that the way up from a role ends. Assumes nothing.
use Rattle.std.proofs.Common.{◌≡◌, ℕ, zero, suc, ◌+◌, ◌<◌, ◌≤◌, Bool, true, false, not, ◌&&◌, ◌||◌, eqb, ltb, List, [], ◌∷◌, get_or, Decides, sym, refl, ap, subst, inl, inr, arith}
use Rattle.std.proofs.Math.Bool.{or-false, or-true}
use Rattle.std.proofs.lemmas.Bool.{or_cases}
use Rattle.std.proofs.lemmas.Bool.Decides.{nat_tests}
use Rattle.register.specs.Tests.{both}
use Rattle.usage.specs.Roles.{parents, parent, met_within, at_or_above, Above}
use Rattle.usage.specs.Roles.Above.{equal, over_parent}

-- each entry of a table, counted from i, is below its place, or stands at place 0
abbrev all_below : ℕ → List ℕ → Bool
all_below i [] = true
all_below i (x ∷ xs) = (eqb i 0 || ltb x i) && all_below (suc i) xs

-- what lies past the table is 0
below_from : (xs : List ℕ) (i k : ℕ) → all_below i xs ≡ true → 0 < i + k → get_or xs k 0 < i + k
below_from [] i k t h = h
below_from (x ∷ xs) i zero t h = grind (arith, nat_tests)
below_from (x ∷ xs) i (suc k) t h =
    let later : all_below (suc i) xs ≡ true = grind (arith, nat_tests) in
    omega (arith, below_from xs (suc i) k later (omega arith))

-- tested once over the table
pub parent_below : (role : ℕ) → 0 < role → parent role < role
parent_below role h = omega (arith, below_from parents 0 role refl (omega arith))

-- steps beyond the role's own number meet nothing more
steps_enough : (role : ℕ) (n m other : ℕ) → other ≤ n → other ≤ m → met_within n role other ≡ met_within m role other
steps_enough role zero zero other h k = refl
steps_enough role zero (suc m) zero h k = sym (or-false (eqb role 0))
steps_enough role zero (suc m) (suc o) h k = absurd (omega arith)
steps_enough role (suc n) zero zero h k = or-false (eqb role 0)
steps_enough role (suc n) zero (suc o) h k = absurd (omega arith)
steps_enough role (suc n) (suc m) zero h k = refl
steps_enough role (suc n) (suc m) (suc o) h k =
    let below : parent (suc o) < suc o = parent_below (suc o) (omega arith) in
    ap (λ b. eqb role (suc o) || (not (eqb (suc o) 0) && b)) (steps_enough role n m (parent (suc o)) (omega arith) (omega arith))

-- a role is at or above another: equal to it, or at or above its parent
pub above_step : (role other : ℕ) → at_or_above role other ≡ (eqb role other || (not (eqb other 0) && at_or_above role (parent other)))
above_step role zero = sym (or-false (eqb role 0))
above_step role (suc n) =
    let below : parent (suc n) < suc n = parent_below (suc n) (omega arith) in
    ap (λ b. eqb role (suc n) || (not (eqb (suc n) 0) && b)) (steps_enough role n (parent (suc n)) (parent (suc n)) (omega arith) (omega arith))

same_above : (role other : ℕ) → eqb role other ≡ true → Above role other
same_above role other e = let same : role ≡ other = grind (arith, nat_tests) in subst (λ v. Above role v) same equal

met_above : (n role other : ℕ) → met_within n role other ≡ true → Above role other
met_above zero role other e = same_above role other e
met_above (suc n) role other e =
    let next : met_within n role (parent other) ≡ true → Above role (parent other) = met_above n role (parent other) in
    elim (or_cases (eqb role other) (not (eqb other 0) && met_within n role (parent other)) e) [
      | inl here ↦ same_above role other here
      | inr later ↦
          let parts : (not (eqb other 0) ≡ true) × (met_within n role (parent other) ≡ true) = both (not (eqb other 0)) (met_within n role (parent other)) later in
          let positive : not (eqb other 0) ≡ true = parts.0 in
          over_parent (grind (arith, nat_tests)) (next parts.1)
    ]

above_met : {role other : ℕ} → Above role other → at_or_above role other ≡ true
above_met {role} equal =
    let same : eqb role role ≡ true = grind (arith, nat_tests) in
    rw (above_step role role, same)
above_met {role} {other} (over_parent positive above) =
    let met : at_or_above role (parent other) ≡ true = above_met above in
    let child : eqb other 0 ≡ false = grind (arith, nat_tests) in
    rw (above_step role other, child, met, or-true)

pub decides_above : (role other : ℕ) → Decides (at_or_above role other) (Above role other)
decides_above role other = (met_above other role other, above_met)

-- what the way up answers at its three ends
pub met_same : (role other : ℕ) → role ≡ other → true ≡ at_or_above role other
met_same role other e = sym (above_met (subst (λ v. Above role v) e equal))

pub met_higher : (role other : ℕ) → (role ≡ other → ⊥) → (other ≡ 0 → ⊥) → at_or_above role (parent other) ≡ at_or_above role other
met_higher role other apart child =
    let other_is : eqb role other ≡ false = grind (arith, nat_tests) in
    let root_is : eqb other 0 ≡ false = grind (arith, nat_tests) in
    sym (rw (above_step role other, other_is, root_is))
