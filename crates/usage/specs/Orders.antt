-- Which of two accesses goes before the other, and what every such order owes. Assumes nothing.
use Rattle.std.specs.Prelude.{◌≡◌, ℕ, Bool, true, false, cond, not, ◌==◌, ◌≢◌, nat_lt}
use Rattle.records.specs.declared.Access.{Access}

-- none goes before itself; of two serials exactly one goes first; and what goes before goes before what comes after
pub record Ordered (before : Access → Access → Bool) : Type 0 where
  pub irreflexive : (a : Access) → before a a ≡ false
  pub connected : (a b : Access) → (a.serial ≢ b.serial) → before a b ≡ not (before b a)
  pub transitive : (a b c : Access) → before a b ≡ true → before b c ≡ true → before a c ≡ true

-- the smaller number first, and of equals the smaller serial
abbrev pub smaller_first : ℕ → ℕ → ℕ → ℕ → Bool
smaller_first x y serial other = cond (nat_lt x y) true (cond (x == y) (nat_lt serial other) false)

abbrev pub earliest_start : Access → Access → Bool
earliest_start a b = smaller_first a.start b.start a.serial b.serial

-- the earliest last use
abbrev pub longest_idle : Access → Access → Bool
longest_idle a b = smaller_first a.last_use b.last_use a.serial b.serial

-- the most units used
abbrev pub longest_use : Access → Access → Bool
longest_use a b = smaller_first b.used a.used a.serial b.serial
