-- Proofs by the outcome of a test, or by what an option is, and what tests say. Assumes nothing.
use Rattle.std.specs.Prelude.{◌≡◌, ℕ, Bool, true, false, ◌&&◌, Some, None, Option, ◌==◌, refl}
use Rattle.std.proofs.Common.{arith}
use Rattle.std.proofs.lemmas.Bool.Decides.{nat_tests}
-- what tests say, by the library
pub use Rattle.std.proofs.lemmas.Bool.{false_from_ne_true as not_passing, not-false as not_refused, eqb-true as eqb_equal, ne_eqb as eqb_other, ltb-false as not_below}

-- a test, with what it came out as
pub by_test : (b : Bool) (P : Bool → Type 0) → (b ≡ true → P true) → (b ≡ false → P false) → P b
by_test true P yes_case no_case = yes_case refl
by_test false P yes_case no_case = no_case refl

-- an option, with what it is
pub by_option : {X : Type 0} (o : Option X) (P : Option X → Type 0) → (o ≡ None → P None) → ((x : X) → o ≡ Some x → P (Some x)) → P o
by_option None P none_case some_case = none_case refl
by_option (Some x) P none_case some_case = some_case x refl

-- no test comes out both ways, and nothing is not something
pub not_both : {P : Type 0} (b : Bool) → b ≡ true → b ≡ false → P
not_both b t f = let z : ◌≡◌ {A = ℕ} 0 1 = cc in absurd (omega arith)

pub none_some : {X : Type 0} {x : X} {P : Type 0} → None ≡ Some x → P
none_some e = let z : ◌≡◌ {A = ℕ} 0 1 = cc in absurd (omega arith)

-- both parts of a test that passes
pub both : (a b : Bool) → (a && b) ≡ true → (a ≡ true) × (b ≡ true)
both a b e = (grind (arith, nat_tests), grind (arith, nat_tests))

-- numbers
pub eqb_same : (n : ℕ) → (n == n) ≡ true
eqb_same n = grind (arith, nat_tests)
