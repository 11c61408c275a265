-- Std's equality and order of keys, in the repository's words: at two keys, and as equations of the functions. Assumes
-- nothing.
use Rattle.std.specs.Prelude.{◌≡◌, ℕ, ◌==◌, false, cond, nat_eq, nat_lt, refl}
use Rattle.std.specs.Ordering.{is_lt, nat_cmp}
use Rattle.std.specs.declared.cmp.Ordering.TheVariants.{Less, Equal, Greater}
use Rattle.std.specs.Cmp.Lexicographic.{pointwise, slice_cmp}
use Rattle.register.specs.Codes.{same_code, code_below}
pub use Rattle.register.specs.CodesLemmas.{same_codes_at, codes_below_at}
use Rattle.register.specs.Tests.{by_test}

pub same_codes : pointwise nat_eq ≡ same_code
same_codes = λ i c d. same_codes_at c d i

pub codes_below : (λ c d. is_lt (slice_cmp nat_cmp c d)) ≡ code_below
codes_below = λ i c d. codes_below_at c d i

pub numbers_below_at : (m n : ℕ) → is_lt (nat_cmp m n) ≡ nat_lt m n
numbers_below_at m n =
    by_test (nat_lt m n) (λ b. is_lt (cond b Less (cond (m == n) Equal Greater)) ≡ b)
    (λ _. refl) (λ _. by_test (m == n) (λ b. is_lt (cond b Equal Greater) ≡ false) (λ _. refl) (λ _. refl))

pub numbers_below : (λ m n. is_lt (nat_cmp m n)) ≡ nat_lt
numbers_below = λ i m n. numbers_below_at m n i
