-- Codes compared: what std's comparisons say of them, and the laws of their order and of their sameness. Assumes nothing.
use Rattle.std.specs.Prelude.{◌≡◌, ℕ, ◌+◌, ◌<◌, true, false, cond, List, [], ◌∷◌, length, drop, ◌==◌, nat_eq, nat_lt, slice_index, refl}
use Rattle.std.specs.declared.cmp.Ordering.{Ordering}
use Rattle.std.specs.Ordering.{is_lt, is_eq, nat_cmp, ordering_reverse}
use Rattle.std.specs.declared.cmp.Ordering.TheVariants.{Less, Equal, Greater}
use Rattle.std.specs.Cmp.Lexicographic.{pointwise, slice_cmp, bytes_decides, texts_ties}
use Rattle.std.proofs.Common.{sym, ap, ◌∙◌, arith}
use Rattle.std.proofs.lemmas.Cmp.{tied_itself, nat_list_cmp_total, nat_list_eq_equiv}
use Rattle.std.proofs.lemmas.List.{drop_more}
use Rattle.std.proofs.lemmas.Bool.Decides.{nat_tests}
use Rattle.register.specs.Codes.{same_code, code_below}

-- `==` and `cmp` at codes
pub same_codes_at : (c d : List ℕ) → pointwise nat_eq c d ≡ same_code c d
same_codes_at [] [] = refl
same_codes_at [] (y ∷ ys) = refl
same_codes_at (x ∷ xs) [] = refl
same_codes_at (x ∷ xs) (y ∷ ys) = let later : pointwise nat_eq xs ys ≡ same_code xs ys = same_codes_at xs ys in grind (arith, nat_tests)

pub codes_below_at : (c d : List ℕ) → is_lt (slice_cmp nat_cmp c d) ≡ code_below c d
codes_below_at [] [] = refl
codes_below_at [] (y ∷ ys) = refl
codes_below_at (x ∷ xs) [] = refl
codes_below_at (x ∷ xs) (y ∷ ys) =
    let later : is_lt (slice_cmp nat_cmp xs ys) ≡ code_below xs ys = codes_below_at xs ys in grind (arith, nat_tests)

pub same_code_symmetric : (c d : List ℕ) → same_code c d ≡ same_code d c
same_code_symmetric c d = sym (same_codes_at c d) ∙ nat_list_eq_equiv.symm c d ∙ same_codes_at d c

pub same_code_reflexive : (c : List ℕ) → same_code c c ≡ true
same_code_reflexive c = sym (same_codes_at c c) ∙ nat_list_eq_equiv.refl c

-- codes that test the same are the same
pub same_code_equal : (c d : List ℕ) → same_code c d ≡ true → c ≡ d
same_code_equal c d e = (bytes_decides c d).0 (same_codes_at c d ∙ e)

pub code_below_irreflexive : (c : List ℕ) → code_below c c ≡ false
code_below_irreflexive c = sym (codes_below_at c c) ∙ ap is_lt (tied_itself nat_list_cmp_total c)

less : (o : Ordering) → is_lt o ≡ true → o ≡ Less
less Less e = refl
less Equal e = cc
less Greater e = cc

pub code_below_transitive : (c d e : List ℕ) → code_below c d ≡ true → code_below d e ≡ true → code_below c e ≡ true
code_below_transitive c d e p q =
    sym (codes_below_at c e) ∙ ap is_lt (nat_list_cmp_total.trans c d e (less _ (codes_below_at c d ∙ p)) (less _ (codes_below_at d e ∙ q)))

greater : (o : Ordering) → is_lt o ≡ false → is_eq o ≡ false → is_lt (ordering_reverse o) ≡ true
greater Less p q = sym p
greater Equal p q = sym q
greater Greater p q = refl

-- of two codes that differ, one is below the other
pub code_below_total : (c d : List ℕ) → code_below c d ≡ false → same_code c d ≡ false → code_below d c ≡ true
code_below_total c d p q =
    sym (codes_below_at d c) ∙ ap is_lt (nat_list_cmp_total.antisymm d c)
    ∙ greater (slice_cmp nat_cmp c d) (codes_below_at c d ∙ p) (sym (texts_ties c d) ∙ same_codes_at c d ∙ q)

-- what is left of two codes, one byte on
pub same_code_more : (c d : List ℕ) (i : ℕ) → i < length c → i < length d →
    same_code (drop i c) (drop i d) ≡ cond (slice_index c i == slice_index d i) (same_code (drop (i + 1) c) (drop (i + 1) d)) false
same_code_more c d i h k =
    let step : same_code (drop i c) (drop i d) ≡ same_code (slice_index c i ∷ drop (i + 1) c) (slice_index d i ∷ drop (i + 1) d) =
    cc (drop_more c i 0 h, drop_more d i 0 k) in
    step

pub code_below_more : (c d : List ℕ) (i : ℕ) → i < length c → i < length d →
    code_below (drop i c) (drop i d) ≡
    cond (nat_lt (slice_index c i) (slice_index d i)) true (cond (slice_index c i == slice_index d i) (code_below (drop (i + 1) c) (drop (i + 1) d)) false)
code_below_more c d i h k =
    let step : code_below (drop i c) (drop i d) ≡ code_below (slice_index c i ∷ drop (i + 1) c) (slice_index d i ∷ drop (i + 1) d) =
    cc (drop_more c i 0 h, drop_more d i 0 k) in
    step
