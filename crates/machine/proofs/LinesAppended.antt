-- A line more at the end of a journal: its serials, its closings and its sums. Assumes nothing.
use Rattle.std.proofs.Common.{◌≡◌, ℕ, ◌+◌, Bool, true, false, cond, ◌&&◌, ◌||◌, eqb, List, [], ◌∷◌, ◌++◌, sym, refl, ap, ◌∙◌, inl, inr, ⊎_elim, append_assoc, append-nil, arith}
use Rattle.std.proofs.lemmas.Bool.Decides.{nat_tests}
use Rattle.records.specs.declared.Line.{Line}
use Rattle.register.specs.Lists.{In}
use Rattle.register.specs.Tests.{by_test, eqb_other}
use Rattle.register.proofs.Lists.{in_append_split}
use Rattle.machine.specs.Journal.{Entry, lines_of, closes}
use Rattle.machine.specs.Law.{serials, Distinct, closed_in, amounts, granted_by, grants}

-- serials: one more by a line of the kind, the same by another
pub serials_more : (q : Line → Bool) (ls : List Line) (l : Line) → q l ≡ true → serials q (ls ++ (l ∷ [])) ≡ serials q ls ++ (l.serial ∷ [])
serials_more q [] l e = ap (λ b. cond b (l.serial ∷ []) []) e
serials_more q (x ∷ ls) l e =
    let later : serials q (ls ++ (l ∷ [])) ≡ serials q ls ++ (l.serial ∷ []) = serials_more q ls l e in
    by_test (q x) (λ b. cond b (x.serial ∷ serials q (ls ++ (l ∷ []))) (serials q (ls ++ (l ∷ []))) ≡ cond b (x.serial ∷ serials q ls) (serials q ls) ++ (l.serial ∷ []))
    (λ _. ap (λ z. x.serial ∷ z) later) (λ _. later)

pub serials_same : (q : Line → Bool) (ls : List Line) (l : Line) → q l ≡ false → serials q (ls ++ (l ∷ [])) ≡ serials q ls
serials_same q [] l e = ap (λ b. cond b (l.serial ∷ []) []) e
serials_same q (x ∷ ls) l e = ap (λ z. cond (q x) (x.serial ∷ z) z) (serials_same q ls l e)

pub distinct_more : (ns : List ℕ) (n : ℕ) → Distinct ns → (In n ns → ⊥) → Distinct (ns ++ (n ∷ []))
distinct_more [] n d new = (λ i. i, tt)
distinct_more (m ∷ ns) n d new = (
  λ i. ⊎_elim d.0 (λ k. ⊎_elim (λ e. new (inl (sym e))) (λ z. absurd z) k) (in_append_split m ns (n ∷ []) i),
  distinct_more ns n d.1 (λ i. new (inr i)),
)

-- closings, likewise
pub closed_same : (ls : List Line) (l : Line) (n : ℕ) → closes l ≡ false → closed_in (ls ++ (l ∷ [])) n ≡ closed_in ls n
closed_same [] l n e = ap (λ b. (b && eqb l.serial n) || false) e
closed_same (x ∷ ls) l n e = ap (λ b. (closes x && eqb x.serial n) || b) (closed_same ls l n e)

pub closed_more : (ls : List Line) (l : Line) (n : ℕ) → closes l ≡ true → closed_in (ls ++ (l ∷ [])) n ≡ (closed_in ls n || eqb n l.serial)
closed_more [] l n e = ap (λ b. (b && eqb l.serial n) || false) e ∙ turned
  where
    turned : (eqb l.serial n || false) ≡ eqb n l.serial
    turned = grind (arith, nat_tests)
closed_more (x ∷ ls) l n e =
    let later : closed_in (ls ++ (l ∷ [])) n ≡ (closed_in ls n || eqb n l.serial) = closed_more ls l n e in
    by_test (closes x && eqb x.serial n) (λ b. (b || closed_in (ls ++ (l ∷ [])) n) ≡ ((b || closed_in ls n) || eqb n l.serial))
    (λ _. refl) (λ _. later)

-- a serial is closed where it is among the serials of closing lines
pub closed_by : (ls : List Line) (n : ℕ) → In n (serials closes ls) → closed_in ls n ≡ true
closed_by [] n i = absurd i
closed_by (x ∷ ls) n i =
    let later : In n (serials closes ls) → closed_in ls n ≡ true = closed_by ls n in
    by_test (closes x) (λ b. In n (cond b (x.serial ∷ serials closes ls) (serials closes ls)) → ((b && eqb x.serial n) || closed_in ls n) ≡ true)
    (λ _ h. ⊎_elim (λ k. here k) (λ k. either_way (eqb x.serial n) (later k)) h)
    (λ _ h. later h) i
  where
    here : n ≡ x.serial → (eqb x.serial n || closed_in ls n) ≡ true
    here k = let z : eqb x.serial n ≡ true = grind (arith, nat_tests) in ap (λ b. b || closed_in ls n) z

    either_way : (b : Bool) → closed_in ls n ≡ true → (b || closed_in ls n) ≡ true
    either_way true k = refl
    either_way false k = k

pub not_closed_by : (ls : List Line) (n : ℕ) → (In n (serials closes ls) → ⊥) → closed_in ls n ≡ false
not_closed_by [] n i = refl
not_closed_by (x ∷ ls) n i =
    let later : (In n (serials closes ls) → ⊥) → closed_in ls n ≡ false = not_closed_by ls n in
    by_test (closes x) (λ b. (In n (cond b (x.serial ∷ serials closes ls) (serials closes ls)) → ⊥) → ((b && eqb x.serial n) || closed_in ls n) ≡ false)
    (λ _ h. ap (λ b. b || closed_in ls n) (eqb_other x.serial n (λ k. h (inl (sym k)))) ∙ later (λ k. h (inr k)))
    (λ _ h. later h) i

-- sums
pub amounts_more : (home_of : ℕ → ℕ) (h : ℕ) (q : Line → Bool) (ls : List Line) (l : Line) →
    amounts home_of h q (ls ++ (l ∷ [])) ≡ amounts home_of h q ls + cond (q l && eqb (home_of l.account) h) l.amount 0
amounts_more home_of h q [] l = omega arith
amounts_more home_of h q (x ∷ ls) l = omega (arith, amounts_more home_of h q ls l)

pub grants_more : (home_of : ℕ → ℕ) (h : ℕ) (es : List Entry) (e : Entry) →
    grants home_of h (es ++ (e ∷ [])) ≡ grants home_of h es + granted_by home_of h e.call e.returned
grants_more home_of h [] e = omega arith
grants_more home_of h (x ∷ es) e = omega (arith, grants_more home_of h es e)

pub lines_more : (es : List Entry) (e : Entry) → lines_of (es ++ (e ∷ [])) ≡ lines_of es ++ e.lines
lines_more [] e = append-nil e.lines
lines_more (x ∷ es) e = ap (λ z. x.lines ++ z) (lines_more es e) ∙ sym (append_assoc x.lines (lines_of es) e.lines)
