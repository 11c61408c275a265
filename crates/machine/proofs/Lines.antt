-- The lines of a journal beside the open accesses: which serials were opened, closed and are pending. Assumes nothing.
use Rattle.std.proofs.Common.{◌≡◌, ℕ, ◌+◌, ◌<◌, ◌≤◌, Bool, true, false, cond, not, ◌&&◌, ◌||◌, eqb, List, [], ◌∷◌, ◌++◌, sym, refl, ap, ◌∙◌, subst, inl, inr, ⊎_elim, append_assoc, append-nil, arith}
use Rattle.records.specs.declared.Access.{Access}
use Rattle.records.specs.declared.Line.{Line}
use Rattle.register.specs.Lists.{In, without}
use Rattle.register.specs.Tests.{by_test, not_both, eqb_equal}
use Rattle.register.proofs.Lists.{all_append}
use Rattle.register.proofs.Apart.{Apart}
use Rattle.machine.specs.State.{is_access, hold_of}
use Rattle.machine.specs.Journal.{opens, closes}
use Rattle.machine.specs.Law.{serials, Distinct, closed_in, still_open}
use Rattle.machine.proofs.Serials.{serial_of}
use Rattle.machine.proofs.LinesAppended.{serials_more, serials_same, distinct_more, closed_same, closed_more, closed_by, not_closed_by}

-- what an opening line and its access share
pub record Tag : Type 0 where
  pub serial : ℕ
  pub account : ℕ
  pub hold : ℕ

abbrev pub tag_of : Access → Tag
tag_of a = record { serial = a.serial; account = a.account; hold = hold_of a }

abbrev pub tags : List Access → List Tag
tags [] = []
tags (a ∷ xs) = tag_of a ∷ tags xs

abbrev pub line_tag : Line → Tag
line_tag l = record { serial = l.serial; account = l.account; hold = l.amount }

abbrev pub tag_serials : List Tag → List ℕ
tag_serials [] = []
tag_serials (t ∷ ts) = t.serial ∷ tag_serials ts

-- the tags of the lines that open what none of all the lines closes
abbrev pub pending : List Line → List Line → List Tag
pending all [] = []
pending all (l ∷ ls) = cond (still_open all l) (line_tag l ∷ pending all ls) (pending all ls)

-- the tags but those of a serial
abbrev pub dropped : ℕ → List Tag → List Tag
dropped n [] = []
dropped n (t ∷ ts) = cond (eqb t.serial n) (dropped n ts) (t ∷ dropped n ts)

-- tags of accesses
pub tags_append : (xs bs : List Access) → tags (xs ++ bs) ≡ tags xs ++ tags bs
tags_append [] bs = refl
tags_append (a ∷ xs) bs = ap (λ z. tag_of a ∷ z) (tags_append xs bs)

-- each access has its tag, and each tag its access
pub in_tags : (xs : List Access) (a : Access) → In a xs → In a.serial (tag_serials (tags xs))
in_tags [] a i = i
in_tags (b ∷ xs) a i = ⊎_elim (λ e. inl (ap (λ z. z.serial) e)) (λ k. inr (in_tags xs a k)) i

pub of_tags : (xs : List Access) (n : ℕ) → In n (tag_serials (tags xs)) → (a : Access) × (In a xs × (a.serial ≡ n))
of_tags [] n i = absurd i
of_tags (b ∷ xs) n i =
    let later : In n (tag_serials (tags xs)) → (a : Access) × (In a xs × (a.serial ≡ n)) = of_tags xs n in
    ⊎_elim (λ e. (b, (inl refl, sym e))) (λ k. let z : (a : Access) × (In a xs × (a.serial ≡ n)) = later k in (z.0, (inr z.1.0, z.1.1))) i

dropped_none : (n : ℕ) (ts : List Tag) → (In n (tag_serials ts) → ⊥) → dropped n ts ≡ ts
dropped_none n [] out = refl
dropped_none n (t ∷ ts) out =
    let later : dropped n ts ≡ ts = dropped_none n ts (λ i. out (inr i)) in
    by_test (eqb t.serial n) (λ b. eqb t.serial n ≡ b → cond b (dropped n ts) (t ∷ dropped n ts) ≡ t ∷ ts)
    (λ _ e. absurd (out (inl (sym (eqb_equal t.serial n e))))) (λ _ _. ap (λ z. t ∷ z) later) refl

-- the access of a serial leaves, and with it the one tag of that serial
pub tags_without : (n : ℕ) (xs : List Access) → Apart serial_of xs → tags (without (is_access n) xs) ≡ dropped n (tags xs)
tags_without n [] h = refl
tags_without n (a ∷ xs) h =
    let later : tags (without (is_access n) xs) ≡ dropped n (tags xs) = tags_without n xs h.1 in
    by_test (eqb a.serial n) (λ b. eqb a.serial n ≡ b → tags (cond b xs (a ∷ without (is_access n) xs)) ≡ cond b (dropped n (tags xs)) (tag_of a ∷ dropped n (tags xs)))
    (λ _ e. sym (dropped_none n (tags xs) (λ i. alone (eqb_equal a.serial n e) (of_tags xs n i))))
    (λ _ _. ap (λ z. tag_of a ∷ z) later) refl
  where
    alone : a.serial ≡ n → (b : Access) × (In b xs × (b.serial ≡ n)) → ⊥
    alone e b = h.0 b.0 b.1.0 (e ∙ sym b.1.1)

-- pending tags
pending_append : (all xs ys : List Line) → pending all (xs ++ ys) ≡ pending all xs ++ pending all ys
pending_append all [] ys = refl
pending_append all (x ∷ xs) ys =
    let later : pending all (xs ++ ys) ≡ pending all xs ++ pending all ys = pending_append all xs ys in
    by_test (still_open all x)
    (λ b. cond b (line_tag x ∷ pending all (xs ++ ys)) (pending all (xs ++ ys)) ≡ cond b (line_tag x ∷ pending all xs) (pending all xs) ++ pending all ys)
    (λ _. ap (λ z. line_tag x ∷ z) later) (λ _. later)

pending_same : (all more ls : List Line) → ((n : ℕ) → closed_in more n ≡ closed_in all n) → pending more ls ≡ pending all ls
pending_same all more [] same = refl
pending_same all more (l ∷ ls) same =
    ap (λ z. cond (still_open more l) (line_tag l ∷ z) z) (pending_same all more ls same)
    ∙ ap (λ b. cond (opens l && not b) (line_tag l ∷ pending all ls) (pending all ls)) (same l.serial)

-- after a line that does not close
pending_more : (ls : List Line) (l : Line) → closes l ≡ false →
    pending (ls ++ (l ∷ [])) (ls ++ (l ∷ [])) ≡ pending ls ls ++ cond (still_open ls l) (line_tag l ∷ []) []
pending_more ls l c = pending_same ls (ls ++ (l ∷ [])) (ls ++ (l ∷ [])) (λ n. closed_same ls l n c) ∙ pending_append ls ls (l ∷ [])

-- where one serial more is closed
pending_closed : (all more ls : List Line) (n : ℕ) → ((k : ℕ) → closed_in more k ≡ (closed_in all k || eqb k n)) →
    pending more ls ≡ dropped n (pending all ls)
pending_closed all more [] n closed = refl
pending_closed all more (l ∷ ls) n closed =
    ap (λ z. cond (still_open more l) (line_tag l ∷ z) z) (pending_closed all more ls n closed)
    ∙ ap (λ b. cond (opens l && not b) (line_tag l ∷ dropped n (pending all ls)) (dropped n (pending all ls))) (closed l.serial)
    ∙ turned (opens l) (closed_in all l.serial)
  where
    turned : (o c : Bool) →
        cond (o && not (c || eqb l.serial n)) (line_tag l ∷ dropped n (pending all ls)) (dropped n (pending all ls))
        ≡ dropped n (cond (o && not c) (line_tag l ∷ pending all ls) (pending all ls))
    turned false c = refl
    turned true true = refl
    turned true false =
        by_test (eqb l.serial n)
        (λ b. cond (not b) (line_tag l ∷ dropped n (pending all ls)) (dropped n (pending all ls)) ≡ cond b (dropped n (pending all ls)) (line_tag l ∷ dropped n (pending all ls)))
        (λ _. refl) (λ _. refl)

-- a pending serial was opened and not closed, and the other way round
pending_in : (all ls : List Line) (n : ℕ) → In n (tag_serials (pending all ls)) → In n (serials opens ls) × (closed_in all n ≡ false)
pending_in all [] n i = absurd i
pending_in all (l ∷ ls) n i = by_both (opens l) (closed_in all l.serial) refl (pending_in all ls n) i
  where
    by_both : (o c : Bool) → closed_in all l.serial ≡ c →
        (In n (tag_serials (pending all ls)) → In n (serials opens ls) × (closed_in all n ≡ false)) →
        In n (tag_serials (cond (o && not c) (line_tag l ∷ pending all ls) (pending all ls))) →
        In n (cond o (l.serial ∷ serials opens ls) (serials opens ls)) × (closed_in all n ≡ false)
    by_both false c e later k = later k
    by_both true true e later k = (inr (later k).0, (later k).1)
    by_both true false e later k =
        ⊎_elim (λ s. (inl s, ap (closed_in all) s ∙ e)) (λ m. (inr (later m).0, (later m).1)) k

in_pending : (all ls : List Line) (n : ℕ) → In n (serials opens ls) → closed_in all n ≡ false → In n (tag_serials (pending all ls))
in_pending all [] n i e = absurd i
in_pending all (l ∷ ls) n i e = by_both (opens l) (closed_in all l.serial) refl (λ k. in_pending all ls n k e) i
  where
    by_both : (o c : Bool) → closed_in all l.serial ≡ c →
        (In n (serials opens ls) → In n (tag_serials (pending all ls))) →
        In n (cond o (l.serial ∷ serials opens ls) (serials opens ls)) →
        In n (tag_serials (cond (o && not c) (line_tag l ∷ pending all ls) (pending all ls)))
    by_both false c f later k = later k
    by_both true true f later k = ⊎_elim (λ s. not_both (closed_in all n) (ap (closed_in all) s ∙ f) e) later k
    by_both true false f later k = ⊎_elim inl (λ m. inr (later m)) k

-- each closing line comes after a line that opens its serial
abbrev pub Followed : List Line → List Line → Type 0
Followed seen [] = Unit {0}
Followed seen (l ∷ ls) = (closes l ≡ true → In l.serial (serials opens seen)) × Followed (seen ++ (l ∷ [])) ls

followed_more : (seen ls : List Line) (l : Line) → Followed seen ls → (closes l ≡ true → In l.serial (serials opens (seen ++ ls))) →
    Followed seen (ls ++ (l ∷ []))
followed_more seen [] l f k = (subst (λ v. closes l ≡ true → In l.serial (serials opens v)) (append-nil seen) k, tt)
followed_more seen (x ∷ ls) l f k = (
  f.0,
  followed_more (seen ++ (x ∷ [])) ls l f.1
      (subst (λ v. closes l ≡ true → In l.serial (serials opens v)) (sym (append_assoc seen (x ∷ []) ls)) k),
)

-- wherever a closing line stands
pub followed_at : (seen before after : List Line) (l : Line) → Followed seen (before ++ (l ∷ after)) → closes l ≡ true →
    In l.serial (serials opens (seen ++ before))
followed_at seen [] after l f e = subst (λ v. In l.serial (serials opens v)) (sym (append-nil seen)) (f.0 e)
followed_at seen (x ∷ before) after l f e =
    subst (λ v. In l.serial (serials opens v)) (append_assoc seen (x ∷ []) before) (followed_at (seen ++ (x ∷ [])) before after l f.1 e)

-- serials that are used once, all below the next
pub record Once (ns : List ℕ) (next : ℕ) : Type 0 where
  pub once : Distinct ns
  pub below : (n : ℕ) → In n ns → n < next

once_more : {ns : List ℕ} {next : ℕ} (n later : ℕ) → Once ns next → next ≤ later → n < later → (In n ns → ⊥) → Once (ns ++ (n ∷ [])) later
once_more {ns} n later h grows new unmet = record {
  once = distinct_more ns n h.once unmet;
  below = all_append (λ m. m < later) n ns (λ m i. omega (arith, h.below m i)) new;
}

-- lines that tell how what has these tags came to be open
pub record Told (ts : List Tag) (next : ℕ) (ls : List Line) : Type 0 where
  pub still : pending ls ls ≡ ts
  pub opened : Once (serials opens ls) next
  pub closed : Once (serials closes ls) next
  pub followed : Followed [] ls

pub told_none : (next : ℕ) → Told [] next []
told_none next = record {
  still = refl;
  opened = record { once = tt; below = λ n i. absurd i };
  closed = record { once = tt; below = λ n i. absurd i };
  followed = tt;
}

module _ {ts : List Tag} {next : ℕ} {ls : List Line} (told : Told ts next ls) where
  -- what is open was opened and not closed, and the other way round
  pub told_open : (n : ℕ) → In n (tag_serials ts) → In n (serials opens ls) × (In n (serials closes ls) → ⊥)
  told_open n i =
      let h : In n (serials opens ls) × (closed_in ls n ≡ false) =
      pending_in ls ls n (subst (λ v. In n (tag_serials v)) (sym told.still) i) in
      (h.0, λ k. not_both (closed_in ls n) (closed_by ls n k) h.1)

  pub told_not_closed : (n : ℕ) → In n (serials opens ls) → (In n (serials closes ls) → ⊥) → In n (tag_serials ts)
  told_not_closed n i out = subst (λ v. In n (tag_serials v)) told.still (in_pending ls ls n i (not_closed_by ls n out))

  -- a line that neither opens nor closes
  pub told_denied : (l : Line) → opens l ≡ false → closes l ≡ false → Told ts next (ls ++ (l ∷ []))
  told_denied l o c = record {
    still =
        pending_more ls l c
        ∙ ap (λ b. pending ls ls ++ cond (b && not (closed_in ls l.serial)) (line_tag l ∷ []) []) o
        ∙ append-nil (pending ls ls)
        ∙ told.still;
    opened = subst (λ ns. Once ns next) (sym (serials_same opens ls l o)) told.opened;
    closed = subst (λ ns. Once ns next) (sym (serials_same closes ls l c)) told.closed;
    followed = followed_more [] ls l told.followed (λ e. not_both (closes l) e c);
  }

  -- a line that opens under the next serial
  pub told_opened : (l : Line) → opens l ≡ true → closes l ≡ false → l.serial ≡ next → Told (ts ++ (line_tag l ∷ [])) (next + 1) (ls ++ (l ∷ []))
  told_opened l o c s = record {
    still =
        pending_more ls l c
        ∙ ap (λ b. pending ls ls ++ cond (b && not (closed_in ls l.serial)) (line_tag l ∷ []) []) o
        ∙ ap (λ b. pending ls ls ++ cond (not b) (line_tag l ∷ []) []) (not_closed_by ls l.serial (λ i. unmet (told.closed.below l.serial i)))
        ∙ ap (λ z. z ++ (line_tag l ∷ [])) told.still;
    opened =
        subst (λ ns. Once ns (next + 1)) (sym (serials_more opens ls l o))
        (once_more l.serial (next + 1) told.opened (omega arith) (omega arith) (λ i. unmet (told.opened.below l.serial i)));
    closed =
        subst (λ ns. Once ns (next + 1)) (sym (serials_same closes ls l c))
        (record { once = told.closed.once; below = λ n i. omega (arith, told.closed.below n i) });
    followed = followed_more [] ls l told.followed (λ e. not_both (closes l) e c);
  }
    where
      unmet : l.serial < next → ⊥
      unmet h = omega arith

  -- a line that closes what is open
  pub told_closed : (l : Line) → opens l ≡ false → closes l ≡ true → In l.serial (tag_serials ts) → Told (dropped l.serial ts) next (ls ++ (l ∷ []))
  told_closed l o c i = record {
    still =
        pending_append (ls ++ (l ∷ [])) ls (l ∷ [])
        ∙ ap (λ b. pending (ls ++ (l ∷ [])) ls ++ cond (b && not (closed_in (ls ++ (l ∷ [])) l.serial)) (line_tag l ∷ []) []) o
        ∙ append-nil (pending (ls ++ (l ∷ [])) ls)
        ∙ pending_closed ls (ls ++ (l ∷ [])) ls l.serial (λ k. closed_more ls l k c)
        ∙ ap (dropped l.serial) told.still;
    opened = subst (λ ns. Once ns next) (sym (serials_same opens ls l o)) told.opened;
    closed =
        subst (λ ns. Once ns next) (sym (serials_more closes ls l c))
        (once_more l.serial next told.closed (omega arith) (told.opened.below l.serial was.0) was.1);
    followed = followed_more [] ls l told.followed (λ _. was.0);
  }
    where
      was : In l.serial (serials opens ls) × (In l.serial (serials closes ls) → ⊥)
      was = told_open l.serial i
