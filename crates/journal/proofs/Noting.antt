-- What was noted so far, and the shift that it shows. Assumes nothing.
use Rattle.std.proofs.Common.{◌≡◌, ℕ, ◌+◌, ◌<◌, List, [], ◌∷◌, ◌++◌, map, length, get_or, take, sym, refl, ap, ◌∙◌, subst, append_assoc, append-nil, arith, length-append}
use mathlib.Core.List.{map-map}
use lib.ListN.{length-map}
use Rattle.std.proofs.lemmas.List.{take_more}
use Rattle.records.specs.declared.Badge.{Badge}
use Rattle.records.specs.declared.Call.{Call}
use Rattle.records.specs.declared.Lot.{Lot}
use Rattle.usage.specs.Orders.{Ordered}
use Rattle.machine.specs.State.{Policy, State}
use Rattle.machine.specs.Step.{step}
use Rattle.machine.specs.Journal.{Entry as Replayed}
use Rattle.machine.specs.Law.{Shift, start, then, New, Lawful}
use Rattle.machine.specs.Runs.{after_calls}
use Rattle.machine.proofs.Lawfulness.{shifts_lawful}
use Rattle.journal.specs.declared.Entry.{Entry}
use Rattle.journal.specs.Notes.{Noted, NotedTo, noted, notes, noted_in, replayed}

-- one call more
notes_append : (p : Policy) (s : State) (calls : List Call) (call : Call) →
    notes p s (calls ++ (call ∷ [])) ≡ notes p s calls ++ (noted call (step p (after_calls p s calls) 65 call) ∷ [])
notes_append p s [] call = refl
notes_append p s (first ∷ calls) call = ap (λ ns. noted first (step p s 65 first) ∷ ns) (notes_append p (step p s 65 first).after calls call)

after_append : (p : Policy) (s : State) (calls : List Call) (call : Call) →
    after_calls p s (calls ++ (call ∷ [])) ≡ (step p (after_calls p s calls) 65 call).after
after_append p s [] call = refl
after_append p s (first ∷ calls) call = after_append p (step p s 65 first).after calls call

-- one call more
pub noted_more : (p q : Policy) → q ≡ p → (first : State) (calls : List Call) (n : ℕ) (entries new_entries : List Entry) (s after : State) (call other : Call) →
    NotedTo p first calls n entries s → n < length calls → call ≡ get_or calls n other →
    map noted_in new_entries ≡ map noted_in entries ++ (noted call (step q s 65 call) ∷ []) → after ≡ (step q s 65 call).after →
    NotedTo p first calls (n + 1) new_entries after
noted_more p q same first calls n entries new_entries s after call other so_far h here new left =
    let one_more : take (n + 1) calls ≡ take n calls ++ (call ∷ []) = take_more calls n other h ∙ ap (λ c. take n calls ++ (c ∷ [])) (sym here) in
    record {
      counted = omega (
        arith,
        so_far.counted,
        length-map entries noted_in,
        length-map new_entries noted_in,
        ap length new,
        length-append (map noted_in entries) (noted call (step q s 65 call) ∷ []),
      );
      noted = new ∙ ap (λ ns. ns ++ (noted call (step q s 65 call) ∷ [])) so_far.noted
          ∙ ap (λ r. notes p first (take n calls) ++ (noted call (step r s 65 call) ∷ [])) same
          ∙ ap (λ t. notes p first (take n calls) ++ (noted call (step p t 65 call) ∷ [])) so_far.state
          ∙ sym (notes_append p first (take n calls) call) ∙ ap (notes p first) (sym one_more);
      state = left ∙ ap (λ r. (step r s 65 call).after) same ∙ ap (λ t. (step p t 65 call).after) so_far.state
          ∙ sym (after_append p first (take n calls) call) ∙ ap (after_calls p first) (sym one_more);
    }

-- what the law reads of what was noted
abbrev plain : Noted → Replayed
plain n = record { call = n.call; returned = n.returned; lines = n.lines }

-- calls in turn are a shift
shift_on : (p : Policy) (first s : State) (es : List Replayed) (calls : List Call) → Shift p first es s →
    Shift p first (es ++ map plain (notes p s calls)) (after_calls p s calls)
shift_on p first s es [] shift = subst (λ (xs : List Replayed). Shift p first xs s) (sym (append-nil es)) shift
shift_on p first s es (call ∷ calls) shift =
    subst (λ (xs : List Replayed). Shift p first xs (after_calls p (step p s 65 call).after calls))
    (append_assoc es (plain (noted call (step p s 65 call)) ∷ []) (map plain (notes p (step p s 65 call).after calls)))
    (shift_on p first (step p s 65 call).after (es ++ (plain (noted call (step p s 65 call)) ∷ [])) calls (then 65 call shift))

pub noted_lawful : (p : Policy) → Ordered p.before → (first : State) (calls : List Call) (n : ℕ) (entries : List Entry) (s : State) →
    NotedTo p first calls n entries s → (badges : List Badge) (lots : List Lot) → New badges lots first →
    Lawful p badges lots first.books.homes (map replayed entries) s
noted_lawful p ordered first calls n entries s so_far badges lots new =
    let shift : Shift p first (map plain (notes p first (take n calls))) (after_calls p first (take n calls)) = shift_on p first first [] (take n calls) start in
    let same : map plain (notes p first (take n calls)) ≡ map replayed entries = ap (map plain) (sym so_far.noted) ∙ map-map plain noted_in entries in
    shifts_lawful p ordered badges lots first s (map replayed entries) new
    (subst (λ (es : List Replayed). Shift p first es s) same (subst (λ (t : State). Shift p first (map plain (notes p first (take n calls))) t) (sym so_far.state) shift))
