-- Places in lists: the first that passes stands at its spot, a register changes there, and what a slice becomes that
-- holds the register in its first places. Assumes nothing.
use Rattle.std.proofs.Common.{◌≡◌, ℕ, suc, ◌+◌, ◌-◌, ◌<◌, ◌≤◌, min, Bool, true, cond, ltb, List, [], ◌∷◌, ◌++◌, length, get_or, take, drop, set, is_some, not, unwrap_or, Some, None, Option, sym, refl, ap, ◌∙◌, arith}
use Rattle.std.proofs.lemmas.List.{take_min, drop_min, append_assoc, append-nil, take-append-drop, set-append_left, set_at, length-take, length-take-le, take_at, take_all, take-take, get_or-take, drop_all, take_more}
use Rattle.std.proofs.lemmas.Slice.{between_is}
use Rattle.std.proofs.lemmas.Bool.Decides.{nat_tests}
use Rattle.std.specs.List.{copy_within, insert, remove, position, position_or_len}
use Rattle.register.specs.Lists.{first, some, without, changed, entered}
use Rattle.register.specs.Slices.{spot}
use Rattle.register.specs.Tests.{by_test, none_some, not_below}
use Rattle.register.proofs.Lists.{changed_none, length_changed, length_entered, length_without}

module _ {X : Type 0} (p : X → Bool) where
  -- the spot is where std's search stops, and no further than the list's end
  spot_stops : (xs : List X) → position_or_len p xs ≡ spot p xs
  spot_stops [] = refl
  spot_stops (x ∷ xs) =
      by_test (p x) (λ b. cond (not b) (1 + position_or_len p xs) 0 ≡ cond b 0 (suc (spot p xs)))
      (λ _. refl) (λ _. let later : position_or_len p xs ≡ spot p xs = spot_stops xs in omega arith)

  spot_within : (xs : List X) → spot p xs ≤ length xs
  spot_within [] = omega arith
  spot_within (x ∷ xs) =
      by_test (p x) (λ b. cond b 0 (suc (spot p xs)) ≤ suc (length xs))
      (λ _. omega arith) (λ _. let later : spot p xs ≤ length xs = spot_within xs in omega arith)

  -- std's search gives the spot, where it is in the list
  position_spot : (xs : List X) → position p xs ≡ cond (ltb (spot p xs) (length xs)) (Some (spot p xs)) None
  position_spot xs = ap (λ n. cond (ltb n (length xs)) (Some n) None) (spot_stops xs)

  -- and the length, where it is not
  pub spot_searched : (xs : List X) (place : Option ℕ) → place ≡ position p xs → unwrap_or place (length xs) ≡ spot p xs
  spot_searched xs place e =
      ap (λ o. unwrap_or o (length xs)) (e ∙ position_spot xs)
      ∙ by_test (ltb (spot p xs) (length xs)) (λ b. unwrap_or (cond b (Some (spot p xs)) None) (length xs) ≡ spot p xs)
      (λ _. refl) (λ t. omega (arith, spot_within xs, not_below (spot p xs) (length xs) t))

  -- the first that passes stands at the spot, and where the spot is past the list, none passes
  pub first_at_spot : (xs : List X) (d : X) → spot p xs < length xs → first p xs ≡ Some (get_or xs (spot p xs) d)
  first_at_spot [] d h = absurd (omega arith)
  first_at_spot (x ∷ xs) d h =
      by_test (p x) (λ b. cond b 0 (suc (spot p xs)) < suc (length xs) → cond b (Some x) (first p xs) ≡ Some (get_or (x ∷ xs) (cond b 0 (suc (spot p xs))) d))
      (λ _ _. refl) (λ _ k. first_at_spot xs d (omega arith)) h

  pub first_no_spot : (xs : List X) → length xs ≤ spot p xs → first p xs ≡ None
  first_no_spot [] h = refl
  first_no_spot (x ∷ xs) h =
      by_test (p x) (λ b. suc (length xs) ≤ cond b 0 (suc (spot p xs)) → cond b (Some x) (first p xs) ≡ None)
      (λ _ k. absurd (omega arith)) (λ _ k. first_no_spot xs (omega arith)) h

  -- and so where std's search gives nothing
  position_none : (xs : List X) → position p xs ≡ None → first p xs ≡ None
  position_none xs e =
      by_test (ltb (spot p xs) (length xs)) (λ b. cond b (Some (spot p xs)) None ≡ None → first p xs ≡ None)
      (λ _ h. none_some (sym h)) (λ t _. first_no_spot xs (not_below (spot p xs) (length xs) t))
      (sym (position_spot xs) ∙ e)

  -- changes are made at the spot
  pub changed_at_spot : (new : X) (xs : List X) → changed p (λ _. new) xs ≡ set xs (spot p xs) new
  changed_at_spot new [] = refl
  changed_at_spot new (x ∷ xs) =
      by_test (p x) (λ b. cond b (new ∷ xs) (x ∷ changed p (λ _. new) xs) ≡ set (x ∷ xs) (cond b 0 (suc (spot p xs))) new)
      (λ _. refl) (λ _. ap (λ ys. x ∷ ys) (changed_at_spot new xs))

  pub entered_at_spot : (new : X) (xs : List X) → entered p new xs ≡ insert xs (spot p xs) new
  entered_at_spot new [] = refl
  entered_at_spot new (x ∷ xs) =
      by_test (p x) (λ b. cond b (new ∷ x ∷ xs) (x ∷ entered p new xs) ≡ insert (x ∷ xs) (cond b 0 (suc (spot p xs))) new)
      (λ _. refl) (λ _. ap (λ ys. x ∷ ys) (entered_at_spot new xs))

  pub without_at_spot : (xs : List X) → without p xs ≡ remove xs (spot p xs)
  without_at_spot [] = refl
  without_at_spot (x ∷ xs) =
      by_test (p x) (λ b. cond b xs (x ∷ without p xs) ≡ remove (x ∷ xs) (cond b 0 (suc (spot p xs))))
      (λ _. refl) (λ _. ap (λ ys. x ∷ ys) (without_at_spot xs))

-- the first places of a slice, where it has fewer too
module _ {X : Type 0} where
  -- a list in the first places, as long as what they held
  pub take_first : (n : ℕ) (xs ys : List X) → length ys ≡ length (take n xs) → take n (ys ++ drop n xs) ≡ ys
  take_first n xs ys e =
      let long : length ys ≡ min n (length xs) = e ∙ length-take n xs in
      by_test (ltb n (length xs)) (λ _. take n (ys ++ drop n xs) ≡ ys)
      (λ t. let few : n < length xs = grind (arith, nat_tests) in take_at ys (drop n xs) n (omega arith))
      (λ t. let many : length xs ≤ n = not_below n (length xs) t in
      let whole : ys ++ drop n xs ≡ ys = ap (λ zs. ys ++ zs) (drop_all n xs many) ∙ append-nil ys in
      ap (take n) whole ∙ take_all n ys (omega arith))

  -- a place of the first ones, written
  pub set_first : (n : ℕ) (xs : List X) (i : ℕ) (y : X) → i < length (take n xs) → set xs i y ≡ set (take n xs) i y ++ drop n xs
  set_first n xs i y h = ap (λ zs. set zs i y) (sym (take-append-drop n xs)) ∙ set-append_left (take n xs) (drop n xs) i y h

  -- the places from `at` to `count` moved up by one, and the first of them written
  pub moved_up : (s moved : List X) (count at : ℕ) (new : X) → at ≤ count → count < length s → moved ≡ copy_within s at count (at + 1) →
      set moved at new ≡ insert (take count s) at new ++ drop (count + 1) s
  moved_up s moved count at new h k e =
      let end : at + 1 + (count - at) ≡ count + 1 = omega arith in
      let split : moved ≡ take at s ++ (get_or s at new ∷ (drop at (take count s) ++ drop (count + 1) s)) =
      e ∙ rw (take_more s at new (omega arith), between_is s at count, end) (simp append_assoc) in
      ap (λ zs. set zs at new) split
      ∙ set_at (take at s) (get_or s at new) (drop at (take count s) ++ drop (count + 1) s) new at (length-take-le at s (omega arith))
      ∙ cc (take-take at count s h, append_assoc (take at (take count s)) (new ∷ drop at (take count s)) (drop (count + 1) s))

-- a register in which none passes is not changed
module _ {X : Type 0} (p : X → Bool) (n : ℕ) (s : List X) (new : X) (none : first p (take n s) ≡ None) where
  pub unreplaced_slice : changed p (λ _. new) (take n s) ++ drop n s ≡ s
  unreplaced_slice = ap (λ xs. xs ++ drop n s) (changed_none p (λ _. new) (take n s) none) ∙ take-append-drop n s

-- the first that passes, of the records in the first n places of a slice, stands at `at`
pub record Found {X : Type 0} (p : X → Bool) (n : ℕ) (s : List X) (at : ℕ) : Type 0 where
  pub place : at ≡ spot p (take n s)
  pub within : at < length (take n s)

-- as std's search says
position_some : {X : Type 0} (p : X → Bool) (n : ℕ) (s : List X) (at : ℕ) → position p (take n s) ≡ Some at → Found p n s at
position_some p n s at e =
    by_test (ltb (spot p (take n s)) (length (take n s))) (λ b. cond b (Some (spot p (take n s))) None ≡ Some at → Found p n s at)
    (λ t h. let place : at ≡ spot p (take n s) = cc in
    let within : at < length (take n s) = grind (arith, nat_tests) in
    record { place = place; within = within })
    (λ _ h. none_some h)
    (sym (position_spot p (take n s)) ∙ e)

-- what a search for a key in the first n places says that came to `place`
module _ {X K : Type 0} (eq : K → K → Bool) (keyed : X → K) (n : ℕ) (s : List X) {k key : K} {xs : List X} {place : Option ℕ}
    (e : place ≡ position (λ x. eq (keyed x) k) xs) (same : k ≡ key) (held : xs ≡ take n s) where
  told : place ≡ position (λ x. eq (keyed x) key) (take n s)
  told = e ∙ ap (λ k. position (λ x. eq (keyed x) k) xs) same ∙ ap (position (λ x. eq (keyed x) key)) held

  pub found : {at : ℕ} → place ≡ Some at → Found (λ x. eq (keyed x) key) n s at
  found there = position_some (λ x. eq (keyed x) key) n s _ (sym told ∙ there)

  pub found_nowhere : place ≡ None → first (λ x. eq (keyed x) key) (take n s) ≡ None
  found_nowhere nowhere = position_none _ (take n s) (sym told ∙ nowhere)

-- a record entered at the spot in the first n places
module _ {X : Type 0} (p : X → Bool) (n : ℕ) (s : List X) where
  pub added_slice : (new : X) (at : ℕ) (after : List X) → at ≡ spot p (take n s) → after ≡ insert (take n s) at new ++ drop (n + 1) s →
      after ≡ entered p new (take n s) ++ drop (n + 1) s
  added_slice new at after place e =
      e ∙ ap (λ i. insert (take n s) i new ++ drop (n + 1) s) place
      ∙ ap (λ ys. ys ++ drop (n + 1) s) (sym (entered_at_spot p new (take n s)))

  pub added_register : (new : X) (after : List X) → n < length s → after ≡ entered p new (take n s) ++ drop (n + 1) s →
      take (n + 1) after ≡ entered p new (take n s)
  added_register new after h e =
      let full : length (take n s) ≡ n = length-take-le n s (omega arith) in
      let more : length (entered p new (take n s)) ≡ suc (length (take n s)) = length_entered p new (take n s) in
      ap (take (n + 1)) e ∙ take_at (entered p new (take n s)) (drop (n + 1) s) (n + 1) (omega arith)

-- a record struck at the spot
module _ {X : Type 0} (p : X → Bool) (n : ℕ) (s : List X) (at : ℕ) (place : at ≡ spot p (take n s)) where
  pub struck_slice : {xs : List X} (x : X) (after : List X) → xs ≡ take n s → after ≡ remove (take (length xs) s) at ++ (x ∷ drop (length xs) s) →
      after ≡ without p (take n s) ++ (x ∷ drop n s)
  struck_slice {xs} x after held e =
      let end : length xs ≡ min n (length s) = ap length held ∙ length-take n s in
      let front : take (length xs) s ≡ take n s = ap (λ m. take m s) end ∙ take_min n s in
      let behind : drop (length xs) s ≡ drop n s = ap (λ m. drop m s) end ∙ drop_min n s in
      e ∙ ap (λ ys. remove ys at ++ (x ∷ drop (length xs) s)) front
      ∙ ap (λ ys. remove (take n s) at ++ (x ∷ ys)) behind
      ∙ ap (λ i. remove (take n s) i ++ (x ∷ drop n s)) place
      ∙ ap (λ ys. ys ++ (x ∷ drop n s)) (sym (without_at_spot p (take n s)))

-- the first that passes, read, replaced and struck
module _ {X : Type 0} {p : X → Bool} {n : ℕ} {s : List X} {at : ℕ} (found : Found p n s at) where
  pub struck_first : (x : X) → x ≡ get_or s at x → Some x ≡ first p (take n s)
  struck_first x e =
      let early : at < n = omega (arith, found.within, length-take n s) in
      let there : get_or (take n s) (spot p (take n s)) x ≡ x = ap (λ i. get_or (take n s) i x) (sym found.place) ∙ get_or-take n s at x early ∙ sym e in
      ap Some (sym there) ∙ sym (first_at_spot p (take n s) x (omega (arith, found.place, found.within)))

  pub replaced_slice : (new : X) → set s at new ≡ changed p (λ _. new) (take n s) ++ drop n s
  replaced_slice new =
      let there : set (take n s) at new ≡ changed p (λ _. new) (take n s) =
      ap (λ i. set (take n s) i new) found.place ∙ sym (changed_at_spot p new (take n s)) in
      set_first n s at new found.within ∙ ap (λ ys. ys ++ drop n s) there

  pub replaced_register : (new : X) → take n (set s at new) ≡ changed p (λ _. new) (take n s)
  replaced_register new =
      ap (take n) (replaced_slice new) ∙ take_first n s (changed p (λ _. new) (take n s)) (length_changed p (λ _. new) (take n s))

  pub struck_register : (x : X) (after : List X) → after ≡ without p (take n s) ++ (x ∷ drop n s) → n ≤ length s →
      take (n - 1) after ≡ without p (take n s)
  struck_register x after e k =
      let full : length (take n s) ≡ n = length-take-le n s k in
      let there : some p (take n s) ≡ true = ap is_some (first_at_spot p (take n s) x (omega (arith, found.place, found.within))) in
      let fewer : suc (length (without p (take n s))) ≡ length (take n s) = length_without p (take n s) there in
      ap (take (n - 1)) e ∙ take_at (without p (take n s)) (x ∷ drop n s) (n - 1) (omega arith)
