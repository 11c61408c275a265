-- Registers in slices: the first places of a slice, and what an insertion and a removal make of it. Assumes nothing.
use Rattle.std.specs.Prelude.{ℕ, suc, ◌+◌, ◌-◌, Bool, cond, List, [], ◌∷◌, ◌++◌, take, drop, Some, None, Option, Ok, Err, Result}
use Rattle.register.specs.declared.slice.Full.{Full}
use Rattle.register.specs.Lists.{without, changed, entered}

-- how many stand before the first that passes
abbrev pub spot : {X : Type 0} → (X → Bool) → List X → ℕ
spot p [] = 0
spot p (x ∷ xs) = cond (p x) 0 (suc (spot p xs))

-- the one value of `Full`
abbrev pub full : Full
full = record {}

-- what becomes of a record, from the one that has its key, if one does, and whether a place is free
abbrev pub insertion : {X : Type 0} → Option X → Bool → Result (Option X) Full
insertion (Some x) free = Ok (Some x)
insertion None free = cond free (Ok None) (Err full)

-- how many records there are after an insertion
abbrev pub taken : {X : Type 0} → Result (Option X) Full → ℕ → ℕ
taken (Ok None) n = n + 1
taken (Ok (Some x)) n = n
taken (Err e) n = n

-- the register after an insertion
abbrev pub register_inserted : {X : Type 0} → Result (Option X) Full → (X → Bool) → (X → Bool) → X → List X → List X
register_inserted (Ok None) is above new xs = entered above new xs
register_inserted (Ok (Some x)) is above new xs = changed is (λ _. new) xs
register_inserted (Err e) is above new xs = xs

-- the whole slice after an insertion
abbrev pub slice_inserted : {X : Type 0} → Result (Option X) Full → (X → Bool) → (X → Bool) → X → ℕ → List X → List X
slice_inserted (Ok None) is above new count s = entered above new (take count s) ++ drop (count + 1) s
slice_inserted (Ok (Some x)) is above new count s = changed is (λ _. new) (take count s) ++ drop count s
slice_inserted (Err e) is above new count s = s

-- how many records there are after a removal
abbrev pub left : {X : Type 0} → Option X → ℕ → ℕ
left None n = n
left (Some x) n = n - 1

-- the whole slice after a removal: the removed record stands behind the others
abbrev pub slice_removed : {X : Type 0} → Option X → (X → Bool) → ℕ → List X → List X
slice_removed None is count s = s
slice_removed (Some x) is count s = without is (take count s) ++ (x ∷ drop count s)
