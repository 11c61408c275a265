-- Lists of records by a test on them. Assumes nothing.
use Rattle.std.specs.Prelude.{◌≡◌, Bool, true, cond, ◌&&◌, ◌⊎◌, List, [], ◌∷◌, is_some, Some, None, Option}

-- membership
abbrev pub In : {X : Type 0} → X → List X → Type 0
In x [] = ⊥
In x (y ∷ ys) = (x ≡ y) ⊎ In x ys

-- the first that passes
abbrev pub first : {X : Type 0} → (X → Bool) → List X → Option X
first p [] = None
first p (x ∷ xs) = cond (p x) (Some x) (first p xs)

-- whether one passes
abbrev pub some : {X : Type 0} → (X → Bool) → List X → Bool
some p xs = is_some (first p xs)

-- all but the first that passes
abbrev pub without : {X : Type 0} → (X → Bool) → List X → List X
without p [] = []
without p (x ∷ xs) = cond (p x) xs (x ∷ without p xs)

-- the first that passes, changed
abbrev pub changed : {X : Type 0} → (X → Bool) → (X → X) → List X → List X
changed p f [] = []
changed p f (x ∷ xs) = cond (p x) (f x ∷ xs) (x ∷ changed p f xs)

-- the element, before the first that passes
abbrev pub entered : {X : Type 0} → (X → Bool) → X → List X → List X
entered p x [] = x ∷ []
entered p x (y ∷ ys) = cond (p y) (x ∷ y ∷ ys) (y ∷ entered p x ys)

-- whether every member passes
abbrev pub all : {X : Type 0} → (X → Bool) → List X → Bool
all p [] = true
all p (x ∷ xs) = p x && all p xs

-- whether each goes before the next
abbrev pub before_next : {X : Type 0} → (X → X → Bool) → X → List X → Bool
before_next below x [] = true
before_next below x (y ∷ ys) = below x y

abbrev pub rises : {X : Type 0} → (X → X → Bool) → List X → Bool
rises below [] = true
rises below (x ∷ xs) = before_next below x xs && rises below xs
