-- What the tables keep has one proof at most. Assumes nothing.
use Rattle.std.specs.Prelude.{Bool, List, [], ◌∷◌}
use denote.Struct.Props as logic
use Rattle.register.proofs.Apart.{Apart}
use Rattle.machine.specs.Rising.{BelowNext, Rising}

module _ {X : Type 0} where
  BelowNext-prop : (below : X → X → Bool) (x : X) (xs : List X) → IsProp (BelowNext below x xs)
  BelowNext-prop below x [] = Prim.hlevel logic.props
  BelowNext-prop below x (y ∷ ys) = Prim.hlevel logic.props

  pub Rising-prop : (below : X → X → Bool) (xs : List X) → IsProp (Rising below xs)
  Rising-prop below [] = Prim.hlevel logic.props
  Rising-prop below (x ∷ xs) =
      let next : IsProp (BelowNext below x xs) = BelowNext-prop below x xs in
      let later : IsProp (Rising below xs) = Rising-prop below xs in
      Prim.hlevel (next, later)

  pub Apart-prop : {K : Type 0} (key : X → K) (xs : List X) → IsProp (Apart key xs)
  Apart-prop key [] = Prim.hlevel logic.props
  Apart-prop key (x ∷ xs) =
      let later : IsProp (Apart key xs) = Apart-prop key xs in
      Prim.hlevel later

pub ruleset kept_props = (Rising-prop, Apart-prop, logic.props)
