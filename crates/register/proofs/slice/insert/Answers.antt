-- Where no record has the key, the register is as it was, and full, or entered before the first above. Assumes nothing.
use Rattle.std.proofs.Common.{◌≡◌, ℕ, ◌+◌, Bool, List, ◌++◌, take, drop, Option, None, sym, ap, ◌∙◌, rules}
use Rattle.std.specs.Ordering.{is_lt}
use Rattle.register.specs.Lists.{first, changed, entered}
use Rattle.register.specs.Slices.{spot}
use Rattle.register.proofs.Slices.{unreplaced_slice, added_slice, added_register}
use Rattle.register.proofs.slice.insert.Goals as goal

-- a replacement that found no record changed none
unreplaced : {X : Type 0} (p : X → Bool) (n : ℕ) (s after : List X) (new : X) {replaced : Option X} → replaced ≡ first p (take n s) → replaced ≡ None →
    after ≡ changed p (λ _. new) (take n s) ++ drop n s → after ≡ s
unreplaced p n s after new how none e = e ∙ unreplaced_slice p n s new (sym how ∙ none)

pub returns-then-records-count : goal.returns-then-records-count
returns-then-records-count g c =
    let same = unreplaced _ c.args.count c.args.records.now c.replace.new.records c.args.new c.replace.ensures.replaced c.in_default.is c.replace.ensures.after in
    record { how = search rules; after = same; register = ap (take c.args.count) same }

pub returns : goal.returns
returns g c =
    let same = unreplaced _ c.args.count c.args.records.now c.replace.new.records c.args.new c.replace.ensures.replaced c.in_default.is c.replace.ensures.after in
    let above : g.row.T-Key.Denot → g.row.T.Denot → Bool = λ key x. is_lt (g.T.Key.Ord.cmp key (g.T.Keyed.keyed x)) in
    let key = g.T.Keyed.keyed c.args.new in
    let place =
    c.place_above-at.ensures.place ∙ ap (λ key. spot (above key) c.first_places.result.now) c.key.ensures ∙ ap (spot (above key)) c.first_places.ensures in
    let added = added_slice (above key) c.args.count c.replace.new.records c.args.new c.place_above-at.result c.enter.new.records place c.enter.ensures in
    record {
      how = search rules;
      after = added ∙ ap (λ s. entered (above key) c.args.new (take c.args.count s) ++ drop (c.args.count + 1) s) same;
      register = added_register (above key) c.args.count c.replace.new.records c.args.new c.enter.new.records c.if-records-count.false added
          ∙ ap (λ s. entered (above key) c.args.new (take c.args.count s)) same;
    }
