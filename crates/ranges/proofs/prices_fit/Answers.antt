use Rattle.std.proofs.Common.{◌∙◌, rules, tests}
use Rattle.std.proofs.lemmas.Iterator.{YieldsList-from_slice}
use Rattle.std.proofs.lemmas.Iterator.Search.{all_from_yields_List}
use Rattle.records.specs.Ranges.{between}
use Rattle.records.proofs.Between.{list_all-between}
use Rattle.ranges.proofs.prices_fit.Goals as goal

pub returns : goal.returns
returns c =
    all_from_yields_List (between 0 1000) _ _ _ c.all.ensures.ran (YieldsList-from_slice c.args.prices.now (cc)) (λ x b q k. search (rules, tests))
    ∙ list_all-between 0 1000 c.args.prices.now
