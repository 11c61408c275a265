use Rattle.std.proofs.Common.{◌∙◌, rules, tests}
use Rattle.std.proofs.lemmas.Iterator.{YieldsList-from_slice}
use Rattle.std.proofs.lemmas.Iterator.Search.{all_from_yields_List}
use Rattle.records.specs.Ranges.{between}
use Rattle.records.proofs.Between.{list_all-between}
use Rattle.ranges.proofs.code_fits.Goals as goal

pub returns : goal.returns
returns c =
    all_from_yields_List (between 0x21 0x7E) _ _ _ c.all.ensures.ran (YieldsList-from_slice c.args.code.now (cc)) (λ x b q k. search (rules, tests))
    ∙ list_all-between 0x21 0x7E c.args.code.now
