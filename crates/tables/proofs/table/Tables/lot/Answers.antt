use Rattle.std.proofs.Common.{ap, ◌∙◌}
use Rattle.register.specs.Lists.{first}
use Rattle.tables.proofs.Coded.{lots_sought}
use Rattle.tables.proofs.table.Tables.lot.Goals as goal

pub returns : goal.returns
returns c = c.find.ensures ∙ ap (λ p. first p c.args.self.now.lots) (lots_sought c.args.code.now)
