-- The calls noted are a shift. Assumes nothing.
use Rattle.std.proofs.Common.{vec_items, vec_len}
use Rattle.usage.specs.Orders.{Ordered}
use Rattle.monitor.specs.Answered.{policy_by, state_by}
use Rattle.journal.proofs.Noting.{noted_lawful}
use Rattle.journal.proofs.run.Given as given
use Rattle.journal.proofs.run.Goals as goal

-- the order keeps its laws
ordered : (g : given.Over) (order : _) → Ordered (g.O.Order.before order)
ordered g order = record {
  irreflexive = g.met.O.Order.irreflexive order;
  connected = g.met.O.Order.connected order;
  transitive = g.met.O.Order.transitive order;
}

pub returns-clause-law : goal.returns-clause-law
returns-clause-law g c =
    noted_lawful (policy_by g.R.Rule.opening g.R.Rule.staying g.O.Order.before c.args.monitor.now) (ordered g c.args.monitor.now.policy.order)
    (state_by g.P.Purse.books c.args.monitor.now) c.args.calls.now (vec_len c.note_all-ended.new.entries) (vec_items c.note_all-ended.new.entries)
    (state_by g.P.Purse.books c.note_all-ended.new.monitor) c.note_all-ended.ensures.noted
