use Rattle.edits.proofs.Raising.{raise_requires}
use Rattle.edits.proofs.grown.raise_totals.Goals as goal

pub update_total-requires-clause-well_formed : goal.update_total-requires-clause-well_formed
update_total-requires-clause-well_formed c = (raise_requires c.args.m.nodes c.args.k c.args.count c.requires c.grown_node.result c.grown_node.ensures).0

pub update_total-requires-clause-all_movable : goal.update_total-requires-clause-all_movable
update_total-requires-clause-all_movable c = (raise_requires c.args.m.nodes c.args.k c.args.count c.requires c.grown_node.result c.grown_node.ensures).1.1
