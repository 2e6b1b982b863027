use Rattle.std.proofs.Common.{rules}
use Rattle.model.specs.Nodes.{unused}
use Rattle.nodes.proofs.free_place.Goals as goal

pub returns : goal.returns
returns c = c.first_node.ensures unused (λ n b k. search rules)
