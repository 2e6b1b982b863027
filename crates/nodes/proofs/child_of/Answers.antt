use Rattle.std.proofs.Common.{rules, ◌&&◌}
use Rattle.model.specs.declared.Node.{Node}
use Rattle.model.specs.Nodes.{used, stands_at, child_by}
use Rattle.nodes.proofs.child_of.Goals as goal

pub returns : goal.returns
unfolding child_by
returns c = c.first_node.ensures (λ (n : Node). used n && stands_at c.args.p c.args.i.0 n) (λ n b k. search rules)
