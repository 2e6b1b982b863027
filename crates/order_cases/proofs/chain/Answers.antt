use Rattle.std.proofs.Common.{rules}
use Rattle.model.specs.Nodes.{no_node}
use Rattle.order_cases.proofs.ChainNodes.{all_made}
use Rattle.order_cases.proofs.chain.Goals as goal

pub returns : goal.returns
returns c =
    let made = c.from_fn.ensures.items in
    all_made c.from_fn.result made.long (λ i l. let called = (made.at i no_node l).2 in search rules)
