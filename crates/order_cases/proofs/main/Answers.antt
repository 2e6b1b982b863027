use Rattle.order_cases.proofs.ChainNodes.{chain_well, chain_open}
use Rattle.order_cases.proofs.main.Goals as goal

pub close_outermost-requires : goal.close_outermost-requires
close_outermost-requires c = (chain_well _ c.chain-m.ensures, chain_open _ c.chain-m.ensures)

pub update-requires : goal.update-requires
update-requires c = chain_well _ c.chain-m.ensures
