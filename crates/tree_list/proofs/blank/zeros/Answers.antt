use Rattle.model.proofs.Zeros.{node_zero, region_zero, model_zero}
use Rattle.tree_list.proofs.blank.zeros.Goals as goal

pub returns : goal.returns
returns c = model_zero c.default.result node_zero region_zero c.default.ensures
