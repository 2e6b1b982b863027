use Rattle.model.proofs.Zeros.{node_zero}
use Rattle.tree_list.proofs.AnswerNew.{rooted_by}
use Rattle.tree_list.proofs.starting.empty_capture.Goals as goal

pub returns : goal.returns
returns c = rooted_by c.zeros-m.result c.default.result c.args.ongoing c.zeros-m.ensures (node_zero c.default.result c.default.ensures)
