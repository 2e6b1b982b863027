use Rattle.model.specs.Places.{depth}
use Rattle.model.specs.Close.{closing_order}
use Rattle.tree_list.proofs.AnswerClose.{Closed}
use Rattle.tree_list.proofs.closing.close_all.Given as goal

abbrev pub invariant-loop-k : goal.invariant-loop-k
invariant-loop-k l = Closed l.fn.m.model.nodes (closing_order l.fn.m.model.nodes depth l.fn.node) l.k-index l.q l.log
