use Rattle.tree_list.proofs.AnswerFetch.{shown_as}
use Rattle.tree_list.proofs.fetching.shown.Goals as goal

pub returns : goal.returns
returns c = λ k e. shown_as c.args.m.nodes c.args.n c.args.node k e
