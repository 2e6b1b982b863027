use Rattle.std.proofs.Common.{sym, ap, ◌∙◌}
use borrow.Author.Tests.{not-true}
use Rattle.model.specs.Fetch.{fetched}
use Rattle.tree_list.proofs.AnswerFetch.{fetch_shown, number_there}
use Rattle.tree_list.proofs.fetching.fetch_node.Goals.{then-is_some-via-then-is_some, then-is_some-via-else-is_some+then-not-n}
use Rattle.tree_list.proofs.fetching.fetch_node.Goals as goal

pub returns-then-is_some : goal.returns-then-is_some
returns-then-is_some c = λ k e.
    ap (fetched c.args.m) (c.shown.ensures k e)
    ∙ sym (fetch_shown c.args.m c.args.n k (λ z. elim c.then-is_some.branch [
      | then-is_some-via-then-is_some w ↦ absurd (number_there c.args.node k e (sym c.is_some.ensures ∙ w.if-is_some.true) z)
      | then-is_some-via-else-is_some+then-not-n w ↦ not-true _ w.if-not-n.true
    ]))
