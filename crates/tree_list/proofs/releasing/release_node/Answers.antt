use Rattle.std.proofs.Common.{sym, ap, set, ◌∙◌}
use Rattle.model.specs.declared.Node.{Node}
use Rattle.model.specs.declared.Refused.{Refused}
use Rattle.model.specs.Answers.{number, just_model}
use Rattle.steps.specs.Settled.{with_nodes}
use Rattle.model.proofs.Zeros.{node_zero}
use Rattle.tree_list.proofs.AnswerRelease.{release_none, release_open, release_freed}
use Rattle.tree_list.proofs.releasing.release_node.Goals as goal

pub returns-in_default : goal.returns-in_default
returns-in_default c = λ k e. sym (release_none c.args.m.model k (sym c.in_default.is ∙ e))

pub returns-then-q-k : goal.returns-then-q-k
returns-then-q-k c = λ k e.
    ap (λ (x : Refused). just_model (number x.refusal) x.model) c.refused.ensures
    ∙ sym (release_open c.args.m.model k _ (sym c.in-Some.is ∙ e) c.if-q-k.true)

pub returns : goal.returns
returns c = λ k e.
    ap (λ (n : Node). just_model 0 (with_nodes c.args.m.model (set c.args.m.model.nodes c.in-Some.k n))) (node_zero c.default.result c.default.ensures)
    ∙ sym (release_freed c.args.m.model k c.in-Some.k (sym c.in-Some.is ∙ e) c.args.m.sound (c.requires _ c.in-Some.is) c.if-q-k.false)
