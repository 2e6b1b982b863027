-- What the chain's `any` finds, by the model's test of all steps.
use Rattle.std.proofs.Common.{rules, ◌∙◌}
use Rattle.std.proofs.lemmas.Iterator.{YieldsList-from_slice}
use Rattle.std.proofs.lemmas.Iterator.Search.{any_from_yields_List}
use Rattle.model.specs.declared.Step.{Step}
use Rattle.model.specs.Nodes.{node_at}
use Rattle.steps.specs.Course.{node_of}
use Rattle.tree_list.specs.Updating.{step_back}
use Rattle.tree_list.proofs.UpdateTests.{any_back}
use Rattle.tree_list.proofs.updating.any_went_back.Goals as goal

pub returns : goal.returns
returns c =
    let t = c.args.table.now in
    let ns = c.args.nodes.now in
    let es = c.args.steps.now in
    let test = λ (e : Step). step_back t (node_at ns (node_of e)) e in
    any_from_yields_List test _ _ _ c.any.ensures.ran (YieldsList-from_slice es c.iter.ensures.rest) (λ x b f k. search rules) ∙ any_back t ns es
