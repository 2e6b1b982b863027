use Rattle.std.proofs.Common.{ap, ◌∙◌, arith}
use Rattle.model.specs.declared.Model.{Model}
use Rattle.edits.proofs.Growing.{placed_raisable, published_fits, grown_model}
use Rattle.edits.proofs.grown.grow_node.Goals as goal

pub raise_totals-q-requires : goal.raise_totals-q-requires
raise_totals-q-requires c = placed_raisable c.args.m c.args.k c.args.count c.requires c.grow_regions-placed.result c.grow_regions-placed.result c.grow_regions-placed.ensures

pub overflow_add-q : goal.overflow_add-q
overflow_add-q c =
    let kept = ap (λ (q : Model). q.published) c.raise_totals-q.ensures ∙ ap (λ (q : Model). q.published) c.grow_regions-placed.ensures in
    omega (arith, kept, published_fits c.args.m c.args.k c.args.count c.requires)

pub returns : goal.returns
returns c = grown_model c.args.m c.args.k c.args.count c.requires c.grow_regions-placed.result c.raise_totals-q.result c.grow_regions-placed.ensures c.raise_totals-q.ensures
