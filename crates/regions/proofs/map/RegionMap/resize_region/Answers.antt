use Rattle.std.proofs.Common.{ap, ◌∙◌, set, rules}
use Rattle.model.specs.declared.Region.{Region}
use Rattle.runs.specs.Changes.{resized}
use Rattle.regions.proofs.Holding.{opened, view_of, kept, put, read}
use Rattle.regions.proofs.map.RegionMap.resize_region.Goals as goal

pub invariant_of-self : goal.invariant_of-self
invariant_of-self c =
    let held = opened c.self.inside.regions _ _ (search rules) c.self.view_is c.self.invariant in
    kept _ _ _ (put _ _ _ held c.args.place _ c.requires)

pub returns : goal.returns
returns c =
    let held = opened c.self.inside.regions _ _ (search rules) c.self.view_is c.self.invariant in
    view_of _ _ _ (put _ _ _ held c.args.place _ c.requires)
    ∙ ap (λ (g : Region). set c.args.self.now c.args.place (resized c.args.count g)) (read _ _ _ held c.args.place c.requires)
