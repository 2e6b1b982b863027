use Rattle.std.proofs.Common.{ap, arith, rules}
use Rattle.model.specs.declared.Region.{Region}
use Rattle.regions.proofs.Holding.{opened, read}
use Rattle.regions.proofs.Steps.{split_last, split_between}
use Rattle.regions.proofs.map.RegionMap.split_parent.Goals as goal

pub returns-then-next-end : goal.returns-then-next-end
returns-then-next-end c =
    let gs = c.args.self.now in
    let i = c.args.place in
    let held = opened c.self.inside.regions _ _ (search rules) c.self.view_is c.self.invariant in
    let here = read _ _ _ held i c.requires.place_in_bounds.0 in
    rw (c.insert_region-then-next-end.ensures, c.insert_region.ensures, c.resize_region.ensures)
    (split_between gs i c.requires.place_in_bounds.0 c.args.last.0 c.args.new _ here c.if-next-end.true)

pub returns-else-next-end : goal.returns-else-next-end
returns-else-next-end c =
    let gs = c.args.self.now in
    let i = c.args.place in
    let held = opened c.self.inside.regions _ _ (search rules) c.self.view_is c.self.invariant in
    let here = read _ _ _ held i c.requires.place_in_bounds.0 in
    let offset = ap (λ (g : Region). g.offset) here in
    let length = ap (λ (g : Region). g.length) here in
    rw (c.insert_region.ensures, c.resize_region.ensures)
    (split_last gs i c.requires.place_in_bounds.0 c.args.last.0 c.args.new _ here (omega (arith, c.requires.place_bound.1, c.if-next-end.false)))
