use Rattle.std.proofs.Common.{List, ap, arith}
use Rattle.model.specs.declared.Region.{Region}
use Rattle.runs.specs.Changes.{joined}
use Rattle.runs.specs.Laid.{live, laid}
use Rattle.runs.proofs.Changes.{grow_total}
use Rattle.regions.proofs.Steps.{later_asks, gap_length, grow_done}
use Rattle.regions.proofs.grow.Goals as goal

pub move_starts-requires : goal.move_starts-requires
move_starts-requires c =
    rw c.of-map.ensures
    (c.requires.place_in_bounds.0, λ k le lt. later_asks (live c.args.m) c.requires.tiled c.args.count c.requires.m_len_bound.1 k lt)

pub insert_region-requires : goal.insert_region-requires
insert_region-requires c =
    let more = gap_length (live c.args.m) c.args.place c.args.row.0 c.args.node c.args.from.0 c.args.count c.requires.place_in_bounds.0 in
    rw (c.move_starts.ensures, c.of-map.ensures) (omega (arith, more, c.requires.place_in_bounds.0), omega (arith, more, c.requires.m_len_bound.0))

pub merge_regions-requires : goal.merge_regions-requires
merge_regions-requires c =
    let gs = live c.args.m in
    rw (c.insert_region.ensures, c.move_starts.ensures, c.of-map.ensures, grow_done gs c.args.place c.args.row.0 c.args.node c.args.from.0 c.args.count c.requires.place_in_bounds.0)
    (omega (arith, grow_total gs c.args.place c.args.row.0 c.args.node c.args.from.0 c.args.count, c.requires.m_len_bound.1))

pub returns : goal.returns
returns c =
    let m = c.args.m in
    rw (c.in_model.ensures, c.merge_regions.ensures, c.insert_region.ensures, c.move_starts.ensures, c.of-map.ensures)
    (ap (λ (l : List Region). laid m (joined l)) (grow_done (live m) c.args.place c.args.row.0 c.args.node c.args.from.0 c.args.count c.requires.place_in_bounds.0))
