use Rattle.std.proofs.Common.{List, ap, arith}
use Rattle.model.specs.declared.Region.{Region}
use Rattle.model.proofs.Arrays.{regions_long}
use Rattle.runs.specs.Changes.{joined}
use Rattle.runs.specs.Laid.{live, laid}
use Rattle.runs.proofs.Changes.{collapse_total}
use Rattle.runs.proofs.Laid.{live_count, live_at}
use Rattle.regions.proofs.Steps.{earlier_asks, gone_length, collapse_done}
use Rattle.regions.proofs.collapse.Goals as goal

pub move_starts-requires : goal.move_starts-requires
move_starts-requires c =
    let m = c.args.m in
    let h = c.requires.place_in_bounds.0 in
    let long = regions_long m _ c.well_formed.0 in
    let rows = ap (λ (g : Region). g.length) (live_at m long c.requires.laid c.args.place (omega (arith, live_count m long c.requires.laid))) in
    rw c.of-map.ensures (omega arith, earlier_asks (live m) c.args.place _ h rows c.requires.tiled c.requires.place_in_bounds.1)

pub remove_region-requires : goal.remove_region-requires
remove_region-requires c =
    let m = c.args.m in
    let h = c.requires.place_in_bounds.0 in
    let long = regions_long m _ c.well_formed.0 in
    let rows = ap (λ (g : Region). g.length) (live_at m long c.requires.laid c.args.place (omega (arith, live_count m long c.requires.laid))) in
    rw (c.move_starts.ensures, c.of-map.ensures) (omega (arith, gone_length (live m) c.args.place _ h rows))

pub merge_regions-requires : goal.merge_regions-requires
merge_regions-requires c =
    let m = c.args.m in
    let h = c.requires.place_in_bounds.0 in
    let long = regions_long m _ c.well_formed.0 in
    let rows = ap (λ (g : Region). g.length) (live_at m long c.requires.laid c.args.place (omega (arith, live_count m long c.requires.laid))) in
    rw (c.remove_region.ensures, c.move_starts.ensures, c.of-map.ensures, collapse_done (live m) c.args.place _ h rows)
    (omega (arith, collapse_total (live m) c.args.place h, c.requires.place_in_bounds.1))

pub returns : goal.returns
returns c =
    let m = c.args.m in
    let h = c.requires.place_in_bounds.0 in
    let long = regions_long m _ c.well_formed.0 in
    let rows = ap (λ (g : Region). g.length) (live_at m long c.requires.laid c.args.place (omega (arith, live_count m long c.requires.laid))) in
    rw (c.in_model.ensures, c.merge_regions.ensures, c.remove_region.ensures, c.move_starts.ensures, c.of-map.ensures)
    (ap (λ (l : List Region). laid m (joined l)) (collapse_done (live m) c.args.place _ h rows))
