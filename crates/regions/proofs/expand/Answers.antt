use Rattle.std.proofs.Common.{arith, ap, sym, ◌∙◌, ◌+◌}
use Rattle.model.specs.declared.Region.{Region}
use Rattle.model.specs.declared.ChildIndex.{ChildIndex}
use Rattle.model.proofs.Arrays.{regions_long}
use Rattle.runs.specs.Edits.{map_from}
use Rattle.runs.specs.Search.{child_at}
use Rattle.runs.specs.Changes.{moved}
use Rattle.runs.specs.Laid.{live, laid}
use Rattle.runs.proofs.Laid.{live_count, live_at}
use Rattle.runs.proofs.Search.{end_le}
use Rattle.regions.proofs.Steps.{later_asks, open_length, open_cut, open_small, expand_done}
use Rattle.regions.proofs.expand.Goals as goal

pub child_at-last-requires : goal.child_at-last-requires
child_at-last-requires c =
    let m = c.args.m in
    let h = c.requires.holds in
    let long = regions_long m _ c.well_formed.0 in
    let known = live_at m long c.requires.laid c.args.place (omega (arith, h.below, live_count m long c.requires.laid)) in
    (rw known at h.low, rw known at h.high, rw known at c.requires.m_len_bound.2)

pub move_starts-requires : goal.move_starts-requires
move_starts-requires c =
    rw c.of-map.ensures
    (omega (arith, c.requires.holds.below), λ k le lt. later_asks (live c.args.m) c.requires.tiled c.args.count c.requires.m_len_bound.1 k lt)

pub overflow_add-new : goal.overflow_add-new
overflow_add-new c =
    let m = c.args.m in
    record { fits = omega (arith, c.requires.holds.high, c.requires.m_len_bound.1, end_le 0 (live m) c.requires.tiled c.args.place c.requires.holds.below) }

pub split_parent-requires : goal.split_parent-requires
split_parent-requires c =
    let m = c.args.m in
    let gs = live m in
    let h = c.requires.holds in
    let room = c.requires.m_len_bound in
    let long = regions_long m _ c.well_formed.0 in
    let known = live_at m long c.requires.laid c.args.place (omega (arith, h.below, live_count m long c.requires.laid)) in
    let el = ap (λ (x : ChildIndex). x.0) c.child_at-last.ensures ∙ ap (λ (g : Region). child_at g c.args.row.0) (sym known) in
    let ea = c.move_starts.ensures ∙ ap (map_from (moved c.args.count 0) (c.args.place + 1)) c.of-map.ensures in
    let more = open_length gs c.args.place c.args.row.0 c.args.node c.args.count _ h el _ ea in
    record {
      place_in_bounds = (omega (arith, h.below, more), omega (arith, room.0, more));
      place_bound = open_cut gs c.args.place c.args.row.0 c.args.node c.args.count _ h el _ ea;
      place_bound_2 = (open_small gs c.args.place c.args.row.0 c.args.node c.args.count _ h el _ ea room.2, omega (arith, h.high, room.1, end_le 0 gs c.requires.tiled c.args.place h.below));
    }

pub returns : goal.returns
returns c =
    let m = c.args.m in
    let gs = live m in
    let h = c.requires.holds in
    let long = regions_long m _ c.well_formed.0 in
    let known = live_at m long c.requires.laid c.args.place (omega (arith, h.below, live_count m long c.requires.laid)) in
    let el = ap (λ (x : ChildIndex). x.0) c.child_at-last.ensures ∙ ap (λ (g : Region). child_at g c.args.row.0) (sym known) in
    let ea = c.move_starts.ensures ∙ ap (map_from (moved c.args.count 0) (c.args.place + 1)) c.of-map.ensures in
    c.in_model.ensures ∙ ap (laid m) (c.split_parent.ensures ∙ expand_done gs c.args.place c.args.row.0 c.args.node c.args.count _ h el _ ea)
