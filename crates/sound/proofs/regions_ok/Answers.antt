use Rattle.std.proofs.Common.{ℕ, ◌≡◌, ◌+◌, ◌-◌, false, refl, sym, ap, ◌∙◌, arith}
use mathlib.Core.Bool.{◌&&◌}
use lib.Dec.{eqb}
use Rattle.model.specs.Nodes.{node_at}
use Rattle.model.proofs.Arrays.{nodes_long, regions_long, node_fits}
use Rattle.sound.specs.Tests.{is_next}
use Rattle.sound.proofs.Runs.{region_at, zero_from}
use Rattle.sound.proofs.Walk.{depth_less, place_index}
use Rattle.sound.proofs.Course.{Course, course_place, course_start, course_up, course_ended, course_end, course_bad, course_fits, course_in, course_along, course_stuck, next_past}
use Rattle.tree.proofs.WellFormed.{well_formed}
use Rattle.sound.proofs.regions_ok.Goals as goal
use Rattle.sound.proofs.regions_ok.Goals.{then-c-lt256+then-is_next, else-c-lt256+then-end-n, else-c-lt256-via-then-c-lt256+else-is_next, else-c-lt256-via-else-c-lt256}

pub loop-j-init : goal.loop-j-init
loop-j-init c =
    let m = c.args.m in
    let w = well_formed m.nodes (nodes_long m _ c.well_formed.0) c.requires.0 in
    let places = regions_long m _ c.well_formed.0 in
    course_start m.nodes w m.regions places m.region_count

pub returns-then-p-eq0 : goal.returns-then-p-eq0
returns-then-p-eq0 c =
    let m = c.args.m in
    let w = well_formed m.nodes (nodes_long m _ c.well_formed.0) c.requires.0 in
    let places = regions_long m _ c.well_formed.0 in
    let j = c.loop-j in
    let l = c.loop-p in
    course_ended m.nodes w m.regions places m.region_count j.j j.s l.p l.i c.if-p-eq0.true c.loop-p-test.true c.loop-j-test.true l.invariant

pub overflow_add-i : goal.overflow_add-i
overflow_add-i c =
    let m = c.args.m in
    let w = well_formed m.nodes (nodes_long m _ c.well_formed.0) c.requires.0 in
    let places = regions_long m _ c.well_formed.0 in
    let j = c.loop-j in
    let l = c.loop-p in
    omega (arith, (node_fits m _ c.well_formed.0 (node_at m.nodes l.p).parent).direct_fits, place_index m.nodes w l.p c.if-p-eq0.false (course_place m.nodes w m.regions places m.region_count j.j j.s l.p l.i l.invariant).opened)

pub loop-p-smaller : goal.loop-p-smaller
loop-p-smaller c =
    let m = c.args.m in
    let w = well_formed m.nodes (nodes_long m _ c.well_formed.0) c.requires.0 in
    let places = regions_long m _ c.well_formed.0 in
    let j = c.loop-j in
    let l = c.loop-p in
    depth_less m.nodes w l.p c.if-p-eq0.false (course_place m.nodes w m.regions places m.region_count j.j j.s l.p l.i l.invariant).opened

pub loop-p-preserved : goal.loop-p-preserved
loop-p-preserved c =
    let m = c.args.m in
    let w = well_formed m.nodes (nodes_long m _ c.well_formed.0) c.requires.0 in
    let places = regions_long m _ c.well_formed.0 in
    let j = c.loop-j in
    let l = c.loop-p in
    course_up m.nodes w m.regions places m.region_count j.j j.s l.p l.i c.if-p-eq0.false c.loop-p-test.true l.invariant

pub returns-then-not-begins_at : goal.returns-then-not-begins_at
returns-then-not-begins_at c =
    let m = c.args.m in
    let w = well_formed m.nodes (nodes_long m _ c.well_formed.0) c.requires.0 in
    let places = regions_long m _ c.well_formed.0 in
    let j = c.loop-j in
    let l = c.loop-p in
    course_bad m.nodes w m.regions places m.region_count j.j j.s l.p l.i (omega arith) c.loop-p-test.false (sym c.begins_at.ensures ∙ c.if-not-begins_at.true) l.invariant

pub overflow_add-s : goal.overflow_add-s
overflow_add-s c =
    let m = c.args.m in
    let w = well_formed m.nodes (nodes_long m _ c.well_formed.0) c.requires.0 in
    let places = regions_long m _ c.well_formed.0 in
    let j = c.loop-j in
    let l = c.loop-p in
    let b = sym c.begins_at.ensures ∙ c.if-not-begins_at.false in
    omega (arith, course_fits m.nodes w m.regions places m.region_count j.j j.s l.p l.i (omega arith) c.loop-p-test.false b l.invariant, c.requires.1, (node_fits m _ c.well_formed.0 0).total_fits)

pub returns-else-end-n : goal.returns-else-end-n
returns-else-end-n c =
    let m = c.args.m in
    let w = well_formed m.nodes (nodes_long m _ c.well_formed.0) c.requires.0 in
    let places = regions_long m _ c.well_formed.0 in
    let j = c.loop-j in
    let l = c.loop-p in
    let b = sym c.begins_at.ensures ∙ c.if-not-begins_at.false in
    let d = (region_at m.regions (j.j + 1)).node in
    let y = l.i + (region_at m.regions j.j).length - 1 in
    let none : is_next (node_at m.nodes d) d l.p y ≡ false = elim c.else-c-lt256.branch [
      | else-c-lt256-via-then-c-lt256+else-is_next v ↦ sym v.is_next.ensures ∙ v.if-is_next.false
      | else-c-lt256-via-else-c-lt256 v ↦ next_past m.nodes w m.regions places m.region_count d l.p y (omega (arith, nodes_long m _ c.well_formed.0))
    ] in
    course_stuck m.nodes w m.regions places m.region_count j.j j.s l.p l.i (omega arith) c.loop-p-test.false b none (λ e. c.if-end-n.false e) l.invariant

pub loop-j-preserved : goal.loop-j-preserved
loop-j-preserved c =
    let m = c.args.m in
    let w = well_formed m.nodes (nodes_long m _ c.well_formed.0) c.requires.0 in
    let places = regions_long m _ c.well_formed.0 in
    let j = c.loop-j in
    let l = c.loop-p in
    let b = sym c.begins_at.ensures ∙ c.if-not-begins_at.false in
    elim c.if-c-lt256.branch [
      | then-c-lt256+then-is_next v ↦ rw (v.p-is, v.i-is) (course_in m.nodes w m.regions places m.region_count j.j j.s l.p l.i (omega arith) c.loop-p-test.false b (region_at m.regions (j.j + 1)).node (sym v.is_next.ensures ∙ v.if-is_next.true) l.invariant)
      | else-c-lt256+then-end-n v ↦
          let d = (region_at m.regions (j.j + 1)).node in
          let y = l.i + (region_at m.regions j.j).length - 1 in
          let none : is_next (node_at m.nodes d) d l.p y ≡ false = elim v.else-c-lt256.branch [
            | else-c-lt256-via-then-c-lt256+else-is_next v ↦ sym v.is_next.ensures ∙ v.if-is_next.false
            | else-c-lt256-via-else-c-lt256 v ↦ next_past m.nodes w m.regions places m.region_count d l.p y (omega (arith, nodes_long m _ c.well_formed.0))
          ] in
          rw (v.p-is, v.i-is) (course_along m.nodes w m.regions places m.region_count j.j j.s l.p l.i (omega arith) c.loop-p-test.false b none v.if-end-n.true l.invariant)
    ]

pub returns : goal.returns
returns c =
    let m = c.args.m in
    let w = well_formed m.nodes (nodes_long m _ c.well_formed.0) c.requires.0 in
    let places = regions_long m _ c.well_formed.0 in
    let l = c.loop-j in
    let e : l.j ≡ m.region_count = omega arith in
    let a : Course m.nodes m.regions m.region_count m.region_count l.s l.p l.i = rw e at l.invariant in
    c.ends_at.ensures ∙ ap (λ (n : ℕ). eqb l.s n && zero_from m.regions m.region_count) c.requires.1 ∙ course_end m.nodes w m.regions places m.region_count m.region_count l.s l.p l.i refl a
