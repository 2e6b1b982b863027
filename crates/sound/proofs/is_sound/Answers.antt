use Rattle.std.proofs.Common.{◌≡◌, true, false, ◌^◌, drop, arith}
use Rattle.model.proofs.Arrays.{nodes_long, node_fits}
use Rattle.sound.specs.Tests.{has_twins, places_ok, totals_ok}
use Rattle.sound.proofs.Whole.{formed, all_rows, parts_sound}
use Rattle.sound.proofs.is_sound.Goals as goal
use Rattle.sound.proofs.is_sound.Goals.{then-not-has_twins, else-not-has_twins, then-places_ok, else-places_ok, then-totals_ok, else-totals_ok}

pub regions_ok-requires : goal.regions_ok-requires
regions_ok-requires c =
    let m = c.args.m in
    let size = nodes_long m _ c.well_formed.0 in
    let totals : totals_ok m.nodes ≡ true = grind arith in
    let none : has_twins (drop 1 m.nodes) ≡ false = grind arith in
    let places : places_ok m.nodes ≡ true = grind arith in
    let t = formed m size none places totals (2 ^ 64) (λ k. (node_fits m _ c.well_formed.0 k).total_fits) in
    (t, all_rows m size t totals, grind arith)

pub returns-then-m : goal.returns-then-m
returns-then-m c =
    let m = c.args.m in
    let size = nodes_long m _ c.well_formed.0 in
    let p = parts_sound m size (2 ^ 64) (λ k. (node_fits m _ c.well_formed.0 k).total_fits) in grind arith

pub returns-else-m : goal.returns-else-m
returns-else-m c =
    let m = c.args.m in
    let size = nodes_long m _ c.well_formed.0 in
    let p = parts_sound m size (2 ^ 64) (λ k. (node_fits m _ c.well_formed.0 k).total_fits) in grind arith
