use Rattle.std.proofs.Common.{◌≡◌, ◌-◌, ◌∙◌, arith, rules, leb}
use Rattle.std.proofs.lemmas.List.Sorted.{IsPartitionPoint-from_clause}
use Rattle.model.specs.declared.Region.{Region}
use Rattle.model.proofs.Arrays.{regions_long}
use Rattle.runs.specs.Search.{Last}
use Rattle.runs.specs.Laid.{live}
use Rattle.runs.proofs.Laid.{live_count, live_at}
use Rattle.runs.proofs.Search.{starts_parted, cut_last, cut_none, last_hit, last_none}
use Rattle.regions.proofs.find_region.Goals as goal

pub returns-in_err-place : goal.returns-in_err-place
returns-in_err-place c =
    let gs = live c.args.m in
    let r = c.args.row.0 in
    let t = c.requires.tiled in
    let cut = IsPartitionPoint-from_clause (λ (g : Region). leb g.start r) _ _ c.partition_point-after.ensures.partitioned (starts_parted gs t r) (λ a r q k. search rules) in
    let z : c.partition_point-after.result ≡ 0 = omega (arith, c.in_err-place.ensures) in
    c.from_residual.ensures ∙ cut_none gs t r (rw z at cut)

pub overflow_sub-row : goal.overflow_sub-row
overflow_sub-row c =
    let m = c.args.m in
    let gs = live m in
    let r = c.args.row.0 in
    let t = c.requires.tiled in
    let long = regions_long m _ c.well_formed.0 in
    let count = live_count m long c.requires.laid in
    let cut = IsPartitionPoint-from_clause (λ (g : Region). leb g.start r) _ _ c.partition_point-after.ensures.partitioned (starts_parted gs t r) (λ a r q k. search rules) in
    let e : c.in_ok-place.place ≡ c.partition_point-after.result - 1 = omega (arith, c.in_ok-place.ensures) in
    let last = cut_last gs t r c.partition_point-after.result cut (omega (arith, c.in_ok-place.ensures)) c.partition_point-after.ensures.bound in
    let known = live_at m long c.requires.laid c.in_ok-place.place (omega (arith, c.in_ok-place.ensures, last.below)) in
    rw (← known, e) last.low

pub returns-then-row-g : goal.returns-then-row-g
returns-then-row-g c =
    let m = c.args.m in
    let gs = live m in
    let r = c.args.row.0 in
    let t = c.requires.tiled in
    let long = regions_long m _ c.well_formed.0 in
    let count = live_count m long c.requires.laid in
    let cut = IsPartitionPoint-from_clause (λ (g : Region). leb g.start r) _ _ c.partition_point-after.ensures.partitioned (starts_parted gs t r) (λ a r q k. search rules) in
    let e : c.in_ok-place.place ≡ c.partition_point-after.result - 1 = omega (arith, c.in_ok-place.ensures) in
    let last : Last gs r c.in_ok-place.place = rw e (cut_last gs t r c.partition_point-after.result cut (omega (arith, c.in_ok-place.ensures)) c.partition_point-after.ensures.bound) in
    let known = live_at m long c.requires.laid c.in_ok-place.place (omega (arith, last.below)) in
    last_hit gs t r c.in_ok-place.place last (rw known c.if-row-g.true)

pub returns : goal.returns
returns c =
    let m = c.args.m in
    let gs = live m in
    let r = c.args.row.0 in
    let t = c.requires.tiled in
    let long = regions_long m _ c.well_formed.0 in
    let count = live_count m long c.requires.laid in
    let cut = IsPartitionPoint-from_clause (λ (g : Region). leb g.start r) _ _ c.partition_point-after.ensures.partitioned (starts_parted gs t r) (λ a r q k. search rules) in
    let e : c.in_ok-place.place ≡ c.partition_point-after.result - 1 = omega (arith, c.in_ok-place.ensures) in
    let last : Last gs r c.in_ok-place.place = rw e (cut_last gs t r c.partition_point-after.result cut (omega (arith, c.in_ok-place.ensures)) c.partition_point-after.ensures.bound) in
    let known = live_at m long c.requires.laid c.in_ok-place.place (omega (arith, last.below)) in
    last_none gs t r c.in_ok-place.place last (rw known c.if-row-g.false)
