use Rattle.std.proofs.Common.{◌+◌, arith, ap, sym, ◌∙◌, Bool, drop}
use mathlib.Core.Bool.{◌||◌}
use Rattle.model.proofs.Arrays.{nodes_long}
use Rattle.model.specs.Nodes.{node_at}
use Rattle.sound.specs.Tests.{has_twins}
use Rattle.sound.proofs.Twins.{any_hit, any_miss, any_end, has_split, has_unused, has_end}
use Rattle.sound.proofs.has_twins.Goals as goal
use Rattle.sound.proofs.has_twins.Goals.{then-in_use+else-loop-j-test, else-in_use}

pub loop-j-init : goal.loop-j-init
loop-j-init c =
    let o = c.pairs in
    let long = nodes_long c.args.m _ c.well_formed.0 in
    (o.invariant.0, sym (has_split c.args.m.nodes o.i (omega arith)) ∙ o.invariant.1)

pub loop-j-preserved : goal.loop-j-preserved
loop-j-preserved c =
    let ns = c.args.m.nodes in
    let o = c.pairs in
    let l = c.loop-j in
    let long = nodes_long c.args.m _ c.well_formed.0 in
    let miss = any_miss ns (node_at ns o.i) l.j (omega arith) (sym c.are_twins.ensures ∙ c.if-are_twins.false) in
    (l.invariant.0, ap (λ (x : Bool). x || has_twins (drop (o.i + 1) ns)) (sym miss) ∙ l.invariant.1)

pub pairs-preserved : goal.pairs-preserved
pairs-preserved c =
    let ns = c.args.m.nodes in
    let o = c.pairs in
    let long = nodes_long c.args.m _ c.well_formed.0 in
    elim c.if-in_use.branch [
      | then-in_use+else-loop-j-test w ↦
          let l = w.loop-j in
          let end = any_end ns (node_at ns o.i) l.j (omega arith) in
          (w.found-is ∙ l.invariant.0, ap (λ (x : Bool). x || has_twins (drop (o.i + 1) ns)) (sym end) ∙ l.invariant.1)
      | else-in_use w ↦ (w.found-is ∙ o.invariant.0, sym (has_unused ns o.i (omega arith) (sym c.in_use.ensures ∙ w.if-in_use.false)) ∙ o.invariant.1)
    ]

pub returns-after-pairs : goal.returns-after-pairs
returns-after-pairs c =
    let o = c.pairs in
    let long = nodes_long c.args.m _ c.well_formed.0 in
    o.invariant.0 ∙ sym (has_end c.args.m.nodes o.i (omega arith)) ∙ o.invariant.1

pub returns-then-are_twins : goal.returns-then-are_twins
returns-then-are_twins c =
    let ns = c.args.m.nodes in
    let o = c.pairs in
    let l = c.loop-j in
    let long = nodes_long c.args.m _ c.well_formed.0 in
    let hit = any_hit ns (node_at ns o.i) l.j (omega arith) (sym c.are_twins.ensures ∙ c.if-are_twins.true) in
    ap (λ (x : Bool). x || has_twins (drop (o.i + 1) ns)) (sym hit) ∙ l.invariant.1
