use Rattle.std.proofs.Common.{◌-◌, ◌∙◌, drop, length, rules, tests, take}
use Rattle.std.proofs.lemmas.Iterator.{YieldsList-from_slice}
use Rattle.std.proofs.lemmas.Iterator.Search.{all_from_yields_List}
use borrow.Author.Tests.{eq-eqb}
use Rattle.model.specs.Nodes.{node_at}
use Rattle.model.proofs.Arrays.{regions_long}
use Rattle.nodes.proofs.Tests.{keep}
use Rattle.sound.proofs.Runs.{is_no_region, zero_all}
use Rattle.sound.proofs.ends_at.Goals as goal

pub returns-then-s-m : goal.returns-then-s-m
returns-then-s-m c =
    let gs = c.args.m.regions in
    let j = c.args.j in
    let size = regions_long c.args.m _ c.well_formed.0 in
    keep _ _ _ (eq-eqb c.args.s (node_at c.args.m.nodes 0).total c.if-s-m.true)
    (all_from_yields_List is_no_region c.all.new.self _ c.all.result c.all.ensures.ran (YieldsList-from_slice (take (length gs - j) (drop j gs)) (cc)) (λ x b q k. search (rules, tests)) ∙ zero_all gs j size)
