use Rattle.std.proofs.Common.{◌≡◌, ◌∙◌, arith, length, rules, tests}
use Rattle.std.proofs.lemmas.Iterator.{YieldsList-from_slice, YieldsList-from_zip}
use Rattle.std.proofs.lemmas.Iterator.Search.{all_from_yields_List}
use Rattle.model.proofs.Arrays.{nodes_long}
use Rattle.sound.proofs.Totals.{total_pair, totals_paired}
use Rattle.sound.proofs.totals_ok.Goals as goal

pub returns : goal.returns
returns c =
    let ns = c.args.m.nodes in
    let of = c.in-Some.sums in
    let size = nodes_long c.args.m _ c.well_formed.0 in
    let long : length of ≡ 256 = omega arith in
    all_from_yields_List total_pair c.all.new.self _ c.all.result c.all.ensures.ran (YieldsList-from_zip (YieldsList-from_slice ns (cc)) (YieldsList-from_slice of (cc))) (λ x b q k. search (rules, tests)) ∙ totals_paired ns of size long c.in-Some.ensures
