use Rattle.std.proofs.Common.{◌∙◌, rules, tests}
use Rattle.std.proofs.lemmas.Iterator.{YieldsList-from_slice}
use Rattle.std.proofs.lemmas.Iterator.Consumers.{YieldsList-from_enumerate}
use Rattle.std.proofs.lemmas.Iterator.Search.{all_from_yields_List}
use Rattle.model.proofs.Arrays.{nodes_long}
use Rattle.sound.proofs.Places.{place_numbered, places_numbered}
use Rattle.sound.proofs.places_ok.Goals as goal

pub returns : goal.returns
returns c =
    let ns = c.args.m.nodes in
    all_from_yields_List (place_numbered ns) _ _ c.all.result c.all.ensures.ran (YieldsList-from_enumerate (YieldsList-from_slice ns (cc)) (cc)) (λ x b q k. search (rules, tests)) ∙ places_numbered ns (nodes_long c.args.m _ c.well_formed.0)
