-- What `nodes::first_node` finds: the chain's `position`, and that by the model's search.
use Rattle.std.proofs.Common.{rules, ◌≡◌, ◌+◌, ◌∙◌, drop, refl}
use Rattle.std.specs.List.{position}
use Rattle.std.specs.Option.{option_map}
use Rattle.std.proofs.lemmas.Fn.{says_at, serves_by}
use Rattle.std.proofs.lemmas.List.{take_rest}
use Rattle.std.proofs.lemmas.Iterator.{YieldsList-from_slice}
use Rattle.std.proofs.lemmas.Iterator.Search.{position_from_yields_List}
use Rattle.nodes.proofs.Position.{position-seek}
use Rattle.nodes.proofs.first_node.Goals as goal

-- a call leaves the test as it was
pub position-requires-clause-callable : goal.position-requires-clause-callable
position-requires-clause-callable g c =
    serves_by _ (λ xs f. f ≡ c.args.test) (λ xs f x f' e k. g.met.F.Fn.1.step_stays _ _ _ _ k ∙ e) _ _ _ _ refl (λ xs t f x u y s e. rw e (c.requires.at _))

pub returns : goal.returns
returns g c = λ q tests.
    let ns = c.args.m.nodes in
    let rest = c.iter.ensures.rest ∙ take_rest ns 1 in
    let p : c.position.result ≡ position q (drop 1 ns) =
    position_from_yields_List q _ _ _ c.position.ensures.ran (YieldsList-from_slice (drop 1 ns) rest)
    (λ x b f k. (g.met.F.Fn.1.step_stays _ _ _ _ k, tests _ _ (says_at g.F.Fn ((g.met.F.FnMut.1.post_iff _ _ _).1 (f, k)) refl))) in
    let e : c.map.result ≡ option_map (λ x. x + 1) c.position.result = search rules in
    e ∙ rw p (position-seek q ns)
