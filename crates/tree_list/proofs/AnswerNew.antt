-- New, by its refusals; what a capture without children settles to.
use Prim.Native.Nat.{ℕ, ◌<◌, ◌≤◌, ◌%◌}
use native.Mathlib.Omega.{arith}
use mathlib.Core.Path.{◌≡◌, refl, ap}
use mathlib.Core.Bool.{Bool, true, false}
use mathlib.Core.List.{List, ◌∷◌}
use lib.Dec.{eqb, ltb}
use lib.ListN.{length, get_or, set, replicate}
use borrow.Author.Tests.{lt-ltb, le-ltb, ltb-true, eqb-true}
use Rattle.model.specs.declared.Node.{Node}
use Rattle.model.specs.declared.Model.{Model}
use Rattle.model.specs.Places.{pad}
use Rattle.model.specs.Table.{readable, item_count, item_ongoing}
use Rattle.model.specs.Nodes.{no_node}
use Rattle.model.specs.Rows.{rows, rows_of, rows_from, total_of}
use Rattle.model.specs.Regions.{runs}
use Rattle.model.specs.Settle.{totalled, settle}
use Rattle.model.specs.Answers.{just_model}
use Rattle.model.specs.New.{zeros, answer_new}
use Rattle.lists.proofs.Bools.{both}

abbrev pub root : Bool → Node
root b = record { parent = 0; index = 0; entry = 0; direct = 0; total = 0; version = 0; «open» = true; ongoing = b }

-- zeros with an open node 0
abbrev pub rooted : Bool → Model
rooted b = record { nodes = set zeros.nodes 0 (root b); regions = zeros.regions; region_count = 0; published = 0 }

-- zeros whose node 0 is a node of zeros, but open, and ongoing or not
pub rooted_by : (m : Model) (n : Node) (b : Bool) → m ≡ zeros → n ≡ no_node → ◌≡◌ {A = Model} (record { nodes = set m.nodes 0 (record { parent = n.parent; index = n.index; entry = n.entry; direct = n.direct; total = n.total; version = n.version; «open» = true; ongoing = b }); regions = m.regions; region_count = m.region_count; published = m.published }) (rooted b)
unfolding zeros
rooted_by m n b e f = λ i. record { nodes = set (e i).nodes 0 (record { parent = (f i).parent; index = (f i).index; entry = (f i).entry; direct = (f i).direct; total = (f i).total; version = (f i).version; «open» = true; ongoing = b }); regions = (e i).regions; region_count = (e i).region_count; published = (e i).published }

settle_root : (b : Bool) → settle (root b ∷ replicate 255 no_node) ≡ rooted b
unfolding settle totalled total_of rows rows_of rows_from runs pad zeros
settle_root b = refl

pub readable_five : (t : List ℕ) → readable t ≡ true → 5 ≤ length t
unfolding readable
readable_five t r = let b = both (ltb 0 (length t)) (eqb (length t % 5) 0) r in omega (arith, ltb-true 0 (length t) b.0, eqb-true (length t % 5) 0 b.1)

module _ (t : List ℕ) where
  pub new_unreadable : readable t ≡ false → answer_new t ≡ just_model 2 zeros
  unfolding answer_new
  new_unreadable r = rw r

  pub new_filled : readable t ≡ true → 0 < get_or t 2 0 → answer_new t ≡ just_model 3 zeros
  unfolding answer_new item_count
  new_filled r c = rw (r, lt-ltb 0 (get_or t 2 0) c)

  pub new_done : readable t ≡ true → get_or t 2 0 ≤ 0 → answer_new t ≡ just_model 0 (rooted (eqb (get_or t 3 0) 0))
  unfolding answer_new item_count item_ongoing
  new_done r c = rw (r, le-ltb 0 (get_or t 2 0) c) (ap (just_model 0) (settle_root (eqb (get_or t 3 0) 0)))
