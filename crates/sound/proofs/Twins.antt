-- The search for twins, pair by pair.
use Prim.Native.Nat.{ℕ, ◌+◌, ◌<◌, ◌≤◌}
use native.Mathlib.Numerals.{add-one}
use mathlib.Core.Path.{◌≡◌, refl, ap, ◌∙◌}
use mathlib.Core.Bool.{Bool, true, false, ◌||◌}
use mathlib.Core.List.{List, [], ◌∷◌}
use lib.ListN.{length, drop, drop_of_length-le}
use lib.Seq.{drop-cons}
use Rattle.model.specs.declared.Node.{Node}
use Rattle.model.specs.Nodes.{no_node, node_at, used}
use Rattle.sound.specs.Tests.{is_twin, any_twin, has_twins}

module _ (ns : List Node) (a : Node) (j : ℕ) where
  pub any_hit : j < length ns → is_twin a (node_at ns j) ≡ true → any_twin a (drop j ns) ≡ true
  unfolding any_twin
  any_hit lt t = rw (drop-cons ns j no_node lt, t)

  pub any_miss : j < length ns → is_twin a (node_at ns j) ≡ false → any_twin a (drop j ns) ≡ any_twin a (drop (j + 1) ns)
  unfolding any_twin
  any_miss lt t = rw (add-one, drop-cons ns j no_node lt, t)

  pub any_end : length ns ≤ j → any_twin a (drop j ns) ≡ false
  unfolding any_twin
  any_end le = rw (drop_of_length-le ns le)

-- a node that is not in use has no twin
any_unused : (a : Node) (bs : List Node) → used a ≡ false → any_twin a bs ≡ false
unfolding any_twin
any_unused a [] u = refl
any_unused a (b ∷ bs) u = rw u (any_unused a bs u)

module _ (ns : List Node) (i : ℕ) where
  pub has_split : i < length ns → has_twins (drop i ns) ≡ (any_twin (node_at ns i) (drop (i + 1) ns) || has_twins (drop (i + 1) ns))
  unfolding has_twins
  has_split lt = rw (add-one, drop-cons ns i no_node lt)

  pub has_unused : i < length ns → used (node_at ns i) ≡ false → has_twins (drop i ns) ≡ has_twins (drop (i + 1) ns)
  has_unused lt u = has_split lt ∙ ap (λ (b : Bool). b || has_twins (drop (i + 1) ns)) (any_unused (node_at ns i) (drop (i + 1) ns) u)

  pub has_end : length ns ≤ i → has_twins (drop i ns) ≡ false
  unfolding has_twins
  has_end le = rw (drop_of_length-le ns le)
