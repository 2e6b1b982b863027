-- The children of a node freed, one place of the array after another.
use Prim.Native.Nat.{ℕ, suc, ◌+◌, ◌<◌}
use native.Mathlib.Omega.{arith}
use native.Mathlib.Numerals.{add-one}
use mathlib.Core.Path.{◌≡◌, refl, sym, ap, ap₂, ◌∙◌}
use mathlib.Core.Logic.{◌≢◌}
use mathlib.Core.Bool.{true, false, cond}
use mathlib.Core.List.{List, [], ◌∷◌, ◌++◌, append_assoc, append-nil}
use lib.ListN.{length, set, take, drop}
use lib.Seq.{take-suc, drop-cons, take-length, drop-length, get_or_at, set_at, length-take-le}
use lib.Dec.{eqb}
use borrow.Author.Tests.{eq-eqb, ne_eqb}
use Rattle.model.specs.declared.Node.{Node}
use Rattle.model.specs.Nodes.{no_node, node_at, with_open, or_none}
use Rattle.model.specs.Close.{free_below}
use Rattle.steps.proofs.Closing.{length_free}

-- what a closing leaves of a node that may be a child
abbrev pub unless_child : ℕ → Node → Node
unless_child p n = cond (eqb n.parent p) no_node n

-- the nodes of which the first k are done
abbrev pub freed_to : ℕ → List Node → ℕ → List Node
freed_to p ns k = free_below p (take k ns) ++ drop k ns

free_append : (p : ℕ) (xs ys : List Node) → free_below p (xs ++ ys) ≡ free_below p xs ++ free_below p ys
unfolding free_below
free_append p [] ys = refl
free_append p (x ∷ xs) ys = ap {B = List Node} (λ l. unless_child p x ∷ l) (free_append p xs ys)

pub freed_none : (p : ℕ) (ns : List Node) → ns ≡ freed_to p ns 0
unfolding free_below
freed_none p ns = refl

pub freed_all : (p : ℕ) (ns : List Node) (k : ℕ) → length ns ≡ k → freed_to p ns k ≡ free_below p ns
freed_all p ns k e = rw (← e) (ap₂ (λ (a b : List Node). free_below p a ++ b) (take-length ns) (drop-length ns) ∙ append-nil (free_below p ns))

module _ (p : ℕ) (ns : List Node) (k : ℕ) (h : k < length ns) where
  front_length : length (free_below p (take k ns)) ≡ k
  front_length = length_free p (take k ns) ∙ length-take-le k ns (omega arith)

  freed_here : freed_to p ns k ≡ free_below p (take k ns) ++ (node_at ns k ∷ drop (suc k) ns)
  freed_here = ap (λ (l : List Node). free_below p (take k ns) ++ l) (drop-cons ns k no_node h)

  freed_at : node_at (freed_to p ns k) k ≡ node_at ns k
  freed_at = ap (λ (l : List Node). node_at l k) freed_here ∙ get_or_at (free_below p (take k ns)) (node_at ns k) (drop (suc k) ns) no_node k front_length

  freed_next : set (freed_to p ns k) k (unless_child p (node_at ns k)) ≡ freed_to p ns (k + 1)
  unfolding free_below
  freed_next =
      ap (λ (l : List Node). set l k (unless_child p (node_at ns k))) freed_here
      ∙ set_at (free_below p (take k ns)) (node_at ns k) (drop (suc k) ns) (unless_child p (node_at ns k)) k front_length
      ∙ sym (append_assoc (free_below p (take k ns)) (unless_child p (node_at ns k) ∷ []) (drop (suc k) ns))
      ∙ sym (ap (λ (l : List Node). l ++ drop (suc k) ns) (ap (free_below p) (take-suc ns k no_node h) ∙ free_append p (take k ns) (node_at ns k ∷ [])))
      ∙ ap (freed_to p ns) (sym (add-one k))

-- one turn of the loop
pub free_turn : (p : ℕ) (ns xs : List Node) (k : ℕ) (x : Node) → k < length ns → xs ≡ freed_to p ns k → x ≡ unless_child p (node_at xs k) → set xs k x ≡ freed_to p ns (k + 1)
free_turn p ns xs k x h e f =
    let g : x ≡ unless_child p (node_at ns k) = f ∙ ap (λ (l : List Node). unless_child p (node_at l k)) e ∙ ap (unless_child p) (freed_at p ns k h) in
    rw (e, g) (freed_next p ns k h)

-- what a closing leaves of the node and of one that may be a child, where the tests of ongoing and of the parent are answered
pub shut_ongoing : (n : Node) → n.ongoing ≡ true → with_open false n ≡ or_none (with_open false n)
shut_ongoing n e = rw e

pub shut_complete : (n x : Node) → n.ongoing ≡ false → x ≡ no_node → x ≡ or_none (with_open false n)
shut_complete n x e f = f ∙ rw e

pub child_freed : (n x : Node) (p : ℕ) → n.parent ≡ p → x ≡ no_node → x ≡ unless_child p n
child_freed n x p e f = f ∙ rw (eq-eqb n.parent p e)

pub other_kept : (n : Node) (p : ℕ) → n.parent ≢ p → n ≡ unless_child p n
other_kept n p e = rw (ne_eqb n.parent p e)
