-- Sound: the nodes are well-formed, the rest is what they give, and the row total keeps its limit.
use Rattle.std.specs.Prelude.{ℕ, zero, suc, Bool, true, false, cond, not, ◌&&◌, ◌||◌, List, [], ◌∷◌, length, eqb, ltb, leb}
use Rattle.std.specs.Bool.{beq}
use Rattle.model.specs.declared.Node.{Node}
use Rattle.model.specs.declared.Region.{Region}
use Rattle.model.specs.declared.Model.{Model}
use Rattle.model.specs.Places.{node_places, row_limit, longest_chain}
use Rattle.model.specs.Nodes.{node_at, direct_of, is_open, used, child}
use Rattle.model.specs.Rows.{row_total}
use Rattle.model.specs.Settle.{settle}

-- the chain of parents from k gets to node 0 in at most f steps
unfoldable pub reaches : List Node → ℕ → ℕ → Bool
reaches ns zero k = eqb k 0
reaches ns (suc f) k = let up = reaches ns f (node_at ns k).parent in eqb k 0 || up

-- node 0: in use, open, with entry, parent, index and version 0
unfoldable pub capture_ok : Node → Bool
capture_ok n = is_open n && eqb n.entry 0 && eqb n.parent 0 && eqb n.index 0 && eqb n.version 0

-- node k, in use: an entry above 0, an open parent whose chain reaches node 0, an index below the parent's count, no twin before it, and a child at least if it is open
unfoldable pub used_ok : List Node → ℕ → Node → Bool
used_ok ns k n =
    ltb 0 n.entry &&
    is_open (node_at ns n.parent) &&
    reaches ns longest_chain k &&
    ltb n.index (direct_of ns n.parent) &&
    eqb (child ns n.parent n.index) k &&
    (not (is_open n) || ltb 0 n.direct)

-- a place that is not in use is zero
abbrev pub blank : Node → Bool
blank n =
    eqb n.parent 0 && eqb n.index 0 && eqb n.entry 0 && eqb n.direct 0 && eqb n.total 0 && eqb n.version 0

unfoldable pub node_ok : List Node → ℕ → Node → Bool
node_ok ns zero n = capture_ok n
node_ok ns (suc k) n = let fine = used_ok ns (suc k) n in cond (used n) fine (blank n)

-- all of ms, of which the first has number k
unfoldable pub nodes_ok : List Node → ℕ → List Node → Bool
nodes_ok ns k [] = true
nodes_ok ns k (m ∷ ms) = node_ok ns k m && nodes_ok ns (suc k) ms

-- equality, as a test
abbrev pub same_node : Node → Node → Bool
same_node a b =
    eqb a.parent b.parent &&
    eqb a.index b.index &&
    eqb a.entry b.entry &&
    eqb a.direct b.direct &&
    eqb a.total b.total &&
    eqb a.version b.version &&
    beq a.«open» b.«open» &&
    beq a.ongoing b.ongoing

abbrev pub same_region : Region → Region → Bool
same_region a b =
    eqb a.start b.start && eqb a.node b.node && eqb a.offset b.offset && eqb a.length b.length

unfoldable pub same_list : {A : Type 0} → (A → A → Bool) → List A → List A → Bool
same_list q [] [] = true
same_list q [] (y ∷ ys) = false
same_list q (x ∷ xs) [] = false
same_list q (x ∷ xs) (y ∷ ys) = q x y && same_list q xs ys

unfoldable pub same_model : Model → Model → Bool
same_model a b =
    same_list same_node a.nodes b.nodes &&
    same_list same_region a.regions b.regions &&
    eqb a.region_count b.region_count &&
    eqb a.published b.published

-- refusal 1 is given where this fails
unfoldable pub sound : Model → Bool
sound m =
    eqb (length m.nodes) node_places &&
    nodes_ok m.nodes 0 m.nodes &&
    same_model m (settle m.nodes) &&
    leb (row_total m.nodes) row_limit
