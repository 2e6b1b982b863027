-- The chain is well-formed, by computation, and what is made node by node is it.
use Prim.Native.Nat.{ℕ, zero, suc, ◌+◌, ◌<◌}
use native.Mathlib.Omega.{arith}
use native.Mathlib.Nat.{zero-add}
use mathlib.Core.Path.{◌≡◌, refl, sym, ap, ◌∙◌}
use mathlib.Core.Bool.{true}
use mathlib.Core.List.{List}
use lib.ListN.{length}
use lib.Seq.{ext_get_or}
use Rattle.model.specs.declared.Node.{Node}
use Rattle.model.specs.Nodes.{no_node, node_at, is_open, seek_from, seek, child_by}
use Rattle.model.specs.Sound.{nodes_ok, node_ok, used_ok, capture_ok, reaches}
use Rattle.order_cases.specs.Chain.{chain_node, chain_from, chain_nodes}
use Rattle.tree.proofs.WellFormed.{well_formed}
use Rattle.tree.specs.WellFormed.{WellFormed, Opens}

from_at : (j n i : ℕ) → i < n → node_at (chain_from j n) i ≡ chain_node (j + i)
unfolding chain_from
from_at j zero i h = absurd (omega arith)
from_at j (suc n) zero h = let e : j + 0 ≡ j = omega arith in rw e
from_at j (suc n) (suc i) h = let e : j + suc i ≡ suc j + i = omega arith in rw e (from_at (suc j) n i (omega arith))

from_long : (j n : ℕ) → length (chain_from j n) ≡ n
unfolding chain_from
from_long j zero = refl
from_long j (suc n) = ap suc (from_long (suc j) n)

chain_at : (i : ℕ) → i < 256 → node_at chain_nodes i ≡ chain_node i
unfolding chain_nodes
chain_at i h = rw zero-add at (from_at 0 256 i h)

chain_long : length chain_nodes ≡ 256
unfolding chain_nodes
chain_long = from_long 0 256

chain_tested : nodes_ok chain_nodes 0 chain_nodes ≡ true
unfolding chain_nodes chain_from nodes_ok node_ok used_ok capture_ok reaches seek seek_from child_by
chain_tested = refl

pub chain_well : (ns : List Node) → ns ≡ chain_nodes → WellFormed ns
chain_well ns e = rw e (well_formed chain_nodes chain_long chain_tested)

pub chain_open : (ns : List Node) → ns ≡ chain_nodes → Opens ns 1
chain_open ns e = rw e (ap is_open (chain_at 1 (omega arith)))

pub all_made : (ns : List Node) → length ns ≡ 256 → ((i : ℕ) → i < 256 → node_at ns i ≡ chain_node i) → ns ≡ chain_nodes
all_made ns long at = ext_get_or no_node ns chain_nodes (long ∙ sym chain_long) (λ i l. at i (omega arith) ∙ sym (chain_at i (omega arith)))
