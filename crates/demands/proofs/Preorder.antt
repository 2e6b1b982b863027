-- The rows of a sound model: the preorder listing of its open tree, as many as are published, and the r-th of them is what fetch answers for row r.
use mathlib.Core.Path.{◌≡◌, refl, sym, ◌∙◌}
use mathlib.Core.Bool.{Bool, true, false, cond, not, ◌&&◌}
use mathlib.Core.List.{List}
use Prim.Native.Nat.{ℕ, zero, suc, ◌+◌}
use native.Mathlib.Omega.{arith}
use lib.Dec.{eqb, leb}
use lib.ListN.{set}
use Rattle.lists.specs.Counts.{sum}
use Rattle.paths.specs.Listings.{Lists}
use Rattle.model.specs.declared.Node.{Node}
use Rattle.model.specs.declared.Model.{Model}
use Rattle.model.specs.Answers.{FetchAnswer, no_fetch, refuse_if}
use Rattle.model.specs.Table.{readable}
use Rattle.model.specs.Nodes.{node_at, direct_of, used, child, free}
use Rattle.model.specs.Rows.{Row, row_total, row_at, paths}
use Rattle.model.specs.Settle.{settle}
use Rattle.model.specs.Sound.{sound}
use Rattle.model.specs.Fetch.{fresh, node_or_fresh, shown, fetched, fetch_node, fetch_row, answer_fetch}
use Rattle.model.proofs.Search.{child_found}
use Rattle.tree.specs.Paths.{shape, open_direct}
use Rattle.tree.proofs.Listing.{lists}
use Rattle.tree.proofs.Rows.{row_total_lem}
use Rattle.steps.proofs.Settling.{sound_of, sound_given}

module _ (m : Model) (s : sound m ≡ true) where
  -- their paths are those that show, each once, a row before the rows below it and children by their index
  pub preorder : Lists (shape m.nodes) (paths m.nodes)
  preorder = lists m.nodes (sound_of m s).well

  pub as_published : row_total m.nodes ≡ m.published
  as_published = sym (sound_given m (sound_of m s)).published

  -- the capture's count and those of all other open nodes
  pub as_counted : m.published ≡ direct_of m.nodes 0 + sum (λ k. open_direct m.nodes (suc k)) 255
  as_counted = sym as_published ∙ row_total_lem m.nodes (sound_of m s).well

-- the answer shows row x: its index, and the entry of its parent
abbrev Shown : List Node → Row → FetchAnswer → Type 0
Shown ns x a = (a.row.index ≡ record { 0 = x.1 }) × (a.row.parent_entry ≡ (node_at ns x.0).entry)

module _ (t : List ℕ) (m : Model) (x : Row) where
  abbrev ns : List Node
  ns = m.nodes

  -- the node of a row stands there
  stands : (k : ℕ) → child ns x.0 x.1 ≡ k → let n = node_or_fresh t ns x k in (n.parent ≡ x.0) × (n.index ≡ x.1)
  unfolding fresh
  stands zero e = (refl, refl)
  stands (suc k) e =
      let c = child_found used ns x.0 x.1 k e in
      (c.1, c.2)

  at_node : (n : Node) → (n.parent ≡ x.0) × (n.index ≡ x.1) → (q : Model) (k : ℕ) → Shown ns x (fetched q (shown ns n k))
  unfolding shown
  at_node n e q k = (λ z. record { 0 = e.1 z }, λ z. (node_at ns (e.0 z)).entry)

  node_shown : (n : Node) (k : ℕ) → (n.parent ≡ x.0) × (n.index ≡ x.1) → (fetch_node m n k).refusal ≡ 0 → Shown ns x (fetch_node m n k)
  unfolding fetch_node
  node_shown n k e = go (eqb k 0 && n.ongoing) (eqb (free ns) 0)
    where
      j : ℕ
      j = free ns

      go : (b z : Bool) → let a = cond b (refuse_if z (no_fetch 6 m) (fetched (settle (set ns j n)) (shown ns n j))) (fetched m (shown ns n k)) in a.refusal ≡ 0 → Shown ns x a
      go true true h = absurd (omega (arith, h))
      go true false h = at_node n e (settle (set ns j n)) j
      go false z h = at_node n e m k

  row_shown : (fetch_row t m x).refusal ≡ 0 → Shown ns x (fetch_row t m x)
  row_shown = let k = child ns x.0 x.1 in node_shown (node_or_fresh t ns x k) k (stands k refl)

-- what fetch answers for row r
pub fetched_row : (t : List ℕ) (m : Model) (r : ℕ) → (answer_fetch t m r).refusal ≡ 0 → Shown m.nodes (row_at m.nodes r) (answer_fetch t m r)
unfolding answer_fetch
fetched_row t m r = go (sound m) (readable t) (leb (row_total m.nodes) r)
  where
    x : Row
    x = row_at m.nodes r

    go : (a b c : Bool) → let f = refuse_if (not a) (no_fetch 1 m) (refuse_if (not b) (no_fetch 2 m) (refuse_if c (no_fetch 4 m) (fetch_row t m x))) in f.refusal ≡ 0 → Shown m.nodes x f
    go false b c h = absurd (omega (arith, h))
    go true false c h = absurd (omega (arith, h))
    go true true true h = absurd (omega (arith, h))
    go true true false h = row_shown t m x h
