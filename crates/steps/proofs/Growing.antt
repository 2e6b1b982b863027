-- Growing an open node: the tree, the rows and the totals after it.
use mathlib.Core.Path.{◌≡◌, refl, sym, ◌∙◌, ap}
use mathlib.Core.Logic.{◌≢◌}
use mathlib.Core.Bool.{Bool, false}
use mathlib.Core.List.Memᴰ.{append_right as on-right}
use mathlib.Core.List.Memᴰ.{map as in_map}
use mathlib.Core.List.{List, ◌++◌, Memᴰ as In}
use Prim.Native.Nat.{ℕ, ◌+◌, ◌≤◌}
use native.Mathlib.Decide.{ℕ_discrete}
use lib.ListN.{set, take, drop, take-append-drop}
use Rattle.model.specs.declared.Node.{Node}
use Rattle.model.specs.Nodes.{node_at, direct_of, is_open, with_direct, with_ongoing}
use Rattle.model.specs.Rows.{Row, rows, row_total, total_of, path, paths}
use Rattle.model.specs.Update.{end_of}
use Rattle.steps.specs.Changes.{Put}
use Rattle.steps.proofs.Put.{put_own, put_other, direct_new, direct_old, put_keeps, put_open, put_well, put_find, put_to_old, put_else}
use Rattle.steps.proofs.Inserted.{total_more, total_as_before, rows_more}
use Rattle.lists.proofs.Bools.{differ}
use Rattle.lists.proofs.Edits.{map_drop}
use Rattle.lists.specs.Counts.{number}
use Rattle.paths.proofs.Changes.{grow_lists}
use Rattle.paths.proofs.Listings.{lists_unique}
use Rattle.paths.proofs.Order.{under_child, ext_parent, child_lt}
use Rattle.paths.proofs.Sorted.{cut_high, child_paths_in, child_paths_length}
use Rattle.paths.specs.Listings.{lower, child_paths}
use Rattle.paths.specs.Order.{Path, ◌·◌, dec_eq}
use Rattle.paths.specs.Shapes.{Grown}
use Rattle.tree.proofs.Find.{find_to, rooted}
use Rattle.tree.proofs.Listing.{path_is, lists, shows_row, open_at_lem}
use Rattle.tree.proofs.Over.{over_under, under_over}
use Rattle.tree.proofs.Pairs.{rows_in}
use Rattle.tree.proofs.Rows.{total_shut, end_of_lem}
use Rattle.tree.proofs.WellFormed.{open_used}
use Rattle.tree.specs.Paths.{find, shape, to, Over}
use Rattle.runs.specs.Regions.{stretch}
use Rattle.tree.specs.WellFormed.{Used, Opens, WellFormed}

-- the row after the last one below an open node
module _ (ns : List Node) (w : WellFormed ns) (k : ℕ) (o : Opens ns k) where
  abbrev next : Path
  next = to ns k · direct_of ns k

  -- from there on the node is the parent of no row
  pub after_end : (r : Row) → In r (drop (end_of ns k) (rows ns)) → r.0 ≢ k
  unfolding paths
  after_end r m e =
      let s = shows_row ns w r (rw take-append-drop at (on-right (take (end_of ns k) (rows ns)) m)) in
      let x : In (path ns r) (drop (number (lower next) (paths ns)) (paths ns)) = rw (← end_of_lem ns w k o, ← map_drop (path ns) (end_of ns k) (rows ns)) (in_map (path ns) m) in
      cut_high next (lists ns w).sorted (path ns r) x (rw (path_is ns r.0 r.1, e) (child_lt (to ns k) (rw e at s.1)))

-- node k, open, is put anew with c more children
module _ (ns : List Node) (w : WellFormed ns) (k : ℕ) (n : Node) (P : Put ns k n) (o : Opens ns k) (c : ℕ) (d : n.direct ≡ direct_of ns k + c) where
  abbrev after : List Node
  after = set ns k n

  w' : WellFormed after
  w' = put_well ns w k n P

  u₀ : Used ns k
  u₀ = open_used ns k o

  now : Opens after k
  now = (put_open ns w k n P k o).0

  find_own : find after (to ns k) ≡ k
  find_own = rw (put_to_old ns w k n P u₀) at (put_find ns w k n P)

  else : (x : Path) → x ≢ to ns k → node_at after (find after x) ≡ node_at ns (find ns x)
  else x f = put_else ns w k n P x (λ e. f (e ∙ put_to_old ns w k n P u₀))

  -- the tree
  pub grown : Grown (shape ns) (shape after) (to ns k) c
  grown = record {
    many = rw (find_own, find_to ns w k u₀) (direct_new ns w k n P ∙ d);
    open_same = λ x. opens x (dec_eq x (to ns k));
    count_else = λ x f. ap (λ (m : Node). m.direct) (else x f);
  }
    where
      opens : (x : Path) → Dec (x ≡ to ns k) → (shape after).is_open x ≡ (shape ns).is_open x
      opens x (yes e) = rw (e, find_own, find_to ns w k u₀) (now ∙ sym o)
      opens x (no f) = ap is_open (else x f)

  abbrev news : List Path
  news = child_paths (to ns k) (direct_of ns k) c

  pub grow_paths : paths after ≡ take (end_of ns k) (paths ns) ++ news ++ drop (end_of ns k) (paths ns)
  grow_paths =
      lists_unique (lists after w')
      (rw (find_to ns w k u₀, ← end_of_lem ns w k o) at (grow_lists (shape ns) (shape after) (rooted ns w) (lists ns w) (to ns k) c grown (open_at_lem ns w k o)))

  -- the rows: the new children come after the node's last row
  pub grow_rows : rows after ≡ take (end_of ns k) (rows ns) ++ stretch k (direct_of ns k) c ++ drop (end_of ns k) (rows ns)
  grow_rows = rw find_own at (rows_in ns after w w' (put_keeps ns w k n P) (end_of ns k) (to ns k) (direct_of ns k) c grow_paths)

  pub grow_row_total : row_total after ≡ row_total ns + c
  grow_row_total = rows_more ns after w w' (put_keeps ns w k n P) (end_of ns k) news grow_paths ∙ ap (λ (m : ℕ). row_total ns + m) (child_paths_length (to ns k) (direct_of ns k) c)

  -- the totals of the nodes from it up
  pub grow_total_over : (j : ℕ) → Opens ns j → Over ns j k → total_of after j ≡ total_of ns j + c
  grow_total_over j q v =
      total_more ns after w w' (put_keeps ns w k n P) (end_of ns k) news grow_paths j q (put_open ns w k n P j q).0 (λ x m.
      let s = child_paths_in (to ns k) (direct_of ns k) c m in rw s.2 (under_child (to ns j) (to ns k) (direct_of ns k + s.0) (over_under ns w j k u₀ v)))
      ∙ ap (λ (m : ℕ). total_of ns j + m) (child_paths_length (to ns k) (direct_of ns k) c)

  pub grow_total_else : (j : ℕ) → Opens ns j → (Over ns j k → ⊥) → total_of after j ≡ total_of ns j
  grow_total_else j q v =
      total_as_before ns after w w' (put_keeps ns w k n P) (end_of ns k) news grow_paths j q (put_open ns w k n P j q).0 (λ x m g.
      let s = child_paths_in (to ns k) (direct_of ns k) c m in v (under_over ns w j k u₀ (open_used ns j q) (ext_parent (to ns j) (to ns k) (direct_of ns k + s.0) (rw s.2 at g))))

  -- and of every node that is not open, its count
  pub grow_total_shut : (j : ℕ) → is_open (node_at ns j) ≡ false → total_of after j ≡ total_of ns j
  grow_total_shut j q = go (ℕ_discrete j k)
    where
      go : Dec (j ≡ k) → total_of after j ≡ total_of ns j
      go (yes e) = absurd (differ (rw e o) q)
      go (no f) =
          total_shut after w' j (rw (put_other ns w k n P j f) q)
          ∙ direct_old ns w k n P j f
          ∙ sym (total_shut ns w j q)

-- an open node may be put anew with another count that is no lower, ongoing or not
pub grown_put : (ns : List Node) (w : WellFormed ns) (k c : ℕ) (b : Bool) → Opens ns k → direct_of ns k ≤ c → Put ns k (with_direct c (with_ongoing b (node_at ns k)))
grown_put ns w k c b o h =
    put_own ns w k (with_direct c (with_ongoing b (node_at ns k))) (open_used ns k o)
    (record { live = rw o; parent = refl; index = refl; entry = refl; version = λ z. refl; keeps = λ q. (q, h); filled = λ z q. absurd (differ q z) })
