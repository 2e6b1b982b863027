-- Nodes closed and freed: the list stays well-formed, and a path leads where it led or nowhere. Rows and totals when a node is closed and none is left below it.
use mathlib.Core.Path.{◌≡◌, refl, sym, ◌∙◌, ap}
use mathlib.Core.Logic.{◌⊎◌, inl, inr, ◌≢◌}
use mathlib.Core.Bool.{true, false, false≢true}
use mathlib.Core.List.{List, [], ◌++◌, filter}
use Prim.Native.Nat.{ℕ, zero, suc, ◌<◌, ◌+◌}
use native.Mathlib.Omega.{arith}
use native.Mathlib.Decide.{ℕ_discrete}
use lib.ListN.{set, length-set, take, drop, length-append, get_or-append}
use lib.Seq.{get_or-set_same, get_or-set_other, length-take-le, get_or-take}
use Rattle.model.specs.declared.Node.{Node}
use Rattle.model.specs.Places.{longest_chain}
use Rattle.model.specs.Nodes.{no_node, node_at, direct_of, used, is_open}
use Rattle.model.specs.Rows.{rows, row_total, row_of, total_of, paths}
use Rattle.steps.specs.Changes.{Left, Shrunk, Pruned}
use Rattle.steps.proofs.Inserted.{total_more, total_as_before, rows_more}
use Rattle.lists.proofs.Bools.{differ, refuted}
use Rattle.lists.proofs.Filters.{filter_in}
use Rattle.paths.proofs.Changes.{close_lists, close_insert}
use Rattle.paths.proofs.Listings.{lists_unique}
use Rattle.paths.proofs.Order.{ext_trans, ext_comparable}
use Rattle.paths.specs.Listings.{At}
use Rattle.paths.specs.Order.{Path, Ext, Under, dec_ext}
use Rattle.paths.specs.Shapes.{Open, Closed}
use Rattle.tree.proofs.Find.{reach_all, find_cases, lost_used, lost_node, to_find, to_inj}
use Rattle.tree.proofs.Listing.{lists}
use Rattle.tree.proofs.Over.{over_under, under_over}
use Rattle.tree.proofs.Pairs.{reach_of, find_keep, find_old, to_keep as path-keep, rows_out}
use Rattle.tree.proofs.Rows.{total_open, at_node}
use Rattle.tree.proofs.WellFormed.{open_used}
use Rattle.tree.specs.Pairs.{Keeps}
use Rattle.tree.specs.Paths.{lost, find, shape, to, Over}
use Rattle.tree.specs.WellFormed.{Used, Opens, up, ix, Placed, WellFormed}

module _ (ns ms : List Node) (S : Shrunk ns ms) where
  pub shrunk_used : (j : ℕ) → Used ms j → Used ns j
  shrunk_used zero u = rw S.root at u
  shrunk_used (suc j) u = (S.node j u).was

  pub shrunk_open : (j : ℕ) → Opens ms j → Opens ns j
  shrunk_open zero o = rw S.root at o
  shrunk_open (suc j) o = (S.node j (open_used ms (suc j) o)).opens o

  shrunk_direct : (j : ℕ) → Used ms j → direct_of ms j ≡ direct_of ns j
  shrunk_direct zero u = ap (λ (m : Node). m.direct) S.root
  shrunk_direct (suc j) u = (S.node j u).direct

  pub shrunk_keeps : Keeps ms ns
  shrunk_keeps = record { stays = shrunk_used; same_up = ups; same_ix = ixs }
    where
      ups : (j : ℕ) → Used ms j → up ns j ≡ up ms j
      ups zero u = ap (λ (m : Node). m.parent) (sym S.root)
      ups (suc j) u = sym (S.node j u).parent

      ixs : (j : ℕ) → Used ms j → ix ns j ≡ ix ms j
      ixs zero u = ap (λ (m : Node). m.index) (sym S.root)
      ixs (suc j) u = sym (S.node j u).index

  above_up : (j : ℕ) → Used ms (suc j) → Opens ms (up ms (suc j))
  above_up j u = rw (S.node j u).parent (S.above j u)

  pub shrunk_well : WellFormed ns → WellFormed ms
  shrunk_well w = record {
    size = S.size ∙ w.size;
    root = rw S.root w.root;
    placed = placed;
    twin = λ a b u v d e.
        let l = S.node a u in
        let m = S.node b v in
        w.twin a b l.was m.was (sym l.parent ∙ d ∙ m.parent) (sym l.index ∙ e ∙ m.index);
    empty = S.empty;
  }
    where
      placed : (j : ℕ) → Used ms (suc j) → Placed ms (suc j)
      placed j u =
          let l = S.node j u in
          let s = w.placed j l.was in
          let e₁ = l.entry in
          let e₂ = l.parent in
          let e₃ = l.index in
          let e₄ = l.direct in
          let e₅ = shrunk_direct (up ns (suc j)) (open_used ms (up ns (suc j)) (S.above j u)) in
          record {
            entry = rw e₁ s.entry;
            above = above_up j u;
            reach = reach_of ms ns (λ m v. open_used ms (up ms (suc m)) (above_up m v)) shrunk_keeps longest_chain (suc j) u (reach_all ns w (suc j) l.was);
            inside = rw (e₂, e₃, e₅) s.inside;
            filled = λ o. rw e₄ (s.filled (l.opens o));
          }

  -- a path leads to the node that it led to, if that is left, or else to none
  pub find_left : WellFormed ns → (x : Path) → Used ns (find ns x) → Used ms (find ns x) → find ms x ≡ find ns x
  find_left w x u v = find_old ms ns (shrunk_well w) w shrunk_keeps x u v

  pub find_gone : WellFormed ns → (x : Path) → (Used ms (find ns x) → ⊥) → find ms x ≡ lost
  find_gone w x n = go (find_cases ms (shrunk_well w) x)
    where
      go : Used ms (find ms x) ⊎ (find ms x ≡ lost) → find ms x ≡ lost
      go (inl u) = absurd (n (rw (find_keep ms ns (shrunk_well w) w shrunk_keeps x u) u))
      go (inr e) = e

left_trans : {a b c : Node} → Left a b → Left b c → Left a c
left_trans l m = record {
  was = l.was;
  parent = m.parent ∙ l.parent;
  index = m.index ∙ l.index;
  entry = m.entry ∙ l.entry;
  direct = m.direct ∙ l.direct;
  opens = λ o. l.opens (m.opens o);
}

-- a node that is in use is what is left of itself
pub left_same : (a b : Node) → b ≡ a → used b ≡ true → Left a b
left_same a b e u = rw e (record { was = rw e at u; parent = refl; index = refl; entry = refl; direct = refl; opens = λ o. o })

pub shrunk_refl : (ns : List Node) → WellFormed ns → Shrunk ns ns
shrunk_refl ns w = record { size = refl; root = refl; node = λ j u. left_same (node_at ns (suc j)) (node_at ns (suc j)) refl u; above = λ j u. (w.placed j u).above; empty = w.empty }

pub shrunk_trans : (ns ms cs : List Node) → Shrunk ns ms → Shrunk ms cs → Shrunk ns cs
shrunk_trans ns ms cs S T = record {
  size = T.size ∙ S.size;
  root = T.root ∙ S.root;
  node = λ j u. let m = T.node j u in left_trans (S.node j m.was) m;
  above = λ j u. let e = (S.node j (T.node j u).was).parent in rw e at (T.above j u);
  empty = T.empty;
}

-- a place made empty is not in use
pub none_used : (ns : List Node) (j : ℕ) → node_at ns j ≡ no_node → Used ns j → ⊥
none_used ns j e u = false≢true (sym (ap used e) ∙ u)

-- a node that is not open is freed
pub freed_shrunk : (ns : List Node) (w : WellFormed ns) (k : ℕ) → suc k < 256 → is_open (node_at ns (suc k)) ≡ false → Shrunk ns (set ns (suc k) no_node)
freed_shrunk ns w k h c = record {
  size = length-set ns (suc k) no_node;
  root = other 0 (omega arith);
  node = λ j u. node j u (ℕ_discrete (suc j) (suc k));
  above = λ j u. above j u (ℕ_discrete (suc j) (suc k));
  empty = λ j u. empty j u (ℕ_discrete (suc j) (suc k));
}
  where
    freed : List Node
    freed = set ns (suc k) no_node

    same : node_at freed (suc k) ≡ no_node
    same = get_or-set_same ns (suc k) no_node no_node (rw w.size h)

    other : (j : ℕ) → j ≢ suc k → node_at freed j ≡ node_at ns j
    other j d = get_or-set_other ns (suc k) j no_node no_node d

    node : (j : ℕ) → Used freed (suc j) → Dec (suc j ≡ suc k) → Left (node_at ns (suc j)) (node_at freed (suc j))
    node j u (yes e) = absurd (none_used freed (suc k) same (rw e at u))
    node j u (no d) = left_same (node_at ns (suc j)) (node_at freed (suc j)) (other (suc j) d) u

    above : (j : ℕ) → Used freed (suc j) → Dec (suc j ≡ suc k) → Opens freed (up ns (suc j))
    above j u (yes e) = absurd (none_used freed (suc k) same (rw e at u))
    above j u (no d) =
        let o = (w.placed j (rw (other (suc j) d) at u)).above in
        rw (other (up ns (suc j)) (λ e. differ (rw e at o) c)) o

    empty : (j : ℕ) → used (node_at freed (suc j)) ≡ false → Dec (suc j ≡ suc k) → node_at freed (suc j) ≡ no_node
    empty j u (yes e) = rw e same
    empty j u (no d) = other (suc j) d ∙ w.empty j (rw (other (suc j) d) at u)

-- a row before a cut keeps its place
at_cut : (l : List Path) (r b : ℕ) (q : Path) → At l r q → At (take (suc r) l ++ drop b l) r q
at_cut l r b q a =
    let t = length-take-le (suc r) l a.0 in
    (omega (arith, length-append (take (suc r) l) (drop b l)), get_or-append (take (suc r) l) (drop b l) [] r (omega arith) ∙ get_or-take (suc r) l r [] (omega arith) ∙ a.1)

under_trans : (p q x : Path) → Under p q → Ext q x → Ext p x
under_trans p q x (inl e) h = rw e at h
under_trans p q x (inr g) h = ext_trans g h

module _ (ns ms : List Node) (w : WellFormed ns) (k : ℕ) (o : Opens ns (suc k)) (C : Pruned ns ms (suc k)) where
  w' : WellFormed ms
  w' = shrunk_well ns ms C.less w

  K : Keeps ms ns
  K = shrunk_keeps ns ms C.less

  u₀ : Used ns (suc k)
  u₀ = open_used ns (suc k) o

  abbrev q : Path
  q = to ns (suc k)

  abbrev r : ℕ
  r = row_of ns (suc k)

  abbrev c : ℕ
  c = total_of ns (suc k)

  else : (x : Path) → (Under q x → ⊥) → node_at ms (find ms x) ≡ node_at ns (find ns x)
  else x n = go (find_cases ns w x)
    where
      go : Used ns (find ns x) ⊎ (find ns x ≡ lost) → node_at ms (find ms x) ≡ node_at ns (find ns x)
      go (inl u) =
          let e = C.away (find ns x) (λ v z. n (rw (to_find ns w x u) at z)) in
          rw (find_left ns ms C.less w x u (rw e u)) e
      go (inr e) =
          let f = find_gone ns ms C.less w x (λ v. lost_used ms w' (rw e at v)) in
          rw (e, f) (lost_node ms w' ∙ sym (lost_node ns w))

  -- no node is left in use below it, and it is not open
  off : (j : ℕ) → Opens ms j → Under q (to ns j) → ⊥
  off j p (inl e) = differ (rw (to_inj ns w j (suc k) (shrunk_used ns ms C.less j (open_used ms j p)) u₀ e) at p) C.shut
  off j p (inr h) = C.gone j (shrunk_used ns ms C.less j (open_used ms j p)) h (open_used ms j p)

  -- the tree
  pub prune_closed : Closed (shape ns) (shape ms) q
  prune_closed = record {
    shut = λ x u. refuted (λ p. shut x p u);
    open_else = λ x n. ap is_open (else x n);
    count_else = λ x n. ap (λ (m : Node). m.direct) (else x n);
  }
    where
      shut : (x : Path) → Open (shape ms) x → Under q x → ⊥
      shut x p u =
          let v = open_used ms (find ms x) p in
          let e = find_keep ms ns w' w K x v in
          let t : to ns (find ms x) ≡ x = sym (ap (to ns) e) ∙ to_find ns w x (rw e (shrunk_used ns ms C.less (find ms x) v)) in
          off (find ms x) p (rw t u)

  pub prune_paths : paths ms ≡ take (suc r) (paths ns) ++ drop (suc r + c) (paths ns)
  prune_paths =
      lists_unique (lists ms w')
      (rw (← total_open ns w (suc k) o) at (close_lists (shape ns) (shape ms) q prune_closed (lists ns w) r (at_node ns w k u₀)))

  -- the rows: all that is below the row is gone
  pub prune_rows : rows ms ≡ take (suc r) (rows ns) ++ drop (suc r + c) (rows ns)
  prune_rows = rows_out ns ms w w' K (suc r) (suc r + c) prune_paths

  -- the listing before, from the listing after
  abbrev below : List Path
  below = filter (dec_ext q) (paths ns)

  pub prune_back : paths ns ≡ take (suc r) (paths ms) ++ below ++ drop (suc r) (paths ms)
  prune_back = close_insert (shape ns) (shape ms) q prune_closed (lists ns w) (lists ms w') r (rw prune_paths (at_cut (paths ns) r (suc r + c) q (at_node ns w k u₀)))

  pub prune_row_total : row_total ns ≡ row_total ms + c
  prune_row_total = rows_more ms ns w' w K (suc r) below prune_back ∙ ap (λ (m : ℕ). row_total ms + m) (sym (total_open ns w (suc k) o))

  same_path : (j : ℕ) → Opens ms j → to ns j ≡ to ms j
  same_path j p = path-keep ms ns w' w K j (open_used ms j p)

  -- the totals of the open nodes above
  pub prune_total_over : (j : ℕ) → Opens ms j → Over ns j (suc k) → total_of ns j ≡ total_of ms j + c
  prune_total_over j p v =
      total_more ms ns w' w K (suc r) below prune_back j p (shrunk_open ns ms C.less j p) (λ x m.
      rw (← same_path j p) (under_trans (to ns j) q x (over_under ns w j (suc k) u₀ v) (filter_in (dec_ext q) (paths ns) m).1))
      ∙ ap (λ (m : ℕ). total_of ms j + m) (sym (total_open ns w (suc k) o))

  pub prune_total_else : (j : ℕ) → Opens ms j → (Over ns j (suc k) → ⊥) → total_of ms j ≡ total_of ns j
  prune_total_else j p n =
      sym (total_as_before ms ns w' w K (suc r) below prune_back j p (shrunk_open ns ms C.less j p) (λ x m g.
      go (ext_comparable (to ns j) q x (rw (← same_path j p) at g) (filter_in (dec_ext q) (paths ns) m).1)))
    where
      go : Under (to ns j) q ⊎ Under q (to ns j) → ⊥
      go (inl u) = n (under_over ns w j (suc k) u₀ (shrunk_used ns ms C.less j (open_used ms j p)) u)
      go (inr u) = off j p u
