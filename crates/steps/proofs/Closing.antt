-- Closing one node of which no child is open: the nodes, the rows and the totals after it.
use mathlib.Core.Path.{◌≡◌, refl, sym, ◌∙◌, ap}
use mathlib.Core.Logic.{◌⊎◌, inl, inr, ◌≢◌}
use mathlib.Core.Bool.{Bool, true, false, cond}
use mathlib.Core.List.{List, [], ◌∷◌, ◌++◌, Memᴰ as In, filter}
use Prim.Native.Nat.{ℕ, zero, suc, ◌+◌}
use native.Mathlib.Omega.{arith}
use native.Mathlib.Nat.{zero-add}
use native.Mathlib.Decide.{ℕ_discrete}
use lib.ListN.{length, take, drop, length-set}
use lib.Seq.{get_or-set_same, get_or-set_other, length-take-le, take_at, drop_at}
use lib.Dec.{eqb}
use borrow.Author.Tests.{eq-eqb, ne_eqb}
use Rattle.model.specs.declared.Node.{Node}
use Rattle.model.specs.Nodes.{no_node, node_at, direct_of, used, is_open, open_child, with_open, or_none}
use Rattle.model.specs.Rows.{rows, row_total, row_of, total_of, paths}
use Rattle.model.specs.Logs.{State}
use Rattle.model.specs.Close.{free_below, close_one}
use Rattle.steps.specs.Changes.{Left, Shrunk, Pruned, closed_at}
use Rattle.steps.proofs.Shrunk.{left_same, shrunk_keeps, shrunk_well, none_used, prune_paths, prune_rows, prune_back, prune_row_total, prune_total_over, prune_total_else}
use Rattle.lists.proofs.Bools.{bool, differ}
use Rattle.lists.proofs.Filters.{filter_in, filter_has}
use Rattle.paths.proofs.Listings.{above_open, branch_inside}
use Rattle.paths.proofs.Order.{child_ext, ext_branch, child_inj, ext_nil, length_child}
use Rattle.paths.proofs.Sorted.{sorted_unique, sorted_filter, child_paths_in, child_paths_has, child_paths_sorted}
use Rattle.paths.specs.Listings.{child_paths}
use Rattle.paths.specs.Order.{Path, ◌·◌, Ext, Under, dec_ext}
use Rattle.paths.specs.Shapes.{Open, Showing}
use Rattle.tree.proofs.Find.{find_to, to_up, to_zero, to_inj, above_used, rooted}
use Rattle.tree.proofs.Listing.{lists, shut_child, open_at_lem}
use Rattle.tree.proofs.Over.{up≢}
use Rattle.tree.proofs.Pairs.{rows_in}
use Rattle.tree.proofs.Rows.{total_flat, row_of_lem, showing_node}
use Rattle.tree.proofs.WellFormed.{open_used, used_small, child_by_is}
use Rattle.tree.specs.Paths.{shape, to, Over}
use Rattle.runs.specs.Regions.{stretch}
use Rattle.tree.specs.WellFormed.{Used, Opens, up, ix, WellFormed}

pub close_one_nodes : (s : State) (k : ℕ) → (close_one s k).nodes ≡ closed_at s.nodes k
unfolding close_one closed_at
close_one_nodes s k = refl

pub length_free : (p : ℕ) (ns : List Node) → length (free_below p ns) ≡ length ns
unfolding free_below
length_free p [] = refl
length_free p (n ∷ ns) = ap suc (length_free p ns)

same_cond : {A : Type 0} (b : Bool) (x : A) → x ≡ cond b x x
same_cond true x = refl
same_cond false x = refl

pub free_at : (p : ℕ) (ns : List Node) (j : ℕ) → node_at (free_below p ns) j ≡ cond (eqb (up ns j) p) no_node (node_at ns j)
unfolding free_below
free_at p [] j = same_cond (eqb 0 p) no_node
free_at p (n ∷ ns) zero = refl
free_at p (n ∷ ns) (suc j) = free_at p ns j

-- what a node's path extends is open
open_above : (ns : List Node) (w : WellFormed ns) (q : Path) (m : ℕ) → Used ns m → Ext q (to ns m) → Open (shape ns) q
open_above ns w q zero u h = absurd (ext_nil q (rw (to_zero ns w) at h))
open_above ns w q (suc m) u h = above_open (shape ns) (rooted ns w) q (to ns (suc m)) h (showing_node ns w m u)

module _ (ns : List Node) (w : WellFormed ns) (k : ℕ) (o : Opens ns (suc k)) (none : (i : ℕ) → open_child ns (suc k) i ≡ 0) where
  abbrev after : List Node
  after = closed_at ns (suc k)

  used_here : Used ns (suc k)
  used_here = open_used ns (suc k) o

  -- the node itself stays only if it is ongoing
  pub closed_self : node_at after (suc k) ≡ cond (node_at ns (suc k)).ongoing (with_open false (node_at ns (suc k))) no_node
  unfolding closed_at
  closed_self = get_or-set_same (free_below (suc k) ns) (suc k) (or_none (with_open false (node_at ns (suc k)))) no_node (rw (length_free, w.size) (used_small ns w (suc k) used_here))

  -- its children are freed
  pub closed_child : (j : ℕ) → j ≢ suc k → up ns j ≡ suc k → node_at after j ≡ no_node
  unfolding closed_at
  closed_child j d e = get_or-set_other (free_below (suc k) ns) (suc k) j (or_none (with_open false (node_at ns (suc k)))) no_node d ∙ free_at (suc k) ns j ∙ rw (eq-eqb (up ns j) (suc k) e)

  -- and any other node is as it was
  pub closed_other : (j : ℕ) → j ≢ suc k → up ns j ≢ suc k → node_at after j ≡ node_at ns j
  unfolding closed_at
  closed_other j d e = get_or-set_other (free_below (suc k) ns) (suc k) j (or_none (with_open false (node_at ns (suc k)))) no_node d ∙ free_at (suc k) ns j ∙ rw (ne_eqb (up ns j) (suc k) e)

  pub closed_shut : is_open (node_at after (suc k)) ≡ false
  closed_shut = ap is_open closed_self ∙ go (node_at ns (suc k)).ongoing
    where
      go : (b : Bool) → is_open (cond b (with_open false (node_at ns (suc k))) no_node) ≡ false
      go true = refl
      go false = refl

  -- an open node is no child of it
  pub no_open_child : (a : ℕ) → Opens ns a → up ns a ≢ suc k
  no_open_child zero p e = omega (arith, sym w.root.parent ∙ e)
  no_open_child (suc a) p e = omega (arith, sym (rw e at (child_by_is ns w is_open a (λ n t. rw t) p)) ∙ none (ix ns (suc a)))

  pub close_shrunk : Shrunk ns after
  unfolding closed_at
  close_shrunk = record {
    size = length-set (free_below (suc k) ns) (suc k) (or_none (with_open false (node_at ns (suc k)))) ∙ length_free (suc k) ns;
    root = closed_other 0 (omega arith) (no_open_child 0 w.root.«open»);
    node = λ j u. node j u (ℕ_discrete (suc j) (suc k)) (ℕ_discrete (up ns (suc j)) (suc k));
    above = λ j u. above j u (ℕ_discrete (suc j) (suc k)) (ℕ_discrete (up ns (suc j)) (suc k));
    empty = λ j u. empty j u (ℕ_discrete (suc j) (suc k)) (ℕ_discrete (up ns (suc j)) (suc k));
  }
    where
      stays_open : (a : ℕ) → Opens ns a → a ≢ suc k → Opens after a
      stays_open a p d = rw (closed_other a d (no_open_child a p)) p

      left : (b : Bool) → node_at after (suc k) ≡ cond b (with_open false (node_at ns (suc k))) no_node → Used after (suc k) → Left (node_at ns (suc k)) (node_at after (suc k))
      left true e u = rw e (record { was = used_here; parent = refl; index = refl; entry = refl; direct = refl; opens = λ p. o })
      left false e u = absurd (none_used after (suc k) e u)

      node : (j : ℕ) → Used after (suc j) → Dec (suc j ≡ suc k) → Dec (up ns (suc j) ≡ suc k) → Left (node_at ns (suc j)) (node_at after (suc j))
      node j u (yes e) c = rw e (left (node_at ns (suc k)).ongoing closed_self (rw e at u))
      node j u (no d) (yes c) = absurd (none_used after (suc j) (closed_child (suc j) d c) u)
      node j u (no d) (no c) = left_same (node_at ns (suc j)) (node_at after (suc j)) (closed_other (suc j) d c) u

      above : (j : ℕ) → Used after (suc j) → Dec (suc j ≡ suc k) → Dec (up ns (suc j) ≡ suc k) → Opens after (up ns (suc j))
      above j u (yes e) c = rw e (stays_open (up ns (suc k)) (w.placed k used_here).above (up≢ ns w k used_here))
      above j u (no d) (yes c) = absurd (none_used after (suc j) (closed_child (suc j) d c) u)
      above j u (no d) (no c) = stays_open (up ns (suc j)) (w.placed j (rw (closed_other (suc j) d c) at u)).above c

      kept : (b : Bool) → node_at after (suc k) ≡ cond b (with_open false (node_at ns (suc k))) no_node → (node_at ns (suc k)).ongoing ≡ b → used (node_at after (suc k)) ≡ false → node_at after (suc k) ≡ no_node
      kept true e g v = absurd (differ (ap used e ∙ g) v)
      kept false e g v = e

      empty : (j : ℕ) → used (node_at after (suc j)) ≡ false → Dec (suc j ≡ suc k) → Dec (up ns (suc j) ≡ suc k) → node_at after (suc j) ≡ no_node
      empty j u (yes e) c = rw e (kept (node_at ns (suc k)).ongoing closed_self refl (rw e at u))
      empty j u (no d) (yes c) = closed_child (suc j) d c
      empty j u (no d) (no c) = let f = closed_other (suc j) d c in f ∙ w.empty j (rw f at u)

  pub close_pruned : Pruned ns after (suc k)
  close_pruned = record { less = close_shrunk; away = λ m n. closed_other m (λ e. n (rw e used_here) (inl (ap (to ns) e))) (up_off m n); gone = λ m u h v. let b = ext_branch h in gone m u v b.0 b.1; shut = closed_shut }
    where
      up_off : (m : ℕ) → (Used ns m → Under (to ns (suc k)) (to ns m) → ⊥) → up ns m ≢ suc k
      up_off zero n e = no_open_child 0 w.root.«open» e
      up_off (suc m) n e = go (bool (used (node_at ns (suc m))))
        where
          go : (used (node_at ns (suc m)) ≡ true) ⊎ (used (node_at ns (suc m)) ≡ false) → ⊥
          go (inl u) = n u (inr (rw (to_up ns w m u, e) (child_ext (to ns (suc k)) (ix ns (suc m)))))
          go (inr u) = let z : up ns (suc m) ≡ 0 = ap (λ (x : Node). x.parent) (w.empty m u) in omega (arith, sym z ∙ e)

      gone_child : (m b : ℕ) → Used ns m → to ns m ≡ to ns (suc k) · b → Used after m → ⊥
      gone_child zero b u e v = let d = ap length (sym (to_zero ns w) ∙ e) in omega (arith, length_child (to ns (suc k)) b)
      gone_child (suc m) b u e v =
          let x = child_inj (to ns (up ns (suc m))) (to ns (suc k)) (ix ns (suc m)) b (sym (to_up ns w m u) ∙ e) in
          let a : up ns (suc m) ≡ suc k = to_inj ns w (up ns (suc m)) (suc k) (above_used ns w m u) used_here x.0 in
          none_used after (suc m) (closed_child (suc m) (λ d. up≢ ns w k used_here (rw d at a)) a) v

      gone : (m : ℕ) → Used ns m → Used after m → (b : ℕ) → Under (to ns (suc k) · b) (to ns m) → ⊥
      gone m u v b (inl e) = gone_child m b u e v
      gone m u v b (inr h) = differ (open_above ns w (to ns (suc k) · b) m u h) (shut_child ns w (suc k) b used_here (none b))

  abbrev here : ℕ
  here = row_of ns (suc k)

  abbrev many : ℕ
  many = direct_of ns (suc k)

  pub close_well : WellFormed after
  close_well = shrunk_well ns after close_shrunk w

  -- its rows are its children
  pub close_total_own : total_of ns (suc k) ≡ many
  close_total_own = total_flat ns w (suc k) none

  pub close_paths : paths after ≡ take (suc here) (paths ns) ++ drop (suc here + many) (paths ns)
  close_paths = rw close_total_own at (prune_paths ns after w k o close_pruned)

  pub close_rows : rows after ≡ take (suc here) (rows ns) ++ drop (suc here + many) (rows ns)
  close_rows = rw close_total_own at (prune_rows ns after w k o close_pruned)

  pub close_row_total : row_total ns ≡ row_total after + many
  close_row_total = rw close_total_own at (prune_row_total ns after w k o close_pruned)

  -- the totals of the open nodes above
  pub close_total_over : (j : ℕ) → Opens after j → Over ns j (suc k) → total_of ns j ≡ total_of after j + many
  close_total_over j p v = rw close_total_own at (prune_total_over ns after w k o close_pruned j p v)

  pub close_total_else : (j : ℕ) → Opens after j → (Over ns j (suc k) → ⊥) → total_of after j ≡ total_of ns j
  close_total_else = prune_total_else ns after w k o close_pruned

  children : filter (dec_ext (to ns (suc k))) (paths ns) ≡ child_paths (to ns (suc k)) 0 many
  children =
      sorted_unique
      (sorted_filter (dec_ext p) (lists ns w).sorted)
      (child_paths_sorted p 0 many)
      (λ x m. let s = filter_in (dec_ext p) (paths ns) m in let b = ext_branch s.1 in of x b.0 b.1 ((lists ns w).of x s.0))
      (λ x m. let s = child_paths_in p 0 many m in
      filter_has (dec_ext p) (paths ns)
      ((lists ns w).to x (record { up = p; ix = 0 + s.0; is = s.2; open_up = open_at_lem ns w (suc k) o; inside = rw (count_own, zero-add) s.1 }))
      (rw s.2 (child_ext p (0 + s.0))))
    where
      p : Path
      p = to ns (suc k)

      count_own : (shape ns).count p ≡ many
      count_own = rw (find_to ns w (suc k) used_here)

      of : (x : Path) (i : ℕ) → Under (p · i) x → Showing (shape ns) x → In x (child_paths p 0 many)
      of x i (inl e) s = child_paths_has p 0 many i (rw count_own at (branch_inside (shape ns) (rooted ns w) p x i (inl e) s)) (rw zero-add e)
      of x i (inr h) s = absurd (differ (above_open (shape ns) (rooted ns w) (p · i) x h s) (shut_child ns w (suc k) i used_here (none i)))

  -- the listing before, from the listing after
  pub close_back : rows ns ≡ take (suc here) (rows after) ++ stretch (suc k) 0 many ++ drop (suc here) (rows after)
  close_back =
      rw (find_to ns w (suc k) used_here) at
      (rows_in after ns close_well w (shrunk_keeps ns after close_shrunk) (suc here) (to ns (suc k)) 0 many
      (rw children at (prune_back ns after w k o close_pruned)))

  -- its children are the rows right after its own
  pub close_stretch : rows ns ≡ take (suc here) (rows ns) ++ stretch (suc k) 0 many ++ drop (suc here + many) (rows ns)
  close_stretch =
      let t = length-take-le (suc here) (rows ns) (row_of_lem ns w k used_here).0 in
      let rest = drop (suc here + many) (rows ns) in
      let a : take (suc here) (rows after) ≡ take (suc here) (rows ns) = ap (take (suc here)) close_rows ∙ take_at (take (suc here) (rows ns)) rest (suc here) t in
      let b : drop (suc here) (rows after) ≡ rest = ap (drop (suc here)) close_rows ∙ drop_at (take (suc here) (rows ns)) rest (suc here) t in
      rw (a, b) at close_back
