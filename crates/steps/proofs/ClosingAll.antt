-- Closing a row with all that is open below it, inner rows first: each closing finds its node open and without an open child.
use mathlib.Core.Path.{◌≡◌, refl, sym, ◌∙◌, ap}
use mathlib.Core.Logic.{◌⊎◌, inl, inr}
use mathlib.Core.Bool.{Bool, true, false, cond, true≢false}
use mathlib.Core.List.{List, [], ◌∷◌, ◌++◌, flat_map}
use Prim.Native.Nat.{ℕ, zero, suc, ◌+◌, ◌≤◌, ◌<◌}
use native.Mathlib.Omega.{arith}
use native.Mathlib.Nat.{zero-add, eq-or-lt_of_le}
use lib.ListN.{length, take, drop, length-append}
use lib.Seq.{length-take-le}
use Rattle.model.specs.declared.Node.{Node}
use Rattle.model.specs.Places.{depth, longest_chain}
use Rattle.model.specs.Nodes.{no_node, node_at, direct_of, is_open, open_child, keep, children_from, children, with_open}
use Rattle.model.specs.Rows.{rows, total_of, row_of, paths}
use Rattle.model.specs.Logs.{State, state, rows_change}
use Rattle.model.specs.Close.{closing_order, close_one, close_each}
use Rattle.steps.specs.Changes.{Shrunk, Pruned, closed_at}
use Rattle.steps.specs.Telling.{Tells, Told, Tale}
use Rattle.steps.proofs.Shrunk.{shrunk_used, shrunk_open, shrunk_keeps, shrunk_well, shrunk_refl, shrunk_trans, prune_rows}
use Rattle.steps.proofs.Closing.{closed_self, close_pruned, close_paths, close_stretch}
use Rattle.steps.proofs.Replay.{tells_out, tale_refl, tale_trans, tale_if, tale_told}
use Rattle.lists.proofs.Bools.{differ}
use Rattle.lists.proofs.Numbers.{count_less}
use Rattle.paths.proofs.Order.{child_ext, under_ext, ext_longer, length_child, branch_lt}
use Rattle.paths.specs.Order.{Path, ◌·◌, Ext, Under}
use Rattle.paths.proofs.Decided.{lt_irrefl}
use Rattle.tree.proofs.Find.{open_length}
use Rattle.tree.proofs.Listing.{open_child_lem, length_paths, open_at_lem}
use Rattle.runs.proofs.Search.{length_stretch}
use Rattle.tree.proofs.Pairs.{to_keep}
use Rattle.tree.proofs.Rows.{row_of_lem}
use Rattle.tree.proofs.WellFormed.{open_used, child_by_is, used_small}
use Rattle.tree.specs.Paths.{to, From, open_nodes}
use Rattle.runs.specs.Regions.{stretch}
use Rattle.tree.specs.WellFormed.{Used, Opens, up, ix, WellFormed}

close_append : (s : State) (a b : List ℕ) → close_each s (a ++ b) ≡ close_each (close_each s a) b
unfolding close_each
close_append s [] b = refl
close_append s (k ∷ a) b = close_append (close_one s k) a b

-- one closing's record tells how the listing changed
close_tells : (ns : List Node) (w : WellFormed ns) (k : ℕ) → Opens ns (suc k) → ((i : ℕ) → open_child ns (suc k) i ≡ 0) → Tells (paths ns) (rows_change (suc (row_of ns (suc k))) (direct_of ns (suc k)) 0) (paths (closed_at ns (suc k)))
close_tells ns w k o none =
    let r = row_of ns (suc k) in
    let c = direct_of ns (suc k) in
    let a = ap length (close_stretch ns w k o none) in
    let t = length-take-le (suc r) (rows ns) (row_of_lem ns w k (open_used ns (suc k) o)).0 in
    tells_out (paths ns) (paths (closed_at ns (suc k))) (suc r) c
    (rw (length_paths ns w) (omega (arith, a, t, length_stretch (suc k) 0 c, length-append (take (suc r) (rows ns) ++ stretch (suc k) 0 c) (drop (suc r + c) (rows ns)), length-append (take (suc r) (rows ns)) (stretch (suc k) 0 c))))
    (close_paths ns w k o none)

-- cs has the nodes of ns in a part of the tree
abbrev pub Untouched : (ns : List Node) → (Path → Type 0) → List Node → Type 0
Untouched ns R cs = (m : ℕ) → Used ns m → R (to ns m) → node_at cs m ≡ node_at ns m

-- a branch does not hold its parent
pub not_own : (p : Path) (b : ℕ) → Under (p · b) p → ⊥
not_own p b (inl e) = let d = ap length e in omega (arith, length_child p b)
not_own p b (inr h) = omega (arith, ext_longer h, length_child p b)

-- how much is logged, and how many nodes are open besides the capture
abbrev pub load : State → ℕ
load s = length s.log + open_nodes s.nodes

-- t is s with node j of ns closed and with no node below it
pub record Closes (ns : List Node) (s t : State) (j : ℕ) : Type 0 where
  pub tale : Tale s t
  pub size : load t ≤ load s
  pub less : Shrunk s.nodes t.nodes
  pub away : (m : ℕ) → (Used ns m → Under (to ns j) (to ns m) → ⊥) → node_at t.nodes m ≡ node_at s.nodes m
  pub gone : (m : ℕ) → Used ns m → Ext (to ns j) (to ns m) → Used t.nodes m → ⊥
  pub self : node_at t.nodes j ≡ cond (node_at ns j).ongoing (with_open false (node_at ns j)) no_node

self_shut : (n m : Node) → m ≡ cond n.ongoing (with_open false n) no_node → is_open m ≡ false
self_shut n m e = ap is_open e ∙ go n.ongoing
  where
    go : (b : Bool) → is_open (cond b (with_open false n) no_node) ≡ false
    go true = refl
    go false = refl

module _ (ns : List Node) (w : WellFormed ns) where
  -- n branches of node p from the i-th on are closed
  record Branches (p i n : ℕ) (s t : State) : Type 0 where
    tale : Tale s t
    size : load t ≤ load s
    less : Shrunk s.nodes t.nodes
    away : (m : ℕ) → (Used ns m → From ns p i (to ns m) → ⊥) → node_at t.nodes m ≡ node_at s.nodes m
    shut : (m : ℕ) → Opens ns (suc m) → up ns (suc m) ≡ p → i ≤ ix ns (suc m) → ix ns (suc m) < i + n → Opens t.nodes (suc m) → ⊥

  -- closing works to a depth of f
  abbrev Works : ℕ → Type 0
  Works f =
      (j : ℕ)
      → Opens ns (suc j)
      → longest_chain < f + length (to ns (suc j))
      → (s : State)
      → WellFormed s.nodes
      → Shrunk ns s.nodes
      → Untouched ns (Under (to ns (suc j))) s.nodes
      → Closes ns s (close_each s (closing_order ns f (suc j))) (suc j)

  abbrev each : ℕ → ℕ → ℕ → ℕ → List ℕ
  each f p i n = flat_map (λ j. closing_order ns f j) (children_from is_open ns p i n)

  each_branch : (f p : ℕ) → longest_chain < suc f + length (to ns p) → Works f → (n i : ℕ) (s : State) → WellFormed s.nodes → Shrunk ns s.nodes → Untouched ns (From ns p i) s.nodes → Branches p i n s (close_each s (each f p i n))
  unfolding children_from keep flat_map close_each
  each_branch f p d works zero i s ws S same = record { tale = tale_refl s; size = omega arith; less = shrunk_refl s.nodes ws; away = λ m k. refl; shut = λ m q e l h x. omega arith }
  each_branch f p d works (suc n) i s ws S same = go (open_child ns p i) refl (λ b wb T keep. each_branch f p d works n (suc i) b wb T keep)
    where
      later : (x : Path) → From ns p (suc i) x → From ns p i x
      later x r = (r.0, (omega arith), r.2)

      Rest : List ℕ
      Rest = each f p (suc i) n

      -- child i is not open in t, nor then is it when the rest is closed
      shut : (t : State) → ((m : ℕ) → Opens ns (suc m) → up ns (suc m) ≡ p → ix ns (suc m) ≡ i → is_open (node_at t.nodes (suc m)) ≡ false) → Branches p (suc i) n t (close_each t Rest) → (m : ℕ) → Opens ns (suc m) → up ns (suc m) ≡ p → ix ns (suc m) < i + suc n → Opens (close_each t Rest).nodes (suc m) → (i ≡ ix ns (suc m)) ⊎ (i < ix ns (suc m)) → ⊥
      shut t c B m q a h x (inl g) = differ (shrunk_open t.nodes (close_each t Rest).nodes B.less (suc m) x) (c m q a (sym g))
      shut t c B m q a h x (inr g) = B.shut m q a g (omega arith) x

      go :
          (j : ℕ)
          → open_child ns p i ≡ j
          → ((b : State) → WellFormed b.nodes → Shrunk ns b.nodes → Untouched ns (From ns p (suc i)) b.nodes → Branches p (suc i) n b (close_each b Rest))
          → Branches p i (suc n) s (close_each s (flat_map (λ j. closing_order ns f j) (keep j (children_from is_open ns p (suc i) n))))
      go zero e ih =
          let B = ih s ws S (λ m u r. same m u (later (to ns m) r)) in
          record {
            tale = B.tale;
            size = B.size;
            less = B.less;
            away = λ m k. B.away m (λ u r. k u (later (to ns m) r));
            shut = λ m q a l h x. shut s (λ v o y g. absurd (omega (arith, sym (rw (y, g) at (child_by_is ns w is_open v (λ z t. rw t) o)) ∙ e))) B m q a h x (eq-or-lt_of_le l);
          }
      go (suc j) e ih =
          let own = open_child_lem ns w p i j e in
          let t = own.3 in
          let C = works j own.0 (rw t (omega (arith, length_child (to ns p) i))) s ws S (λ m u v. same m u (i, (omega arith), rw t at v)) in
          let b = close_each s (closing_order ns f (suc j)) in
          let B = ih b (shrunk_well s.nodes b.nodes C.less ws) (shrunk_trans ns s.nodes b.nodes S C.less) (λ m u v. C.away m (λ y z. lt_irrefl (to ns m) (branch_lt (to ns p) v.1 (rw t at z) v.2)) ∙ same m u (later (to ns m) v)) in
          let one : (m : ℕ) → Opens ns (suc m) → up ns (suc m) ≡ p → ix ns (suc m) ≡ i → is_open (node_at b.nodes (suc m)) ≡ false = λ m q a g.
          let z : suc m ≡ suc j = w.twin m j (open_used ns (suc m) q) (open_used ns (suc j) own.0) (a ∙ sym own.1) (g ∙ sym own.2) in
          rw z (self_shut (node_at ns (suc j)) (node_at b.nodes (suc j)) C.self) in
          rw (close_append s (closing_order ns f (suc j)) Rest)
          (record {
            tale = tale_trans C.tale B.tale;
            size = omega (arith, C.size, B.size);
            less = shrunk_trans s.nodes b.nodes (close_each b Rest).nodes C.less B.less;
            away = λ m k. B.away m (λ u v. k u (later (to ns m) v)) ∙ C.away m (λ u z. k u (i, (omega arith), rw t at z));
            shut = λ m q a l h x. shut b one B m q a h x (eq-or-lt_of_le l);
          })

  -- the last step: node j, when its branches are closed
  module _ (j : ℕ) (o : Opens ns (suc j)) (s b : State) (ws : WellFormed s.nodes) (S : Shrunk ns s.nodes) (same : Untouched ns (Under (to ns (suc j))) s.nodes) (B : Branches (suc j) 0 (direct_of ns (suc j)) s b) where
    wb : WellFormed b.nodes
    wb = shrunk_well s.nodes b.nodes B.less ws

    S₁ : Shrunk ns b.nodes
    S₁ = shrunk_trans ns s.nodes b.nodes S B.less

    own : node_at b.nodes (suc j) ≡ node_at ns (suc j)
    own = B.away (suc j) (λ u r. not_own (to ns (suc j)) r.0 r.2) ∙ same (suc j) (open_used ns (suc j) o) (inl refl)

    open_still : Opens b.nodes (suc j)
    open_still = rw own o

    none_open : (i : ℕ) → open_child b.nodes (suc j) i ≡ 0
    none_open i = go (open_child b.nodes (suc j) i) refl
      where
        go : (m : ℕ) → open_child b.nodes (suc j) i ≡ m → open_child b.nodes (suc j) i ≡ 0
        go zero e = e
        go (suc m) e =
            let r = open_child_lem b.nodes wb (suc j) i m e in
            let q = shrunk_open ns b.nodes S₁ (suc m) r.0 in
            let a : up ns (suc m) ≡ suc j = sym (S₁.node m (open_used b.nodes (suc m) r.0)).parent ∙ r.1 in
            let h : ix ns (suc m) < direct_of ns (suc j) = rw a at (w.placed m (open_used ns (suc m) q)).inside in
            absurd (B.shut m q a (omega arith) (rw zero-add h) r.0)

    abbrev t : State
    t = close_one b (suc j)

    P : Pruned b.nodes t.nodes (suc j)
    unfolding close_one closed_at
    P = close_pruned b.nodes wb j open_still none_open

    -- a node that is left has the path that it had
    path : (m : ℕ) → Used b.nodes m → to ns m ≡ to b.nodes m
    path m u = to_keep b.nodes ns wb w (shrunk_keeps ns b.nodes S₁) m u

    last_step : Closes ns s t (suc j)
    unfolding close_one closed_at
    last_step = record {
      tale = tale_trans B.tale (tale_if b t true (rows_change (suc (row_of b.nodes (suc j))) (direct_of b.nodes (suc j)) 0) refl (λ e. close_tells b.nodes wb j open_still none_open) (λ e. absurd (true≢false e)));
      size = omega (
        arith,
        B.size,
        length-append b.log (rows_change (suc (row_of b.nodes (suc j))) (direct_of b.nodes (suc j)) 0 ∷ []),
        count_less (λ i. is_open (node_at b.nodes (suc i))) (λ i. is_open (node_at t.nodes (suc i))) 255 j (λ i x. shrunk_open b.nodes t.nodes P.less (suc i) x) (omega (arith, used_small b.nodes wb (suc j) (open_used b.nodes (suc j) open_still))) open_still P.shut,
      );
      less = shrunk_trans s.nodes b.nodes t.nodes B.less P.less;
      away = λ m k.
          P.away m (λ u z. k (shrunk_used ns b.nodes S₁ m u) (rw (path (suc j) (open_used b.nodes (suc j) open_still), path m u) z))
          ∙ B.away m (λ u r. k u (inr (under_ext (to ns (suc j) · r.0) (child_ext (to ns (suc j)) r.0) r.2)));
      gone = λ m u x v.
          let y = shrunk_used b.nodes t.nodes P.less m v in
          P.gone m y (rw (path (suc j) (open_used b.nodes (suc j) open_still), path m y) at x) v;
      self = closed_self b.nodes wb j open_still none_open ∙ ap (λ (n : Node). cond n.ongoing (with_open false n) no_node) own;
    }

  works : (f : ℕ) → Works f
  unfolding closing_order children close_each
  works zero j o d s ws S same = absurd (omega (arith, open_length ns w (to ns (suc j)) (open_at_lem ns w (suc j) o)))
  works (suc f) j o d s ws S same =
      let ks = each f (suc j) 0 (direct_of ns (suc j)) in
      let B = each_branch f (suc j) d (works f) (direct_of ns (suc j)) 0 s ws S (λ m u r. same m u (inr (under_ext (to ns (suc j) · r.0) (child_ext (to ns (suc j)) r.0) r.2))) in
      rw (close_append s ks (suc j ∷ [])) (last_step j o s (close_each s ks) ws S same B)

  -- the whole closing: its rows and totals are those of a pruned list
  module _ (j : ℕ) (o : Opens ns (suc j)) where
    abbrev whole : State
    whole = close_each (state ns []) (closing_order ns depth (suc j))

    pub close_all_lem : Closes ns (state ns []) whole (suc j)
    close_all_lem = works depth j o (omega arith) (state ns []) w (shrunk_refl ns w) (λ m u v. refl)

    pub close_all_pruned : Pruned ns whole.nodes (suc j)
    close_all_pruned = let C = close_all_lem in record { less = C.less; away = C.away; gone = C.gone; shut = self_shut (node_at ns (suc j)) (node_at whole.nodes (suc j)) C.self }

    pub close_all_well : WellFormed whole.nodes
    close_all_well = shrunk_well ns whole.nodes close_all_lem.less w

    pub close_all_told : Told (paths ns) whole.log (paths whole.nodes)
    close_all_told = tale_told ns whole close_all_lem.tale

    -- all that was below the row is gone
    pub close_all_rows : let r = row_of ns (suc j) in rows whole.nodes ≡ take (suc r) (rows ns) ++ drop (suc r + total_of ns (suc j)) (rows ns)
    close_all_rows = prune_rows ns whole.nodes w j o close_all_pruned
