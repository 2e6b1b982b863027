-- Two lists of nodes: where one keeps the nodes of the other, rows are put in or cut out; where the open nodes are alike, the rows are the same.
use mathlib.Core.Path.{◌≡◌, refl, sym, ◌∙◌, ap}
use mathlib.Core.Logic.{◌⊎◌, inl, inr}
use mathlib.Core.Bool.{Bool, true, false, ◌&&◌, ◌||◌}
use mathlib.Core.List.{List, ◌∷◌, ◌++◌, map, map-append}
use Prim.Native.Nat.{ℕ, zero, suc, ◌<◌}
use native.Mathlib.Decide.{ℕ_discrete}
use lib.ListN.{length, set, take, drop, length-set}
use lib.Seq.{get_or-set_same, get_or-set_other}
use lib.Dec.{eqb}
use Rattle.lists.proofs.Bools.{bool}
use Rattle.lists.proofs.Edits.{map_agree, map_take, map_drop}
use Rattle.paths.specs.Order.{Path, ◌·◌}
use Rattle.paths.specs.Shapes.{Showing}
use Rattle.paths.specs.Listings.{child_paths}
use Rattle.model.specs.declared.Node.{Node}
use Rattle.model.specs.Places.{depth}
use Rattle.model.specs.Nodes.{no_node, node_at, direct_of, is_open, stands_at, child_by, open_child}
use Rattle.model.specs.Rows.{Row, under, rows_from, rows_of, rows, total_of, chain, path, paths}
use Rattle.model.specs.Sound.{reaches}
use Rattle.model.proofs.Search.{seek_same, child_found}
use Rattle.tree.specs.WellFormed.{Used, Opens, up, ix, WellFormed}
use Rattle.tree.specs.Paths.{lost, find, shape, to, Shows, path_row}
use Rattle.runs.specs.Regions.{stretch}
use Rattle.tree.specs.Pairs.{Keeps, Alike}
use Rattle.tree.proofs.WellFormed.{open_used, zero_open}
use Rattle.tree.proofs.Find.{chain_zero, chain_suc, chain_none, find_to, to_find, find_cases, lost_used, above_used}
use Rattle.tree.proofs.Listing.{path_is, path_row_child, shows_row, lists, paths_rows}

-- nodes that stay where they stood

module _ (ns ms : List Node) (closed : (j : ℕ) → Used ns (suc j) → Used ns (up ns (suc j))) (K : Keeps ns ms) where
  chain_keep : (f j : ℕ) → Used ns j → chain ms f j ≡ chain ns f j
  chain_keep zero j u = chain_none ms j ∙ sym (chain_none ns j)
  chain_keep (suc f) zero u = chain_zero ms (suc f) ∙ sym (chain_zero ns (suc f))
  chain_keep (suc f) (suc j) u =
      rw (chain_suc ms f j, chain_suc ns f j, K.same_up (suc j) u, K.same_ix (suc j) u, chain_keep f (up ns (suc j)) (closed j u))

  reach_keep : (f j : ℕ) → Used ns j → reaches ms f j ≡ reaches ns f j
  unfolding reaches
  reach_keep zero j u = refl
  reach_keep (suc f) zero u = refl
  reach_keep (suc f) (suc j) u = ap (λ (b : Bool). eqb (suc j) 0 || b) (ap (reaches ms f) (K.same_up (suc j) u) ∙ reach_keep f (up ns (suc j)) (closed j u))

  pub reach_to : (f j : ℕ) → Used ns j → reaches ns f j ≡ true → reaches ms f j ≡ true
  reach_to f j u e = reach_keep f j u ∙ e

  pub reach_of : (f j : ℕ) → Used ns j → reaches ms f j ≡ true → reaches ns f j ≡ true
  reach_of f j u e = sym (reach_keep f j u) ∙ e

module _ (ns ms : List Node) (w : WellFormed ns) (w' : WellFormed ms) (K : Keeps ns ms) where
  pub to_keep : (j : ℕ) → Used ns j → to ms j ≡ to ns j
  to_keep j u = chain_keep ns ms (above_used ns w) K depth j u

  -- a path to a node of the first leads to it in the second
  pub find_keep : (x : Path) → Used ns (find ns x) → find ms x ≡ find ns x
  find_keep x u =
      let e : to ms (find ns x) ≡ x = to_keep (find ns x) u ∙ to_find ns w x u in
      rw e at (find_to ms w' (find ns x) (K.stays (find ns x) u))

  -- a path to a node of the second that is one of the first leads to it in the first
  pub find_old : (x : Path) → Used ms (find ms x) → Used ns (find ms x) → find ns x ≡ find ms x
  find_old x u v =
      let d : to ns (find ms x) ≡ x = sym (to_keep (find ms x) v) ∙ to_find ms w' x u in
      rw d at (find_to ns w (find ms x) v)

  -- any other path leads to none, or to a node that is new
  pub find_new : (x : Path) → find ns x ≡ lost → (find ms x ≡ lost) ⊎ (Used ms (find ms x) × (Used ns (find ms x) → ⊥))
  find_new x e = go (find_cases ms w' x)
    where
      go : Used ms (find ms x) ⊎ (find ms x ≡ lost) → (find ms x ≡ lost) ⊎ (Used ms (find ms x) × (Used ns (find ms x) → ⊥))
      go (inr d) = inl d
      go (inl u) = inr (u, λ v. lost_used ns w (rw (sym (find_old x u v) ∙ e) at v))

-- children as rows

path_row_children : (ns : List Node) (q : Path) (n c : ℕ) → map (path_row ns) (child_paths q n c) ≡ stretch (find ns q) n c
path_row_children ns q n zero = refl
path_row_children ns q n (suc c) = rw (path_row_child ns q n, path_row_children ns q (suc n) c)

module _ (ns ms : List Node) (w : WellFormed ns) (w' : WellFormed ms) (K : Keeps ns ms) where
  -- the rows of the first, read in the second
  rows_keep : map (path_row ms) (paths ns) ≡ rows ns
  rows_keep = map_agree (path_row ms) (path_row ns) (paths ns) (λ x m. same x ((lists ns w).of x m)) ∙ paths_rows ns w
    where
      same : (x : Path) → Showing (shape ns) x → path_row ms x ≡ path_row ns x
      same x s =
          rw (s.is, path_row_child ms s.up s.ix, path_row_child ns s.up s.ix, find_keep ns ms w w' K s.up (open_used ns (find ns s.up) s.open_up))

  -- rows put in
  pub rows_in : (e : ℕ) (q : Path) (n c : ℕ) → paths ms ≡ take e (paths ns) ++ child_paths q n c ++ drop e (paths ns) → rows ms ≡ take e (rows ns) ++ stretch (find ms q) n c ++ drop e (rows ns)
  rows_in e q n c d =
      sym (paths_rows ms w')
      ∙ ap (map (path_row ms)) d
      ∙ map-append (path_row ms) (take e (paths ns) ++ child_paths q n c) (drop e (paths ns))
      ∙ rw (map-append (path_row ms) (take e (paths ns)) (child_paths q n c), map_take (path_row ms) e (paths ns), map_drop (path_row ms) e (paths ns), rows_keep, path_row_children ms q n c)

module _ (ns ms : List Node) (w : WellFormed ns) (w' : WellFormed ms) (K : Keeps ms ns) where
  -- rows cut out
  pub rows_out : (a b : ℕ) → paths ms ≡ take a (paths ns) ++ drop b (paths ns) → rows ms ≡ take a (rows ns) ++ drop b (rows ns)
  rows_out a b d =
      sym (rows_keep ms ns w' w K)
      ∙ ap (map (path_row ns)) d
      ∙ map-append (path_row ns) (take a (paths ns)) (drop b (paths ns))
      ∙ rw (map_take (path_row ns) a (paths ns), map_drop (path_row ns) b (paths ns), paths_rows ns w)

-- open nodes alike

module _ (ns ms : List Node) (A : Alike ns ms) where
  alike_child : (p i : ℕ) → open_child ns p i ≡ open_child ms p i
  unfolding child_by
  alike_child p i = seek_same (λ n. is_open n && stands_at p i n) (λ n. is_open n && stands_at p i n) ns ms A.size (λ j. go j (bool (is_open (node_at ns j))))
    where
      go : (j : ℕ) → (is_open (node_at ns j) ≡ true) ⊎ (is_open (node_at ns j) ≡ false) → is_open (node_at ns j) && stands_at p i (node_at ns j) ≡ is_open (node_at ms j) && stands_at p i (node_at ms j)
      go j (inl o) =
          let e = A.same_open j in
          let d = A.same_up j o in
          let f = A.same_ix j o in
          rw (e, d, f)
      go j (inr c) = let e = A.same_open j in rw (sym e ∙ c, c)

  rows_same :
      (sub tub : ℕ → List Row) (p : ℕ)
      → ((j : ℕ) → Opens ns (suc j) → sub (suc j) ≡ tub (suc j))
      → (n i : ℕ)
      → rows_from ns sub p i n ≡ rows_from ms tub p i n
  unfolding rows_from
  rows_same sub tub p h zero i = refl
  rows_same sub tub p h (suc n) i = ap (λ (l : List Row). (p, i) ∷ l) (go (rows_same sub tub p h n (suc i)))
    where
      under_same : (j : ℕ) → open_child ns p i ≡ j → under sub j ≡ under tub j
      under_same zero e = refl
      under_same (suc j) e = h j (child_found is_open ns p i j e).0

      go :
          rows_from ns sub p (suc i) n ≡ rows_from ms tub p (suc i) n
          → under sub (open_child ns p i) ++ rows_from ns sub p (suc i) n ≡ under tub (open_child ms p i) ++ rows_from ms tub p (suc i) n
      go ih = rw (← alike_child p i, under_same (open_child ns p i) refl, ih)

  alike_rows_of : (f p : ℕ) → direct_of ns p ≡ direct_of ms p → rows_of ns f p ≡ rows_of ms f p
  unfolding rows_of
  alike_rows_of zero p d = refl
  alike_rows_of (suc f) p d =
      rows_same (λ k. rows_of ns f k) (λ k. rows_of ms f k) p (λ j o. alike_rows_of f (suc j) (A.same_direct (suc j) o)) (direct_of ns p) 0
      ∙ ap (rows_from ms (λ k. rows_of ms f k) p 0) d

  pub alike_rows : direct_of ns 0 ≡ direct_of ms 0 → rows ns ≡ rows ms
  unfolding rows
  alike_rows d = alike_rows_of depth 0 d

  pub alike_total : (k : ℕ) → direct_of ns k ≡ direct_of ms k → total_of ns k ≡ total_of ms k
  unfolding total_of
  alike_total k d = ap length (alike_rows_of depth k d)

  alike_chain : (w : WellFormed ns) (f j : ℕ) → Opens ns j → chain ns f j ≡ chain ms f j
  alike_chain w zero j o = chain_none ns j ∙ sym (chain_none ms j)
  alike_chain w (suc f) zero o = chain_zero ns (suc f) ∙ sym (chain_zero ms (suc f))
  alike_chain w (suc f) (suc j) o =
      rw (chain_suc ns f j, chain_suc ms f j, ← A.same_up (suc j) o, ← A.same_ix (suc j) o, alike_chain w f (up ns (suc j)) (w.placed j (open_used ns (suc j) o)).above)

  pub alike_paths : (w : WellFormed ns) → paths ns ≡ paths ms
  unfolding paths
  alike_paths w =
      map_agree (path ns) (path ms) (rows ns) (λ r m. same r (shows_row ns w r m))
      ∙ ap (map (path ms)) (alike_rows (A.same_direct 0 (zero_open ns w)))
    where
      same : (r : Row) → Shows ns r → path ns r ≡ path ms r
      same r s = path_is ns r.0 r.1 ∙ ap (λ (x : Path). x · r.1) (alike_chain w depth r.0 s.0) ∙ sym (path_is ms r.0 r.1)

-- one node is another, and is open as it was
pub alike_set :
    (ns : List Node) (k : ℕ) (n : Node)
    → k < length ns
    → is_open (node_at ns k) ≡ is_open n
    → (Opens ns k → (up ns k ≡ n.parent) × (ix ns k ≡ n.index) × (direct_of ns k ≡ n.direct))
    → Alike ns (set ns k n)
alike_set ns k n h o f = record {
  size = sym (length-set ns k n);
  same_open = λ j. (same j (ℕ_discrete j k)).0;
  same_up = λ j q. ((same j (ℕ_discrete j k)).1 q).0;
  same_ix = λ j q. ((same j (ℕ_discrete j k)).1 q).1;
  same_direct = λ j q. ((same j (ℕ_discrete j k)).1 q).2;
}
  where
    there : node_at (set ns k n) k ≡ n
    there = get_or-set_same ns k n no_node h

    same :
        (j : ℕ)
        → Dec (j ≡ k)
        → (is_open (node_at ns j) ≡ is_open (node_at (set ns k n) j))
        × (Opens ns j → (up ns j ≡ (node_at (set ns k n) j).parent) × (ix ns j ≡ (node_at (set ns k n) j).index) × (direct_of ns j ≡ (node_at (set ns k n) j).direct))
    same j (yes e) = rw (e, there) (o, f)
    same j (no d) = rw (get_or-set_other ns k j n no_node d) (refl, λ q. (refl, refl, refl))
