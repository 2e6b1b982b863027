-- A sound model's regions: they are laid into its places, tile its rows and find each row's parent and index, whatever its nodes are then changed to.
use Prim.Native.Nat.{ℕ, suc, ◌+◌, ◌-◌, ◌≤◌, ◌<◌}
use native.Mathlib.Omega.{arith}
use mathlib.Core.Path.{◌≡◌, refl, sym, ap, ◌∙◌}
use mathlib.Core.Logic.{◌≢◌}
use mathlib.Core.Bool.{true, false}
use mathlib.Core.List.Memᴰ.{head as here}
use mathlib.Core.List.Memᴰ.{tail as there}
use mathlib.Core.List.{List, [], ◌∷◌, Memᴰ as In}
use native.Mathlib.Decide.{dec_lt}
use lib.ListN.{length}
use Rattle.lists.proofs.Numbers.{count_less, count_all}
use Rattle.model.specs.declared.Node.{Node}
use Rattle.model.specs.declared.Model.{Model}
use Rattle.std.specs.Prelude.{Some, None}
use Rattle.model.specs.Places.{region_places}
use Rattle.model.specs.Nodes.{node_at, direct_of, is_open}
use Rattle.model.specs.Rows.{Row, rows, row_total, row_at}
use Rattle.model.specs.Regions.{runs}
use Rattle.runs.specs.Regions.{at, total, Tiled, Tidy, NoRow}
use Rattle.runs.specs.Search.{region_at, child_at}
use Rattle.runs.specs.Laid.{live, laid, Laid}
use Rattle.runs.proofs.Rows.{settle_laid, rows_live, rows_laid, rows_normal, rows_total, find_row, find_none, find_past, region_last}
use Rattle.runs.proofs.Search.{hit_at}
use Rattle.runs.proofs.Runs.{tiled_length}
use Rattle.steps.proofs.Opening.{row_shows, no_rows}
use Rattle.steps.specs.Settled.{Sound, with_nodes}
use Rattle.tree.proofs.Regions.{regions_few, regions_fit}
use Rattle.tree.proofs.Rows.{rows_tidy}
use Rattle.tree.specs.Paths.{open_nodes}

no_row_of : (k : ℕ) (xs : List Row) → ((r : Row) → In r xs → r.0 ≢ k) → NoRow k xs
no_row_of k [] h = tt
no_row_of k (x ∷ xs) h = ((λ e. h x (here refl) (sym e)), no_row_of k xs (λ r m. h r (there m)))

module _ (m : Model) (S : Sound m) where
  pub few : length (runs 0 (rows m.nodes)) ≤ region_places
  few = omega (arith, regions_fit m.nodes S.well)

  pub neat : Tidy (rows m.nodes)
  neat = rows_tidy m.nodes S.well

  -- with other nodes, the regions are still those of its rows
  pub with_laid : (ns : List Node) → with_nodes m ns ≡ laid (with_nodes m ns) (runs 0 (rows m.nodes))
  with_laid ns = ap (λ (q : Model). with_nodes q ns) (settle_laid m m.nodes S.is)

  pub no_row : (k : ℕ) → is_open (node_at m.nodes k) ≡ false → NoRow k (rows m.nodes)
  no_row k c = no_row_of k (rows m.nodes) (no_rows m.nodes S.well k c)

  -- if a node is not open, there is room for two more
  pub regions_room : (k : ℕ) → suc k < 256 → is_open (node_at m.nodes (suc k)) ≡ false → length (runs 0 (rows m.nodes)) + 2 ≤ region_places
  regions_room k h c =
      let less : open_nodes m.nodes < 255 = rw (count_all (λ i. true) 255 (λ i l. refl)) at (count_less (λ i. true) (λ i. is_open (node_at m.nodes (suc i))) 255 k (λ i o. refl) (omega arith) refl c) in
      omega (arith, regions_few m.nodes S.well, less)

  pub laid_rows : m ≡ laid m (runs 0 (rows m.nodes))
  laid_rows = settle_laid m m.nodes S.is

  pub sound_laid : Laid m
  sound_laid = rows_laid m (rows m.nodes) laid_rows few neat

  pub sound_tiled : Tiled 0 (live m)
  sound_tiled = (rows_normal m (rows m.nodes) laid_rows few neat).tiled

  pub sound_regions : live m ≡ runs 0 (rows m.nodes)
  sound_regions = rows_live m (rows m.nodes) laid_rows few neat

  pub sound_total : total (live m) ≡ row_total m.nodes
  sound_total = rows_total m (rows m.nodes) laid_rows few neat

  -- no region holds a row at or past the last, and one that is held is one of the listing, with the parent and index that the region says
  pub row_none : (r : ℕ) → region_at (live m) r ≡ None → row_total m.nodes ≤ r
  row_none r h = find_none m (rows m.nodes) laid_rows few neat r h

  pub found_inside : (r i : ℕ) → region_at (live m) r ≡ Some i → r < row_total m.nodes
  found_inside r i h = go (dec_lt r (row_total m.nodes))
    where
      go : Dec (r < row_total m.nodes) → r < row_total m.nodes
      go (yes l) = l
      go (no n) =
          let none : region_at (live m) r ≡ None = find_past m (rows m.nodes) laid_rows few neat r (omega arith) in
          let z : ◌≡◌ {A = ℕ} 0 1 = cc in
          absurd (omega arith)

  pub found_row : (r i : ℕ) → region_at (live m) r ≡ Some i → row_at m.nodes r ≡ ((at (live m) i).node, child_at (at (live m) i) r)
  found_row r i h = find_row m (rows m.nodes) laid_rows few neat r i (0, 0) h

  module _ (q : Model) (ns : List Node) (e : q ≡ with_nodes m ns) where
    is_laid : q ≡ laid q (runs 0 (rows m.nodes))
    is_laid = rw e (with_laid ns)

    pub with_regions_lem : live q ≡ runs 0 (rows m.nodes)
    with_regions_lem = rows_live q (rows m.nodes) is_laid few neat

    pub regions_laid : Laid q
    regions_laid = rows_laid q (rows m.nodes) is_laid few neat

    pub regions_tiled : Tiled 0 (live q)
    regions_tiled = (rows_normal q (rows m.nodes) is_laid few neat).tiled

    pub regions_total : total (live q) ≡ row_total m.nodes
    regions_total = rows_total q (rows m.nodes) is_laid few neat

    -- a region's children are children of its node
    pub region_children : (i : ℕ) → i < length (live q) → (at (live q) i).offset + (at (live q) i).length ≤ direct_of m.nodes (at (live q) i).node
    region_children i h =
        let g = at (live q) i in
        let some : 0 < g.length = tiled_length 0 (live q) regions_tiled i h in
        let z = g.start + g.length - 1 in
        let last = region_last q (rows m.nodes) is_laid few neat i (0, 0) h in
        let there = hit_at (live q) regions_tiled z i (record { below = h; low = omega arith; high = omega arith }) in
        let shows = rw last at (row_shows m.nodes S.well z (found_inside z i (ap (λ (x : Model). region_at (live x) z) (sym e) ∙ there))) in
        omega (arith, shows.1)
