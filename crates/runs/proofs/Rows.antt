-- The operations in terms of the rows, for a model whose regions are the runs of its rows.
use Prim.Native.Nat.{ℕ, zero, suc, ◌+◌, ◌-◌, ◌≤◌, ◌<◌}
use native.Mathlib.Omega.{arith}
use native.Mathlib.Nat.{zero-add}
use mathlib.Core.Path.{◌≡◌, refl, ap, sym, ◌∙◌}
use mathlib.Core.Logic.{◌≢◌}
use mathlib.Core.List.{List, [], ◌∷◌, ◌++◌}
use native.Mathlib.Decide.{dec_lt}
use lib.ListN.{length, take, get_or, length-append}
use lib.Seq.{get_or_at, take_all}
use Rattle.model.specs.declared.Node.{Node}
use Rattle.model.specs.declared.Model.{Model}
use Rattle.model.specs.declared.Region.{Region}
use Rattle.std.specs.Prelude.{Some, None}
use Rattle.model.specs.Places.{region_places}
use Rattle.model.specs.Rows.{Row, rows}
use Rattle.model.specs.Regions.{region, no_region, runs}
use Rattle.model.specs.Settle.{settle}
use Rattle.runs.specs.Edits.{insert, remove}
use Rattle.runs.specs.Regions.{stretch, spread, total, at, Tiled, Apart, Normal, NoRow, Tidy, Parted}
use Rattle.runs.specs.Search.{region_at, child_at, Holds, Last}
use Rattle.runs.specs.Changes.{joined, expanded, collapsed, grown}
use Rattle.runs.specs.Laid.{with_counted, live, laid, Laid}
use Rattle.runs.proofs.Runs.{attach_apart, runs_stretch, tiled_length, runs_normal, runs_joined, spread_runs, absent_runs, apart_runs, runs_parted}
use Rattle.runs.proofs.Search.{hit_at, none_at, none_past, at_holds, row_at, last_holds}
use Rattle.runs.proofs.Changes.{length_spread, total_take, expand_rows, collapse_rows, grow_rows}
use Rattle.runs.proofs.Laid.{live_of, laid_of}

parted_more : (k o n : ℕ) (ps bs : List Row) → 0 < n → Parted ps (stretch k o n) → Parted ps (stretch k o n ++ bs)
parted_more k o n [] bs z p = tt
parted_more k o zero (a ∷ []) bs z p = absurd (omega arith)
parted_more k o (suc n) (a ∷ []) bs z p = p
parted_more k o n (a ∷ c ∷ ps) bs z p = parted_more k o n (c ∷ ps) bs z p

parted_apart : (k o n s : ℕ) (bs : List Row) → 0 < n → Parted (stretch k o n) bs → Apart k (runs s bs)
parted_apart k o zero s bs z p = absurd (omega arith)
parted_apart k o (suc zero) s [] z p = unfold runs in tt
parted_apart k o (suc zero) s (b ∷ bs) z p = apart_runs k s b bs p
parted_apart k o (suc (suc n)) s bs z p = parted_apart k (suc o) (suc n) s bs (omega arith) p

-- a whole run of rows is one region: n rows of node k, from index o on, between ps and bs
module _ (ps bs : List Row) (k o n : ℕ) (n0 : 0 < n) (before : Parted ps (stretch k o n)) (after : Parted (stretch k o n) bs) where
  abbrev whole : List Row
  whole = ps ++ (stretch k o n ++ bs)

  pub run_regions : runs 0 (ps ++ (stretch k o n ++ bs)) ≡ runs 0 ps ++ (region (length ps) k o n ∷ runs (length ps + n) bs)
  run_regions =
      runs_parted 0 ps (stretch k o n ++ bs) (parted_more k o n ps bs n0 before)
      ∙ ap (λ (l : List Region). runs 0 ps ++ l)
      (rw zero-add (runs_stretch (length ps) k o n bs n0 ∙ attach_apart (region (length ps) k o n) (runs (length ps + n) bs) (parted_apart k o n (length ps + n) bs n0 after)))

  pub run_at : at (runs 0 whole) (length (runs 0 ps)) ≡ region (length ps) k o n
  run_at = rw run_regions (get_or_at (runs 0 ps) (region (length ps) k o n) _ no_region (length (runs 0 ps)) refl)

  -- the search answers its place at its first row
  pub run_found : region_at (runs 0 whole) (length ps) ≡ Some (length (runs 0 ps))
  run_found =
      hit_at (runs 0 whole) (runs_normal 0 whole).tiled (length ps) (length (runs 0 ps))
      (record { below = rw (run_regions, length-append) (omega arith); low = rw run_at (omega arith); high = rw run_at (omega arith) })

-- the last region that starts at or before a row holds the row's parent and index
pub runs_row : (xs : List Row) → Tidy xs → (r i : ℕ) (d : Row) → r < length xs → Last (runs 0 xs) r i → get_or xs r d ≡ ((at (runs 0 xs) i).node, child_at (at (runs 0 xs) i) r)
runs_row xs tidy r i d h l =
    let t = (runs_normal 0 xs).tiled in
    let all : length xs ≡ total (runs 0 xs) = ap length (sym (spread_runs 0 xs tidy)) ∙ length_spread (runs 0 xs) in
    ap (λ (ys : List Row). get_or ys r d) (sym (spread_runs 0 xs tidy)) ∙ row_at (runs 0 xs) t r i d (hit_at (runs 0 xs) t r i (last_holds (runs 0 xs) t r i l (omega arith)))

-- a model that nodes give, as every sound one, has the regions of their rows
pub settle_laid : (m : Model) (ns : List Node) → m ≡ settle ns → m ≡ laid m (runs 0 (rows ns))
unfolding settle
settle_laid m ns e = λ i. with_counted m (e i).regions (e i).region_count

module _ (m : Model) (xs : List Row) (e : m ≡ laid m (runs 0 xs)) (fits : length (runs 0 xs) ≤ region_places) (tidy : Tidy xs) where
  pub rows_live : live m ≡ runs 0 xs
  rows_live = live_of m m (runs 0 xs) fits e

  pub rows_laid : Laid m
  rows_laid = laid_of m m (runs 0 xs) fits e

  pub rows_normal : Normal 0 (live m)
  rows_normal = rw rows_live (runs_normal 0 xs)

  pub rows_spread : spread (live m) ≡ xs
  rows_spread = ap spread rows_live ∙ spread_runs 0 xs tidy

  pub rows_total : total (live m) ≡ length xs
  rows_total = sym (length_spread (live m)) ∙ ap length rows_spread

  -- the search finds the row's parent and index, and none exactly at and past the last row
  pub find_row : (r i : ℕ) (d : Row) → region_at (live m) r ≡ Some i → get_or xs r d ≡ ((at (live m) i).node, child_at (at (live m) i) r)
  find_row r i d h = ap (λ (l : List Row). get_or l r d) (sym rows_spread) ∙ row_at (live m) rows_normal.tiled r i d h

  pub find_none : (r : ℕ) → region_at (live m) r ≡ None → length xs ≤ r
  find_none r h = omega (arith, rows_total, none_past (live m) rows_normal.tiled r h)

  pub find_past : (r : ℕ) → length xs ≤ r → region_at (live m) r ≡ None
  find_past r h = none_at (live m) rows_normal.tiled r (omega (arith, rows_total))

  -- the last row of a region, so an index below its node's count bounds offset and length
  pub region_last : (i : ℕ) (d : Row) → i < length (live m) → get_or xs ((at (live m) i).start + (at (live m) i).length - 1) d ≡ ((at (live m) i).node, (at (live m) i).offset + (at (live m) i).length - 1)
  region_last i d h =
      let q = at (live m) i in
      let some : 0 < (at (live m) i).length = tiled_length 0 (live m) rows_normal.tiled i h in
      find_row (q.start + q.length - 1) i d (hit_at (live m) rows_normal.tiled (q.start + q.length - 1) i (record { below = h; low = omega arith; high = omega arith }))
      ∙ ap (λ (n : ℕ). (q.node, n)) (omega arith)

  -- nothing to merge
  pub merge_runs : laid m (joined (live m)) ≡ m
  merge_runs = ap (laid m) (ap joined rows_live ∙ runs_joined 0 xs) ∙ sym e

  -- c rows of node k below row r
  expand_is : (r i k c : ℕ) → region_at (live m) r ≡ Some i → 0 < c → NoRow k xs → expanded (live m) i r k c ≡ runs 0 (insert (suc r) (stretch k 0 c) xs)
  expand_is r i k c h c0 a =
      expand_rows (live m) rows_normal i r k c (at_holds (live m) r i h) c0 (rw rows_live (absent_runs k 0 xs a)) ∙ ap (λ (l : List Row). runs 0 (insert (suc r) (stretch k 0 c) l)) rows_spread

  pub expand_runs : (r i k c : ℕ) → region_at (live m) r ≡ Some i → 0 < c → NoRow k xs → laid m (expanded (live m) i r k c) ≡ laid m (runs 0 (insert (suc r) (stretch k 0 c) xs))
  expand_runs r i k c h c0 a = ap (laid m) (expand_is r i k c h c0 a)

  -- so there is nothing to merge after it
  pub expand_joined : (r i k c : ℕ) → region_at (live m) r ≡ Some i → 0 < c → NoRow k xs → joined (expanded (live m) i r k c) ≡ expanded (live m) i r k c
  expand_joined r i k c h c0 a = ap joined (expand_is r i k c h c0 a) ∙ runs_joined 0 (insert (suc r) (stretch k 0 c) xs) ∙ sym (expand_is r i k c h c0 a)

  -- the rows of region i out
  pub collapse_runs : (i : ℕ) → i < length (live m) → laid m (joined (collapsed (live m) i)) ≡ laid m (runs 0 (remove (at (live m) i).start (at (live m) i).length xs))
  collapse_runs i h = ap (laid m) (collapse_rows (live m) rows_normal.tiled i h ∙ ap (λ (l : List Row). runs 0 (remove (at (live m) i).start (at (live m) i).length l)) rows_spread)

  -- c rows of node k, from index o on, at row s
  pub grow_runs : (i s k o c : ℕ) → total (take i (live m)) ≡ s → 0 < c → laid m (joined (grown (live m) i s k o c)) ≡ laid m (runs 0 (insert s (stretch k o c) xs))
  grow_runs i s k o c h c0 = ap (laid m) (grow_rows (live m) i s k o c rows_normal.tiled h c0 ∙ ap (λ (l : List Row). runs 0 (insert s (stretch k o c) l)) rows_spread)

  -- where they go: before the region found at a row with another parent than the row before it, or past the last region
  pub grow_found : (s i : ℕ) (d : Row) → region_at (live m) s ≡ Some i → 0 < s → (get_or xs (s - 1) d).0 ≢ (get_or xs s d).0 → total (take i (live m)) ≡ s
  grow_found s i d h s0 n = go (dec_lt (at (live m) i).start s)
    where
      w : Holds (live m) s i
      w = at_holds (live m) s i h

      t : Tiled 0 (live m)
      t = rows_normal.tiled

      go : Dec ((at (live m) i).start < s) → total (take i (live m)) ≡ s
      go (yes l) =
          let v : Holds (live m) (s - 1) i = record { below = w.below; low = omega arith; high = omega (arith, w.high) } in
          absurd (n (ap (λ (x : Row). x.0) (find_row (s - 1) i d (hit_at (live m) t (s - 1) i v)) ∙ sym (ap (λ (x : Row). x.0) (find_row s i d h))))
      go (no l) = omega (arith, w.low, total_take 0 (live m) t i w.below)

  pub grow_past : (i : ℕ) → length (live m) ≤ i → total (take i (live m)) ≡ length xs
  grow_past i h = ap total (take_all i (live m) h) ∙ rows_total
