-- The rows of a node's children, none of which is open: they are one region, and without it the regions are those of the rows that are left.
use Prim.Native.Nat.{ℕ, zero, suc, ◌+◌, ◌^◌, ◌<◌}
use native.Mathlib.Omega.{arith}
use native.Mathlib.Nat.{zero-add}
use native.Mathlib.Numerals.{add-one}
use mathlib.Core.Path.{◌≡◌, refl, sym, ap, ◌∙◌}
use mathlib.Core.Logic.{◌≢◌}
use mathlib.Core.List.{List, [], ◌∷◌, ◌++◌, append_assoc}
use lib.ListN.{length, get_or, take, drop, length-drop, get_or-append}
use lib.Seq.{length-take-le, get_or-take, get_or-drop, get_or-append-add}
use Rattle.model.specs.declared.Node.{Node}
use Rattle.model.specs.declared.Model.{Model}
use Rattle.model.specs.declared.Region.{Region}
use Rattle.std.specs.Prelude.{Some, None}
use Rattle.model.specs.Nodes.{direct_of, open_child}
use Rattle.model.specs.Rows.{Row, rows, row_of}
use Rattle.model.specs.Regions.{runs, region}
use Rattle.runs.specs.Edits.{remove}
use Rattle.runs.specs.Regions.{stretch, at, Parted}
use Rattle.runs.specs.Search.{region_at}
use Rattle.runs.specs.Changes.{joined, collapsed}
use Rattle.runs.specs.Laid.{live, laid}
use Rattle.runs.proofs.Rows.{run_at, run_found, rows_live, collapse_runs}
use Rattle.runs.proofs.Search.{at_holds, length_stretch}
use Rattle.tree.specs.WellFormed.{Used, Opens, up, ix, WellFormed}
use Rattle.tree.proofs.Over.{up≢}
use Rattle.tree.proofs.Rows.{row_of_lem, row_follows}
use Rattle.tree.proofs.WellFormed.{open_used}
use Rattle.steps.specs.Changes.{closed_at}
use Rattle.steps.specs.Settled.{Sound}
use Rattle.steps.proofs.Opening.{row_shows}
use Rattle.steps.proofs.Closing.{close_rows, close_stretch}
use Rattle.edits.specs.Closable.{Closable}
use Rattle.steps.proofs.SoundRegions.{laid_rows, few, neat}

get_or_stretch : (k i n j : ℕ) (d : Row) → j < n → get_or (stretch k i n) j d ≡ (k, i + j)
get_or_stretch k i zero j d h = absurd (omega arith)
get_or_stretch k i (suc n) zero d h = ap (λ (m : ℕ). (k, m)) (omega arith)
get_or_stretch k i (suc n) (suc j) d h = get_or_stretch k (suc i) n j d (omega arith) ∙ ap (λ (m : ℕ). (k, m)) (omega arith)

-- the last of xs and the first of ys have different parents
parted_by : (xs ys : List Row) (d : Row) → ((i : ℕ) → suc i ≡ length xs → 0 < length ys → (get_or xs i d).0 ≢ (get_or ys 0 d).0) → Parted xs ys
parted_by [] ys d h = tt
parted_by (x ∷ []) [] d h = tt
parted_by (x ∷ []) (y ∷ ys) d h = h 0 refl (omega arith)
parted_by (x ∷ z ∷ xs) ys d h = parted_by (z ∷ xs) ys d (λ i e l. h (suc i) (ap suc e) l)

-- the rows of a sound model's regions
module _ (m : Model) (S : Sound m) where
  -- the region of node k's children, where none of them is open
  module _ (k : ℕ) (o : Opens m.nodes (suc k)) (none : (i : ℕ) → open_child m.nodes (suc k) i ≡ 0) where
    abbrev ns : List Node
    ns = m.nodes

    w : WellFormed ns
    w = S.well

    u : Used ns (suc k)
    u = open_used ns (suc k) o

    abbrev first : ℕ
    first = suc (row_of ns (suc k))

    abbrev many : ℕ
    many = direct_of ns (suc k)

    abbrev before : List Row
    before = take first (rows ns)

    abbrev after : List Row
    after = drop (first + many) (rows ns)

    some : 0 < many
    some = (w.placed k u).filled o

    before_length : length before ≡ first
    before_length = length-take-le first (rows ns) (row_of_lem ns w k u).0

    parts : rows ns ≡ before ++ (stretch (suc k) 0 many ++ after)
    parts = close_stretch ns w k o none ∙ append_assoc before (stretch (suc k) 0 many) after

    -- the rows from the first on are its children
    child_row : (i : ℕ) → i < many → get_or (rows ns) (first + i) (0, 0) ≡ (suc k, i)
    child_row i h =
        ap (λ (l : List Row). get_or l (first + i) (0, 0)) parts
        ∙ ap (λ (n : ℕ). get_or (before ++ (stretch (suc k) 0 many ++ after)) (n + i) (0, 0)) (sym before_length)
        ∙ get_or-append-add before (stretch (suc k) 0 many ++ after) i (0, 0)
        ∙ get_or-append (stretch (suc k) 0 many) after (0, 0) i (rw length_stretch h)
        ∙ get_or_stretch (suc k) 0 many i (0, 0) h
        ∙ ap (λ (n : ℕ). (suc k, n)) (zero-add i)

    parted_before : Parted before (stretch (suc k) 0 many)
    parted_before = parted_by before (stretch (suc k) 0 many) (0, 0) apart
      where
        apart : (i : ℕ) → suc i ≡ length before → 0 < length (stretch (suc k) 0 many) → (get_or before i (0, 0)).0 ≢ (get_or (stretch (suc k) 0 many) 0 (0, 0)).0
        apart i e l q =
            let h : i ≡ row_of ns (suc k) = omega (arith, before_length) in
            let own : get_or before i (0, 0) ≡ (up ns (suc k), ix ns (suc k)) =
            get_or-take first (rows ns) i (0, 0) (omega arith) ∙ ap (λ (r : ℕ). get_or (rows ns) r (0, 0)) h ∙ (row_of_lem ns w k u).1 in
            up≢ ns w k u (sym (ap (λ (x : Row). x.0) own) ∙ q ∙ ap (λ (x : Row). x.0) (get_or_stretch (suc k) 0 many 0 (0, 0) some))

    parted_after : Parted (stretch (suc k) 0 many) after
    parted_after = parted_by (stretch (suc k) 0 many) after (0, 0) apart
      where
        apart : (i : ℕ) → suc i ≡ length (stretch (suc k) 0 many) → 0 < length after → (get_or (stretch (suc k) 0 many) i (0, 0)).0 ≢ (get_or after 0 (0, 0)).0
        apart i e l q =
            let h : suc i ≡ many = e ∙ length_stretch (suc k) 0 many in
            let r = first + i in
            let n : first + many + 0 ≡ suc r = omega arith in
            let x = get_or (rows ns) (suc r) (0, 0) in
            let lt : suc r < length (rows ns) = omega (arith, length-drop (first + many) (rows ns)) in
            let same : get_or after 0 (0, 0) ≡ x = get_or-drop (first + many) (rows ns) 0 (0, 0) ∙ ap (λ (y : ℕ). get_or (rows ns) y (0, 0)) n in
            let parent : x.0 ≡ suc k = sym (ap (λ (y : Row). y.0) same) ∙ sym q ∙ ap (λ (y : Row). y.0) (get_or_stretch (suc k) 0 many i (0, 0) (omega arith)) in
            let next = row_follows ns w r (suc k) i x.1 lt (child_row i (omega arith)) (ap (λ (y : ℕ). (y, x.1)) parent) in
            let inside : x.1 < direct_of ns (suc k) = rw parent at (row_shows ns w (suc r) lt).1 in
            omega arith

    abbrev spot : ℕ
    spot = length (runs 0 before)

    live_parts : live m ≡ runs 0 (before ++ (stretch (suc k) 0 many ++ after))
    live_parts = rows_live m (rows ns) (laid_rows m S) (few m S) (neat m S) ∙ ap (runs 0) parts

    found : region_at (live m) first ≡ Some spot
    found =
        ap (λ (l : List Region). region_at l first) live_parts
        ∙ ap (region_at (runs 0 (before ++ (stretch (suc k) 0 many ++ after)))) (sym before_length)
        ∙ run_found before after (suc k) 0 many some parted_before parted_after

    spot_is : at (live m) spot ≡ region first (suc k) 0 many
    spot_is =
        ap (λ (l : List Region). at l spot) live_parts
        ∙ run_at before after (suc k) 0 many some parted_before parted_after
        ∙ ap (λ (s : ℕ). region s (suc k) 0 many) before_length

    spot_below : spot < length (live m)
    spot_below = (at_holds (live m) first spot found).below

    -- without it the regions are those of the rows that are left
    spot_out : laid m (joined (collapsed (live m) spot)) ≡ laid m (runs 0 (rows (closed_at ns (suc k))))
    spot_out =
        collapse_runs m (rows ns) (laid_rows m S) (few m S) (neat m S) spot spot_below
        ∙ ap (λ (g : Region). laid m (runs 0 (remove g.start g.length (rows ns)))) spot_is
        ∙ ap (λ (l : List Row). laid m (runs 0 l)) (sym (close_rows ns w k o none))

-- by the node's number, as the code reads it
module _ (m : Model) (S : Sound m) where
  abbrev next_row : ℕ → ℕ
  next_row k = row_of m.nodes k + 1

  pub next_row_fits : (k : ℕ) → Closable m.nodes k → next_row k < 2 ^ 64
  next_row_fits zero C = absurd (omega (arith, C.above))
  next_row_fits (suc k) C = omega (arith, (row_of_lem m.nodes S.well k (open_used m.nodes (suc k) C.opens)).0, S.limit)

  pub next_row_found : (k : ℕ) → Closable m.nodes k → region_at (live m) (next_row k) ≡ None → ⊥
  next_row_found zero C n = absurd (omega (arith, C.above))
  next_row_found (suc k) C n =
      let f : region_at (live m) (next_row (suc k)) ≡ Some (spot m S k C.opens C.none) = ap (region_at (live m)) (add-one (row_of m.nodes (suc k))) ∙ found m S k C.opens C.none in
      let z : ◌≡◌ {A = ℕ} 0 1 = cc in
      omega arith

  pub children_out : (k : ℕ) → Closable m.nodes k → (i : ℕ) → region_at (live m) (next_row k) ≡ Some i → laid m (joined (collapsed (live m) i)) ≡ laid m (runs 0 (rows (closed_at m.nodes k)))
  children_out zero C i e = absurd (omega (arith, C.above))
  children_out (suc k) C i e =
      let f : region_at (live m) (next_row (suc k)) ≡ Some (spot m S k C.opens C.none) = ap (region_at (live m)) (add-one (row_of m.nodes (suc k))) ∙ found m S k C.opens C.none in
      let g : i ≡ spot m S k C.opens C.none = cc in
      rw g (spot_out m S k C.opens C.none)

  pub found_below : (r i : ℕ) → region_at (live m) r ≡ Some i → i < length (live m)
  found_below r i e = (at_holds (live m) r i e).below
