-- A row opened in place: its node is put, the totals above it are raised, its children become a region, and the count is published.
use Prim.Native.Nat.{ℕ, zero, suc, ◌+◌, ◌^◌, ◌≤◌, ◌<◌}
use native.Mathlib.Omega.{arith}
use mathlib.Core.Path.{◌≡◌, refl, sym, ap, ◌∙◌}
use mathlib.Core.Logic.{◌≢◌}
use mathlib.Core.Bool.{true}
use mathlib.Core.List.{List, append_assoc}
use lib.ListN.{length, set}
use Rattle.lists.proofs.Bools.{differ}
use Rattle.model.specs.declared.Node.{Node}
use Rattle.model.specs.declared.Region.{Region}
use Rattle.model.specs.declared.Model.{Model}
use Rattle.model.specs.Places.{depth, region_places}
use Rattle.model.specs.Nodes.{node_at, direct_of, with_open}
use Rattle.model.specs.Rows.{Row, rows, row_total, total_of}
use Rattle.model.specs.Regions.{runs}
use Rattle.model.specs.Settle.{settle}
use Rattle.runs.specs.Regions.{at, total, Tiled}
use Rattle.runs.specs.Search.{region_at, Holds}
use Rattle.runs.specs.Changes.{expanded}
use Rattle.runs.specs.Laid.{live, laid, Laid}
use Rattle.runs.proofs.Rows.{settle_laid, expand_runs}
use Rattle.runs.proofs.Search.{at_holds}
use Rattle.tree.specs.WellFormed.{Used, Opens, up, WellFormed}
use Rattle.tree.specs.Paths.{Over}
use Rattle.tree.proofs.WellFormed.{open_used, zero_open}
use Rattle.steps.specs.Changes.{Put}
use Rattle.steps.specs.Settled.{Given, Raised, with_nodes}
use Rattle.steps.proofs.Put.{put_same, put_other, put_used, put_keeps, put_well}
use Rattle.steps.proofs.Opening.{open_rows, open_row_total}
use Rattle.steps.proofs.Totals.{over_open, open_totalled}
use Rattle.steps.proofs.Settling.{given_settle, sound_given}
use Rattle.totals.specs.Totals.{moved_above, Above, AllMovable}
use Rattle.totals.proofs.Moves.{moved_above_lem, kept_else}
use Rattle.edits.specs.Openable.{Openable}
use Rattle.edits.proofs.Chains.{total_rows, over_to, over_of, moved_bare}
use Rattle.steps.proofs.SoundRegions.{few, neat, no_row, regions_room, found_inside, with_regions_lem, regions_laid, regions_tiled, regions_total, region_children}

-- the model with another published count
abbrev pub publishing : ℕ → Model → Model
publishing c m = record { nodes = m.nodes; regions = m.regions; region_count = m.region_count; published = c }

module _ (m : Model) (place r k : ℕ) (n : Node) (O : Openable m place r (suc k) n) where
  abbrev ns : List Node
  ns = m.nodes

  abbrev new : Node
  new = with_open true n

  abbrev opened : List Node
  opened = set ns (suc k) new

  abbrev news : List Node
  news = moved_above true n.direct depth opened (suc k)

  w : WellFormed ns
  w = O.whole.well

  P : Put ns (suc k) new
  P = O.put

  w' : WellFormed opened
  w' = put_well ns w (suc k) new P

  above : Opens ns n.parent
  above = P.seat.above

  up_is : up opened (suc k) ≡ n.parent
  up_is = ap (λ (z : Node). z.parent) (put_same ns w (suc k) new P)

  inside : r < row_total ns
  inside = found_inside m O.whole r place O.found

  -- the node's chain, in the old list and in the new one
  chain_of : (j : ℕ) → Above opened j (suc k) → Over ns j n.parent
  chain_of j a = over_of ns w opened (put_keeps ns w (suc k) new P) j n.parent (open_used ns n.parent above) (rw up_is at a)

  chain_to : (j : ℕ) → Over ns j n.parent → Above opened j (suc k)
  chain_to j v = rw up_is (over_to ns w opened (put_keeps ns w (suc k) new P) j n.parent (open_used ns n.parent above) v)

  movable : AllMovable true n.direct opened (suc k)
  movable j a =
      let o : Opens ns j = over_open ns w j n.parent above (chain_of j a) in
      let d : j ≢ suc k = λ e. differ (rw e at o) O.was in
      let t : (node_at opened j).total ≡ total_of ns j = ap (λ (z : Node). z.total) (put_other ns w (suc k) new P j d) ∙ (sound_given m O.whole).totals.total j (open_used ns j o) in
      omega (arith, t, total_rows ns w j o, O.room)

  raised : Raised ns n.parent n.direct opened news
  raised = record {
    over = λ j v. ap (λ (z : Node). z.total) (moved_above_lem opened w' true n.direct (suc k) (put_used ns w (suc k) new P) j (chain_to j v));
    else = λ j v. ap (λ (z : Node). z.total) (kept_else opened w' true n.direct (suc k) (put_used ns w (suc k) new P) j (λ a. v (chain_of j a)));
  }

  -- the regions with the children below their row
  abbrev grown : List Region
  grown = expanded (live m) place r (suc k) n.direct

  laid_after : laid m grown ≡ laid m (runs 0 (rows opened))
  laid_after =
      expand_runs m (rows ns) (settle_laid m ns O.whole.is) (few m O.whole) (neat m O.whole) r place (suc k) n.direct O.found O.filled (no_row m O.whole (suc k) O.was)
      ∙ ap (λ (xs : List Row). laid m (runs 0 xs)) (sym (simp append_assoc at (open_rows ns w k new P O.was refl r inside O.row)))

  given : Given opened (publishing (m.published + n.direct) (laid (with_nodes m news) grown))
  given = record {
    nodes = moved_bare opened w' true n.direct k (put_used ns w (suc k) new P);
    totals = open_totalled ns w k new P O.was refl r inside O.row news (sound_given m O.whole).totals O.flat raised;
    regions = ap (λ (q : Model). q.regions) laid_after;
    region_count = ap (λ (q : Model). q.region_count) laid_after;
    published = ap (λ (c : ℕ). c + n.direct) (sound_given m O.whole).published ∙ sym (open_row_total ns w k new P O.was refl r inside O.row);
  }

-- what the calls ask, and what they leave
module _ (m : Model) (place r : ℕ) (n : Node) where
  abbrev put : ℕ → List Node
  put k = set m.nodes k (with_open true n)

  not_zero : Openable m place r 0 n → ⊥
  not_zero O = differ (zero_open m.nodes O.whole.well) O.was

  pub update_asks : (k : ℕ) (x : Node) → Openable m place r k n → x ≡ with_open true n → let ns = set m.nodes k x in WellFormed ns × (Used ns k × AllMovable true n.direct ns k)
  update_asks zero x O e = absurd (not_zero O)
  update_asks (suc k) x O e =
      let w = O.whole.well in
      rw e (put_well m.nodes w (suc k) (with_open true n) O.put, (put_used m.nodes w (suc k) (with_open true n) O.put, movable m place r k n O))

  pub published_fits : (k : ℕ) → Openable m place r k n → m.published + n.direct < 2 ^ 64
  published_fits k O = omega (arith, (sound_given m O.whole).published, O.room)

  pub expand_asks :
      (k : ℕ) (q : Model) (ns : List Node)
      → Openable m place r k n
      → q ≡ with_nodes m ns
      → ((j : ℕ) → direct_of m.nodes j < 2 ^ 64)
      → Laid q × (Tiled 0 (live q) × (Holds (live q) r place × ((length (live q) + 2 ≤ region_places) × (total (live q) + n.direct < 2 ^ 64) × ((at (live q) place).offset + (at (live q) place).length < 2 ^ 64))))
  expand_asks zero q ns O e f = absurd (not_zero O)
  expand_asks (suc k) q ns O e f =
      let S = O.whole in
      let h : Holds (live q) r place = at_holds (live q) r place (ap (λ (x : Model). region_at (live x) r) e ∙ O.found) in (
        regions_laid m S q ns e,
        (
          regions_tiled m S q ns e,
          (
            h,
            (
              omega (arith, ap length (with_regions_lem m S q ns e), regions_room m S k O.put.small O.was),
              omega (arith, regions_total m S q ns e, O.room),
              omega (arith, region_children m S q ns e place h.below, f (at (live q) place).node),
            ),
          ),
        ),
      )

  pub open_settled :
      (k : ℕ) (x : Node) (a b : Model)
      → Openable m place r k n
      → x ≡ with_open true n
      → a ≡ with_nodes m (moved_above true n.direct depth (set m.nodes k x) k)
      → b ≡ laid a (expanded (live a) place r k n.direct)
      → publishing (b.published + n.direct) b ≡ settle (put k)
  open_settled zero x a b O d e f = absurd (not_zero O)
  open_settled (suc k) x a b O d e f =
      ap (λ (q : Model). publishing (q.published + n.direct) q)
      (f ∙ ap (λ (q : Model). laid q (expanded (live q) place r (suc k) n.direct)) (e ∙ ap (λ (z : Node). with_nodes m (moved_above true n.direct depth (set m.nodes (suc k) z) (suc k))) d))
      ∙ given_settle (put (suc k)) _ (given m place r k n O)
