-- A sound model whose open node grows: where the new rows go, what they make of the regions, and the whole as it settles.
use Prim.Native.Nat.{ℕ, zero, suc, ◌+◌, ◌-◌, ◌^◌, ◌≤◌, ◌<◌}
use native.Mathlib.Omega.{arith}
use mathlib.Core.Path.{◌≡◌, refl, sym, ap, ◌∙◌}
use mathlib.Core.List.{List, ◌++◌, append_assoc}
use lib.ListN.{length, take, drop, set}
use Rattle.model.specs.declared.Node.{Node}
use Rattle.model.specs.declared.Model.{Model}
use Rattle.model.specs.declared.RowNumber.{RowNumber}
use Rattle.std.specs.Prelude.{Option, Some, None}
use Rattle.std.specs.Option.{unwrap_or}
use Rattle.model.specs.Places.{region_places, row_limit}
use Rattle.model.specs.Nodes.{node_at, direct_of, with_direct}
use Rattle.model.specs.Rows.{Row, rows, row_total, row_of, total_of}
use Rattle.model.specs.Regions.{runs}
use Rattle.model.specs.Settle.{settle}
use Rattle.model.specs.Update.{end_of}
use Rattle.runs.specs.Regions.{stretch, total}
use Rattle.runs.specs.Search.{region_at}
use Rattle.runs.specs.Changes.{joined, grown}
use Rattle.runs.specs.Laid.{live, laid}
use Rattle.runs.proofs.Rows.{grow_runs, grow_found, grow_past}
use Rattle.runs.proofs.Search.{at_holds}
use Rattle.tree.specs.WellFormed.{Opens}
use Rattle.tree.proofs.WellFormed.{open_used, used_small}
use Rattle.tree.proofs.Regions.{regions_fit}
use Rattle.tree.proofs.Rows.{end_fits}
use Rattle.steps.specs.Settled.{Sound, with_nodes}
use Rattle.steps.proofs.SoundRegions.{few, neat, laid_rows, sound_laid, sound_regions, sound_total, row_none, found_inside}
use Rattle.steps.proofs.Settling.{sound_given, given_settle}
use Rattle.steps.proofs.Growing.{grow_rows, grow_row_total}
use Rattle.steps.proofs.Totals.{grow_totalled}
use Rattle.edits.specs.Growing.{raised, Growable, Raisable}
use Rattle.edits.proofs.EndOf.{end_after, end_parted}
use Rattle.edits.proofs.Raising.{grown_own, raised_bare, raised_raised}

module _ (m : Model) (S : Sound m) where
  abbrev ns : List Node
  ns = m.nodes

  -- room for a region more
  pub sound_few : length (live m) < region_places
  sound_few = omega (arith, ap length (sound_regions m S), regions_fit ns S.well)

  module _ (k : ℕ) (o : Opens ns k) where
    -- the end, as it is worked out from what the model holds
    pub end_root : k ≡ 0 → m.published ≡ end_of ns k
    unfolding end_of
    end_root e = rw e (sound_given m S).published

    pub end_row : (k ≡ 0 → ⊥) → (x : RowNumber) → x ≡ record { 0 = row_of ns k } → x.0 + 1 + (node_at ns k).total ≡ end_of ns k
    unfolding end_of
    end_row n x e = ap (λ (y : RowNumber). y.0 + 1 + (node_at ns k).total) e ∙ go k n o
      where
        go : (k : ℕ) → (k ≡ 0 → ⊥) → Opens ns k → row_of ns k + 1 + (node_at ns k).total ≡ end_of ns k
        go zero n o = absurd (n refl)
        go (suc k) n o = omega (arith, (sound_given m S).totals.total (suc k) (open_used ns (suc k) o))

    pub end_limit : end_of ns k ≤ row_limit
    end_limit = omega (arith, end_fits ns S.well k o, S.limit)

    pub total_limit : (node_at ns k).total ≤ row_total ns
    unfolding end_of
    total_limit = go k o
      where
        go : (k : ℕ) → Opens ns k → (node_at ns k).total ≤ row_total ns
        go zero o = unfold rows total_of in omega (arith, (sound_given m S).totals.total 0 (open_used ns 0 o))
        go (suc k) o = omega (arith, (sound_given m S).totals.total (suc k) (open_used ns (suc k) o), end_fits ns S.well (suc k) o)

    -- the place of the region that starts there, or the place after the last
    pub end_place : (r : Option ℕ) → r ≡ region_at (live m) (end_of ns k) → (unwrap_or r m.region_count ≤ length (live m)) × (total (take (unwrap_or r m.region_count) (live m)) ≡ end_of ns k)
    end_place None e =
        let c : m.region_count ≡ length (live m) = ap (λ (q : Model). q.region_count) (sound_laid m S) in (
          omega arith,
          grow_past m (rows ns) (laid_rows m S) (few m S) (neat m S) m.region_count (omega arith) ∙ (let p = row_none m S (end_of ns k) (sym e) in omega (arith, end_fits ns S.well k o)),
        )
    end_place (Some i) e = (omega (arith, (at_holds (live m) (end_of ns k) i (sym e)).below), go k o (sym e) (found_inside m S (end_of ns k) i (sym e)))
      where
        go : (k : ℕ) → Opens ns k → region_at (live m) (end_of ns k) ≡ Some i → end_of ns k < row_total ns → total (take i (live m)) ≡ end_of ns k
        go zero o h l = absurd (unfold end_of in omega arith)
        go (suc k) o h l = grow_found m (rows ns) (laid_rows m S) (few m S) (neat m S) (end_of ns (suc k)) i (0, 0) h (omega (arith, end_after ns S.well k o)) (end_parted ns S.well k o l)

module _ (m : Model) (k count : ℕ) (G : Growable m k count) where
  abbrev more : ℕ
  more = count - direct_of m.nodes k

  abbrev after : List Node
  after = set m.nodes k (with_direct count (node_at m.nodes k))

  pub raisable : Raisable m.nodes k count
  raisable = record {
    well = G.sound.well;
    opens = G.opens;
    more = G.more;
    fits = λ j o. omega (arith, total_limit m G.sound j o, G.limit);
  }

  count_more : count ≡ direct_of m.nodes k + more
  count_more = omega (arith, G.more)

  after_rows : rows after ≡ take (end_of m.nodes k) (rows m.nodes) ++ (stretch k (direct_of m.nodes k) more ++ drop (end_of m.nodes k) (rows m.nodes))
  after_rows =
      grow_rows m.nodes G.sound.well k (with_direct count (node_at m.nodes k)) (grown_own m.nodes k count raisable) G.opens more count_more
      ∙ append_assoc (take (end_of m.nodes k) (rows m.nodes)) (stretch k (direct_of m.nodes k) more) (drop (end_of m.nodes k) (rows m.nodes))

  pub room : total (live m) + more < 2 ^ 64
  room = omega (arith, sound_total m G.sound, G.limit)

  pub regions_after : (i : ℕ) → total (take i (live m)) ≡ end_of m.nodes k → laid m (joined (grown (live m) i (end_of m.nodes k) k (direct_of m.nodes k) more)) ≡ laid m (runs 0 (rows after))
  regions_after i h =
      let S = G.sound in
      grow_runs m (rows m.nodes) (laid_rows m S) (few m S) (neat m S) i (end_of m.nodes k) k (direct_of m.nodes k) more h (omega (arith, G.more))
      ∙ ap (λ (l : List Row). laid m (runs 0 l)) (sym after_rows)

  pub grown_settles : record { nodes = raised m.nodes k count; regions = (laid m (runs 0 (rows after))).regions; region_count = length (runs 0 (rows after)); published = m.published + more } ≡ settle after
  grown_settles =
      let g = sound_given m G.sound in
      let n = with_direct count (node_at m.nodes k) in
      let P = grown_own m.nodes k count raisable in
      given_settle after (record { nodes = raised m.nodes k count; regions = (laid m (runs 0 (rows after))).regions; region_count = length (runs 0 (rows after)); published = m.published + more })
      (record {
        nodes = raised_bare m.nodes k count raisable;
        totals = grow_totalled m.nodes G.sound.well k n P G.opens more count_more (raised m.nodes k count) g.totals refl (raised_raised m.nodes k count raisable);
        regions = refl;
        region_count = refl;
        published = ap (λ (t : ℕ). t + more) g.published ∙ sym (grow_row_total m.nodes G.sound.well k n P G.opens more count_more);
      })

  pub published_fits : m.published + more < 2 ^ 64
  published_fits = omega (arith, (sound_given m G.sound).published, G.limit)

  -- the same, by what the calls answered
  module _ (placed q : Model) (p : placed ≡ laid m (runs 0 (rows after))) where
    pub placed_raisable : Raisable placed.nodes k count
    placed_raisable = rw p raisable

    pub grown_model : q ≡ with_nodes placed (raised placed.nodes k count) → record { nodes = q.nodes; regions = q.regions; region_count = q.region_count; published = q.published + more } ≡ settle after
    grown_model e =
        ap (λ (r : Model). record { nodes = r.nodes; regions = r.regions; region_count = r.region_count; published = r.published + more }) (e ∙ ap (λ (r : Model). with_nodes r (raised r.nodes k count)) p)
        ∙ grown_settles

  -- the grown node's number is a place
  pub node_small : k < 256
  node_small = used_small m.nodes G.sound.well k (open_used m.nodes k G.opens)
