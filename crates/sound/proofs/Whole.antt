-- The whole test, part by part.
use Prim.Native.Nat.{ℕ, ◌<◌, ◌≤◌}
use mathlib.Core.Path.{◌≡◌, refl, sym, ap, ◌∙◌}
use mathlib.Core.Logic.{◌≢◌}
use mathlib.Core.Bool.{Bool, true, false, not, ◌&&◌}
use lib.ListN.{length, drop}
use lib.Dec.{eqb, leb, ltb}
use borrow.Author.Tests.{eq-eqb, ne_eqb, eqb-true, eqb-false, ltb-false}
use Rattle.model.specs.declared.Model.{Model}
use Rattle.model.specs.Places.{pad, row_limit}
use Rattle.model.specs.Nodes.{node_at}
use Rattle.model.specs.Rows.{rows, row_total, total_of}
use Rattle.model.specs.Regions.{runs, no_region}
use Rattle.model.specs.Settle.{totalled, settle}
use Rattle.model.specs.Sound.{nodes_ok, same_node, same_region, same_list, same_model, sound}
use Rattle.nodes.proofs.Tests.{keep, stop}
use Rattle.sound.specs.Tests.{places_ok, has_twins, totals_ok, regions_ok}
use Rattle.sound.proofs.Formed.{no_twins, nodes_places, places_nodes}
use Rattle.sound.proofs.Course.{regions_many}
use Rattle.sound.proofs.Totals.{totals_chains, totals_settled, total_rows}
use Rattle.lists.proofs.Bools.{differ}
use Rattle.tree.proofs.WellFormed.{open_used, well_formed, zero_open}
use Rattle.tree.specs.WellFormed.{WellFormed}

regroup : (e n a b c d l : Bool) → e ≡ true → (e && n && (a && b && c && d) && l) ≡ (n && (a && ((b && c) && (d && l))))
regroup e n a b c d l h = rw h (go n a b c)
  where
    go : (n a b c : Bool) → (n && (a && b && c && d) && l) ≡ (n && (a && ((b && c) && (d && l))))
    go false a b c = refl
    go true false b c = refl
    go true true false c = refl
    go true true true false = refl
    go true true true true = refl

module _ (m : Model) (size : length m.nodes ≡ 256) where
  split : sound m ≡ (nodes_ok m.nodes 0 m.nodes && (same_list same_node m.nodes (totalled m.nodes 0 m.nodes) && (regions_ok m.nodes m.regions m.region_count && (eqb m.published (row_total m.nodes) && leb (row_total m.nodes) row_limit))))
  unfolding sound same_model settle regions_ok
  split =
      regroup (eqb (length m.nodes) 256) (nodes_ok m.nodes 0 m.nodes) (same_list same_node m.nodes (totalled m.nodes 0 m.nodes))
      (same_list same_region m.regions (pad 512 no_region (runs 0 (rows m.nodes)))) (eqb m.region_count (length (runs 0 (rows m.nodes))))
      (eqb m.published (row_total m.nodes)) (leb (row_total m.nodes) row_limit) (eq-eqb (length m.nodes) 256 size)

  well : nodes_ok m.nodes 0 m.nodes ≡ true → WellFormed m.nodes
  well = well_formed m.nodes size

  -- what is false if the nodes are well-formed makes the model not sound
  not_sound : (nodes_ok m.nodes 0 m.nodes ≡ true → sound m ≡ false) → false ≡ sound m
  not_sound h = go (nodes_ok m.nodes 0 m.nodes) refl
    where
      go : (b : Bool) → nodes_ok m.nodes 0 m.nodes ≡ b → false ≡ sound m
      go true e = sym (h e)
      go false e = stop _ _ e ∙ sym split

  pub twins_bad : has_twins (drop 1 m.nodes) ≡ true → false ≡ sound m
  twins_bad e = not_sound (λ t. absurd (differ e (no_twins m.nodes (well t))))

  pub places_bad : places_ok m.nodes ≡ false → false ≡ sound m
  places_bad e = not_sound (λ t. absurd (differ (nodes_places m.nodes t) e))

  pub totals_bad : totals_ok m.nodes ≡ false → false ≡ sound m
  totals_bad e = not_sound (λ t. split ∙ sym (keep _ _ _ t (stop _ _ (sym (totals_settled m.nodes (well t)) ∙ e))))

  pub formed : has_twins (drop 1 m.nodes) ≡ false → places_ok m.nodes ≡ true → totals_ok m.nodes ≡ true → (b : ℕ) → ((k : ℕ) → (node_at m.nodes k).total < b) → nodes_ok m.nodes 0 m.nodes ≡ true
  formed none places totals b low = places_nodes m.nodes none places (totals_chains m.nodes size places totals b low)

  module _ (t : nodes_ok m.nodes 0 m.nodes ≡ true) (totals : totals_ok m.nodes ≡ true) where
    pub all_rows : (node_at m.nodes 0).total ≡ row_total m.nodes
    unfolding total_of rows
    all_rows = total_rows m.nodes (well t) totals 0 (open_used m.nodes 0 (zero_open m.nodes (well t)))

    abbrev last : Bool
    last = regions_ok m.nodes m.regions m.region_count && (eqb m.published (row_total m.nodes) && leb (row_total m.nodes) row_limit)

    rest : (b : Bool) → b ≡ last → b ≡ sound m
    rest b e = keep _ _ _ t (keep _ _ _ (sym (totals_settled m.nodes (well t)) ∙ totals) e) ∙ sym split

    pub regions_bad : regions_ok m.nodes m.regions m.region_count ≡ false → false ≡ sound m
    regions_bad e = rest false (stop _ _ e)

    pub count_bad : 512 ≤ m.region_count → false ≡ sound m
    count_bad l = regions_bad (regions_many m.nodes (well t) m.regions m.region_count l)

    module _ (regions : regions_ok m.nodes m.regions m.region_count ≡ true) where
      pub published_bad : m.published ≢ (node_at m.nodes 0).total → false ≡ sound m
      published_bad d = rest false (keep _ _ _ regions (stop _ _ (ne_eqb m.published (row_total m.nodes) (λ z. d (z ∙ sym all_rows)))))

      pub limit_left : m.published ≡ (node_at m.nodes 0).total → leb m.published row_limit ≡ sound m
      limit_left h =
          let e = h ∙ all_rows in
          rest (leb m.published row_limit) (keep _ _ _ regions (keep _ _ _ (eq-eqb m.published (row_total m.nodes) e) (ap (λ (n : ℕ). leb n row_limit) e)))

  -- the parts of the test, in their order
  pub parts_sound : (b : ℕ) → ((k : ℕ) → (node_at m.nodes k).total < b)
      → (not (has_twins (drop 1 m.nodes)) && places_ok m.nodes && totals_ok m.nodes && ltb m.region_count 512 && regions_ok m.nodes m.regions m.region_count && eqb m.published (node_at m.nodes 0).total && leb m.published row_limit) ≡ sound m
  parts_sound b low = go (has_twins (drop 1 m.nodes)) (places_ok m.nodes) (totals_ok m.nodes) (ltb m.region_count 512) (regions_ok m.nodes m.regions m.region_count) (eqb m.published (node_at m.nodes 0).total) refl refl refl refl refl refl
    where
      go : (t p s c r e : Bool) → has_twins (drop 1 m.nodes) ≡ t → places_ok m.nodes ≡ p → totals_ok m.nodes ≡ s → ltb m.region_count 512 ≡ c → regions_ok m.nodes m.regions m.region_count ≡ r → eqb m.published (node_at m.nodes 0).total ≡ e
          → (not t && p && s && c && r && e && leb m.published row_limit) ≡ sound m
      go true p s c r e et ep es ec er ee = twins_bad et
      go false false s c r e et ep es ec er ee = places_bad ep
      go false true false c r e et ep es ec er ee = totals_bad es
      go false true true false r e et ep es ec er ee = count_bad (formed et ep es b low) es (ltb-false m.region_count 512 ec)
      go false true true true false e et ep es ec er ee = regions_bad (formed et ep es b low) es er
      go false true true true true false et ep es ec er ee = published_bad (formed et ep es b low) es er (eqb-false _ _ ee)
      go false true true true true true et ep es ec er ee = limit_left (formed et ep es b low) es er (eqb-true _ _ ee)
