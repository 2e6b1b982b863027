-- The tests of an update: of a node's item, of a step, and along the visits.
use Prim.Native.Nat.{ℕ, ◌+◌, ◌-◌, ◌≤◌, ◌<◌}
use native.Mathlib.Omega.{arith}
use native.Mathlib.Nat.{zero-add}
use native.Mathlib.Numerals.{add-one}
use mathlib.Core.Path.{◌≡◌, refl, sym, ap, ◌∙◌}
use mathlib.Core.Bool.{Bool, true, false, ◌||◌}
use mathlib.Core.List.{List, [], ◌∷◌}
use lib.Dec.{ltb}
use lib.ListN.{length, get_or, drop, drop_of_length-le}
use lib.Seq.{drop-cons}
use borrow.Author.Tests.{le-leb, lt-leb, lt-ltb, le-ltb, ltb-true, ltb-false}
use Rattle.std.specs.List.{All, list_any}
use Rattle.std.proofs.lemmas.List.Elements.{All-from_get_or}
use Rattle.model.specs.declared.Node.{Node}
use Rattle.model.specs.declared.Model.{Model}
use Rattle.model.specs.declared.Step.{Step}
use Rattle.model.specs.declared.Step.TheVariants.{Text, Grow}
use Rattle.model.specs.Places.{row_limit}
use Rattle.model.specs.Table.{entries, item_count}
use Rattle.model.specs.Nodes.{node_at, is_open}
use Rattle.model.specs.Rows.{row_total}
use Rattle.model.specs.Sound.{sound}
use Rattle.model.specs.Logs.{state}
use Rattle.model.specs.Update.{visits, went_back, any_went_back, steps}
use Rattle.orders.proofs.Answers.{visits_small}
use Rattle.steps.specs.Course.{node_of}
use Rattle.steps.specs.Growth.{added_rows, growth}
use Rattle.steps.proofs.Settling.{sound_of, sound_given}
use Rattle.steps.proofs.Visits.{update_row_total}
use Rattle.tree_list.specs.Updating.{node_back, step_back, step_rows}

module _ (t : List ℕ) (n : Node) where
  pub back_away : ltb n.entry (entries t) ≡ false → node_back t n ≡ true
  unfolding node_back
  back_away h = rw (le-leb (entries t) n.entry (ltb-false n.entry (entries t) h))

  pub back_there : ltb n.entry (entries t) ≡ true → (c : ℕ) → c ≡ item_count t n.entry → node_back t n ≡ ltb c n.direct
  unfolding node_back
  back_there h c e = rw (lt-leb (entries t) n.entry (ltb-true n.entry (entries t) h), ← e)

  pub rows_closed : is_open n ≡ false → added_rows t n ≡ 0
  unfolding added_rows
  rows_closed c = rw c

  pub rows_open : is_open n ≡ true → (c : ℕ) → c ≡ item_count t n.entry → added_rows t n ≡ c - n.direct
  unfolding added_rows
  rows_open o c e = rw (o, ← e)

-- along a list of steps, by its first
module _ (t : List ℕ) (ns : List Node) where
  abbrev node : Step → Node
  node e = node_at ns (node_of e)

  -- the item of some text step's node went back
  pub any_back : (es : List Step) → list_any (λ e. step_back t (node e) e) es ≡ any_went_back t ns es
  unfolding any_went_back went_back node_back
  any_back [] = refl
  any_back (Text k ∷ es) = ap (λ (b : Bool). node_back t (node_at ns k) || b) (any_back es)
  any_back (Grow k ∷ es) = any_back es

  growth_first : (e : Step) (es : List Step) → growth t ns (e ∷ es) ≡ step_rows t (node e) e + growth t ns es
  unfolding growth
  growth_first (Text k) es = sym (zero-add (growth t ns es))
  growth_first (Grow k) es = refl

-- the visits' nodes have places
pub visits_inside : (m : Model) → sound m ≡ true → (es : List Step) → es ≡ visits m.nodes → All (λ e. node_of e < 256) es
visits_inside m s es h = All-from_get_or (λ e. node_of e < 256) es (Text 0) (visits_small m.nodes (sound_of m s).well es h (Text 0))

-- along the visits of a sound model, of which i are behind
module _ (t : List ℕ) (m : Model) (s : sound m ≡ true) (es : List Step) (h : es ≡ visits m.nodes) (i : ℕ) where
  abbrev ns : List Node
  ns = m.nodes

  abbrev now : Step
  now = get_or es i (Text 0)

  abbrev rest : List Step
  rest = drop (i + 1) es

  ahead : i < length es → drop i es ≡ now ∷ rest
  ahead l = rw (add-one, drop-cons es i (Text 0) l)

  -- the rows that are still to come
  abbrev Summed : ℕ → ℕ → Type 0
  Summed sum j = sum + growth t ns (drop j es) ≡ row_total ns + growth t ns es

  growth_ahead : i < length es → growth t ns (drop i es) ≡ step_rows t (node t ns now) now + growth t ns rest
  growth_ahead l = ap (growth t ns) (ahead l) ∙ growth_first t ns now rest

  pub sum_next : i < length es → (sum : ℕ) → Summed sum i → (c : ℕ) → c ≡ step_rows t (node t ns now) now → Summed (sum + c) (i + 1)
  sum_next l sum v c e = omega (arith, v, growth_ahead l, e)

  module _ (nb : any_went_back t ns es ≡ false) where
    abbrev later : ℕ
    later = row_total (steps t (state ns []) es).nodes

    grown : later ≡ row_total ns + growth t ns es
    grown = rw h (update_row_total t ns (sound_of m s).well (rw h at nb))

    pub limit_passed : i < length es → (sum : ℕ) → Summed sum i → sum ≤ row_limit → (c : ℕ) → c ≡ step_rows t (node t ns now) now → row_limit - sum < c → true ≡ ltb row_limit later
    limit_passed l sum v k c e p = sym (lt-ltb row_limit later (omega (arith, v, growth_ahead l, e, grown)))

    pub limit_kept : length es ≤ i → (sum : ℕ) → Summed sum i → sum ≤ row_limit → false ≡ ltb row_limit later
    unfolding growth
    limit_kept l sum v k =
        let z : growth t ns (drop i es) ≡ 0 = ap (growth t ns) (drop_of_length-le es l) in
        sym (le-ltb row_limit later (omega (arith, v, z, grown)))

pub sum_start : (t : List ℕ) (m : Model) → sound m ≡ true → (es : List Step) → m.published + growth t m.nodes es ≡ row_total m.nodes + growth t m.nodes es
sum_start t m s es = ap (λ (c : ℕ). c + growth t m.nodes es) (sound_given m (sound_of m s)).published
