-- The log of a closing has at most 255 records, that of an update at most 511.
use mathlib.Core.Path.{◌≡◌, refl}
use mathlib.Core.Bool.{Bool, true, false, cond, not, ◌&&◌, ◌||◌}
use mathlib.Core.List.{List, [], ◌∷◌, ◌++◌, flat_map}
use Prim.Native.Nat.{ℕ, zero, suc, ◌+◌, ◌≤◌, ◌<◌}
use native.Mathlib.Omega.{arith}
use lib.ListN.{length, length-append}
use lib.Dec.{eqb, ltb}
use Rattle.model.specs.declared.Node.{Node}
use Rattle.model.specs.declared.Record.{Record}
use Rattle.model.specs.Places.{depth, longest_chain}
use Rattle.model.specs.Table.{item_version}
use Rattle.model.specs.Nodes.{node_at, used, is_open, is_ongoing, children}
use Rattle.model.specs.Rows.{row_of}
use Rattle.model.specs.Logs.{State, state, rows_change, text_change, logged_if}
use Rattle.model.specs.Close.{closing_order, close_each}
use Rattle.model.specs.Update.{followed, visit, added, end_of, text_step, grow_step, step, steps, visits as all_visits}
use Rattle.model.specs.declared.Step.{Step}
use Rattle.model.specs.declared.Step.TheVariants.{Text, Grow}
use Rattle.steps.proofs.ClosingAll.{close_all_lem}
use Rattle.steps.proofs.Visits.{ongoing_used}
use Rattle.lists.proofs.Numbers.{count_le}
use Rattle.paths.specs.Order.{Under}
use Rattle.tree.proofs.Ascends.{Ascends, ascends_children, ascends_add, ascends_none, ascends_few}
use Rattle.tree.proofs.WellFormed.{open_used, zero_open}
use Rattle.tree.specs.Paths.{to, From}
use Rattle.tree.specs.WellFormed.{Used, Opens, WellFormed}

-- there are as many records as closed nodes
pub close_short : (ns : List Node) (w : WellFormed ns) (k : ℕ) → Opens ns (suc k) → length (close_each (state ns []) (closing_order ns depth (suc k))).log ≤ 255
close_short ns w k o =
    omega (arith, (close_all_lem ns w k o).size, count_le (λ j. is_open (node_at ns (suc j))) 255)

-- each node is visited once, by two steps that log one record at most

module _ (ns : List Node) where
  -- the nodes that a visit comes to
  abbrev visited : ℕ → ℕ → List ℕ
  visited zero k = []
  visited (suc f) k = k ∷ flat_map (λ j. visited f j) (followed ns k)

  length_each : (f : ℕ) → ((j : ℕ) → length (visit ns f j) ≡ length (visited f j) + length (visited f j)) → (ks : List ℕ) → let l = length (flat_map (λ j. visited f j) ks) in length (flat_map (λ j. visit ns f j) ks) ≡ l + l
  unfolding flat_map
  length_each f h [] = refl
  length_each f h (k ∷ ks) =
      omega (arith, length-append (visit ns f k) (flat_map (λ j. visit ns f j) ks), length-append (visited f k) (flat_map (λ j. visited f j) ks), h k, length_each f h ks)

  length_visit : (f k : ℕ) → length (visit ns f k) ≡ length (visited f k) + length (visited f k)
  unfolding visit
  length_visit zero k = refl
  length_visit (suc f) k =
      omega (arith, length-append (flat_map (λ j. visit ns f j) (followed ns k)) (Grow k ∷ []), length_each f (length_visit f) (followed ns k))

module _ (ns : List Node) (w : WellFormed ns) where
  ascend : (f k : ℕ) → Used ns k → Ascends ns used (Under (to ns k)) (visited ns f k)
  ascend zero k u = ascends_none ns used (Under (to ns k))
  ascend (suc f) k u = ascends_add ns w used (λ n t. t) k u (flat_map (λ j. visited ns f j) (followed ns k)) (go (is_open (node_at ns k)) (ascends_children ns w used (λ n t. t) is_ongoing ongoing_used (λ j. visited ns f j) (ascend f) k))
    where
      go : (b : Bool) → Ascends ns used (From ns k 0) (flat_map (λ j. visited ns f j) (children is_ongoing ns k)) → Ascends ns used (From ns k 0) (flat_map (λ j. visited ns f j) (cond b (children is_ongoing ns k) []))
      go true A = A
      go false A = none
        where
          none : Ascends ns used (From ns k 0) (flat_map (λ j. visited ns f j) [])
          none = unfold flat_map in ascends_none ns used (From ns k 0)

  pub visits_short : length (all_visits ns) ≤ 512
  visits_short = omega (arith, length_visit ns depth 0, ascends_few ns w used (λ n t. t) (Under (to ns 0)) (visited ns depth 0) (ascend depth 0 (open_used ns 0 (zero_open ns w))))

one_log : (b : Bool) (x : Record) → length (logged_if b x) ≤ 1
one_log true x = omega arith
one_log false x = omega arith

step_short : (t : List ℕ) (s : State) (e : Step) → length (step t s e).log ≤ suc (length s.log)
unfolding step text_step grow_step
step_short t s (Text zero) = omega arith
step_short t s (Text (suc k)) =
    let n = node_at s.nodes (suc k) in
    let b = ltb 0 (added t n) || not (eqb n.version (item_version t n.entry)) in
    let x = text_change (row_of s.nodes (suc k)) in
    omega (arith, one_log b x, length-append s.log (logged_if b x))
step_short t s (Grow k) =
    let n = node_at s.nodes k in
    let b = is_open n && ltb 0 (added t n) in
    let x = rows_change (end_of s.nodes k) 0 (added t n) in
    omega (arith, one_log b x, length-append s.log (logged_if b x))

steps_short : (t : List ℕ) (es : List Step) (s : State) → length (steps t s es).log ≤ length s.log + length es
unfolding steps
steps_short t [] s = omega arith
steps_short t (e ∷ es) s = omega (arith, step_short t s e, steps_short t es (step t s e))

step_longer : (t : List ℕ) (s : State) (e : Step) → length s.log ≤ length (step t s e).log
unfolding step text_step grow_step
step_longer t s (Text zero) = omega arith
step_longer t s (Text (suc k)) =
    let n = node_at s.nodes (suc k) in
    omega (arith, length-append s.log (logged_if (ltb 0 (added t n) || not (eqb n.version (item_version t n.entry))) (text_change (row_of s.nodes (suc k)))))
step_longer t s (Grow k) =
    let n = node_at s.nodes k in
    omega (arith, length-append s.log (logged_if (is_open n && ltb 0 (added t n)) (rows_change (end_of s.nodes k) 0 (added t n))))

-- no step takes a record away
pub steps_longer : (t : List ℕ) (es : List Step) (s : State) → length s.log ≤ length (steps t s es).log
unfolding steps
steps_longer t [] s = omega arith
steps_longer t (e ∷ es) s = omega (arith, step_longer t s e, steps_longer t es (step t s e))

-- the capture has no text
root_short : (t : List ℕ) (ns : List Node) (s : State) (f : ℕ) → length (steps t s (visit ns (suc f) 0)).log < length s.log + length (visit ns (suc f) 0)
unfolding visit steps step text_step
root_short t ns s f = omega (arith, steps_short t (flat_map (λ j. visit ns f j) (followed ns 0) ++ (Grow 0 ∷ [])) s)

pub update_short : (t : List ℕ) (ns : List Node) → WellFormed ns → length (steps t (state ns []) (all_visits ns)).log ≤ 511
update_short t ns w = omega (arith, root_short t ns (state ns []) longest_chain, visits_short ns w)
