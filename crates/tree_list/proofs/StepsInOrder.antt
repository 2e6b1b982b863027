-- The steps of an update carried out one after the other.
use Prim.Native.Nat.{ℕ, ◌+◌, ◌≤◌, ◌<◌}
use native.Mathlib.Omega.{arith}
use native.Mathlib.Numerals.{add-one}
use mathlib.Core.Path.{◌≡◌, refl, sym, ap, subst, ◌∙◌}
use mathlib.Core.Bool.{true, false}
use mathlib.Core.List.{List, [], ◌∷◌}
use lib.ListN.{length, get_or, drop, drop_of_length-le}
use lib.Seq.{drop-cons}
use borrow.Author.Tests.{le-ltb}
use Rattle.model.specs.declared.Node.{Node}
use Rattle.model.specs.declared.Model.{Model}
use Rattle.model.specs.declared.Changed.{Changed}
use Rattle.model.specs.declared.Log.{Log}
use Rattle.model.specs.Places.{row_limit}
use Rattle.model.specs.Table.{item_count, entries}
use Rattle.model.specs.Nodes.{node_at, is_open}
use Rattle.model.specs.Rows.{row_total}
use Rattle.model.specs.Logs.{State, state, log_of}
use Rattle.model.specs.Update.{added, step, steps, visits, any_went_back, updated}
use Rattle.model.specs.declared.Step.{Step}
use Rattle.model.specs.declared.Step.TheVariants.{Text, Grow}
use Rattle.tree.specs.WellFormed.{WellFormed}
use Rattle.steps.specs.Changes.{Bare}
use Rattle.steps.specs.Settled.{Sound}
use Rattle.steps.specs.Course.{Ready, node_of, Course, goes}
use Rattle.steps.proofs.Quiet.{bare_used, bare_rows}
use Rattle.steps.proofs.Settling.{settle_quiet, settle_sound}
use Rattle.steps.proofs.Visits.{update_course, course_fuller, grow_fuller}
use Rattle.steps.proofs.Lengths.{steps_longer, update_short}
use Rattle.tree_list.specs.Visiting.{Holding, Does, Texted, Stepping}
use Rattle.tree_list.proofs.StepsInPlace.{held_bare}

course_now : (t : List ℕ) (s : State) (e : Step) (es : List Step) → Course t s (e ∷ es) → Ready t s.nodes (node_of e) × Course t (step t s e) es
course_now t s e es (goes R C) = (R, C)

-- what is asked of a node in a state is so in its settled model
module _ (t : List ℕ) (p : Changed) (s : State) (H : Holding p s) where
  abbrev B : Bare s.nodes p.model.nodes
  B = held_bare t p s H

  ready_held : (k : ℕ) → Ready t s.nodes k → Ready t p.model.nodes k
  ready_held k R = record {
    well = subst (λ (m : Model). WellFormed m.nodes) (sym H.model) (settle_quiet s.nodes R.well).well;
    live = sym (bare_used s.nodes p.model.nodes B k) ∙ R.live;
    listed = subst (λ (n : Node). n.entry < entries t) (B.node k) R.listed;
    more = subst (λ (n : Node). n.direct ≤ item_count t n.entry) (B.node k) R.more;
  }

  held_total : row_total p.model.nodes ≡ row_total s.nodes
  held_total = sym (ap length (bare_rows s.nodes p.model.nodes B))

  held_len : p.log.len ≡ length s.log
  unfolding log_of
  held_len = ap (λ (l : Log). l.len) H.log

module _ (t : List ℕ) (ns : List Node) (w : WellFormed ns) where
  abbrev last : State
  last = steps t (state ns []) (visits ns)

  module _ (limit : row_total last.nodes ≤ row_limit) (p : Changed) (s : State) (H : Holding p s) where
    within : (es : List Step) → Course t s es → steps t s es ≡ last → row_total s.nodes ≤ row_limit
    within es C e = omega (arith, course_fuller t s es C, ap (λ (u : State). row_total u.nodes) e, limit)

    room : (x : Step) (es : List Step) → steps t s (x ∷ es) ≡ last → p.log.len < 512
    room x es e = omega (arith, held_len t p s H, steps_longer t (x ∷ es) s, ap (λ (u : State). length u.log) e, update_short t ns w)

    texted : (x : Step) (es : List Step) → Course t s (x ∷ es) → steps t s (x ∷ es) ≡ last → Texted t p (node_of x)
    texted x es C e =
        let R = (course_now t s x es C).0 in
        record {
          sound = subst Sound (sym H.model) (settle_sound s.nodes R.well (within (x ∷ es) C e));
          ready = ready_held t p s H (node_of x) R;
          room = room x es e;
        }

    growth_within : (k : ℕ) (es : List Step) → Course t s (Grow k ∷ es) → steps t s (Grow k ∷ es) ≡ last → is_open (node_at s.nodes k) ≡ true → row_total s.nodes + added t (node_at s.nodes k) ≤ row_limit
    unfolding steps step
    growth_within k es C e o =
        let R = course_now t s (Grow k) es C in
        omega (arith, course_fuller t (step t s (Grow k)) es R.1, grow_fuller t s k R.0 o, ap (λ (u : State). row_total u.nodes) e, limit)

    step_ready : (x : Step) (es : List Step) → Course t s (x ∷ es) → steps t s (x ∷ es) ≡ last → Stepping t p x
    step_ready (Text k) es C e = texted (Text k) es C e
    step_ready (Grow k) es C e = record {
      texted = texted (Grow k) es C e;
      limit = λ o.
          let near = (held_bare t p s H).node k in
          let q : is_open (node_at s.nodes k) ≡ true = ap is_open near ∙ o in
          let a : added t (node_at s.nodes k) ≡ added t (node_at p.model.nodes k) = ap (λ (n : Node). added t n) near in
          omega (arith, growth_within k es C e q, a, held_total t p s H);
    }

-- p is a state on the way, from which the steps from step i on lead to the end
pub record Underway (t : List ℕ) (ns : List Node) (es : List Step) (p : Changed) (i : ℕ) : Type 0 where
  pub at : State
  pub held : Holding p at
  pub course : Course t at (drop i es)
  pub «end» : steps t at (drop i es) ≡ steps t (state ns []) es

module _ (t : List ℕ) (m : Model) (S : Sound m) (es : List Step) (h : es ≡ visits m.nodes) where
  abbrev ns : List Node
  ns = m.nodes

  pub run_starts : any_went_back t ns es ≡ false → (l : Log) → l ≡ log_of [] → Underway t ns es (record { model = m; log = l }) 0
  run_starts nb l e = record { at = state ns []; held = record { model = S.is; log = e }; course = rw h (update_course t ns S.well (rw h at nb)); «end» = refl }

  module _ (p : Changed) (i : ℕ) (U : Underway t ns es p i) where
    module _ (l : i < length es) where
      abbrev x : Step
      x = get_or es i (Text 0)

      abbrev rest : List Step
      rest = drop (i + 1) es

      ahead : drop i es ≡ x ∷ rest
      ahead = rw (add-one, drop-cons es i (Text 0) l)

      course_ahead : Course t U.at (x ∷ rest)
      course_ahead = subst (Course t U.at) ahead U.course

      end_ahead : steps t U.at (x ∷ rest) ≡ steps t (state ns []) es
      end_ahead = sym (ap (steps t U.at) ahead) ∙ U.«end»

      pub run_ready : row_total (steps t (state ns []) es).nodes ≤ row_limit → Stepping t p x
      run_ready limit = step_ready t ns S.well (rw h at limit) p U.at U.held x rest course_ahead (end_ahead ∙ ap (steps t (state ns [])) h)

      pub run_goes : (q : Changed) → Does t p x q → Underway t ns es q (i + 1)
      unfolding steps
      run_goes q D = record { at = step t U.at x; held = D U.at U.held; course = (course_now t U.at x rest course_ahead).1; «end» = end_ahead }

    module _ (l : length es ≤ i) where
      at_end : U.at ≡ steps t (state ns []) es
      unfolding steps
      at_end = sym (ap (steps t U.at) (drop_of_length-le es l)) ∙ U.«end»

      held_end : Holding p (steps t (state ns []) es)
      held_end = subst (Holding p) at_end U.held

      pub run_ends : row_total (steps t (state ns []) es).nodes ≤ row_limit → record { refusal = 0; model = p.model; log = p.log; ongoing = (node_at p.model.nodes 0).ongoing } ≡ updated m (steps t (state ns []) es)
      unfolding updated
      run_ends limit =
          let s = steps t (state ns []) es in
          let o : (node_at p.model.nodes 0).ongoing ≡ (node_at s.nodes 0).ongoing = sym (ap (λ (n : Node). n.ongoing) ((held_bare t p s held_end).node 0)) in
          rw (le-ltb row_limit (row_total s.nodes) limit)
          (λ j. record { refusal = 0; model = held_end.model j; log = held_end.log j; ongoing = o j })
