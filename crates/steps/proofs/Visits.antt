-- The visits of an update: the nodes stay well-formed, the log tells how the listing changed, and the row total grows by the rows that open nodes add.
use mathlib.Core.Path.{◌≡◌, refl, sym, ◌∙◌, ap, subst}
use mathlib.Core.Logic.{◌⊎◌, inl, inr, ◌≢◌}
use mathlib.Core.Bool.{Bool, true, false, cond, not, ◌&&◌, ◌||◌, or-true, true≢false}
use mathlib.Core.List.{List, [], ◌∷◌, ◌++◌, flat_map, append-nil}
use Prim.Native.Nat.{ℕ, zero, suc, ◌+◌, ◌≤◌, ◌<◌}
use native.Mathlib.Omega.{arith}
use native.Mathlib.Nat.{add-zero}
use lib.ListN.{length, set, take, drop, take-append-drop}
use lib.Seq.{get_or-set_same, get_or-set_other}
use lib.Dec.{eqb, ltb, leb}
use borrow.Author.Tests.{ltb-false, leb-false}
use Rattle.model.specs.declared.Node.{Node}
use Rattle.model.specs.Places.{depth, longest_chain}
use Rattle.model.specs.Table.{item_count, item_ongoing, item_version, entries}
use Rattle.model.specs.Nodes.{no_node, node_at, direct_of, used, is_open, is_ongoing, child_by, children_from, children, keep, with_version, with_direct, with_ongoing, or_none}
use Rattle.model.specs.Rows.{row_total, row_of, paths}
use Rattle.model.specs.Logs.{State, state, rows_change, text_change, logged_if}
use Rattle.model.specs.Update.{followed, visit, went_back, any_went_back, added, end_of, text_step, grow_step, step, steps, visits as all_visits}
use Rattle.model.specs.declared.Step.{Step}
use Rattle.model.specs.declared.Step.TheVariants.{Text, Grow}
use Rattle.steps.specs.Changes.{Quiet}
use Rattle.steps.specs.Course.{Ready, node_of, Course, ends, goes}
use Rattle.steps.specs.Growth.{added_rows, growth}
use Rattle.steps.specs.Telling.{Tells, Told, Tale}
use Rattle.steps.proofs.Put.{put_well}
use Rattle.steps.proofs.Growing.{grown_put, grow_paths, grow_row_total}
use Rattle.steps.proofs.Quiet.{quiet_refl, quiet_rows, quiet_paths, quiet_version, quiet_grown}
use Rattle.steps.proofs.Replay.{tells_in, tells_text, tale_refl, tale_trans, tale_if, tale_told}
use Rattle.steps.proofs.ClosingAll.{Untouched, not_own}
use Rattle.lists.proofs.Bools.{bool, differ}
use Rattle.model.proofs.Search.{child_found}
use Rattle.paths.proofs.Order.{child_ext, under_ext, length_child, branch_lt}
use Rattle.paths.proofs.Sorted.{child_paths_length}
use Rattle.paths.specs.Listings.{child_paths}
use Rattle.paths.specs.Order.{Path, ◌·◌, Under}
use Rattle.paths.proofs.Decided.{lt_irrefl}
use Rattle.tree.proofs.Find.{to_up, chain_length, reach_all}
use Rattle.tree.proofs.Listing.{length_paths}
use Rattle.tree.proofs.Rows.{row_of_lem, end_fits}
use Rattle.tree.proofs.WellFormed.{open_used, used_small, zero_open}
use Rattle.tree.specs.Paths.{to, From}
use Rattle.tree.specs.WellFormed.{Used, WellFormed}

steps_append : (t : List ℕ) (s : State) (a b : List Step) → steps t s (a ++ b) ≡ steps t (steps t s a) b
unfolding steps
steps_append t s [] b = refl
steps_append t s (e ∷ a) b = steps_append t (step t s e) a b

growth_append : (t : List ℕ) (ns : List Node) (a b : List Step) → growth t ns (a ++ b) ≡ growth t ns a + growth t ns b
unfolding growth
growth_append t ns [] b = omega arith
growth_append t ns (Text k ∷ a) b = growth_append t ns a b
growth_append t ns (Grow k ∷ a) b = omega (arith, growth_append t ns a b)

course_append : (t : List ℕ) (s : State) (a b : List Step) → Course t s a → Course t (steps t s a) b → Course t s (a ++ b)
unfolding steps
course_append t s [] b ends D = D
course_append t s (e ∷ a) b (goes r C) D = goes r (course_append t (step t s e) a b C D)

-- nothing went back

neither : (a b : Bool) → a || b ≡ false → (a ≡ false) × (b ≡ false)
neither true b e = absurd (true≢false e)
neither false b e = (refl, e)

back_append : (t : List ℕ) (ns : List Node) (a b : List Step) → any_went_back t ns (a ++ b) ≡ false → (any_went_back t ns a ≡ false) × (any_went_back t ns b ≡ false)
unfolding any_went_back
back_append t ns [] b e = (refl, e)
back_append t ns (Text k ∷ a) b e =
    let r = neither (went_back t ns k) (any_went_back t ns (a ++ b)) e in
    let s = back_append t ns a b r.1 in
    (rw r.0 s.0, s.1)
back_append t ns (Grow k ∷ a) b e = back_append t ns a b e

not_back : (t : List ℕ) (ns : List Node) (k : ℕ) → went_back t ns k ≡ false → direct_of ns k ≤ item_count t (node_at ns k).entry
unfolding went_back
not_back t ns k e = ltb-false (item_count t (node_at ns k).entry) (direct_of ns k) (neither (leb (entries t) (node_at ns k).entry) (ltb (item_count t (node_at ns k).entry) (node_at ns k).direct) e).1

not_past : (t : List ℕ) (ns : List Node) (k : ℕ) → went_back t ns k ≡ false → (node_at ns k).entry < entries t
unfolding went_back
not_past t ns k e = leb-false (entries t) (node_at ns k).entry (neither (leb (entries t) (node_at ns k).entry) (ltb (item_count t (node_at ns k).entry) (node_at ns k).direct) e).0

-- a step at node k
pub record Stepped (s u : State) (k : ℕ) : Type 0 where
  pub well : WellFormed u.nodes
  pub tale : Tale s u
  pub other : (m : ℕ) → m ≢ k → node_at u.nodes m ≡ node_at s.nodes m

-- a node with another version
abbrev Versioned : Node → Node → Type 0
Versioned a b = (used b ≡ used a) × (b.direct ≡ a.direct) × (b.entry ≡ a.entry) × (is_open b ≡ is_open a)

module _ (t : List ℕ) (s : State) (w : WellFormed s.nodes) where
  abbrev cs : List Node
  cs = s.nodes

  text_quiet : (k : ℕ) → Used cs k → Quiet cs (text_step t s k).nodes
  unfolding text_step
  text_quiet zero u = quiet_refl cs w
  text_quiet (suc k) u = quiet (ltb 0 (added t (node_at cs (suc k))))
    where
      v : ℕ
      v = item_version t (node_at cs (suc k)).entry

      quiet : (b : Bool) → Quiet cs (cond b cs (set cs (suc k) (with_version v (node_at cs (suc k)))))
      quiet true = quiet_refl cs w
      quiet false = quiet_version cs w k v u

  pub text_row_total : (k : ℕ) → Used cs k → row_total (text_step t s k).nodes ≡ row_total cs
  text_row_total k u = ap length (quiet_rows cs (text_step t s k).nodes w (text_quiet k u))

  pub text_stepped : (k : ℕ) → Used cs k → Stepped s (text_step t s k) k × Versioned (node_at cs k) (node_at (text_step t s k).nodes k)
  unfolding text_step
  text_stepped zero u = (record { well = w; tale = tale_refl s; other = λ m d. refl }, (refl, refl, refl, refl))
  text_stepped (suc k) u = (record { well = Q.well; tale = tale; other = λ m d. other m d more }, versioned more)
    where
      n : Node
      n = node_at cs (suc k)

      more : Bool
      more = ltb 0 (added t n)

      due : Bool
      due = more || not (eqb n.version (item_version t n.entry))

      at : Bool → List Node
      at b = cond b cs (set cs (suc k) (with_version (item_version t n.entry) n))

      Q : Quiet cs (at more)
      Q = text_quiet (suc k) u

      tale : Tale s (state (at more) (s.log ++ logged_if due (text_change (row_of cs (suc k)))))
      tale =
          tale_if s (state (at more) (s.log ++ logged_if due (text_change (row_of cs (suc k))))) due (text_change (row_of cs (suc k))) refl
          (λ e. tells_text (paths cs) (paths (at more)) (row_of cs (suc k)) (rw (length_paths cs w) (row_of_lem cs w k u).0) (quiet_paths cs (at more) w Q))
          (λ e. quiet_paths cs (at more) w Q)

      other : (m : ℕ) → m ≢ suc k → (b : Bool) → node_at (at b) m ≡ node_at cs m
      other m d true = refl
      other m d false = get_or-set_other cs (suc k) m (with_version (item_version t n.entry) n) no_node d

      versioned : (b : Bool) → Versioned n (node_at (at b) (suc k))
      versioned true = (refl, refl, refl, refl)
      versioned false =
          let e = get_or-set_same cs (suc k) (with_version (item_version t n.entry) n) no_node (rw w.size (used_small cs w (suc k) u)) in
          rw e (refl, refl, refl, refl)

  -- a node that isn't open grows
  shut_quiet : (k c : ℕ) (b : Bool) → Used cs k → is_open (node_at cs k) ≡ false → direct_of cs k ≤ c → Quiet cs (set cs k (or_none (with_direct c (with_ongoing b (node_at cs k)))))
  shut_quiet zero c b u q h = absurd (differ (zero_open cs w) q)
  shut_quiet (suc k) c b u q h = quiet_grown cs w k c b u q h

  pub grown_row_total : (k : ℕ) → Used cs k → direct_of cs k ≤ item_count t (node_at cs k).entry → row_total (grow_step t s k).nodes ≡ row_total cs + added_rows t (node_at cs k)
  unfolding grow_step added_rows
  grown_row_total k u h = go (bool (is_open n))
    where
      n : Node
      n = node_at cs k

      c : ℕ
      c = item_count t n.entry

      b : Bool
      b = n.ongoing && item_ongoing t n.entry

      grown : Node
      grown = with_direct c (with_ongoing b n)

      go : (is_open n ≡ true) ⊎ (is_open n ≡ false) → row_total (set cs k (or_none grown)) ≡ row_total cs + cond (is_open n) (added t n) 0
      go (inl o) =
          let kept : or_none grown ≡ grown = rw o in
          ap (λ (x : Node). row_total (set cs k x)) kept
          ∙ grow_row_total cs w k grown (grown_put cs w k c b o h) o (added t n) (omega arith)
          ∙ ap (λ (z : Bool). row_total cs + cond z (added t n) 0) (sym o)
      go (inr q) = ap length (quiet_rows cs (set cs k (or_none grown)) w (shut_quiet k c b u q h)) ∙ rw (q, add-zero)

  pub grow_stepped : (k : ℕ) → Used cs k → direct_of cs k ≤ item_count t (node_at cs k).entry → Stepped s (grow_step t s k) k
  unfolding grow_step
  grow_stepped k u h = go (bool (is_open n))
    where
      n : Node
      n = node_at cs k

      c : ℕ
      c = item_count t n.entry

      d : ℕ
      d = added t n

      b : Bool
      b = n.ongoing && item_ongoing t n.entry

      grown : Node
      grown = with_direct c (with_ongoing b n)

      after : Node → State
      after x = state (set cs k x) (s.log ++ logged_if (is_open n && ltb 0 d) (rows_change (end_of cs k) 0 d))

      due : (x : Node) → (is_open n && ltb 0 d ≡ true → Tells (paths cs) (rows_change (end_of cs k) 0 d) (paths (set cs k x))) → (is_open n && ltb 0 d ≡ false → paths (set cs k x) ≡ paths cs) → Tale s (after x)
      due x = tale_if s (after x) (is_open n && ltb 0 d) (rows_change (end_of cs k) 0 d) refl

      other : (x : Node) (m : ℕ) → m ≢ k → node_at (set cs k x) m ≡ node_at cs m
      other x m z = get_or-set_other cs k m x no_node z

      opened : is_open n ≡ true → Stepped s (after grown) k
      opened o =
          let P = grown_put cs w k c b o h in
          let e = grow_paths cs w k grown P o d (omega arith) in
          record {
            well = put_well cs w k grown P;
            tale = due grown
                (λ z. tells_in (paths cs) (paths (set cs k grown)) (end_of cs k) (child_paths (to cs k) (direct_of cs k) d) d (child_paths_length (to cs k) (direct_of cs k) d) (rw (length_paths cs w) (end_fits cs w k o)) e)
                (λ z. none d (omega (arith, ltb-false 0 d (rw o at z))) e);
            other = other grown;
          }
        where
          none : (d : ℕ) → d ≡ 0 → paths (set cs k grown) ≡ take (end_of cs k) (paths cs) ++ child_paths (to cs k) (direct_of cs k) d ++ drop (end_of cs k) (paths cs) → paths (set cs k grown) ≡ paths cs
          none d z e = e ∙ ap (λ (x : ℕ). take (end_of cs k) (paths cs) ++ child_paths (to cs k) (direct_of cs k) x ++ drop (end_of cs k) (paths cs)) z ∙ ap (λ (l : List Path). l ++ drop (end_of cs k) (paths cs)) (append-nil (take (end_of cs k) (paths cs))) ∙ take-append-drop (end_of cs k) (paths cs)

      kept : is_open n ≡ true → or_none grown ≡ grown
      kept o = rw o

      go : (is_open n ≡ true) ⊎ (is_open n ≡ false) → Stepped s (after (or_none grown)) k
      go (inl o) = rw (kept o) (opened o)
      go (inr q) =
          let Q = shut_quiet k c b u q h in
          let e = quiet_paths cs (set cs k (or_none grown)) w Q in
          record { well = Q.well; tale = due (or_none grown) (λ z. absurd (true≢false (sym z ∙ rw q))) (λ z. e); other = other (or_none grown) }

pub ongoing_used : (n : Node) → is_ongoing n ≡ true → used n ≡ true
ongoing_used n o = rw o (or-true n.«open»)

module _ (t : List ℕ) (ns : List Node) (w : WellFormed ns) where
  -- s becomes v by steps in a part of the tree
  record Walked (R : Path → Type 0) (es : List Step) (s v : State) : Type 0 where
    well : WellFormed v.nodes
    tale : Tale s v
    course : Course t s es
    rows : row_total v.nodes ≡ row_total s.nodes + growth t ns es
    away : (m : ℕ) → (Used ns m → R (to ns m) → ⊥) → node_at v.nodes m ≡ node_at s.nodes m

  -- a visit works to a depth of f
  abbrev Visits : ℕ → Type 0
  Visits f =
      (k : ℕ)
      → Used ns k
      → longest_chain < f + length (to ns k)
      → any_went_back t ns (visit ns f k) ≡ false
      → (s : State)
      → WellFormed s.nodes
      → Untouched ns (Under (to ns k)) s.nodes
      → Walked (Under (to ns k)) (visit ns f k) s (steps t s (visit ns f k))

  abbrev each : ℕ → List ℕ → List Step
  each f ks = flat_map (λ j. visit ns f j) ks

  each_child :
      (f p : ℕ)
      → longest_chain < suc f + length (to ns p)
      → Visits f
      → (n i : ℕ)
      → let es = each f (children_from is_ongoing ns p i n) in
      any_went_back t ns es ≡ false → (s : State) → WellFormed s.nodes → Untouched ns (From ns p i) s.nodes → Walked (From ns p i) es s (steps t s es)
  unfolding children_from keep flat_map any_went_back steps growth
  each_child f p d visits zero i nb s ws same = record { well = ws; tale = tale_refl s; course = ends; rows = sym (add-zero (row_total s.nodes)); away = λ m k. refl }
  each_child f p d visits (suc n) i nb s ws same = go (child_by is_ongoing ns p i) refl nb (λ q b wb keep. each_child f p d visits n (suc i) q b wb keep)
    where
      later : (x : Path) → From ns p (suc i) x → From ns p i x
      later x r = (r.0, (omega arith), r.2)

      Rest : List Step
      Rest = each f (children_from is_ongoing ns p (suc i) n)

      go :
          (j : ℕ)
          → child_by is_ongoing ns p i ≡ j
          → let es = each f (keep j (children_from is_ongoing ns p (suc i) n)) in
          any_went_back t ns es ≡ false
          → (any_went_back t ns Rest ≡ false → (b : State) → WellFormed b.nodes → Untouched ns (From ns p (suc i)) b.nodes → Walked (From ns p (suc i)) Rest b (steps t b Rest))
          → Walked (From ns p i) es s (steps t s es)
      go zero e q ih =
          let B = ih q s ws (λ m u r. same m u (later (to ns m) r)) in
          record { well = B.well; tale = B.tale; course = B.course; rows = B.rows; away = λ m k. B.away m (λ u r. k u (later (to ns m) r)) }
      go (suc j) e q ih =
          let r = child_found is_ongoing ns p i j e in
          let v : Used ns (suc j) = ongoing_used (node_at ns (suc j)) r.0 in
          let e₁ = r.1 in
          let e₂ = r.2 in
          let a : to ns (suc j) ≡ to ns p · i = to_up ns w j v ∙ rw (e₁, e₂) in
          let nb = back_append t ns (visit ns f (suc j)) Rest q in
          let C = visits (suc j) v (rw a (omega (arith, length_child (to ns p) i))) nb.0 s ws (λ m u z. same m u (i, (omega arith), rw a at z)) in
          let b = steps t s (visit ns f (suc j)) in
          let B = ih nb.1 b C.well (λ m u z. C.away m (λ y x. lt_irrefl (to ns m) (branch_lt (to ns p) z.1 (rw a at x) z.2)) ∙ same m u (later (to ns m) z)) in
          rw (steps_append t s (visit ns f (suc j)) Rest)
          (record {
            well = B.well;
            tale = tale_trans C.tale B.tale;
            course = course_append t s (visit ns f (suc j)) Rest C.course B.course;
            rows = omega (arith, growth_append t ns (visit ns f (suc j)) Rest, C.rows, B.rows);
            away = λ m k. B.away m (λ u z. k u (later (to ns m) z)) ∙ C.away m (λ u z. k u (i, (omega arith), rw a at z));
          })

  -- the visit of node k, from the visits one level down
  module _ (f k : ℕ) (u : Used ns k) (d : longest_chain < suc f + length (to ns k)) (ih : Visits f) (s : State) (ws : WellFormed s.nodes) (same : Untouched ns (Under (to ns k)) s.nodes) where
    abbrev texted : State
    texted = text_step t s k

    abbrev Below : Bool → List Step
    Below b = each f (cond b (children is_ongoing ns k) [])

    own : node_at s.nodes k ≡ node_at ns k
    own = same k u (inl refl)

    T : Stepped s texted k × Versioned (node_at s.nodes k) (node_at texted.nodes k)
    T = text_stepped t s ws k (rw own u)

    below : (b : Bool) → any_went_back t ns (Below b) ≡ false → Walked (From ns k 0) (Below b) texted (steps t texted (Below b))
    unfolding children flat_map steps growth
    below true nb =
        each_child f k d ih (direct_of ns k) 0 nb texted T.0.well
        (λ m v r. T.0.other m (λ e. not_own (to ns k) r.0 (rw e at r.2)) ∙ same m v (inr (under_ext (to ns k · r.0) (child_ext (to ns k) r.0) r.2)))
    below false nb = record { well = T.0.well; tale = tale_refl texted; course = ends; rows = sym (add-zero (row_total texted.nodes)); away = λ m z. refl }

    module _ (b : Bool) (nb : any_went_back t ns (Below b) ≡ false) (nk : went_back t ns k ≡ false) where
      abbrev walked : State
      walked = steps t texted (Below b)

      W : Walked (From ns k 0) (Below b) texted walked
      W = below b nb

      own_still : node_at walked.nodes k ≡ node_at texted.nodes k
      own_still = W.away k (λ v r. not_own (to ns k) r.0 r.2)

      same_direct : direct_of walked.nodes k ≡ direct_of ns k
      same_direct = ap (λ (n : Node). n.direct) own_still ∙ T.1.1 ∙ ap (λ (n : Node). n.direct) own

      same_entry : (node_at walked.nodes k).entry ≡ (node_at ns k).entry
      same_entry = ap (λ (n : Node). n.entry) own_still ∙ T.1.2 ∙ ap (λ (n : Node). n.entry) own

      same_open : is_open (node_at walked.nodes k) ≡ is_open (node_at ns k)
      same_open = ap is_open own_still ∙ T.1.3 ∙ ap is_open own

      same_rows : added_rows t (node_at walked.nodes k) ≡ added_rows t (node_at ns k)
      unfolding added_rows
      same_rows = rw (same_open, same_direct, same_entry)

      -- what is asked of node k is so at its two steps
      at_text : Ready t s.nodes k
      at_text = record { well = ws; live = rw own u; listed = rw own (not_past t ns k nk); more = subst (λ (n : Node). n.direct ≤ item_count t n.entry) (sym own) (not_back t ns k nk) }

      at_growth : Ready t walked.nodes k
      at_growth = record {
        well = W.well;
        live = ap used own_still ∙ T.1.0 ∙ ap used own ∙ u;
        listed = rw same_entry (not_past t ns k nk);
        more = rw (same_direct, same_entry) (not_back t ns k nk);
      }

      G : Stepped walked (grow_step t walked k) k
      G = grow_stepped t walked W.well k at_growth.live at_growth.more

      visit_rows : row_total (grow_step t walked k).nodes ≡ row_total s.nodes + growth t ns (Text k ∷ (Below b ++ (Grow k ∷ [])))
      unfolding growth
      visit_rows = omega (
        arith,
        text_row_total t s ws k (rw own u),
        W.rows,
        grown_row_total t walked W.well k at_growth.live at_growth.more,
        same_rows,
        growth_append t ns (Below b) (Grow k ∷ []),
      )

      visit_one : Walked (Under (to ns k)) (Text k ∷ (Below b ++ (Grow k ∷ []))) s (grow_step t walked k)
      unfolding step
      visit_one = record {
        well = G.well;
        tale = tale_trans T.0.tale (tale_trans W.tale G.tale);
        course = goes at_text (course_append t texted (Below b) (Grow k ∷ []) W.course (goes at_growth ends));
        rows = visit_rows;
        away = λ m z.
            let n : m ≢ k = λ e. z (rw e u) (inl (ap (to ns) e)) in
            G.other m n
            ∙ W.away m (λ v r. z v (inr (under_ext (to ns k · r.0) (child_ext (to ns k) r.0) r.2)))
            ∙ T.0.other m n;
      }

  visits : (f : ℕ) → Visits f
  unfolding visit any_went_back steps step
  visits zero k u d nb s ws same = absurd (omega (arith, chain_length ns longest_chain depth k (reach_all ns w k u)))
  visits (suc f) k u d nb s ws same =
      let M = each f (followed ns k) in
      let q = neither (went_back t ns k) (any_went_back t ns (M ++ (Grow k ∷ []))) nb in
      let r = back_append t ns M (Grow k ∷ []) q.1 in
      rw (steps_append t (text_step t s k) M (Grow k ∷ []))
      (visit_one f k u d (visits f) s ws same (is_open (node_at ns k)) r.0 q.0)

-- the whole update
module _ (t : List ℕ) (ns : List Node) (w : WellFormed ns) (nb : any_went_back t ns (all_visits ns) ≡ false) where
  abbrev updated : State
  updated = steps t (state ns []) (all_visits ns)

  whole : Walked t ns w (Under (to ns 0)) (all_visits ns) (state ns []) updated
  whole = visits t ns w depth 0 (open_used ns 0 (zero_open ns w)) (omega arith) nb (state ns []) w (λ m u r. refl)

  pub update_steps : WellFormed updated.nodes × Told (paths ns) updated.log (paths updated.nodes)
  update_steps = (whole.well, tale_told ns updated whole.tale)

  pub update_row_total : row_total updated.nodes ≡ row_total ns + growth t ns (all_visits ns)
  update_row_total = whole.rows

  pub update_course : Course t (state ns []) (all_visits ns)
  update_course = whole.course

-- the growth of an open node brings the rows that were added
pub grow_fuller : (t : List ℕ) (s : State) (k : ℕ) → Ready t s.nodes k → is_open (node_at s.nodes k) ≡ true → row_total (grow_step t s k).nodes ≡ row_total s.nodes + added t (node_at s.nodes k)
unfolding added_rows
grow_fuller t s k R o = grown_row_total t s R.well k R.live R.more ∙ rw o

-- a step takes no row away
step_fuller : (t : List ℕ) (s : State) (e : Step) → Ready t s.nodes (node_of e) → row_total s.nodes ≤ row_total (step t s e).nodes
unfolding step
step_fuller t s (Text k) R = omega (arith, text_row_total t s R.well k R.live)
step_fuller t s (Grow k) R = omega (arith, grown_row_total t s R.well k R.live R.more)

pub course_fuller : (t : List ℕ) (s : State) (es : List Step) → Course t s es → row_total s.nodes ≤ row_total (steps t s es).nodes
unfolding steps
course_fuller t s [] ends = omega arith
course_fuller t s (e ∷ es) (goes R C) = omega (arith, step_fuller t s e R, course_fuller t (step t s e) es C)
