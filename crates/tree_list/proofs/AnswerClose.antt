-- Close, by its refusals; the nodes of its order closed in place, one after another.
use Prim.Native.Nat.{ℕ, zero, suc, ◌+◌, ◌^◌, ◌≤◌, ◌<◌}
use native.Mathlib.Omega.{arith}
use native.Mathlib.Numerals.{add-one}
use mathlib.Core.Path.{◌≡◌, refl, sym, ap, ◌∙◌, subst}
use mathlib.Core.Bool.{true, false}
use mathlib.Core.List.{List, [], ◌∷◌, ◌++◌}
use lib.ListN.{length, get_or, take}
use lib.Seq.{length-take-le, take_all}
use borrow.Author.Tests.{le-leb, lt-leb}
use Rattle.model.specs.declared.Node.{Node}
use Rattle.model.specs.declared.Model.{Model}
use Rattle.model.specs.declared.ChildIndex.{ChildIndex}
use Rattle.model.specs.Answers.{ChangeAnswer, no_change}
use Rattle.model.specs.declared.Log.{Log}
use Rattle.model.specs.declared.Record.{Record}
use Rattle.model.specs.declared.RowNumber.{RowNumber}
use Rattle.std.specs.Prelude.{Some, None}
use Rattle.model.specs.Places.{depth, log_places, unless_zero}
use Rattle.model.proofs.UnlessZero.{some_is, none_is}
use Rattle.model.specs.Nodes.{direct_of, is_open, open_child}
use Rattle.model.specs.Rows.{Row, row_total, row_at, place, row_of}
use Rattle.model.specs.Settle.{settle}
use Rattle.model.specs.Sound.{sound}
use Rattle.model.specs.Logs.{State, state, rows_change, log_of}
use Rattle.model.specs.Open.{changed}
use Rattle.model.specs.Close.{closing_order, close_one, close_each, close_node, answer_close}
use Rattle.model.proofs.Search.{child_found}
use Rattle.tree.specs.WellFormed.{Opens}
use Rattle.steps.specs.Changes.{closed_at, Bare}
use Rattle.steps.specs.Settled.{Sound}
use Rattle.steps.proofs.Closing.{close_well, close_row_total}
use Rattle.steps.proofs.Quiet.{bare_rows}
use Rattle.steps.proofs.Settling.{sound_of, settle_given, settle_bare, settle_sound, bare_closed}
use Rattle.orders.proofs.Answers.{closing_len, closing_small}
use Rattle.edits.proofs.ChildRows.{next_row_fits}
use Rattle.edits.specs.Closable.{Closable}
use Rattle.edits.proofs.InnerFirst.{Ready, inner_first}
use Rattle.tree_list.specs.Logging.{logged}
use Rattle.tree_list.proofs.Records.{logged_of}
use Rattle.tree_list.proofs.Checked.{RowFound}
use Rattle.tree_list.proofs.Turns.{ready_closable, ready_direct, each_next, each_logged}

module _ (m : Model) (r : ℕ) where
  pub close_unsound : sound m ≡ false → answer_close m r ≡ no_change 1 m
  unfolding answer_close
  close_unsound e = rw e

  pub close_past : sound m ≡ true → row_total m.nodes ≤ r → answer_close m r ≡ no_change 4 m
  unfolding answer_close
  close_past e h = rw (e, le-leb (row_total m.nodes) r h)

  close_row : sound m ≡ true → r < row_total m.nodes → answer_close m r ≡ close_node m (open_child m.nodes (row_at m.nodes r).0 (row_at m.nodes r).1)
  unfolding answer_close
  close_row e h = rw (e, lt-leb (row_total m.nodes) r h)

pub close_none : (m : Model) (k : ℕ) → None ≡ unless_zero k → close_node m k ≡ no_change 0 m
unfolding close_node
close_none m k e = ap (close_node m) (none_is k e)

close_some : (m : Model) (k : ℕ) → 0 < k → let z = close_each (state m.nodes []) (closing_order m.nodes depth k) in close_node m k ≡ changed (settle z.nodes) z.log
unfolding close_node
close_some m zero h = absurd (omega arith)
close_some m (suc k) h = refl

-- the open node of a row that was found
pub close_answer : (m : Model) (r p : ℕ) (i : ChildIndex) → RowFound m r p i → close_node m (open_child m.nodes p i.0) ≡ answer_close m r
close_answer m r p i F = ap (λ (x : Row). close_node m (open_child m.nodes x.0 x.1)) F.stands ∙ sym (close_row m r F.whole F.inside)

pub open_child_opens : (m : Model) (p i k : ℕ) → Some k ≡ unless_zero (open_child m.nodes p i) → (0 < k) × Opens m.nodes k
open_child_opens m p i k g = by k (some_is (open_child m.nodes p i) k g)
  where
    by : (k : ℕ) → (k ≡ open_child m.nodes p i) × (k ≡ 0 → ⊥) → (0 < k) × Opens m.nodes k
    by zero z = absurd (z.1 refl)
    by (suc k) z = (omega arith, (child_found is_open m.nodes p i k (sym z.0)).0)

-- the model after one node's closing
closed_sound : (q : Model) → Sound q → (k : ℕ) → Closable q.nodes k → Sound (settle (closed_at q.nodes k))
closed_sound q S zero C = absurd (omega (arith, C.above))
closed_sound q S (suc k) C =
    settle_sound (closed_at q.nodes (suc k)) (close_well q.nodes S.well k C.opens C.none)
    (omega (arith, S.limit, close_row_total q.nodes S.well k C.opens C.none))

bare_row_of : (ns ms : List Node) → Bare ns ms → (k : ℕ) → row_of ns k ≡ row_of ms k
unfolding row_of
bare_row_of ns ms B k = λ t. place (B.node k t).parent (B.node k t).index (bare_rows ns ms B t)

-- what a node's closing logs; it looks at no total
abbrev closing_record : List Node → ℕ → Record
closing_record ns k = rows_change (suc (row_of ns k)) (direct_of ns k) 0

bare_record : (ns ms : List Node) → Bare ns ms → (k : ℕ) → closing_record ns k ≡ closing_record ms k
bare_record ns ms B k = λ t. rows_change (suc (bare_row_of ns ms B k t)) (B.node k t).direct 0

pub record_below : (log : Log) (r c : ℕ) → logged log (rows_change (r + 1) c 0) ≡ logged log (rows_change (suc r) c 0)
record_below log r c = ap (λ (p : ℕ). logged log (rows_change p c 0)) (add-one r)

-- after i steps of the order ks
pub record Closed (ns : List Node) (ks : List ℕ) (i : ℕ) (q : Model) (records : Log) : Type 0 where
  pub far : i ≤ length ks
  pub model : q ≡ settle (close_each (state ns []) (take i ks)).nodes
  pub whole : Sound q
  pub log : records ≡ log_of (close_each (state ns []) (take i ks)).log

pub closed_start : (m : Model) → sound m ≡ true → (ks : List ℕ) (log : Log) → log ≡ log_of [] → Closed m.nodes ks 0 m log
unfolding close_each
closed_start m s ks log e = let S = sound_of m s in record { far = omega arith; model = S.is; whole = S; log = e }

module _ (ns : List Node) (ks : List ℕ) (i : ℕ) (q : Model) (log : Log) (C : Closed ns ks i q log) where
  abbrev now : State
  now = close_each (state ns []) (take i ks)

  alike : Bare now.nodes q.nodes
  alike = subst (λ (x : Model). Bare now.nodes x.nodes) (sym C.model) (settle_given now.nodes).nodes

  count : length now.log ≡ i
  count = omega (arith, each_logged (state ns []) (take i ks), length-take-le i ks C.far)

  log_len : log.len ≡ i
  unfolding log_of
  log_len = ap (λ (l : Log). l.len) C.log ∙ count

  -- the next step
  closed_again :
      i < length ks
      → i < log_places
      → Closable q.nodes (get_or ks i 0)
      → (q' : Model) (log' : Log)
      → q' ≡ settle (closed_at q.nodes (get_or ks i 0))
      → log' ≡ logged log (closing_record q.nodes (get_or ks i 0))
      → Closed ns ks (suc i) q' log'
  unfolding close_one closed_at
  closed_again l h c q' log' e f =
      let k = get_or ks i 0 in
      let next = each_next (state ns []) ks i l in
      record {
        far = l;
        model = e ∙ sym (settle_bare (closed_at now.nodes k) (closed_at q.nodes k) (bare_closed now.nodes q.nodes alike k)) ∙ sym (ap (λ (s : State). settle s.nodes) next);
        whole = subst Sound (sym e) (closed_sound q C.whole k c);
        log =
            f
            ∙ ap (λ (l : Log). logged l (closing_record q.nodes k)) C.log
            ∙ logged_of now.log (closing_record q.nodes k) (omega (arith, count))
            ∙ ap (λ (x : Record). log_of (now.log ++ (x ∷ []))) (sym (bare_record now.nodes q.nodes alike k))
            ∙ sym (ap (λ (s : State). log_of s.log) next);
      }

-- the loop over the steps that the order holds
module _ (m : Model) (s : sound m ≡ true) (node : ℕ) (above : 0 < node) (opens : Opens m.nodes node) (o : List ℕ) (h : o ≡ closing_order m.nodes depth node) where
  abbrev ks : List ℕ
  ks = closing_order m.nodes depth node

  same_step : (i : ℕ) → get_or o i 0 ≡ get_or ks i 0
  same_step i = ap (λ (l : List ℕ). get_or l i 0) h

  module _ (i : ℕ) (q : Model) (log : Log) (C : Closed m.nodes ks i q log) where
    module _ (l : i < length o) where
      abbrev k : ℕ
      k = get_or o i 0

      ready : Ready m.nodes (take i ks) k
      ready = rw (same_step i) (inner_first m.nodes (sound_of m s).well node above opens i (omega (arith, ap length h)))

      pub turn_closable : Closable q.nodes k
      turn_closable = ready_closable m.nodes q.nodes (take i ks) (alike m.nodes ks i q log C) k ready

      pub turn_small : k < 256
      turn_small = closing_small m.nodes (sound_of m s).well node above opens o h i l

      pub turn_asks : (x : RowNumber) → x ≡ record { 0 = row_of q.nodes k } → (log.len < 512) × (suc x.0 < 2 ^ 64)
      turn_asks x e = (
        omega (arith, log_len m.nodes ks i q log C, closing_len m.nodes (sound_of m s).well node above opens o h),
        omega (arith, ap (λ (y : RowNumber). y.0) e, next_row_fits q C.whole k turn_closable),
      )

      pub turn_closed :
          (x : RowNumber) (q' : Model) (log' : Log)
          → x ≡ record { 0 = row_of q.nodes k }
          → q' ≡ settle (closed_at q.nodes k)
          → log' ≡ logged log (rows_change (suc x.0) (direct_of m.nodes k) 0)
          → Closed m.nodes ks (i + 1) q' log'
      turn_closed x q' log' d e f =
          let z = same_step i in
          let g = f ∙ (λ t. logged log (rows_change (suc (d t).0) (ready_direct m.nodes q.nodes (take i ks) (alike m.nodes ks i q log C) k ready t) 0)) in
          rw (add-one i)
          (closed_again m.nodes ks i q log C (omega (arith, ap length h)) (omega (arith, closing_len m.nodes (sound_of m s).well node above opens o h)) (rw z at turn_closable) q' log' (rw z at e) (rw z at g))

    pub turns_done : length o ≤ i → ◌≡◌ {A = ChangeAnswer} (record { refusal = 0; model = q; log = log }) (close_node m node)
    turns_done l =
        let all = take_all i ks (omega (arith, ap length h)) in
        (λ t. record { refusal = 0; model = C.model t; log = C.log t })
        ∙ ap (λ (x : List ℕ). let z = close_each (state m.nodes []) x in changed (settle z.nodes) z.log) all
        ∙ sym (close_some m node above)
