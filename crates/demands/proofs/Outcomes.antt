-- What comes of a call, operation by operation: it is refused and nothing is changed, or it is done and its result is sound and told.
use mathlib.Core.Path.{◌≡◌, refl}
use mathlib.Core.Logic.{◌≢◌}
use mathlib.Core.Bool.{Bool, true, false, cond, not, ◌&&◌, true≢false}
use mathlib.Core.List.{List, [], ◌∷◌}
use Prim.Native.Nat.{ℕ, zero, suc, ◌+◌, ◌≤◌, ◌<◌}
use native.Mathlib.Omega.{arith}
use lib.ListN.{length, set}
use lib.Dec.{eqb, ltb, leb}
use borrow.Author.Tests.{eqb-true, eqb-false, ltb-false, leb-false}
use Rattle.model.specs.declared.Model.{Model}
use Rattle.model.specs.declared.Record.{Record}
use Rattle.model.specs.Places.{depth, row_limit}
use Rattle.model.specs.Table.{readable, item_count}
use Rattle.model.specs.Nodes.{node_at, used, is_open, child, open_child, free}
use Rattle.model.specs.Rows.{row_total, row_at}
use Rattle.model.specs.Settle.{settle}
use Rattle.model.specs.Sound.{sound}
use Rattle.model.specs.Logs.{state, rows_change, log_of}
use Rattle.model.specs.Answers.{refuse_if}
use Rattle.model.specs.New.{zeros, answer_new}
use Rattle.model.specs.Count.{answer_count}
use Rattle.model.specs.Fetch.{node_or_fresh, fetch_node, answer_fetch}
use Rattle.model.specs.Open.{number_or_free, open_node, answer_open}
use Rattle.model.specs.Close.{closing_order, close_each, close_node, answer_close}
use Rattle.model.specs.Release.{release_node, answer_release}
use Rattle.model.specs.Update.{visits, any_went_back, steps, updated, answer_update}
use Rattle.steps.specs.Settled.{Sound}
use Rattle.steps.specs.Telling.{Result, nil}
use Rattle.steps.proofs.Settling.{sound_of}
use Rattle.steps.proofs.Lengths.{close_short, update_short}
use Rattle.steps.proofs.Results.{new_result, fetch_result, release_result, open_result, close_result, update_result}
use Rattle.model.specs.Calls.{Call, new, update, count, fetch, opening, close, release, Seen, of_model, of_count, of_fetch, of_change, of_update, call, before}
use Rattle.lists.proofs.Bools.{both}
use Rattle.model.proofs.Search.{child_found}
use Rattle.tree.proofs.Listing.{open_child_lem}
use Rattle.tree.proofs.WellFormed.{used_small}

pub data Outcome (m : Model) (a : Seen) : Type 0 where
  refused : a.refusal ≢ 0 → a.model ≡ m → a.log ≡ log_of [] → Outcome m a
  done : a.refusal ≡ 0 → (xs : List Record) → a.log ≡ log_of xs → length xs ≤ 511 → Result m xs a.model → Outcome m a

refuse : {A : Type 0} (of : A → Seen) (m : Model) (b : Bool) (x y : A) → Outcome m (of x) → (b ≡ false → Outcome m (of y)) → Outcome m (of (refuse_if b x y))
refuse of m true x y h k = h
refuse of m false x y h k = k refl

either : {A : Type 0} (of : A → Seen) (m : Model) (b : Bool) (x y : A) → (b ≡ true → Outcome m (of x)) → (b ≡ false → Outcome m (of y)) → Outcome m (of (cond b x y))
either of m true x y h k = h refl
either of m false x y h k = k refl

is_sound_lem : (m : Model) → not (sound m) ≡ false → Sound m
is_sound_lem m e = sound_of m (go (sound m) e)
  where
    go : (b : Bool) → not b ≡ false → b ≡ true
    go true e = refl
    go false e = absurd (true≢false e)

stay : (m : Model) → Sound m → Result m [] m
stay m S = record { sound = S; told = nil }

new_outcome : (t : List ℕ) → Outcome zeros (of_model (answer_new t))
unfolding answer_new
new_outcome t =
    refuse of_model zeros (not (readable t)) _ _ (refused (λ e. omega arith) refl refl) (λ e₁.
    refuse of_model zeros (ltb 0 (item_count t 0)) _ _ (refused (λ e. omega arith) refl refl) (λ e₂.
    done refl [] refl (omega arith) (new_result t)))

module _ (m : Model) where
  count_outcome : Outcome m (of_count m (answer_count m))
  unfolding answer_count
  count_outcome =
      refuse (of_count m) m (not (sound m)) _ _ (refused (λ e. omega arith) refl refl) (λ e.
      done refl [] refl (omega arith) (stay m (is_sound_lem m e)))

  fetched : (t : List ℕ) (r p i k : ℕ) → Sound m → r < row_total m.nodes → row_at m.nodes r ≡ (p, i) → child m.nodes p i ≡ k → let n = node_or_fresh t m.nodes (p, i) k in eqb k 0 && n.ongoing ≡ true → (f : ℕ) → free m.nodes ≡ f → eqb f 0 ≡ false → Result m [] (settle (set m.nodes f n))
  fetched t r p i k S h e c q zero f z = absurd (eqb-false 0 0 z refl)
  fetched t r p i zero S h e c q (suc f) g z = fetch_result t m S r p i f h e c g (both (eqb 0 0) (node_or_fresh t m.nodes (p, i) 0).ongoing q).1
  fetched t r p i (suc k) S h e c q (suc f) g z = absurd (omega (arith, eqb-true (suc k) 0 (both (eqb (suc k) 0) (node_or_fresh t m.nodes (p, i) (suc k)).ongoing q).0))

  fetch_outcome : (t : List ℕ) (r : ℕ) → Outcome m (of_fetch (answer_fetch t m r))
  unfolding answer_fetch fetch_node
  fetch_outcome t r =
      refuse of_fetch m (not (sound m)) _ _ (refused (λ e. omega arith) refl refl) (λ e₁.
      refuse of_fetch m (not (readable t)) _ _ (refused (λ e. omega arith) refl refl) (λ e₂.
      refuse of_fetch m (leb (row_total m.nodes) r) _ _ (refused (λ e. omega arith) refl refl) (λ e₃.
      let x = row_at m.nodes r in
      let k = child m.nodes x.0 x.1 in
      let n = node_or_fresh t m.nodes x k in
      either of_fetch m (eqb k 0 && n.ongoing) _ _
      (λ q. refuse of_fetch m (eqb (free m.nodes) 0) _ _ (refused (λ e. omega arith) refl refl) (λ z.
      done refl [] refl (omega arith) (fetched t r x.0 x.1 k (is_sound_lem m e₁) (leb-false (row_total m.nodes) r e₃) refl refl q (free m.nodes) refl z)))
      (λ q. done refl [] refl (omega arith) (stay m (is_sound_lem m e₁))))))

  open_outcome : (t : List ℕ) (r : ℕ) → Outcome m (of_change (answer_open t m r))
  unfolding answer_open open_node
  open_outcome t r =
      refuse of_change m (not (sound m)) _ _ (refused (λ e. omega arith) refl refl) (λ e₁.
      refuse of_change m (not (readable t)) _ _ (refused (λ e. omega arith) refl refl) (λ e₂.
      refuse of_change m (leb (row_total m.nodes) r) _ _ (refused (λ e. omega arith) refl refl) (λ e₃.
      let x = row_at m.nodes r in
      let k = child m.nodes x.0 x.1 in
      let n = node_or_fresh t m.nodes x k in
      let j = number_or_free m.nodes k in
      either of_change m n.«open» _ _
      (λ q. done refl [] refl (omega arith) (stay m (is_sound_lem m e₁)))
      (λ q. refuse of_change m (eqb n.direct 0) _ _ (refused (λ e. omega arith) refl refl) (λ e₅.
      refuse of_change m (eqb j 0) _ _ (refused (λ e. omega arith) refl refl) (λ e₆.
      refuse of_change m (ltb row_limit (row_total m.nodes + n.direct)) _ _ (refused (λ e. omega arith) refl refl) (λ e₇.
      done refl (rows_change (suc r) 0 n.direct ∷ []) refl (omega arith)
      (open_result t m (is_sound_lem m e₁) r (leb-false (row_total m.nodes) r e₃) q (omega (arith, eqb-false n.direct 0 e₅)) (eqb-false j 0 e₆) (ltb-false row_limit (row_total m.nodes + n.direct) e₇)))))))))

  closed : (p i k : ℕ) → Sound m → open_child m.nodes p i ≡ k → Outcome m (of_change (close_node m k))
  unfolding close_node
  closed p i zero S e = done refl [] refl (omega arith) (stay m S)
  closed p i (suc k) S e =
      let s = close_each (state m.nodes []) (closing_order m.nodes depth (suc k)) in
      done refl s.log refl (omega (arith, close_short m.nodes S.well k (open_child_lem m.nodes S.well p i k e).0)) (close_result m S p i k e)

  close_outcome : (r : ℕ) → Outcome m (of_change (answer_close m r))
  unfolding answer_close
  close_outcome r =
      refuse of_change m (not (sound m)) _ _ (refused (λ e. omega arith) refl refl) (λ e₁.
      refuse of_change m (leb (row_total m.nodes) r) _ _ (refused (λ e. omega arith) refl refl) (λ e₂.
      let x = row_at m.nodes r in
      closed x.0 x.1 (open_child m.nodes x.0 x.1) (is_sound_lem m e₁) refl))

  released : (p i k : ℕ) → Sound m → child m.nodes p i ≡ k → Outcome m (of_model (release_node m k))
  unfolding release_node
  released p i zero S e = done refl [] refl (omega arith) (stay m S)
  released p i (suc k) S e =
      refuse of_model m (is_open (node_at m.nodes (suc k))) _ _ (refused (λ e. omega arith) refl refl) (λ c.
      done refl [] refl (omega arith) (release_result m S k (used_small m.nodes S.well (suc k) (child_found used m.nodes p i k e).0) c))

  release_outcome : (r : ℕ) → Outcome m (of_model (answer_release m r))
  unfolding answer_release
  release_outcome r =
      refuse of_model m (not (sound m)) _ _ (refused (λ e. omega arith) refl refl) (λ e₁.
      refuse of_model m (leb (row_total m.nodes) r) _ _ (refused (λ e. omega arith) refl refl) (λ e₂.
      let x = row_at m.nodes r in
      released x.0 x.1 (child m.nodes x.0 x.1) (is_sound_lem m e₁) refl))

  update_outcome : (t : List ℕ) → Outcome m (of_update (answer_update t m))
  unfolding answer_update updated
  update_outcome t =
      refuse of_update m (not (sound m)) _ _ (refused (λ e. omega arith) refl refl) (λ e₁.
      refuse of_update m (not (readable t)) _ _ (refused (λ e. omega arith) refl refl) (λ e₂.
      refuse of_update m (any_went_back t m.nodes (visits m.nodes)) _ _ (refused (λ e. omega arith) refl refl) (λ e₃.
      let s = steps t (state m.nodes []) (visits m.nodes) in
      refuse of_update m (ltb row_limit (row_total s.nodes)) _ _ (refused (λ e. omega arith) refl refl) (λ e₄.
      done refl s.log refl (update_short t m.nodes (is_sound_lem m e₁).well) (update_result t m (is_sound_lem m e₁) e₃ (ltb-false row_limit (row_total s.nodes) e₄))))))

pub outcome : (m : Model) (c : Call) → Outcome (before m c) (call m c)
unfolding call
outcome m (new t) = new_outcome t
outcome m (update t) = update_outcome m t
outcome m count = count_outcome m
outcome m (fetch t r) = fetch_outcome m t r
outcome m (opening t r) = open_outcome m t r
outcome m (close r) = close_outcome m r
outcome m (release r) = release_outcome m r
