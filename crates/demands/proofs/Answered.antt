-- Every call is answered: with which refusal and exactly when, and what a refused one gives back.
use mathlib.Core.Path.{◌≡◌, refl}
use mathlib.Core.Bool.{Bool, true, false, cond, not, ◌&&◌}
use mathlib.Core.List.{List, [], ◌∷◌}
use Prim.Native.Nat.{ℕ, zero, suc, ◌+◌}
use native.Mathlib.Omega.{arith}
use lib.Dec.{eqb, ltb, leb}
use borrow.Author.Tests.{lt-ltb}
use Rattle.model.specs.declared.Node.{Node}
use Rattle.model.specs.declared.Model.{Model}
use Rattle.model.specs.Answers.{ModelAnswer, CountAnswer, FetchAnswer, ChangeAnswer, UpdateAnswer, just_model, no_fetch, no_change, no_update, refuse_if}
use Rattle.model.specs.Places.{row_limit}
use Rattle.model.specs.Table.{readable, item_count}
use Rattle.model.specs.Nodes.{node_at, is_open, open_child, free}
use Rattle.model.specs.Rows.{row_total, row_at}
use Rattle.model.specs.Logs.{state}
use Rattle.model.specs.Sound.{sound}
use Rattle.model.specs.New.{zeros, answer_new}
use Rattle.model.specs.Count.{counted, answer_count}
use Rattle.model.specs.Fetch.{fetch_node, answer_fetch}
use Rattle.model.specs.Open.{number_or_free, open_node, answer_open}
use Rattle.model.specs.Close.{close_node, answer_close}
use Rattle.model.specs.Release.{release_node, answer_release}
use Rattle.model.specs.Update.{visits, any_went_back, steps, updated, answer_update}
use Rattle.demands.specs.Refusals.{Refusals, first, Answered, node_of, shown_of, of_new, of_count, of_fetch, of_open, of_close, of_release, of_update}

done : {A : Type 0} {number : A → ℕ} {refused : ℕ → A} {a : A} → number a ≡ 0 → Answered number refused [] a
unfolding first
done e = record { exactly = e; back = λ n. absurd (n e) }

-- one more condition is looked at first
asked :
    {A : Type 0} {number : A → ℕ} {refused : ℕ → A} {rs : Refusals} {a : A} (c : Bool) (n : ℕ)
    → number (refused n) ≡ n
    → Answered number refused rs a
    → Answered number refused ((c, n) ∷ rs) (refuse_if c (refused n) a)
unfolding first
asked true n e R = record { exactly = e; back = λ d. rw e }
asked false n e R = record { exactly = R.exactly; back = R.back }

abbrev of_model : ModelAnswer → ℕ
of_model a = a.refusal

abbrev of_change : ChangeAnswer → ℕ
of_change a = a.refusal

abbrev of_fetched : FetchAnswer → ℕ
of_fetched a = a.refusal

abbrev of_updated : UpdateAnswer → ℕ
of_updated a = a.refusal

pub new_answered : (t : List ℕ) → Answered of_model (λ n. just_model n zeros) (of_new t) (answer_new t)
unfolding answer_new
new_answered t = asked (not (readable t)) 2 refl (asked (ltb 0 (item_count t 0)) 3 refl (done refl))

pub count_answered : (m : Model) → Answered (λ (a : CountAnswer). a.refusal) (λ n. counted n 0) (of_count m) (answer_count m)
unfolding answer_count
count_answered m = asked (not (sound m)) 1 refl (done refl)

module _ (t : List ℕ) (m : Model) (r : ℕ) where
  abbrev ns : List Node
  ns = m.nodes

  pub fetch_answered : Answered of_fetched (λ n. no_fetch n m) (of_fetch t m r) (answer_fetch t m r)
  unfolding answer_fetch fetch_node
  fetch_answered =
      asked (not (sound m)) 1 refl
      (asked (not (readable t)) 2 refl
      (asked (leb (row_total ns) r) 4 refl
      node))
    where
      go : (b z : Bool) (a c : FetchAnswer) → a.refusal ≡ 0 → c.refusal ≡ 0 → Answered of_fetched (λ n. no_fetch n m) ((b && z, 6) ∷ []) (cond b (refuse_if z (no_fetch 6 m) a) c)
      go true z a c e f = asked z 6 refl (done e)
      go false z a c e f = asked false 6 refl (done f)

      node : Answered of_fetched (λ n. no_fetch n m) (((eqb (node_of m r) 0 && (shown_of t m r).ongoing) && eqb (free ns) 0, 6) ∷ []) (fetch_node m (shown_of t m r) (node_of m r))
      node = go (eqb (node_of m r) 0 && (shown_of t m r).ongoing) (eqb (free ns) 0) _ _ refl refl

  pub open_answered : Answered of_change (λ n. no_change n m) (of_open t m r) (answer_open t m r)
  unfolding answer_open open_node
  open_answered =
      asked (not (sound m)) 1 refl
      (asked (not (readable t)) 2 refl
      (asked (leb (row_total ns) r) 4 refl
      node))
    where
      -- an open row is done before 5 to 7 are looked at
      go :
          (o x y z : Bool) (a : ChangeAnswer)
          → a.refusal ≡ 0
          → Answered of_change (λ n. no_change n m) ((not o && x, 5) ∷ (not o && y, 6) ∷ (not o && z, 7) ∷ []) (cond o (no_change 0 m) (refuse_if x (no_change 5 m) (refuse_if y (no_change 6 m) (refuse_if z (no_change 7 m) a))))
      go true x y z a e =
          asked false 5 refl
          (asked false 6 refl
          (asked false 7 refl
          (done refl)))
      go false x y z a e =
          asked x 5 refl
          (asked y 6 refl
          (asked z 7 refl
          (done e)))

      n₀ : Node
      n₀ = shown_of t m r

      node : Answered of_change (λ n. no_change n m) ((not n₀.«open» && eqb n₀.direct 0, 5) ∷ (not n₀.«open» && eqb (number_or_free ns (node_of m r)) 0, 6) ∷ (not n₀.«open» && ltb row_limit (row_total ns + n₀.direct), 7) ∷ []) (open_node m r n₀ (number_or_free ns (node_of m r)))
      node = go n₀.«open» (eqb n₀.direct 0) (eqb (number_or_free ns (node_of m r)) 0) (ltb row_limit (row_total ns + n₀.direct)) _ refl

module _ (m : Model) (r : ℕ) where
  pub close_answered : Answered of_change (λ n. no_change n m) (of_close m r) (answer_close m r)
  unfolding answer_close close_node
  close_answered =
      let x = row_at m.nodes r in
      asked (not (sound m)) 1 refl
      (asked (leb (row_total m.nodes) r) 4 refl
      (done (served (open_child m.nodes x.0 x.1))))
    where
      served : (k : ℕ) → (close_node m k).refusal ≡ 0
      served zero = refl
      served (suc k) = refl

  pub release_answered : Answered of_model (λ n. just_model n m) (of_release m r) (answer_release m r)
  unfolding answer_release release_node
  release_answered =
      asked (not (sound m)) 1 refl
      (asked (leb (row_total m.nodes) r) 4 refl
      (node (node_of m r)))
    where
      node : (k : ℕ) → Answered of_model (λ n. just_model n m) ((ltb 0 k && is_open (node_at m.nodes k), 9) ∷ []) (release_node m k)
      node zero = asked false 9 refl (done refl)
      node (suc k) =
          rw (lt-ltb 0 (suc k) (omega arith))
          (asked (is_open (node_at m.nodes (suc k))) 9 refl (done refl))

pub update_answered : (t : List ℕ) (m : Model) → Answered of_updated (λ n. no_update n m) (of_update t m) (answer_update t m)
unfolding answer_update updated
update_answered t m =
    asked (not (sound m)) 1 refl
    (asked (not (readable t)) 2 refl
    (asked (any_went_back t m.nodes (visits m.nodes)) 8 refl
    (asked (ltb row_limit (row_total (steps t (state m.nodes []) (visits m.nodes)).nodes)) 7 refl
    (done refl))))
