-- Fetch, by its refusals; the child lookup as the node that a row would get; a followed row's node put in place.
use Prim.Native.Nat.{ℕ, zero, suc, ◌*◌, ◌≤◌, ◌<◌}
use native.Mathlib.Omega.{arith}
use mathlib.Core.Path.{◌≡◌, refl, sym, ap, ◌∙◌}
use mathlib.Core.Logic.{◌⊎◌, inl, inr}
use mathlib.Core.Bool.{Bool, true, false, cond, ◌&&◌, false≢true}
use mathlib.Core.List.{List, [], ◌∷◌}
use lib.Dec.{eqb}
use lib.ListN.{length, get_or, set, drop, length-drop}
use lib.Seq.{length-take-le}
use Rattle.std.specs.Prelude.{Option, Some, None, is_some}
use Rattle.model.specs.Places.{unless_zero}
use borrow.Author.Tests.{le-leb, lt-leb, ne_eqb}
use Rattle.model.specs.declared.Node.{Node}
use Rattle.model.specs.declared.Model.{Model}
use Rattle.model.specs.declared.ChildIndex.{ChildIndex}
use Rattle.model.specs.declared.FetchedRow.{FetchedRow}
use Rattle.model.specs.Answers.{FetchAnswer, no_fetch, refuse_if}
use Rattle.model.specs.Table.{readable, child_entry, child_words, child_count, child_ongoing, child_version}
use Rattle.model.specs.Nodes.{no_node, node_at, child, free, used}
use Rattle.model.specs.Rows.{Row, row_total, row_at}
use Rattle.model.specs.Settle.{settle}
use Rattle.model.specs.Sound.{sound}
use Rattle.model.specs.Fetch.{fresh, node_or_fresh, shown, fetched, fetch_node, fetch_row, answer_fetch}
use Rattle.steps.specs.Settled.{with_nodes}
use Rattle.model.proofs.UnlessZero.{some_is, none_is}
use Rattle.table.proofs.Lookup.{words_whole, words_none, words_some, words_inside}
use Rattle.steps.proofs.Put.{free_unused}
use Rattle.steps.proofs.Quiet.{quiet_followed}
use Rattle.steps.proofs.Settling.{sound_of}
use Rattle.tree_list.specs.Following.{Followable}
use Rattle.tree_list.proofs.SoundRows.{child_small}
use Rattle.tree_list.proofs.Checked.{RowFound}
use Rattle.edits.proofs.InPlace.{quiet_in_place, put_totals}
use Rattle.model.proofs.Search.{child_found}
use Rattle.tree.proofs.WellFormed.{used_small, open_used}
use Rattle.tree.specs.Paths.{Shows}

module _ (t : List ℕ) (m : Model) (r : ℕ) where
  pub fetch_unsound : sound m ≡ false → answer_fetch t m r ≡ no_fetch 1 m
  unfolding answer_fetch
  fetch_unsound e = rw e

  pub fetch_unreadable : sound m ≡ true → readable t ≡ false → answer_fetch t m r ≡ no_fetch 2 m
  unfolding answer_fetch
  fetch_unreadable e f = rw (e, f)

  pub fetch_past : sound m ≡ true → readable t ≡ true → row_total m.nodes ≤ r → answer_fetch t m r ≡ no_fetch 4 m
  unfolding answer_fetch
  fetch_past e f h = rw (e, f, le-leb (row_total m.nodes) r h)

  pub fetch_row_lem : sound m ≡ true → readable t ≡ true → r < row_total m.nodes → answer_fetch t m r ≡ fetch_row t m (row_at m.nodes r)
  unfolding answer_fetch
  fetch_row_lem e f h = rw (e, f, lt-leb (row_total m.nodes) r h)

-- a row's node, by what is known of it
module _ (m : Model) (n : Node) where
  -- one that has a number, or is complete, is shown as it is
  pub fetch_shown : (k : ℕ) → (k ≡ 0 → n.ongoing ≡ false) → fetch_node m n k ≡ fetched m (shown m.nodes n k)
  unfolding fetch_node
  fetch_shown zero c = rw (c refl)
  fetch_shown (suc k) c = rw (ne_eqb (suc k) 0 (λ z. omega arith))

  -- an ongoing one without a node, where j is free
  abbrev following : ℕ → FetchAnswer
  following j = refuse_if (eqb j 0) (no_fetch 6 m) (fetched (settle (set m.nodes j n)) (shown m.nodes n j))

  ongoing_following : n.ongoing ≡ true → fetch_node m n 0 ≡ following (free m.nodes)
  unfolding fetch_node
  ongoing_following o = pick n.ongoing o (following (free m.nodes)) (fetched m (shown m.nodes n 0))
    where
      pick : (b : Bool) → b ≡ true → (x y : FetchAnswer) → cond (eqb 0 0 && b) x y ≡ x
      pick true e x y = refl
      pick false e x y = absurd (false≢true e)

  pub fetch_full : n.ongoing ≡ true → None ≡ unless_zero (free m.nodes) → fetch_node m n 0 ≡ no_fetch 6 m
  fetch_full o e = ongoing_following o ∙ ap following (none_is (free m.nodes) e)

  pub fetch_followed : n.ongoing ≡ true → Followable m n → (j : ℕ) → Some j ≡ unless_zero (free m.nodes) → fetch_node m n 0 ≡ fetched (with_nodes m (set m.nodes j n)) (shown m.nodes n j)
  fetch_followed o f j e = by j (some_is (free m.nodes) j e)
    where
      by : (j : ℕ) → (j ≡ free m.nodes) × (j ≡ 0 → ⊥) → fetch_node m n 0 ≡ fetched (with_nodes m (set m.nodes j n)) (shown m.nodes n j)
      by zero z = absurd (z.1 refl)
      by (suc j) z =
          ongoing_following o
          ∙ ap following (sym z.0)
          ∙ rw (ne_eqb (suc j) 0 z.1) (ap (λ (q : Model). fetched q (shown m.nodes n (suc j))) (f j (sym z.0)))

-- what has a number has one above 0
pub number_there : (j : Option ℕ) (k : ℕ) → j ≡ unless_zero k → is_some j ≡ true → k ≡ 0 → ⊥
number_there j k e f z = false≢true (sym (ap is_some (e ∙ ap unless_zero z)) ∙ f)

-- what is shown, with the number that a row has or not
pub shown_as : (ns : List Node) (n : Node) (j : Option ℕ) (k : ℕ) → j ≡ unless_zero k → ◌≡◌ {A = FetchedRow} (record { parent_entry = (node_at ns n.parent).entry; index = record { 0 = n.index }; entry = n.entry; count = n.direct; version = n.version; «open» = n.«open»; ongoing = n.ongoing; node = j }) (shown ns n k)
unfolding shown
shown_as ns n j k e = λ s. record { parent_entry = (node_at ns n.parent).entry; index = record { 0 = n.index }; entry = n.entry; count = n.direct; version = n.version; «open» = n.«open»; ongoing = n.ongoing; node = e s }

-- the node of a row that has a number, and of one that has none
pub numbered_node : (t : List ℕ) (ns : List Node) (x : Row) (j k : ℕ) → Some j ≡ unless_zero k → node_at ns j ≡ node_or_fresh t ns x k
numbered_node t ns x j zero e = cc
numbered_node t ns x j (suc k) e = ap (node_at ns) (some_is (suc k) j e).0

pub unnumbered_node : (t : List ℕ) (ns : List Node) (x : Row) (k : ℕ) → None ≡ unless_zero k → fresh t ns x.0 x.1 ≡ node_or_fresh t ns x k
unnumbered_node t ns x k e = sym (ap (node_or_fresh t ns x) (none_is k e))

-- the free place is one of the array
pub free_small : (m : Model) (j : ℕ) → length m.nodes ≡ 256 → Some j ≡ unless_zero (free m.nodes) → j < 256
free_small m j s e = by j (some_is (free m.nodes) j e)
  where
    by : (j : ℕ) → (j ≡ free m.nodes) × (j ≡ 0 → ⊥) → j < 256
    by zero z = omega arith
    by (suc j) z = rw s at (free_unused m.nodes j (sym z.0)).0

module _ (t : List ℕ) (ns : List Node) (p : ℕ) (i : ℕ) where
  abbrev item : ℕ
  item = (node_at ns p).entry

  -- not listed: a complete leaf
  pub fresh_leaf : (n : Node) → n ≡ no_node → None ≡ unless_zero (child_entry t item i) → ◌≡◌ {A = Node} (record { parent = p; index = i; entry = n.entry; direct = n.direct; total = n.total; version = n.version; «open» = n.«open»; ongoing = n.ongoing }) (fresh t ns p i)
  unfolding fresh child_count child_version child_ongoing
  fresh_leaf n d e =
      let w = words_none t item i e in
      let z = none_is (child_entry t item i) e in
      (λ s. record { parent = p; index = i; entry = (d s).entry; direct = (d s).direct; total = (d s).total; version = (d s).version; «open» = (d s).«open»; ongoing = (d s).ongoing })
      ∙ (λ s. record { parent = p; index = i; entry = sym z s; direct = get_or (sym w s) 2 0; total = get_or (sym w s) 2 0; version = get_or (sym w s) 4 0; «open» = false; ongoing = eqb (get_or (sym w s) 3 1) 0 })

  pub listed_five : (e : ℕ) → Some e ≡ unless_zero (child_entry t item i) → length (child_words t item i) ≡ 5
  listed_five e h = by (words_whole t item i)
    where
      by : (child_words t item i ≡ []) ⊎ (length (child_words t item i) ≡ 5) → length (child_words t item i) ≡ 5
      by (inl z) = absurd (omega (arith, words_inside t item i e h, ap length (sym z ∙ words_some t item i e h), length-take-le 5 (drop (5 * e) t) (rw length-drop (omega (arith, words_inside t item i e h)))))
      by (inr k) = k

  pub fresh_listed : (w : List ℕ) (e : ℕ) (n : Node) → n ≡ no_node → w ≡ child_words t item i → Some e ≡ unless_zero (child_entry t item i) → ◌≡◌ {A = Node} (record { parent = p; index = i; entry = e; direct = get_or w 2 0; total = get_or w 2 0; version = get_or w 4 0; «open» = n.«open»; ongoing = eqb (get_or w 3 0) 0 }) (fresh t ns p i)
  unfolding fresh child_count child_version child_ongoing
  fresh_listed w e n c d f =
      let q : get_or w 3 0 ≡ get_or (child_words t item i) 3 1 = ap (λ (v : List ℕ). get_or v 3 0) d ∙ state (child_words t item i) (listed_five e f) in
      let k = (some_is (child_entry t item i) e f).0 in
      λ s. record { parent = p; index = i; entry = k s; direct = get_or (d s) 2 0; total = get_or (d s) 2 0; version = get_or (d s) 4 0; «open» = (c s).«open»; ongoing = eqb (q s) 0 }
    where
      state : (v : List ℕ) → length v ≡ 5 → get_or v 3 0 ≡ get_or v 3 1
      state [] h = absurd (omega arith)
      state (a ∷ []) h = absurd (omega arith)
      state (a ∷ b ∷ []) h = absurd (omega arith)
      state (a ∷ b ∷ c ∷ []) h = absurd (omega arith)
      state (a ∷ b ∷ c ∷ x ∷ v) h = refl

pub fresh_parent : (t : List ℕ) (ns : List Node) (p i : ℕ) → (fresh t ns p i).parent ≡ p
unfolding fresh
fresh_parent t ns p i = refl

-- a row that shows, and has no node yet, can be followed
pub fresh_followable : (t : List ℕ) (m : Model) → sound m ≡ true → (p i : ℕ) → Shows m.nodes (p, i) → child m.nodes p i ≡ 0 → (fresh t m.nodes p i).ongoing ≡ true → Followable m (fresh t m.nodes p i)
unfolding fresh
fresh_followable t m e p i s c o j f =
    let S = sound_of m e in
    quiet_in_place m S (set m.nodes (suc j) (fresh t m.nodes p i))
    (quiet_followed t m.nodes S.well p i j s c f o)
    (put_totals m S (suc j) (fresh t m.nodes p i) (rw S.well.size at (free_unused m.nodes j f).0) refl refl)

-- a row that was found: its number, as what was found of it, and its node
module _ (t : List ℕ) (m : Model) (r p : ℕ) (i : ChildIndex) (F : RowFound m r p i) where
  abbrev number : ℕ
  number = child m.nodes p i.0

  pub parent_small : p < 256
  parent_small = let w = (sound_of m F.whole).well in used_small m.nodes w p (open_used m.nodes p F.shows.0)

  module _ (found : Option ℕ) (f : found ≡ unless_zero number) where
    pub number_small : (k : ℕ) → found ≡ Some k → k < 256
    number_small k g = rw (some_is number k (sym g ∙ f)).0 (child_small m F.whole p i.0)

    module _ (n : Node) (h : n ≡ node_or_fresh t m.nodes (p, i.0) number) where
      pub node_parent : n.parent < 256
      unfolding fresh
      node_parent = rw h (by number refl)
        where
          by : (j : ℕ) → j ≡ child m.nodes p i.0 → (node_or_fresh t m.nodes (p, i.0) j).parent < 256
          by zero z = parent_small
          by (suc j) z = rw (child_found used m.nodes p i.0 j (sym z)).1 parent_small

      pub node_followable : found ≡ None → n.ongoing ≡ true → Followable m n
      node_followable z o =
          let y : number ≡ 0 = none_is number (sym z ∙ f) in
          let q : n ≡ fresh t m.nodes p i.0 = h ∙ ap (node_or_fresh t m.nodes (p, i.0)) y in
          rw q (fresh_followable t m F.whole p i.0 F.shows y (sym (ap (λ (x : Node). x.ongoing) q) ∙ o))

      pub fetch_asked : readable t ≡ true → fetch_node m n number ≡ answer_fetch t m r
      fetch_asked g = ap (λ (x : Node). fetch_node m x number) h ∙ ap (fetch_row t m) F.stands ∙ sym (fetch_row_lem t m r F.whole g F.inside)

-- the same of a number that is 0, or isn't
pub known_none : (t : List ℕ) (ns : List Node) (x : Row) (k : ℕ) → k ≡ 0 → node_or_fresh t ns x k ≡ fresh t ns x.0 x.1
known_none t ns x k e = ap (node_or_fresh t ns x) e

pub known_some : (t : List ℕ) (ns : List Node) (x : Row) (k : ℕ) → (k ≡ 0 → ⊥) → node_or_fresh t ns x k ≡ node_at ns k
known_some t ns x zero n = absurd (n refl)
known_some t ns x (suc k) n = refl
