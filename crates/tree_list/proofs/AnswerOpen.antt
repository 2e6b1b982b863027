-- Open, by its refusals; a row that shows can be opened, unless that is refused.
use Prim.Native.Nat.{ℕ, zero, suc, ◌+◌, ◌-◌, ◌^◌, ◌≤◌, ◌<◌}
use native.Mathlib.Omega.{arith}
use mathlib.Core.Path.{◌≡◌, refl, sym, ap, ◌∙◌, subst}
use mathlib.Core.Logic.{◌≢◌}
use mathlib.Core.Bool.{true, false}
use mathlib.Core.List.{List, [], ◌∷◌}
use lib.ListN.{set}
use borrow.Author.Tests.{le-leb, lt-leb, ne_eqb, lt-ltb, le-ltb}
use Rattle.model.specs.declared.Node.{Node}
use Rattle.model.specs.declared.Model.{Model}
use Rattle.model.specs.declared.ChildIndex.{ChildIndex}
use Rattle.model.specs.Answers.{ChangeAnswer, no_change}
use Rattle.std.specs.Prelude.{Some, None}
use Rattle.model.specs.Places.{row_limit, unless_zero}
use Rattle.model.specs.Table.{readable}
use Rattle.model.specs.Nodes.{node_at, used, is_open, child, free, with_open}
use Rattle.model.specs.Rows.{row_total, row_at}
use Rattle.model.specs.Settle.{settle}
use Rattle.model.specs.Sound.{sound}
use Rattle.model.specs.Logs.{rows_change}
use Rattle.model.specs.Fetch.{fresh, node_or_fresh}
use Rattle.model.specs.Open.{changed, number_or_free, open_node, open_row, answer_open}
use Rattle.runs.specs.Search.{region_at}
use Rattle.runs.specs.Laid.{live}
use Rattle.steps.specs.Changes.{Put}
use Rattle.steps.proofs.Opening.{open_put}
use Rattle.steps.proofs.Settling.{sound_of, sound_given}
use Rattle.model.proofs.Search.{child_found}
use Rattle.model.proofs.UnlessZero.{some_is, none_is}
use Rattle.tree.proofs.Rows.{total_shut}
use Rattle.edits.specs.Openable.{Openable}
use Rattle.tree_list.specs.OpenedRow.{CanOpen}
use Rattle.tree_list.proofs.SoundRows.{row_there}
use Rattle.tree_list.proofs.Checked.{RowFound}
use Rattle.steps.proofs.SoundRegions.{found_inside}

module _ (t : List ℕ) (m : Model) (r : ℕ) where
  pub open_unsound : sound m ≡ false → answer_open t m r ≡ no_change 1 m
  unfolding answer_open
  open_unsound e = rw e

  pub open_unreadable : sound m ≡ true → readable t ≡ false → answer_open t m r ≡ no_change 2 m
  unfolding answer_open
  open_unreadable e f = rw (e, f)

  pub open_past : sound m ≡ true → readable t ≡ true → row_total m.nodes ≤ r → answer_open t m r ≡ no_change 4 m
  unfolding answer_open
  open_past e f h = rw (e, f, le-leb (row_total m.nodes) r h)

  pub open_row_lem : sound m ≡ true → readable t ≡ true → r < row_total m.nodes → answer_open t m r ≡ open_row t m r (row_at m.nodes r)
  unfolding answer_open
  open_row_lem e f h = rw (e, f, lt-leb (row_total m.nodes) r h)

-- a row with node n, by what is known of it and of its number j
module _ (m : Model) (r : ℕ) (n : Node) (j : ℕ) where
  pub open_already : is_open n ≡ true → open_node m r n j ≡ no_change 0 m
  unfolding open_node
  open_already o = rw o

  module _ (c : is_open n ≡ false) where
    pub open_childless : n.direct ≡ 0 → open_node m r n j ≡ no_change 5 m
    unfolding open_node
    open_childless z = rw (c, z)

    module _ (d : n.direct ≢ 0) where
      pub open_full : None ≡ unless_zero j → open_node m r n j ≡ no_change 6 m
      unfolding open_node
      open_full e = rw (c, ne_eqb n.direct 0 d, none_is j e)

      module _ (k : ℕ) (g : Some k ≡ unless_zero j) where
        e : k ≡ j
        e = (some_is j k g).0

        some : j ≢ 0
        some z = (some_is j k g).1 (e ∙ z)

        pub open_over : sound m ≡ true → row_limit - m.published < n.direct → open_node m r n j ≡ no_change 7 m
        unfolding open_node
        open_over s h =
            let p = (sound_given m (sound_of m s)).published in
            rw (c, ne_eqb n.direct 0 d, ne_eqb j 0 some, lt-ltb row_limit (row_total m.nodes + n.direct) (omega (arith, (sound_of m s).limit)))

        open_fits : sound m ≡ true → n.direct ≤ row_limit - m.published → row_total m.nodes + n.direct ≤ row_limit
        open_fits s h = omega (arith, (sound_given m (sound_of m s)).published, (sound_of m s).limit)

        -- the node can be put, and the row after it has a number
        pub open_asks : (place : ℕ) → sound m ≡ true → CanOpen m place r j n → n.direct ≤ row_limit - m.published → Openable m place r k n
        open_asks place s o h = subst (λ (i : ℕ). Openable m place r i n) (sym e) (o c d some (open_fits s h))

        pub open_next : (place : ℕ) → sound m ≡ true → CanOpen m place r j n → n.direct ≤ row_limit - m.published → suc r < 2 ^ 64
        open_next place s o h = let S = sound_of m s in omega (arith, found_inside m S r place (open_asks place s o h).found, S.limit)

        pub open_done :
            (a : ChangeAnswer) (q : Model)
            → sound m ≡ true
            → n.direct ≤ row_limit - m.published
            → q ≡ settle (set m.nodes k (with_open true n))
            → a ≡ changed q (rows_change (suc r) 0 n.direct ∷ [])
            → a ≡ open_node m r n j
        unfolding open_node
        open_done a q s h u b =
            rw (c, ne_eqb n.direct 0 d, ne_eqb j 0 some, le-ltb row_limit (row_total m.nodes + n.direct) (open_fits s h))
            (b ∙ ap (λ (x : Model). changed x (rows_change (suc r) 0 n.direct ∷ [])) (u ∙ ap (λ (i : ℕ). settle (set m.nodes i (with_open true n))) e))

module _ (t : List ℕ) (m : Model) (s : sound m ≡ true) (place r p i : ℕ) (e : row_at m.nodes r ≡ (p, i)) (h : region_at (live m) r ≡ Some place) where
  -- a closed row's total is its count
  total_direct : (k : ℕ) → child m.nodes p i ≡ k → let n = node_or_fresh t m.nodes (p, i) k in is_open n ≡ false → n.total ≡ n.direct
  unfolding fresh
  total_direct zero f c = refl
  total_direct (suc k) f c =
      let S = sound_of m s in
      (sound_given m S).totals.total (suc k) (child_found used m.nodes p i k f).0 ∙ total_shut m.nodes S.well (suc k) c

  shown_opens : let k = child m.nodes p i in CanOpen m place r (number_or_free m.nodes k) (node_or_fresh t m.nodes (p, i) k)
  shown_opens c z j l =
      let S = sound_of m s in
      let some : 0 < (node_or_fresh t m.nodes (p, i) (child m.nodes p i)).direct = omega (arith, z) in
      let o = open_put t m.nodes S.well p i (rw e at (row_there m s r place h)) c some j in
      record {
        whole = S;
        found = h;
        row = e ∙ (λ x. (sym o.1 x, sym o.2 x));
        put = subst (λ (a : ℕ). Put m.nodes a (with_open true (node_or_fresh t m.nodes (p, i) (child m.nodes p i)))) (sym o.0.is) o.0.put;
        was = ap (λ (a : ℕ). is_open (node_at m.nodes a)) o.0.is ∙ o.0.was;
        flat = total_direct (child m.nodes p i) refl c;
        filled = some;
        room = l;
      }

-- and so, of a row that was found
module _ (t : List ℕ) (m : Model) (r p : ℕ) (i : ChildIndex) (F : RowFound m r p i) (n : Node) (g : n ≡ node_or_fresh t m.nodes (p, i.0) (child m.nodes p i.0)) where
  abbrev number : ℕ
  number = child m.nodes p i.0

  pub open_asked : readable t ≡ true → open_node m r n (number_or_free m.nodes number) ≡ answer_open t m r
  open_asked f =
      ap (λ (x : Node). open_node m r x (number_or_free m.nodes number)) g
      ∙ ap (open_row t m r) F.stands
      ∙ sym (open_row_lem t m r F.whole f F.inside)

  pub can_open : (place : ℕ) → region_at (live m) r ≡ Some place → CanOpen m place r (number_or_free m.nodes number) n
  can_open place h = subst (λ (y : Node). CanOpen m place r (number_or_free m.nodes number) y) (sym g) (shown_opens t m F.whole place r p i.0 (sym F.stands) h)

pub published_limit : (m : Model) → sound m ≡ true → m.published ≤ row_limit
published_limit m s = let S = sound_of m s in omega (arith, (sound_given m S).published, S.limit)

-- the number that a row's node has, or would get
pub number_none : (m : Model) (k : ℕ) → k ≡ 0 → number_or_free m.nodes k ≡ free m.nodes
number_none m k e = ap (number_or_free m.nodes) e

pub number_some : (m : Model) (k : ℕ) → k ≢ 0 → number_or_free m.nodes k ≡ k
number_some m zero d = absurd (d refl)
number_some m (suc k) d = refl
