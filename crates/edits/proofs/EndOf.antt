-- The end of an open node's rows: the row there has another parent than the row before it, so a region starts there.
use Prim.Native.Nat.{ℕ, suc, ◌+◌, ◌-◌, ◌≤◌, ◌<◌}
use native.Mathlib.Omega.{arith}
use mathlib.Core.Path.{◌≡◌, refl, ap, ◌∙◌}
use mathlib.Core.Logic.{◌⊎◌, inl, inr, ◌≢◌}
use mathlib.Core.List.{List, [], Memᴰ as In}
use lib.ListN.{length, get_or, take, drop, length-take, length-drop}
use lib.Seq.{get_or-take, get_or-drop}
use Rattle.lists.proofs.Edits.{get_or_in}
use Rattle.paths.specs.Order.{Path, ◌·◌, Lt, Ext, Under}
use Rattle.paths.proofs.Decided.{lt_irrefl, lt_trans}
use Rattle.paths.specs.Listings.{At}
use Rattle.paths.proofs.Order.{ext_parent, under_child, ext_branch, branch_lt, lt_child}
use Rattle.paths.proofs.Sorted.{at_in, at_after, cut_low, cut_high}
use Rattle.paths.proofs.Listings.{branch_inside}
use Rattle.model.specs.declared.Node.{Node}
use Rattle.model.specs.Nodes.{direct_of}
use Rattle.model.specs.Rows.{row_total, row_at, row_of, paths}
use Rattle.model.specs.Update.{end_of}
use Rattle.tree.specs.WellFormed.{Opens, WellFormed}
use Rattle.tree.specs.Paths.{shape, to}
use Rattle.tree.proofs.WellFormed.{open_used}
use Rattle.tree.proofs.Find.{rooted}
use Rattle.tree.proofs.Listing.{lists, at_row, count_at}
use Rattle.tree.proofs.Rows.{at_node, total_children, end_of_lem}

-- a member at a place, before or from a place on
at_take : (l : List Path) (n r : ℕ) (x : Path) → At l r x → r < n → In x (take n l)
at_take l n r x a h =
    let e : get_or (take n l) r [] ≡ x = get_or-take n l r [] h ∙ a.1 in
    let i : r < length (take n l) = rw length-take (omega (arith, a.0)) in
    rw e at (get_or_in (take n l) r [] i)

at_drop : (l : List Path) (n r : ℕ) (x : Path) → At l r x → n ≤ r → In x (drop n l)
at_drop l n r x a h =
    let z : n + (r - n) ≡ r = omega arith in
    let e : get_or (drop n l) (r - n) [] ≡ x = get_or-drop n l (r - n) [] ∙ ap (λ (i : ℕ). get_or l i []) z ∙ a.1 in
    let i : r - n < length (drop n l) = omega (arith, length-drop n l, a.0) in
    rw e at (get_or_in (drop n l) (r - n) [] i)

module _ (ns : List Node) (w : WellFormed ns) (k : ℕ) (o : Opens ns (suc k)) where
  abbrev own : Path
  own = to ns (suc k)

  abbrev next : Path
  next = own · direct_of ns (suc k)

  -- an open node has a row below it
  pub end_after : suc (row_of ns (suc k)) < end_of ns (suc k)
  unfolding end_of
  end_after = omega (arith, total_children ns w (suc k) o, (w.placed k (open_used ns (suc k) o)).filled o)

  -- the rows after its own, up to the end, are below it, and no others
  below : (r : ℕ) (x : Path) → row_of ns (suc k) < r → r < end_of ns (suc k) → At (paths ns) r x → Ext own x
  below r x h l a = go (lt_child own x (direct_of ns (suc k)) before)
    where
      after : Lt own x
      after = at_after (lists ns w).sorted (row_of ns (suc k)) own (at_node ns w k (open_used ns (suc k) o)) x (at_drop (paths ns) (suc (row_of ns (suc k))) r x a (omega arith))

      before : Lt x next
      before = cut_low next (lists ns w).sorted x (rw (end_of_lem ns w (suc k) o) at (at_take (paths ns) (end_of ns (suc k)) r x a l))

      go : Lt x own ⊎ Under own x → Ext own x
      go (inl b) = absurd (lt_irrefl own (lt_trans after b))
      go (inr (inl e)) = absurd (lt_irrefl own (rw e at after))
      go (inr (inr h)) = h

  not_below : (r : ℕ) (x : Path) → end_of ns (suc k) ≤ r → At (paths ns) r x → Ext own x → ⊥
  not_below r x h a e =
      let b = ext_branch e in
      let inside = rw (count_at ns w (suc k) o) at (branch_inside (shape ns) (rooted ns w) own x b.0 b.1 ((lists ns w).of x (at_in (lists ns w).sorted r x a))) in
      cut_high next (lists ns w).sorted x (rw (end_of_lem ns w (suc k) o) at (at_drop (paths ns) (end_of ns (suc k)) r x a h)) (branch_lt own inside b.1 (inl refl))

  pub end_parted : end_of ns (suc k) < row_total ns → (row_at ns (end_of ns (suc k) - 1)).0 ≢ (row_at ns (end_of ns (suc k))).0
  end_parted h e =
      let s = end_of ns (suc k) in
      let a = row_at ns (s - 1) in
      let b = row_at ns s in
      let last = below (s - 1) (to ns a.0 · a.1) (omega (arith, end_after)) (omega (arith, end_after)) (at_row ns w (s - 1) a.0 a.1 (omega arith) refl) in
      not_below s (to ns b.0 · b.1) (omega arith) (at_row ns w s b.0 b.1 h refl)
      (under_child own (to ns b.0) b.1 (rw e at (ext_parent own (to ns a.0) a.1 last)))
