-- The rows of a list of nodes are the listing of its tree, and a row and its path determine each other.
use mathlib.Core.Path.{◌≡◌, refl, sym, ◌∙◌, ap}
use mathlib.Core.Logic.{◌⊎◌, inl, inr}
use mathlib.Core.Bool.{true, false, false≢true}
use mathlib.Core.List.Memᴰ.{append_cases as split}
use mathlib.Core.List.Memᴰ.{append_left as on-left}
use mathlib.Core.List.Memᴰ.{append_right as on-right}
use mathlib.Core.List.Memᴰ.{eq_of_singleton as only}
use mathlib.Core.List.Memᴰ.{head as here}
use mathlib.Core.List.Memᴰ.{not-nil}
use mathlib.Core.List.Memᴰ.{of_map}
use mathlib.Core.List.{
  List,
  [],
  ◌∷◌,
  ◌++◌,
  map,
  map-append,
  map-map,
  filter,
  Memᴰ as In,
}
use Prim.Native.Nat.{ℕ, zero, suc, ◌+◌, ◌<◌}
use native.Mathlib.Omega.{arith}
use native.Mathlib.Decide.{ℕ_discrete}
use lib.ListN.{length, get_or, length-map}
use Rattle.lists.proofs.Bools.{bool, differ}
use Rattle.lists.proofs.Filters.{filter_in, filter_has}
use Rattle.lists.proofs.Edits.{map_same, get_d_map}
use Rattle.paths.specs.Order.{Path, ◌·◌, Lt, Ext, Under, dec_ext}
use Rattle.paths.specs.Shapes.{Open, Showing}
use Rattle.paths.specs.Listings.{Sorted, nil, cons, Lists, At}
use Rattle.paths.proofs.Order.{ext_lt, child_ext, length_child, under_ext, ext_branch, branch_lt, child_inj}
use Rattle.paths.proofs.Sorted.{sorted_unique, sorted_append, sorted_filter, at_unique}
use Rattle.paths.proofs.Listings.{showing_below, above_open, branch_inside}
use Rattle.model.specs.declared.Node.{Node}
use Rattle.model.specs.Places.{depth, longest_chain}
use Rattle.model.specs.Nodes.{node_at, direct_of, used, is_open, child, open_child}
use Rattle.model.specs.Rows.{Row, under, rows_from, rows_of, rows, path, paths}
use Rattle.model.proofs.Search.{child_found}
use Rattle.tree.specs.WellFormed.{Used, Opens, up, ix, WellFormed}
use Rattle.tree.specs.Paths.{next, find, shape, to, From, Shows, front, final, path_row}
use Rattle.tree.proofs.WellFormed.{open_used, zero_open, child_by_is}
use Rattle.tree.proofs.Find.{find_child, lost_node, find_to, to_up, to_zero, to_inj, rooted, open_length}

pub path_is : (ns : List Node) (p i : ℕ) → path ns (p, i) ≡ to ns p · i
unfolding path
path_is ns p i = refl

pub front_child : (p : Path) (i : ℕ) → front (p · i) ≡ p
front_child [] i = refl
front_child (x ∷ []) i = refl
front_child (x ∷ y ∷ p) i = ap (x ∷◌) (front_child (y ∷ p) i)

final_child : (p : Path) (i : ℕ) → final (p · i) ≡ i
final_child [] i = refl
final_child (x ∷ []) i = refl
final_child (x ∷ y ∷ p) i = final_child (y ∷ p) i

pub path_row_child : (ns : List Node) (p : Path) (i : ℕ) → path_row ns (p · i) ≡ (find ns p, i)
unfolding path_row
path_row_child ns p i = rw (front_child, final_child)

module _ (ns : List Node) (w : WellFormed ns) where
  -- an open child of node p, by the number and by the path
  pub open_child_lem : (p i j : ℕ) → open_child ns p i ≡ suc j → Opens ns (suc j) × (up ns (suc j) ≡ p) × (ix ns (suc j) ≡ i) × (to ns (suc j) ≡ to ns p · i)
  open_child_lem p i j e =
      let r = child_found is_open ns p i j e in
      let e₁ = r.1 in
      let e₂ = r.2 in
      (r.0, e₁, e₂, to_up ns w j (open_used ns (suc j) r.0) ∙ rw (e₁, e₂))

  pub shut_child : (p i : ℕ) → Used ns p → open_child ns p i ≡ 0 → (shape ns).is_open (to ns p · i) ≡ false
  shut_child p i u e = rw (find_child, find_to ns w p u) (go (child ns p i) refl (bool (is_open (node_at ns (next ns p i)))))
    where
      go : (j : ℕ) → child ns p i ≡ j → (is_open (node_at ns (next ns p i)) ≡ true) ⊎ (is_open (node_at ns (next ns p i)) ≡ false) → is_open (node_at ns (next ns p i)) ≡ false
      go j c (inr d) = d
      go zero c (inl d) = absurd (false≢true (sym (ap is_open (lost_node ns w)) ∙ (rw c at d)))
      go (suc j) c (inl d) =
          let r = child_found used ns p i j c in
          let z = child_by_is ns w is_open j (λ n t. rw t) (rw c at d) in
          let e₁ = r.1 in
          let e₂ = r.2 in
          absurd (omega (arith, sym e ∙ (rw (e₁, e₂) at z)))

  pub open_at_lem : (k : ℕ) → Opens ns k → Open (shape ns) (to ns k)
  open_at_lem k o = rw (find_to ns w k (open_used ns k o)) o

  pub count_at : (k : ℕ) → Opens ns k → (shape ns).count (to ns k) ≡ direct_of ns k
  count_at k o = rw (find_to ns w k (open_used ns k o))

  pub showing_row : (p i : ℕ) → Opens ns p → i < direct_of ns p → Showing (shape ns) (to ns p · i)
  showing_row p i o h = record { up = to ns p; ix = i; is = refl; open_up = open_at_lem p o; inside = rw (count_at p o) h }

  -- the rows of a part of the tree, in order
  record Part (P : Path → Type 0) (xs : List Row) : Type 0 where
    sorted : Sorted (map (path ns) xs)
    each : (r : Row) → In r xs → Shows ns r × P (path ns r)
    all : (x : Path) → Showing (shape ns) x → P x → In x (map (path ns) xs)

  part_as : (P Q : Path → Type 0) (xs : List Row) → ((x : Path) → P x → Q x) → ((x : Path) → Q x → P x) → Part P xs → Part Q xs
  part_as P Q xs f g A = record { sorted = A.sorted; each = λ r m. let h = A.each r m in (h.0, f (path ns r) h.1); all = λ x s h. A.all x s (g x h) }

  part_append : (P Q : Path → Type 0) (xs ys : List Row) → Part P xs → Part Q ys → ((x y : Path) → P x → Q y → Lt x y) → Part (λ x. P x ⊎ Q x) (xs ++ ys)
  part_append P Q xs ys A B lt = record {
    sorted = rw (map-append (path ns) xs ys) (sorted_append (map (path ns) xs) A.sorted B.sorted (λ x y k m. low x y (of_map (path ns) xs k) (of_map (path ns) ys m)));
    each = λ r m. side r (split xs m);
    all = λ x s h. rw (map-append (path ns) xs ys) (part x s h);
  }
    where
      low : (x y : Path) → (r : Row) × In r xs × (path ns r ≡ x) → (r : Row) × In r ys × (path ns r ≡ y) → Lt x y
      low x y a b = rw (← a.2, ← b.2) (lt (path ns a.0) (path ns b.0) (A.each a.0 a.1).1 (B.each b.0 b.1).1)

      side : (r : Row) → In r xs ⊎ In r ys → Shows ns r × (P (path ns r) ⊎ Q (path ns r))
      side r (inl m) = let h = A.each r m in (h.0, inl h.1)
      side r (inr m) = let h = B.each r m in (h.0, inr h.1)

      part : (x : Path) → Showing (shape ns) x → P x ⊎ Q x → In x (map (path ns) xs ++ map (path ns) ys)
      part x s (inl h) = on-left (map (path ns) ys) (A.all x s h)
      part x s (inr h) = on-right (map (path ns) xs) (B.all x s h)

  part_one : (p i : ℕ) → Opens ns p → i < direct_of ns p → Part (λ x. x ≡ to ns p · i) ((p, i) ∷ [])
  part_one p i o h = record {
    sorted = cons (λ y k. absurd (not-nil k)) nil;
    each = λ r m. let e = only m in (rw e (o, h), rw e (path_is ns p i));
    all = λ x s e. here (e ∙ sym (path_is ns p i));
  }

  part_under : (sub : ℕ → List Row) (p i : ℕ) → Used ns p → ((j : ℕ) → open_child ns p i ≡ suc j → Part (Ext (to ns p · i)) (sub (suc j))) → Part (Ext (to ns p · i)) (under sub (open_child ns p i))
  part_under sub p i u h = go (open_child ns p i) refl
    where
      go : (j : ℕ) → open_child ns p i ≡ j → Part (Ext (to ns p · i)) (under sub j)
      go zero e = record {
        sorted = nil;
        each = λ r m. absurd (not-nil m);
        all = λ x s k. absurd (differ (above_open (shape ns) (rooted ns w) (to ns p · i) x k s) (shut_child p i u e));
      }
      go (suc j) e = h j e

  part_from :
      (sub : ℕ → List Row) (p : ℕ)
      → Opens ns p
      → ((i j : ℕ) → open_child ns p i ≡ suc j → Part (Ext (to ns p · i)) (sub (suc j)))
      → (n i : ℕ)
      → i + n ≡ direct_of ns p
      → Part (From ns p i) (rows_from ns sub p i n)
  unfolding rows_from
  part_from sub p o h zero i e = record {
    sorted = nil;
    each = λ r m. absurd (not-nil m);
    all = λ x s f. absurd (omega (arith, f.1, e, rw (count_at p o) at (branch_inside (shape ns) (rooted ns w) (to ns p) x f.0 f.2 s)));
  }
  part_from sub p o h (suc n) i e =
      part_as (λ x. (x ≡ to ns p · i) ⊎ (Ext (to ns p · i) x ⊎ From ns p (suc i) x)) (From ns p i) ((p, i) ∷ (under sub (open_child ns p i) ++ rows_from ns sub p (suc i) n))
      joined
      (λ x f. apart x f (ℕ_discrete f.0 i))
      (part_append (λ x. x ≡ to ns p · i) (λ x. Ext (to ns p · i) x ⊎ From ns p (suc i) x) ((p, i) ∷ []) (under sub (open_child ns p i) ++ rows_from ns sub p (suc i) n)
      (part_one p i o (omega arith))
      (part_append (Ext (to ns p · i)) (From ns p (suc i)) (under sub (open_child ns p i)) (rows_from ns sub p (suc i) n)
      (part_under sub p i (open_used ns p o) (h i))
      (part_from sub p o h n (suc i) (omega arith))
      (λ x y k f. branch_lt (to ns p) f.1 (inr k) f.2))
      (λ x y k f. first x y k f))
    where
      first : (x y : Path) → x ≡ to ns p · i → Ext (to ns p · i) y ⊎ From ns p (suc i) y → Lt x y
      first x y e (inl k) = rw e (ext_lt k)
      first x y e (inr f) = branch_lt (to ns p) f.1 (inl e) f.2

      joined : (x : Path) → (x ≡ to ns p · i) ⊎ (Ext (to ns p · i) x ⊎ From ns p (suc i) x) → From ns p i x
      joined x (inl e) = (i, (omega arith), inl e)
      joined x (inr (inl k)) = (i, (omega arith), inr k)
      joined x (inr (inr f)) = (f.0, (omega arith), f.2)

      apart : (x : Path) (f : From ns p i x) → Dec (f.0 ≡ i) → (x ≡ to ns p · i) ⊎ (Ext (to ns p · i) x ⊎ From ns p (suc i) x)
      apart x f (yes d) = at (rw d at f.2)
        where
          at : Under (to ns p · i) x → (x ≡ to ns p · i) ⊎ (Ext (to ns p · i) x ⊎ From ns p (suc i) x)
          at (inl e) = inl e
          at (inr k) = inr (inl k)
      apart x f (no n) = inr (inr (f.0, (omega arith), f.2))

  part_of : (f p : ℕ) → Opens ns p → longest_chain < f + length (to ns p) → Part (Ext (to ns p)) (rows_of ns f p)
  unfolding rows_of
  part_of zero p o h = absurd (omega (arith, open_length ns w (to ns p) (open_at_lem p o)))
  part_of (suc f) p o h =
      part_as (From ns p 0) (Ext (to ns p)) (rows_from ns (λ k. rows_of ns f k) p 0 (direct_of ns p))
      (λ x g. under_ext (to ns p · g.0) (child_ext (to ns p) g.0) g.2)
      (λ x k. let r = ext_branch k in (r.0, (omega arith), r.1))
      (part_from (λ k. rows_of ns f k) p o
      (λ i j e. let r = open_child_lem p i j e in let d = r.3 in rw d at (part_of f (suc j) r.0 (rw d (omega (arith, length_child (to ns p) i)))))
      (direct_of ns p) 0 (omega arith))

  rows_part : Part (Ext []) (rows ns)
  unfolding rows
  rows_part = rw (to_zero ns w) at (part_of depth 0 (zero_open ns w) (omega arith))

  -- a row is a child of an open node
  pub shows_row : (r : Row) → In r (rows ns) → Shows ns r
  shows_row r m = (rows_part.each r m).0

  -- the paths of the rows are the listing
  pub lists : Lists (shape ns) (paths ns)
  unfolding paths
  lists = record {
    sorted = rows_part.sorted;
    of = λ x k. of x (of_map (path ns) (rows ns) k);
    to = λ x s. rows_part.all x s (showing_below x s);
  }
    where
      of : (x : Path) → (r : Row) × In r (rows ns) × (path ns r ≡ x) → Showing (shape ns) x
      of x a = let r = a.0 in let s = shows_row r a.1 in rw (← a.2, path_is ns r.0 r.1) (showing_row r.0 r.1 s.0 s.1)

  -- the rows below an open node are those whose paths extend its own
  pub rows_below_lem : (k : ℕ) → Opens ns k → map (path ns) (rows_of ns depth k) ≡ filter (dec_ext (to ns k)) (paths ns)
  rows_below_lem k o =
      let A = part_of depth k o (omega arith) in
      sorted_unique A.sorted (sorted_filter (dec_ext (to ns k)) lists.sorted)
      (λ x m. of x (of_map (path ns) (rows_of ns depth k) m) A)
      (λ x m. let r = filter_in (dec_ext (to ns k)) (paths ns) m in A.all x (lists.of x r.0) r.1)
    where
      of : (x : Path) → (r : Row) × In r (rows_of ns depth k) × (path ns r ≡ x) → Part (Ext (to ns k)) (rows_of ns depth k) → In x (filter (dec_ext (to ns k)) (paths ns))
      of x a A =
          let r = a.0 in
          let s = A.each r a.1 in
          rw (← a.2) (filter_has (dec_ext (to ns k)) (paths ns) (lists.to (path ns r) (rw (path_is ns r.0 r.1) (showing_row r.0 r.1 s.0.0 s.0.1))) s.1)

  -- from a path back to its row

  pub path_row_lem : (r : Row) → Used ns r.0 → path_row ns (path ns r) ≡ r
  path_row_lem r u = rw (path_is ns r.0 r.1, path_row_child ns (to ns r.0) r.1, find_to ns w r.0 u)

  pub path_inj : (r s : Row) → Used ns r.0 → Used ns s.0 → path ns r ≡ path ns s → r ≡ s
  path_inj r s u v e = sym (path_row_lem r u) ∙ ap (path_row ns) e ∙ path_row_lem s v

  pub paths_rows : map (path_row ns) (paths ns) ≡ rows ns
  unfolding paths
  paths_rows = map-map (path_row ns) (path ns) (rows ns) ∙ map_same (λ r. path_row ns (path ns r)) (rows ns) (λ r m. path_row_lem r (open_used ns r.0 (shows_row r m).0))

  pub length_paths : length (paths ns) ≡ length (rows ns)
  unfolding paths
  length_paths = length-map (rows ns) (path ns)

  -- a row at a place, as a path at that place
  pub at_row : (r p i : ℕ) → r < length (rows ns) → get_or (rows ns) r (0, 0) ≡ (p, i) → At (paths ns) r (to ns p · i)
  unfolding paths
  at_row r p i h e = (rw length_paths h, get_d_map (path ns) (rows ns) r (0, 0) [] h ∙ ap (path ns) e ∙ path_is ns p i)

  -- no row stands twice
  pub row_once : (r s : ℕ) → r < length (rows ns) → s < length (rows ns) → get_or (rows ns) r (0, 0) ≡ get_or (rows ns) s (0, 0) → r ≡ s
  row_once r s h l e =
      let x = get_or (rows ns) s (0, 0) in
      at_unique lists.sorted r s (to ns x.0 · x.1) (at_row r x.0 x.1 h e) (at_row s x.0 x.1 l refl)

  -- a child of an open node is a row
  pub row_there : (p i : ℕ) → Opens ns p → i < direct_of ns p → In (p, i) (rows ns)
  unfolding paths
  row_there p i o h = go (of_map (path ns) (rows ns) (lists.to (to ns p · i) (showing_row p i o h)))
    where
      go : (a : Row) × In a (rows ns) × (path ns a ≡ to ns p · i) → In (p, i) (rows ns)
      go t =
          let a = t.0 in
          let s = shows_row a t.1 in
          let e = child_inj (to ns a.0) (to ns p) a.1 i (sym (path_is ns a.0 a.1) ∙ t.2) in
          let d : a.0 ≡ p = to_inj ns w a.0 p (open_used ns a.0 s.0) (open_used ns p o) e.0 in
          let f : a ≡ (p, i) = λ z. (d z, e.1 z) in
          rw f at t.1
