-- Opening a row, with a new node or the one that it has: the tree, the rows and the totals after it.
use mathlib.Core.Path.{◌≡◌, refl, sym, ◌∙◌, ap}
use mathlib.Core.Logic.{◌⊎◌, inl, inr, ◌≢◌}
use mathlib.Core.Bool.{true, false, true≢false, false≢true}
use mathlib.Core.List.{List, ◌++◌, Memᴰ as In}
use Prim.Native.Nat.{ℕ, zero, suc, ◌+◌, ◌<◌}
use native.Mathlib.Omega.{arith}
use native.Mathlib.Decide.{ℕ_discrete}
use lib.ListN.{set, take, drop}
use Rattle.model.specs.declared.Node.{Node}
use Rattle.model.specs.Table.{child_entry, entry_words, child_words, child_count, child_ongoing}
use Rattle.model.specs.Nodes.{node_at, direct_of, used, is_open, child, open_child, free, with_open}
use Rattle.model.specs.Rows.{Row, rows, row_total, row_at, total_of, paths}
use Rattle.model.specs.Fetch.{fresh, node_or_fresh}
use Rattle.model.specs.Open.{number_or_free}
use Rattle.steps.specs.Changes.{Put, Own}
use Rattle.steps.proofs.Put.{put_own, put_fresh, free_unused, put_same, put_other, direct_new, direct_old, put_keeps, put_open, put_well, put_find, put_else, put_shut, put_to}
use Rattle.steps.proofs.Inserted.{total_more, total_as_before, rows_more}
use Rattle.lists.proofs.Bools.{differ, refuted}
use Rattle.lists.proofs.Edits.{get_or_in}
use Rattle.model.proofs.Search.{child_found}
use Rattle.paths.proofs.Changes.{open_lists}
use Rattle.paths.proofs.Listings.{lists_unique}
use Rattle.paths.proofs.Order.{child_ext as ext-child, ext_parent, under_child, ext_trans}
use Rattle.paths.proofs.Sorted.{child_paths_in, child_paths_length}
use Rattle.paths.specs.Listings.{child_paths}
use Rattle.paths.specs.Order.{Path, ◌·◌, Ext, Under}
use Rattle.paths.specs.Shapes.{Opened}
use Rattle.tree.proofs.Find.{find_to, rooted}
use Rattle.tree.proofs.Listing.{lists, open_child_lem, shows_row, at_row}
use Rattle.tree.proofs.Over.{over_under, under_over}
use Rattle.tree.proofs.Pairs.{rows_in}
use Rattle.tree.proofs.Rows.{total_shut, total_flat}
use Rattle.tree.proofs.WellFormed.{open_used}
use Rattle.tree.specs.Paths.{shape, to, Shows, Over}
use Rattle.runs.specs.Regions.{stretch}
use Rattle.tree.specs.WellFormed.{Opens, up, WellFormed}

-- a node that is not open is the parent of no row
pub no_rows : (ns : List Node) (w : WellFormed ns) (k : ℕ) → is_open (node_at ns k) ≡ false → (r : Row) → In r (rows ns) → r.0 ≢ k
no_rows ns w k c r m e = differ (rw e at (shows_row ns w r m).0) c

module _ (ns : List Node) (w : WellFormed ns) (k : ℕ) (n : Node) (P : Put ns (suc k) n) (was : is_open (node_at ns (suc k)) ≡ false) (now : is_open n ≡ true) where
  abbrev after : List Node
  after = set ns (suc k) n

  w' : WellFormed after
  w' = put_well ns w (suc k) n P

  -- the path of the row
  abbrev q : Path
  q = to ns n.parent · n.index

  above : Opens ns n.parent
  above = P.seat.above

  -- the tree
  pub opened : Opened (shape ns) (shape after) q n.direct
  opened = rw (← put_to ns w k n P) (record {
    was = put_shut ns w (suc k) n P was;
    now = rw (put_find ns w (suc k) n P, put_same ns w (suc k) n P) now;
    many = rw (put_find ns w (suc k) n P) (direct_new ns w (suc k) n P);
    open_else = λ x d. ap is_open (put_else ns w (suc k) n P x d);
    count_else = λ x d. ap (λ (m : Node). m.direct) (put_else ns w (suc k) n P x d);
  })

  module _ (r : ℕ) (h : r < row_total ns) (e : row_at ns r ≡ (n.parent, n.index)) where
    pub open_paths : paths after ≡ take (suc r) (paths ns) ++ child_paths q 0 n.direct ++ drop (suc r) (paths ns)
    open_paths =
        lists_unique (lists after w')
        (open_lists (shape ns) (shape after) (rooted ns w) (lists ns w) q n.direct opened r (at_row ns w r n.parent n.index h e))

    -- the rows: the node's children come right after its own row
    pub open_rows : rows after ≡ take (suc r) (rows ns) ++ stretch (suc k) 0 n.direct ++ drop (suc r) (rows ns)
    open_rows = rw (← put_to ns w k n P, put_find ns w (suc k) n P) at (rows_in ns after w w' (put_keeps ns w (suc k) n P) (suc r) q 0 n.direct open_paths)

    pub open_row_total : row_total after ≡ row_total ns + n.direct
    open_row_total = rows_more ns after w w' (put_keeps ns w (suc k) n P) (suc r) (child_paths q 0 n.direct) open_paths ∙ ap (λ (m : ℕ). row_total ns + m) (child_paths_length q 0 n.direct)

    -- the totals of the nodes from its parent up
    pub open_total_over : (j : ℕ) → Opens ns j → Over ns j n.parent → total_of after j ≡ total_of ns j + n.direct
    open_total_over j o v =
        total_more ns after w w' (put_keeps ns w (suc k) n P) (suc r) (child_paths q 0 n.direct) open_paths j o (put_open ns w (suc k) n P j o).0 inside
        ∙ ap (λ (m : ℕ). total_of ns j + m) (child_paths_length q 0 n.direct)
      where
        inside : (x : Path) → In x (child_paths q 0 n.direct) → Ext (to ns j) x
        inside x m =
            let s = child_paths_in q 0 n.direct m in
            rw s.2 (ext_trans (under_child (to ns j) (to ns n.parent) n.index (over_under ns w j n.parent (open_used ns n.parent above) v)) (ext-child q (0 + s.0)))

    pub open_total_else : (j : ℕ) → Opens ns j → (Over ns j n.parent → ⊥) → total_of after j ≡ total_of ns j
    open_total_else j o v = total_as_before ns after w w' (put_keeps ns w (suc k) n P) (suc r) (child_paths q 0 n.direct) open_paths j o (put_open ns w (suc k) n P j o).0 outside
      where
        not_over : Under (to ns j) q → ⊥
        not_over (inl d) = differ o (rw (d, find_to ns w j (open_used ns j o)) at opened.was)
        not_over (inr x) = v (under_over ns w j n.parent (open_used ns n.parent above) (open_used ns j o) (ext_parent (to ns j) (to ns n.parent) n.index x))

        outside : (x : Path) → In x (child_paths q 0 n.direct) → Ext (to ns j) x → ⊥
        outside x m g =
            let s = child_paths_in q 0 n.direct m in
            not_over (ext_parent (to ns j) q (0 + s.0) (rw s.2 at g))

  -- of the node itself
  pub open_total_new : total_of after (suc k) ≡ n.direct
  open_total_new = total_flat after w' (suc k) (λ j. none j (open_child after (suc k) j) refl) ∙ direct_new ns w (suc k) n P
    where
      away : (m : ℕ) → Opens after (suc m) → up after (suc m) ≡ suc k → Dec (suc m ≡ suc k) → ⊥
      away m o e (yes d) =
          let f : n.parent ≡ suc k = sym (ap (λ (z : Node). z.parent) (put_same ns w (suc k) n P)) ∙ (rw d at e) in
          differ (rw f at above) was
      away m o e (no d) =
          let a = put_other ns w (suc k) n P (suc m) d in
          let f : up ns (suc m) ≡ suc k = sym (ap (λ (z : Node). z.parent) a) ∙ e in
          differ (rw f at (w.placed m (open_used ns (suc m) (rw a at o))).above) was

      none : (j m : ℕ) → open_child after (suc k) j ≡ m → open_child after (suc k) j ≡ 0
      none j zero e = e
      none j (suc m) e =
          let s = open_child_lem after w' (suc k) j m e in
          absurd (away m s.0 s.1 (ℕ_discrete (suc m) (suc k)))

  -- and of every other node that is not open, its count
  pub open_total_shut : (j : ℕ) → j ≢ suc k → is_open (node_at ns j) ≡ false → total_of after j ≡ total_of ns j
  open_total_shut j d c =
      total_shut after w' j (rw (put_other ns w (suc k) n P j d) c)
      ∙ direct_old ns w (suc k) n P j d
      ∙ sym (total_shut ns w j c)

-- a row stands at an open node, below its count
pub row_shows : (ns : List Node) → WellFormed ns → (r : ℕ) → r < row_total ns → Shows ns (row_at ns r)
row_shows ns w r h = shows_row ns w (row_at ns r) (get_or_in (rows ns) r (0, 0) h)

-- a child that has children or is ongoing is listed
pub fresh_listed : (t : List ℕ) (ns : List Node) (p i : ℕ) → (0 < (fresh t ns p i).direct) ⊎ ((fresh t ns p i).ongoing ≡ true) → 0 < (fresh t ns p i).entry
unfolding fresh child_count child_ongoing child_words entry_words
fresh_listed t ns p i s = go (child_entry t (node_at ns p).entry i) refl s
  where
    go : (e : ℕ) → child_entry t (node_at ns p).entry i ≡ e → (0 < (fresh t ns p i).direct) ⊎ ((fresh t ns p i).ongoing ≡ true) → 0 < child_entry t (node_at ns p).entry i
    go zero g (inl h) = absurd (omega (arith, rw g at h))
    go zero g (inr h) = absurd (false≢true (rw g at h))
    go (suc e) g h = omega arith

pub unused_shut : (n : Node) → used n ≡ false → is_open n ≡ false
unused_shut n u = refuted (λ o. true≢false (sym (rw o) ∙ u))

-- what is put when the row (p, i) is opened: the node that it has or gets, at a number where none is open
pub record OpensAt (ns : List Node) (j : ℕ) (n : Node) : Type 0 where
  pub at : ℕ
  pub is : j ≡ suc at
  pub put : Put ns (suc at) n
  pub was : is_open (node_at ns (suc at)) ≡ false

pub open_put :
    (t : List ℕ) (ns : List Node) (w : WellFormed ns) (p i : ℕ)
    → Shows ns (p, i)
    → let k = child ns p i in
    let n = node_or_fresh t ns (p, i) k in
    is_open n ≡ false → 0 < n.direct → number_or_free ns k ≢ 0 → OpensAt ns (number_or_free ns k) (with_open true n) × (n.parent ≡ p) × (n.index ≡ i)
unfolding fresh
open_put t ns w p i s = go (child ns p i) refl
  where
    new : (f : ℕ) → free ns ≡ f → child ns p i ≡ 0 → 0 < (fresh t ns p i).direct → f ≢ 0 → OpensAt ns f (with_open true (fresh t ns p i))
    new zero g e c d = absurd (d refl)
    new (suc k) g e c d = record {
      at = k;
      is = refl;
      put = put_fresh ns w k (with_open true (fresh t ns p i)) e g s.0 s.1 refl (fresh_listed t ns p i (inl c)) (λ o. c);
      was = unused_shut (node_at ns (suc k)) (free_unused ns k g).1;
    }

    own : (k : ℕ) → is_open (node_at ns (suc k)) ≡ false → 0 < direct_of ns (suc k) → Own ns (suc k) (with_open true (node_at ns (suc k)))
    own k q c = record { live = refl; parent = refl; index = refl; entry = refl; version = λ z. refl; keeps = λ o. absurd (differ o q); filled = λ z o. c }

    go : (k : ℕ) → child ns p i ≡ k → let n = node_or_fresh t ns (p, i) k in is_open n ≡ false → 0 < n.direct → number_or_free ns k ≢ 0 → OpensAt ns (number_or_free ns k) (with_open true n) × (n.parent ≡ p) × (n.index ≡ i)
    go zero e q c d = (new (free ns) refl e c d, refl, refl)
    go (suc k) e q c d =
        let h = child_found used ns p i k e in
        (record { at = k; is = refl; put = put_own ns w (suc k) (with_open true (node_at ns (suc k))) h.0 (own k q c); was = q }, h.1, h.2)
