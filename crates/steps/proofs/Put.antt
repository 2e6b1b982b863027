-- A node put at a number: the list stays well-formed, and every other path leads where it led. Which number is free.
use mathlib.Core.Path.{◌≡◌, refl, sym, ◌∙◌, ap}
use mathlib.Core.Logic.{◌⊎◌, inl, inr, ◌≢◌}
use mathlib.Core.Bool.{Bool, true, false, not, true≢false}
use mathlib.Core.List.{List}
use Prim.Native.Nat.{ℕ, zero, suc, ◌≤◌, ◌<◌}
use native.Mathlib.Omega.{arith}
use native.Mathlib.Decide.{ℕ_discrete}
use lib.ListN.{length, set, length-set}
use lib.Seq.{get_or-set_same, get_or-set_other}
use Rattle.model.specs.declared.Node.{Node}
use Rattle.model.specs.Places.{longest_chain, node_places}
use Rattle.model.specs.Nodes.{no_node, node_at, direct_of, used, unused, is_open, free, child}
use Rattle.model.specs.Sound.{reaches}
use Rattle.steps.specs.Changes.{Seated, Seat, Put, Own}
use Rattle.lists.proofs.Bools.{bool, differ}
use Rattle.lists.specs.Counts.{count}
use Rattle.lists.proofs.Numbers.{count_all}
use Rattle.model.proofs.Search.{seek_fits, seek_skips, seek_passes, seek_none, child_none, used_inside}
use Rattle.paths.specs.Order.{Path, ◌·◌}
use Rattle.tree.proofs.Find.{lost_node, find_to, to_find, to_up, find_cases, reach_down, reach_all, above_used, reach_short}
use Rattle.tree.proofs.Pairs.{reach_to, to_keep, find_keep, find_new}
use Rattle.tree.proofs.WellFormed.{open_used, zero_open, used_small}
use Rattle.tree.specs.Pairs.{Keeps}
use Rattle.tree.specs.Paths.{lost, find, shape, to}
use Rattle.tree.specs.WellFormed.{Used, Opens, up, ix, Placed, Root, WellFormed}
use borrow.Author.Tests.{not-true}

-- a parent is the number of a place
up_small : (ns : List Node) → WellFormed ns → (j : ℕ) → up ns j < 256
up_small ns w zero = let e = w.root.parent in rw e (omega arith)
up_small ns w (suc j) = go (bool (used (node_at ns (suc j))))
  where
    go : (used (node_at ns (suc j)) ≡ true) ⊎ (used (node_at ns (suc j)) ≡ false) → up ns (suc j) < 256
    go (inl u) = used_small ns w (up ns (suc j)) (above_used ns w j u)
    go (inr u) = let e : up ns (suc j) ≡ 0 = ap (λ (m : Node). m.parent) (w.empty j u) in omega arith

seat_small : (ns : List Node) → WellFormed ns → (k : ℕ) (n : Node) → Seat ns k n → n.parent < 256
seat_small ns w zero n R = let e = R.parent in rw e (omega arith)
seat_small ns w (suc k) n S = used_small ns w n.parent (open_used ns n.parent S.above)

module _ (ns : List Node) (w : WellFormed ns) (k : ℕ) (n : Node) (P : Put ns k n) where
  abbrev put : List Node
  put = set ns k n

  pub put_same : node_at put k ≡ n
  put_same = get_or-set_same ns k n no_node (rw w.size P.small)

  pub put_other : (j : ℕ) → j ≢ k → node_at put j ≡ node_at ns j
  put_other j d = get_or-set_other ns k j n no_node d

  pub put_used : Used put k
  put_used = rw put_same P.live

  up_new : up put k ≡ n.parent
  up_new = ap (λ (m : Node). m.parent) put_same

  ix_new : ix put k ≡ n.index
  ix_new = ap (λ (m : Node). m.index) put_same

  pub direct_new : direct_of put k ≡ n.direct
  direct_new = ap (λ (m : Node). m.direct) put_same

  up_old : (j : ℕ) → j ≢ k → up put j ≡ up ns j
  up_old j d = ap (λ (m : Node). m.parent) (put_other j d)

  ix_old : (j : ℕ) → j ≢ k → ix put j ≡ ix ns j
  ix_old j d = ap (λ (m : Node). m.index) (put_other j d)

  pub direct_old : (j : ℕ) → j ≢ k → direct_of put j ≡ direct_of ns j
  direct_old j d = ap (λ (m : Node). m.direct) (put_other j d)

  -- every node stays in use, at its place
  pub put_keeps : Keeps ns put
  put_keeps = record { stays = λ j u. stays j u (ℕ_discrete j k); same_up = λ j u. ups j u (ℕ_discrete j k); same_ix = λ j u. ixs j u (ℕ_discrete j k) }
    where
      stays : (j : ℕ) → Used ns j → Dec (j ≡ k) → Used put j
      stays j u (yes e) = rw e put_used
      stays j u (no d) = rw (put_other j d) u

      ups : (j : ℕ) → Used ns j → Dec (j ≡ k) → up put j ≡ up ns j
      ups j u (yes e) = rw e (up_new ∙ sym (P.same (rw e at u)).0)
      ups j u (no d) = up_old j d

      ixs : (j : ℕ) → Used ns j → Dec (j ≡ k) → ix put j ≡ ix ns j
      ixs j u (yes e) = rw e (ix_new ∙ sym (P.same (rw e at u)).1)
      ixs j u (no d) = ix_old j d

  -- an open node stays open, with no fewer children
  pub put_open : (j : ℕ) → Opens ns j → Opens put j × (direct_of ns j ≤ direct_of put j)
  put_open j o = go (ℕ_discrete j k)
    where
      go : Dec (j ≡ k) → Opens put j × (direct_of ns j ≤ direct_of put j)
      go (yes e) = let r = P.keeps (rw e at o) in rw e (rw put_same r.0, rw direct_new r.1)
      go (no d) = (rw (put_other j d) o, (omega (arith, direct_old j d)))

  put_reach : (j : ℕ) → Used ns j → reaches put longest_chain j ≡ true
  put_reach j u = reach_to ns put (above_used ns w) put_keeps longest_chain j u (reach_all ns w j u)

  put_up : (j : ℕ) → up put j < 256
  put_up j = go (ℕ_discrete j k)
    where
      go : Dec (j ≡ k) → up put j < 256
      go (yes e) = rw (e, up_new) (seat_small ns w k n P.seat)
      go (no d) = rw (up_old j d) (up_small ns w j)

  of_put : (j : ℕ) → j ≢ k → Used put j → Used ns j
  of_put j d u = rw (put_other j d) at u

  seated : (j : ℕ) → suc j ≡ k → Seated ns (suc j) n
  seated j e = rw (← e) at P.seat

  -- the list with it is well-formed
  pub put_well : WellFormed put
  put_well = record {
    size = length-set ns k n ∙ w.size;
    root = root (ℕ_discrete k 0);
    placed = λ j u. placed j u (ℕ_discrete (suc j) k);
    twin = λ a b u v d e. twin a b u v d e (ℕ_discrete (suc a) k) (ℕ_discrete (suc b) k);
    empty = λ j u. empty j u (ℕ_discrete (suc j) k);
  }
    where
      root : Dec (k ≡ 0) → Root (node_at put 0)
      root (yes e) = let a : node_at put 0 ≡ n = ap (node_at put) (sym e) ∙ put_same in rw a (rw e at P.seat)
      root (no d) = rw (put_other 0 (λ e. d (sym e))) w.root

      placed : (j : ℕ) → Used put (suc j) → Dec (suc j ≡ k) → Placed put (suc j)
      placed j u (yes e) =
          let S = seated j e in
          let o = put_open n.parent S.above in
          let a : node_at put (suc j) ≡ n = ap (node_at put) e ∙ put_same in
          let b : up put (suc j) ≡ n.parent = ap (λ (m : Node). m.parent) a in
          let c : ix put (suc j) ≡ n.index = ap (λ (m : Node). m.index) a in
          record {
            entry = rw a S.entry;
            above = rw b o.0;
            reach = reach_short put put_up 256 (suc j) (omega (arith, P.small)) (reach_down put longest_chain j (rw b (put_reach n.parent (open_used ns n.parent S.above))));
            inside = rw (b, c) (omega (arith, o.1, S.inside));
            filled = λ q. let d : direct_of put (suc j) ≡ n.direct = ap (λ (m : Node). m.direct) a in rw d (S.filled (rw a at q));
          }
      placed j u (no d) =
          let v = of_put (suc j) d u in
          let s = w.placed j v in
          let o = put_open (up ns (suc j)) s.above in
          record {
            entry = rw (put_other (suc j) d) s.entry;
            above = rw (up_old (suc j) d) o.0;
            reach = put_reach (suc j) v;
            inside = rw (ix_old (suc j) d, up_old (suc j) d) (omega (arith, o.1, s.inside));
            filled = λ q. rw (direct_old (suc j) d) (s.filled (rw (put_other (suc j) d) at q));
          }

      twin : (a b : ℕ) → Used put (suc a) → Used put (suc b) → up put (suc a) ≡ up put (suc b) → ix put (suc a) ≡ ix put (suc b) → Dec (suc a ≡ k) → Dec (suc b ≡ k) → suc a ≡ suc b
      twin a b u v d e (yes f) (yes g) = f ∙ sym g
      twin a b u v d e (yes f) (no g) =
          sym ((seated a f).sole b (of_put (suc b) g v) (sym (rw (f, up_new, up_old (suc b) g) at d)) (sym (rw (f, ix_new, ix_old (suc b) g) at e)))
      twin a b u v d e (no f) (yes g) =
          (seated b g).sole a (of_put (suc a) f u) (rw (g, up_new, up_old (suc a) f) at d) (rw (g, ix_new, ix_old (suc a) f) at e)
      twin a b u v d e (no f) (no g) =
          w.twin a b (of_put (suc a) f u) (of_put (suc b) g v) (rw (up_old (suc a) f, up_old (suc b) g) at d) (rw (ix_old (suc a) f, ix_old (suc b) g) at e)

      empty : (j : ℕ) → used (node_at put (suc j)) ≡ false → Dec (suc j ≡ k) → node_at put (suc j) ≡ no_node
      empty j u (yes e) = absurd (differ (rw e put_used) u)
      empty j u (no d) = put_other (suc j) d ∙ w.empty j (rw (put_other (suc j) d) at u)

  -- the path of what is put leads to it
  pub put_find : find put (to put k) ≡ k
  put_find = find_to put put_well k put_used

  pub put_to_old : Used ns k → to put k ≡ to ns k
  put_to_old u = to_keep ns put w put_well put_keeps k u

  -- every other path leads where it led
  pub put_else : (x : Path) → x ≢ to put k → node_at put (find put x) ≡ node_at ns (find ns x)
  put_else x d = go (find_cases ns w x)
    where
      old : Used ns (find ns x) → find ns x ≢ k
      old u e = d (sym (rw e at (to_find ns w x u)) ∙ sym (put_to_old (rw e at u)))

      new : (find put x ≡ lost) ⊎ (Used put (find put x) × (Used ns (find put x) → ⊥)) → find ns x ≡ lost → node_at put (find put x) ≡ node_at ns (find ns x)
      new (inl e) f = rw (e, f) (lost_node put put_well ∙ sym (lost_node ns w))
      new (inr u) f = absurd (which (ℕ_discrete (find put x) k))
        where
          which : Dec (find put x ≡ k) → ⊥
          which (yes e) = d (sym (rw e at (to_find put put_well x u.0)))
          which (no g) = u.1 (of_put (find put x) g u.0)

      go : Used ns (find ns x) ⊎ (find ns x ≡ lost) → node_at put (find put x) ≡ node_at ns (find ns x)
      go (inl u) = rw (find_keep ns put w put_well put_keeps x u) (put_other (find ns x) (old u))
      go (inr e) = new (find_new ns put w put_well put_keeps x e) e

  -- its path led to no open node, if none had this number
  pub put_shut : is_open (node_at ns k) ≡ false → (shape ns).is_open (to put k) ≡ false
  put_shut c = go (find_cases ns w (to put k))
    where
      go : Used ns (find ns (to put k)) ⊎ (find ns (to put k) ≡ lost) → is_open (node_at ns (find ns (to put k))) ≡ false
      go (inl u) = rw (sym (find_keep ns put w put_well put_keeps (to put k) u) ∙ put_find) c
      go (inr e) = rw e (ap is_open (lost_node ns w))

-- the path of a child that is put
pub put_to : (ns : List Node) (w : WellFormed ns) (k : ℕ) (n : Node) (P : Put ns (suc k) n) → to (set ns (suc k) n) (suc k) ≡ to ns n.parent · n.index
put_to ns w k n P =
    let w' = put_well ns w (suc k) n P in
    let a : up (set ns (suc k) n) (suc k) ≡ n.parent = ap (λ (m : Node). m.parent) (put_same ns w (suc k) n P) in
    let b : ix (set ns (suc k) n) (suc k) ≡ n.index = ap (λ (m : Node). m.index) (put_same ns w (suc k) n P) in
    to_up (set ns (suc k) n) w' k (put_used ns w (suc k) n P)
    ∙ rw (a, b, to_keep ns (set ns (suc k) n) w w' (put_keeps ns w (suc k) n P) n.parent (open_used ns n.parent P.seat.above))

pub put_own : (ns : List Node) (w : WellFormed ns) (k : ℕ) (n : Node) → Used ns k → Own ns k n → Put ns k n
put_own ns w k n u O = record { small = used_small ns w k u; live = O.live; same = λ v. (sym O.parent, sym O.index); keeps = O.keeps; seat = seat k u O }
  where
    seat : (k : ℕ) → Used ns k → Own ns k n → Seat ns k n
    seat zero u O =
        let R = w.root in
        record { «open» = (O.keeps (zero_open ns w)).0; entry = O.entry ∙ R.entry; parent = O.parent ∙ R.parent; index = O.index ∙ R.index; version = O.version refl ∙ R.version }
    seat (suc k) u O =
        let s = w.placed k u in
        let e₁ = O.entry in
        let e₂ = O.parent in
        let e₃ = O.index in
        record {
          entry = rw e₁ s.entry;
          above = rw e₂ s.above;
          inside = rw (e₂, e₃) s.inside;
          filled = λ o. filled o (bool (is_open (node_at ns (suc k))));
          sole = λ j v d e. w.twin j k v u (d ∙ e₂) (e ∙ e₃);
        }
      where
        filled : is_open n ≡ true → (is_open (node_at ns (suc k)) ≡ true) ⊎ (is_open (node_at ns (suc k)) ≡ false) → 0 < n.direct
        filled o (inl q) = omega (arith, (w.placed k u).filled q, (O.keeps q).1)
        filled o (inr q) = O.filled q o

not_not : (b : Bool) → not b ≡ false → b ≡ true
not_not true e = refl
not_not false e = absurd (true≢false e)

-- the free number is that of a place that is not in use, and the lowest such
pub free_unused : (ns : List Node) (k : ℕ) → free ns ≡ suc k → (suc k < length ns) × (used (node_at ns (suc k)) ≡ false)
free_unused ns k e = (rw e at (seek_fits unused ns (λ z. omega (arith, sym e ∙ z))), not-true (used (node_at ns (suc k))) (seek_passes unused ns k e))

pub free_lowest : (ns : List Node) (k : ℕ) → free ns ≡ suc k → (j : ℕ) → j < k → Used ns (suc j)
free_lowest ns k e j h = not_not (used (node_at ns (suc j))) (seek_skips unused ns k e j h)

-- with no number free every place is in use: the capture's, and 255 besides
pub free_none : (ns : List Node) → WellFormed ns → free ns ≡ 0 → (k : ℕ) → k < 256 → Used ns k
free_none ns w e zero h = open_used ns 0 (zero_open ns w)
free_none ns w e (suc k) h = not_not (used (node_at ns (suc k))) (seek_none unused ns e k (rw w.size h))

pub free_none_count : (ns : List Node) → WellFormed ns → free ns ≡ 0 → count (λ k. used (node_at ns k)) node_places ≡ node_places
free_none_count ns w e = count_all (λ k. used (node_at ns k)) node_places (λ k h. free_none ns w e k h)

-- a new node at a free number, at a child of an open node where there is none
pub put_fresh :
    (ns : List Node) (w : WellFormed ns) (k : ℕ) (n : Node)
    → child ns n.parent n.index ≡ 0
    → free ns ≡ suc k
    → Opens ns n.parent
    → n.index < direct_of ns n.parent
    → used n ≡ true
    → 0 < n.entry
    → (is_open n ≡ true → 0 < n.direct)
    → Put ns (suc k) n
put_fresh ns w k n e f o h l d g =
    let r = free_unused ns k f in
    record {
      small = rw w.size at r.0;
      live = l;
      same = λ v. absurd (differ v r.1);
      keeps = λ q. absurd (differ (open_used ns (suc k) q) r.1);
      seat = record { entry = d; above = o; inside = h; filled = g; sole = λ j v x y. absurd (child_none used ns n.parent n.index j e (used_inside ns (suc j) v) v x y) };
    }
