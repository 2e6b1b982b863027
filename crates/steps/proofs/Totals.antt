-- Totals edited up the chain of parents are right after a step, if they were before it.
use mathlib.Core.Path.{◌≡◌, sym, ◌∙◌, ap}
use mathlib.Core.Logic.{◌⊎◌, inl, inr, ◌≢◌}
use mathlib.Core.Bool.{Bool, true, false, cond}
use mathlib.Core.List.{List}
use Prim.Native.Nat.{ℕ, zero, suc, ◌+◌, ◌<◌}
use native.Mathlib.Omega.{arith}
use native.Mathlib.Decide.{ℕ_discrete}
use lib.ListN.{set}
use Rattle.model.specs.declared.Node.{Node}
use Rattle.model.specs.Nodes.{no_node, node_at, direct_of, used, is_open, open_child, with_open}
use Rattle.model.specs.Rows.{row_total, row_at, total_of}
use Rattle.steps.specs.Changes.{Put, closed_at, Quiet}
use Rattle.steps.specs.Settled.{Totalled, Raised}
use Rattle.steps.proofs.Put.{put_same, put_other, put_open, put_well}
use Rattle.steps.proofs.Opening.{open_total_over, open_total_else, open_total_new, open_total_shut}
use Rattle.steps.proofs.Growing.{grow_total_over, grow_total_else, grow_total_shut}
use Rattle.steps.proofs.Shrunk.{none_used}
use Rattle.steps.proofs.Closing.{closed_self, closed_child, closed_other, closed_shut, no_open_child, close_well, close_total_own, close_total_over, close_total_else}
use Rattle.steps.proofs.Quiet.{quiet_total}
use Rattle.lists.proofs.Bools.{bool, differ}
use Rattle.tree.proofs.Find.{above_used}
use Rattle.tree.proofs.Over.{dec_over, over_up}
use Rattle.tree.proofs.Rows.{total_shut}
use Rattle.tree.proofs.WellFormed.{open_used, zero_open}
use Rattle.tree.specs.Paths.{Over, here, step}
use Rattle.tree.specs.WellFormed.{Used, Opens, up, WellFormed}

-- the nodes above an open node are open
pub over_open : (ns : List Node) (w : WellFormed ns) (j k : ℕ) → Opens ns k → Over ns j k → Opens ns j
over_open ns w j k o (here e) = rw e at o
over_open ns w j k o (step {k = i} v) = over_open ns w j (up ns (suc i)) (w.placed i (open_used ns (suc i) o)).above v

-- an unused place has no total
unused_total : (ns : List Node) → WellFormed ns → (j : ℕ) → used (node_at ns j) ≡ false → (node_at ns j).total ≡ 0
unused_total ns w zero u = absurd (differ (open_used ns 0 (zero_open ns w)) u)
unused_total ns w (suc j) u = ap (λ (m : Node). m.total) (w.empty j u)

-- a row is opened: the new node has its count, and the nodes from its parent up have as much more
module _ (ns : List Node) (w : WellFormed ns) (k : ℕ) (n : Node) (P : Put ns (suc k) n) (was : is_open (node_at ns (suc k)) ≡ false) (now : is_open n ≡ true) (r : ℕ) (h : r < row_total ns) (e : row_at ns r ≡ (n.parent, n.index)) where
  abbrev opened : List Node
  opened = set ns (suc k) n

  pub open_totalled : (news : List Node) → Totalled ns ns → n.total ≡ n.direct → Raised ns n.parent n.direct opened news → Totalled opened news
  open_totalled news T d R = record {
    total = λ j u. total j u;
    none = λ j u. R.else j (λ v. differ (open_used opened j (put_open ns w (suc k) n P j (over_open ns w j n.parent P.seat.above v)).0) u) ∙ unused_total opened (put_well ns w (suc k) n P) j u;
  }
    where
      shut_off : (i : ℕ) → is_open (node_at ns i) ≡ false → Over ns i n.parent → ⊥
      shut_off i c v = differ (over_open ns w i n.parent P.seat.above v) c

      before : (j : ℕ) → j ≢ suc k → Used ns j → (node_at opened j).total ≡ total_of ns j
      before j f v = ap (λ (m : Node). m.total) (put_other ns w (suc k) n P j f) ∙ T.total j v

      opens : (j : ℕ) → j ≢ suc k → Opens ns j → Dec (Over ns j n.parent) → (node_at news j).total ≡ total_of opened j
      opens j f o (yes v) = R.over j v ∙ ap (λ (m : ℕ). m + n.direct) (before j f (open_used ns j o)) ∙ sym (open_total_over ns w k n P was now r h e j o v)
      opens j f o (no v) = R.else j v ∙ before j f (open_used ns j o) ∙ sym (open_total_else ns w k n P was now r h e j o v)

      old : (j : ℕ) → j ≢ suc k → Used ns j → (is_open (node_at ns j) ≡ true) ⊎ (is_open (node_at ns j) ≡ false) → (node_at news j).total ≡ total_of opened j
      old j f v (inl o) = opens j f o (dec_over ns w j n.parent (open_used ns n.parent P.seat.above) v)
      old j f v (inr c) = R.else j (shut_off j c) ∙ before j f v ∙ sym (open_total_shut ns w k n P was now j f c)

      total : (j : ℕ) → Used opened j → (node_at news j).total ≡ total_of opened j
      total j u = go (ℕ_discrete j (suc k))
        where
          go : Dec (j ≡ suc k) → (node_at news j).total ≡ total_of opened j
          go (yes f) = rw f (R.else (suc k) (shut_off (suc k) was) ∙ ap (λ (m : Node). m.total) (put_same ns w (suc k) n P) ∙ d ∙ sym (open_total_new ns w k n P was now))
          go (no f) = old j f (rw (put_other ns w (suc k) n P j f) at u) (bool (is_open (node_at ns j)))

-- an open node grows by c: the nodes from it up have c more
module _ (ns : List Node) (w : WellFormed ns) (k : ℕ) (n : Node) (P : Put ns k n) (o : Opens ns k) (c : ℕ) (d : n.direct ≡ direct_of ns k + c) where
  abbrev grown : List Node
  grown = set ns k n

  pub grow_totalled : (news : List Node) → Totalled ns ns → n.total ≡ (node_at ns k).total → Raised ns k c grown news → Totalled grown news
  grow_totalled news T s R = record {
    total = λ j u. total j (used_before j u (ℕ_discrete j k)) (bool (is_open (node_at ns j)));
    none = λ j u. R.else j (λ v. differ (open_used grown j (put_open ns w k n P j (over_open ns w j k o v)).0) u) ∙ unused_total grown (put_well ns w k n P) j u;
  }
    where
      used_before : (j : ℕ) → Used grown j → Dec (j ≡ k) → Used ns j
      used_before j u (yes f) = rw f (open_used ns k o)
      used_before j u (no f) = rw (put_other ns w k n P j f) at u

      same : (j : ℕ) → Dec (j ≡ k) → (node_at grown j).total ≡ (node_at ns j).total
      same j (yes f) = rw f (ap (λ (m : Node). m.total) (put_same ns w k n P) ∙ s)
      same j (no f) = ap (λ (m : Node). m.total) (put_other ns w k n P j f)

      before : (j : ℕ) → Used ns j → (node_at grown j).total ≡ total_of ns j
      before j v = same j (ℕ_discrete j k) ∙ T.total j v

      opens : (j : ℕ) → Opens ns j → Dec (Over ns j k) → (node_at news j).total ≡ total_of grown j
      opens j q (yes v) = R.over j v ∙ ap (λ (m : ℕ). m + c) (before j (open_used ns j q)) ∙ sym (grow_total_over ns w k n P o c d j q v)
      opens j q (no v) = R.else j v ∙ before j (open_used ns j q) ∙ sym (grow_total_else ns w k n P o c d j q v)

      total : (j : ℕ) → Used ns j → (is_open (node_at ns j) ≡ true) ⊎ (is_open (node_at ns j) ≡ false) → (node_at news j).total ≡ total_of grown j
      total j v (inl q) = opens j q (dec_over ns w j k (open_used ns k o) v)
      total j v (inr q) = R.else j (λ x. differ (over_open ns w j k o x) q) ∙ before j v ∙ sym (grow_total_shut ns w k n P o c d j q)

-- an open node without open children is closed: the nodes above it have its count less
module _ (ns : List Node) (w : WellFormed ns) (k : ℕ) (o : Opens ns (suc k)) (none : (i : ℕ) → open_child ns (suc k) i ≡ 0) where
  abbrev closed : List Node
  closed = closed_at ns (suc k)

  pub close_totalled : (news : List Node) → Totalled ns ns → Raised ns (up ns (suc k)) (direct_of ns (suc k)) news closed → Totalled closed news
  close_totalled news T R = record {
    total = λ j u. total j u (ℕ_discrete j (suc k)) (ℕ_discrete (up ns j) (suc k));
    none = λ j u. sym (R.else j (λ v. differ (open_used closed j (stays j (over_open ns w j p above v) v)) u)) ∙ unused_total closed (close_well ns w k o none) j u;
  }
    where
      u₀ : Used ns (suc k)
      u₀ = open_used ns (suc k) o

      p : ℕ
      p = up ns (suc k)

      above : Opens ns p
      above = (w.placed k u₀).above

      stays : (j : ℕ) → Opens ns j → Over ns j p → Opens closed j
      stays j q v = rw (closed_other ns w k o none j (λ e. over_up ns w k u₀ (rw e at v)) (no_open_child ns w k o none j q)) q

      own : (b : Bool) → node_at closed (suc k) ≡ cond b (with_open false (node_at ns (suc k))) no_node → Used closed (suc k) → (node_at closed (suc k)).total ≡ total_of closed (suc k)
      own true e v =
          ap (λ (m : Node). m.total) e
          ∙ T.total (suc k) u₀
          ∙ close_total_own ns w k o none
          ∙ sym (ap (λ (m : Node). m.direct) e)
          ∙ sym (total_shut closed (close_well ns w k o none) (suc k) (closed_shut ns w k o none))
      own false e v = absurd (none_used closed (suc k) e v)

      opens : (j : ℕ) → (node_at closed j).total ≡ total_of ns j → Opens closed j → j ≢ suc k → Dec (Over ns j p) → (node_at news j).total ≡ total_of closed j
      opens j t q f (yes x) = omega (arith, R.over j x, t, close_total_over ns w k o none j q (step x))
      opens j t q f (no x) = sym (R.else j x) ∙ t ∙ sym (close_total_else ns w k o none j q off)
        where
          off : Over ns j (suc k) → ⊥
          off (here e) = f (sym e)
          off (step y) = x y

      other : (j : ℕ) → Used ns j → node_at closed j ≡ node_at ns j → j ≢ suc k → (is_open (node_at ns j) ≡ true) ⊎ (is_open (node_at ns j) ≡ false) → (node_at news j).total ≡ total_of closed j
      other j v e f (inl q) = opens j (ap (λ (m : Node). m.total) e ∙ T.total j v) (rw e q) f (dec_over ns w j p (above_used ns w k u₀) v)
      other j v e f (inr q) =
          sym (R.else j (λ x. differ (over_open ns w j p above x) q))
          ∙ ap (λ (m : Node). m.total) e
          ∙ T.total j v
          ∙ total_shut ns w j q
          ∙ sym (ap (λ (m : Node). m.direct) e)
          ∙ sym (total_shut closed (close_well ns w k o none) j (rw e q))

      total : (j : ℕ) → Used closed j → Dec (j ≡ suc k) → Dec (up ns j ≡ suc k) → (node_at news j).total ≡ total_of closed j
      total j u (yes f) c = rw f (sym (R.else (suc k) (over_up ns w k u₀)) ∙ own (node_at ns (suc k)).ongoing (closed_self ns w k o none) (rw f at u))
      total j u (no f) (yes c) = absurd (none_used closed j (closed_child ns w k o none j f c) u)
      total j u (no f) (no c) = let e = closed_other ns w k o none j f c in other j (rw e at u) e f (bool (is_open (node_at ns j)))

-- a quiet step: an open node keeps its total, any other node has its count
pub quiet_totalled : (ns ms : List Node) (w : WellFormed ns) → Quiet ns ms → Totalled ns ns → ((j : ℕ) → Opens ms j → (node_at ms j).total ≡ (node_at ns j).total) → ((j : ℕ) → Used ms j → is_open (node_at ms j) ≡ false → (node_at ms j).total ≡ direct_of ms j) → Totalled ms ms
quiet_totalled ns ms w Q T f g = record { total = λ j u. go j u (bool (is_open (node_at ms j))); none = unused_total ms Q.well }
  where
    go : (j : ℕ) → Used ms j → (is_open (node_at ms j) ≡ true) ⊎ (is_open (node_at ms j) ≡ false) → (node_at ms j).total ≡ total_of ms j
    go j u (inl o) = let q : Opens ns j = Q.alike.same_open j ∙ o in f j o ∙ T.total j (open_used ns j q) ∙ sym (quiet_total ns ms w Q j q)
    go j u (inr c) = g j u c ∙ sym (total_shut ms Q.well j c)
