-- A step of an update on the settled model of a state is that step on the state.
use Prim.Native.Nat.{ℕ, zero, suc, ◌+◌, ◌-◌, ◌≤◌, ◌<◌}
use native.Mathlib.Omega.{arith}
use mathlib.Core.Logic.{◌≢◌}
use mathlib.Core.Path.{◌≡◌, refl, sym, ap, ap₂, subst, ◌∙◌}
use mathlib.Core.Bool.{Bool, true, false, cond, not, ◌&&◌, ◌||◌}
use mathlib.Core.List.{List, [], ◌++◌, append-nil}
use lib.ListN.{length, set}
use lib.Seq.{set-get_or}
use lib.Dec.{eqb, ltb}
use borrow.Author.Tests.{lt-ltb, le-ltb, eq-eqb, ne_eqb}
use Rattle.model.specs.declared.Node.{Node}
use Rattle.model.specs.declared.Model.{Model}
use Rattle.model.specs.declared.Changed.{Changed}
use Rattle.model.specs.declared.Record.{Record}
use Rattle.model.specs.declared.Log.{Log}
use Rattle.model.specs.Places.{log_places}
use Rattle.model.specs.Table.{item_count, item_ongoing, item_version, entries}
use Rattle.model.specs.Nodes.{no_node, node_at, direct_of, is_open, with_version}
use Rattle.model.specs.Rows.{row_of, place}
use Rattle.model.specs.Settle.{settle}
use Rattle.model.specs.Logs.{State, state, log_of, logged_if, text_change, rows_change}
use Rattle.model.specs.Update.{added, end_of, text_step, grow_step, step}
use Rattle.model.specs.declared.Step.TheVariants.{Text, Grow}
use Rattle.tree.proofs.WellFormed.{used_small}
use Rattle.steps.specs.Changes.{Bare, bare}
use Rattle.steps.specs.Course.{Ready}
use Rattle.steps.proofs.Quiet.{bare_sym, bare_rows, bare_total}
use Rattle.steps.proofs.Settling.{settle_given, settle_bare, bare_change, bare_grow}
use Rattle.edits.specs.Visiting.{visited, Visitable}
use Rattle.tree_list.specs.Logging.{logged}
use Rattle.tree_list.specs.Visiting.{logged_when, Holding, Grown}
use Rattle.tree_list.proofs.Records.{logged_of}

logged_when_lem : (b : Bool) (l : List Record) (x : Record) → length l < log_places → logged_when b (log_of l) x ≡ log_of (l ++ logged_if b x)
logged_when_lem true l x h = logged_of l x h
logged_when_lem false l x h = ap log_of (sym (append-nil l))

-- rows and ends of two lists of nodes that differ in totals alone
module _ (ns ms : List Node) (B : Bare ns ms) where
  same_row : (k : ℕ) → row_of ms k ≡ row_of ns k
  unfolding row_of
  same_row k = sym (ap₂ (λ (n : Node) (l : List (ℕ × ℕ)). place n.parent n.index l) (B.node k) (bare_rows ns ms B))

  same_end : (k : ℕ) → end_of ms k ≡ end_of ns k
  unfolding end_of
  same_end zero = sym (ap length (bare_rows ns ms B))
  same_end (suc k) = ap₂ (λ (r c : ℕ). suc r + c) (same_row (suc k)) (sym (bare_total ns ms B (suc k)))

-- the text step of a row's node
text_at :
    (t : List ℕ) (s : State) (k : ℕ)
    → k ≢ 0
    → let n = node_at s.nodes k in
    let v = item_version t n.entry in
    let more = ltb 0 (added t n) in
    text_step t s k ≡ state (cond more s.nodes (set s.nodes k (with_version v n))) (s.log ++ logged_if (more || not (eqb n.version v)) (text_change (row_of s.nodes k)))
unfolding text_step
text_at t s zero above = absurd (above refl)
text_at t s (suc k) above = refl

module _ (t : List ℕ) (p : Changed) (s : State) (H : Holding p s) where
  abbrev ms : List Node
  ms = p.model.nodes

  pub held_bare : Bare s.nodes ms
  held_bare = subst (λ (r : Model). Bare s.nodes r.nodes) (sym H.model) (settle_given s.nodes).nodes

  pub held_room : p.log.len < 512 → length s.log < log_places
  unfolding log_of
  held_room h = subst (λ (l : Log). l.len < 512) H.log h

  -- a record if it is due, by what the two lists agree on
  held_logged : (b c : Bool) (x y : Record) → b ≡ c → x ≡ y → p.log.len < 512 → logged_when b p.log x ≡ log_of (s.log ++ logged_if c y)
  held_logged b c x y e f h =
      ap (λ (l : Log). logged_when b l x) H.log
      ∙ logged_when_lem b s.log x (held_room h)
      ∙ ap₂ (λ (a : Bool) (z : Record). log_of (s.log ++ logged_if a z)) e f

  pub text_root : (k : ℕ) → k ≡ 0 → Holding p (step t s (Text k))
  unfolding step text_step
  text_root k e = rw e H

  -- the text step of a row's node
  module _ (k : ℕ) (above : k ≢ 0) (h : p.log.len < 512) where
    abbrev o : Node
    o = node_at s.nodes k

    abbrev n : Node
    n = node_at ms k

    abbrev change : Record
    change = text_change (row_of ms k)

    near : bare o ≡ bare n
    near = held_bare.node k

    same_change : change ≡ text_change (row_of s.nodes k)
    same_change = ap text_change (same_row s.nodes ms held_bare k)

    more_is : (b : Bool) → ltb 0 (added t n) ≡ b → ltb 0 (added t o) ≡ b
    more_is b e = ap (λ (x : Node). ltb 0 (added t x)) near ∙ e

    same_version : (b : Bool) → eqb n.version (item_version t n.entry) ≡ b → eqb o.version (item_version t o.entry) ≡ b
    same_version b e = ap (λ (x : Node). eqb x.version (item_version t x.entry)) near ∙ e

    versioned : settle (set ms k (with_version (item_version t n.entry) n)) ≡ settle (set s.nodes k (with_version (item_version t o.entry) o))
    versioned = settle_bare (set ms k (new n)) (set s.nodes k (new o)) (bare_change new (λ x. refl) ms s.nodes (bare_sym held_bare) k)
      where
        new : Node → Node
        new x = with_version (item_version t x.entry) x

    text_held : (b c : Bool) → ltb 0 (added t n) ≡ b → eqb n.version (item_version t n.entry) ≡ c → (r : Changed)
        → r.model ≡ settle (cond b s.nodes (set s.nodes k (with_version (item_version t o.entry) o)))
        → r.log ≡ logged_when (b || not c) p.log change
        → Holding r (step t s (Text k))
    unfolding step
    text_held b c e f r x y =
        subst (Holding r) (sym (text_at t s k above))
        (record {
          model = rw (more_is b e) x;
          log = rw (more_is b e, same_version c f) (y ∙ held_logged (b || not c) (b || not c) change (text_change (row_of s.nodes k)) refl same_change h);
        })

    pub text_more : (c : ℕ) → c ≡ item_count t n.entry → n.direct < c → (l : Log) → l ≡ logged p.log change → Holding (record { model = p.model; log = l }) (step t s (Text k))
    text_more c e d l y = text_held true (eqb n.version (item_version t n.entry)) (lt-ltb 0 (added t n) (omega (arith, e))) refl (record { model = p.model; log = l }) H.model y

    module _ (c : ℕ) (e : c ≡ item_count t n.entry) (d : c ≤ n.direct) where
      none : ltb 0 (added t n) ≡ false
      none = le-ltb 0 (added t n) (omega (arith, e))

      own_version : n.version ≡ item_version t n.entry → set s.nodes k (with_version (item_version t o.entry) o) ≡ s.nodes
      own_version f =
          ap (λ (z : ℕ). set s.nodes k (with_version z o)) (sym (subst (λ (x : Node). x.version ≡ item_version t x.entry) (sym near) f))
          ∙ set-get_or s.nodes k no_node

      pub text_same : (z : ℕ) → z ≡ item_version t n.entry → n.version ≡ z → Holding p (step t s (Text k))
      text_same z g f = text_held false true none (eq-eqb n.version (item_version t n.entry) (f ∙ g)) p (H.model ∙ sym (ap settle (own_version (f ∙ g)))) refl

      pub text_new : (z : ℕ) → z ≡ item_version t n.entry → n.version ≢ z → (q : Model) (l : Log) → q ≡ settle (set ms k (with_version z n)) → l ≡ logged p.log change → Holding (record { model = q; log = l }) (step t s (Text k))
      text_new z g f q l x y =
          text_held false false none (ne_eqb n.version (item_version t n.entry) (λ w. f (w ∙ sym g))) (record { model = q; log = l })
          (x ∙ ap (λ (w : ℕ). settle (set ms k (with_version w n))) g ∙ versioned) y

  pub grow_held :
      (k : ℕ)
      → p.log.len < 512
      → (c : ℕ) → c ≡ item_count t (node_at ms k).entry → (b : Bool) → b ≡ item_ongoing t (node_at ms k).entry → (l : Log)
      → l ≡ logged_when (is_open (node_at ms k) && ltb 0 (c - direct_of ms k)) p.log (rows_change (end_of ms k) 0 (c - direct_of ms k))
      → (q : Model) → q ≡ settle (set ms k (visited c b (node_at ms k)))
      → Holding (record { model = q; log = l }) (step t s (Grow k))
  unfolding step grow_step
  grow_held k h c e b f l y q x = record {
    model = x
        ∙ ap₂ (λ (z : ℕ) (a : Bool). settle (set ms k (visited z a (node_at ms k)))) e f
        ∙ settle_bare (grow_step t (state ms []) k).nodes (grow_step t (state s.nodes []) k).nodes (bare_grow t ms s.nodes (bare_sym held_bare) [] k);
    log = y
        ∙ held_logged _ _ _ _
        (ap (λ (z : ℕ). is_open (node_at ms k) && ltb 0 (z - direct_of ms k)) e ∙ sym (ap (λ (z : Node). is_open z && ltb 0 (added t z)) (held_bare.node k)))
        (ap₂ (λ (a z : ℕ). rows_change a 0 (z - direct_of ms k)) (same_end s.nodes ms held_bare k) e ∙ sym (ap (λ (z : Node). rows_change (end_of s.nodes k) 0 (added t z)) (held_bare.node k)))
        h;
  }

-- what the steps ask of the functions that carry them out
module _ (t : List ℕ) (p : Changed) (k : ℕ) (n : Node) (is : n ≡ node_at p.model.nodes k) where
  pub entry_listed : Ready t p.model.nodes k → n.entry < entries t
  entry_listed R = rw is R.listed

  pub grown_visitable : Grown t p k → (c : ℕ) → c ≡ item_count t n.entry → Visitable p.model k c
  grown_visitable G c e₀ =
      let e : c ≡ item_count t (node_at p.model.nodes k).entry = e₀ ∙ ap (λ (z : Node). item_count t z.entry) is in
      record {
        sound = G.texted.sound;
        live = G.texted.ready.live;
        more = rw e G.texted.ready.more;
        limit = λ o. rw e (G.limit o);
      }

pub node_small : (t : List ℕ) (ns : List Node) (k : ℕ) → Ready t ns k → k < 256
node_small t ns k R = used_small ns R.well k R.live

-- the rows that an open node has more
pub rows_shut : (b : Bool) (d : ℕ) (l : Log) (x : Record) → b ≡ false → l ≡ logged_when (b && ltb 0 d) l x
rows_shut b d l x e = rw e

pub rows_none : (b : Bool) (c d : ℕ) (l : Log) (x : Record) → b ≡ true → c ≤ d → l ≡ logged_when (b && ltb 0 (c - d)) l x
rows_none b c d l x e h = rw (e, le-ltb 0 (c - d) (omega arith))

pub rows_more : (b : Bool) (c d : ℕ) (l : Log) (x : Record) → b ≡ true → d < c → logged l x ≡ logged_when (b && ltb 0 (c - d)) l x
rows_more b c d l x e h = rw (e, lt-ltb 0 (c - d) (omega arith))
