-- Settling: totals, regions and published count are what the nodes give; it looks at no total. The soundness test, and the statements that it decides.
use mathlib.Core.Path.{◌≡◌, refl, sym, ◌∙◌, ap, subst}
use mathlib.Core.Logic.{◌⊎◌, inl, inr}
use mathlib.Core.Bool.{Bool, true, false, cond, ◌&&◌, beq, false≢true}
use mathlib.Core.List.{List, [], ◌∷◌}
use Prim.Native.Nat.{ℕ, zero, suc, ◌+◌, ◌<◌, ◌≤◌}
use native.Mathlib.Omega.{arith}
use native.Mathlib.Nat.{add-zero, zero-add}
use native.Mathlib.Decide.{ℕ_discrete, dec_lt}
use lib.ListN.{length, set, length-set}
use lib.Seq.{ext_get_or, get_or-set_same, get_or-set_other, set_out}
use lib.Dec.{eqb, ltb}
use borrow.Author.Tests.{eqb-true, eq-eqb, leb-true, le-leb}
use Rattle.model.specs.declared.Node.{Node}
use Rattle.model.specs.declared.Model.{Model}
use Rattle.model.specs.declared.Record.{Record}
use Rattle.model.specs.declared.Region.{Region}
use Rattle.model.specs.Places.{node_places, row_limit}
use Rattle.model.specs.Table.{item_count, item_ongoing, item_version}
use Rattle.model.specs.Nodes.{no_node, node_at, used, with_total, with_open, with_direct, with_ongoing, with_version, or_none}
use Rattle.model.specs.Rows.{total_of, paths, row_total}
use Rattle.model.specs.Settle.{totalled, settle}
use Rattle.model.specs.Sound.{same_node, same_region, same_list, same_model, sound}
use Rattle.model.specs.Logs.{state}
use Rattle.model.specs.Close.{free_below}
use Rattle.model.specs.Update.{added, text_step, grow_step}
use Rattle.lists.proofs.Bools.{and_left, and_right, and_true}
use Rattle.steps.specs.Changes.{closed_at, Quiet, bare, Bare}
use Rattle.steps.specs.Settled.{Given, Sound}
use Rattle.steps.proofs.Closing.{length_free, free_at}
use Rattle.steps.proofs.Quiet.{quiet_paths, bare_sym, bare_used, bare_rows, bare_total, bare_quiet, quiet_rows}
use Rattle.lists.proofs.Bools.{bool}
use Rattle.tree.proofs.WellFormed.{well_formed, tested}
use Rattle.tree.specs.WellFormed.{up, WellFormed}

length_totalled : (ns : List Node) (k : ℕ) (ms : List Node) → length (totalled ns k ms) ≡ length ms
unfolding totalled
length_totalled ns k [] = refl
length_totalled ns k (m ∷ ms) = ap suc (length_totalled ns (suc k) ms)

totalled_at : (ns : List Node) (k : ℕ) (ms : List Node) (i : ℕ) → node_at (totalled ns k ms) i ≡ with_total (cond (used (node_at ms i)) (total_of ns (k + i)) 0) (node_at ms i)
unfolding totalled
totalled_at ns k [] i = refl
totalled_at ns k (m ∷ ms) zero = rw add-zero
totalled_at ns k (m ∷ ms) (suc i) = let e : k + suc i ≡ suc k + i = omega arith in rw e (totalled_at ns (suc k) ms i)

pub settle_at : (ns : List Node) (j : ℕ) → node_at (settle ns).nodes j ≡ with_total (cond (used (node_at ns j)) (total_of ns j) 0) (node_at ns j)
unfolding settle
settle_at ns j = totalled_at ns 0 ns j ∙ rw zero-add

pub settle_given : (ns : List Node) → Given ns (settle ns)
unfolding settle
settle_given ns = record {
  nodes = record { size = sym (length_totalled ns 0 ns); node = λ j. sym (ap bare (settle_at ns j)) };
  totals = record { total = λ j u. ap (λ (m : Node). m.total) (settle_at ns j) ∙ rw u; none = λ j u. ap (λ (m : Node). m.total) (settle_at ns j) ∙ rw u };
  regions = refl;
  region_count = refl;
  published = refl;
}

-- a model whose nodes, totals, regions and published count are edited in place is settled, if they end as the nodes give them
pub given_settle : (ns : List Node) (m : Model) → Given ns m → m ≡ settle ns
given_settle ns m G =
    let S = settle_given ns in
    λ i. record {
      nodes = ext_get_or no_node m.nodes (settle ns).nodes (sym G.nodes.size ∙ S.nodes.size) (λ j h. same j) i;
      regions = (G.regions ∙ sym S.regions) i;
      region_count = (G.region_count ∙ sym S.region_count) i;
      published = (G.published ∙ sym S.published) i;
    }
  where
    number : (j : ℕ) → (used (node_at ns j) ≡ true) ⊎ (used (node_at ns j) ≡ false) → (node_at m.nodes j).total ≡ (node_at (settle ns).nodes j).total
    number j (inl u) = G.totals.total j u ∙ sym ((settle_given ns).totals.total j u)
    number j (inr u) = G.totals.none j u ∙ sym ((settle_given ns).totals.none j u)

    same : (j : ℕ) → node_at m.nodes j ≡ node_at (settle ns).nodes j
    same j =
        ap (with_total (node_at m.nodes j).total) (sym (G.nodes.node j) ∙ (settle_given ns).nodes.node j)
        ∙ ap (λ (c : ℕ). with_total c (node_at (settle ns).nodes j)) (number j (bool (used (node_at ns j))))

-- settling looks at no total, so to settle again changes nothing
pub settle_bare : (ns ms : List Node) → Bare ns ms → settle ns ≡ settle ms
settle_bare ns ms B =
    let S = settle_given ns in
    let e = bare_rows ns ms B in
    given_settle ms (settle ns) (record {
      nodes = record { size = sym B.size ∙ S.nodes.size; node = λ j. sym (B.node j) ∙ S.nodes.node j };
      totals = record { total = λ j u. S.totals.total j (bare_used ns ms B j ∙ u) ∙ bare_total ns ms B j; none = λ j u. S.totals.none j (bare_used ns ms B j ∙ u) };
      regions = rw e at S.regions;
      region_count = rw e at S.region_count;
      published = rw e at S.published;
    })

pub settle_again : (ns : List Node) → settle (settle ns).nodes ≡ settle ns
settle_again ns = settle_bare (settle ns).nodes ns (bare_sym (settle_given ns).nodes)

pub settle_quiet : (ns : List Node) → WellFormed ns → Quiet ns (settle ns).nodes
settle_quiet ns w = let S = settle_given ns in bare_quiet ns (settle ns).nodes S.nodes w (λ j u. S.totals.none (suc j) (bare_used ns (settle ns).nodes S.nodes (suc j) ∙ u))

-- the listing of a settled model is that of its nodes
pub settle_paths : (ns : List Node) → WellFormed ns → paths (settle ns).nodes ≡ paths ns
settle_paths ns w = quiet_paths ns (settle ns).nodes w (settle_quiet ns w)

-- the steps look at no total either

bare_set : (ns ms : List Node) → Bare ns ms → (k : ℕ) (a b : Node) → bare a ≡ bare b → Bare (set ns k a) (set ms k b)
bare_set ns ms B k a b e = record { size = length-set ns k a ∙ B.size ∙ sym (length-set ms k b); node = λ j. node j (ℕ_discrete j k) (dec_lt k (length ns)) }
  where
    node : (j : ℕ) → Dec (j ≡ k) → Dec (k < length ns) → bare (node_at (set ns k a) j) ≡ bare (node_at (set ms k b) j)
    node j (yes d) (yes h) = let h' : k < length ms = omega (arith, B.size) in rw (d, get_or-set_same ns k a no_node h, get_or-set_same ms k b no_node h') e
    node j c (no n) = rw (set_out ns k a (omega arith), set_out ms k b (omega (arith, B.size))) (B.node j)
    node j (no d) (yes h) = rw (get_or-set_other ns k j a no_node d, get_or-set_other ms k j b no_node d) (B.node j)

-- a node anew, by a change that looks at no total
pub bare_change : (f : Node → Node) → ((n : Node) → bare (f n) ≡ bare (f (bare n))) → (ns ms : List Node) → Bare ns ms → (k : ℕ) → Bare (set ns k (f (node_at ns k))) (set ms k (f (node_at ms k)))
bare_change f h ns ms B k = bare_set ns ms B k (f (node_at ns k)) (f (node_at ms k)) (h (node_at ns k) ∙ ap (λ (n : Node). bare (f n)) (B.node k) ∙ sym (h (node_at ms k)))

bare_cond : (b : Bool) (x y : Node) → bare x ≡ bare y → bare (cond b x no_node) ≡ bare (cond b y no_node)
bare_cond true x y e = e
bare_cond false x y e = refl

bare_free : (p : ℕ) (ns ms : List Node) → Bare ns ms → Bare (free_below p ns) (free_below p ms)
bare_free p ns ms B = record { size = length_free p ns ∙ B.size ∙ sym (length_free p ms); node = node }
  where
    pick : (b : Bool) (x y : Node) → bare x ≡ bare y → bare (cond b no_node x) ≡ bare (cond b no_node y)
    pick true x y e = refl
    pick false x y e = e

    node : (j : ℕ) → bare (node_at (free_below p ns) j) ≡ bare (node_at (free_below p ms) j)
    node j =
        ap bare (free_at p ns j)
        ∙ pick (eqb (up ns j) p) (node_at ns j) (node_at ms j) (B.node j)
        ∙ ap (λ (z : ℕ). bare (cond (eqb z p) no_node (node_at ms j))) (ap (λ (n : Node). n.parent) (B.node j))
        ∙ sym (ap bare (free_at p ms j))

pub bare_closed : (ns ms : List Node) → Bare ns ms → (k : ℕ) → Bare (closed_at ns k) (closed_at ms k)
unfolding closed_at
bare_closed ns ms B k =
    bare_set (free_below k ns) (free_below k ms) (bare_free k ns ms B) k (shut (node_at ns k)) (shut (node_at ms k))
    (one (node_at ns k) ∙ ap (λ (n : Node). bare (shut n)) (B.node k) ∙ sym (one (node_at ms k)))
  where
    shut : Node → Node
    shut n = or_none (with_open false n)

    one : (n : Node) → bare (shut n) ≡ bare (shut (bare n))
    one n = bare_cond n.ongoing (with_open false n) (with_open false (bare n)) refl

pub bare_grow : (t : List ℕ) (ns ms : List Node) → Bare ns ms → (l : List Record) (k : ℕ) → Bare (grow_step t (state ns l) k).nodes (grow_step t (state ms l) k).nodes
unfolding grow_step
bare_grow t ns ms B l k = bare_change (λ n. or_none (new n)) (λ n. bare_cond (used (new n)) (new n) (new (bare n)) refl) ns ms B k
  where
    new : Node → Node
    new n = with_direct (item_count t n.entry) (with_ongoing (n.ongoing && item_ongoing t n.entry) n)

pub bare_text : (t : List ℕ) (ns ms : List Node) → Bare ns ms → (l : List Record) (k : ℕ) → Bare (text_step t (state ns l) k).nodes (text_step t (state ms l) k).nodes
unfolding text_step
bare_text t ns ms B l zero = B
bare_text t ns ms B l (suc k) = rw same (go (ltb 0 (added t (node_at ms (suc k)))))
  where
    new : Node → Node
    new n = with_version (item_version t n.entry) n

    same : ltb 0 (added t (node_at ns (suc k))) ≡ ltb 0 (added t (node_at ms (suc k)))
    same = ap (λ (n : Node). ltb 0 (added t n)) (B.node (suc k))

    go : (b : Bool) → Bare (cond b ns (set ns (suc k) (new (node_at ns (suc k))))) (cond b ms (set ms (suc k) (new (node_at ms (suc k)))))
    go true = B
    go false = bare_change new (λ n. refl) ns ms B (suc k)

-- the test, taken apart

beq_true : (a b : Bool) → beq a b ≡ true → a ≡ b
beq_true true true e = refl
beq_true true false e = absurd (false≢true e)
beq_true false true e = absurd (false≢true e)
beq_true false false e = refl

beq_same : (a : Bool) → beq a a ≡ true
beq_same true = refl
beq_same false = refl

eqb_same : (n : ℕ) → eqb n n ≡ true
eqb_same n = eq-eqb n n refl

ruleset apart = (and_left, and_right, eqb-true, beq_true, leb-true)

ruleset joined = (and_true, eqb_same, beq_same)

same_node_lem : (a b : Node) → same_node a b ≡ true → a ≡ b
same_node_lem a b e =
    let e₁ : a.parent ≡ b.parent = search apart depth 10 in
    let e₂ : a.index ≡ b.index = search apart depth 10 in
    let e₃ : a.entry ≡ b.entry = search apart depth 10 in
    let e₄ : a.direct ≡ b.direct = search apart depth 10 in
    let e₅ : a.total ≡ b.total = search apart depth 10 in
    let e₆ : a.version ≡ b.version = search apart depth 10 in
    let e₇ : a.«open» ≡ b.«open» = search apart depth 10 in
    let e₈ : a.ongoing ≡ b.ongoing = search apart depth 10 in
    λ i. record { parent = e₁ i; index = e₂ i; entry = e₃ i; direct = e₄ i; total = e₅ i; version = e₆ i; «open» = e₇ i; ongoing = e₈ i }

node_same : (a : Node) → same_node a a ≡ true
node_same a = search joined

same_region_lem : (a b : Region) → same_region a b ≡ true → a ≡ b
same_region_lem a b e =
    let e₁ : a.start ≡ b.start = search apart in
    let e₂ : a.node ≡ b.node = search apart in
    let e₃ : a.offset ≡ b.offset = search apart in
    let e₄ : a.length ≡ b.length = search apart in
    λ i. record { start = e₁ i; node = e₂ i; offset = e₃ i; length = e₄ i }

region_same : (a : Region) → same_region a a ≡ true
region_same a = search joined

same_list_lem : {A : Type 0} (q : A → A → Bool) → ((x y : A) → q x y ≡ true → x ≡ y) → (xs ys : List A) → same_list q xs ys ≡ true → xs ≡ ys
unfolding same_list
same_list_lem q h [] [] e = refl
same_list_lem q h [] (y ∷ ys) e = absurd (false≢true e)
same_list_lem q h (x ∷ xs) [] e = absurd (false≢true e)
same_list_lem q h (x ∷ xs) (y ∷ ys) e =
    let a = h x y (and_left (q x y) (same_list q xs ys) e) in
    let b = same_list_lem q h xs ys (and_right (q x y) (same_list q xs ys) e) in
    cc

pub list_same : {A : Type 0} (q : A → A → Bool) → ((x : A) → q x x ≡ true) → (xs : List A) → same_list q xs xs ≡ true
unfolding same_list
list_same q h [] = refl
list_same q h (x ∷ xs) = and_true (q x x) (same_list q xs xs) (h x) (list_same q h xs)

same_model_lem : (a b : Model) → same_model a b ≡ true → a ≡ b
unfolding same_model
same_model_lem a b e =
    let e₁ = same_list_lem same_node same_node_lem a.nodes b.nodes (search apart) in
    let e₂ = same_list_lem same_region same_region_lem a.regions b.regions (search apart) in
    let e₃ : a.region_count ≡ b.region_count = search apart in
    let e₄ : a.published ≡ b.published = search apart in
    λ i. record { nodes = e₁ i; regions = e₂ i; region_count = e₃ i; published = e₄ i }

model_same : (a : Model) → same_model a a ≡ true
unfolding same_model
model_same a = let e₁ = list_same same_node node_same a.nodes in let e₂ = list_same same_region region_same a.regions in search joined

pub sound_of : (m : Model) → sound m ≡ true → Sound m
unfolding sound
sound_of m e = record { well = well_formed m.nodes (search apart) (search apart); is = same_model_lem m (settle m.nodes) (search apart); limit = search apart }

pub sound_to : (m : Model) → Sound m → sound m ≡ true
unfolding sound
sound_to m S =
    let s = S.is in
    let e₁ = eq-eqb (length m.nodes) node_places S.well.size in
    let e₂ = tested m.nodes S.well in
    let e₃ : same_model m (settle m.nodes) ≡ true = ap (same_model m) (sym s) ∙ model_same m in
    let e₄ = le-leb (row_total m.nodes) row_limit S.limit in
    search joined

-- totals, regions and published count of a sound model are what its nodes give
pub sound_given : (m : Model) → Sound m → Given m.nodes m
sound_given m S = subst (λ (r : Model). Given m.nodes r) (sym S.is) (settle_given m.nodes)

-- what settling gives is sound
pub settle_sound : (ns : List Node) → WellFormed ns → row_total ns ≤ row_limit → Sound (settle ns)
settle_sound ns w h =
    let Q = settle_quiet ns w in
    record { well = Q.well; is = sym (settle_again ns); limit = rw (quiet_rows ns (settle ns).nodes w Q) h }
