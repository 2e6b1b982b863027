-- A step that leaves the rows as they are: the model with the new nodes is what they settle to.
use Prim.Native.Nat.{ℕ, suc, ◌<◌}
use native.Mathlib.Decide.{ℕ_discrete, dec_lt}
use native.Mathlib.Omega.{arith}
use mathlib.Core.Path.{◌≡◌, refl, sym, ap, ◌∙◌}
use mathlib.Core.Bool.{true, false}
use mathlib.Core.List.{List}
use lib.ListN.{length, set, length-set}
use lib.Seq.{get_or-set_same, get_or-set_other, set_out}
use Rattle.lists.proofs.Bools.{differ}
use Rattle.model.specs.declared.Node.{Node}
use Rattle.model.specs.declared.Model.{Model}
use Rattle.model.specs.Nodes.{no_node, node_at, direct_of, used, is_open}
use Rattle.model.specs.Settle.{settle}
use Rattle.tree.specs.WellFormed.{Used, Opens}
use Rattle.tree.proofs.Rows.{total_shut}
use Rattle.tree.proofs.WellFormed.{used_small}
use Rattle.steps.specs.Changes.{Quiet, bare, Bare}
use Rattle.steps.specs.Settled.{Sound, with_nodes}
use Rattle.steps.proofs.Quiet.{quiet_rows}
use Rattle.steps.proofs.Totals.{quiet_totalled}
use Rattle.steps.proofs.Settling.{given_settle, sound_given}

-- open nodes keep the totals that they had, and closed ones have their count
pub record Kept (ns ms : List Node) : Type 0 where
  pub opens : (j : ℕ) → Opens ms j → (node_at ms j).total ≡ (node_at ns j).total
  pub shut : (j : ℕ) → Used ms j → is_open (node_at ms j) ≡ false → (node_at ms j).total ≡ direct_of ms j

pub quiet_in_place : (m : Model) → Sound m → (ms : List Node) → Quiet m.nodes ms → Kept m.nodes ms → settle ms ≡ with_nodes m ms
quiet_in_place m S ms Q K =
    let G = sound_given m S in
    let e = quiet_rows m.nodes ms S.well Q in
    sym (given_settle ms (with_nodes m ms) (record {
      nodes = record { size = refl; node = λ j. refl };
      totals = quiet_totalled m.nodes ms S.well Q G.totals K.opens K.shut;
      regions = rw e G.regions;
      region_count = rw e G.region_count;
      published = rw e G.published;
    }))

module _ (m : Model) (S : Sound m) where
  -- a closed node has its count as its total
  shut_total : (j : ℕ) → Used m.nodes j → is_open (node_at m.nodes j) ≡ false → (node_at m.nodes j).total ≡ direct_of m.nodes j
  shut_total j u c = (sound_given m S).totals.total j u ∙ total_shut m.nodes S.well j c

  -- one node is put
  put_kept : (k : ℕ) (n : Node) → k < 256 → (is_open n ≡ true → n.total ≡ (node_at m.nodes k).total) → (is_open n ≡ false → n.total ≡ n.direct) → Kept m.nodes (set m.nodes k n)
  put_kept k n h f g = record { opens = λ j o. opens j o (ℕ_discrete j k); shut = λ j u d. shut j u d (ℕ_discrete j k) }
    where
      here : node_at (set m.nodes k n) k ≡ n
      here = get_or-set_same m.nodes k n no_node (rw S.well.size h)

      there : (j : ℕ) → (j ≡ k → ⊥) → node_at (set m.nodes k n) j ≡ node_at m.nodes j
      there j d = get_or-set_other m.nodes k j n no_node d

      opens : (j : ℕ) → Opens (set m.nodes k n) j → Dec (j ≡ k) → (node_at (set m.nodes k n) j).total ≡ (node_at m.nodes j).total
      opens j o (yes e) = rw e (ap (λ (x : Node). x.total) here ∙ f (rw (e, here) at o))
      opens j o (no d) = ap (λ (x : Node). x.total) (there j d)

      shut : (j : ℕ) → Used (set m.nodes k n) j → is_open (node_at (set m.nodes k n) j) ≡ false → Dec (j ≡ k) → (node_at (set m.nodes k n) j).total ≡ direct_of (set m.nodes k n) j
      shut j u d (yes e) =
          let q : node_at (set m.nodes k n) j ≡ n = ap (node_at (set m.nodes k n)) e ∙ here in
          ap (λ (x : Node). x.total) q ∙ g (sym (ap is_open q) ∙ d) ∙ sym (ap (λ (x : Node). x.direct) q)
      shut j u d (no f) =
          let q = there j f in
          ap (λ (x : Node). x.total) q ∙ shut_total j (sym (ap used q) ∙ u) (sym (ap is_open q) ∙ d) ∙ sym (ap (λ (x : Node). x.direct) q)

  -- not open, with its count as its total
  pub put_totals : (k : ℕ) (n : Node) → k < 256 → is_open n ≡ false → n.total ≡ n.direct → Kept m.nodes (set m.nodes k n)
  put_totals k n h c t = put_kept k n h (λ o. absurd (differ o c)) (λ z. t)

  pub freed_totals : (k : ℕ) → suc k < 256 → Kept m.nodes (set m.nodes (suc k) no_node)
  freed_totals k h = put_totals (suc k) no_node h refl refl

  -- with the total, the count and the state that it had
  pub same_totals : (k : ℕ) (n : Node) → Used m.nodes k → is_open n ≡ is_open (node_at m.nodes k) → n.total ≡ (node_at m.nodes k).total → n.direct ≡ direct_of m.nodes k → Kept m.nodes (set m.nodes k n)
  same_totals k n u o t d = put_kept k n (used_small m.nodes S.well k u) (λ q. t) (λ q. t ∙ shut_total k u (sym o ∙ q) ∙ sym d)

-- a node put, with one total or another
pub bare_put : (ns : List Node) (k : ℕ) (a b : Node) → bare a ≡ bare b → Bare (set ns k a) (set ns k b)
bare_put ns k a b e = record { size = length-set ns k a ∙ sym (length-set ns k b); node = λ j. node j (ℕ_discrete j k) (dec_lt k (length ns)) }
  where
    node : (j : ℕ) → Dec (j ≡ k) → Dec (k < length ns) → bare (node_at (set ns k a) j) ≡ bare (node_at (set ns k b) j)
    node j (yes d) (yes h) = rw (d, get_or-set_same ns k a no_node h, get_or-set_same ns k b no_node h) e
    node j c (no n) = rw (set_out ns k a (omega arith), set_out ns k b (omega arith))
    node j (no d) (yes h) = rw (get_or-set_other ns k j a no_node d, get_or-set_other ns k j b no_node d)
