-- What each operation makes of a sound model, when it is not refused: a sound model, and a log that tells how the listing changed.
use mathlib.Core.Path.{◌≡◌, refl, sym, ◌∙◌}
use mathlib.Core.Logic.{◌≢◌}
use mathlib.Core.Bool.{true, false}
use mathlib.Core.List.{List, [], ◌∷◌}
use Prim.Native.Nat.{ℕ, suc, ◌+◌, ◌≤◌, ◌<◌}
use native.Mathlib.Omega.{arith}
use lib.ListN.{set, replicate}
use Rattle.model.specs.declared.Node.{Node}
use Rattle.model.specs.declared.Model.{Model}
use Rattle.model.specs.Places.{depth, row_limit, longest_chain}
use Rattle.model.specs.Nodes.{no_node, node_at, is_open, child, open_child, free, with_open}
use Rattle.model.specs.Rows.{rows, rows_of, rows_from, row_total, row_at, total_of, paths}
use Rattle.model.specs.Settle.{settle}
use Rattle.model.specs.Sound.{capture_ok, node_ok, nodes_ok}
use Rattle.model.specs.Logs.{state, rows_change}
use Rattle.model.specs.New.{zeros, capture}
use Rattle.model.specs.Fetch.{fresh, node_or_fresh}
use Rattle.model.specs.Open.{number_or_free}
use Rattle.model.specs.Close.{closing_order, close_each}
use Rattle.model.specs.Update.{visits, any_went_back, steps}
use Rattle.steps.specs.Changes.{Put, Quiet}
use Rattle.steps.specs.Settled.{Sound}
use Rattle.steps.specs.Telling.{nil, cons, Result}
use Rattle.steps.proofs.Put.{put_well}
use Rattle.steps.proofs.Opening.{row_shows, open_put, open_paths, open_row_total}
use Rattle.steps.proofs.Shrunk.{prune_row_total}
use Rattle.steps.proofs.Quiet.{quiet_rows, quiet_paths, quiet_freed, quiet_followed}
use Rattle.steps.proofs.Settling.{settle_paths, sound_given, settle_sound}
use Rattle.steps.proofs.Replay.{tells_in}
use Rattle.steps.proofs.ClosingAll.{close_all_pruned, close_all_well, close_all_told}
use Rattle.steps.proofs.Visits.{update_steps}
use Rattle.paths.proofs.Sorted.{child_paths_length}
use Rattle.paths.specs.Listings.{child_paths}
use Rattle.paths.specs.Order.{◌·◌}
use Rattle.tree.proofs.Listing.{open_child_lem, length_paths}
use Rattle.tree.proofs.WellFormed.{well_formed, zero_open, open_used}
use Rattle.tree.specs.Paths.{to}
use Rattle.tree.specs.WellFormed.{WellFormed}

-- the capture's total is the row total
total_capture : (ns : List Node) → total_of ns 0 ≡ row_total ns
unfolding total_of rows
total_capture ns = refl

pub capture_total : (m : Model) → Sound m → (node_at m.nodes 0).total ≡ row_total m.nodes
capture_total m S = (sound_given m S).totals.total 0 (open_used m.nodes 0 (zero_open m.nodes S.well)) ∙ total_capture m.nodes

new_well : (t : List ℕ) → WellFormed (capture t ∷ replicate longest_chain no_node)
unfolding nodes_ok node_ok capture_ok
new_well t = well_formed (capture t ∷ replicate longest_chain no_node) refl refl

-- a new model comes of nothing
pub new_result : (t : List ℕ) → Result zeros [] (settle (capture t ∷ replicate longest_chain no_node))
unfolding zeros paths rows rows_of rows_from
new_result t = record {
  sound = settle_sound (capture t ∷ replicate longest_chain no_node) (new_well t) (omega arith);
  told = rw (settle_paths (capture t ∷ replicate longest_chain no_node) (new_well t)) nil;
}

quiet_result : (m : Model) → Sound m → (ms : List Node) → Quiet m.nodes ms → Result m [] (settle ms)
quiet_result m S ms Q = record {
  sound = settle_sound ms Q.well (rw (quiet_rows m.nodes ms S.well Q) S.limit);
  told = rw (settle_paths ms Q.well ∙ quiet_paths m.nodes ms S.well Q) nil;
}

-- of an ongoing row without a node
pub fetch_result :
    (t : List ℕ) (m : Model) (S : Sound m) (r p i k : ℕ)
    → r < row_total m.nodes
    → row_at m.nodes r ≡ (p, i)
    → child m.nodes p i ≡ 0
    → free m.nodes ≡ suc k
    → (fresh t m.nodes p i).ongoing ≡ true
    → Result m [] (settle (set m.nodes (suc k) (fresh t m.nodes p i)))
fetch_result t m S r p i k h e c f o =
    quiet_result m S (set m.nodes (suc k) (fresh t m.nodes p i))
    (quiet_followed t m.nodes S.well p i k (rw e at (row_shows m.nodes S.well r h)) c f o)

pub release_result : (m : Model) (S : Sound m) (k : ℕ) → suc k < 256 → is_open (node_at m.nodes (suc k)) ≡ false → Result m [] (settle (set m.nodes (suc k) no_node))
release_result m S k h c = quiet_result m S (set m.nodes (suc k) no_node) (quiet_freed m.nodes S.well k h c)

put_result :
    (m : Model) (S : Sound m) (r k : ℕ) (n : Node)
    → r < row_total m.nodes
    → row_at m.nodes r ≡ (n.parent, n.index)
    → Put m.nodes (suc k) n
    → is_open (node_at m.nodes (suc k)) ≡ false
    → is_open n ≡ true
    → row_total m.nodes + n.direct ≤ row_limit
    → Result m (rows_change (suc r) 0 n.direct ∷ []) (settle (set m.nodes (suc k) n))
put_result m S r k n h e P c o l =
    let ns = m.nodes in
    let w = S.well in
    let w' = put_well ns w (suc k) n P in
    let q = to ns n.parent · n.index in
    record {
      sound = settle_sound (set ns (suc k) n) w' (rw (open_row_total ns w k n P c o r h e) l);
      told = rw (settle_paths (set ns (suc k) n) w')
          (cons (tells_in (paths ns) (paths (set ns (suc k) n)) (suc r) (child_paths q 0 n.direct) n.direct (child_paths_length q 0 n.direct) (rw (length_paths ns w) h) (open_paths ns w k n P c o r h e)) nil);
    }

pub open_result :
    (t : List ℕ) (m : Model) (S : Sound m) (r : ℕ)
    → r < row_total m.nodes
    → let x = row_at m.nodes r in
    let k = child m.nodes x.0 x.1 in
    let n = node_or_fresh t m.nodes x k in
    let j = number_or_free m.nodes k in
    is_open n ≡ false → 0 < n.direct → j ≢ 0 → row_total m.nodes + n.direct ≤ row_limit
    → Result m (rows_change (suc r) 0 n.direct ∷ []) (settle (set m.nodes j (with_open true n)))
open_result t m S r h c d z l =
    let x = row_at m.nodes r in
    let n = node_or_fresh t m.nodes x (child m.nodes x.0 x.1) in
    let O = open_put t m.nodes S.well x.0 x.1 (row_shows m.nodes S.well r h) c d z in
    let e : row_at m.nodes r ≡ (n.parent, n.index) = λ i. (sym O.1 i, sym O.2 i) in
    rw O.0.is (put_result m S r O.0.at (with_open true n) h e O.0.put O.0.was refl l)

pub close_result :
    (m : Model) (S : Sound m) (p i k : ℕ)
    → open_child m.nodes p i ≡ suc k
    → let s = close_each (state m.nodes []) (closing_order m.nodes depth (suc k)) in Result m s.log (settle s.nodes)
close_result m S p i k e =
    let ns = m.nodes in
    let w = S.well in
    let o = (open_child_lem ns w p i k e).0 in
    let ms = (close_each (state ns []) (closing_order ns depth (suc k))).nodes in
    let w' = close_all_well ns w k o in
    record {
      sound = settle_sound ms w' (omega (arith, prune_row_total ns ms w k o (close_all_pruned ns w k o), S.limit));
      told = rw (settle_paths ms w') (close_all_told ns w k o);
    }

pub update_result :
    (t : List ℕ) (m : Model) (S : Sound m)
    → any_went_back t m.nodes (visits m.nodes) ≡ false
    → let s = steps t (state m.nodes []) (visits m.nodes) in row_total s.nodes ≤ row_limit → Result m s.log (settle s.nodes)
update_result t m S nb l =
    let r = update_steps t m.nodes S.well nb in
    let s = steps t (state m.nodes []) (visits m.nodes) in
    record { sound = settle_sound s.nodes r.0 l; told = rw (settle_paths s.nodes r.0) r.1 }
