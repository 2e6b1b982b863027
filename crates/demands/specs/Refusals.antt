-- When each operation is refused: conditions with their numbers, in the order in which they are looked for. The first that holds is given.
use Rattle.std.specs.Prelude.{◌≡◌, ◌≢◌, ℕ, ◌+◌, Bool, cond, not, ◌&&◌, List, [], ◌∷◌, eqb, ltb, leb}
use Rattle.model.specs.declared.Node.{Node}
use Rattle.model.specs.declared.Model.{Model}
use Rattle.model.specs.Places.{row_limit}
use Rattle.model.specs.Table.{readable, item_count}
use Rattle.model.specs.Nodes.{node_at, is_open, child, free}
use Rattle.model.specs.Rows.{row_total, row_at}
use Rattle.model.specs.Logs.{state}
use Rattle.model.specs.Sound.{sound}
use Rattle.model.specs.Fetch.{node_or_fresh}
use Rattle.model.specs.Open.{number_or_free}
use Rattle.model.specs.Update.{visits, any_went_back, steps}

abbrev pub Refusals : Type 0
Refusals = List (Bool × ℕ)

-- 0 if none holds
unfoldable pub first : Refusals → ℕ
first [] = 0
first (r ∷ rs) = let later = first rs in cond r.0 r.1 later

-- answer a is refused exactly by these, with the number that is read from it; what is refused with n gives back `refused n`
pub record Answered {A : Type 0} (number : A → ℕ) (refused : ℕ → A) (rs : Refusals) (a : A) : Type 0 where
  pub exactly : number a ≡ first rs
  pub back : number a ≢ 0 → a ≡ refused (number a)

-- the number of row r's node (0: it has none), and the node: the recorded one, or what the table has
abbrev pub node_of : Model → ℕ → ℕ
node_of m r = let x = row_at m.nodes r in child m.nodes x.0 x.1

abbrev pub shown_of : List ℕ → Model → ℕ → Node
shown_of t m r = node_or_fresh t m.nodes (row_at m.nodes r) (node_of m r)

abbrev pub of_new : List ℕ → Refusals
of_new t = (not (readable t), 2) ∷ (ltb 0 (item_count t 0), 3) ∷ []

abbrev pub of_count : Model → Refusals
of_count m = (not (sound m), 1) ∷ []

-- 6: an ongoing row has no node, and none is free
abbrev pub of_fetch : List ℕ → Model → ℕ → Refusals
of_fetch t m r =
    (not (sound m), 1) ∷
    (not (readable t), 2) ∷
    (leb (row_total m.nodes) r, 4) ∷
    ((eqb (node_of m r) 0 && (shown_of t m r).ongoing) && eqb (free m.nodes) 0, 6) ∷
    []

-- 5 to 7 are for a closed row: it has no children, or no node and none is free, or there would be too many rows
abbrev pub of_open : List ℕ → Model → ℕ → Refusals
of_open t m r =
    (not (sound m), 1) ∷
    (not (readable t), 2) ∷
    (leb (row_total m.nodes) r, 4) ∷
    (not (shown_of t m r).«open» && eqb (shown_of t m r).direct 0, 5) ∷
    (not (shown_of t m r).«open» && eqb (number_or_free m.nodes (node_of m r)) 0, 6) ∷
    (not (shown_of t m r).«open» && ltb row_limit (row_total m.nodes + (shown_of t m r).direct), 7) ∷
    []

abbrev pub of_close : Model → ℕ → Refusals
of_close m r = (not (sound m), 1) ∷ (leb (row_total m.nodes) r, 4) ∷ []

-- 9: the row has a node, and it is open
abbrev pub of_release : Model → ℕ → Refusals
of_release m r =
    (not (sound m), 1) ∷
    (leb (row_total m.nodes) r, 4) ∷
    (ltb 0 (node_of m r) && is_open (node_at m.nodes (node_of m r)), 9) ∷
    []

-- 8 is looked for at all visits before 7
abbrev pub of_update : List ℕ → Model → Refusals
of_update t m =
    (not (sound m), 1) ∷
    (not (readable t), 2) ∷
    (any_went_back t m.nodes (visits m.nodes), 8) ∷
    (ltb row_limit (row_total (steps t (state m.nodes []) (visits m.nodes)).nodes), 7) ∷
    []
