-- Fetch (1, 2, 4, 6): what a row shows, by the node that it has, or by the table if it has none. An ongoing child gets a node and is then followed.
use Rattle.std.specs.Prelude.{ℕ, zero, suc, cond, not, ◌&&◌, false, List, set, eqb, leb}
use Rattle.model.specs.declared.Node.{Node}
use Rattle.model.specs.declared.Model.{Model}
use Rattle.model.specs.declared.FetchedRow.{FetchedRow}
use Rattle.model.specs.Answers.{FetchAnswer, no_fetch, refuse_if}
use Rattle.model.specs.Places.{unless_zero}
use Rattle.model.specs.Table.{readable, child_entry, child_count, child_ongoing, child_version}
use Rattle.model.specs.Nodes.{node_at, child, free}
use Rattle.model.specs.Rows.{Row, row_total, row_at}
use Rattle.model.specs.Settle.{settle}
use Rattle.model.specs.Sound.{sound}

-- child i of node p as the table has it: the node that its row would get
unfoldable pub fresh : List ℕ → List Node → ℕ → ℕ → Node
fresh t ns p i =
    let e = (node_at ns p).entry in
    record {
      parent = p;
      index = i;
      entry = child_entry t e i;
      direct = child_count t e i;
      total = child_count t e i;
      version = child_version t e i;
      «open» = false;
      ongoing = child_ongoing t e i;
    }

-- the node of a row, where k is its number (0: it has none): an existing node answers with its recorded values
abbrev pub node_or_fresh : List ℕ → List Node → Row → ℕ → Node
node_or_fresh t ns x zero = fresh t ns x.0 x.1
node_or_fresh t ns x (suc k) = node_at ns (suc k)

-- what is shown of a row with node n, of number k (0: none)
unfoldable pub shown : List Node → Node → ℕ → FetchedRow
shown ns n k =
    record {
      parent_entry = (node_at ns n.parent).entry;
      index = record { 0 = n.index };
      entry = n.entry;
      count = n.direct;
      version = n.version;
      «open» = n.«open»;
      ongoing = n.ongoing;
      node = unless_zero k;
    }

abbrev pub fetched : Model → FetchedRow → FetchAnswer
fetched m w = record { refusal = 0; model = m; row = w }

-- an ongoing child without a node gets the lowest free number, a complete one gets none
unfoldable pub fetch_node : Model → Node → ℕ → FetchAnswer
fetch_node m n k =
    let j = free m.nodes in
    cond (eqb k 0 && n.ongoing)
    (refuse_if (eqb j 0) (no_fetch 6 m) (fetched (settle (set m.nodes j n)) (shown m.nodes n j)))
    (fetched m (shown m.nodes n k))

abbrev pub fetch_row : List ℕ → Model → Row → FetchAnswer
fetch_row t m x = let k = child m.nodes x.0 x.1 in fetch_node m (node_or_fresh t m.nodes x k) k

unfoldable pub answer_fetch : List ℕ → Model → ℕ → FetchAnswer
answer_fetch t m r =
    refuse_if (not (sound m)) (no_fetch 1 m)
    (refuse_if (not (readable t)) (no_fetch 2 m)
    (refuse_if (leb (row_total m.nodes) r) (no_fetch 4 m)
    (fetch_row t m (row_at m.nodes r))))
