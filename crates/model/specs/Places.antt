-- How many there can be: of nodes, regions, log records and rows.
use Rattle.std.specs.Prelude.{ℕ, zero, suc, Option, Some, None, List, ◌++◌, take, replicate}

abbrev pub node_places : ℕ
node_places = 256

abbrev pub region_places : ℕ
region_places = 512

abbrev pub log_places : ℕ
log_places = 512

-- the row total is at most this
abbrev pub row_limit : ℕ
row_limit = 4294967295

-- no chain of parents is longer: the nodes besides the capture
abbrev pub longest_chain : ℕ
longest_chain = 255

-- no path is longer, and nothing is nested deeper
abbrev pub depth : ℕ
depth = 256

-- the first n of a list, with z where it ends before: a list laid into n places
unfoldable pub pad : {A : Type 0} → ℕ → A → List A → List A
pad n z xs = take n (xs ++ replicate n z)

-- a number where 0 says "none", as an option
abbrev pub unless_zero : ℕ → Option ℕ
unless_zero zero = None
unless_zero (suc k) = Some (suc k)
