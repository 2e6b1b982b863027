-- Rows put into a listing: the totals of the open nodes, and the number of rows.
use mathlib.Core.Path.{◌≡◌, sym, ◌∙◌, ap}
use mathlib.Core.List.{List, ◌++◌, Memᴰ as In}
use Prim.Native.Nat.{ℕ, ◌+◌}
use native.Mathlib.Omega.{arith}
use lib.ListN.{length, take, drop, take-append-drop, length-append}
use Rattle.model.specs.declared.Node.{Node}
use Rattle.model.specs.Rows.{row_total, total_of, paths}
use Rattle.lists.proofs.Filters.{number_insert, number_all, number_none}
use Rattle.lists.specs.Counts.{number}
use Rattle.paths.specs.Listings.{total}
use Rattle.paths.specs.Order.{Path, Ext, dec_ext}
use Rattle.tree.proofs.Listing.{length_paths}
use Rattle.tree.proofs.Pairs.{to_keep}
use Rattle.tree.proofs.Rows.{total_open}
use Rattle.tree.proofs.WellFormed.{open_used}
use Rattle.tree.specs.Pairs.{Keeps}
use Rattle.tree.specs.Paths.{to}
use Rattle.tree.specs.WellFormed.{Opens, WellFormed}

-- the paths `news` are put into the listing of ns at row e; this also tells of rows taken out, with ns and ms exchanged
module _ (ns ms : List Node) (w : WellFormed ns) (w' : WellFormed ms) (K : Keeps ns ms) (e : ℕ) (news : List Path) (I : paths ms ≡ take e (paths ns) ++ news ++ drop e (paths ns)) where
  total_num : (j : ℕ) → Opens ns j → Opens ms j → total_of ms j ≡ total_of ns j + number (dec_ext (to ns j)) news
  total_num j o q =
      total_open ms w' j q
      ∙ ap (total (paths ms)) (to_keep ns ms w w' K j (open_used ns j o))
      ∙ number_insert (dec_ext (to ns j)) e (paths ns) news (paths ms) I
      ∙ ap (λ (m : ℕ). m + number (dec_ext (to ns j)) news) (sym (total_open ns w j o))

  -- of a node below which they all come
  pub total_more : (j : ℕ) → Opens ns j → Opens ms j → ((x : Path) → In x news → Ext (to ns j) x) → total_of ms j ≡ total_of ns j + length news
  total_more j o q h = total_num j o q ∙ ap (λ (m : ℕ). total_of ns j + m) (number_all (dec_ext (to ns j)) news h)

  -- of a node below which none of them comes
  pub total_as_before : (j : ℕ) → Opens ns j → Opens ms j → ((x : Path) → In x news → Ext (to ns j) x → ⊥) → total_of ms j ≡ total_of ns j
  total_as_before j o q h = omega (arith, total_num j o q, number_none (dec_ext (to ns j)) news h)

  pub rows_more : row_total ms ≡ row_total ns + length news
  rows_more =
      omega (
        arith,
        length_paths ns w,
        length_paths ms w',
        ap length I,
        length-append (take e (paths ns) ++ news) (drop e (paths ns)),
        length-append (take e (paths ns)) news,
        length-append (take e (paths ns)) (drop e (paths ns)),
        ap length (take-append-drop e (paths ns)),
      )
