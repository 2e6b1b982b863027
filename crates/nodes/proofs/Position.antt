-- What `position` finds among the nodes from number 1 on is the number that `seek` names.
use Rattle.std.proofs.Common.{◌≡◌, ℕ, suc, ◌+◌, Bool, true, false, cond, Some, List, [], ◌∷◌, drop, refl, ap, ◌∙◌, add-one}
use Rattle.std.specs.List.{position, position_from}
use Rattle.std.specs.Option.{option_map}
use Rattle.std.proofs.lemmas.Iterator.Adapters.{position_from-zero}
use Rattle.model.specs.declared.Node.{Node}
use Rattle.model.specs.Places.{unless_zero}
use Rattle.model.specs.Nodes.{seek_from, seek}

from_number : (q : Node → Bool) (ns : List Node) (k : ℕ) → option_map (λ x. x + 1) (position_from q k ns) ≡ unless_zero (seek_from q ns (suc k))
unfolding seek_from
from_number q [] k = refl
from_number q (n ∷ ns) k = go (q n) (from_number q ns (k + 1))
  where
    go : (b : Bool) → option_map (λ x. x + 1) (position_from q (k + 1) ns) ≡ unless_zero (seek_from q ns (suc (k + 1))) → option_map (λ x. x + 1) (cond b (Some k) (position_from q (k + 1) ns)) ≡ unless_zero (cond b (suc k) (seek_from q ns (suc (suc k))))
    go true e = rw add-one refl
    go false e = e ∙ rw add-one refl

pub position-seek : (q : Node → Bool) (ns : List Node) → option_map (λ x. x + 1) (position q (drop 1 ns)) ≡ unless_zero (seek q ns)
unfolding seek
position-seek q [] = refl
position-seek q (n ∷ ns) = ap (option_map (λ x. x + 1)) (position_from-zero q ns) ∙ from_number q ns 0
