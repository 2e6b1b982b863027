-- What an order holds: the first `len` of its places.
use Rattle.std.specs.Prelude.{◌≤◌, ◌≡◌, List, take, length}
use Rattle.orders.specs.declared.order.Order.{Order}

abbrev pub items : {T : Type 0} → Order T → List T
items o = take o.len o.steps

-- r holds the steps of o
pub record Holds {T : Type 0} (r : Order T) (o : List T) : Type 0 where
  pub short : r.len ≤ 512
  pub count : r.len ≡ length o
  pub exact : items r ≡ o
