-- What the order of rows tells.
use Rattle.std.specs.Prelude.{ℕ, List, Result, Ok, Err}
use Rattle.row_order.specs.declared.places.Ordered.{Ordered}
use Rattle.row_order.specs.declared.places.Ordered.TheVariants.{Order, Cycle}

abbrev pub order_result : Ordered → Result (List ℕ) (List ℕ)
order_result (Order rows) = Ok rows
order_result (Cycle rows) = Err rows

abbrev pub rows_of : Ordered → List ℕ
rows_of (Order rows) = rows
rows_of (Cycle rows) = rows
