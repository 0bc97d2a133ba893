-- What a push leaves of an ascending list.
use Rattle.std.proofs.Common.{◌<◌, List, [], ◌∷◌, ◌++◌}
use Rattle.base_core.specs.declared.ids.ObjId.{ObjId}
use Rattle.base_core.specs.Ascending.{IsAbove, IsBelow, IsAscending}

below_push : (x : ObjId) (xs : List ObjId) (y : ObjId) → IsBelow x xs → x.0 < y.0 → IsBelow x (xs ++ y ∷ [])
below_push x [] y below less = (less, tt)
below_push x (z ∷ zs) y below less = (below.0, below_push x zs y below.1 less)

pub ascending_push : (xs : List ObjId) (y : ObjId) → IsAscending xs → IsAbove xs y → IsAscending (xs ++ y ∷ [])
ascending_push [] y ascending above = (tt, tt)
ascending_push (x ∷ xs) y ascending above = (below_push x xs y ascending.0 above.0, ascending_push xs y ascending.1 above.1)
