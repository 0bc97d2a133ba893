use Rattle.std.proofs.Common.{◌≡◌, map}
use Rattle.std.specs.List.{range_with_len}
use Rattle.session_loads.specs.Rows.{attr_at}
use Rattle.session_loads.proofs.rows.all_attrs.Given as goal

abbrev pub invariant-loop-place : goal.invariant-loop-place
invariant-loop-place l = l.attrs ≡ map attr_at (range_with_len 0 l.place)
