use Rattle.std.proofs.Common.{◌≡◌, [], drop}
use Rattle.expr_eval.specs.Place.{place_of}
use Rattle.sql_semantics.specs.Rows as spec
use Rattle.select_rows.proofs.output.keys.Given as goal

abbrev pub invariant-loop-key : goal.invariant-loop-key
invariant-loop-key l = spec.keys_from (place_of l.scope) l.keys.items (drop l.key-index l.key-items) ≡ spec.keys_from (place_of l.scope) [] l.order
