use Rattle.std.proofs.Common.{◌≡◌, ◌++◌, drop, Ok}
use Rattle.sql_semantics.specs.Checked.{◌>>=◌}
use Rattle.query_names.specs.Queries.{order_said}
use Rattle.query_names.proofs.queries.order_named.Given as goal

abbrev pub invariant-loop-key : goal.invariant-loop-key
invariant-loop-key l = (order_said l.mapping l.scope (drop l.key-index l.keys) >>= λ more. Ok (l.order ++ more)) ≡ order_said l.mapping l.scope l.keys
