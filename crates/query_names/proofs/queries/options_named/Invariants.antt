use Rattle.std.proofs.Common.{◌≡◌, ◌<◌, ◌++◌, length, drop, Ok}
use Rattle.std.specs.List.{All}
use Rattle.class_mapping.specs.Mapped.{relations_of}
use Rattle.sql_semantics.specs.Checked.{◌>>=◌}
use Rattle.query_names.specs.Queries.{options_said}
use Rattle.query_names.proofs.queries.options_named.Given as goal

abbrev pub invariant-loop-option : goal.invariant-loop-option
invariant-loop-option l = record {
  told : (options_said l.mapping l.class (drop l.option-index l.options) >>= λ more. Ok (l.named ++ more)) ≡ options_said l.mapping l.class l.options;
  exist : All (λ it. it.1.0 < length (relations_of l.mapping l.class)) l.named;
}
