-- A row with the key that is drawn for it.
use Rattle.std.proofs.Common.{ℤ, List, Option}
use Rattle.std.specs.Option.{option_map}
use Rattle.base_core.specs.declared.value.Value.{Value}
use Rattle.base_core.specs.declared.value.Value.TheVariants.{Int}
use Rattle.schema_core.specs.declared.table.TableSpec.{TableSpec}
use Rattle.schema_core.specs.Apply.{with_key}

abbrev pub drawn_under : TableSpec → List Value → Option ℤ → Option (List Value)
drawn_under spec row key = option_map (λ n. with_key spec.columns (Int n) row) key
