-- Which rows hold the values of a unique constraint.
use Rattle.std.specs.Prelude.{ℕ, Bool, false, not, ◌&&◌, List, Option, None, Some}
use Rattle.std.specs.List.{list_any}
use Rattle.base_core.specs.declared.value.Value.{Value}
use Rattle.schema_core.specs.declared.table.TableSpec.{TableSpec}
use Rattle.schema_core.specs.Tables.{Rows, collide, row_under, same_values}

-- another row has the value that a row has, without a NULL, in the columns of a unique constraint
abbrev pub is_held : TableSpec → List (List ℕ) → Rows → List Value → List Value → Bool
is_held spec unique rows key row = list_any (λ other. not (same_values key other.0) && collide spec unique row other.1) rows

-- a row collides with the one that stands there, if one does
abbrev pub collides_there : TableSpec → List (List ℕ) → List Value → Option (List Value) → Bool
collides_there spec unique row None = false
collides_there spec unique row (Some other) = collide spec unique row other

-- another one of these keys has a row that collides with this one
abbrev pub some_key_collides : TableSpec → List (List ℕ) → Rows → List (List Value) → List Value → List Value → Bool
some_key_collides spec unique rows keys key row = list_any (λ other. not (same_values key other) && collides_there spec unique row (row_under rows other)) keys
