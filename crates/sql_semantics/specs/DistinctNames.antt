-- Tables and columns that their names tell.
use Rattle.std.specs.Prelude.{Bool, ◌&&◌, map, length, nat_lt}
use Rattle.std.specs.List.{list_all}
use Rattle.schema_core.specs.declared.table.TableSpec.{TableSpec}
use Rattle.schema_core.specs.Catalog.{Catalog}
use Rattle.sql_semantics.specs.Plain.{are_distinct}

-- no two columns of the table have one name
abbrev pub has_distinct_columns : TableSpec → Bool
has_distinct_columns spec = are_distinct (map (λ column. column.name) spec.columns)

-- no two tables have one name, and no two columns of a table
abbrev pub has_distinct_names : Catalog → Bool
has_distinct_names schema = are_distinct (map (λ spec. spec.name) schema.tables) && list_all has_distinct_columns schema.tables

-- every table has a column
abbrev pub has_columns : Catalog → Bool
has_columns schema = list_all (λ spec. nat_lt 0 (length spec.columns)) schema.tables
