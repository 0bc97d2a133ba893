-- The rows that left-joined sources put behind the rows of others.
use Rattle.std.specs.Prelude.{ℕ, List, [], ◌∷◌, ◌++◌, filter, length, map}
use Rattle.std.specs.List.{flat_map}
use Rattle.schema_core.specs.Catalog.{Catalog, spec_of}
use Rattle.sql_semantics.specs.Eval.{Row, Tables, rows_in}
use Rattle.sql_semantics.specs.Rows.{nulls}
use Rattle.load_selects.specs.declared.sources.Further.{Further}
use Rattle.loading_laws.specs.Wide.Parts.{all_hold}

-- rows of so many columns, or one of NULLs where there are none
abbrev pub or_null_row : ℕ → List Row → List Row
or_null_row columns [] = nulls columns ∷ []
or_null_row columns rows = rows

-- the rows of a source's table for which all its conditions are true behind these rows, or a row of NULLs
abbrev pub rows_behind : Catalog → Tables → Further → List Row → List Row
rows_behind schema tables further rows =
    or_null_row (length (spec_of schema further.table).columns) (filter (λ row. all_hold tables further.on (rows ++ row ∷ [])) (rows_in tables further.table.0))

-- what sources put behind these rows, each time a row of each source: the first one's row, and what the others put behind that
abbrev pub partners : Catalog → Tables → List Further → List Row → List (List Row)
partners schema tables [] rows = [] ∷ []
partners schema tables (further ∷ more) rows =
    flat_map (λ row. map (λ others. row ∷ others) (partners schema tables more (rows ++ row ∷ []))) (rows_behind schema tables further rows)
