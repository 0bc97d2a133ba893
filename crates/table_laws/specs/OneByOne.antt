-- The rows of an INSERT put in one after the other, each by a statement of its own.
use Rattle.std.specs.Prelude.{Bool, false, ◌||◌, List, [], ◌∷◌, ◌++◌, Ok}
use Rattle.base_core.specs.declared.ids.TableId.{TableId}
use Rattle.base_core.specs.declared.value.Value.{Value}
use Rattle.schema_core.specs.declared.statement.RowStmt.TheVariants.{Insert}
use Rattle.schema_core.specs.Apply.{Outcome, apply}
use Rattle.schema_core.specs.Catalog.{Catalog, spec_of}
use Rattle.schema_core.specs.Judged.{and_then}
use Rattle.schema_core.specs.Tables.{Rows, Tables, some_dangles, with_row, with_rows}

abbrev pub one_by_one : Catalog → Tables → TableId → List (List Value) → Outcome
one_by_one schema tables table [] = Ok ([], tables)
one_by_one schema tables table (row ∷ more) =
    and_then (apply schema tables (Insert table (row ∷ []))) (λ first. and_then (one_by_one schema first.1 table more) (λ rest. Ok (first.0 ++ rest.0, rest.1)))

-- a row refers to a later row of the statement: its foreign key names no row once it and the rows before it are in
abbrev pub refers_to_later : Catalog → Tables → TableId → Rows → Rows → Bool
refers_to_later schema tables table rows [] = false
refers_to_later schema tables table rows (entry ∷ entries) =
    some_dangles schema (with_rows tables table (with_row rows entry.0 entry.1)) (spec_of schema table) entry.1 || refers_to_later schema tables table (with_row rows entry.0 entry.1) entries
