-- Which statements are plain.
use Rattle.std.specs.Prelude.{List, [], ◌∷◌, IsTrue, is_some}
use Rattle.std.specs.List.{list_all, AllByRecursion}
use Rattle.schema_core.specs.Catalog.{Catalog, IsTable}
use Rattle.schema_core.specs.WellFormed.{IsWellFormed}
use Rattle.expr_types.specs.declared.select.Bulk.{Bulk}
use Rattle.expr_types.specs.declared.select.Bulk.TheVariants as bulk
use Rattle.expr_types.specs.declared.select.Statement.{Statement}
use Rattle.expr_types.specs.declared.select.Statement.TheVariants.{Select, Bulk as BulkStatement, Row}
use Rattle.sql_semantics.specs.Kinds.{column_in}
use Rattle.sql_semantics.specs.Plain.{IfSet, IsFilter, IsPlainSelect, IsWritten, alone, are_for}

-- a bulk statement whose parts fit its table; that it names no column twice and spares the key is for a keeper to ask
abbrev pub IsFittingBulk : Catalog → Bulk → Type 0
IsFittingBulk schema (bulk.Insert table columns values) = IsTable schema table × IsTrue (are_for schema table columns values)
IsFittingBulk schema (bulk.Update table cells filter) =
    IsTable schema table × IsTrue (list_all (λ cell. is_some (column_in schema (table ∷ []) 0 cell.0)) cells) × AllByRecursion (λ cell. IfSet (IsWritten schema table cell.0) cell.1) cells
    × IfSet (IsFilter schema (alone table)) filter
IsFittingBulk schema (bulk.Delete table filter) = IsTable schema table × IfSet (IsFilter schema (alone table)) filter

-- a plain statement: well typed and in normal form, with every part where SQL lets it stand
abbrev pub IsPlain : Catalog → Statement → Type 0
IsPlain schema (Select it) = IsPlainSelect schema it
IsPlain schema (BulkStatement it) = IsFittingBulk schema it
IsPlain schema (Row it) = IsWellFormed schema it
