-- Rows that were tested are rows of their table.
use Rattle.std.proofs.Common.{◌≡◌, true, ◌&&◌, List, [], ◌∷◌, refl, ap, ◌∙◌}
use Rattle.std.proofs.lemmas.Bool.{and_parts}
use Rattle.std.specs.List.{list_all}
use Rattle.std.specs.Cmp.Lexicographic.{pointwise}
use Rattle.base_core.specs.declared.ids.TableId.{TableId}
use Rattle.base_core.specs.declared.value.Value.{Value}
use Rattle.base_core.specs.declared.value.Value.TheVariants as value
use Rattle.schema_core.specs.declared.table.ColumnSpec.{ColumnSpec}
use Rattle.schema_core.specs.Catalog.{Catalog, spec_of}
use Rattle.schema_core.specs.Tables.{is_legal_row}
use Rattle.schema_core.specs.Tables as held
use Rattle.schema_core.specs.WellFormed.{is_row, may_hold}
use Rattle.keeper_core.specs.Keeping.{AreRowsOf}
use Rattle.expr_typing.proofs.Items.{each_row}

holds : (column : ColumnSpec) (v : Value) → held.fits column v ≡ true → may_hold column v ≡ true
holds column value.Null e = refl
holds column (value.Bool b) e = e
holds column (value.Int n) e = e
holds column (value.Text t) e = e
holds column (value.Bytes b) e = e

legal_is_row : (columns : List ColumnSpec) (row : List Value) → pointwise held.fits columns row ≡ true → pointwise may_hold columns row ≡ true
legal_is_row [] [] e = refl
legal_is_row [] (v ∷ row) e = cc
legal_is_row (column ∷ columns) [] e = cc
legal_is_row (column ∷ columns) (v ∷ row) e =
    let both = and_parts (held.fits column v) (pointwise held.fits columns row) e in
    ap (λ b. b && pointwise may_hold columns row) (holds column v both.0) ∙ legal_is_row columns row both.1

-- legal rows are rows of their table
pub rows_of_table : (schema : Catalog) (table : TableId) (rows : List (List Value)) → list_all (is_legal_row (spec_of schema table)) rows ≡ true → AreRowsOf schema table rows
rows_of_table schema table rows e =
    each_row (λ row. is_row (spec_of schema table) row ≡ true) (is_legal_row (spec_of schema table)) (legal_is_row (spec_of schema table).columns) rows e
