-- A bulk statement whose parts fit its table is had from its form.
use Rattle.std.proofs.Common.{◌≡◌, ℕ, Bool, true, cond, List, [], ◌∷◌, map, length, Option, Some, None, refl, sym, ap, ◌∙◌}
use Rattle.std.specs.Prelude.{is_some}
use Rattle.std.specs.List.{list_all, AllByRecursion}
use Rattle.std.specs.Option.{option_map}
use Rattle.std.proofs.lemmas.Bool.{and_parts, lt-ltb}
use Rattle.base_core.specs.declared.ids.ColumnNo.{ColumnNo}
use Rattle.base_core.specs.declared.ids.TableId.{TableId}
use Rattle.base_core.specs.declared.value.Value.{Value}
use Rattle.base_core.specs.declared.value.Value.TheVariants as cell
use Rattle.schema_core.specs.declared.table.ColumnSpec.{ColumnSpec}
use Rattle.schema_core.specs.Catalog.{Catalog, IsTable, spec_of}
use Rattle.expr_types.specs.declared.expr.Expr.{Expr, roll-Expr}
use Rattle.expr_types.specs.declared.expr.Expr.TheOpen.{Expr-F}
use Rattle.expr_types.specs.declared.expr.Origin.{Origin}
use Rattle.expr_types.specs.declared.select.Bulk.{Bulk}
use Rattle.expr_types.specs.declared.select.Bulk.TheVariants as bulk
use Rattle.sql_semantics.specs.Kinds.{column_in}
use Rattle.sql_semantics.specs.Plain.{IfSet, IsFilter, IsWritten, StandsIn, alone, are_for, fits, has_kind}
use Rattle.sql_semantics.specs.PlainStatement.{IsFittingBulk}
use Rattle.sql_semantics.proofs.Equations.{fits_rolled}
use Rattle.base_core.specs.declared.dialect.Dialect.{Dialect}
use Rattle.sql_text.specs.Columns.{column_name}
use Rattle.script_laws.specs.Texts.Grammar.Trees.{Source, Sql}
use Rattle.script_laws.specs.Texts.Expressions.Tree.{tree}
use Rattle.script_laws.specs.Texts.Forms.Forms.{BulkForm, insert, update, delete}
use Rattle.script_laws.specs.Texts.Forms.Form.{bulk_form, set_tree}
use Rattle.sql_semantics.specs.DistinctNames.{has_distinct_names}
use Rattle.script_laws.proofs.Texts.Readings.Back.{back, column_place, columns_distinct, from_mark, from_tree, numbered, origin_back, origin_told}
use Rattle.script_laws.proofs.Texts.Readings.Bulks.{one_bulk_form}
use Rattle.script_laws.proofs.Texts.Readings.Places.{place}
use Rattle.script_laws.specs.Texts.Statements.{IsOneBulk}
use Rattle.script_laws.proofs.Texts.Statements.Parts.{one_more, option_told}

-- ---- from a form

abbrev named_source : List ℕ → Source
named_source name = record { table = name; alias = None }

-- the table of a name, and the column
abbrev pub table_back : Catalog → List ℕ → TableId
table_back schema name = (origin_back schema (named_source name)).table

abbrev pub column_back : Catalog → TableId → List ℕ → ColumnNo
column_back schema table name = numbered (place name (map (λ (column : ColumnSpec). column.name) (spec_of schema table).columns))

-- what does not stand is a mark with NULL
abbrev if_standing : Catalog → TableId → Expr → Option Expr
if_standing schema table e = cond (fits schema e (table ∷ [])) (Some e) None

abbrev set_back : Catalog → TableId → Sql → Option Expr
set_back schema table x = if_standing schema table (back schema x (alone table))

abbrev filter_back : Catalog → TableId → Option Sql → Option Expr
filter_back schema table filter = option_map (λ x. back schema x (alone table)) filter

abbrev insert_back : Catalog → TableId → List (List ℕ) → List Value → Bulk
insert_back schema table columns values = bulk.Insert table (map (column_back schema table) columns) values

abbrev update_back : Catalog → TableId → List (List ℕ × Sql) → Option Sql → Bulk
update_back schema table cells filter = bulk.Update table (map (λ c. (column_back schema table c.0, set_back schema table c.1)) cells) (filter_back schema table filter)

abbrev delete_back : Catalog → TableId → Option Sql → Bulk
delete_back schema table filter = bulk.Delete table (filter_back schema table filter)

abbrev bulk_back : Catalog → BulkForm → Bulk
bulk_back schema (insert table columns values) = insert_back schema (table_back schema table) columns values
bulk_back schema (update table cells filter) = update_back schema (table_back schema table) cells filter
bulk_back schema (delete table filter) = delete_back schema (table_back schema table) filter

module _ (q : Dialect) (schema : Catalog) (named : has_distinct_names schema ≡ true) where
  pub table_told : (table : TableId) → IsTable schema table → table_back schema (spec_of schema table).name ≡ table
  table_told table there = ap (λ (o : Origin). o.table) (origin_told q schema named (record { table = table; alias = None }) (lt-ltb table.0 (length schema.tables) there))

  pub column_told : (table : TableId) (c : ColumnNo) → is_some (column_in schema (table ∷ []) 0 c) ≡ true → column_back schema table (column_name schema table c) ≡ c
  column_told table c there = ap numbered (column_place q schema named (spec_of schema table).columns c.0 (columns_distinct q schema named table) there)

  has_column : (table : TableId) (c : ColumnNo) (v : Value) → has_kind (column_in schema (table ∷ []) 0 c) v ≡ true → is_some (column_in schema (table ∷ []) 0 c) ≡ true
  has_column table c v held = by (column_in schema (table ∷ []) 0 c) held
    where
      by : (o : Option ColumnSpec) → has_kind o v ≡ true → is_some o ≡ true
      by None h = absurd (cc)
      by (Some column) h = refl

  columns_told : (table : TableId) (columns : List ColumnNo) (values : List Value) → are_for schema table columns values ≡ true → map (column_back schema table) (map (column_name schema table) columns) ≡ columns
  columns_told table [] values h = refl
  columns_told table (c ∷ cs) [] h = absurd (cc)
  columns_told table (c ∷ cs) (v ∷ vs) h =
      let both = and_parts (has_kind (column_in schema (table ∷ []) 0 c) v) (are_for schema table cs vs) h in
      one_more (column_told table c (has_column table c v both.0)) (columns_told table cs vs both.1)

  -- ---- what is set

  standing : (table : TableId) (e : Expr) (b : Bool) → b ≡ true → cond b (Some e) None ≡ Some e
  standing table e b is = ap (λ (t : Bool). cond t (Some e) None) is

  expression_told : (table : TableId) (e : Expr) → StandsIn schema (alone table) e → back schema (tree q schema e (alone table)) (alone table) ≡ e
  expression_told table e stands = from_tree q schema named (alone table) e refl stands

  set_told : (table : TableId) (c : ColumnNo) (e : Option Expr) → IfSet (IsWritten schema table c) e → set_back schema table (set_tree q schema table e) ≡ e
  set_told table c None is =
      ap (if_standing schema table) (from_mark q schema named cell.Null (alone table)) ∙ ap (λ (t : Bool). cond t (Some (roll-Expr (Expr-F.Lit cell.Null))) None) (fits_rolled schema (table ∷ []) (Expr-F.Lit cell.Null))
  set_told table c (Some e) is = ap (if_standing schema table) (expression_told table e is.stands) ∙ standing table e (fits schema e (table ∷ [])) is.stands.fitting

  sets_told : (table : TableId) (cells : List (ColumnNo × Option Expr)) → list_all (λ cell. is_some (column_in schema (table ∷ []) 0 cell.0)) cells ≡ true → AllByRecursion (λ cell. IfSet (IsWritten schema table cell.0) cell.1) cells
      → map (λ (c : List ℕ × Sql). (column_back schema table c.0, set_back schema table c.1)) (map (λ (c : ColumnNo × Option Expr). (column_name schema table c.0, set_tree q schema table c.1)) cells) ≡ cells
  sets_told table [] there are = refl
  sets_told table (c ∷ cs) there are =
      let both = and_parts (is_some (column_in schema (table ∷ []) 0 c.0)) (list_all (λ (d : ColumnNo × Option Expr). is_some (column_in schema (table ∷ []) 0 d.0)) cs) there in
      one_more (ap (λ (n : ColumnNo). (n, set_back schema table (set_tree q schema table c.1))) (column_told table c.0 both.0) ∙ ap (λ (e : Option Expr). (c.0, e)) (set_told table c.0 c.1 are.0))
      (sets_told table cs both.1 are.1)

  filter_told : (table : TableId) (filter : Option Expr) → IfSet (IsFilter schema (alone table)) filter → filter_back schema table (option_map (λ e. tree q schema e (alone table)) filter) ≡ filter
  filter_told table filter is =
      option_told (λ (e : Expr). tree q schema e (alone table)) (λ (x : Sql). back schema x (alone table)) (IsFilter schema (alone table)) (λ e f. expression_told table e f.condition.stands) filter is

  -- ---- the whole

  bulk_told : (it : Bulk) → IsFittingBulk schema it → bulk_back schema (bulk_form q schema it) ≡ it
  bulk_told (bulk.Insert table columns values) fit =
      ap (λ (t : TableId). insert_back schema t (map (column_name schema table) columns) values) (table_told table fit.0)
      ∙ ap (λ (cs : List ColumnNo). bulk.Insert table cs values) (columns_told table columns values fit.1)
  bulk_told (bulk.Update table cells filter) fit =
      ap (λ (t : TableId). update_back schema t (map (λ (c : ColumnNo × Option Expr). (column_name schema table c.0, set_tree q schema table c.1)) cells) (option_map (λ (e : Expr). tree q schema e (alone table)) filter))
      (table_told table fit.0)
      ∙ (ap (λ (cs : List (ColumnNo × Option Expr)). bulk.Update table cs (filter_back schema table (option_map (λ (e : Expr). tree q schema e (alone table)) filter))) (sets_told table cells fit.1 fit.2)
      ∙ ap (bulk.Update table cells) (filter_told table filter fit.3))
  bulk_told (bulk.Delete table filter) fit =
      ap (λ (t : TableId). delete_back schema t (option_map (λ (e : Expr). tree q schema e (alone table)) filter)) (table_told table fit.0) ∙ ap (bulk.Delete table) (filter_told table filter fit.1)

pub one_bulk : IsOneBulk
one_bulk dialect schema text values it other named fit other_fit reads other_reads =
    sym (bulk_told dialect schema named it fit)
    ∙ (ap (bulk_back schema) (one_bulk_form dialect text values (bulk_form dialect schema it) (bulk_form dialect schema other) reads other_reads) ∙ bulk_told dialect schema named other other_fit)
