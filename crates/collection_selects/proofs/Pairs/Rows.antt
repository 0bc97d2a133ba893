-- The rows of the members of several collections: behind the key of the owner, where it stands there, rows of the target.
use Rattle.std.proofs.Common.{◌≡◌, inl, inr, ℕ, zero, suc, Bool, true, ◌&&◌, List, [], ◌∷◌, ◌++◌, map, drop, length, Option, None, Some, Ok, refl, sym, ap, subst, ◌∙◌}
use Rattle.std.specs.Prelude.{slice_get}
use Rattle.std.specs.Option.{option_and_then}
use Rattle.std.specs.List.{AllByRecursion, enumerate_from}
use Rattle.std.proofs.lemmas.List.{length-map, map-append}
use Rattle.base_core.specs.declared.ids.ClassId.{ClassId}
use Rattle.base_core.specs.declared.ids.ColumnNo.{ColumnNo}
use Rattle.base_core.specs.declared.ids.TableId.{TableId}
use Rattle.base_core.specs.declared.value.Value.{Value}
use Rattle.schema_core.specs.declared.table.ColumnSpec.{ColumnSpec}
use Rattle.schema_core.specs.Catalog.{Catalog, spec_of}
use Rattle.expr_types.specs.declared.expr.Expr.{Expr}
use Rattle.expr_types.specs.declared.expr.Expr.TheVariants as expr
use Rattle.expr_types.specs.declared.expr.Origin.{Origin}
use Rattle.expr_types.specs.declared.select.Select.{Select}
use Rattle.expr_types.proofs.Folds.{fold-Column}
use Rattle.sql_semantics.specs.Kinds.{Judged, Scope, column_in, expression_kind, kind_where}
use Rattle.sql_semantics.specs.Plain.{sources_of}
use Rattle.sql_semantics.specs.Shapes.{AreGiven, AreOfItems, EachItem, IsGiven, IsOfItsKind, is_inner, is_inner_join, is_never_null, is_required_level, scope_of, takes_no_null}
use Rattle.sql_semantics.proofs.Equations.{judged-Column}
use Rattle.class_types.specs.declared.mapped.Attribute.{Attribute}
use Rattle.class_types.specs.declared.mapped.Relation.{Relation}
use Rattle.class_layouts.specs.Columns.{table_attributes}
use Rattle.class_layouts.specs.Hierarchy.{line_of}
use Rattle.class_sides.specs.Keys.{TableKey}
use Rattle.class_mapping.specs.Mapped.{Mapped, attributes_of, tables_of}
use Rattle.class_mapping.specs.Related.{IsRelated}
use Rattle.class_mapping.proofs.Having.{Has, from_flat, from_numbered, has_at}
use Rattle.class_mapping.proofs.Lists.{and_both, and_right}
use Rattle.mapping_laws.specs.Hierarchies.{HasHierarchies, HasTables}
use Rattle.mapping_laws.proofs.Attributes.{of_column}
use Rattle.mapping_laws.proofs.Ties.{class_tables}
use Rattle.load_columns.specs.declared.placing.SourceColumn.{SourceColumn}
use Rattle.load_columns.specs.Placing.{attribute_column, attribute_columns, column_at, foreign_numbers, from_root, rank_of}
use Rattle.load_columns.specs.Conditions.{column_of, has_one_of}
use Rattle.load_selects.specs.declared.sources.Further.{Further}
use Rattle.load_selects.specs.Branches.{is_of_branch}
use Rattle.load_selects.specs.Selects.{class_rows, inner_joined, item_of}
use Rattle.load_selects.specs.Sources.{led_from}
use Rattle.load_rows.specs.Reading.{IsRowOf}
use Rattle.collection_selects.proofs.ClassLemmas.{root_placed, sources_are}
use Rattle.collection_selects.proofs.Keys.{IsAt}
use Rattle.collection_selects.proofs.Placed.{rank_finds}
use Rattle.collection_selects.proofs.Rows.{are_read, are_rows, reads_rows}
use Rattle.collection_selects.specs.Collections.{batch_by, batch_select, member_sources, owner_columns, pair_columns, pairs_select}
use Rattle.collection_selects.specs.Pairs.{IsMemberRow, owner_width, owner_width_by}
use Rattle.collection_selects.proofs.Pairs.Led.{sources_behind}
use Rattle.collection_selects.proofs.Pairs.Plainness.{IsSecondary, origins, origins_are, secondary_of, stands}

abbrev Items : Type 0
Items = List (Expr × Option (List ℕ))

-- ---- items and values

-- what is said of each item's value is said of those behind the first items
later_values : (P : Expr → Value → Type 0) (before : List SourceColumn) (items : Items) (row : List Value) → EachItem P (map item_of before ++ items) row → EachItem P items (drop (length before) row)
later_values P [] items row h = h
later_values P (column ∷ before) items [] h = absurd h
later_values P (column ∷ before) items (v ∷ row) h = later_values P before items row h.1

-- what follows for each item of another column
each_turned : {A : Type 0} (P Q : Expr → Value → Type 0) (f g : A → SourceColumn) (xs : List A) (row : List Value) → ((x : A) → Has xs x → (v : Value) → P (column_of (f x)) v → Q (column_of (g x)) v)
    → EachItem P (map item_of (map f xs)) row → EachItem Q (map item_of (map g xs)) row
each_turned P Q f g [] [] turned h = tt
each_turned P Q f g [] (v ∷ row) turned h = absurd h
each_turned P Q f g (x ∷ xs) [] turned h = absurd h
each_turned P Q f g (x ∷ xs) (v ∷ row) turned h = (turned x (inl refl) v h.0, each_turned P Q f g xs row (λ y there. turned y (inr there)) h.1)

-- ---- one column under two selects

-- the column of a table that stands at a place
column_found : (schema : Catalog) (sources : List Origin) (place : ℕ) (table : TableId) (column : ColumnNo) → IsAt sources place table
    → column_in schema (map (λ (origin : Origin). origin.table) sources) place column ≡ slice_get (spec_of schema table).columns column.0
column_found schema sources place table column at = ap (λ (found : Option TableId). option_and_then (λ t. slice_get (spec_of schema t).columns column.0) found) at

abbrev judged_where : Option ColumnSpec → Judged
judged_where found = Ok (kind_where found)

kind_alike : (schema : Catalog) (one other : Scope) (p q : ℕ) (column : ColumnNo) → column_in schema one p column ≡ column_in schema other q column
    → expression_kind schema (expr.Column p column) one ≡ expression_kind schema (expr.Column q column) other
kind_alike schema one other p q column same = judged-Column schema one p column ∙ ap judged_where same ∙ sym (judged-Column schema other q column)

never_by : (schema : Catalog) (s : Select) (place : ℕ) (column : ColumnNo) → is_never_null schema s (expr.Column place column) ≡ (is_inner s place && takes_no_null (column_in schema (scope_of s) place column))
unfolding is_never_null
never_by schema s place column = fold-Column Bool (is_required_level schema s) place column

-- a column that takes no NULL takes none under the other select, where its source is no left one
never_alike : (schema : Catalog) (one other : Select) (p q : ℕ) (column : ColumnNo) → column_in schema (scope_of one) p column ≡ column_in schema (scope_of other) q column → is_inner other q ≡ true
    → is_never_null schema one (expr.Column p column) ≡ true → is_never_null schema other (expr.Column q column) ≡ true
never_alike schema one other p q column same inner never =
    let takes : takes_no_null (column_in schema (scope_of one) p column) ≡ true = and_right (is_inner one p) (takes_no_null (column_in schema (scope_of one) p column)) (sym (never_by schema one p column) ∙ never) in
    never_by schema other q column ∙ and_both (is_inner other q) (takes_no_null (column_in schema (scope_of other) q column)) inner (ap takes_no_null (sym same) ∙ takes)

-- ---- joins that are inner ones

inner_behind : (more : List Further) (place : ℕ) (table : TableId) → slice_get (map (λ (origin : Origin). origin.table) (sources_behind more)) place ≡ Some table → is_inner_join (slice_get (map inner_joined more) place) ≡ true
inner_behind [] place table h = absurd cc
inner_behind (further ∷ more) zero table h = refl
inner_behind (further ∷ more) (suc place) table h = inner_behind more place table h

-- ---- the table of an attribute

table_inside : (mapped : Mapped) (class : ClassId) (attribute : Attribute) → Has (attributes_of mapped class) attribute → Has (tables_of mapped class) attribute.table
table_inside mapped class attribute there =
    let line : List ClassId = line_of mapped.classes class.0 in
    let found = from_flat (table_attributes mapped.schema.tables mapped.classes line) (enumerate_from 0 (tables_of mapped class)) attribute there in
    let numbered = from_numbered 0 (tables_of mapped class) found.0 found.1 in
    let same : found.0.1 ≡ attribute.table = ap (λ (one : Attribute). one.table) (of_column mapped line found.0 attribute found.2).is in
    subst (Has (tables_of mapped class)) same (has_at (tables_of mapped class) numbered.0 found.0.1 numbered.2)

-- ---- rows with the target behind a key

module _ (mapped : Mapped) (relation : Relation) (far : TableKey) (conditions : List Expr) (has : HasHierarchies mapped) (related : IsRelated mapped relation) (is : relation.far ≡ Some far) where
  abbrev target : ClassId
  target = relation.target

  abbrev wide : Select
  wide = pairs_select mapped relation far conditions

  -- the select of the rows of the target alone
  abbrev narrow : Select
  narrow = class_rows mapped target []

  abbrev own : List TableId
  own = tables_of mapped target

  abbrev wide_column : Attribute → SourceColumn
  wide_column attribute = attribute_column mapped target (led_from mapped relation 1) attribute

  abbrev narrow_column : Attribute → SourceColumn
  narrow_column attribute = attribute_column mapped target (from_root 0) attribute

  keys : IsSecondary mapped relation far
  keys = secondary_of mapped relation far related is

  known : HasTables mapped target
  known = class_tables mapped target has related.target

  -- the table of an attribute stands under both
  narrow_there : (attribute : Attribute) → Has (attributes_of mapped target) attribute → IsAt (sources_of narrow) (narrow_column attribute).source attribute.table
  narrow_there attribute there =
      subst (λ (under : List Origin). IsAt under (narrow_column attribute).source attribute.table)
      (sym (sources_are mapped target has related.target known (attribute_columns mapped target (from_root 0)) ([] ++ is_of_branch mapped target (from_root 0))))
      (root_placed mapped target has related.target known (rank_of mapped target attribute.table) attribute.table (rank_finds own attribute.table (table_inside mapped target attribute there)))

  wide_there : (attribute : Attribute) → Has (attributes_of mapped target) attribute → IsAt (origins mapped relation far has related is keys) (wide_column attribute).source attribute.table
  wide_there attribute there = stands mapped relation far has related is keys (rank_of mapped target attribute.table) attribute.table (rank_finds own attribute.table (table_inside mapped target attribute there))

  wide_under : (attribute : Attribute) → Has (attributes_of mapped target) attribute → IsAt (sources_of wide) (wide_column attribute).source attribute.table
  wide_under attribute there =
      subst (λ (under : List Origin). IsAt under (wide_column attribute).source attribute.table) (sym (origins_are mapped relation far has related is keys conditions)) (wide_there attribute there)

  same_column : (attribute : Attribute) → Has (attributes_of mapped target) attribute
      → column_in mapped.schema (scope_of wide) (wide_column attribute).source attribute.column ≡ column_in mapped.schema (scope_of narrow) (narrow_column attribute).source attribute.column
  same_column attribute there =
      column_found mapped.schema (sources_of wide) (wide_column attribute).source attribute.table attribute.column (wide_under attribute there)
      ∙ sym (column_found mapped.schema (sources_of narrow) (narrow_column attribute).source attribute.table attribute.column (narrow_there attribute there))

  inner_at : (place : ℕ) (table : TableId) → IsAt (origins mapped relation far has related is keys) place table → is_inner wide place ≡ true
  inner_at zero table h = refl
  inner_at (suc place) table h = inner_behind (member_sources mapped relation far) place table h

  -- ---- its values

  kind_turned : (attribute : Attribute) → Has (attributes_of mapped target) attribute → (v : Value) → IsOfItsKind mapped.schema (scope_of wide) (column_of (wide_column attribute)) v
      → IsOfItsKind mapped.schema (scope_of narrow) (column_of (narrow_column attribute)) v
  kind_turned attribute there v h = λ kind typed.
      h kind (kind_alike mapped.schema (scope_of wide) (scope_of narrow) (wide_column attribute).source (narrow_column attribute).source attribute.column (same_column attribute there) ∙ typed)

  given_turned : (attribute : Attribute) → Has (attributes_of mapped target) attribute → (v : Value) → IsGiven mapped.schema wide (column_of (wide_column attribute)) v
      → IsGiven mapped.schema narrow (column_of (narrow_column attribute)) v
  given_turned attribute there v h = λ never.
      h (never_alike mapped.schema narrow wide (narrow_column attribute).source (wide_column attribute).source attribute.column (sym (same_column attribute there))
      (inner_at (wide_column attribute).source attribute.table (wide_there attribute there)) never)

  all_items : wide.items ≡ map item_of (pair_columns mapped relation 0) ++ map item_of (attribute_columns mapped target (led_from mapped relation 1))
  all_items = map-append item_of (pair_columns mapped relation 0) (attribute_columns mapped target (led_from mapped relation 1))

  abbrev values_behind : List Value → List Value
  values_behind row = drop (length (pair_columns mapped relation 0)) row

  target_values : (P : Expr → Value → Type 0) (row : List Value) → EachItem P wide.items row → EachItem P (map item_of (attribute_columns mapped target (led_from mapped relation 1))) (values_behind row)
  target_values P row h =
      later_values P (pair_columns mapped relation 0) (map item_of (attribute_columns mapped target (led_from mapped relation 1))) row
      (subst (λ (items : Items). EachItem P items row) all_items h)

  behind_key : (row : List Value) → EachItem (IsOfItsKind mapped.schema (scope_of wide)) wide.items row → EachItem (IsGiven mapped.schema wide) wide.items row → IsRowOf mapped target (values_behind row)
  behind_key row kinds given =
      let attributes : List Attribute = attributes_of mapped target in
      let of : EachItem (IsOfItsKind mapped.schema (scope_of narrow)) narrow.items (values_behind row) =
      each_turned (IsOfItsKind mapped.schema (scope_of wide)) (IsOfItsKind mapped.schema (scope_of narrow)) wide_column narrow_column attributes (values_behind row) kind_turned
      (target_values (IsOfItsKind mapped.schema (scope_of wide)) row kinds) in
      let all_given : EachItem (IsGiven mapped.schema narrow) narrow.items (values_behind row) =
      each_turned (IsGiven mapped.schema wide) (IsGiven mapped.schema narrow) wide_column narrow_column attributes (values_behind row) given_turned (target_values (IsGiven mapped.schema wide) row given) in
      (are_read mapped target narrow (values_behind row ∷ []) has related.target (reads_rows mapped target [] has related.target) (of, tt) (all_given, tt)).0

  width_is : length (pair_columns mapped relation 0) ≡ owner_width mapped relation
  width_is = length-map (foreign_numbers mapped relation.foreign) (column_at 0) ∙ ap (owner_width_by mapped relation) (sym is)

  pub pairs_are_members : (rows : List (List Value)) → AreOfItems mapped.schema wide rows → AreGiven mapped.schema wide rows → AllByRecursion (IsMemberRow mapped relation) rows
  pairs_are_members [] kinds given = tt
  pairs_are_members (row ∷ rows) kinds given =
      (subst (λ (n : ℕ). IsRowOf mapped target (drop n row)) width_is (behind_key row kinds.0 given.0), pairs_are_members rows kinds.1 given.1)

-- ---- with a secondary table and without

rows_by : (mapped : Mapped) (relation : Relation) (held : List (List Value)) (rows : List (List Value)) (end : Option TableKey) → relation.far ≡ end → HasHierarchies mapped → IsRelated mapped relation
    → AreOfItems mapped.schema (batch_by mapped relation held end) rows → AreGiven mapped.schema (batch_by mapped relation held end) rows → AllByRecursion (IsMemberRow mapped relation) rows
rows_by mapped relation held rows None is has related kinds given =
    subst (λ (end : Option TableKey). AllByRecursion (λ (row : List Value). IsRowOf mapped relation.target (drop (owner_width_by mapped relation end) row)) rows) (sym is)
    (are_rows mapped relation.target (has_one_of (owner_columns mapped relation) held) rows has related.target kinds given)
rows_by mapped relation held rows (Some far) is has related kinds given =
    pairs_are_members mapped relation far (has_one_of (pair_columns mapped relation 0) held) has related is rows kinds given

-- what is answered to the select of a batch
pub batch_rows_are_members : (mapped : Mapped) (relation : Relation) (held : List (List Value)) (rows : List (List Value)) → HasHierarchies mapped → IsRelated mapped relation
    → AreOfItems mapped.schema (batch_select mapped relation held) rows → AreGiven mapped.schema (batch_select mapped relation held) rows → AllByRecursion (IsMemberRow mapped relation) rows
unfolding batch_select
batch_rows_are_members mapped relation held rows has related kinds given = rows_by mapped relation held rows relation.far refl has related kinds given
