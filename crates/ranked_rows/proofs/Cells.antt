-- What is answered to the select of some attributes of an object under its key: what stands under the key.
use Rattle.std.proofs.Common.{◌≡◌, ℕ, ◌≤◌, ◌==◌, Bool, true, ◌&&◌, List, [], ◌∷◌, length, map, Option, None, Some, Ok, Err, IfOk, refl, sym, ap, subst, ◌∙◌, append-nil, arith}
use Rattle.std.specs.Prelude.{slice_get}
use Rattle.std.specs.List.{All, AllByRecursion, position}
use Rattle.std.specs.Option.{option_and_then, option_map}
use Rattle.std.proofs.lemmas.Bool.{and_parts, eqb-true}
use Rattle.std.proofs.lemmas.List.{length-map}
use Rattle.std.proofs.lemmas.List.Elements.{recursion_from_All}
use Rattle.std.proofs.lemmas.Option.{slice_get-get_or, slice_get-map}
use Rattle.base_core.specs.declared.ids.AttrNo.{AttrNo}
use Rattle.base_core.specs.declared.ids.ClassId.{ClassId}
use Rattle.base_core.specs.declared.ids.TableId.{TableId}
use Rattle.base_core.specs.declared.value.Value.{Value}
use Rattle.schema_core.specs.Catalog.{key_columns}
use Rattle.schema_core.specs.Tables as held
use Rattle.schema_core.specs.WellFormed.{is_key}
use Rattle.expr_types.specs.declared.expr.Expr.{Expr}
use Rattle.expr_types.specs.declared.select.Select.{Select}
use Rattle.sql_semantics.specs.Checked.{Checked}
use Rattle.sql_semantics.specs.Created.{bare}
use Rattle.sql_semantics.specs.Eval.{Row, Tables, item_or_null}
use Rattle.sql_semantics.specs.Plain.{IsPlainSelect}
use Rattle.sql_semantics.specs.Rows.{answer}
use Rattle.class_types.specs.declared.mapped.Attribute.{Attribute}
use Rattle.class_mapping.specs.Mapped.{IsAttribute, IsClass, Mapped, attribute_of, attributes_of, no_attribute, root_spec, root_table}
use Rattle.class_mapping.proofs.Having.{Has, all_from, has_at}
use Rattle.mapping_laws.specs.Hierarchies.{HasHierarchies, HasTables, kinds_of}
use Rattle.mapping_laws.proofs.KeyKinds.{keys_alike}
use Rattle.mapping_laws.proofs.Ties.{class_tables}
use Rattle.object_arena.specs.Fit.{key_fits}
use Rattle.select_rows.proofs.ItemKinds.{rows_of_kinds}
use Rattle.load_columns.specs.declared.placing.SourceColumn.{SourceColumn}
use Rattle.load_columns.specs.Conditions.{has_values}
use Rattle.load_columns.specs.Placing.{from_root, rank_of, root_key}
use Rattle.load_selects.specs.declared.sources.Further.{Further}
use Rattle.load_selects.specs.Selects.{cell_column, cells_select, select_of}
use Rattle.load_calls.proofs.RefreshLemmas.{cells_fit}
use Rattle.collection_selects.specs.Rows.{AreCellsOf}
use Rattle.collection_selects.proofs.ClassLemmas.{cells_are_plain, rank_is}
use Rattle.collection_selects.proofs.Keys.{key_fits as root_key_fits}
use Rattle.collection_selects.proofs.Rows.{are_cells}
use Rattle.collection_selects.proofs.Standing.{is_of}
use Rattle.table_laws.specs.Legality.{AreSound}
use Rattle.loading_laws.specs.Answers.Answers.{value_at}
use Rattle.loading_laws.specs.Answers.Equal.{equals_key}
use Rattle.loading_laws.proofs.Answers.Conditions.{AreTests, key_tests, no_tests}
use Rattle.loading_laws.proofs.Members.Choices.{Choice, HasInside, IsChoice, IsLocal, Tie, chosen, chosen_row, every_has, inside_of, joined_where, pointwise_long}
use Rattle.loading_laws.proofs.Members.Owned.{lead_key, others_tied, own_ranked, own_ties, rank_long, root_there}
use Rattle.loading_laws.proofs.Members.Paired.{values_local}
use Rattle.loading_laws.proofs.Members.Ranks.{AreRanked, equal_both, key_in}
use Rattle.load_steps.specs.Based.{AreCellsOfTables, AreReadOfTables, held_under}
use Rattle.ranked_rows.proofs.Choices.{held_rows, placed, under_key}

module _ (mapped : Mapped) (tables : held.Tables) (sound : AreSound mapped.schema tables) (has : HasHierarchies mapped) (class : ClassId) (less : IsClass mapped class) (attrs : List AttrNo) (key : List Value)
    (inside : All (IsAttribute mapped class) attrs) (fits : key_fits mapped class key ≡ true) where
  abbrev root : TableId
  root = root_table mapped class

  abbrev ties : List Tie
  ties = own_ties mapped class

  abbrev columns : List SourceColumn
  columns = map (cell_column mapped class) attrs

  abbrev of_key : List SourceColumn
  of_key = root_key mapped class (from_root 0)

  abbrev conditions : List Expr
  conditions = has_values of_key key

  known : HasTables mapped class
  known = class_tables mapped class has less

  is_root_key : is_key (root_spec mapped class) key ≡ true
  is_root_key = sym (keys_alike mapped class key has known) ∙ fits

  plain : IsPlainSelect mapped.schema (cells_select mapped class attrs key)
  plain = cells_are_plain mapped class attrs key has less inside is_root_key

  abbrev tied : Select
  tied = select_of root (map joined_where ties) columns conditions

  select_is : cells_select mapped class attrs key ≡ tied
  unfolding cells_select
  select_is = ap (λ (further : List Further). select_of root further columns conditions) (others_tied mapped class)

  within : HasInside mapped.schema root ties columns conditions
  within = inside_of mapped.schema root ties columns conditions (subst (IsPlainSelect mapped.schema) select_is plain)

  abbrev scope : List TableId
  scope = root ∷ map (λ (tie : Tie). tie.table) ties

  abbrev test : (SourceColumn → Value) → Bool
  test v = equals_key (map v of_key) key && true

  local : IsLocal mapped.schema scope conditions test
  local = record {
    tests = λ f. subst (λ (es : List Expr). AreTests f es (λ row. test (value_at f row))) (append-nil conditions) (key_tests f of_key key [] (λ row. true) (no_tests f));
    local = λ u v same. ap (λ (b : Bool). b && true) (values_local mapped scope u v of_key key same within.conditions_in);
  }

  -- a row of each table of the class under the key
  choice_ranked : (rows : Choice) → IsChoice (bare tables) root ties test rows → AreRanked mapped class (bare tables) rows key
  choice_ranked rows one =
      let holds : equals_key (map (chosen rows) of_key) key ≡ true = (and_parts (equals_key (map (chosen rows) of_key) key) true one.passes).0 in
      let here = root_there mapped class known in
      let is : map (chosen rows) of_key ≡ key_in mapped class rows 0 = lead_key mapped class 0 root here rows rows 0 refl in
      let long : length (key_in mapped class rows 0) ≡ length key =
      rank_long mapped class known rows 0 root here ∙ sym (pointwise_long is_of (kinds_of (key_columns (root_spec mapped class))) key (root_key_fits mapped root key is_root_key)) in
      own_ranked mapped class known (bare tables) rows one.head one.meets key (equal_both (key_in mapped class rows 0) key long (ap (λ (k : List Value). equals_key k key) (sym is) ∙ holds)).same

  each_inside : AllByRecursion (IsAttribute mapped class) attrs
  each_inside = recursion_from_All (IsAttribute mapped class) attrs inside

  same_attr : (one other : AttrNo) → one.0 ≡ other.0 → one ≡ other
  same_attr one other e = ap (λ (n : ℕ). let attr : AttrNo = record { 0 = n } in attr) e

  -- what such rows have in the attributes' columns
  ranked_cells : (rows : Choice) → AreRanked mapped class (bare tables) rows key → AreCellsOfTables mapped tables class attrs key (map (chosen rows) columns)
  unfolding cell_column
  ranked_cells rows ranked attr value e = by (position (λ (one : AttrNo). one.0 == attr.0) attrs) refl e
    where
      by : (found : Option ℕ) → position (λ (one : AttrNo). one.0 == attr.0) attrs ≡ found → option_and_then (slice_get (map (chosen rows) columns)) found ≡ Some value → held_under tables (attribute_of mapped class attr) key ≡ Some value
      by None is h = absurd cc
      by (Some i) is h =
          let at = placed (λ (one : AttrNo). one.0 == attr.0) attrs i attr is in
          let same : at.0 ≡ attr = same_attr at.0 attr (eqb-true at.0.0 attr.0 at.2) in
          let here : slice_get attrs i ≡ Some attr = at.1 ∙ ap (λ (one : AttrNo). Some one) same in
          let attribute : Attribute = attribute_of mapped class attr in
          let rank : ℕ = rank_of mapped class attribute.table in
          let there : Has (attributes_of mapped class) attribute =
          has_at (attributes_of mapped class) attr.0 attribute (slice_get-get_or (attributes_of mapped class) attr.0 no_attribute (every_has (IsAttribute mapped class) attrs attr each_inside (has_at attrs i attr here))) in
          let shown : slice_get (map (chosen rows) columns) i ≡ Some (item_or_null (slice_get (rows rank) attribute.column.0)) =
          slice_get-map (chosen rows) columns i ∙ ap (option_map (chosen rows)) (slice_get-map (cell_column mapped class) attrs i ∙ ap (option_map (cell_column mapped class)) here)
          ∙ ap (λ (k : ℕ). Some (item_or_null (slice_get (rows k) attribute.column.0))) (rank_is rank) in
          under_key mapped tables sound class rows key ranked attribute there ∙ sym shown ∙ h

  cells_ranked : (rows : List Row) → answer mapped.schema (bare tables) tied ≡ Ok rows → (row : Row) → Has rows row → AreCellsOfTables mapped tables class attrs key row
  cells_ranked rows is row there =
      let one = chosen_row mapped.schema (bare tables) root ties columns conditions test (held_rows mapped tables sound) within.ties_in within.items_in local rows is row there in
      subst (AreCellsOfTables mapped tables class attrs key) (sym one.2) (ranked_cells one.0 (choice_ranked one.0 one.1))

  -- they are as wide as what was asked for
  pub cells_wide : IfOk (answer mapped.schema (bare tables) (cells_select mapped class attrs key)) (AllByRecursion (λ (row : Row). length attrs ≤ length row))
  cells_wide = by (answer mapped.schema (bare tables) (cells_select mapped class attrs key)) refl
    where
      wide : (rows : List Row) → answer mapped.schema (bare tables) tied ≡ Ok rows → (row : Row) → Has rows row → length attrs ≤ length row
      wide rows is row there =
          let one = chosen_row mapped.schema (bare tables) root ties columns conditions test (held_rows mapped tables sound) within.ties_in within.items_in local rows is row there in
          let long : length row ≡ length attrs = ap (λ (values : Row). length values) one.2 ∙ length-map columns (chosen one.0) ∙ length-map attrs (cell_column mapped class) in
          omega (arith, long)

      by : (r : Checked (List Row)) → answer mapped.schema (bare tables) (cells_select mapped class attrs key) ≡ r → IfOk r (AllByRecursion (λ (row : Row). length attrs ≤ length row))
      by (Ok rows) is = all_from (λ (row : Row). length attrs ≤ length row) rows (wide rows (ap (answer mapped.schema (bare tables)) (sym select_is) ∙ is))
      by (Err e) is = tt

  cells_of_kinds : (rows : List Row) → answer mapped.schema (bare tables) (cells_select mapped class attrs key) ≡ Ok rows → AllByRecursion (AreCellsOf mapped class attrs) rows
  cells_of_kinds rows is =
      are_cells mapped class attrs key rows has less each_inside (rows_of_kinds mapped.schema (bare tables) (cells_select mapped class attrs key) (Ok rows) is plain (held_rows mapped tables sound))

  pub cells_answered : IfOk (answer mapped.schema (bare tables) (cells_select mapped class attrs key)) (AllByRecursion (AreReadOfTables mapped tables class attrs key))
  cells_answered = by (answer mapped.schema (bare tables) (cells_select mapped class attrs key)) refl
    where
      by : (r : Checked (List Row)) → answer mapped.schema (bare tables) (cells_select mapped class attrs key) ≡ r → IfOk r (AllByRecursion (AreReadOfTables mapped tables class attrs key))
      by (Ok rows) is =
          let kinds = cells_of_kinds rows is in
          let same : answer mapped.schema (bare tables) tied ≡ Ok rows = ap (answer mapped.schema (bare tables)) (sym select_is) ∙ is in
          all_from (AreReadOfTables mapped tables class attrs key) rows (λ row there.
          (λ count. cells_fit mapped class count attrs row (every_has (AreCellsOf mapped class attrs) rows row kinds there), cells_ranked rows same row there))
      by (Err e) is = tt
