-- What is answered to selects that begin with the tables of a class and read its attributes: rows of the class.
use Rattle.std.proofs.Common.{◌≡◌, ℕ, false, List, [], ◌∷◌, ◌++◌, length, map, Option, None, Some, IfOk, is_some, refl, sym, ap, ◌∙◌, append-nil}
use Rattle.std.specs.List.{AllByRecursion, list_any}
use Rattle.std.proofs.lemmas.List.{map-append}
use Rattle.base_core.specs.declared.ids.ClassId.{ClassId}
use Rattle.base_core.specs.declared.ids.TableId.{TableId}
use Rattle.base_core.specs.declared.value.Value.{Value}
use Rattle.schema_core.specs.Catalog.{Catalog}
use Rattle.schema_core.specs.Tables as held
use Rattle.expr_types.specs.declared.expr.Expr.{Expr}
use Rattle.expr_types.specs.declared.expr.Origin.{Origin}
use Rattle.expr_types.specs.declared.select.ObjectQuery.{ObjectQuery}
use Rattle.expr_types.specs.declared.select.Select.{Select}
use Rattle.expr_types.specs.Level.{has_aggregate}
use Rattle.sql_semantics.specs.Created.{bare}
use Rattle.sql_semantics.specs.Eval.{Row, Tables}
use Rattle.sql_semantics.specs.Plain.{is_grouped, sources_of}
use Rattle.sql_semantics.specs.Rows.{answer}
use Rattle.class_types.specs.declared.mapped.Relation.{Relation}
use Rattle.class_sides.specs.Keys.{TableKey}
use Rattle.class_mapping.specs.Mapped.{IsClass, Mapped, root_table, tables_of}
use Rattle.mapping_laws.specs.Hierarchies.{HasHierarchies}
use Rattle.load_columns.specs.declared.placing.SourceColumn.{SourceColumn}
use Rattle.load_columns.specs.Conditions.{has_one_of, has_values}
use Rattle.load_columns.specs.Placing.{attribute_columns, from_root, root_key}
use Rattle.load_selects.specs.declared.sources.Further.{Further}
use Rattle.load_selects.specs.Branches.{is_of_branch}
use Rattle.load_selects.specs.Selects.{class_rows, inner_joined, item_of, key_select, select_of, targets_select}
use Rattle.load_selects.specs.Sources.{other_tables}
use Rattle.collection_selects.proofs.Placed.{attributes_there}
use Rattle.collection_selects.proofs.Plain.{IsColumn}
use Rattle.collection_selects.specs.Collections.{members_by, members_select, owner_columns, pair_columns, pair_members, secondary_behind}
use Rattle.known_queries.specs.Known.{BeginsWith}
use Rattle.loading_laws.specs.Wide.Answers.{AreOfSources}
use Rattle.loading_laws.specs.Wide.Parts.{cells}
use Rattle.loading_laws.proofs.Members.Choices.{chosen}
use Rattle.loading_laws.proofs.TiedRows.Behind.{cells_chosen, row_at}
use Rattle.loading_laws.proofs.TiedRows.Joined.{owner_there, stands_first}
use Rattle.loading_laws.proofs.Wide.Conditions.{IsColumnIn}
use Rattle.loading_laws.proofs.Wide.Main.{items_lack}
use Rattle.table_laws.specs.Legality.{AreSound}
use Rattle.load_steps.specs.Based.{IsRowOfTables}
use Rattle.known_queries.specs.Known.{ReadsClass}
use Rattle.ranked_rows.proofs.Answered.{answered_have}
use Rattle.ranked_rows.proofs.Choices.{all_legal, held_rows, is_table_row}

-- columns that are there are in scope
pub columns_inside : (schema : Catalog) (sources : List Origin) (columns : List SourceColumn) → AllByRecursion (IsColumn schema sources) columns → AllByRecursion (IsColumnIn schema (map (λ (origin : Origin). origin.table) sources)) columns
columns_inside schema sources [] h = tt
columns_inside schema sources (column ∷ columns) h = (ap is_some h.0.1.is, columns_inside schema sources columns h.1)

-- a select of columns has no groups
pub is_single : (first : TableId) (further : List Further) (columns : List SourceColumn) (conditions : List Expr) → is_grouped (select_of first further columns conditions) ≡ false
is_single first further columns conditions =
    ap (list_any has_aggregate) (append-nil (map (λ (item : Expr × Option (List ℕ)). item.0) (map item_of columns))) ∙ items_lack columns

module _ (mapped : Mapped) (tables : held.Tables) (sound : AreSound mapped.schema tables) (has : HasHierarchies mapped) where
  abbrev AreAnswered : ClassId → Select → Type 0
  AreAnswered class s = IfOk (answer mapped.schema (bare tables) s) (AllByRecursion (IsRowOfTables mapped tables class))

  module _ (class : ClassId) (less : IsClass mapped class) where
    abbrev items : List SourceColumn
    items = attribute_columns mapped class (from_root 0)

    -- rows of the sources of a select that begins with the class's tables have a row of the class
    pub sourced_row : (s : Select) → BeginsWith mapped class s → (rows : List Row) → AreOfSources mapped.schema (bare tables) s rows → IsRowOfTables mapped tables class (cells items rows)
    sourced_row s begins rows sourced =
        let owner = owner_there mapped class (bare tables) s has less (held_rows mapped tables sound) (all_legal mapped tables sound) begins rows sourced in
        is_table_row mapped tables sound has class less (cells items rows)
        (record { rows = row_at rows; rest = []; ranked = owner.ranked; is = cells_chosen rows items ∙ sym (append-nil (map (chosen (row_at rows)) items)) })

    -- what is answered to it
    pub rows_answered : (s : Select) → BeginsWith mapped class s → s.items ≡ map item_of items → is_grouped s ≡ false → AreAnswered class s
    rows_answered s begins reads single =
        let first = stands_first mapped class (bare tables) s has less (held_rows mapped tables sound) (all_legal mapped tables sound) begins in
        answered_have mapped.schema (bare tables) (held_rows mapped tables sound) s items reads single
        (columns_inside mapped.schema (sources_of s) items (attributes_there mapped class has less first.known (from_root 0) (sources_of s) first.stands))
        (IsRowOfTables mapped tables class) (sourced_row s begins)

    -- where all conditions hold
    pub class_answered : (conditions : List Expr) → AreAnswered class (class_rows mapped class conditions)
    class_answered conditions =
        rows_answered (class_rows mapped class conditions) (record { more = []; first = refl; joins = sym (append-nil (map inner_joined (other_tables mapped class (from_root 0)))) }) refl
        (is_single (root_table mapped class) (other_tables mapped class (from_root 0)) items (conditions ++ is_of_branch mapped class (from_root 0)))

    pub keyed : (key : List Value) → AreAnswered class (key_select mapped class key)
    unfolding key_select
    keyed key = class_answered (has_values (root_key mapped class (from_root 0)) key)

    pub targets : (keys : List (List Value)) → AreAnswered class (targets_select mapped class keys)
    unfolding targets_select
    targets keys = class_answered (has_one_of (root_key mapped class (from_root 0)) keys)

  -- ---- members of one owner

  module _ (relation : Relation) (less : IsClass mapped relation.target) where
    paired : (far : TableKey) (conditions : List Expr) → AreAnswered relation.target (pair_members mapped relation far conditions)
    paired far conditions =
        let class : ClassId = relation.target in
        let others : List Further = other_tables mapped class (from_root 0) in
        let second : Further = secondary_behind mapped relation far (length (tables_of mapped class)) in
        rows_answered class less (pair_members mapped relation far conditions) (record { more = inner_joined second ∷ []; first = refl; joins = map-append inner_joined others (second ∷ []) }) refl
        (is_single (root_table mapped class) (others ++ second ∷ []) (items class less) (conditions ++ is_of_branch mapped class (from_root 0)))

    members_of : (key : List Value) (far : Option TableKey) → AreAnswered relation.target (members_by mapped relation key far)
    members_of key None = class_answered relation.target less (has_values (owner_columns mapped relation) key)
    members_of key (Some far) = paired far (has_values (pair_columns mapped relation (length (tables_of mapped relation.target))) key)

    pub members : (key : List Value) → AreAnswered relation.target (members_select mapped relation key)
    unfolding members_select
    members key = members_of key relation.far

-- ---- a query's own select

pub own_answered : (mapped : Mapped) (tables : held.Tables) (query : ObjectQuery) → HasHierarchies mapped → AreSound mapped.schema tables → ReadsClass mapped query
    → IfOk (answer mapped.schema (bare tables) query.select) (AllByRecursion (IsRowOfTables mapped tables query.class))
own_answered mapped tables query has sound reads = rows_answered mapped tables sound has query.class reads.class query.select reads.begins reads.reads reads.single
