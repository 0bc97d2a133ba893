-- The rows of a query's main select.
use Rattle.std.proofs.Common.{◌≡◌, ℕ, zero, suc, ◌+◌, ◌<◌, Bool, ◌&&◌, List, [], ◌∷◌, ◌++◌, map, fold, length, drop, take, Option, Some, Ok, refl, sym, ap, subst, ◌∙◌, arith, append_assoc, length-append}
use Rattle.std.specs.Prelude.{slice_get}
use Rattle.std.specs.Option.{option_map}
use Rattle.std.specs.List.{All, AllByRecursion}
use Rattle.std.proofs.lemmas.List.{length-map, map-append}
use Rattle.std.proofs.lemmas.List.Elements.{recursion_from_All}
use Rattle.std.proofs.lemmas.Option.{same_Some, slice_get-map, slice_get_within}
use Rattle.base_core.proofs.Lists.{get_after, get_before}
use Rattle.base_core.specs.declared.ids.ClassId.{ClassId}
use Rattle.base_core.specs.declared.ids.ColumnNo.{ColumnNo}
use Rattle.base_core.specs.declared.ids.RelNo.{RelNo}
use Rattle.base_core.specs.declared.value.Value.{Value}
use Rattle.schema_core.specs.Catalog.{Catalog}
use Rattle.expr_types.specs.declared.expr.Expr.{Expr}
use Rattle.expr_types.specs.declared.expr.Expr.TheVariants as expr
use Rattle.expr_types.specs.declared.expr.Origin.{Origin}
use Rattle.expr_types.specs.declared.select.ObjectQuery.{ObjectQuery}
use Rattle.expr_types.specs.declared.select.Select.{Select}
use Rattle.expr_types.proofs.Folds.{fold-Column}
use Rattle.sql_semantics.specs.Kinds.{column_in, expression_kind}
use Rattle.sql_semantics.specs.Plain.{sources_of}
use Rattle.sql_semantics.specs.Shapes.{AreGiven, AreOfItems, EachItem, IsGiven, IsOfItsKind, is_inner, is_never_null, is_required_level, scope_of, takes_no_null}
use Rattle.class_types.specs.declared.mapped.Attribute.{Attribute}
use Rattle.class_types.specs.declared.mapped.Relation.{Relation}
use Rattle.class_mapping.specs.Mapped.{IsClass, Mapped, attributes_of, relations_of, tables_of}
use Rattle.class_mapping.specs.Related.{AreRelated, IsRelated}
use Rattle.class_mapping.proofs.Having.{has_at}
use Rattle.object_arena.specs.Fit.{no_relation, relation_of, value_fits}
use Rattle.mapping_laws.specs.Hierarchies.{HasHierarchies}
use Rattle.mapping_laws.proofs.Ties.{class_tables}
use Rattle.load_columns.specs.declared.placing.Placement.{Placement}
use Rattle.load_columns.specs.declared.placing.SourceColumn.{SourceColumn}
use Rattle.load_columns.specs.Placing.{attribute_column, attribute_columns, from_root, place_at_rank}
use Rattle.load_columns.specs.Conditions.{column_of}
use Rattle.load_selects.specs.Selects.{item_of, origin_of}
use Rattle.load_rows.specs.Reading.{AreOfKinds, IsRowOf}
use Rattle.collection_selects.proofs.Keys.{IsAt}
use Rattle.collection_selects.proofs.Placed.{StandsAt, at_more, attribute_typed}
use Rattle.collection_selects.proofs.Standing.{column_stands}
use Rattle.collection_selects.proofs.Rows.{ReadsClass, are_read, read_fits}
use Rattle.main_selects.specs.MainSelect.{further_keys, main_select, option_columns, with_joined, with_shifted}
use Rattle.joined_rows.specs.Parts.{option_width, own_values, part_at, parts_from, parts_of, values_from, width_of}
use Rattle.joined_rows.specs.Taking.{IsJoinedRow, IsRowAt}
use Rattle.joined_rows.proofs.RowLemmas.{is_row_at}
use Rattle.joined_rows.proofs.Widening.{IsOption, Items, Widens, columns_alike, count_sources, option_of, options_widen, placed_in, widens_itself, widens_then}
use Rattle.joined_rows.proofs.Targets.{target_stands}

-- ---- items and values

-- what is said of each item's value is said of that at a place
each_at : (P : Expr → Value → Type 0) (items : Items) (row : List Value) (i : ℕ) (item : Expr × Option (List ℕ)) → EachItem P items row → slice_get items i ≡ Some item → (v : Value) × (slice_get row i ≡ Some v) × P item.0 v
each_at P [] row i item h e = absurd cc
each_at P (first ∷ items) [] i item h e = absurd h
each_at P (first ∷ items) (v ∷ row) zero item h e = (v, refl, subst (λ (one : Expr × Option (List ℕ)). P one.0 v) (same_Some first item e) h.0)
each_at P (first ∷ items) (v ∷ row) (suc i) item h e = each_at P items row i item h.1 e

-- what is said of the first items' values is said of the first values
first_values : {A : Type 0} (P Q : Expr → Value → Type 0) (f : A → SourceColumn) (xs : List A) (more : Items) (row : List Value) → ((x : A) (v : Value) → P (column_of (f x)) v → Q (column_of (f x)) v)
    → EachItem P (map item_of (map f xs) ++ more) row → EachItem Q (map item_of (map f xs)) (take (length xs) row)
first_values P Q f [] more [] turned h = tt
first_values P Q f [] more (v ∷ row) turned h = tt
first_values P Q f (x ∷ xs) more [] turned h = absurd h
first_values P Q f (x ∷ xs) more (v ∷ row) turned h = (turned x v h.0, first_values P Q f xs more row turned h.1)

-- a value behind others
later_at : (row : List Value) (n i : ℕ) → slice_get (drop n row) i ≡ slice_get row (n + i)
later_at [] zero i = refl
later_at [] (suc n) i = refl
later_at (v ∷ row) zero i = ap (slice_get (v ∷ row)) (omega arith)
later_at (v ∷ row) (suc n) i = let e : suc n + i ≡ suc (n + i) = omega arith in later_at row n i ∙ sym (ap (slice_get (v ∷ row)) e)

-- ---- the class's own columns

inner_same : (wide : Select) (items : Items) (source : ℕ) → is_inner (record wide { items = items }) source ≡ is_inner wide source
inner_same wide items zero = refl
inner_same wide items (suc place) = refl

-- whether a column takes NULL does not hang on the items
null_same : (schema : Catalog) (wide : Select) (items : Items) (source : ℕ) (column : ColumnNo)
    → is_never_null schema (record wide { items = items }) (expr.Column source column) ≡ is_never_null schema wide (expr.Column source column)
unfolding is_never_null
null_same schema wide items source column =
    fold-Column Bool (is_required_level schema (record wide { items = items })) source column
    ∙ ap (λ (b : Bool). b && takes_no_null (column_in schema (scope_of wide) source column)) (inner_same wide items source)
    ∙ sym (fold-Column Bool (is_required_level schema wide) source column)

module _ (mapped : Mapped) (class : ClassId) (has : HasHierarchies mapped) (less : IsClass mapped class) (s wide : Select) (more : List Origin) (widens : Widens s wide)
    (items_are : s.items ≡ map item_of (attribute_columns mapped class (from_root 0))) (sources_are : sources_of s ≡ map origin_of (tables_of mapped class) ++ more) where
  abbrev column : Attribute → SourceColumn
  column attribute = attribute_column mapped class (from_root 0) attribute

  abbrev narrow : Select
  narrow = record wide { items = map item_of (attribute_columns mapped class (from_root 0)) }

  abbrev kinds_in : Expr → Value → Type 0
  kinds_in e v = IsOfItsKind mapped.schema (scope_of wide) e v

  narrow_reads : ReadsClass mapped class narrow
  narrow_reads = record {
    more = more ++ widens.sources;
    items = refl;
    sources = widens.has_sources ∙ ap (λ (xs : List Origin). xs ++ widens.sources) sources_are ∙ append_assoc (map origin_of (tables_of mapped class)) more widens.sources;
  }

  all_items : wide.items ≡ map item_of (attribute_columns mapped class (from_root 0)) ++ widens.items
  all_items = widens.has_items ∙ ap (λ (xs : Items). xs ++ widens.items) items_are

  own_given : (row : List Value) → EachItem (IsGiven mapped.schema wide) wide.items row → EachItem (IsGiven mapped.schema narrow) narrow.items (own_values mapped class row)
  own_given row given =
      first_values (IsGiven mapped.schema wide) (IsGiven mapped.schema narrow) column (attributes_of mapped class) widens.items row
      (λ attribute v h never. h (sym (null_same mapped.schema wide narrow.items (column attribute).source (column attribute).column) ∙ never))
      (subst (λ (items : Items). EachItem (IsGiven mapped.schema wide) items row) all_items given)

  own_kinds : (row : List Value) → EachItem kinds_in wide.items row → EachItem (IsOfItsKind mapped.schema (scope_of narrow)) narrow.items (own_values mapped class row)
  own_kinds row kinds =
      first_values kinds_in (IsOfItsKind mapped.schema (scope_of narrow)) column (attributes_of mapped class) widens.items row (λ attribute v h. h)
      (subst (λ (items : Items). EachItem kinds_in items row) all_items kinds)

  -- what a row has of the class is a row of it
  pub own_row : (row : List Value) → EachItem kinds_in wide.items row → EachItem (IsGiven mapped.schema wide) wide.items row → IsRowOf mapped class (own_values mapped class row)
  own_row row kinds given = (are_read mapped class narrow (own_values mapped class row ∷ []) has less narrow_reads (own_kinds row kinds, tt) (own_given row given, tt)).0

-- ---- an option's columns

module _ (mapped : Mapped) (class : ClassId) (has : HasHierarchies mapped) (s mid wide : Select) (relation : Relation) (related : IsRelated mapped relation)
    (option : IsOption mapped class s relation mid) (widens : Widens mid wide) where
  abbrev placement : Placement
  placement = placed_in mapped s relation

  abbrev target : ClassId
  target = relation.target

  abbrev target_column : Attribute → SourceColumn
  target_column attribute = attribute_column mapped target placement attribute

  stands : StandsAt mapped target placement (sources_of wide)
  stands = λ rank table e.
      subst (λ (under : List Origin). IsAt under (place_at_rank placement rank) table) (sym (widens.has_sources ∙ ap (λ (xs : List Origin). xs ++ widens.sources) option.has_sources))
      (at_more (sources_of s ++ option.origins) widens.sources (place_at_rank placement rank) table
      (target_stands mapped class (from_root 0) relation (sources_of s) option.origins _ related (count_sources s) option.tables rank table e))

  item_at : (place : ℕ) (attribute : Attribute) → slice_get (attributes_of mapped target) place ≡ Some attribute → slice_get wide.items (length s.items + place) ≡ Some (item_of (target_column attribute))
  item_at place attribute at =
      let own : Items = map item_of (attribute_columns mapped target placement) in
      let keys : Items = map item_of (further_keys mapped target placement) in
      let there : slice_get own place ≡ Some (item_of (target_column attribute)) =
      slice_get-map item_of (attribute_columns mapped target placement) place
      ∙ ap (option_map item_of) (slice_get-map (attribute_column mapped target placement) (attributes_of mapped target) place ∙ ap (option_map (attribute_column mapped target placement)) at) in
      let split : map item_of (option_columns mapped target placement) ≡ own ++ keys = map-append item_of (attribute_columns mapped target placement) (further_keys mapped target placement) in
      ap (λ (items : Items). slice_get items (length s.items + place))
      (widens.has_items ∙ ap (λ (xs : Items). xs ++ widens.items) (option.has_items ∙ ap (λ (xs : Items). s.items ++ xs) split)
      ∙ append_assoc s.items (own ++ keys) widens.items ∙ ap (λ (xs : Items). s.items ++ xs) (append_assoc own keys widens.items))
      ∙ get_after s.items (own ++ (keys ++ widens.items)) place
      ∙ get_before own (keys ++ widens.items) place (slice_get_within own place (item_of (target_column attribute)) there) ∙ there

  -- each value there is NULL or of its attribute's kind
  option_kinds : (row : List Value) → EachItem (IsOfItsKind mapped.schema (scope_of wide)) wide.items row → AreOfKinds mapped target (drop (length s.items) row)
  option_kinds row kinds = λ place attribute at.
      let found = each_at (IsOfItsKind mapped.schema (scope_of wide)) wide.items row (length s.items + place) (item_of (target_column attribute)) kinds (item_at place attribute at) in
      let typed : expression_kind mapped.schema (column_of (target_column attribute)) (scope_of wide) ≡ Ok attribute.kind =
      (column_stands mapped.schema (sources_of wide) (target_column attribute).source (target_column attribute).column attribute.kind
      (attribute_typed mapped target has related.target (class_tables mapped target has related.target) placement (sources_of wide) stands attribute (has_at (attributes_of mapped target) place attribute at))).typed in
      ap (value_fits attribute) (later_at row (length s.items) place ∙ found.1) ∙ read_fits attribute found.0 (found.2 attribute.kind typed)

-- where the next option's columns begin
next_first : (mapped : Mapped) (class : ClassId) (s mid : Select) (relation : Relation) (first : ℕ) → IsOption mapped class s relation mid → first ≡ length s.items → first + option_width mapped relation.target ≡ length mid.items
next_first mapped class s mid relation first option is =
    let columns : List SourceColumn = option_columns mapped relation.target (placed_in mapped s relation) in
    ap (λ (n : ℕ). n + option_width mapped relation.target) is
    ∙ ap (λ (n : ℕ). length s.items + n) (columns_alike mapped relation.target (from_root 0) (placed_in mapped s relation) ∙ sym (length-map columns item_of))
    ∙ sym (length-append s.items (map item_of columns)) ∙ sym (ap (λ (xs : Items). length xs) option.has_items)

abbrev IsPlace : Mapped → ClassId → RelNo → Type 0
IsPlace mapped class place = place.0 < length (relations_of mapped class)

all_options : (mapped : Mapped) (class : ClassId) (s wide : Select) (places : List RelNo) (first : ℕ) (row : List Value) → HasHierarchies mapped → AreRelated mapped → IsClass mapped class → AllByRecursion (IsPlace mapped class) places
    → Widens (fold (with_joined mapped class) s places) wide → EachItem (IsOfItsKind mapped.schema (scope_of wide)) wide.items row → first ≡ length s.items
    → AllByRecursion (λ part. AreOfKinds mapped part.target (values_from part row)) (parts_from mapped class first places)
all_options mapped class s wide [] first row has related less inside widens kinds is = tt
all_options mapped class s wide (place ∷ places) first row has related less inside widens kinds is =
    let relation : Relation = relation_of mapped class place in
    let mid : Select = with_joined mapped class s place in
    let own : IsRelated mapped relation = related.each class less place.0 no_relation inside.0 in
    let option = option_of mapped class s relation in
    let whole : Widens mid wide = widens_then mid (fold (with_joined mapped class) mid places) wide (options_widen mapped class mid places) widens in (
      subst (λ (n : ℕ). AreOfKinds mapped relation.target (drop n row)) (sym is) (option_kinds mapped class has s mid wide relation own option whole row kinds),
      all_options mapped class mid wide places (part_at mapped class place first).end row has related less inside.1 widens kinds (next_first mapped class s mid relation first option is),
    )

-- so what stands there is a row of the target, where the row has one
all_targets : (mapped : Mapped) (class : ClassId) (places : List RelNo) (first : ℕ) (row : List Value) → HasHierarchies mapped → AreRelated mapped → IsClass mapped class → AllByRecursion (IsPlace mapped class) places
    → AllByRecursion (λ part. AreOfKinds mapped part.target (values_from part row)) (parts_from mapped class first places) → AllByRecursion (IsRowAt mapped row) (parts_from mapped class first places)
all_targets mapped class [] first row has related less inside kinds = tt
all_targets mapped class (place ∷ places) first row has related less inside kinds = (
  is_row_at mapped row (part_at mapped class place first) has (related.each class less place.0 no_relation inside.0).target kinds.0,
  all_targets mapped class places (part_at mapped class place first).end row has related less inside.1 kinds.1,
)

-- ---- the main select

shifted_widens : (s own wide : Select) → Widens s wide → Widens s (with_shifted own wide)
shifted_widens s own wide widens = record { items = widens.items; sources = widens.sources; has_items = widens.has_items; has_sources = widens.has_sources }

pub are_joined : (mapped : Mapped) (query : ObjectQuery) (more : List Origin) (rows : List (List Value)) → HasHierarchies mapped → AreRelated mapped → IsClass mapped query.class
    → All (λ place. place.0 < length (relations_of mapped query.class)) query.joined → query.select.items ≡ map item_of (attribute_columns mapped query.class (from_root 0))
    → sources_of query.select ≡ map origin_of (tables_of mapped query.class) ++ more → AreOfItems mapped.schema (main_select mapped query) rows → AreGiven mapped.schema (main_select mapped query) rows
    → AllByRecursion (IsJoinedRow mapped query.class (parts_of mapped query.class query.joined)) rows
unfolding main_select parts_of
are_joined mapped query more [] has related less places items sources kinds given = tt
are_joined mapped query more (row ∷ rows) has related less places items sources kinds given =
    let class : ClassId = query.class in
    let s : Select = query.select in
    let joined : Select = fold (with_joined mapped class) s query.joined in
    let wide : Select = with_shifted s joined in
    let widens : Widens s wide = shifted_widens s s joined (options_widen mapped class s query.joined) in
    let over : Widens joined wide = shifted_widens joined s joined (widens_itself joined) in
    let wide_own : width_of mapped class ≡ length s.items =
    sym (ap (λ (xs : Items). length xs) items ∙ length-map (attribute_columns mapped class (from_root 0)) item_of ∙ length-map (attributes_of mapped class) (attribute_column mapped class (from_root 0))) in
    let inside = recursion_from_All (IsPlace mapped class) query.joined places in
    let options = all_options mapped class s wide query.joined (width_of mapped class) row has related less inside over kinds.0 wide_own in (
      record {
        own = own_row mapped class has less s wide more widens items sources row kinds.0 given.0;
        options = options;
        targets = all_targets mapped class query.joined (width_of mapped class) row has related less inside options;
      },
      are_joined mapped query more rows has related less places items sources kinds.1 given.1,
    )
