-- A row of a class has a key of the class that it names.
use Rattle.std.proofs.Common.{append-nil, ◌≡◌, ◌⊎◌, inl, inr, ℕ, zero, suc, ◌+◌, ◌<◌, Bool, true, false, not, ◌&&◌, ◌==◌, nat_lt, cond, List, [], ◌∷◌, ◌++◌, map, filter, length, Option, None, Some, Ok, refl, sym, ap, subst, ◌∙◌}
use Rattle.std.specs.Option.{option_and_then}
use Rattle.std.specs.Prelude.{find, slice_get, unwrap_or}
use Rattle.std.specs.List.{AllByRecursion, enumerate_from, flat_map, position, position_or_len}
use Rattle.std.specs.Cmp.Lexicographic.{pointwise}
use Rattle.std.proofs.lemmas.Bool.{eq-eqb, or_right}
use Rattle.std.proofs.lemmas.Option.{get_or_from_slice_get, same_Some, slice_get-get_or}
use Rattle.base_core.specs.declared.ids.AttrNo.{AttrNo}
use Rattle.base_core.specs.declared.ids.ClassId.{ClassId}
use Rattle.base_core.specs.declared.ids.ColumnNo.{ColumnNo}
use Rattle.base_core.specs.declared.ids.TableId.{TableId}
use Rattle.base_core.specs.declared.value.Kind.{Kind}
use Rattle.base_core.specs.declared.value.Kind.TheVariants as kinds
use Rattle.base_core.specs.declared.value.Value.{Value}
use Rattle.base_core.specs.declared.value.Value.TheVariants as value
use Rattle.schema_core.specs.declared.table.ColumnSpec.{ColumnSpec}
use Rattle.schema_core.specs.Catalog.{spec_of}
use Rattle.schema_core.specs.Tables.{is_null, value_or_null}
use Rattle.schema_core.specs.WellFormed.{is_key as fits_table}
use Rattle.expr_types.specs.declared.expr.Expr.{Expr}
use Rattle.expr_types.specs.declared.expr.Expr.TheVariants as expr
use Rattle.expr_types.specs.declared.expr.Origin.{Origin}
use Rattle.expr_types.specs.declared.select.Select.{Select}
use Rattle.expr_types.proofs.Folds.{fold-Column}
use Rattle.sql_semantics.specs.Kinds.{column_in, expression_kind}
use Rattle.sql_semantics.specs.Plain.{is_of_kind, sources_of}
use Rattle.sql_semantics.specs.Shapes.{AreGiven, AreOfItems, EachItem, IsGiven, IsOfItsKind, is_inner, is_never_null, is_required_level, scope_of, takes_no_null}
use Rattle.class_types.specs.declared.mapped.Attribute.{Attribute}
use Rattle.class_layouts.specs.Columns.{attr_at, is_key, own_table, table_attributes}
use Rattle.class_layouts.specs.Hierarchy.{line_of}
use Rattle.class_mapping.specs.Mapped.{IsAttribute, IsClass, Mapped, attribute_of, attributes_of, key_attributes, no_attribute, root_of, root_table, table_or_none, tables_of}
use Rattle.class_mapping.proofs.Having.{Has, from_filter, from_map, has_at, has_either, true_false}
use Rattle.class_mapping.proofs.LineLemmas.{line_within}
use Rattle.object_arena.specs.Fit.{key_fits, key_value_fits, value_fits}
use Rattle.mapping_laws.specs.Hierarchies.{HasHierarchies, HasTables}
use Rattle.mapping_laws.proofs.Attributes.{IsOfColumn, of_column}
use Rattle.mapping_laws.proofs.Ties.{class_tables}
use Rattle.load_columns.specs.declared.placing.SourceColumn.{SourceColumn}
use Rattle.load_columns.specs.Placing.{attribute_column, attribute_columns, from_root, place_at_rank, place_of_table, root_key}
use Rattle.load_columns.specs.Conditions.{column_of, has_values}
use Rattle.load_selects.specs.Branches.{branch, discriminator_of, is_of_branch}
use Rattle.load_selects.specs.Selects.{cell_column, cells_select, class_rows, item_of}
use Rattle.load_filling.specs.Rows.{FitsAs, HasKeyOf, class_by, class_named, has_identity, row_key, value_in, value_named}
use Rattle.load_rows.specs.Reading.{IsRowOf}
use Rattle.collection_selects.specs.Rows.{AreCellsOf}
use Rattle.collection_selects.proofs.Keys.{turned_kind}
use Rattle.collection_selects.proofs.Standing.{column_stands}
use Rattle.collection_selects.proofs.ClassLemmas.{at_sources, placed_before, rank_is, root_placed, sources_are, sources_by}
use Rattle.collection_selects.proofs.Placed.{at_more, attribute_typed, branch_under}
use Rattle.mapping_laws.proofs.KeyKinds.{attributes_split, is_just, key_by_column, keys_alike, no_later_key, numbered_at}

-- ---- the values of a row

-- what is said of each item's value, where the items are columns of others
pub item_at : {A : Type 0} (P : Expr → Value → Type 0) (f : A → SourceColumn) (items : List A) (row : List Value) (i : ℕ) (a : A) → EachItem P (map item_of (map f items)) row
    → slice_get items i ≡ Some a → (v : Value) × (slice_get row i ≡ Some v) × P (column_of (f a)) v
item_at P f [] row i a h e = absurd cc
item_at P f (b ∷ items) [] i a h e = absurd h
item_at {A = A} P f (b ∷ items) (v ∷ row) zero a h e = (v, refl, subst (λ (one : A). P (column_of (f one)) v) (same_Some b a e) h.0)
item_at P f (b ∷ items) (v ∷ row) (suc i) a h e = item_at P f items row i a h.1 e

-- a value of a kind that is not NULL
just : (kind : Kind) (v : Value) → is_of_kind kind v ≡ true → is_null v ≡ false → is_just kind v ≡ true
just kind value.Null h g = absurd cc
just kind (value.Bool b) h g = turned_kind kinds.Boolean kind h
just kind (value.Int n) h g = turned_kind kinds.Integer kind h
just kind (value.Text s) h g = turned_kind kinds.Text kind h
just kind (value.Bytes s) h g = turned_kind kinds.Bytes kind h

-- a value that is NULL or of a kind
pub read_fits : (attribute : Attribute) (v : Value) → is_of_kind attribute.kind v ≡ true → value_fits attribute (Some v) ≡ true
read_fits attribute value.Null h = refl
read_fits attribute (value.Bool b) h = turned_kind kinds.Boolean attribute.kind h
read_fits attribute (value.Int n) h = turned_kind kinds.Integer attribute.kind h
read_fits attribute (value.Text s) h = turned_kind kinds.Text attribute.kind h
read_fits attribute (value.Bytes s) h = turned_kind kinds.Bytes attribute.kind h

-- ---- the place of the root's table

zero_either : (b : Bool) (n : ℕ) → n ≡ 0 → unwrap_or (cond b (Some n) None) 0 ≡ 0
zero_either true n e = e
zero_either false n e = refl

first_ranked : (table : TableId) (rest : List TableId) → unwrap_or (position (λ other. other.0 == table.0) (table ∷ rest)) 0 ≡ 0
first_ranked table rest =
    let test : TableId → Bool = λ other. other.0 == table.0 in
    let here : position_or_len test (table ∷ rest) ≡ 0 = ap (λ (b : Bool). cond (not b) (1 + position_or_len test rest) 0) (eq-eqb table.0 table.0 refl) in
    zero_either (nat_lt (position_or_len test (table ∷ rest)) (length (table ∷ rest))) (position_or_len test (table ∷ rest)) here

root_place : (mapped : Mapped) (class : ClassId) → HasTables mapped class → place_of_table mapped class (from_root 0) (root_table mapped class) ≡ 0
root_place mapped class known =
    ap (λ (own : List TableId). place_at_rank (from_root 0) (unwrap_or (position (λ other. other.0 == (root_table mapped class).0) own) 0)) known.first
    ∙ ap (place_at_rank (from_root 0)) (first_ranked (root_table mapped class) known.rest) ∙ rank_is 0

-- ---- the attributes of the key

required_by : (column : ColumnSpec) → column.key ≡ true → takes_no_null (Some column) ≡ true
required_by column key = or_right column.not_null column.key key

column_never_null : (schema_of : Mapped) (s : Select) (source : ℕ) (column : ColumnNo) → is_never_null schema_of.schema s (expr.Column source column)
    ≡ (is_inner s source && takes_no_null (column_in schema_of.schema (scope_of s) source column))
unfolding is_never_null
column_never_null schema_of s source column = fold-Column Bool (is_required_level schema_of.schema s) source column

-- an attribute of the key is one of the root's table
pub record IsOfKey (mapped : Mapped) (class : ClassId) (attr : AttrNo) : Type 0 where
  pub attribute : Attribute
  pub at : slice_get (attributes_of mapped class) attr.0 ≡ Some attribute
  pub of : IsOfColumn mapped (line_of mapped.classes class.0) (0, root_table mapped class) attribute
  pub key : of.placed.1.key ≡ true

split_of : (mapped : Mapped) (class : ClassId) (known : HasTables mapped class) (attribute : Attribute) → is_key mapped.schema.tables attribute ≡ true
    → Has (table_attributes mapped.schema.tables mapped.classes (line_of mapped.classes class.0) (0, root_table mapped class)) attribute
    ⊎ Has (flat_map (table_attributes mapped.schema.tables mapped.classes (line_of mapped.classes class.0)) (enumerate_from 1 known.rest)) attribute
    → Has (table_attributes mapped.schema.tables mapped.classes (line_of mapped.classes class.0) (0, root_table mapped class)) attribute
split_of mapped class known attribute key (inl first) = first
split_of mapped class known attribute key (inr later) = true_false (is_key mapped.schema.tables attribute) key (no_later_key mapped (line_of mapped.classes class.0) 1 0 known.rest attribute refl later)

pub of_key : (mapped : Mapped) (class : ClassId) (attr : AttrNo) → HasTables mapped class → Has (key_attributes mapped class) attr → IsOfKey mapped class attr
of_key mapped class attr known there =
    let tables = mapped.schema.tables in
    let line : List ClassId = line_of mapped.classes class.0 in
    let all : List Attribute = attributes_of mapped class in
    let found = from_map attr_at (filter (λ placed. is_key tables placed.1) (enumerate_from 0 all)) attr there in
    let placed : ℕ × Attribute = found.0 in
    let kept = from_filter (λ (one : ℕ × Attribute). is_key tables one.1) (enumerate_from 0 all) placed found.1 in
    let number : placed.0 ≡ attr.0 = ap (λ (one : AttrNo). one.0) found.2 in
    let at : slice_get all placed.0 ≡ Some placed.1 = numbered_at all placed kept.0 in
    let inside : Has all placed.1 = has_at all placed.0 placed.1 at in
    let first = table_attributes tables mapped.classes line (0, root_table mapped class) in
    let later = flat_map (table_attributes tables mapped.classes line) (enumerate_from 1 known.rest) in
    let own = split_of mapped class known placed.1 kept.1 (has_either first later placed.1 (subst (λ (xs : List Attribute). Has xs placed.1) (attributes_split mapped class known) inside)) in
    let of = of_column mapped line (0, root_table mapped class) placed.1 own in
    record { attribute = placed.1; at = ap (slice_get all) (sym number) ∙ at; of = of; key = sym (key_by_column mapped line (0, root_table mapped class) placed.1 of) ∙ kept.1 }

pub each_passes : {A B : Type 0} (test : A → B → Bool) (f : A → B) (xs : List A) → ((x : A) → Has xs x → test x (f x) ≡ true) → pointwise test xs (map f xs) ≡ true
each_passes test f [] h = refl
each_passes test f (x ∷ xs) h = ap (λ (b : Bool). b && pointwise test xs (map f xs)) (h x (inl refl)) ∙ each_passes test f xs (λ y there. h y (inr there))

-- ---- the rows of a class

-- a select of a class's attributes, over its tables from the root's on and maybe further sources behind them
pub record ReadsClass (mapped : Mapped) (class : ClassId) (s : Select) : Type 0 where
  pub more : List Origin
  pub items : s.items ≡ map item_of (attribute_columns mapped class (from_root 0))
  pub sources : sources_of s ≡ sources_by (tables_of mapped class) ++ more

abbrev Items : Type 0
Items = List (Expr × Option (List ℕ))

module _ (mapped : Mapped) (class : ClassId) (has : HasHierarchies mapped) (less : IsClass mapped class) (known : HasTables mapped class) (s : Select) (reads : ReadsClass mapped class s) where
  abbrev column : Attribute → SourceColumn
  column a = attribute_column mapped class (from_root 0) a

  abbrev under : List Origin
  under = sources_by (tables_of mapped class) ++ reads.more

  abbrev tables_in : List Origin → List TableId
  tables_in origins = map (λ (origin : Origin). origin.table) origins

  item_typed : (a : Attribute) → Has (attributes_of mapped class) a → expression_kind mapped.schema (column_of (column a)) (scope_of s) ≡ Ok a.kind
  item_typed a there =
      ap (λ (origins : List Origin). expression_kind mapped.schema (column_of (column a)) (tables_in origins)) reads.sources
      ∙ (column_stands mapped.schema under (column a).source (column a).column a.kind (attribute_typed mapped class has less known (from_root 0) under (placed_before mapped class has less known reads.more) a there)).typed

  -- the value of an attribute is NULL or of its kind
  pub value_of_kind : (row : List Value) (i : ℕ) (a : Attribute) → EachItem (IsOfItsKind mapped.schema (scope_of s)) s.items row → slice_get (attributes_of mapped class) i ≡ Some a
      → (v : Value) × (slice_get row i ≡ Some v) × (is_of_kind a.kind v ≡ true)
  value_of_kind row i a h at =
      let found = item_at (IsOfItsKind mapped.schema (scope_of s)) (attribute_column mapped class (from_root 0)) (attributes_of mapped class) row i a
      (subst (λ (items : Items). EachItem (IsOfItsKind mapped.schema (scope_of s)) items row) reads.items h) at in
      (found.0, found.1, found.2 a.kind (item_typed a (has_at (attributes_of mapped class) i a at)))

  key_never_null : (attr : AttrNo) (of : IsOfKey mapped class attr) → is_never_null mapped.schema s (column_of (column of.attribute)) ≡ true
  key_never_null attr of =
      let placed : ℕ × ColumnSpec = of.of.placed in
      let number : ColumnNo = record { 0 = placed.0 } in
      let root : TableId = root_table mapped class in
      let at = at_more (sources_by (tables_of mapped class)) reads.more 0 root (at_sources (tables_of mapped class) 0 root (ap (λ (own : List TableId). slice_get own 0) known.first)) in
      ap (λ (a : Attribute). is_never_null mapped.schema s (column_of (column a))) (sym of.of.is)
      ∙ ap (λ (n : ℕ). is_never_null mapped.schema s (expr.Column n number)) (root_place mapped class known)
      ∙ column_never_null mapped s 0 number
      ∙ ap (λ (origins : List Origin). takes_no_null (column_in mapped.schema (tables_in origins) 0 number)) reads.sources
      ∙ ap (λ (found : Option TableId). takes_no_null (option_and_then (λ t. slice_get (spec_of mapped.schema t).columns number.0) found)) at
      ∙ ap takes_no_null of.of.there
      ∙ required_by placed.1 of.key

  key_value : (row : List Value) (attr : AttrNo) → EachItem (IsOfItsKind mapped.schema (scope_of s)) s.items row → EachItem (IsGiven mapped.schema s) s.items row → Has (key_attributes mapped class) attr
      → key_value_fits mapped class attr (value_in row attr) ≡ true
  key_value row attr kinds given there =
      let of : IsOfKey mapped class attr = of_key mapped class attr known there in
      let found = value_of_kind row attr.0 of.attribute kinds of.at in
      let held = item_at (IsGiven mapped.schema s) (attribute_column mapped class (from_root 0)) (attributes_of mapped class) row attr.0 of.attribute
      (subst (λ (items : Items). EachItem (IsGiven mapped.schema s) items row) reads.items given) of.at in
      let same : held.0 ≡ found.0 = same_Some held.0 found.0 (sym held.1 ∙ found.1) in
      let none : is_null found.0 ≡ false = ap is_null (sym same) ∙ held.2 (key_never_null attr of) in
      let named : attribute_of mapped class attr ≡ of.attribute = get_or_from_slice_get (attributes_of mapped class) attr.0 of.attribute no_attribute of.at in
      ap (λ (a : Attribute). is_just a.kind (value_in row attr)) named
      ∙ ap (λ (o : Option Value). is_just of.attribute.kind (value_or_null o)) found.1
      ∙ just of.attribute.kind found.0 found.2 none

  -- the key in the row is one of the class
  pub row_key_fits : (row : List Value) → EachItem (IsOfItsKind mapped.schema (scope_of s)) s.items row → EachItem (IsGiven mapped.schema s) s.items row → key_fits mapped class (row_key mapped class row) ≡ true
  row_key_fits row kinds given = each_passes (key_value_fits mapped class) (value_in row) (key_attributes mapped class) (λ attr there. key_value row attr kinds given there)

-- ---- the class that a row names

find_has : {A : Type 0} (test : A → Bool) (xs : List A) (x : A) → find test xs ≡ Some x → Has xs x
find_has test [] x e = absurd cc
find_has test (y ∷ xs) x e = by (test y) e (find_has test xs x)
  where
    by : (b : Bool) → cond b (Some y) (find test xs) ≡ Some x → (find test xs ≡ Some x → Has xs x) → Has (y ∷ xs) x
    by true e later = inl (same_Some y x e)
    by false e later = inr (later e)

-- a key of a class is one of each class of its branch
branch_keys : (mapped : Mapped) (class named : ClassId) (key : List Value) → HasHierarchies mapped → IsClass mapped class → Has (branch mapped class) named → key_fits mapped class key ≡ true → key_fits mapped named key ≡ true
branch_keys mapped class named key has less there fits =
    let known = class_tables mapped class has less in
    let under = branch_under mapped class has less known named there in
    let within : named.0 < length mapped.classes.lines = line_within mapped.classes.lines named.0 class.0 (slice_get mapped.classes.lines named.0) refl under in
    let declared : IsClass mapped named = subst (λ (n : ℕ). named.0 < n) has.lined within in
    let same : root_of mapped named ≡ root_of mapped class = ap (λ (n : ℕ). let root : ClassId = record { 0 = n } in root) (has.paired.rooted named class under) in
    keys_alike mapped named key has (class_tables mapped named has declared)
    ∙ ap (λ (root : ClassId). fits_table (spec_of mapped.schema (table_or_none (own_table mapped.schema.tables mapped.classes root.0))) key) same
    ∙ sym (keys_alike mapped class key has known) ∙ fits

pub named_fits : (mapped : Mapped) (class : ClassId) (values : List Value) (key : List Value) (name : Option (List ℕ)) → HasHierarchies mapped → IsClass mapped class → key_fits mapped class key ≡ true
    → FitsAs mapped key (class_by mapped class values name)
named_fits mapped class values key None has less fits = fits
named_fits mapped class values key (Some name) has less fits = by (find test (branch mapped class)) refl
  where
    test : ClassId → Bool
    test = has_identity mapped (value_named mapped class values name)

    by : (found : Option ClassId) → find test (branch mapped class) ≡ found → FitsAs mapped key found
    by None e = tt
    by (Some named) e = branch_keys mapped class named key has less (find_has test (branch mapped class) named e) fits

abbrev IsRead : Mapped → Select → List Value → Type 0
IsRead mapped s row = EachItem (IsOfItsKind mapped.schema (scope_of s)) s.items row × EachItem (IsGiven mapped.schema s) s.items row

-- a row of a class has a key of the class that it names
has_key_of : (mapped : Mapped) (class : ClassId) (s : Select) (row : List Value) → HasHierarchies mapped → IsClass mapped class → ReadsClass mapped class s → IsRead mapped s row → HasKeyOf mapped class row
unfolding class_named
has_key_of mapped class s row has less reads read =
    named_fits mapped class row (row_key mapped class row) (discriminator_of mapped class) has less (row_key_fits mapped class has less (class_tables mapped class has less) s reads row read.0 read.1)

is_row : (mapped : Mapped) (class : ClassId) (s : Select) (row : List Value) → HasHierarchies mapped → IsClass mapped class → ReadsClass mapped class s → IsRead mapped s row → IsRowOf mapped class row
is_row mapped class s row has less reads read = record {
  kinds = λ place attribute at.
      let found = value_of_kind mapped class has less (class_tables mapped class has less) s reads row place attribute read.0 at in
      ap (value_fits attribute) found.1 ∙ read_fits attribute found.0 found.2;
  key = has_key_of mapped class s row has less reads read;
}

-- the rows that are read of a class are such rows
pub are_read : (mapped : Mapped) (class : ClassId) (s : Select) (rows : List (List Value)) → HasHierarchies mapped → IsClass mapped class → ReadsClass mapped class s → AreOfItems mapped.schema s rows → AreGiven mapped.schema s rows
    → AllByRecursion (IsRowOf mapped class) rows
are_read mapped class s [] has less reads kinds given = tt
are_read mapped class s (row ∷ rows) has less reads kinds given = (is_row mapped class s row has less reads (kinds.0, given.0), are_read mapped class s rows has less reads kinds.1 given.1)

pub reads_rows : (mapped : Mapped) (class : ClassId) (conditions : List Expr) → HasHierarchies mapped → IsClass mapped class → ReadsClass mapped class (class_rows mapped class conditions)
reads_rows mapped class conditions has less = record {
  more = [];
  items = refl;
  sources =
      sources_are mapped class has less (class_tables mapped class has less) (attribute_columns mapped class (from_root 0)) (conditions ++ is_of_branch mapped class (from_root 0))
      ∙ sym (append-nil (sources_by (tables_of mapped class)));
}

pub are_rows : (mapped : Mapped) (class : ClassId) (conditions : List Expr) (rows : List (List Value)) → HasHierarchies mapped → IsClass mapped class
    → AreOfItems mapped.schema (class_rows mapped class conditions) rows → AreGiven mapped.schema (class_rows mapped class conditions) rows → AllByRecursion (IsRowOf mapped class) rows
are_rows mapped class conditions rows has less kinds given = are_read mapped class (class_rows mapped class conditions) rows has less (reads_rows mapped class conditions has less) kinds given

-- ---- the cells of an object

cell_fits : (mapped : Mapped) (class : ClassId) (attrs : List AttrNo) (key row : List Value) → HasHierarchies mapped → IsClass mapped class → AllByRecursion (IsAttribute mapped class) attrs
    → EachItem (IsOfItsKind mapped.schema (scope_of (cells_select mapped class attrs key))) (cells_select mapped class attrs key).items row → AreCellsOf mapped class attrs row
unfolding cells_select cell_column
cell_fits mapped class attrs key row has less there kinds place attr at =
    let known = class_tables mapped class has less in
    let s : Select = cells_select mapped class attrs key in
    let attribute : Attribute = attribute_of mapped class attr in
    let found = item_at (IsOfItsKind mapped.schema (scope_of s)) (cell_column mapped class) attrs row place attr kinds at in
    let stands : Has (attributes_of mapped class) attribute =
    has_at (attributes_of mapped class) attr.0 attribute (slice_get-get_or (attributes_of mapped class) attr.0 no_attribute (all_at (IsAttribute mapped class) attrs attr there (has_at attrs place attr at))) in
    let typed : expression_kind mapped.schema (column_of (cell_column mapped class attr)) (scope_of s) ≡ Ok attribute.kind =
    ap (λ (origins : List Origin). expression_kind mapped.schema (column_of (attribute_column mapped class (from_root 0) attribute)) (map (λ (origin : Origin). origin.table) origins))
    (sources_are mapped class has less known (map (cell_column mapped class) attrs) (has_values (root_key mapped class (from_root 0)) key))
    ∙ (column_stands mapped.schema (sources_by (tables_of mapped class)) (attribute_column mapped class (from_root 0) attribute).source attribute.column attribute.kind (attribute_typed mapped class has less known (from_root 0) (sources_by (tables_of mapped class)) (root_placed mapped class has less known) attribute stands)).typed in
    ap (value_fits attribute) found.1 ∙ read_fits attribute found.0 (found.2 attribute.kind typed)
  where
    all_at : {A : Type 0} (P : A → Type 0) (xs : List A) (x : A) → AllByRecursion P xs → Has xs x → P x
    all_at P [] x h g = absurd g
    all_at P (y ∷ xs) x h (inl e) = subst P e h.0
    all_at P (y ∷ xs) x h (inr g) = all_at P xs x h.1 g

-- the rows that are read of an object's cells have values of their kinds
pub are_cells : (mapped : Mapped) (class : ClassId) (attrs : List AttrNo) (key : List Value) (rows : List (List Value)) → HasHierarchies mapped → IsClass mapped class → AllByRecursion (IsAttribute mapped class) attrs
    → AreOfItems mapped.schema (cells_select mapped class attrs key) rows → AllByRecursion (AreCellsOf mapped class attrs) rows
are_cells mapped class attrs key [] has less there kinds = tt
are_cells mapped class attrs key (row ∷ rows) has less there kinds = (cell_fits mapped class attrs key row has less there kinds.0, are_cells mapped class attrs key rows has less there kinds.1)
