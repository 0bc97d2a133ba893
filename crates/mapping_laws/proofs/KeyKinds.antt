-- The key of a class is that of its root's table: the attributes of the key are its key columns in order.
use Rattle.std.proofs.Common.{◌≡◌, inl, inr, ℕ, suc, ◌+◌, ◌<◌, Bool, true, false, not, ◌&&◌, ◌||◌, ◌==◌, cond, List, [], ◌∷◌, ◌++◌, map, filter, length, get_or, Option, None, Some, refl, sym, ap, ◌∙◌, arith, append-nil}
use Rattle.std.specs.Prelude.{find, slice_get}
use Rattle.std.specs.List.{AllByRecursion, enumerate_from, flat_map, list_all}
use Rattle.std.specs.Cmp.Lexicographic.{pointwise}
use Rattle.std.proofs.lemmas.Bool.{eqb-true, or_right}
use Rattle.std.proofs.lemmas.List.Elements.{filter-append}
use Rattle.std.proofs.lemmas.List.Quantifiers.{position-Some}
use Rattle.std.proofs.lemmas.Option.{get_or_from_slice_get, slice_get-get_or}
use Rattle.base_core.specs.declared.ids.AttrNo.{AttrNo}
use Rattle.base_core.specs.declared.ids.ClassId.{ClassId}
use Rattle.base_core.specs.declared.ids.TableId.{TableId}
use Rattle.base_core.specs.declared.value.Kind.{Kind}
use Rattle.base_core.specs.declared.value.Value.{Value}
use Rattle.schema_core.specs.declared.table.ColumnSpec.{ColumnSpec}
use Rattle.schema_core.specs.declared.table.TableSpec.{TableSpec}
use Rattle.schema_core.specs.Catalog.{has_name, key_columns, kind_of, no_table, same_name}
use Rattle.schema_core.specs.Declaration.{some_two}
use Rattle.schema_core.specs.Tables.{fits, fits_kind, kind_of_value}
use Rattle.schema_core.specs.WellFormed.{is_key as fits_table}
use Rattle.schema_core.proofs.Names.{name_itself, same_names}
use Rattle.class_types.specs.declared.declared.ClassSpec.{ClassSpec}
use Rattle.class_types.specs.declared.mapped.Attribute.{Attribute}
use Rattle.class_layouts.specs.declared.classes.Classes.{Classes}
use Rattle.class_layouts.specs.Columns.{attr_at, attribute_at, columns_in, is_above, is_attribute, is_key, is_key_column, is_owner, is_shown, is_table, lives_in, owner_of, table_attributes}
use Rattle.class_layouts.specs.Hierarchy.{line_of, no_class, root_in, same_root}
use Rattle.class_faults.specs.Faults.{is_discriminator, is_free_column, is_place, may_own, owns_rightly}
use Rattle.class_mapping.specs.Mapped.{Mapped, attributes_of, key_attributes, no_attribute, root_spec, root_table, tables_of}
use Rattle.class_mapping.specs.Valid.{owns_freely}
use Rattle.class_mapping.proofs.Having.{Has, all_from, all_of, any_has, found_of, from_filter, from_flat, from_numbered, has_at, one_of_name, some_of}
use Rattle.class_mapping.proofs.Lists.{three_parts}
use Rattle.class_mapping.proofs.PlainLemmas.{two_named}
use Rattle.object_arena.specs.Fit.{is_just_of_kind, key_fits}
use Rattle.mapping_laws.specs.Hierarchies.{HasHierarchies, HasTables, kinds_of}
use Rattle.mapping_laws.proofs.Attributes.{IsOfColumn, numbered_there, of_column}
use Rattle.mapping_laws.proofs.Tables.{not_zero, tables_declared}
use Rattle.mapping_laws.proofs.Ties.{table_faultless}
use Rattle.mapping_laws.proofs.KeyColumns.{kinds_placed}

-- ---- no class owns a column of a key

not_both : {A : Type 0} (b : Bool) → b ≡ true → not b ≡ true → A
not_both true h g = absurd cc
not_both false h g = absurd cc

-- the column of a name is of the key, where no two columns have one name
not_free : {A : Type 0} (columns : List ColumnSpec) (column : ColumnSpec) → some_two (λ one other. same_name one.name other.name) columns ≡ false → Has columns column → column.key ≡ true
    → is_free_column (find (λ other. same_name other.name column.name) columns) ≡ true → A
not_free columns column apart has key free =
    let named : ColumnSpec → Bool = λ other. same_name other.name column.name in
    let found = found_of named columns (any_has named columns column has (name_itself column.name)) in
    let same : found.0 ≡ column = one_of_name (λ (one : ColumnSpec). one.name) columns found.0 column (two_named columns ∙ apart) found.2 has (same_names found.0.name column.name found.3) in
    not_both column.key key (ap (λ (one : ColumnSpec). not one.key) (sym same) ∙ ap is_free_column (sym found.1) ∙ free)

free_by : (tables : List TableSpec) (classes : Classes) (class : ℕ) (root : Option ClassId) (name : List ℕ) (table : TableId) (found : Option TableId) → is_table found table ≡ true
    → may_own tables classes class root name found ≡ true → is_free_column (find (λ column. same_name column.name name) (columns_in tables table)) ≡ true
free_by tables classes class root name table None h g = absurd cc
free_by tables classes class root name table (Some found) h g =
    let same : found.0 ≡ table.0 = eqb-true found.0 table.0 h in
    ap (λ (n : ℕ). is_free_column (find (λ column. same_name column.name name) (get_or tables n no_table).columns)) (sym same)
    ∙ three_parts (is_free_column (find (λ column. same_name column.name name) (columns_in tables found))) (not (is_discriminator tables classes root found name))
    (is_place (owner_of tables classes root found name) class) g (λ p q r. p)

-- what a class owns of the table in which it lives is no column of the key
owned_free : (mapped : Mapped) (table : TableId) (name : List ℕ) (placed : ℕ × ClassSpec) → HasHierarchies mapped → Has (enumerate_from 0 mapped.classes.specs) placed → has_name placed.1.owned name ≡ true
    → is_table (lives_in mapped.schema.tables mapped.classes (line_of mapped.classes placed.0)) table ≡ true
    → is_free_column (find (λ column. same_name column.name name) (columns_in mapped.schema.tables table)) ≡ true
owned_free mapped table name placed has there owns lives =
    let tables : List TableSpec = mapped.schema.tables in
    let freely : list_all (owns_rightly tables mapped.classes placed.0) placed.1.owned ≡ true = all_of (owns_freely tables mapped.classes) (enumerate_from 0 mapped.classes.specs) placed has.valid.owned there in
    let found = some_of (λ other. same_name other name) placed.1.owned owns in
    let named : found.0 ≡ name = same_names found.0 name found.2 in
    let rightly : owns_rightly tables mapped.classes placed.0 name ≡ true =
    ap (owns_rightly tables mapped.classes placed.0) (sym named) ∙ all_of (owns_rightly tables mapped.classes placed.0) placed.1.owned found.0 freely found.1 in
    free_by tables mapped.classes placed.0 (root_in (line_of mapped.classes placed.0)) name table (lives_in tables mapped.classes (line_of mapped.classes placed.0)) lives rightly

key_shown_by : (mapped : Mapped) (table : TableId) (column : ColumnSpec) (root : Option ClassId) (line : List ClassId) (owner : Option ℕ) → HasHierarchies mapped → table.0 < length mapped.schema.tables
    → Has (columns_in mapped.schema.tables table) column → column.key ≡ true → owner_of mapped.schema.tables mapped.classes root table column.name ≡ owner → is_above owner line ≡ true
key_shown_by mapped table column root line None has less there key e = refl
key_shown_by mapped table column root line (Some place) has less there key e =
    let tables : List TableSpec = mapped.schema.tables in
    let specs : List (ℕ × ClassSpec) = enumerate_from 0 mapped.classes.specs in
    let owns : ℕ × ClassSpec → Bool = is_owner tables mapped.classes root table column.name in
    let found = position-Some owns specs place (0, no_class) e in
    let placed : ℕ × ClassSpec = get_or specs place (0, no_class) in
    let stands : Has specs placed = has_at specs place placed (slice_get-get_or specs place (0, no_class) found.0) in
    three_parts (has_name placed.1.owned column.name) (same_root root (root_in (line_of mapped.classes placed.0))) (is_table (lives_in tables mapped.classes (line_of mapped.classes placed.0)) table) found.1
    (λ p q r. not_free (columns_in tables table) column (table_faultless mapped table has less).apart there key (owned_free mapped table column.name placed has stands p r))

-- a column of the key is shown to each class
key_shown : (mapped : Mapped) (table : TableId) (column : ColumnSpec) (line : List ClassId) → HasHierarchies mapped → table.0 < length mapped.schema.tables
    → Has (columns_in mapped.schema.tables table) column → column.key ≡ true → is_shown mapped.schema.tables mapped.classes line table column.name ≡ true
key_shown mapped table column line has less there key =
    key_shown_by mapped table column (root_in line) line (owner_of mapped.schema.tables mapped.classes (root_in line) table column.name) has less there key refl

-- ---- attributes that are numbered

AreNumbered : List Attribute → List (ℕ × Attribute) → Type 0
AreNumbered all placed = AllByRecursion (λ (one : ℕ × Attribute). slice_get all one.0 ≡ Some one.1) placed

abbrev kinds_in : List Attribute → List Kind
kinds_in attributes = map (λ (a : Attribute). a.kind) attributes

abbrev kind_at : List Attribute → AttrNo → Kind
kind_at all attr = (get_or all attr.0 no_attribute).kind

kinds_at : (all : List Attribute) (placed : List (ℕ × Attribute)) → AllByRecursion (λ (one : ℕ × Attribute). slice_get all one.0 ≡ Some one.1) placed
    → map (kind_at all) (map attr_at placed) ≡ map (λ (one : ℕ × Attribute). one.1.kind) placed
kinds_at all [] h = refl
kinds_at all (one ∷ placed) h =
    ap (λ (kind : Kind). kind ∷ map (kind_at all) (map attr_at placed)) (ap (λ (a : Attribute). a.kind) (get_or_from_slice_get all one.0 one.1 no_attribute h.0))
    ∙ ap (λ (kinds : List Kind). one.1.kind ∷ kinds) (kinds_at all placed h.1)

both_kept : (b : Bool) (one : ℕ × Attribute) (placed : List (ℕ × Attribute)) (attributes : List Attribute) → map (λ (o : ℕ × Attribute). o.1.kind) placed ≡ kinds_in attributes
    → map (λ (o : ℕ × Attribute). o.1.kind) (cond b (one ∷ placed) placed) ≡ kinds_in (cond b (one.1 ∷ attributes) attributes)
both_kept true one placed attributes h = ap (λ (kinds : List Kind). one.1.kind ∷ kinds) h
both_kept false one placed attributes h = h

unnumbered : (test : Attribute → Bool) (n : ℕ) (attributes : List Attribute)
    → map (λ (one : ℕ × Attribute). one.1.kind) (filter (λ placed. test placed.1) (enumerate_from n attributes)) ≡ kinds_in (filter test attributes)
unnumbered test n [] = refl
unnumbered test n (a ∷ attributes) = both_kept (test a) (n, a) (filter (λ placed. test placed.1) (enumerate_from (n + 1) attributes)) (filter test attributes) (unnumbered test (n + 1) attributes)

pub numbered_at : (all : List Attribute) (placed : ℕ × Attribute) → Has (enumerate_from 0 all) placed → slice_get all placed.0 ≡ Some placed.1
numbered_at all placed has =
    let found = from_numbered 0 all placed has in
    let same : placed.0 ≡ found.0 = omega (arith, found.1) in
    ap (slice_get all) same ∙ found.2

-- the kinds of the attributes of the key
passed_kinds : (all : List Attribute) (test : Attribute → Bool) → map (kind_at all) (map attr_at (filter (λ placed. test placed.1) (enumerate_from 0 all))) ≡ kinds_in (filter test all)
passed_kinds all test =
    kinds_at all (filter (λ placed. test placed.1) (enumerate_from 0 all))
    (all_from (λ (one : ℕ × Attribute). slice_get all one.0 ≡ Some one.1) (filter (λ placed. test placed.1) (enumerate_from 0 all)) (λ one there.
    numbered_at all one (from_filter (λ (o : ℕ × Attribute). test o.1) (enumerate_from 0 all) one there).0))
    ∙ unnumbered test 0 all

-- ---- the attributes of a table of the class

-- whether it is of the key its column says
pub key_by_column : (mapped : Mapped) (line : List ClassId) (ranked : ℕ × TableId) (attribute : Attribute) (of : IsOfColumn mapped line ranked attribute) → is_key mapped.schema.tables attribute ≡ of.placed.1.key
key_by_column mapped line ranked attribute of = ap (is_key mapped.schema.tables) (sym of.is) ∙ ap is_key_column of.there

hidden : (first shown : Bool) (key : Bool) → first ≡ false → ((first || not key) && shown) ≡ true → key ≡ false
hidden true shown key e h = absurd cc
hidden false shown true e h = absurd cc
hidden false shown false e h = refl

-- no attribute of a table behind the root's is of the key
pub no_later_key : (mapped : Mapped) (line : List ClassId) (n k : ℕ) (rest : List TableId) (attribute : Attribute) → n ≡ suc k
    → Has (flat_map (table_attributes mapped.schema.tables mapped.classes line) (enumerate_from n rest)) attribute → is_key mapped.schema.tables attribute ≡ false
no_later_key mapped line n k rest attribute e there =
    let found = from_flat (table_attributes mapped.schema.tables mapped.classes line) (enumerate_from n rest) attribute there in
    let ranked : ℕ × TableId = found.0 in
    let numbered = from_numbered n rest ranked found.1 in
    let later : ranked.0 ≡ suc (k + numbered.0) = omega (arith, e, numbered.1) in
    let of : IsOfColumn mapped line ranked attribute = of_column mapped line ranked attribute found.2 in
    key_by_column mapped line ranked attribute of
    ∙ hidden (ranked.0 == 0) (is_shown mapped.schema.tables mapped.classes line ranked.1 of.placed.1.name) of.placed.1.key (not_zero ranked.0 (k + numbered.0) later) of.shown

none_kept : {A : Type 0} (test : A → Bool) (xs : List A) → ((x : A) → Has xs x → test x ≡ false) → filter test xs ≡ []
none_kept test [] f = refl
none_kept test (x ∷ xs) f = ap (λ (b : Bool). cond b (x ∷ filter test xs) (filter test xs)) (f x (inl refl)) ∙ none_kept test xs (λ y there. f y (inr there))

-- ---- the attributes of the root's table

module _ (mapped : Mapped) (table : TableId) (line : List ClassId) (has : HasHierarchies mapped) (less : table.0 < length mapped.schema.tables) where
  abbrev tables : List TableSpec
  tables = mapped.schema.tables

  abbrev shown : ℕ × ColumnSpec → Bool
  shown placed = is_attribute tables mapped.classes line 0 table placed.1

  abbrev Stands : ℕ × ColumnSpec → Type 0
  Stands placed = slice_get (columns_in tables table) placed.0 ≡ Some placed.1

  abbrev kinds_placed_at : List (ℕ × ColumnSpec) → List Kind
  kinds_placed_at placed = map (λ (one : ℕ × ColumnSpec). kind_of one.1.kind) placed

  step : (b k : Bool) (one : ℕ × ColumnSpec) (kept keyed : List (ℕ × ColumnSpec)) → (k ≡ true → b ≡ true) → is_key tables (attribute_at table one) ≡ k
      → kinds_in (filter (is_key tables) (map (attribute_at table) kept)) ≡ kinds_placed_at keyed
      → kinds_in (filter (is_key tables) (map (attribute_at table) (cond b (one ∷ kept) kept))) ≡ kinds_placed_at (cond k (one ∷ keyed) keyed)
  step true true one kept keyed f e h =
      let rest : List Attribute = filter (is_key tables) (map (attribute_at table) kept) in
      ap (λ (c : Bool). kinds_in (cond c (attribute_at table one ∷ rest) rest)) e ∙ ap (λ (kinds : List Kind). kind_of one.1.kind ∷ kinds) h
  step true false one kept keyed f e h =
      let rest : List Attribute = filter (is_key tables) (map (attribute_at table) kept) in
      ap (λ (c : Bool). kinds_in (cond c (attribute_at table one ∷ rest) rest)) e ∙ h
  step false true one kept keyed f e h = let never : false ≡ true = f refl in absurd cc
  step false false one kept keyed f e h = h

  keyed_kinds : (placed : List (ℕ × ColumnSpec)) → AllByRecursion Stands placed
      → kinds_in (filter (is_key tables) (map (attribute_at table) (filter shown placed))) ≡ kinds_placed_at (filter (λ one. one.1.key) placed)
  keyed_kinds [] h = refl
  keyed_kinds (one ∷ placed) h =
      step (shown one) one.1.key one (filter shown placed) (filter (λ other. other.1.key) placed)
      (λ key. key_shown mapped table one.1 line has less (has_at (columns_in tables table) one.0 one.1 h.0) key)
      (ap is_key_column h.0) (keyed_kinds placed h.1)

  table_kinds : kinds_in (filter (is_key tables) (table_attributes tables mapped.classes line (0, table))) ≡ kinds_of (filter (λ column. column.key) (columns_in tables table))
  table_kinds =
      keyed_kinds (enumerate_from 0 (columns_in tables table))
      (all_from Stands (enumerate_from 0 (columns_in tables table)) (λ placed there. numbered_there (columns_in tables table) placed there))
      ∙ kinds_placed 0 (columns_in tables table)

-- ---- the key of a class

-- the attributes of a class: those of its root's table, and those of the others
pub attributes_split : (mapped : Mapped) (class : ClassId) (known : HasTables mapped class) → attributes_of mapped class
    ≡ table_attributes mapped.schema.tables mapped.classes (line_of mapped.classes class.0) (0, root_table mapped class)
    ++ flat_map (table_attributes mapped.schema.tables mapped.classes (line_of mapped.classes class.0)) (enumerate_from 1 known.rest)
attributes_split mapped class known =
    ap (λ (own : List TableId). flat_map (table_attributes mapped.schema.tables mapped.classes (line_of mapped.classes class.0)) (enumerate_from 0 own)) known.first

pub root_declared : (mapped : Mapped) (class : ClassId) → HasTables mapped class → (root_table mapped class).0 < length mapped.schema.tables
root_declared mapped class known =
    tables_declared mapped class (root_table mapped class) (has_at (tables_of mapped class) 0 (root_table mapped class) (ap (λ (own : List TableId). slice_get own 0) known.first))

-- the kinds of the attributes of the key are those of the key columns of the root's table, in order
pub key_kinds : (mapped : Mapped) (class : ClassId) → HasHierarchies mapped → HasTables mapped class
    → map (kind_at (attributes_of mapped class)) (key_attributes mapped class) ≡ kinds_of (key_columns (root_spec mapped class))
key_kinds mapped class has known =
    let tables : List TableSpec = mapped.schema.tables in
    let line : List ClassId = line_of mapped.classes class.0 in
    let first : List Attribute = table_attributes tables mapped.classes line (0, root_table mapped class) in
    let later : List Attribute = flat_map (table_attributes tables mapped.classes line) (enumerate_from 1 known.rest) in
    passed_kinds (attributes_of mapped class) (is_key tables)
    ∙ ap (λ (all : List Attribute). kinds_in (filter (is_key tables) all)) (attributes_split mapped class known)
    ∙ ap kinds_in (filter-append (is_key tables) first later)
    ∙ ap (λ (none : List Attribute). kinds_in (filter (is_key tables) first ++ none)) (none_kept (is_key tables) later (λ a there. no_later_key mapped line 1 0 known.rest a refl there))
    ∙ ap kinds_in (append-nil (filter (is_key tables) first))
    ∙ table_kinds mapped (root_table mapped class) line has (root_declared mapped class known)

-- ---- keys

abbrev pub is_just : Kind → Value → Bool
is_just kind v = is_just_of_kind kind (kind_of_value v)

pointwise_by : {A B C : Type 0} (f : A → B) (test : B → C → Bool) (xs : List A) (ys : List C) → pointwise (λ x y. test (f x) y) xs ys ≡ pointwise test (map f xs) ys
pointwise_by f test [] [] = refl
pointwise_by f test [] (y ∷ ys) = refl
pointwise_by f test (x ∷ xs) [] = refl
pointwise_by f test (x ∷ xs) (y ∷ ys) = ap (λ (b : Bool). test (f x) y && b) (pointwise_by f test xs ys)

one_key : (column : ColumnSpec) (found : Option Kind) → column.key ≡ true → is_just_of_kind (kind_of column.kind) found ≡ fits_kind column found
one_key column None key = sym (ap not (or_right column.not_null column.key key))
one_key column (Some found) key = refl

columns_fit : (columns : List ColumnSpec) (key : List Value) → AllByRecursion (λ column. column.key ≡ true) columns → pointwise is_just (kinds_of columns) key ≡ pointwise fits columns key
columns_fit [] [] h = refl
columns_fit [] (v ∷ key) h = refl
columns_fit (column ∷ columns) [] h = refl
columns_fit (column ∷ columns) (v ∷ key) h =
    ap (λ (b : Bool). b && pointwise is_just (kinds_of columns) key) (one_key column (kind_of_value v) h.0) ∙ ap (λ (b : Bool). fits column v && b) (columns_fit columns key h.1)

-- a key of a class is one of its root's table
pub keys_alike : (mapped : Mapped) (class : ClassId) (key : List Value) → HasHierarchies mapped → HasTables mapped class → key_fits mapped class key ≡ fits_table (root_spec mapped class) key
keys_alike mapped class key has known =
    let columns : List ColumnSpec = (root_spec mapped class).columns in
    pointwise_by (kind_at (attributes_of mapped class)) is_just (key_attributes mapped class) key
    ∙ ap (λ (kinds : List Kind). pointwise is_just kinds key) (key_kinds mapped class has known)
    ∙ columns_fit (filter (λ column. column.key) columns) key
    (all_from (λ (column : ColumnSpec). column.key ≡ true) (filter (λ column. column.key) columns) (λ column there. (from_filter (λ (one : ColumnSpec). one.key) columns column there).1))
