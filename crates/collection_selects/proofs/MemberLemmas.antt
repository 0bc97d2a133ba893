-- The selects of the members of one-to-many collections are plain.
use Rattle.std.proofs.Common.{◌≡◌, ℕ, zero, suc, ◌<◌, Bool, true, false, ◌&&◌, ◌==◌, List, [], ◌∷◌, map, length, get_or, Option, Some, None, refl, sym, ap, subst, ◌∙◌, if◌then◌else◌, arith}
use Rattle.std.specs.Prelude.{slice_get, unwrap_or}
use Rattle.std.specs.List.{All, AllByRecursion, list_all, position}
use Rattle.std.specs.Cmp.Lexicographic.{pointwise}
use Rattle.std.proofs.lemmas.Bool.{and_parts, eqb-true}
use Rattle.std.proofs.lemmas.List.Elements.{recursion_from_All}
use Rattle.std.proofs.lemmas.Option.{same_Some, slice_get-get_or, slice_get_within}
use Rattle.base_core.specs.declared.ids.ClassId.{ClassId}
use Rattle.base_core.specs.declared.ids.TableId.{TableId}
use Rattle.base_core.specs.declared.value.Kind.{Kind}
use Rattle.base_core.specs.declared.value.Value.{Value}
use Rattle.schema_core.specs.declared.table.ColumnSpec.{ColumnSpec}
use Rattle.schema_core.specs.declared.table.ForeignSpec.{ForeignSpec}
use Rattle.schema_core.specs.declared.table.TableSpec.{TableSpec}
use Rattle.schema_core.specs.Catalog.{find_table, key_columns, kind_of, no_table, same_kind, same_name, spec_of}
use Rattle.schema_core.specs.Declaration.{has_kind, has_target, some_two}
use Rattle.schema_core.specs.WellFormed.{is_key}
use Rattle.schema_core.proofs.Names.{same_names}
use Rattle.expr_types.specs.declared.expr.Origin.{Origin}
use Rattle.sql_semantics.specs.Plain.{IsPlainSelect}
use Rattle.sql_semantics.proofs.Typed.{same_kind_is}
use Rattle.class_types.specs.declared.mapped.Relation.{Relation}
use Rattle.class_layouts.specs.Columns.{is_table}
use Rattle.class_layouts.specs.Faults.{foreigns_of}
use Rattle.class_sides.specs.Keys.{TableKey, columns_at as names_in, foreign_at, names_of, refers_to}
use Rattle.class_sides.specs.Sides.{has_attribute}
use Rattle.class_mapping.specs.Mapped.{IsClass, Mapped, layout_of, root_spec, root_table, table_or_none, tables_of}
use Rattle.class_mapping.specs.Related.{IsRelated, has_keys}
use Rattle.class_mapping.specs.Valid.{is_among, joins, refers_by}
use Rattle.class_mapping.proofs.Having.{Has, all_of, any_has, found_of, has_at, one_of_name, some_of}
use Rattle.class_mapping.proofs.PlainLemmas.{two_named}
use Rattle.class_mapping.proofs.RelatedKeys.{table_found}
use Rattle.load_columns.specs.declared.placing.SourceColumn.{SourceColumn}
use Rattle.load_columns.specs.Conditions.{has_one_of, has_values}
use Rattle.load_columns.specs.Placing.{column_named, columns_at, foreign_numbers, from_root, place_of_table, rank_of, referred_table, target_in}
use Rattle.collection_selects.specs.Collections.{batch_by, batch_select, owner_columns, referring_members}
use Rattle.mapping_laws.specs.Hierarchies.{HasHierarchies, HasTables, kinds_of}
use Rattle.mapping_laws.proofs.Tables.{tables_declared}
use Rattle.mapping_laws.proofs.Ties.{class_tables, table_faultless, target_by}
use Rattle.mapping_laws.proofs.Told.{place_of_found}
use Rattle.collection_selects.proofs.ClassLemmas.{root_placed, rows_plain, sources_by}
use Rattle.collection_selects.proofs.Keys.{IsAt, column_there, key_fits, key_some}
use Rattle.collection_selects.proofs.Placed.{rank_finds}
use Rattle.collection_selects.proofs.Standing.{IsThere}
use Rattle.collection_selects.proofs.Typed.{AreTyped, fit_kinds, one_of_stands, typed_long, values_stand}

-- ---- the columns of a foreign key

-- the column of a name that is of a kind
named_there : (mapped : Mapped) (sources : List Origin) (place : ℕ) (table : TableId) (name : List ℕ) (target : ColumnSpec) → IsAt sources place table
    → some_two (λ one other. same_name one.name other.name) (spec_of mapped.schema table).columns ≡ false → has_kind (spec_of mapped.schema table).columns name target ≡ true
    → IsThere mapped.schema sources place (column_named mapped table name) (kind_of target.kind)
named_there mapped sources place table name target at apart h =
    let columns : List ColumnSpec = (spec_of mapped.schema table).columns in
    let named : ColumnSpec → Bool = λ column. same_name column.name name in
    let one = some_of (λ (column : ColumnSpec). same_name column.name name && same_kind (kind_of column.kind) (kind_of target.kind)) columns h in
    let parts = and_parts (same_name one.0.name name) (same_kind (kind_of one.0.kind) (kind_of target.kind)) one.2 in
    let found = found_of named columns (any_has named columns one.0 one.1 parts.0) in
    let same : found.0 ≡ one.0 =
    one_of_name (λ (column : ColumnSpec). column.name) columns found.0 one.0 (two_named columns ∙ apart) found.2 one.1
    (same_names found.0.name name found.3 ∙ sym (same_names one.0.name name parts.0)) in
    let alike : kind_of found.0.kind ≡ kind_of target.kind = ap (λ (column : ColumnSpec). kind_of column.kind) same ∙ same_kind_is (kind_of one.0.kind) (kind_of target.kind) parts.1 in
    subst (IsThere mapped.schema sources place (column_named mapped table name)) alike
    (column_there mapped.schema sources place table (column_named mapped table name) found.0 at (place_of_found named columns found.0 found.1))

names_typed : (mapped : Mapped) (sources : List Origin) (place : ℕ) (table : TableId) (names : List (List ℕ)) (targets : List ColumnSpec) → IsAt sources place table
    → some_two (λ one other. same_name one.name other.name) (spec_of mapped.schema table).columns ≡ false → pointwise (has_kind (spec_of mapped.schema table).columns) names targets ≡ true
    → AreTyped mapped.schema sources (columns_at place (map (column_named mapped table) names)) (kinds_of targets)
names_typed mapped sources place table [] [] at apart h = tt
names_typed mapped sources place table [] (target ∷ targets) at apart h = absurd cc
names_typed mapped sources place table (name ∷ names) [] at apart h = absurd cc
names_typed mapped sources place table (name ∷ names) (target ∷ targets) at apart h =
    let parts = and_parts (has_kind (spec_of mapped.schema table).columns name target) (pointwise (has_kind (spec_of mapped.schema table).columns) names targets) h in
    (named_there mapped sources place table name target at apart parts.0, names_typed mapped sources place table names targets at apart parts.1)

-- ---- the keys of a class's tables are all of the kinds of its root's

pub kinds_along : (mapped : Mapped) (class : ClassId) → HasTables mapped class → (n : ℕ) (table : TableId) → slice_get (tables_of mapped class) n ≡ Some table
    → kinds_of (key_columns (root_spec mapped class)) ≡ kinds_of (key_columns (spec_of mapped.schema table))
kinds_along mapped class known zero table e =
    let first : root_table mapped class ≡ table = same_Some (root_table mapped class) table (sym (ap (λ (tables : List TableId). slice_get tables 0) known.first) ∙ e) in
    ap (λ (one : TableId). kinds_of (key_columns (spec_of mapped.schema one))) first
kinds_along mapped class known (suc n) table e =
    let less = slice_get_within (tables_of mapped class) (suc n) table e in
    let within : n < length (tables_of mapped class) = omega (arith, less) in
    let parent : TableId = get_or (tables_of mapped class) n table in
    let above : slice_get (tables_of mapped class) n ≡ Some parent = slice_get-get_or (tables_of mapped class) n table within in
    kinds_along mapped class known n parent above ∙ known.alike n parent table above e

-- where a table stands in a list
pub place_in : (tables : List TableId) (table : TableId) → Has tables table → (n : ℕ) × (slice_get tables n ≡ Some table)
place_in tables table has = (unwrap_or (position (λ other. other.0 == table.0) tables) 0, rank_finds tables table has)

-- ---- the foreign key of a one-to-many relationship

-- the foreign key of a table refers to one of the tables of a class
pub record RefersTo (mapped : Mapped) (key : TableKey) (class : ClassId) : Type 0 where
  pub foreign : ForeignSpec
  pub is : foreign_at mapped.schema.tables key ≡ Some foreign
  pub table : TableId
  pub inside : Has (tables_of mapped class) table
  pub target : is_table (find_table mapped.schema.tables foreign.target) table ≡ true

pub referred : (mapped : Mapped) (key : TableKey) (class : ClassId) (found : Option ForeignSpec) → foreign_at mapped.schema.tables key ≡ found → refers_by mapped.schema.tables (tables_of mapped class) found ≡ true → RefersTo mapped key class
referred mapped key class None e h = absurd cc
referred mapped key class (Some foreign) e h =
    let found = some_of (refers_to mapped.schema.tables foreign) (tables_of mapped class) h in
    record { foreign = foreign; is = e; table = found.0; inside = found.1; target = found.2 }

-- the kinds of its columns are those of the key to which it refers
pub foreign_kinds : (mapped : Mapped) (key : TableKey) (class : ClassId) → HasHierarchies mapped → key.0.0 < length mapped.schema.tables → (to : RefersTo mapped key class)
    → pointwise (has_kind (spec_of mapped.schema key.0).columns) to.foreign.columns (key_columns (spec_of mapped.schema to.table)) ≡ true
foreign_kinds mapped key class has less to =
    let tables : List TableSpec = mapped.schema.tables in
    let spec : TableSpec = spec_of mapped.schema key.0 in
    let here : slice_get tables key.0.0 ≡ Some spec = slice_get-get_or tables key.0.0 no_table less in
    let there : Has spec.foreigns to.foreign = has_at spec.foreigns key.1 to.foreign (ap (λ (found : Option TableSpec). slice_get (foreigns_of found) key.1) (sym here) ∙ to.is) in
    let all : list_all (has_target tables spec) spec.foreigns ≡ true = all_of (λ (one : TableSpec). list_all (has_target tables one) one.foreigns) tables spec has.valid.targets (has_at tables key.0.0 spec here) in
    target_by tables spec to.foreign to.table (find_table tables to.foreign.target) to.target (all_of (has_target tables spec) spec.foreigns to.foreign all there)

pub among_has : (tables : List TableId) (table : TableId) → is_among tables table ≡ true → Has tables table
among_has tables table h =
    let found = some_of (λ (other : TableId). other.0 == table.0) tables h in
    let same : found.0 ≡ table = ap (λ (n : ℕ). let one : TableId = record { 0 = n } in one) (eqb-true found.0.0 table.0 found.2) in
    subst (Has tables) same found.1

-- the table of a foreign key is declared
within_by : (tables : List TableSpec) (place n : ℕ) (foreign : ForeignSpec) (found : Option TableSpec) → slice_get tables place ≡ found → slice_get (foreigns_of found) n ≡ Some foreign → place < length tables
within_by tables place n foreign None e h = absurd cc
within_by tables place n foreign (Some spec) e h = slice_get_within tables place spec e

pub referring_within : (mapped : Mapped) (key : TableKey) (class : ClassId) → RefersTo mapped key class → key.0.0 < length mapped.schema.tables
referring_within mapped key class to = within_by mapped.schema.tables key.0.0 key.1 to.foreign (slice_get mapped.schema.tables key.0.0) refl to.is

-- the table to which it refers
pub referred_is : (mapped : Mapped) (key : TableKey) (class : ClassId) (to : RefersTo mapped key class) → referred_table mapped key ≡ to.table
referred_is mapped key class to =
    ap (target_in mapped.schema.tables) to.is ∙ ap table_or_none (table_found (find_table mapped.schema.tables to.foreign.target) to.table to.target)

-- its columns have the kinds of the key to which it refers, wherever its table stands
pub foreign_typed : (mapped : Mapped) (sources : List Origin) (place : ℕ) (key : TableKey) (class : ClassId) → HasHierarchies mapped → (to : RefersTo mapped key class) → IsAt sources place key.0
    → AreTyped mapped.schema sources (columns_at place (foreign_numbers mapped key)) (kinds_of (key_columns (spec_of mapped.schema to.table)))
foreign_typed mapped sources place key class has to at =
    let declared = referring_within mapped key class to in
    let targets : List ColumnSpec = key_columns (spec_of mapped.schema to.table) in
    subst (λ (found : Option ForeignSpec). AreTyped mapped.schema sources (columns_at place (map (column_named mapped key.0) (names_in found))) (kinds_of targets)) (sym to.is)
    (names_typed mapped sources place key.0 to.foreign.columns targets at (table_faultless mapped key.0 has declared).apart (foreign_kinds mapped key class has declared to))

-- the key of the root of the class to which it refers has the same kinds
pub owned_kinds : (mapped : Mapped) (key : TableKey) (class : ClassId) → HasTables mapped class → (to : RefersTo mapped key class)
    → kinds_of (key_columns (root_spec mapped class)) ≡ kinds_of (key_columns (spec_of mapped.schema to.table))
owned_kinds mapped key class known to = let spot = place_in (tables_of mapped class) to.table to.inside in kinds_along mapped class known spot.0 to.table spot.1

-- what the owner's columns of a one-to-many relationship have
pub record AreOwners (mapped : Mapped) (relation : Relation) : Type 0 where
  pub kinds : List Kind
  pub typed : AreTyped mapped.schema (sources_by (tables_of mapped relation.target)) (owner_columns mapped relation) kinds
  pub owned : kinds_of (key_columns (root_spec mapped relation.class)) ≡ kinds

owners_by : (mapped : Mapped) (relation : Relation) → HasHierarchies mapped → IsClass mapped relation.class → IsClass mapped relation.target
    → joins mapped.schema.tables (Some (layout_of mapped relation.target)) (Some (layout_of mapped relation.class)) relation.foreign ≡ true → AreOwners mapped relation
owners_by mapped relation has less target h =
    let tables : List TableSpec = mapped.schema.tables in
    let key : TableKey = relation.foreign in
    let own : List TableId = tables_of mapped relation.target in
    let split = and_parts (is_among own key.0 && list_all (has_attribute (layout_of mapped relation.target).attributes key.0) (names_of tables key)) (refers_by tables (tables_of mapped relation.class) (foreign_at tables key)) h in
    let first = and_parts (is_among own key.0) (list_all (has_attribute (layout_of mapped relation.target).attributes key.0) (names_of tables key)) split.0 in
    let inside : Has own key.0 = among_has own key.0 first.0 in
    let to = referred mapped key relation.class (foreign_at tables key) refl split.1 in
    let known = class_tables mapped relation.target has target in
    let at : IsAt (sources_by own) (place_of_table mapped relation.target (from_root 0) key.0) key.0 =
    root_placed mapped relation.target has target known (rank_of mapped relation.target key.0) key.0 (rank_finds own key.0 inside) in
    record {
      kinds = kinds_of (key_columns (spec_of mapped.schema to.table));
      typed = foreign_typed mapped (sources_by own) (place_of_table mapped relation.target (from_root 0) key.0) key relation.class has to at;
      owned = owned_kinds mapped key relation.class (class_tables mapped relation.class has less) to;
    }

-- ---- the selects

owners_of : (mapped : Mapped) (relation : Relation) → HasHierarchies mapped → IsRelated mapped relation → relation.many ≡ true → relation.far ≡ None → AreOwners mapped relation
owners_of mapped relation has related many far =
    let keys : has_keys mapped relation None ≡ true = ap (has_keys mapped relation) (sym far) ∙ related.keys in
    owners_by mapped relation has related.class related.target
    (ap (λ (b : Bool). joins mapped.schema.tables (Some (layout_of mapped (if b then relation.target else relation.class))) (Some (layout_of mapped (if b then relation.class else relation.target))) relation.foreign) (sym many) ∙ keys)

pub referring_are_plain : (mapped : Mapped) (relation : Relation) (key : List Value) → HasHierarchies mapped → IsRelated mapped relation → relation.many ≡ true → relation.far ≡ None
    → is_key (root_spec mapped relation.class) key ≡ true → IsPlainSelect mapped.schema (referring_members mapped relation key)
referring_are_plain mapped relation key has related many far h =
    let known = class_tables mapped relation.target has related.target in
    let owners = owners_of mapped relation has related many far in
    let fit : fit_kinds owners.kinds key ≡ true = ap (λ (kinds : List Kind). fit_kinds kinds key) (sym owners.owned) ∙ key_fits mapped (root_table mapped relation.class) key h in
    rows_plain mapped relation.target has related.target known (has_values (owner_columns mapped relation) key)
    (values_stand mapped.schema (sources_by (tables_of mapped relation.target)) (owner_columns mapped relation) owners.kinds key owners.typed fit)

all_fit : (mapped : Mapped) (class : ClassId) (kinds : List Kind) (keys : List (List Value)) → kinds_of (key_columns (root_spec mapped class)) ≡ kinds → AllByRecursion (λ key. is_key (root_spec mapped class) key ≡ true) keys
    → AllByRecursion (λ key. fit_kinds kinds key ≡ true) keys
all_fit mapped class kinds [] owned h = tt
all_fit mapped class kinds (key ∷ keys) owned h = (ap (λ (ks : List Kind). fit_kinds ks key) (sym owned) ∙ key_fits mapped (root_table mapped class) key h.0, all_fit mapped class kinds keys owned h.1)

pub batches_are_plain : (mapped : Mapped) (relation : Relation) (keys : List (List Value)) → HasHierarchies mapped → IsRelated mapped relation → relation.many ≡ true → relation.far ≡ None
    → 0 < length keys → All (λ key. is_key (root_spec mapped relation.class) key ≡ true) keys → IsPlainSelect mapped.schema (batch_select mapped relation keys)
unfolding batch_select
batches_are_plain mapped relation keys has related many far some h =
    let known = class_tables mapped relation.target has related.target in
    let owner = class_tables mapped relation.class has related.class in
    let owners = owners_of mapped relation has related many far in
    let columns : List SourceColumn = owner_columns mapped relation in
    let first = has_at (tables_of mapped relation.class) 0 (root_table mapped relation.class) (ap (λ (tables : List TableId). slice_get tables 0) owner.first) in
    let keyed = (table_faultless mapped (root_table mapped relation.class) has (tables_declared mapped relation.class (root_table mapped relation.class) first)).keyed in
    let wide : 0 < length owners.kinds = subst (λ (kinds : List Kind). 0 < length kinds) owners.owned (key_some (root_spec mapped relation.class).columns keyed) in
    let long = typed_long mapped.schema (sources_by (tables_of mapped relation.target)) columns owners.kinds owners.typed in
    let columned : 0 < length columns = omega (arith, wide, long) in
    subst (λ (end : Option TableKey). IsPlainSelect mapped.schema (batch_by mapped relation keys end)) (sym far)
    (rows_plain mapped relation.target has related.target known (has_one_of columns keys)
    (one_of_stands mapped.schema (sources_by (tables_of mapped relation.target)) columns owners.kinds keys columned some owners.typed
    (all_fit mapped relation.class owners.kinds keys owners.owned (recursion_from_All (λ (key : List Value). is_key (root_spec mapped relation.class) key ≡ true) keys h))))
