-- The discriminator of a hierarchy is a column of its root's table, and takes the identity of each class.
use Rattle.std.proofs.Common.{◌≡◌, inl, inr, ℕ, Bool, true, false, cond, not, ◌&&◌, ◌==◌, nat_lt, List, [], ◌∷◌, ◌∙◌, length, get_or, ap, sym, refl, Option, None, Some, is_some, is_none, arith}
use Rattle.std.specs.Prelude.{find, slice_get, unwrap_or}
use Rattle.std.specs.Option.{option_and_then}
use Rattle.std.specs.List.{list_any, position, position_or_len}
use Rattle.std.proofs.lemmas.Bool.{eqb-true, lt-ltb}
use Rattle.std.proofs.lemmas.List.Folds.{find_at}
use Rattle.std.proofs.lemmas.Option.{get_or_from_slice_get, same_Some, slice_get-get_or, slice_get_within}
use Rattle.base_core.specs.declared.ids.ClassId.{ClassId}
use Rattle.base_core.specs.declared.ids.TableId.{TableId}
use Rattle.base_core.specs.declared.value.Value.{Value}
use Rattle.schema_core.specs.declared.table.ColumnSpec.{ColumnSpec}
use Rattle.schema_core.specs.declared.table.ForeignSpec.{ForeignSpec}
use Rattle.schema_core.specs.declared.table.TableSpec.{TableSpec}
use Rattle.schema_core.specs.Catalog.{has_name, kind_of, same_name}
use Rattle.schema_core.specs.Tables.{kind_of_value}
use Rattle.class_types.specs.declared.declared.ClassSpec.{ClassSpec}
use Rattle.class_layouts.specs.Columns.{columns_in, named_table, own_table}
use Rattle.class_layouts.specs.Faults.{discriminator_in, discriminator_on, fails_discriminator, foreigns_in, has_kind, is_discriminating, root_table_on, takes_identity, takes_in}
use Rattle.class_layouts.specs.Hierarchy.{line_of, no_class, root_in}
use Rattle.class_mapping.specs.Lines.{is_root_over, is_rooted, spec_at}
use Rattle.class_mapping.specs.Mapped.{IsClass, Mapped, class_or, class_spec, root_of, root_spec, root_table, table_or_none}
use Rattle.class_mapping.specs.Paired.{is_at_or_under}
use Rattle.class_mapping.proofs.Having.{Has}
use Rattle.class_mapping.proofs.Lists.{and_right}
use Rattle.class_mapping.proofs.RelatedLemmas.{own_line}
use Rattle.mapping_laws.specs.Hierarchies.{HasHierarchies, TellsApart}
use Rattle.mapping_laws.proofs.Tables.{found_root, line_rooted, twice_not}

-- ---- the root of a class

first_by : (tables : List TableSpec) (specs : List ClassSpec) (class : ClassId) (line : List ClassId) → is_rooted tables specs line ≡ true → root_in line ≡ Some (class_or (root_in line) class)
first_by tables specs class [] h = absurd cc
first_by tables specs class (root ∷ line) h = refl

root_first : (mapped : Mapped) (class : ClassId) → HasHierarchies mapped → IsClass mapped class → root_in (line_of mapped.classes class.0) ≡ Some (root_of mapped class)
root_first mapped class has less = first_by mapped.schema.tables mapped.classes.specs class (line_of mapped.classes class.0) (line_rooted mapped class has less)

root_over : (mapped : Mapped) (class : ClassId) → HasHierarchies mapped → IsClass mapped class → is_root_over mapped.schema.tables (slice_get mapped.classes.specs (root_of mapped class).0) ≡ true
root_over mapped class has less =
    ap (λ (root : Option ClassId). is_root_over mapped.schema.tables (spec_at mapped.classes.specs root)) (sym (root_first mapped class has less)) ∙ line_rooted mapped class has less

declared_by : (tables : List TableSpec) (specs : List ClassSpec) (n : ℕ) (found : Option ClassSpec) → slice_get specs n ≡ found → is_root_over tables found ≡ true → slice_get specs n ≡ Some (get_or specs n no_class)
declared_by tables specs n None e h = absurd cc
declared_by tables specs n (Some spec) e h = e ∙ ap (λ (s : ClassSpec). Some s) (sym (get_or_from_slice_get specs n spec no_class e))

root_declared : (mapped : Mapped) (class : ClassId) → HasHierarchies mapped → IsClass mapped class → slice_get mapped.classes.specs (root_of mapped class).0 ≡ Some (class_spec mapped (root_of mapped class))
root_declared mapped class has less =
    declared_by mapped.schema.tables mapped.classes.specs (root_of mapped class).0 (slice_get mapped.classes.specs (root_of mapped class).0) refl (root_over mapped class has less)

-- its own table is the one that is known as its root's
own_root : (mapped : Mapped) (class : ClassId) → HasHierarchies mapped → IsClass mapped class → own_table mapped.schema.tables mapped.classes (root_of mapped class).0 ≡ Some (root_table mapped class)
own_root mapped class has less =
    let own = found_root mapped.schema.tables (slice_get mapped.classes.specs (root_of mapped class).0) (root_over mapped class has less) in
    own.1 ∙ ap (λ (table : TableId). Some table) (sym (ap table_or_none own.1))

-- ---- what the declaration of a class has passed

abbrev is_told_by : Mapped → ClassId → Option (List ℕ) → Option Value → List ClassId → Bool
is_told_by mapped root name identity line = not (fails_discriminator mapped.schema.tables (own_table mapped.schema.tables mapped.classes root.0) name identity line)

told_at : (mapped : Mapped) (class : ClassId) → HasHierarchies mapped → IsClass mapped class
    → is_told_by mapped (root_of mapped class) (class_spec mapped (root_of mapped class)).discriminator (class_spec mapped class).identity (line_of mapped.classes class.0) ≡ true
told_at mapped class has less =
    let tables : List TableSpec = mapped.schema.tables in
    let line : List ClassId = line_of mapped.classes class.0 in
    let identity : Option Value = (class_spec mapped class).identity in
    ap (λ (found : Option ClassSpec). is_told_by mapped (root_of mapped class) (discriminator_in found) identity line) (sym (root_declared mapped class has less))
    ∙ ap (λ (root : Option ClassId). not (fails_discriminator tables (root_table_on tables mapped.classes root) (discriminator_on mapped.classes root) identity line)) (sym (root_first mapped class has less))
    ∙ has.lines.told class.0 (class_spec mapped class) (slice_get-get_or mapped.classes.specs class.0 no_class less)

-- ---- a class that is alone in its line has a table

alone_by : (line : List ClassId) (class root : ClassId) → length line ≡ 1 → root_in line ≡ Some root → Has line class → root ≡ class
alone_by [] class root long first has = absurd has
alone_by (x ∷ []) class root long first has = sym (same_Some x root first) ∙ only x class has
  where
    only : (x class : ClassId) → Has (x ∷ []) class → x ≡ class
    only x class (inl e) = e
    only x class (inr h) = absurd h
alone_by (x ∷ y ∷ line) class root long first has = absurd (omega (arith, long))

named_some : (tables : List TableSpec) (name : Option (List ℕ)) → is_some (named_table tables name) ≡ true → is_some name ≡ true
named_some tables None h = absurd cc
named_some tables (Some name) h = refl

over_named : (tables : List TableSpec) (spec : ClassSpec) → is_root_over tables (Some spec) ≡ true → is_some spec.table ≡ true
over_named tables spec h = named_some tables spec.table (and_right (is_none spec.base) (is_some (named_table tables spec.table)) h)

root_has_table : (mapped : Mapped) (class : ClassId) → HasHierarchies mapped → IsClass mapped class → root_of mapped class ≡ class → is_some (class_spec mapped class).table ≡ true
root_has_table mapped class has less same =
    ap (λ (root : ClassId). is_some (class_spec mapped root).table) (sym same)
    ∙ over_named mapped.schema.tables (class_spec mapped (root_of mapped class))
    (ap (is_root_over mapped.schema.tables) (sym (root_declared mapped class has less)) ∙ root_over mapped class has less)

-- ---- the discriminator's column

-- what takes an identity is a column
pub record IsTaker (foreigns : List ForeignSpec) (identity : Option Value) (found : Option ColumnSpec) : Type 0 where
  pub column : ColumnSpec
  pub is : found ≡ Some column
  pub kind : has_kind (option_and_then kind_of_value identity) (kind_of column.kind) ≡ true

taker : (foreigns : List ForeignSpec) (identity : Option Value) (found : Option ColumnSpec) → takes_identity foreigns identity found ≡ true → IsTaker foreigns identity found
taker foreigns identity None h = absurd cc
taker foreigns identity (Some column) h = record {
  column = column;
  is = refl;
  kind =
      and_right (is_discriminating (kind_of column.kind) && not column.key && not (list_any (λ foreign. has_name foreign.columns column.name) foreigns))
      (has_kind (option_and_then kind_of_value identity) (kind_of column.kind)) h;
}

-- the column of the name in a table
abbrev column_found : Mapped → TableId → List ℕ → Option ColumnSpec
column_found mapped table name = find (λ column. same_name column.name name) (columns_in mapped.schema.tables table)

takes_named : (mapped : Mapped) (class : ClassId) (name : List ℕ) (identity : Option Value) (line : List ClassId) → HasHierarchies mapped → IsClass mapped class
    → is_told_by mapped (root_of mapped class) (Some name) identity line ≡ true
    → takes_identity (foreigns_in mapped.schema.tables (root_table mapped class)) identity (column_found mapped (root_table mapped class) name) ≡ true
takes_named mapped class name identity line has less h =
    ap (takes_in mapped.schema.tables name identity) (sym (own_root mapped class has less))
    ∙ twice_not (takes_in mapped.schema.tables name identity (own_table mapped.schema.tables mapped.classes (root_of mapped class).0)) h

place_by : (n length : ℕ) → nat_lt n length ≡ true → unwrap_or (cond (nat_lt n length) (Some n) None) 0 ≡ n
place_by n length h = ap (λ (b : Bool). unwrap_or (cond b (Some n) None) 0) h

-- an item that is found stands at the place that is found
pub place_of_found : {A : Type 0} (test : A → Bool) (xs : List A) (x : A) → find test xs ≡ Some x → slice_get xs (unwrap_or (position test xs) 0) ≡ Some x
place_of_found test xs x e =
    let n : ℕ = position_or_len test xs in
    let here : slice_get xs n ≡ Some x = sym (find_at test xs) ∙ e in
    ap (slice_get xs) (place_by n (length xs) (lt-ltb n (length xs) (slice_get_within xs n x here))) ∙ here

told_here : (mapped : Mapped) (class : ClassId) (name : List ℕ) → HasHierarchies mapped → IsClass mapped class → (class_spec mapped (root_of mapped class)).discriminator ≡ Some name
    → takes_identity (foreigns_in mapped.schema.tables (root_table mapped class)) (class_spec mapped class).identity (column_found mapped (root_table mapped class) name) ≡ true
told_here mapped class name has less e =
    takes_named mapped class name (class_spec mapped class).identity (line_of mapped.classes class.0) has less
    (ap (λ (named : Option (List ℕ)). is_told_by mapped (root_of mapped class) named (class_spec mapped class).identity (line_of mapped.classes class.0)) (sym e) ∙ told_at mapped class has less)

one_kind : (foreigns : List ForeignSpec) (identity : Option Value) (found : Option ColumnSpec) (column : ColumnSpec) → found ≡ Some column → takes_identity foreigns identity found ≡ true
    → has_kind (option_and_then kind_of_value identity) (kind_of column.kind) ≡ true
one_kind foreigns identity found column e h =
    let by = taker foreigns identity found h in
    ap (λ (one : ColumnSpec). has_kind (option_and_then kind_of_value identity) (kind_of one.kind)) (same_Some column by.column (sym e ∙ by.is)) ∙ by.kind

-- a class at or under another is of its hierarchy, so the same column takes its identity
told_under : (mapped : Mapped) (class other : ClassId) (name : List ℕ) (column : ColumnSpec) → HasHierarchies mapped → (class_spec mapped (root_of mapped class)).discriminator ≡ Some name
    → column_found mapped (root_table mapped class) name ≡ Some column → IsClass mapped other → is_at_or_under mapped other class ≡ true
    → has_kind (option_and_then kind_of_value (class_spec mapped other).identity) (kind_of column.kind) ≡ true
told_under mapped class other name column has named found less under =
    let same : root_of mapped other ≡ root_of mapped class = ap (λ (n : ℕ). let root : ClassId = record { 0 = n } in root) (has.paired.rooted other class under) in
    one_kind (foreigns_in mapped.schema.tables (root_table mapped other)) (class_spec mapped other).identity (column_found mapped (root_table mapped other) name) column
    (ap (λ (root : ClassId). column_found mapped (table_or_none (own_table mapped.schema.tables mapped.classes root.0)) name) same ∙ found)
    (told_here mapped other name has less (ap (λ (root : ClassId). (class_spec mapped root).discriminator) same ∙ named))

tells_named : (mapped : Mapped) (class : ClassId) (name : List ℕ) → HasHierarchies mapped → IsClass mapped class → (class_spec mapped (root_of mapped class)).discriminator ≡ Some name → TellsApart mapped class name
tells_named mapped class name has less e =
    let by = taker (foreigns_in mapped.schema.tables (root_table mapped class)) (class_spec mapped class).identity (column_found mapped (root_table mapped class) name) (told_here mapped class name has less e) in
    record {
      is = e;
      column = by.column;
      there = place_of_found (λ (column : ColumnSpec). same_name column.name name) (root_spec mapped class).columns by.column by.is;
      takes = λ other declared under. told_under mapped class other name by.column has e by.is declared under;
    }

tells_by : (mapped : Mapped) (class : ClassId) (found : Option (List ℕ)) → HasHierarchies mapped → IsClass mapped class → is_some (class_spec mapped class).table ≡ false
    → (class_spec mapped (root_of mapped class)).discriminator ≡ found → is_told_by mapped (root_of mapped class) found (class_spec mapped class).identity (line_of mapped.classes class.0) ≡ true
    → (name : List ℕ) × TellsApart mapped class name
tells_by mapped class None has less bare e h =
    let line : List ClassId = line_of mapped.classes class.0 in
    let long : length line ≡ 1 = eqb-true (length line) 1 (twice_not (length line == 1) h) in
    let same : root_of mapped class ≡ class = alone_by line class (root_of mapped class) long (root_first mapped class has less) (own_line mapped has.lined has.lines class less) in
    let tabled : is_some (class_spec mapped class).table ≡ true = root_has_table mapped class has less same in
    absurd cc
tells_by mapped class (Some name) has less bare e h = (name, tells_named mapped class name has less e)

-- the hierarchy of a class without a table of its own has a discriminator
pub tells_apart : (mapped : Mapped) (class : ClassId) → HasHierarchies mapped → IsClass mapped class → is_some (class_spec mapped class).table ≡ false → (name : List ℕ) × TellsApart mapped class name
tells_apart mapped class has less bare =
    tells_by mapped class (class_spec mapped (root_of mapped class)).discriminator has less bare refl
    (told_at mapped class has less)
