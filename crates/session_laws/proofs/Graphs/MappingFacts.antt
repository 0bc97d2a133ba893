-- A class has no table twice, and a discriminator is a column of no foreign key.
use Rattle.std.proofs.Common.{◌≡◌, ◌⊎◌, inl, inr, ℕ, zero, suc, ◌<◌, Bool, true, false, not, ◌&&◌, ◌||◌, ◌==◌, List, [], ◌∷◌, length, get_or, Option, None, Some, is_none, is_some, refl, sym, subst, ap, ◌∙◌, arith}
use Rattle.std.proofs.lemmas.Bool.{eq-eqb}
use Rattle.std.proofs.lemmas.List.Quantifiers.{position-Some}
use Rattle.std.proofs.lemmas.Option.{same_Some, slice_get-get_or, slice_get_within}
use Rattle.std.specs.Prelude.{find, slice_get}
use Rattle.std.specs.List.{cons_option, filter_map, list_any, position}
use Rattle.std.specs.Option.{option_and_then, option_map}
use Rattle.base_core.specs.declared.ids.ClassId.{ClassId}
use Rattle.base_core.specs.declared.ids.TableId.{TableId}
use Rattle.base_core.specs.declared.value.Value.{Value}
use Rattle.schema_core.specs.declared.table.ColumnSpec.{ColumnSpec}
use Rattle.schema_core.specs.declared.table.ForeignSpec.{ForeignSpec}
use Rattle.schema_core.specs.declared.table.TableSpec.{TableSpec}
use Rattle.schema_core.specs.Catalog.{find_table, has_name, kind_of, no_table, same_name}
use Rattle.schema_core.specs.Declaration.{some_two}
use Rattle.schema_core.specs.Tables.{kind_of_value}
use Rattle.schema_core.proofs.Names.{same_names}
use Rattle.class_types.specs.declared.declared.ClassSpec.{ClassSpec}
use Rattle.class_layouts.specs.Columns.{columns_in, named_table, own_table, table_in}
use Rattle.class_layouts.specs.Faults.{discriminator_in, discriminator_on, fails_discriminator, foreigns_in, has_kind, is_discriminating, is_named, maps_name, root_table_on, takes_identity, takes_in}
use Rattle.class_layouts.specs.Hierarchy.{line_of, line_or_none, no_class, root_in}
use Rattle.class_mapping.specs.Lines.{AreLines, is_root_over, is_rooted, is_same_class, maps_same, spec_at}
use Rattle.class_mapping.specs.Mapped.{Mapped, class_or, class_spec, root_of, root_table, table_or_none}
use Rattle.class_mapping.proofs.Having.{Has, all_of, has_at, named_alike, none_of, true_false}
use Rattle.class_mapping.proofs.Lists.{and_left, and_right, or_left, or_none, or_right, some_is}
use Rattle.class_mapping.proofs.RelatedKeys.{find_has, same_table}
use Rattle.class_mapping.proofs.RelatedLemmas.{line_for}
use Rattle.object_rows.specs.Rows.{is_joined}
use Rattle.session_laws.specs.Graphs.{DiscriminatorsAreFree, DiscriminatorsStandFree, HasTablesOnce, TablesStandOnce}
use Rattle.session_laws.proofs.Graphs.Named.{two_places}
use Rattle.session_laws.proofs.Graphs.ObjectsApart.{none_from}

-- ---- a class has no table twice

from_option : {A B : Type 0} (h : A → Option B) (x : A) (rest : List B) (found : Option B) (y : B) → h x ≡ found → Has (cons_option found rest) y → (h x ≡ Some y) ⊎ Has rest y
from_option h x rest None y e has = inr has
from_option h x rest (Some z) y e (inl same) = inl (e ∙ ap (λ v. Some v) same)
from_option h x rest (Some z) y e (inr has) = inr has

from_either : {A B : Type 0} (h : A → Option B) (x : A) (xs : List A) (y : B) → (h x ≡ Some y) ⊎ Has (filter_map h xs) y → (Has (filter_map h xs) y → (z : A) × Has xs z × (h z ≡ Some y)) → (z : A) × Has (x ∷ xs) z × (h z ≡ Some y)
from_either h x xs y (inl e) more = (x, inl refl, e)
from_either h x xs y (inr has) more = let rest = more has in (rest.0, inr rest.1, rest.2)

from_filter_map : {A B : Type 0} (h : A → Option B) (xs : List A) (y : B) → Has (filter_map h xs) y → (x : A) × Has xs x × (h x ≡ Some y)
from_filter_map h [] y has = absurd has
from_filter_map h (x ∷ xs) y has = from_either h x xs y (from_option h x (filter_map h xs) (h x) y refl has) (λ later. from_filter_map h xs y later)

-- a table that is found has the name
name_found : (tables : List TableSpec) (name : List ℕ) (table : TableId) → find_table tables name ≡ Some table → (get_or tables table.0 no_table).name ≡ name
name_found tables name table e = by (position (λ (spec : TableSpec). same_name spec.name name) tables) refl e
  where
    by : (found : Option ℕ) → position (λ (spec : TableSpec). same_name spec.name name) tables ≡ found → option_map (λ place. let made : TableId = record { 0 = place } in made) found ≡ Some table → (get_or tables table.0 no_table).name ≡ name
    by None p h = absurd (cc)
    by (Some place) p h =
        let at = position-Some (λ (spec : TableSpec). same_name spec.name name) tables place no_table p in
        let made : TableId = record { 0 = place } in
        let same : place ≡ table.0 = ap (λ (t : TableId). t.0) (same_Some made table h) in
        subst (λ n. (get_or tables n no_table).name ≡ name) same (same_names (get_or tables place no_table).name name at.1)

-- two classes that name one table map the same
same_mapped : (tables : List TableSpec) (one other : ClassSpec) (table : TableId) → named_table tables one.table ≡ Some table → named_table tables other.table ≡ Some table → maps_same one other ≡ true
same_mapped tables one other table e f = by one.table other.table refl refl e f
  where
    by : (a b : Option (List ℕ)) → one.table ≡ a → other.table ≡ b → named_table tables a ≡ Some table → named_table tables b ≡ Some table → maps_same one other ≡ true
    by None b p q g h = absurd (cc)
    by (Some name) None p q g h = absurd (cc)
    by (Some name) (Some second) p q g h =
        let same : second ≡ name = sym (name_found tables second table h) ∙ name_found tables name table g in
        ap (maps_name (other ∷ [])) p ∙ ap (λ (o : Option (List ℕ)). is_named o name || false) q ∙ ap (λ b. b || false) (named_alike second name same)

module _ (mapped : Mapped) (lined : length mapped.classes.lines ≡ length mapped.classes.specs) (lines : AreLines mapped.schema.tables mapped.classes) where
  abbrev tables : List TableSpec
  tables = mapped.schema.tables

  abbrev specs : List ClassSpec
  specs = mapped.classes.specs

  abbrev own : ClassId → Option TableId
  own class = own_table mapped.schema.tables mapped.classes class.0

  -- a table is that of one class
  pub one_class : (one other : ℕ) (table : TableId) → own_table tables mapped.classes one ≡ Some table → own_table tables mapped.classes other ≡ Some table → one ≡ other
  one_class one other table e f = by (slice_get specs one) (slice_get specs other) refl refl e f
    where
      by : (a b : Option ClassSpec) → slice_get specs one ≡ a → slice_get specs other ≡ b → table_in tables a ≡ Some table → table_in tables b ≡ Some table → one ≡ other
      by None b p q g h = absurd (cc)
      by (Some first) None p q g h = absurd (cc)
      by (Some first) (Some second) p q g h = two_places maps_same specs one other first second lines.apart p q (same_mapped tables first second table g h) (same_mapped tables second first table h g)

  tables_once : (line : List ClassId) → some_two is_same_class line ≡ false → some_two (λ (one other : TableId). one.0 == other.0) (filter_map own line) ≡ false
  tables_once [] once = refl
  tables_once (class ∷ line) once =
      by (own class) refl (tables_once line (or_right (list_any (λ later. is_same_class later class) line) (some_two is_same_class line) once))
    where
      apart : (table : TableId) → own class ≡ Some table → (later : TableId) → Has (filter_map own line) later → (b : Bool) → (later.0 == table.0) ≡ b → b ≡ false
      apart table e later has false same = refl
      apart table e later has true same =
          let from = from_filter_map own line later has in
          let alike : later ≡ table = same_table later table same in
          let one : from.0.0 ≡ class.0 = one_class from.0.0 class.0 table (from.2 ∙ ap (λ (t : TableId). Some t) alike) e in
          true_false (from.0.0 == class.0) (eq-eqb from.0.0 class.0 one) (none_of (λ later. is_same_class later class) line from.0 (or_left (list_any (λ later. is_same_class later class) line) (some_two is_same_class line) once) from.1)

      by : (found : Option TableId) → own class ≡ found → some_two (λ (one other : TableId). one.0 == other.0) (filter_map own line) ≡ false → some_two (λ (one other : TableId). one.0 == other.0) (cons_option found (filter_map own line)) ≡ false
      by None e rest = rest
      by (Some table) e rest =
          or_none (list_any (λ (later : TableId). later.0 == table.0) (filter_map own line)) (some_two (λ (one other : TableId). one.0 == other.0) (filter_map own line))
          (none_from (λ (later : TableId). later.0 == table.0) (filter_map own line) (λ later has. apart table e later has (later.0 == table.0) refl)) rest

  pub has_tables_once : HasTablesOnce mapped
  has_tables_once class = by (slice_get mapped.classes.lines class.0) refl
    where
      by : (found : Option (List ClassId)) → slice_get mapped.classes.lines class.0 ≡ found → some_two (λ (one other : TableId). one.0 == other.0) (filter_map own (line_or_none found)) ≡ false
      by None e = refl
      by (Some line) e = tables_once line (none_of (λ (own_line : List ClassId). some_two is_same_class own_line) mapped.classes.lines line lines.once (has_at mapped.classes.lines class.0 line e))

  -- ---- a discriminator is a column of no foreign key

  -- a discriminator that takes an identity is in no foreign key
  not_foreign : (foreigns : List ForeignSpec) (identity : Option Value) (columns : List ColumnSpec) (name : List ℕ) → takes_identity foreigns identity (find (λ (column : ColumnSpec). same_name column.name name) columns) ≡ true
      → list_any (λ (foreign : ForeignSpec). has_name foreign.columns name) foreigns ≡ false
  not_foreign foreigns identity columns name takes = by (find (λ (column : ColumnSpec). same_name column.name name) columns) refl takes
    where
      no_more : (b : Bool) → not b ≡ true → b ≡ false
      no_more true h = absurd (cc)
      no_more false h = refl

      by : (found : Option ColumnSpec) → find (λ (column : ColumnSpec). same_name column.name name) columns ≡ found → takes_identity foreigns identity found ≡ true → list_any (λ (foreign : ForeignSpec). has_name foreign.columns name) foreigns ≡ false
      by None e h = absurd (cc)
      by (Some column) e h =
          let named : column.name ≡ name = same_names column.name name (find_has (λ (c : ColumnSpec). same_name c.name name) columns column e).1 in
          let plain : Bool = is_discriminating (kind_of column.kind) && not column.key in
          let foreign : Bool = not (list_any (λ (f : ForeignSpec). has_name f.columns column.name) foreigns) in
          subst (λ own. list_any (λ (f : ForeignSpec). has_name f.columns own) foreigns ≡ false) named
          (no_more (list_any (λ (f : ForeignSpec). has_name f.columns column.name) foreigns)
          (and_right plain foreign (and_left (plain && foreign) (has_kind (option_and_then kind_of_value identity) (kind_of column.kind)) h)))

  told_name : (class : ℕ) (spec : ClassSpec) → slice_get specs class ≡ Some spec → (root : ClassId) → root_in (line_of mapped.classes class) ≡ Some root → (table : TableId) → own_table tables mapped.classes root.0 ≡ Some table
      → (name : List ℕ) → is_named (discriminator_in (slice_get specs root.0)) name ≡ true → list_any (λ (foreign : ForeignSpec). has_name foreign.columns name) (foreigns_in tables table) ≡ false
  told_name class spec at root rooted table owned name named = by (discriminator_in (slice_get specs root.0)) refl named
    where
      line : List ClassId
      line = line_of mapped.classes class

      twice : (b : Bool) → not (not b) ≡ true → b ≡ true
      twice true h = refl
      twice false h = absurd (cc)

      by : (found : Option (List ℕ)) → discriminator_in (slice_get specs root.0) ≡ found → is_named found name ≡ true → list_any (λ (foreign : ForeignSpec). has_name foreign.columns name) (foreigns_in tables table) ≡ false
      by None e h = absurd (cc)
      by (Some own_name) e h =
          let told : not (fails_discriminator tables (own_table tables mapped.classes root.0) (discriminator_in (slice_get specs root.0)) spec.identity line) ≡ true =
          sym (ap (λ (r : Option ClassId). not (fails_discriminator tables (root_table_on tables mapped.classes r) (discriminator_on mapped.classes r) spec.identity line)) rooted) ∙ lines.told class spec at in
          let taken : not (not (takes_in tables own_name spec.identity (Some table))) ≡ true =
          sym (ap (λ (o : Option TableId). not (fails_discriminator tables o (Some own_name) spec.identity line)) owned)
          ∙ sym (ap (λ (d : Option (List ℕ)). not (fails_discriminator tables (own_table tables mapped.classes root.0) d spec.identity line)) e) ∙ told in
          subst (λ n. list_any (λ (foreign : ForeignSpec). has_name foreign.columns n) (foreigns_in tables table) ≡ false) (same_names own_name name h)
          (not_foreign (foreigns_in tables table) spec.identity (columns_in tables table) own_name (twice (takes_in tables own_name spec.identity (Some table)) taken))

  -- the root of a declared class, and its table
  root_at : (class : ℕ) → class < length specs → (root : ClassId) × (table : TableId) × (root_in (line_of mapped.classes class) ≡ Some root) × (own_table tables mapped.classes root.0 ≡ Some table)
  root_at class less =
      by (root_in (line_of mapped.classes class)) refl
      (all_of (is_rooted tables specs) mapped.classes.lines (line_of mapped.classes class) lines.rooted (has_at mapped.classes.lines class (line_of mapped.classes class) (line_for mapped lined lines class less)))
    where
      over : (found : Option ClassSpec) → is_root_over tables found ≡ true → (table : TableId) × (table_in tables found ≡ Some table)
      over None h = absurd (cc)
      over (Some spec) h = some_is (named_table tables spec.table) (and_right (is_none spec.base) (is_some (named_table tables spec.table)) h)

      by : (found : Option ClassId) → root_in (line_of mapped.classes class) ≡ found → is_root_over tables (spec_at specs found) ≡ true
          → (root : ClassId) × (table : TableId) × (root_in (line_of mapped.classes class) ≡ Some root) × (own_table tables mapped.classes root.0 ≡ Some table)
      by None e h = absurd (cc)
      by (Some root) e h = let table = over (slice_get specs root.0) h in (root, table.0, e, table.1)

  -- of a class that is not declared nothing is told
  no_line : (class : ℕ) → slice_get specs class ≡ None → slice_get mapped.classes.lines class ≡ None
  no_line class none = by (slice_get mapped.classes.lines class) refl
    where
      no_such : (found : Option ClassSpec) → found ≡ None → (spec : ClassSpec) → found ≡ Some spec → ⊥
      no_such None e spec f = cc
      no_such (Some other) e spec f = cc

      by : (found : Option (List ClassId)) → slice_get mapped.classes.lines class ≡ found → slice_get mapped.classes.lines class ≡ None
      by None e = e
      by (Some line) e =
          let less : class < length specs = omega (arith, slice_get_within mapped.classes.lines class line e, lined) in
          absurd (no_such (slice_get specs class) none (get_or specs class no_class) (slice_get-get_or specs class no_class less))

  spec_named : (class : ℕ) → (get_or specs class no_class).discriminator ≡ discriminator_in (slice_get specs class)
  spec_named class = by specs class
    where
      by : (all : List ClassSpec) (n : ℕ) → (get_or all n no_class).discriminator ≡ discriminator_in (slice_get all n)
      by [] n = refl
      by (spec ∷ all) zero = refl
      by (spec ∷ all) (suc n) = by all n

  pub discriminators_free : DiscriminatorsAreFree mapped
  discriminators_free class table name told = by (slice_get specs class.0) refl
    where
      plain : Bool
      plain = not (is_joined mapped class table)

      named : is_named (class_spec mapped (root_of mapped class)).discriminator name ≡ true
      named = and_right plain (is_named (class_spec mapped (root_of mapped class)).discriminator name) told

      twice : (b : Bool) → not (not b) ≡ true → b ≡ true
      twice true h = refl
      twice false h = absurd (cc)

      none_named : is_named (discriminator_in None) name ≡ true → ⊥
      none_named h = cc

      by : (found : Option ClassSpec) → slice_get specs class.0 ≡ found → list_any (λ (foreign : ForeignSpec). has_name foreign.columns name) (foreigns_in tables table) ≡ false
      by None e =
          let root : root_of mapped class ≡ class = ap (λ (l : Option (List ClassId)). class_or (root_in (line_or_none l)) class) (no_line class.0 e) in
          absurd (none_named (sym (ap (λ (o : Option ClassSpec). is_named (discriminator_in o) name) e) ∙ sym (ap (λ (d : Option (List ℕ)). is_named d name) (spec_named class.0)) ∙ sym (ap (λ (c : ClassId). is_named (class_spec mapped c).discriminator name) root) ∙ named))
      by (Some spec) e =
          let root = root_at class.0 (slice_get_within specs class.0 spec e) in
          let is : root_of mapped class ≡ root.0 = ap (λ (r : Option ClassId). class_or r class) root.2 in
          let at : root_table mapped class ≡ root.1 = ap (λ (c : ClassId). table_or_none (own_table tables mapped.classes c.0)) is ∙ ap table_or_none root.3 in
          let same : root_table mapped class ≡ table = same_table (root_table mapped class) table (twice ((root_table mapped class).0 == table.0) (and_left plain (is_named (class_spec mapped (root_of mapped class)).discriminator name) told)) in
          let here : root.1 ≡ table = sym at ∙ same in
          told_name class.0 spec e root.0 root.2 table (root.3 ∙ ap (λ (t : TableId). Some t) here) name
          (sym (ap (λ (d : Option (List ℕ)). is_named d name) (spec_named root.0.0)) ∙ sym (ap (λ (c : ClassId). is_named (class_spec mapped c).discriminator name) is) ∙ named)

pub once_law : TablesStandOnce
once_law mapped lined lines = has_tables_once mapped lined lines

pub free_law : DiscriminatorsStandFree
free_law mapped lined lines = discriminators_free mapped lined lines
