-- The keys of objects are keys of each table of their hierarchy, and fit the foreign keys that refer there.
use Rattle.std.proofs.Common.{◌≡◌, ℕ, zero, suc, ◌<◌, true, ◌&&◌, ◌==◌, List, [], ◌∷◌, length, get_or, Option, None, Some, is_some, refl, sym, ap, ◌∙◌, subst, arith}
use Rattle.std.specs.Prelude.{nat_lt, slice_get}
use Rattle.std.specs.Cmp.Lexicographic.{pointwise}
use Rattle.std.specs.List.{AllByRecursion, filter, list_all}
use Rattle.std.proofs.lemmas.Bool.{and_from, and_parts}
use Rattle.std.proofs.lemmas.Bool.Decides.{nat_tests}
use Rattle.std.proofs.lemmas.List.Quantifiers.{position-Some}
use Rattle.std.proofs.lemmas.Option.{get_or_from_slice_get, same_Some, slice_get-get_or, slice_get_within}
use Rattle.base_core.specs.declared.ids.ClassId.{ClassId}
use Rattle.base_core.specs.declared.ids.ObjId.{ObjId}
use Rattle.base_core.specs.declared.ids.TableId.{TableId}
use Rattle.base_core.specs.declared.refusal.RowName.{RowName}
use Rattle.base_core.specs.declared.value.Kind.{Kind}
use Rattle.base_core.specs.declared.value.Kind.TheVariants as kinds
use Rattle.base_core.specs.declared.value.Value.{Value}
use Rattle.base_core.specs.declared.value.Value.TheVariants.{Bool as BoolValue, Bytes, Int, Null, Text}
use Rattle.schema_core.specs.declared.changes.RowChanges.{RowChanges}
use Rattle.schema_core.specs.declared.table.ColumnSpec.{ColumnSpec}
use Rattle.schema_core.specs.declared.table.ForeignSpec.{ForeignSpec}
use Rattle.schema_core.specs.declared.table.TableSpec.{TableSpec}
use Rattle.schema_core.specs.Catalog.{IsTable, key_columns, kind_of, no_table, same_kind, same_name, spec_of, target_of}
use Rattle.schema_core.specs.Declaration.{fits_key, has_kind, has_target, refers_to}
use Rattle.schema_core.specs.Tables.{fits, given_value}
use Rattle.schema_core.specs.WellFormed.{is_key, may_hold}
use Rattle.schema_core.proofs.Names.{same_names}
use Rattle.class_layouts.specs.Columns.{own_table}
use Rattle.class_mapping.specs.Mapped.{IsClass, Mapped, root_of, root_spec, root_table, table_or_none, tables_of}
use Rattle.class_mapping.proofs.Having.{Has, all_from, all_of, from_filter, has_at, named_alike, some_of}
use Rattle.class_mapping.proofs.RelatedKeys.{same_table}
use Rattle.mapping_laws.specs.Hierarchies.{HasHierarchies, HasTables, kinds_of}
use Rattle.mapping_laws.proofs.Ties.{class_tables, table_faultless}
use Rattle.mapping_laws.proofs.KeyKinds.{keys_alike}
use Rattle.object_arena.specs.Fit.{IsFit, identity_fits}
use Rattle.object_arena.specs.Graph.{Graph, IsObject, object_at}
use Rattle.object_arena.proofs.FitLemmas.{fit_at, fit_class}
use Rattle.flush_order.specs.Cells.{table_at}
use Rattle.object_rows.specs.Cells.{end_cell, key_cell, key_value, place_among}
use Rattle.object_rows.specs.Places.{is_row_of}
use Rattle.session_laws.proofs.Graphs.Named.{opposite, two_places}
use Rattle.session_laws.proofs.Projects.Loose.{has_place}
use Rattle.session_laws.specs.Sendable.{cell_fits, takes_part}
use Rattle.session_laws.proofs.Sendable.Parts.{IsTaken, not_required, taken_by}

-- ---- keys of the same kinds

same_first : (a b : Kind) (more others : List Kind) → a ∷ more ≡ b ∷ others → a ≡ b
same_first a b more others e = cc

same_rest : (a b : Kind) (more others : List Kind) → a ∷ more ≡ b ∷ others → more ≡ others
same_rest a b more others e = cc

passes : (one other : ColumnSpec) (value : Value) → one.key ≡ true → kind_of one.kind ≡ kind_of other.kind → fits one value ≡ true → fits other value ≡ true
passes one other Null key same h = absurd (not_required one.not_null one.key key h)
passes one other (BoolValue b) key same h = ap (λ k. same_kind k kinds.Boolean) (sym same) ∙ h
passes one other (Int n) key same h = ap (λ k. same_kind k kinds.Integer) (sym same) ∙ h
passes one other (Text t) key same h = ap (λ k. same_kind k kinds.Text) (sym same) ∙ h
passes one other (Bytes b) key same h = ap (λ k. same_kind k kinds.Bytes) (sym same) ∙ h

all_pass : (ones others : List ColumnSpec) (key : List Value) → kinds_of ones ≡ kinds_of others → AllByRecursion (λ (column : ColumnSpec). column.key ≡ true) ones → pointwise fits ones key ≡ true → pointwise fits others key ≡ true
all_pass [] [] key same keyed h = h
all_pass [] (other ∷ others) key same keyed h = absurd cc
all_pass (one ∷ ones) [] key same keyed h = absurd cc
all_pass (one ∷ ones) (other ∷ others) [] same keyed h = absurd cc
all_pass (one ∷ ones) (other ∷ others) (value ∷ key) same keyed h =
    let both = and_parts (fits one value) (pointwise fits ones key) h in
    and_from (fits other value) (pointwise fits others key)
    (passes one other value keyed.0 (same_first (kind_of one.kind) (kind_of other.kind) (kinds_of ones) (kinds_of others) same) both.0)
    (all_pass ones others key (same_rest (kind_of one.kind) (kind_of other.kind) (kinds_of ones) (kinds_of others) same) keyed.1 both.1)

module _ (mapped : Mapped) (has : HasHierarchies mapped) where
  abbrev kinds_in : TableId → List Kind
  kinds_in table = kinds_of (key_columns (spec_of mapped.schema table))

  -- the key of a table of a class is of the kinds of the root's
  climbs : (class : ClassId) → HasTables mapped class → (rank : ℕ) (table : TableId) → slice_get (tables_of mapped class) rank ≡ Some table → kinds_in (root_table mapped class) ≡ kinds_in table
  climbs class known zero table at = ap kinds_in (same_Some (root_table mapped class) table (ap (λ (tables : List TableId). slice_get tables 0) (sym known.first) ∙ at))
  climbs class known (suc rank) table at =
      let below : TableId = get_or (tables_of mapped class) rank table in
      let there : slice_get (tables_of mapped class) rank ≡ Some below = slice_get-get_or (tables_of mapped class) rank table (omega (arith, slice_get_within (tables_of mapped class) (suc rank) table at)) in
      climbs class known rank below there ∙ known.alike rank below table there at

  all_keyed : (table : TableId) → AllByRecursion (λ (column : ColumnSpec). column.key ≡ true) (key_columns (spec_of mapped.schema table))
  all_keyed table =
      let columns : List ColumnSpec = (spec_of mapped.schema table).columns in
      all_from (λ (column : ColumnSpec). column.key ≡ true) (filter (λ (c : ColumnSpec). c.key) columns) (λ column there. (from_filter (λ (c : ColumnSpec). c.key) columns column there).1)

  -- a key of a class is one of each table of another class of its root
  pub key_everywhere : (class other : ClassId) (table : TableId) (key : List Value) → IsClass mapped class → IsClass mapped other → root_of mapped class ≡ root_of mapped other → Has (tables_of mapped other) table
      → identity_fits mapped class (Some key) ≡ true → is_key (spec_of mapped.schema table) key ≡ true
  key_everywhere class other table key is is_other same there fit =
      let place = has_place (tables_of mapped other) table there in
      let here : is_key (root_spec mapped class) key ≡ true = sym (keys_alike mapped class key has (class_tables mapped class has is)) ∙ fit in
      let root : is_key (root_spec mapped other) key ≡ true = subst (λ (top : ClassId). is_key (spec_of mapped.schema (table_or_none (own_table mapped.schema.tables mapped.classes top.0))) key ≡ true) same here in
      all_pass (key_columns (root_spec mapped other)) (key_columns (spec_of mapped.schema table)) key (climbs other (class_tables mapped other has is_other) place.0 table place.1) (all_keyed (root_table mapped other)) root

  -- ---- the columns of a foreign key

  module _ (table : TableId) (inside : IsTable mapped.schema table) where
    abbrev columns : List ColumnSpec
    columns = (spec_of mapped.schema table).columns

    -- columns of one name are one
    pub same_column : (one column : ColumnSpec) → Has columns one → Has columns column → same_name one.name column.name ≡ true → one ≡ column
    same_column one column here there named =
        let at = has_place columns one here in
        let own = has_place columns column there in
        let back : same_name column.name one.name ≡ true = named_alike column.name one.name (sym (same_names one.name column.name named)) in
        let same : at.0 ≡ own.0 = two_places (λ (first second : ColumnSpec). same_name first.name second.name) columns at.0 own.0 one column (table_faultless mapped table has inside).apart at.1 own.1 named back in
        same_Some one column (sym at.1 ∙ ap (slice_get columns) same ∙ own.1)

    column_kind : (column : ColumnSpec) → Has columns column → (other : ColumnSpec) → has_kind columns column.name other ≡ true → same_kind (kind_of column.kind) (kind_of other.kind) ≡ true
    column_kind column there other h =
        let found = some_of (λ (one : ColumnSpec). same_name one.name column.name && same_kind (kind_of one.kind) (kind_of other.kind)) columns h in
        let parts = and_parts (same_name found.0.name column.name) (same_kind (kind_of found.0.kind) (kind_of other.kind)) found.2 in
        ap (λ (c : ColumnSpec). same_kind (kind_of c.kind) (kind_of other.kind)) (sym (same_column found.0 column found.1 there parts.0)) ∙ parts.1

    target_fits : (foreign : ForeignSpec) (target : TableId) → Has (spec_of mapped.schema table).foreigns foreign → target_of mapped.schema foreign ≡ Some target → fits_key columns foreign.columns (spec_of mapped.schema target) ≡ true
    target_fits foreign target there is =
        let tables : List TableSpec = mapped.schema.tables in
        let spec : TableSpec = spec_of mapped.schema table in
        let here : Has tables spec = has_at tables table.0 spec (slice_get-get_or tables table.0 no_table inside) in
        let all : list_all (has_target tables spec) spec.foreigns ≡ true = all_of (λ (one : TableSpec). list_all (has_target tables one) one.foreigns) tables spec has.valid.targets here in
        sym (ap (refers_to tables spec foreign) is) ∙ all_of (has_target tables spec) spec.foreigns foreign all there

    module _ (graph : Graph) (fit : IsFit mapped graph) where
      -- the object stands for rows of the table
      pub record IsEndIn (target : TableId) (end : ObjId) : Type 0 where
        pub class : ClassId
        pub is : IsClass mapped class
        pub there : Has (tables_of mapped class) target
        pub made : IsObject graph end
        pub root : root_of mapped (object_at graph end).class ≡ root_of mapped class

      -- a part of the key that it has is taken by a column of the part's kind
      identity_taken : (target : TableId) (end : ObjId) (column part : ColumnSpec) (i : ℕ) (identity : Option (List Value)) → IsEndIn target end → (object_at graph end).identity ≡ identity → is_some identity ≡ true
          → slice_get (key_columns (spec_of mapped.schema target)) i ≡ Some part → same_kind (kind_of column.kind) (kind_of part.kind) ≡ true → IsTaken column (key_value identity i)
      identity_taken target end column part i None ends is some at alike = absurd cc
      identity_taken target end column part i (Some key) ends is some at alike =
          let object = object_at graph end in
          let whole : is_key (spec_of mapped.schema target) key ≡ true =
          key_everywhere object.class ends.class target key (fit_class mapped graph end fit ends.made) ends.is ends.root ends.there (ap (identity_fits mapped object.class) (sym is) ∙ (fit_at mapped graph end fit ends.made).identity) in
          let value = opposite fits (key_columns (spec_of mapped.schema target)) key i part whole at in
          let keyed : part.key ≡ true = (from_filter (λ (c : ColumnSpec). c.key) (spec_of mapped.schema target).columns part (has_at (key_columns (spec_of mapped.schema target)) i part at)).1 in
          subst (IsTaken column) (sym (get_or_from_slice_get key i value.0 Null value.1)) (taken_by column part value.0 keyed alike value.2)

      -- a row that is taken away has in a column of a foreign key a part of the key of the object there
      pub end_taken : (foreign : ForeignSpec) → Has (spec_of mapped.schema table).foreigns foreign → (target : TableId) → target_of mapped.schema foreign ≡ Some target → (end : ObjId) → IsEndIn target end → is_some (object_at graph end).identity ≡ true
          → (column : ColumnSpec) → Has columns column → (i : ℕ) → slice_get foreign.columns i ≡ Some column.name → IsTaken column (given_value (end_cell graph [] (target_of mapped.schema foreign) i (Some end)))
      end_taken foreign there target is end ends some column of i at =
          let part = opposite (has_kind columns) foreign.columns (key_columns (spec_of mapped.schema target)) i column.name (target_fits foreign target there is) at in
          subst (λ (t : Option TableId). IsTaken column (given_value (end_cell graph [] t i (Some end)))) (sym is)
          (identity_taken target end column part.0 i (object_at graph end).identity ends refl some part.1 (column_kind column of part.0 part.2))

      identity_part : (target : TableId) (end : ObjId) (column part : ColumnSpec) (i : ℕ) (identity : Option (List Value)) → IsEndIn target end → (object_at graph end).identity ≡ identity → slice_get (key_columns (spec_of mapped.schema target)) i ≡ Some part
          → same_kind (kind_of column.kind) (kind_of part.kind) ≡ true → may_hold column (key_value identity i) ≡ true
      identity_part target end column part i None ends is at alike = refl
      identity_part target end column part i (Some key) ends is at alike = (identity_taken target end column part i (Some key) ends is refl at alike).0

      module _ (changes : RowChanges) (names : List RowName) (stands : (q : ℕ) (row : RowName) → slice_get names q ≡ Some row → (q < length changes.fresh) × (table_at changes q ≡ row.table)) where
        key_part_fits : (target : TableId) (end : ObjId) (column part : ColumnSpec) (i : ℕ) (found : Option ℕ) → IsEndIn target end → place_among names (Some target) end ≡ found → slice_get (key_columns (spec_of mapped.schema target)) i ≡ Some part
            → same_kind (kind_of column.kind) (kind_of part.kind) ≡ true → cell_fits mapped.schema changes column (key_cell found (object_at graph end).identity i) ≡ true
        key_part_fits target end column part i None ends e at alike = identity_part target end column part i (object_at graph end).identity ends refl at alike
        key_part_fits target end column part i (Some q) ends e at alike =
            let none : RowName = record { table = target; object = end } in
            let row : RowName = get_or names q none in
            let found = position-Some (is_row_of target end) names q none e in
            let new = stands q row (slice_get-get_or names q none found.0) in
            let same : table_at changes q ≡ target = new.1 ∙ same_table row.table target (and_parts (row.table.0 == target.0) (row.object.0 == end.0) found.1).0 in
            let less : q < length changes.fresh = new.0 in
            let first : nat_lt q (length changes.fresh) ≡ true = grind (arith, nat_tests) in
            and_from (nat_lt q (length changes.fresh)) (takes_part column (slice_get (key_columns (spec_of mapped.schema (table_at changes q))) i)) first
            (ap (λ (t : TableId). takes_part column (slice_get (key_columns (spec_of mapped.schema t)) i)) same ∙ ap (takes_part column) at ∙ alike)

        -- what a link to an object gives a column of its foreign key
        pub end_fits : (foreign : ForeignSpec) → Has (spec_of mapped.schema table).foreigns foreign → (target : TableId) → target_of mapped.schema foreign ≡ Some target → (end : ObjId) → IsEndIn target end
            → (column : ColumnSpec) → Has columns column → (i : ℕ) → slice_get foreign.columns i ≡ Some column.name → cell_fits mapped.schema changes column (end_cell graph names (target_of mapped.schema foreign) i (Some end)) ≡ true
        end_fits foreign there target is end ends column of i at =
            let part = opposite (has_kind columns) foreign.columns (key_columns (spec_of mapped.schema target)) i column.name (target_fits foreign target there is) at in
            ap (λ (t : Option TableId). cell_fits mapped.schema changes column (end_cell graph names t i (Some end))) is
            ∙ key_part_fits target end column part.0 i (place_among names (Some target) end) ends refl part.1 (column_kind column of part.0 part.2)
