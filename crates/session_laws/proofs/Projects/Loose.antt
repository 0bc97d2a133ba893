-- A part of a key stands only in a column of a foreign key.
use Rattle.std.proofs.Common.{◌≡◌, inl, inr, ℕ, zero, suc, ◌+◌, ◌-◌, Bool, true, false, cond, not, ◌&&◌, ◌==◌, nat_lt, List, [], ◌∷◌, length, map, get_or, Option, None, Some, is_none, is_some, refl, sym, subst, ap, ◌∙◌, zero-add, arith}
use Rattle.std.proofs.lemmas.Bool.{eq-eqb, eqb-true}
use Rattle.std.proofs.lemmas.List.Elements.{recursion_from_All}
use Rattle.std.proofs.lemmas.List.Folds.{list_any_at}
use Rattle.std.proofs.lemmas.List.Quantifiers.{position-Some}
use Rattle.std.proofs.lemmas.Option.{same_Some, slice_get-get_or}
use Rattle.std.specs.Prelude.{slice_get, unwrap_or}
use Rattle.std.specs.Cmp.Lexicographic.{pointwise}
use Rattle.std.specs.List.{AllByRecursion, cons_option, enumerate_from, filter, flat_map, list_all, list_any, position}
use Rattle.base_core.specs.declared.ids.ClassId.{ClassId}
use Rattle.base_core.specs.declared.ids.ObjId.{ObjId}
use Rattle.base_core.specs.declared.ids.TableId.{TableId}
use Rattle.base_core.specs.declared.refusal.RowName.{RowName}
use Rattle.base_core.specs.declared.value.Value.TheVariants.{Null}
use Rattle.schema_core.specs.declared.changes.NewRow.{NewRow}
use Rattle.schema_core.specs.declared.changes.RowCell.{RowCell}
use Rattle.schema_core.specs.declared.changes.RowCell.TheVariants.{Given, KeyOf}
use Rattle.schema_core.specs.declared.changes.RowChanges.{RowChanges}
use Rattle.schema_core.specs.declared.table.ColumnSpec.{ColumnSpec}
use Rattle.schema_core.specs.declared.table.ForeignSpec.{ForeignSpec}
use Rattle.schema_core.specs.declared.table.TableSpec.{TableSpec}
use Rattle.schema_core.specs.Catalog.{Catalog, has_name, no_table, same_name, spec_of}
use Rattle.schema_core.specs.Tables.{value_or_null}
use Rattle.class_types.specs.declared.declared.ClassSpec.{ClassSpec}
use Rattle.class_types.specs.declared.mapped.Relation.{Relation}
use Rattle.class_layouts.specs.Columns.{columns_in, named_table, own_table, table_in, tables_on}
use Rattle.class_layouts.specs.Faults.{foreigns_in, foreigns_of}
use Rattle.class_layouts.specs.Hierarchy.{line_of, no_class, root_in}
use Rattle.class_sides.specs.Keys.{before_rank, is_inherited, is_tied, is_whole_key, refers_to, ties_to}
use Rattle.class_mapping.specs.Lines.{AreLines, is_root_over, is_rooted}
use Rattle.class_mapping.specs.Mapped.{IsClass, IsValidMapping, Mapped, class_or, class_spec, relations_of, root_table, table_or_none, tables_of}
use Rattle.class_mapping.specs.Valid.{extends_rightly, is_tied_in}
use Rattle.class_mapping.proofs.Having.{Has, all_from, all_of, any_has, from_flat, from_map, has_at, has_filter, has_numbered, none_of, some_of, true_false}
use Rattle.class_mapping.proofs.Lists.{and_left, and_right, some_is}
use Rattle.class_mapping.proofs.RelatedKeys.{or_rest}
use Rattle.class_mapping.proofs.RelatedLemmas.{layout_here, layouts_in, line_for}
use Rattle.object_arena.specs.declared.object.Cell.{Cell}
use Rattle.object_arena.specs.Fit.{IsFit}
use Rattle.object_arena.specs.Graph.{Graph, IsObject, object_at}
use Rattle.object_arena.proofs.FitLemmas.{fit_class}
use Rattle.object_rows.specs.declared.prepared.Prepared.{Prepared}
use Rattle.object_rows.specs.Cells.{first_cell, foreign_cell, is_by, linked_cell, or_first, part_cell, put_cell, relation_cell}
use Rattle.object_rows.specs.Rows as rows
use Rattle.object_rows.specs.Seen.{end_put, is_kept_end, new_objects}
use Rattle.object_rows.proofs.ObjectSteps.{names_made}
use Rattle.pair_rows.specs.Pairs as pairs
use Rattle.row_project.specs.Changes.{object_changes, project}
use Rattle.row_partners.specs.Partners as switching
use Rattle.row_switches.specs.Switch as switch
use Rattle.row_switches.proofs.Each.{all_append, all_map, map_given, numbered}
use Rattle.row_switches.proofs.RowsAfter.{all_staying}
use Rattle.session_laws.specs.Plans.Laws.{AreLoose, is_given}
use Rattle.session_laws.specs.Projects.{KeyPartsAreForeign}
use Rattle.session_laws.proofs.Projects.Columns.{no_key}
use Rattle.session_laws.proofs.Projects.LateKeys.{each_has}

-- ---- cells of columns

loose_numbered : (foreigns : List ForeignSpec) (f : ℕ × ColumnSpec → RowCell) (n : ℕ) (columns : List ColumnSpec)
    → ((placed : ℕ × ColumnSpec) → Has columns placed.1 → list_any (λ foreign. has_name foreign.columns placed.1.name) foreigns ≡ false → is_given (f placed) ≡ true)
    → AreLoose foreigns columns (map f (enumerate_from n columns))
loose_numbered foreigns f n [] each = tt
loose_numbered foreigns f n (column ∷ columns) each = (each (n, column) (inl refl), loose_numbered foreigns f (n + 1) columns (λ placed has. each placed (inr has)))

loose_columns : (foreigns : List ForeignSpec) (f : ColumnSpec → RowCell) → ((column : ColumnSpec) → list_any (λ foreign. has_name foreign.columns column.name) foreigns ≡ false → is_given (f column) ≡ true)
    → (columns : List ColumnSpec) → AreLoose foreigns columns (map f columns)
loose_columns foreigns f each [] = tt
loose_columns foreigns f each (column ∷ columns) = (each column, loose_columns foreigns f each columns)

-- a value stays one
pub stays_given : (schema : Catalog) (changes : RowChanges) (partners : List (Option ℕ)) (cell : RowCell) → is_given cell ≡ true → is_given (switch.cell_after_switch schema changes partners cell) ≡ true
stays_given schema changes partners (Given value) h = refl
stays_given schema changes partners (KeyOf place part) h = absurd (cc)

loose_after : (schema : Catalog) (changes : RowChanges) (partners : List (Option ℕ)) (foreigns : List ForeignSpec) (columns : List ColumnSpec) (cells : List RowCell)
    → AreLoose foreigns columns cells → AreLoose foreigns columns (map (switch.cell_after_switch schema changes partners) cells)
loose_after schema changes partners foreigns [] cells loose = tt
loose_after schema changes partners foreigns (column ∷ columns) [] loose = tt
loose_after schema changes partners foreigns (column ∷ columns) (cell ∷ cells) loose =
    (λ apart. stays_given schema changes partners cell (loose.0 apart), loose_after schema changes partners foreigns columns cells loose.1)

-- ---- a column in no foreign key is given nothing by links

pub no_place : {A : Type 0} (test : A → Bool) (xs : List A) → list_any test xs ≡ false → (found : Option ℕ) → position test xs ≡ found → found ≡ None
no_place test xs none None e = refl
no_place test [] none (Some i) e = absurd (cc)
no_place test (x ∷ xs) none (Some i) e =
    let at = position-Some test (x ∷ xs) i x e in
    absurd (true_false (list_any test (x ∷ xs)) (list_any_at test (x ∷ xs) i x at.0 at.1) none)

pub gives_none : (schema : Catalog) (graph : Graph) (names : List RowName) (name : List ℕ) (end : Option ObjId) (foreigns : List ForeignSpec) (n : ℕ) (found : Option ForeignSpec)
    → slice_get foreigns n ≡ found → list_any (λ foreign. has_name foreign.columns name) foreigns ≡ false → foreign_cell schema graph names name end found ≡ None
gives_none schema graph names name end foreigns n None at apart = refl
gives_none schema graph names name end foreigns n (Some foreign) at apart =
    ap (part_cell schema graph names foreign end)
    (no_place (λ own. same_name own name) foreign.columns (none_of (λ (f : ForeignSpec). has_name f.columns name) foreigns foreign apart (has_at foreigns n foreign at)) (position (λ own. same_name own name) foreign.columns) refl)

pub put_of : (schema : Catalog) (graph : Graph) (prepared : Prepared) (names : List RowName) (name : List ℕ) (found : Option ForeignSpec) → ((end : Option ObjId) → foreign_cell schema graph names name end found ≡ None)
    → (put : Option (Option ObjId)) → put_cell schema graph prepared names name found put ≡ None
put_of schema graph prepared names name found none None = refl
put_of schema graph prepared names name found none (Some end) = by (is_kept_end graph prepared end)
  where
    by : (b : Bool) → cond b (foreign_cell schema graph names name end found) None ≡ None
    by true = none end
    by false = refl

linked_none : (mapped : Mapped) (graph : Graph) (prepared : Prepared) (names : List RowName) (object : ObjId) (table : TableId) (name : List ℕ) (list : List (ℕ × Relation))
    → list_any (λ foreign. has_name foreign.columns name) (foreigns_in mapped.schema.tables table) ≡ false → first_cell (map (relation_cell mapped graph prepared names object table name) list) ≡ None
linked_none mapped graph prepared names object table name [] apart = refl
linked_none mapped graph prepared names object table name (placed ∷ list) apart =
    ap (λ first. or_first first (first_cell (map (relation_cell mapped graph prepared names object table name) list))) (by (is_by table placed.1))
    ∙ linked_none mapped graph prepared names object table name list apart
  where
    by : (b : Bool) → cond b (put_cell mapped.schema graph prepared names name (slice_get (foreigns_in mapped.schema.tables table) placed.1.foreign.1) (end_put graph prepared object (record { 0 = placed.0 }))) None ≡ None
    by true = put_of mapped.schema graph prepared names name (slice_get (foreigns_in mapped.schema.tables table) placed.1.foreign.1)
        (λ end. gives_none mapped.schema graph names name end (foreigns_in mapped.schema.tables table) placed.1.foreign.1 (slice_get (foreigns_in mapped.schema.tables table) placed.1.foreign.1) refl apart)
        (end_put graph prepared object (record { 0 = placed.0 }))
    by false = refl

own_by : (b : Bool) (identity : RowCell) (linked : Option RowCell) (own : Option Cell) → is_given identity ≡ true → linked ≡ None → is_given (cond b identity (rows.cell_or linked own)) ≡ true
own_by true identity linked own h e = h
own_by false identity linked own h e = ap (λ link. is_given (rows.cell_or link own)) e

own_given : (mapped : Mapped) (graph : Graph) (prepared : Prepared) (names : List RowName) (row : RowName) (column : ℕ × ColumnSpec)
    → list_any (λ foreign. has_name foreign.columns column.1.name) (foreigns_in mapped.schema.tables row.table) ≡ false → is_given (rows.own_cell mapped graph prepared names row column) ≡ true
own_given mapped graph prepared names row column apart =
    own_by (rows.is_discriminator mapped (object_at graph row.object).class row.table column.1.name) (Given (value_or_null (class_spec mapped (object_at graph row.object).class).identity))
    (linked_cell mapped graph prepared names row.object row.table column.1.name) (rows.cell_for mapped (object_at graph row.object) row.table column.0) refl
    (linked_none mapped graph prepared names row.object row.table column.1.name (enumerate_from 0 (relations_of mapped (object_at graph row.object).class)) apart)

-- ---- the key of a joined table is a foreign key

pub has_place : {A : Type 0} (xs : List A) (x : A) → Has xs x → (i : ℕ) × (slice_get xs i ≡ Some x)
has_place [] x h = absurd h
has_place (y ∷ xs) x (inl e) = (0, ap (λ z. Some z) e)
has_place (y ∷ xs) x (inr h) = let rest = has_place xs x h in (suc rest.0, rest.1)

pub named_once : (names : List (List ℕ)) (keys : List ColumnSpec) (column : ColumnSpec) → pointwise (λ name (own : ColumnSpec). same_name name own.name) names keys ≡ true → Has keys column → has_name names column.name ≡ true
named_once [] [] column h has = absurd has
named_once [] (own ∷ keys) column h has = absurd (cc)
named_once (name ∷ names) [] column h has = absurd has
named_once (name ∷ names) (own ∷ keys) column h (inl e) =
    any_has (λ other. same_name other column.name) (name ∷ names) name (inl refl)
    (ap (λ (c : ColumnSpec). same_name name c.name) (sym e) ∙ and_left (same_name name own.name) (pointwise (λ name (own : ColumnSpec). same_name name own.name) names keys) h)
named_once (name ∷ names) (own ∷ keys) column h (inr has) =
    let later = some_of (λ other. same_name other column.name) names (named_once names keys column (and_right (same_name name own.name) (pointwise (λ name (own : ColumnSpec). same_name name own.name) names keys) h) has) in
    any_has (λ other. same_name other column.name) (name ∷ names) later.0 (inr later.1) later.2

pub by_parent : (tables : List TableSpec) (table : TableId) (parent : Option TableId) (foreign : ForeignSpec) → ties_to tables table parent foreign ≡ true → is_whole_key (columns_in tables table) foreign.columns ≡ true
by_parent tables table None foreign h = absurd (cc)
by_parent tables table (Some parent) foreign h = and_left (is_whole_key (columns_in tables table) foreign.columns) (refers_to tables foreign parent) h

first_of_option : {A : Type 0} (found : Option A) (x y : A) (xs : List A) → found ≡ Some x → slice_get (cons_option found xs) 0 ≡ Some y → y ≡ x
first_of_option None x y xs e h = absurd (cc)
first_of_option (Some z) x y xs e h = sym (same_Some z y h) ∙ same_Some z x e

-- the first table of a line is its root's
first_table : (mapped : Mapped) (class : ClassId) (line : List ClassId) (table : TableId) → is_rooted mapped.schema.tables mapped.classes.specs line ≡ true
    → slice_get (tables_on mapped.schema.tables mapped.classes line) 0 ≡ Some table → table ≡ table_or_none (own_table mapped.schema.tables mapped.classes (class_or (root_in line) class).0)
first_table mapped class [] table rooted at = absurd (cc)
first_table mapped class (root ∷ line) table rooted at = by (slice_get mapped.classes.specs root.0) refl rooted
  where
    by : (spec : Option ClassSpec) → slice_get mapped.classes.specs root.0 ≡ spec → is_root_over mapped.schema.tables spec ≡ true → table ≡ table_or_none (own_table mapped.schema.tables mapped.classes root.0)
    by None e h = absurd (cc)
    by (Some spec) e h =
        let over = some_is (named_table mapped.schema.tables spec.table) (and_right (is_none spec.base) (is_some (named_table mapped.schema.tables spec.table)) h) in
        let own : own_table mapped.schema.tables mapped.classes root.0 ≡ Some over.0 = ap (table_in mapped.schema.tables) e ∙ over.1 in
        first_of_option (own_table mapped.schema.tables mapped.classes root.0) over.0 table (tables_on mapped.schema.tables mapped.classes line) own at ∙ sym (ap table_or_none own)

not_zero : (rank : ℕ) (b : Bool) → (suc rank == 0) ≡ b → b ≡ false
not_zero rank false e = refl
not_zero rank true e = absurd (omega (arith, eqb-true (suc rank) 0 e))

pub foreigns_same : (tables : List TableSpec) (n : ℕ) → foreigns_of (slice_get tables n) ≡ (get_or tables n no_table).foreigns
foreigns_same [] n = refl
foreigns_same (spec ∷ tables) zero = refl
foreigns_same (spec ∷ tables) (suc n) = foreigns_same tables n

module _ (mapped : Mapped) (lined : length mapped.classes.lines ≡ length mapped.classes.specs) (lines : AreLines mapped.schema.tables mapped.classes) (valid : IsValidMapping mapped) where
  abbrev tables : List TableSpec
  tables = mapped.schema.tables

  pub joined_rank : (class : ClassId) → IsClass mapped class → (table : TableId) (rank : ℕ) → slice_get (tables_of mapped class) rank ≡ Some table → rows.is_joined mapped class table ≡ true → (rank == 0) ≡ false
  joined_rank class less table zero at joined =
      let rooted : is_rooted tables mapped.classes.specs (line_of mapped.classes class.0) ≡ true =
      all_of (is_rooted tables mapped.classes.specs) mapped.classes.lines (line_of mapped.classes class.0) lines.rooted (has_at mapped.classes.lines class.0 (line_of mapped.classes class.0) (line_for mapped lined lines class.0 less)) in
      absurd (apart (root_table mapped class) (sym (first_table mapped class (line_of mapped.classes class.0) table rooted at)) joined)
    where
      apart : (root : TableId) → root ≡ table → not (root.0 == table.0) ≡ true → ⊥
      apart root e h = true_false (root.0 == table.0) (ap (λ (t : TableId). root.0 == t.0) (sym e) ∙ eq-eqb root.0 root.0 refl) (no_key (root.0 == table.0) h)
  joined_rank class less table (suc rank) at joined = not_zero rank (suc rank == 0) refl

  -- the foreign key that ties a joined table to the one before it
  pub tie_of : (class : ClassId) → IsClass mapped class → (table : TableId) (rank : ℕ) → slice_get (tables_of mapped class) rank ≡ Some table → rows.is_joined mapped class table ≡ true
      → (foreign : ForeignSpec) × Has (foreigns_in tables table) foreign × (is_inherited tables (tables_of mapped class) rank table foreign ≡ true)
  tie_of class less table rank at joined =
      let specs = mapped.classes.specs in
      let spec = get_or specs class.0 no_class in
      let own = tables_of mapped class in
      let placed : Has (enumerate_from 0 specs) (class.0, spec) = subst (λ n. Has (enumerate_from 0 specs) (n, spec)) (zero-add class.0) (has_numbered 0 specs class.0 spec (slice_get-get_or specs class.0 no_class less)) in
      let tied = and_right (not (nat_lt 16 (length (line_of mapped.classes class.0)))) (is_tied_in tables (slice_get (layouts_in mapped) class.0))
      (all_of (extends_rightly tables mapped.classes (layouts_in mapped)) (enumerate_from 0 specs) (class.0, spec) valid.tied placed) in
      let each : list_all (is_tied tables own) (enumerate_from 0 own) ≡ true = ap (is_tied_in tables) (sym (layout_here mapped lined lines class less)) ∙ tied in
      let ranked : Has (enumerate_from 0 own) (rank, table) = subst (λ n. Has (enumerate_from 0 own) (n, table)) (zero-add rank) (has_numbered 0 own rank table at) in
      some_of (is_inherited tables own rank table) (foreigns_in tables table)
      (or_rest (rank == 0) (list_any (is_inherited tables own rank table) (foreigns_in tables table))
      (all_of (is_tied tables own) (enumerate_from 0 own) (rank, table) each ranked) (joined_rank class less table rank at joined))

  tied_key : (class : ClassId) → IsClass mapped class → (table : TableId) → Has (tables_of mapped class) table → rows.is_joined mapped class table ≡ true
      → (column : ColumnSpec) → Has (columns_in tables table) column → column.key ≡ true → list_any (λ foreign. has_name foreign.columns column.name) (foreigns_in tables table) ≡ true
  tied_key class less table has joined column inside key =
      let at = has_place (tables_of mapped class) table has in
      let foreign = tie_of class less table at.0 at.1 joined in
      let whole = by_parent tables table (before_rank (tables_of mapped class) at.0) foreign.0 foreign.2 in
      any_has (λ (f : ForeignSpec). has_name f.columns column.name) (foreigns_in tables table) foreign.0 foreign.1
      (named_once foreign.0.columns (filter (λ (own : ColumnSpec). own.key) (columns_in tables table)) column whole (has_filter (λ (own : ColumnSpec). own.key) (columns_in tables table) column inside key))

  -- ---- new rows

  module _ (graph : Graph) (prepared : Prepared) (fit : IsFit mapped graph) where
    -- the row is of a table of its object's class, which is declared
    abbrev pub IsOwn : RowName → Type 0
    IsOwn row = IsClass mapped (object_at graph row.object).class × Has (tables_of mapped (object_at graph row.object).class) row.table

    pub names_own : AllByRecursion IsOwn (rows.new_names mapped graph prepared)
    unfolding rows.new_names
    names_own =
        let names = flat_map (rows.rows_of mapped graph) (new_objects graph prepared) in
        all_from IsOwn names (λ row has.
        let made = each_has (λ (r : RowName). IsObject graph r.object) names row (recursion_from_All (λ (r : RowName). IsObject graph r.object) names (names_made mapped graph prepared names refl)) has in
        let at = from_flat (rows.rows_of mapped graph) (new_objects graph prepared) row has in
        let one = from_map (rows.row_name at.0) (tables_of mapped (object_at graph at.0).class) row at.2 in
        (fit_class mapped graph row.object fit made, subst (λ (r : RowName). Has (tables_of mapped (object_at graph r.object).class) r.table) one.2 one.1))

    cell_loose : (names : List RowName) (placed : ℕ × RowName) → IsOwn placed.1 → (column : ℕ × ColumnSpec) → Has (columns_in tables placed.1.table) column.1
        → list_any (λ foreign. has_name foreign.columns column.1.name) (foreigns_in tables placed.1.table) ≡ false → is_given (rows.new_cell mapped graph prepared names placed column) ≡ true
    cell_loose names placed own column inside apart = by (rows.is_joined mapped (object_at graph placed.1.object).class placed.1.table) column.1.key refl refl
      where
        by : (joined key : Bool) → rows.is_joined mapped (object_at graph placed.1.object).class placed.1.table ≡ joined → column.1.key ≡ key
            → is_given (cond (joined && key) (KeyOf (placed.0 - 1) (rows.key_part (rows.columns_at mapped placed.1.table) column.0)) (rows.own_cell mapped graph prepared names placed.1 column)) ≡ true
        by true true j k = absurd (true_false (list_any (λ foreign. has_name foreign.columns column.1.name) (foreigns_in tables placed.1.table)) (tied_key (object_at graph placed.1.object).class own.0 placed.1.table own.1 j column.1 inside k) apart)
        by true false j k = own_given mapped graph prepared names placed.1 column apart
        by false key j k = own_given mapped graph prepared names placed.1 column apart

    abbrev IsLoose : NewRow → Type 0
    IsLoose row = AreLoose (spec_of mapped.schema row.name.table).foreigns (spec_of mapped.schema row.name.table).columns row.cells

    new_loose : AllByRecursion IsLoose (rows.new_rows mapped graph prepared)
    unfolding rows.new_rows
    new_loose =
        let names = rows.new_names mapped graph prepared in
        all_map (λ (placed : ℕ × RowName). IsOwn placed.1) IsLoose (rows.new_row mapped graph prepared names)
        (λ placed own. loose_numbered (spec_of mapped.schema placed.1.table).foreigns (rows.new_cell mapped graph prepared names placed) 0 (spec_of mapped.schema placed.1.table).columns
        (λ column has apart. cell_loose names placed own column has (ap (λ fs. list_any (λ (foreign : ForeignSpec). has_name foreign.columns column.1.name) fs) (foreigns_same tables placed.1.table.0) ∙ apart)))
        (enumerate_from 0 names) (numbered IsOwn 0 names names_own)

    pair_loose : (pair : pairs.Pair) (column : ColumnSpec) → list_any (λ foreign. has_name foreign.columns column.name) (spec_of mapped.schema pair.0).foreigns ≡ false
        → is_given (pairs.pair_cell mapped graph (rows.new_names mapped graph prepared) pair column) ≡ true
    pair_loose pair column apart =
        let names = rows.new_names mapped graph prepared in
        let foreigns = foreigns_in tables pair.0 in
        let free : list_any (λ (foreign : ForeignSpec). has_name foreign.columns column.name) foreigns ≡ false = ap (λ fs. list_any (λ (foreign : ForeignSpec). has_name foreign.columns column.name) fs) (foreigns_same tables pair.0.0) ∙ apart in
        ap (λ cell. is_given (unwrap_or cell (Given Null)))
        (ap (λ first. or_first first (foreign_cell mapped.schema graph names column.name (Some pair.1.1) (slice_get foreigns 1)))
        (gives_none mapped.schema graph names column.name (Some pair.1.0) foreigns 0 (slice_get foreigns 0) refl free)
        ∙ gives_none mapped.schema graph names column.name (Some pair.1.1) foreigns 1 (slice_get foreigns 1) refl free)

    made_loose : AllByRecursion IsLoose (pairs.made_rows mapped graph prepared)
    unfolding pairs.made_rows
    made_loose =
        map_given IsLoose (pairs.made_row mapped graph (rows.new_names mapped graph prepared))
        (λ pair. loose_columns (spec_of mapped.schema pair.0).foreigns (pairs.pair_cell mapped graph (rows.new_names mapped graph prepared) pair) (pair_loose pair) (spec_of mapped.schema pair.0).columns)
        (pairs.made_pairs mapped graph prepared)

    all_loose : AllByRecursion IsLoose (project mapped graph prepared).fresh
    all_loose =
        let changes = object_changes mapped graph prepared in
        let partners = switching.partners mapped.schema changes in
        all_staying IsLoose IsLoose mapped.schema changes partners
        (λ row loose. loose_after mapped.schema changes partners (spec_of mapped.schema row.name.table).foreigns (spec_of mapped.schema row.name.table).columns row.cells loose)
        (all_append IsLoose (rows.new_rows mapped graph prepared) (pairs.made_rows mapped graph prepared) new_loose made_loose)

pub parts_are_foreign : KeyPartsAreForeign
parts_are_foreign mapped graph prepared lined lines valid fit = all_loose mapped lined lines valid graph prepared fit
