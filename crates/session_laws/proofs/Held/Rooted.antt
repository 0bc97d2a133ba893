-- All rows of a new object have one key: that of its row in its root's table.
use Rattle.std.proofs.Common.{◌≡◌, ℕ, zero, suc, ◌+◌, ◌<◌, Bool, true, false, cond, not, ◌&&◌, ◌==◌, if◌then◌else◌, List, [], ◌∷◌, length, map, filter, take, get_or, Option, None, Some, option_map, ◌-◌, refl, sym, subst, ap, ◌∙◌, arith}
use Rattle.std.specs.Prelude.{slice_get}
use Rattle.std.specs.List.{AllByRecursion, count_by, enumerate_from, flat_map}
use Rattle.std.proofs.lemmas.Bool.{eq-eqb, eqb-true}
use Rattle.std.proofs.lemmas.List.{length-map}
use Rattle.std.proofs.lemmas.List.Sums.{sum_by-cons}
use Rattle.std.proofs.lemmas.Option.{slice_get-get_or, slice_get-map, slice_get_within}
use Rattle.base_core.specs.declared.ids.ClassId.{ClassId}
use Rattle.base_core.specs.declared.ids.ObjId.{ObjId}
use Rattle.base_core.specs.declared.ids.TableId.{TableId}
use Rattle.base_core.specs.declared.refusal.RowName.{RowName}
use Rattle.base_core.specs.declared.value.Kind.{Kind}
use Rattle.base_core.specs.declared.value.Value.{Value}
use Rattle.base_core.specs.declared.value.Value.TheVariants.{Null}
use Rattle.schema_core.specs.declared.changes.NewRow.{NewRow}
use Rattle.schema_core.specs.declared.changes.RowCell.{RowCell}
use Rattle.schema_core.specs.declared.changes.RowCell.TheVariants.{Given, KeyOf}
use Rattle.schema_core.specs.declared.changes.RowChanges.{RowChanges}
use Rattle.schema_core.specs.declared.table.ColumnSpec.{ColumnSpec}
use Rattle.schema_core.specs.Catalog.{key_columns, kind_of, spec_of}
use Rattle.schema_core.specs.Tables.{Tables}
use Rattle.class_mapping.specs.Mapped.{IsClass, Mapped, root_table, tables_of}
use Rattle.class_mapping.proofs.Having.{Has, has_at}
use Rattle.mapping_laws.specs.Hierarchies.{HasTables}
use Rattle.mapping_laws.proofs.Ties.{class_tables}
use Rattle.object_arena.specs.Graph.{Graph, object_at}
use Rattle.flush_order.specs.Cells.{cells_cleared, is_late, key_parts, new_at, table_at}
use Rattle.flush_plan.specs.Flushing.{Sofar}
use Rattle.object_rows.specs.declared.prepared.Prepared.{Prepared}
use Rattle.object_rows.specs.Rows.{columns_at, is_joined, key_part, new_cell, new_names, new_row, own_cell, row_name, rows_of}
use Rattle.object_rows.specs.Seen.{new_objects}
use Rattle.row_project.specs.Changes.{object_changes, project}
use Rattle.session_laws.proofs.Plans.InsertOrder.{all_drawn}
use Rattle.session_laws.proofs.Plans.Facts.{true_false}
use Rattle.session_laws.proofs.Plans.Referring.{AllDrawn}
use Rattle.session_laws.specs.Projects.{IsWhole}
use Rattle.session_laws.proofs.Projects.LateKeys.{each_has}
use Rattle.session_laws.proofs.Projects.Loose.{IsOwn, names_own}
use Rattle.session_laws.proofs.Projects.Rows.{plain_whole}
use Rattle.session_laws.specs.Graphs.{HasTablesOnce}
use Rattle.session_laws.proofs.Graphs.MappingFacts.{once_law}
use Rattle.session_laws.proofs.Graphs.Named.{IsInPiece, in_piece, two_places}
use Rattle.session_laws.proofs.Projects.Apart.{none_given}
use Rattle.session_laws.proofs.Held.Done.{IsDone}
use Rattle.session_laws.proofs.Held.Keys.{row_key, same_key}
use Rattle.session_laws.proofs.Held.Names.{first_row, names_within}

-- the parts of a key whose cells are the parts of another
parts_are : (t : ColumnSpec → Bool) (p m n : ℕ) (f : ℕ × ColumnSpec → RowCell) (cs : List ColumnSpec)
    → ((j : ℕ) (c : ColumnSpec) → slice_get cs j ≡ Some c → c.key ≡ true → (t c ≡ false) × (f (n + j, c) ≡ KeyOf p (m + count_by (λ (other : ColumnSpec). other.key) (take j cs))))
    → (i : ℕ) → i < length (filter (λ (c : ColumnSpec). c.key) cs) → get_or (key_parts cs (cells_cleared t (Given Null) cs (map f (enumerate_from n cs)))) i (Given Null) ≡ KeyOf p (m + i)
parts_are t p m n f [] each i less = absurd (omega (arith, less))
parts_are t p m n f (c ∷ cs) each i less =
    by c.key refl i less
    (λ key k inside. parts_are t p (m + 1) (n + 1) f cs (λ j d at own. let it = each (suc j) d at own in (it.0, counted true key j d it.1)) k inside)
    (λ free k inside. parts_are t p m (n + 1) f cs (λ j d at own. let it = each (suc j) d at own in (it.0, let e : m + 0 ≡ m = omega arith in subst (λ (a : ℕ). f (n + 1 + j, d) ≡ KeyOf p (a + count_by (λ (other : ColumnSpec). other.key) (take j cs))) e (counted false free j d it.1))) k inside)
  where
    counted : (b : Bool) → c.key ≡ b → (j : ℕ) (d : ColumnSpec) → f (n + suc j, d) ≡ KeyOf p (m + count_by (λ (other : ColumnSpec). other.key) (take (suc j) (c ∷ cs)))
        → f (n + 1 + j, d) ≡ KeyOf p (m + (let one : ℕ = cond b 1 0 in one) + count_by (λ (other : ColumnSpec). other.key) (take j cs))
    counted b e j d is =
        let place : n + 1 + j ≡ n + suc j = omega arith in
        let here : (let one : ℕ = cond c.key 1 0 in one ≡ (let two : ℕ = cond b 1 0 in two)) = ap (λ (b : Bool). let one : ℕ = cond b 1 0 in one) e in
        let number : m + count_by (λ (other : ColumnSpec). other.key) (take (suc j) (c ∷ cs)) ≡ m + (let one : ℕ = cond b 1 0 in one) + count_by (λ (other : ColumnSpec). other.key) (take j cs) =
        omega (arith, sum_by-cons (λ (other : ColumnSpec). cond other.key 1 0) c (take j cs), here) in
        ap (λ (k : ℕ). f (k, d)) place ∙ is ∙ ap (KeyOf p) number

    by : (b : Bool) → c.key ≡ b → (i : ℕ) → i < length (cond b (c ∷ filter (λ (c : ColumnSpec). c.key) cs) (filter (λ (c : ColumnSpec). c.key) cs))
        → (c.key ≡ true → (k : ℕ) → k < length (filter (λ (c : ColumnSpec). c.key) cs) → get_or (key_parts cs (cells_cleared t (Given Null) cs (map f (enumerate_from (n + 1) cs)))) k (Given Null) ≡ KeyOf p (m + 1 + k))
        → (c.key ≡ false → (k : ℕ) → k < length (filter (λ (c : ColumnSpec). c.key) cs) → get_or (key_parts cs (cells_cleared t (Given Null) cs (map f (enumerate_from (n + 1) cs)))) k (Given Null) ≡ KeyOf p (m + k))
        → get_or (cond b (cond (t c) (Given Null) (f (n, c)) ∷ key_parts cs (cells_cleared t (Given Null) cs (map f (enumerate_from (n + 1) cs)))) (key_parts cs (cells_cleared t (Given Null) cs (map f (enumerate_from (n + 1) cs))))) i (Given Null) ≡ KeyOf p (m + i)
    by false e i less up same = same e i less
    by true e (suc i) less up same = let number : m + 1 + i ≡ m + suc i = omega arith in up e i (omega (arith, less)) ∙ ap (KeyOf p) number
    by true e zero less up same =
        let own = each 0 c refl e in
        let place : n ≡ n + 0 = omega arith in
        ap (λ (b : Bool). cond b (Given Null) (f (n, c))) own.0 ∙ ap (λ (k : ℕ). f (k, c)) place ∙ own.1

module _ (mapped : Mapped) (graph : Graph) (prepared : Prepared) (old : Tables) (order : List ℕ) (placed : Sofar) (after : Tables) (done : IsDone mapped graph prepared old order placed after) where
  abbrev first : RowChanges
  first = object_changes mapped graph prepared

  abbrev names : List RowName
  names = new_names mapped graph prepared

  pub once : HasTablesOnce mapped
  once = once_law mapped done.well.lined done.well.lines

  pub whole : AllByRecursion (IsWhole mapped.schema) (object_changes mapped graph prepared).fresh
  whole = plain_whole mapped graph prepared

  pub drawn : AllDrawn mapped.schema (project mapped graph prepared) placed.keys
  drawn = all_drawn mapped.schema old (project mapped graph prepared) order placed after done.stated

  -- the key of a new row, switched or not
  abbrev pub own_key : ℕ → List Value
  own_key q = row_key mapped graph (object_changes mapped graph prepared) whole placed.keys drawn q

  pub name_own : (q : ℕ) (row : RowName) → slice_get (new_names mapped graph prepared) q ≡ Some row → IsClass mapped (object_at graph row.object).class × Has (tables_of mapped (object_at graph row.object).class) row.table
  name_own q row at =
      each_has (IsOwn mapped done.well.lined done.well.lines done.well.valid graph prepared done.own.fit) (new_names mapped graph prepared) row (names_own mapped done.well.lined done.well.lines done.well.valid graph prepared done.own.fit)
      (has_at (new_names mapped graph prepared) q row at)

  pub known_tables : (object : ObjId) → IsClass mapped (object_at graph object).class → HasTables mapped (object_at graph object).class
  known_tables object class = class_tables mapped (object_at graph object).class done.classes class

  -- a column of a key is not written late
  pub never_late : (table : TableId) (c : ColumnSpec) → Has (spec_of mapped.schema table).columns c → c.key ≡ true → is_late mapped.schema (object_changes mapped graph prepared) table c ≡ false
  never_late table c has key = by (is_late mapped.schema (object_changes mapped graph prepared) table c) refl
    where
      by : (b : Bool) → is_late mapped.schema (object_changes mapped graph prepared) table c ≡ b → b ≡ false
      by false e = refl
      by true e =
          absurd (true_false (sym key ∙ each_has (λ (column : ColumnSpec). is_late mapped.schema (object_changes mapped graph prepared) table column ≡ true → column.key ≡ false) (spec_of mapped.schema table).columns c (done.stated.projected.fit.no_key table) has e))

  -- where the rows of an object begin
  pub record HasRoot (object : ObjId) (key : List Value) : Type 0 where
    pub place : ℕ
    pub at : slice_get (new_names mapped graph prepared) place ≡ Some (row_name object (root_table mapped (object_at graph object).class))
    pub is : own_key place ≡ key

  -- a row behind the first has the key of the one before it
  tied : (object : ObjId) (q rank : ℕ) (parent table : TableId) → IsClass mapped (object_at graph object).class → slice_get (tables_of mapped (object_at graph object).class) rank ≡ Some parent
      → slice_get (tables_of mapped (object_at graph object).class) (suc rank) ≡ Some table → slice_get (new_names mapped graph prepared) q ≡ Some (row_name object parent)
      → slice_get (new_names mapped graph prepared) (suc q) ≡ Some (row_name object table) → own_key (suc q) ≡ own_key q
  tied object q rank parent table class above below here next =
      let own : ClassId = (object_at graph object).class in
      let known = known_tables object class in
      let row : RowName = row_name object table in
      let less : suc q < length first.fresh = names_within mapped graph prepared (suc q) (slice_get_within names (suc q) row next) in
      let before : q < length first.fresh = omega (arith, less) in
      let made : new_at first (suc q) ≡ new_row mapped graph prepared names (suc q, row) = first_row mapped graph prepared (suc q) row next in
      let its : table_at first (suc q) ≡ table = ap (λ (r : NewRow). r.name.table) made in
      let parents : table_at first q ≡ parent = ap (λ (r : NewRow). r.name.table) (first_row mapped graph prepared q (row_name object parent) here) in
      let alike : length (key_columns (spec_of mapped.schema table)) ≡ length (key_columns (spec_of mapped.schema parent)) =
      sym (length-map (key_columns (spec_of mapped.schema table)) (λ column. kind_of column.kind))
      ∙ ap (λ (kinds : List Kind). length kinds) (sym (known.alike rank parent table above below))
      ∙ length-map (key_columns (spec_of mapped.schema parent)) (λ column. kind_of column.kind) in
      let joined : is_joined mapped own table ≡ true = apart (eq_root known) in
      same_key mapped graph first whole placed.keys drawn (suc q) q less before
      ((λ i. length (key_columns (spec_of mapped.schema (its i)))) ∙ alike ∙ (λ i. length (key_columns (spec_of mapped.schema (sym parents i)))))
      (λ i inside.
      ap (λ (r : NewRow). get_or (key_parts (spec_of mapped.schema r.name.table).columns (cells_cleared (is_late mapped.schema first r.name.table) (Given Null) (spec_of mapped.schema r.name.table).columns r.cells)) i (Given Null)) made
      ∙ parts_are (is_late mapped.schema first table) q 0 0 (new_cell mapped graph prepared names (suc q, row)) (spec_of mapped.schema table).columns
      (λ j c at key. (never_late table c (has_at (spec_of mapped.schema table).columns j c at) key, part_cell joined j c key)) i (omega (arith, inside, ap (λ (t : TableId). length (key_columns (spec_of mapped.schema t))) its))
      ∙ (let e : 0 + i ≡ i = omega arith in ap (KeyOf q) e))
    where
      eq_root : (known : HasTables mapped (object_at graph object).class) → slice_get (tables_of mapped (object_at graph object).class) 0 ≡ Some (root_table mapped (object_at graph object).class)
      eq_root known = ap (λ (own : List TableId). slice_get own 0) known.first

      apart : slice_get (tables_of mapped (object_at graph object).class) 0 ≡ Some (root_table mapped (object_at graph object).class) → is_joined mapped (object_at graph object).class table ≡ true
      apart root = by ((root_table mapped (object_at graph object).class).0 == table.0) refl
        where
          by : (b : Bool) → ((root_table mapped (object_at graph object).class).0 == table.0) ≡ b → not b ≡ true
          by false e = refl
          by true e =
              let same : (root_table mapped (object_at graph object).class).0 ≡ table.0 = eqb-true (root_table mapped (object_at graph object).class).0 table.0 e in
              absurd (omega (arith, two_places (λ (t u : TableId). t.0 == u.0) (tables_of mapped (object_at graph object).class) 0 (suc rank) (root_table mapped (object_at graph object).class) table (once (object_at graph object).class) root below e (eq-eqb table.0 (root_table mapped (object_at graph object).class).0 (sym same))))

      part_cell : is_joined mapped (object_at graph object).class table ≡ true → (j : ℕ) (c : ColumnSpec) → c.key ≡ true
          → new_cell mapped graph prepared names (suc q, row_name object table) (0 + j, c) ≡ KeyOf q (0 + count_by (λ (other : ColumnSpec). other.key) (take j (spec_of mapped.schema table).columns))
      part_cell joined j c key =
          let place : 0 + j ≡ j = omega arith in
          let number : 0 + count_by (λ (other : ColumnSpec). other.key) (take j (spec_of mapped.schema table).columns) ≡ count_by (λ (other : ColumnSpec). other.key) (take j (spec_of mapped.schema table).columns) = omega arith in
          let before : suc q - 1 ≡ q = omega arith in
          (λ i. new_cell mapped graph prepared names (suc q, row_name object table) (place i, c))
          ∙ (λ i. if joined i && key i then KeyOf (suc q - 1) (key_part (columns_at mapped table) j) else own_cell mapped graph prepared names (row_name object table) (j, c))
          ∙ (λ i. KeyOf (before i) (sym number i))

  chain : (object : ObjId) (offset : ℕ) → IsClass mapped (object_at graph object).class → ((k : ℕ) (row : RowName) → slice_get (rows_of mapped graph object) k ≡ Some row → slice_get (new_names mapped graph prepared) (offset + k) ≡ Some row)
      → (k : ℕ) (table : TableId) → slice_get (tables_of mapped (object_at graph object).class) k ≡ Some table → own_key (offset + k) ≡ own_key offset
  chain object offset class stand zero table at = let same : offset + 0 ≡ offset = omega arith in ap (λ (n : ℕ). own_key n) same
  chain object offset class stand (suc k) table at = by (slice_get list k) refl (λ parent above. chain object offset class stand k parent above)
    where
      list : List TableId
      list = tables_of mapped (object_at graph object).class

      named : (n : ℕ) (t : TableId) → slice_get (tables_of mapped (object_at graph object).class) n ≡ Some t → slice_get (new_names mapped graph prepared) (offset + n) ≡ Some (row_name object t)
      named n t there = stand n (row_name object t) (slice_get-map (row_name object) (tables_of mapped (object_at graph object).class) n ∙ ap (option_map (row_name object)) there)

      by : (found : Option TableId) → slice_get (tables_of mapped (object_at graph object).class) k ≡ found → ((parent : TableId) → slice_get (tables_of mapped (object_at graph object).class) k ≡ Some parent → own_key (offset + k) ≡ own_key offset) → own_key (offset + suc k) ≡ own_key offset
      by None e more =
          let inside : suc k < length (tables_of mapped (object_at graph object).class) = slice_get_within (tables_of mapped (object_at graph object).class) (suc k) table at in
          absurd (let f : Some (get_or (tables_of mapped (object_at graph object).class) k table) ≡ None = sym (slice_get-get_or (tables_of mapped (object_at graph object).class) k table (omega (arith, inside))) ∙ e in cc)
      by (Some parent) e more =
          let place : suc (offset + k) ≡ offset + suc k = omega arith in
          ap (λ (n : ℕ). own_key n) (sym place)
          ∙ tied object (offset + k) k parent table class e at (named k parent e) (ap (slice_get (new_names mapped graph prepared)) place ∙ named (suc k) table at)
          ∙ more parent e

  pub root_of_row : (q : ℕ) (row : RowName) → slice_get (new_names mapped graph prepared) q ≡ Some row → HasRoot row.object (own_key q)
  unfolding new_names
  root_of_row q row at =
      let class = (name_own q row at).0 in
      let piece : IsInPiece (rows_of mapped graph) (new_objects graph prepared) q row = in_piece (rows_of mapped graph) (new_objects graph prepared) q row at in
      let from = none_given (row_name piece.item) (slice_get (tables_of mapped (object_at graph piece.item).class) piece.rank) row (sym (slice_get-map (row_name piece.item) (tables_of mapped (object_at graph piece.item).class) piece.rank) ∙ piece.is) in
      let object : piece.item ≡ row.object = ap (λ (r : RowName). r.object) from.2 in
      let item : ObjId = piece.item in
      let here : IsClass mapped (object_at graph item).class = subst (λ (o : ObjId). IsClass mapped (object_at graph o).class) (sym object) class in
      let known = known_tables item here in
      let first_table : slice_get (tables_of mapped (object_at graph item).class) 0 ≡ Some (root_table mapped (object_at graph item).class) = ap (λ (own : List TableId). slice_get own 0) known.first in
      let begins : piece.offset + 0 ≡ piece.offset = omega arith in
      subst (λ (o : ObjId). HasRoot o (own_key q)) object
      (record {
        place = piece.offset;
        at = ap (slice_get (flat_map (rows_of mapped graph) (new_objects graph prepared))) (sym begins)
            ∙ piece.piece 0 (row_name item (root_table mapped (object_at graph item).class)) (slice_get-map (row_name item) (tables_of mapped (object_at graph item).class) 0 ∙ ap (option_map (row_name item)) first_table);
        is = sym (ap (λ (n : ℕ). own_key n) piece.at ∙ chain item piece.offset here piece.piece piece.rank from.0 from.1);
      })
