-- Where no row is switched, what the objects change stays as it is: rows that stay new keep their numbers, and no cell of a changed
-- row is held already.
use Rattle.std.proofs.Common.{◌≡◌, ℕ, zero, suc, ◌+◌, Bool, true, false, cond, List, [], ◌∷◌, ◌++◌, map, Option, None, Some, unwrap_or, is_some, refl, sym, subst, ap, ◌∙◌, arith}
use Rattle.std.proofs.lemmas.Option.{slice_get-get_or}
use Rattle.std.specs.Prelude.{slice_index_or}
use Rattle.std.specs.List.{AllByRecursion, cons_option, enumerate_from, filter, filter_map, list_any}
use Rattle.std.specs.Option.{option_map}
use Rattle.base_core.specs.declared.ids.ColumnNo.{ColumnNo}
use Rattle.base_core.specs.declared.ids.ObjId.{ObjId}
use Rattle.base_core.specs.declared.ids.TableId.{TableId}
use Rattle.base_core.specs.declared.refusal.RowName.{RowName}
use Rattle.base_core.specs.declared.value.Value.{Value}
use Rattle.schema_core.specs.declared.changes.ChangedRow.{ChangedRow}
use Rattle.schema_core.specs.declared.changes.GoneRow.{GoneRow}
use Rattle.schema_core.specs.declared.changes.NewRow.{NewRow}
use Rattle.schema_core.specs.declared.changes.RowCell.{RowCell}
use Rattle.schema_core.specs.declared.changes.RowCell.TheVariants.{Given, KeyOf}
use Rattle.schema_core.specs.declared.changes.RowChanges.{RowChanges}
use Rattle.schema_core.specs.declared.table.ColumnSpec.{ColumnSpec}
use Rattle.class_mapping.specs.Mapped.{Mapped, tables_of}
use Rattle.object_arena.specs.declared.object.Cell.{Cell}
use Rattle.object_arena.specs.Graph.{Graph, IsObject, no_object, object_at, place_of}
use Rattle.flush_order.specs.Orders.{gone_at}
use Rattle.object_rows.specs.declared.prepared.Prepared.{Prepared}
use Rattle.object_rows.specs.Cells.{linked_cell}
use Rattle.object_rows.specs.Rows as rows
use Rattle.object_rows.specs.Seen.{keeps_rows, object_ids}
use Rattle.row_partners.specs.Partners.{partners}
use Rattle.row_switches.specs.Switch as switch
use Rattle.row_switches.proofs.Each.{all_filter, all_filter_map, all_flat_map, all_given}
use Rattle.row_project.specs.Changes.{object_changes, project}
use Rattle.row_project.proofs.Declared.{objects_made}

-- ---- lists

same_items : {X : Type 0} (f : X → X) → ((x : X) → f x ≡ x) → (xs : List X) → map f xs ≡ xs
same_items f same [] = refl
same_items f same (x ∷ xs) = ap (λ y. y ∷ map f xs) (same x) ∙ ap (λ ys. x ∷ ys) (same_items f same xs)

all_kept : {X : Type 0} (h : X → Option X) (xs : List X) → AllByRecursion (λ x. h x ≡ Some x) xs → filter_map h xs ≡ xs
all_kept h [] each = refl
all_kept h (x ∷ xs) each = ap (λ o. cons_option o (filter_map h xs)) each.0 ∙ ap (λ ys. x ∷ ys) (all_kept h xs each.1)

placed_kept : {X : Type 0} (h : ℕ × X → Option X) → ((placed : ℕ × X) → h placed ≡ Some placed.1) → (n : ℕ) (xs : List X) → filter_map h (enumerate_from n xs) ≡ xs
placed_kept h each n [] = refl
placed_kept h each n (x ∷ xs) = ap (λ o. cons_option o (filter_map h (enumerate_from (n + 1) xs))) (each (n, x)) ∙ ap (λ ys. x ∷ ys) (placed_kept h each (n + 1) xs)

none_kept : {X Y : Type 0} (h : X → Option Y) → ((x : X) → h x ≡ None) → (xs : List X) → filter_map h xs ≡ []
none_kept h each [] = refl
none_kept h each (x ∷ xs) = ap (λ o. cons_option o (filter_map h xs)) (each x) ∙ none_kept h each xs

no_more : {X : Type 0} (xs : List X) → xs ++ [] ≡ xs
no_more [] = refl
no_more (x ∷ xs) = ap (λ ys. x ∷ ys) (no_more xs)

same_kept : (f : ChangedRow → ChangedRow) (xs : List ChangedRow) → AllByRecursion (λ row. (f row ≡ row) × (rows.has_cells row ≡ true)) xs → filter rows.has_cells (map f xs) ≡ xs
same_kept f [] each = refl
same_kept f (row ∷ xs) each =
    ap (λ own. cond (rows.has_cells own) (own ∷ filter rows.has_cells (map f xs)) (filter rows.has_cells (map f xs))) each.0.0
    ∙ ap (λ b. cond b (row ∷ filter rows.has_cells (map f xs)) (filter rows.has_cells (map f xs))) each.0.1
    ∙ ap (λ ys. row ∷ ys) (same_kept f xs each.1)

-- ---- no row is switched

abbrev IsNone : List (Option ℕ) → Type 0
IsNone found = list_any is_some found ≡ false

no_partner : (found : List (Option ℕ)) → IsNone found → (n : ℕ) → slice_index_or found n None ≡ None
no_partner [] none n = refl
no_partner (None ∷ found) none zero = refl
no_partner (None ∷ found) none (suc n) = no_partner found none n
no_partner (Some gone ∷ found) none n = absurd (cc)

own_number : (found : List (Option ℕ)) → IsNone found → (count place default : ℕ) → default ≡ count + place → slice_index_or (switch.numbers_from count found) place default ≡ default
own_number [] none count place default is = refl
own_number (None ∷ found) none count zero default is = omega (arith, is)
own_number (None ∷ found) none count (suc place) default is = own_number found none (count + 1) place default (omega (arith, is))
own_number (Some gone ∷ found) none count place default is = absurd (cc)

no_number : (found : List (Option ℕ)) → IsNone found → (n : ℕ) → list_any (switch.is_number n) found ≡ false
no_number [] none n = refl
no_number (None ∷ found) none n = no_number found none n
no_number (Some gone ∷ found) none n = absurd (cc)

-- ---- what changes in a cell is not held already

to_other : (base : Option Value) (value : Value) (now : RowCell) (b : Bool) → rows.is_base base value ≡ b → cond b None (Some (Given value)) ≡ Some now → rows.linked_change base now ≡ Some now
to_other base value now true is e = absurd (cc)
to_other base value now false is e =
    subst (λ o. rows.linked_change base (unwrap_or o now) ≡ o) e (ap (λ b. cond b None (Some (Given value))) is)

by_link : (base : Option Value) (cell now : RowCell) → rows.linked_change base cell ≡ Some now → rows.linked_change base now ≡ Some now
by_link base (KeyOf place part) now e = subst (λ o. rows.linked_change base (unwrap_or o now) ≡ o) e refl
by_link base (Given value) now e = to_other base value now (rows.is_base base value) refl e

by_own : (base value : Option Value) (now : RowCell) → rows.own_change base value ≡ Some now → rows.linked_change base now ≡ Some now
by_own base None now e = absurd (cc)
by_own base (Some value) now e = to_other base value now (rows.is_base base value) refl e

by_change : (linked : Option RowCell) (own : Cell) (now : RowCell) → rows.cell_change linked own ≡ Some now → rows.linked_change own.base now ≡ Some now
by_change (Some cell) own now e = by_link own.base cell now e
by_change None own now e = by_own own.base own.value now e

module _ (mapped : Mapped) (graph : Graph) (prepared : Prepared) (names : List RowName) where
  by_cell : (object : ObjId) (table : TableId) (name : List ℕ) (own : Option Cell) (now : RowCell) → rows.change_in mapped graph prepared names object table name own ≡ Some now → rows.linked_change (switch.base_of own) now ≡ Some now
  by_cell object table name None now e = absurd (cc)
  by_cell object table name (Some own) now e = by_change (linked_cell mapped graph prepared names object table name) own now e

  record IsPut (number : ℕ) (change : Option RowCell) (cell : ColumnNo × RowCell) : Type 0 where
    pub at : cell.0.0 ≡ number
    pub put : change ≡ Some cell.1

  put_in : (key : Bool) (number : ℕ) (change : Option RowCell) (cell : ColumnNo × RowCell) → cond key None (rows.in_column number change) ≡ Some cell → IsPut number change cell
  put_in true number change cell e = absurd (cc)
  put_in false number None cell e = absurd (cc)
  put_in false number (Some now) cell e = record {
    at = sym (ap (λ (o : Option (ColumnNo × RowCell)). (unwrap_or o cell).0.0) e);
    put = ap (λ (o : Option (ColumnNo × RowCell)). Some (unwrap_or o cell).1) e;
  }

  module _ (changes : RowChanges) (found : List (Option ℕ)) (none : IsNone found) where
    abbrev after : RowCell → RowCell
    after = switch.cell_after_switch mapped.schema changes found

    same_after : (cell : RowCell) → after cell ≡ cell
    same_after (Given value) = refl
    same_after (KeyOf place part) =
        ap (switch.key_cell mapped.schema changes found place part) (no_partner found none place)
        ∙ ap (λ n. KeyOf n part) (own_number found none 0 place place (omega arith))

    module _ (object : ObjId) (made : IsObject graph object) (table : TableId) where
      abbrev row : ChangedRow
      row = rows.changed_row mapped graph prepared names object table

      record_of : switch.object_if graph object ≡ Some (object_at graph object)
      record_of = slice_get-get_or graph.objects (place_of object) no_object (omega (arith, made.0, made.1))

      cell_same : (column : ℕ × ColumnSpec) (cell : ColumnNo × RowCell) → rows.changed_cell mapped graph prepared names object table column ≡ Some cell → switch.cell_kept mapped graph changes found row cell ≡ Some cell
      cell_same column cell e =
          let is = put_in column.1.key column.0 (rows.change_at mapped graph prepared names object table column) cell e in
          ap (λ o. option_map (λ (now : RowCell). (cell.0, now)) (rows.linked_change (switch.base_in mapped table cell.0.0 o) (after cell.1))) record_of
          ∙ ap (λ c. option_map (λ (now : RowCell). (cell.0, now)) (rows.linked_change (switch.base_of (rows.cell_for mapped (object_at graph object) table cell.0.0)) c)) (same_after cell.1)
          ∙ ap (λ n. option_map (λ (now : RowCell). (cell.0, now)) (rows.linked_change (switch.base_of (rows.cell_for mapped (object_at graph object) table n)) cell.1)) is.at
          ∙ ap (option_map (λ (now : RowCell). (cell.0, now))) (by_cell object table column.1.name (rows.cell_for mapped (object_at graph object) table column.0) cell.1 is.put)

      row_same : switch.row_kept mapped graph changes found row ≡ row
      row_same =
          ap (λ cells. record row { cells = cells })
          (all_kept (switch.cell_kept mapped graph changes found row) row.cells
          (all_filter_map (λ (column : ℕ × ColumnSpec). Unit {0}) (λ (cell : ColumnNo × RowCell). switch.cell_kept mapped graph changes found row cell ≡ Some cell) (rows.changed_cell mapped graph prepared names object table)
          (λ column u cell e. cell_same column cell e)
          (enumerate_from 0 (rows.columns_at mapped table)) (all_given (λ (column : ℕ × ColumnSpec). Unit {0}) (λ column. tt) (enumerate_from 0 (rows.columns_at mapped table)))))

    abbrev IsSame : ChangedRow → Type 0
    IsSame own = (switch.row_kept mapped graph changes found own ≡ own) × (rows.has_cells own ≡ true)

    one_same : (own : ChangedRow) (b : Bool) (more : List ChangedRow) → rows.has_cells own ≡ b → switch.row_kept mapped graph changes found own ≡ own → AllByRecursion IsSame more → AllByRecursion IsSame (cond b (own ∷ more) more)
    one_same own true more has same each = ((same, has), each)
    one_same own false more has same each = each

    tables_same : (object : ObjId) → IsObject graph object → (tables : List TableId) → AllByRecursion IsSame (filter rows.has_cells (map (rows.changed_row mapped graph prepared names object) tables))
    tables_same object made [] = tt
    tables_same object made (table ∷ tables) =
        one_same (row object made table) (rows.has_cells (row object made table)) (filter rows.has_cells (map (rows.changed_row mapped graph prepared names object) tables)) refl
        (row_same object made table) (tables_same object made tables)

module _ (mapped : Mapped) (graph : Graph) (prepared : Prepared) (changes : RowChanges) (found : List (Option ℕ)) (none : IsNone found) where
  changed_same : AllByRecursion (IsSame mapped graph prepared (rows.new_names mapped graph prepared) changes found none) (rows.changed_rows mapped graph prepared)
  unfolding rows.changed_rows
  changed_same =
      let names = rows.new_names mapped graph prepared in
      all_flat_map (IsObject graph) (IsSame mapped graph prepared names changes found none) (rows.rows_changed mapped graph prepared names)
      (λ object made. tables_same mapped graph prepared names changes found none object made (tables_of mapped (object_at graph object).class))
      (filter (keeps_rows graph prepared) (object_ids graph)) (all_filter (IsObject graph) (keeps_rows graph prepared) (object_ids graph) (objects_made graph))

  staying_same : (placed : ℕ × NewRow) → switch.row_staying mapped.schema changes found placed ≡ Some placed.1
  staying_same placed =
      let names = rows.new_names mapped graph prepared in
      ap (λ (partner : Option ℕ). cond (is_some partner) None (Some (record { name = placed.1.name; cells = map (switch.cell_after_switch mapped.schema changes found) placed.1.cells }))) (no_partner found none placed.0)
      ∙ ap (λ cells. Some (record { name = placed.1.name; cells = cells })) (same_items (switch.cell_after_switch mapped.schema changes found) (same_after mapped graph prepared names changes found none) placed.1.cells)

  left_same : (placed : ℕ × GoneRow) → switch.row_left found placed ≡ Some placed.1
  left_same placed = ap (λ b. cond b None (Some placed.1)) (no_number found none placed.0)

  none_switched : (placed : ℕ × NewRow) → switch.switch_of mapped graph changes found placed ≡ None
  none_switched placed =
      ap (option_map (λ gone. switch.row_switched mapped graph changes found placed (gone_at changes.gone gone))) (no_partner found none placed.0)

-- what the objects change, where no row is switched
pub unswitched : (mapped : Mapped) (graph : Graph) (prepared : Prepared) → list_any is_some (partners mapped.schema (object_changes mapped graph prepared)) ≡ false
    → switch.with_switches mapped graph (object_changes mapped graph prepared) ≡ object_changes mapped graph prepared
unswitched mapped graph prepared none =
    let changes = object_changes mapped graph prepared in
    let found = partners mapped.schema changes in
    let fresh : switch.rows_staying mapped.schema changes found ≡ changes.fresh = placed_kept (switch.row_staying mapped.schema changes found) (staying_same mapped graph prepared changes found none) 0 changes.fresh in
    let kept : switch.rows_kept mapped graph changes found ≡ changes.changed = same_kept (switch.row_kept mapped graph changes found) changes.changed (changed_same mapped graph prepared changes found none) in
    let gone : switch.rows_left changes found ≡ changes.gone = placed_kept (switch.row_left found) (left_same mapped graph prepared changes found none) 0 changes.gone in
    let switched : switch.rows_switched mapped graph changes found ≡ [] = none_kept (switch.switch_of mapped graph changes found) (none_switched mapped graph prepared changes found none) (enumerate_from 0 changes.fresh) in
    ap (λ (list : List NewRow). record (switch.changes_by mapped graph changes found) { fresh = list }) fresh
    ∙ ap (λ (list : List ChangedRow). record changes { changed = list; gone = switch.rows_left changes found })
    (ap (λ (list : List ChangedRow). list ++ switch.rows_switched mapped graph changes found) kept ∙ ap (λ (list : List ChangedRow). changes.changed ++ list) switched ∙ no_more changes.changed)
    ∙ ap (λ (list : List GoneRow). record changes { gone = list }) gone

none_if : (b : Bool) (all : RowChanges) → None ≡ cond b (Some all) None → b ≡ false
none_if true all e = absurd (cc)
none_if false all e = refl

some_if : (b : Bool) (all changes : RowChanges) → Some changes ≡ cond b (Some all) None → changes ≡ all
some_if true all changes e = ap (λ (o : Option RowChanges). unwrap_or o changes) e
some_if false all changes e = absurd (cc)

-- where no row is switched all stay as they are
pub as_they_are : (mapped : Mapped) (graph : Graph) (prepared : Prepared) (plain : RowChanges) → plain ≡ object_changes mapped graph prepared → None ≡ switch.switched_changes mapped graph plain → plain ≡ project mapped graph prepared
as_they_are mapped graph prepared plain is none =
    let found = partners mapped.schema (object_changes mapped graph prepared) in
    is
    ∙ sym (unswitched mapped graph prepared (none_if (list_any is_some found) (project mapped graph prepared) (subst (λ (p : RowChanges). None ≡ switch.switched_changes mapped graph p) is none)))

-- and where one is, all are told
pub as_switched : (mapped : Mapped) (graph : Graph) (prepared : Prepared) (plain changes : RowChanges) → plain ≡ object_changes mapped graph prepared → Some changes ≡ switch.switched_changes mapped graph plain → changes ≡ project mapped graph prepared
as_switched mapped graph prepared plain changes is some =
    let found = partners mapped.schema (object_changes mapped graph prepared) in
    some_if (list_any is_some found) (project mapped graph prepared) changes (subst (λ (p : RowChanges). Some changes ≡ switch.switched_changes mapped graph p) is some)
