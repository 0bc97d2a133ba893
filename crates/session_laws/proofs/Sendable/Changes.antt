-- What the objects of a configured mapping change fits the schema.
use Rattle.std.proofs.Common.{◌≡◌, ⊎_elim, ℕ, suc, ◌+◌, ◌<◌, Bool, true, false, not, ◌==◌, if◌then◌else◌, List, [], ◌∷◌, length, map, Option, None, Some, is_some, refl, sym, ap, ◌∙◌, subst, arith}
use Rattle.std.specs.Prelude.{IfSome, nat_eq, slice_get, slice_index_or}
use Rattle.std.specs.Cmp.Lexicographic.{pointwise}
use Rattle.std.specs.List.{AllByRecursion, cons_option, enumerate_from, filter, filter_map, flat_map}
use Rattle.std.specs.Option.{option_map}
use Rattle.std.proofs.lemmas.Bool.{and_from, and_parts, eq-eqb}
use Rattle.std.proofs.lemmas.Bool.Decides.{nat_tests}
use Rattle.std.proofs.lemmas.List.FromFn.{get_or-map-range_with_len, length-map-range_with_len}
use Rattle.std.proofs.lemmas.List.Elements.{recursion_from_All}
use Rattle.std.proofs.lemmas.Option.{get_or_from_slice_get, same_Some, slice_get_within}
use Rattle.base_core.specs.declared.ids.ClassId.{ClassId}
use Rattle.base_core.specs.declared.ids.ColumnNo.{ColumnNo}
use Rattle.base_core.specs.declared.ids.ObjId.{ObjId}
use Rattle.base_core.specs.declared.ids.TableId.{TableId}
use Rattle.base_core.specs.declared.refusal.RowName.{RowName}
use Rattle.base_core.specs.declared.value.Value.{Value}
use Rattle.base_core.specs.declared.value.Value.TheVariants.{Null}
use Rattle.schema_core.specs.declared.changes.ChangedRow.{ChangedRow}
use Rattle.schema_core.specs.declared.changes.GoneRow.{GoneRow}
use Rattle.schema_core.specs.declared.changes.NewRow.{NewRow}
use Rattle.schema_core.specs.declared.changes.RowCell.{RowCell}
use Rattle.schema_core.specs.declared.changes.RowCell.TheVariants.{Given}
use Rattle.schema_core.specs.declared.changes.RowChanges.{RowChanges}
use Rattle.schema_core.specs.declared.table.ColumnSpec.{ColumnSpec}
use Rattle.schema_core.specs.Catalog.{Catalog, IsTable, key_columns, spec_of}
use Rattle.schema_core.specs.Tables.{has_null}
use Rattle.schema_core.specs.WellFormed.{is_key}
use Rattle.class_mapping.specs.Mapped.{Mapped, tables_of}
use Rattle.class_mapping.proofs.Having.{Has, all_from, from_filter, from_flat, from_map, any_has, from_numbered, has_at}
use Rattle.mapping_laws.specs.Hierarchies.{HasHierarchies}
use Rattle.mapping_laws.proofs.Tables.{tables_declared}
use Rattle.object_arena.specs.declared.object.Object.{Object}
use Rattle.object_arena.specs.Fit.{IsFit, identity_fits}
use Rattle.object_arena.specs.Graph.{Graph, IsObject, is_among, is_persistent, object_at, place_of}
use Rattle.object_arena.specs.Identity.{IsGraph}
use Rattle.object_arena.specs.Graph as graphs
use Rattle.object_arena.proofs.FitLemmas.{fit_at, fit_class}
use Rattle.flush_order.specs.Cells.{no_row, table_at}
use Rattle.object_rows.specs.declared.prepared.Prepared.{Prepared}
use Rattle.object_rows.specs.Rows as rows
use Rattle.object_rows.specs.Rows.{columns_at, in_column, key_or_none, linked_change}
use Rattle.object_rows.specs.Seen.{keeps_rows, object_ids}
use Rattle.object_rows.proofs.ObjectSteps.{all_made, names_made}
use Rattle.pair_rows.specs.Pairs as pairs
use Rattle.session_laws.specs.Graphs.{AreKeyed, IsWellMapped, key_held}
use Rattle.session_laws.proofs.Graphs.MappingFacts.{free_law}
use Rattle.session_laws.proofs.Graphs.Named.{opposite}
use Rattle.session_laws.proofs.Graphs.ObjectsApart.{among_of}
use Rattle.session_laws.proofs.Graphs.OwnKinds.{first_rows}
use Rattle.session_laws.proofs.Projects.LateKeys.{each_has, late_keys_fit}
use Rattle.session_laws.proofs.Projects.Loose.{IsOwn, names_own}
use Rattle.row_project.specs.Changes.{object_changes, project}
use Rattle.row_partners.specs.Partners.{known_key, partner_of, partners, gone_unless_taken, place_of_new}
use Rattle.row_switches.specs.Switch.{cell_after_switch, cell_kept, cell_switched, row_kept, rows_kept, rows_switched, row_switched, switch_of, value_gone, base_in, object_if}
use Rattle.row_switches.proofs.Each.{all_append, all_filter, all_filter_map, all_map}
use Rattle.row_switches.proofs.RowsAfter.{all_left, all_staying}
use Rattle.flush_order.specs.Orders.{gone_at}
use Rattle.session_laws.specs.Sendable.{ChangesFit, IsFitChanged, IsFitGone, IsFitNew, are_fit, cell_fits}
use Rattle.session_laws.proofs.Sendable.EndKeys.{key_everywhere}
use Rattle.session_laws.proofs.Sendable.ObjectRows.{changed_fits, link_change_is, new_cell_fits}
use Rattle.session_laws.proofs.Sendable.LostRows.{lost_rows_fit}
use Rattle.session_laws.proofs.Sendable.PairRows.{made_rows_fit}
use Rattle.session_laws.proofs.Sendable.Roots.{persistent_keyed}
use Rattle.session_laws.proofs.Sendable.Switching.{after_fits, all_fit, cells_after, key_held as known_held}
use Rattle.session_laws.proofs.Sendable.Writing.{IsHere, IsLater, first_cell, from_next, with_first}

-- ---- objects of a list

among_objects : (objects : List ObjId) (object : ObjId) → Has objects object → is_among objects object ≡ true
among_objects objects object there = any_has (λ (other : ObjId). other.0 == object.0) objects object there (eq-eqb object.0 object.0 refl)

-- ---- cells in the order of their columns

module _ (schema : Catalog) (changes : RowChanges) where
  one_more : (n i : ℕ) → n + 1 + i ≡ n + suc i
  one_more n i = omega arith

  none_more : (n : ℕ) → n ≡ n + 0
  none_more n = omega arith

  -- a cell for each column
  all_columns : (value : ℕ × ColumnSpec → RowCell) (columns : List ColumnSpec) (n : ℕ) → ((i : ℕ) (column : ColumnSpec) → slice_get columns i ≡ Some column → cell_fits schema changes column (value (n + i, column)) ≡ true)
      → pointwise (cell_fits schema changes) columns (map value (enumerate_from n columns)) ≡ true
  all_columns value [] n each = refl
  all_columns value (column ∷ columns) n each =
      and_from (cell_fits schema changes column (value (n, column))) (pointwise (cell_fits schema changes) columns (map value (enumerate_from (n + 1) columns)))
      (ap (λ (k : ℕ). cell_fits schema changes column (value (k, column))) (none_more n) ∙ each 0 column refl)
      (all_columns value columns (n + 1) (λ i other at. ap (λ (k : ℕ). cell_fits schema changes other (value (k, other))) (one_more n i) ∙ each (suc i) other at))

  -- the change of a column outside the key fits it
  abbrev IsFitChange : ℕ → ColumnSpec → Option (ColumnNo × RowCell) → Type 0
  IsFitChange c column change = IfSome change (λ cell. (cell.0.0 ≡ c) × (not column.key ≡ true) × (cell_fits schema changes column cell.1 ≡ true))

  some_columns : (change : ℕ × ColumnSpec → Option (ColumnNo × RowCell)) (columns : List ColumnSpec) (n : ℕ) → ((i : ℕ) (column : ColumnSpec) → slice_get columns i ≡ Some column → IsFitChange (n + i) column (change (n + i, column)))
      → are_fit schema changes n columns (filter_map change (enumerate_from n columns)) ≡ true
  some_columns change [] n each = refl
  some_columns change (column ∷ columns) n each =
      let rest : are_fit schema changes (suc n) columns (filter_map change (enumerate_from (n + 1) columns)) ≡ true =
      ap (λ (k : ℕ). are_fit schema changes k columns (filter_map change (enumerate_from (n + 1) columns))) (let e : suc n ≡ n + 1 = omega arith in e)
      ∙ some_columns change columns (n + 1) (λ i other at. subst (λ (k : ℕ). IsFitChange k other (change (k, other))) (sym (one_more n i)) (each (suc i) other at)) in
      by (change (n, column)) (filter_map change (enumerate_from (n + 1) columns)) (subst (λ (k : ℕ). IsFitChange k column (change (k, column))) (sym (none_more n)) (each 0 column refl)) rest
    where
      by : (found : Option (ColumnNo × RowCell)) (others : List (ColumnNo × RowCell)) → IsFitChange n column found → are_fit schema changes (suc n) columns others ≡ true → are_fit schema changes n (column ∷ columns) (cons_option found others) ≡ true
      by None others is rest = from_next schema changes n column columns others rest
      by (Some cell) others is rest =
          let at : n ≡ cell.0.0 = sym is.0 in
          with_first schema changes n column columns cell others others (record { at = grind (arith, nat_tests); free = is.1; fits = is.2; rest = rest }) rest

-- cells that are kept behind the switches
still_fit : (schema : Catalog) (changes final : RowChanges) (kept : ColumnNo × RowCell → Option (ColumnNo × RowCell))
    → ((column : ColumnSpec) (cell other : ColumnNo × RowCell) → kept cell ≡ Some other → cell_fits schema changes column cell.1 ≡ true → (cell.0 ≡ other.0) × (cell_fits schema final column other.1 ≡ true))
    → (place : ℕ) (columns : List ColumnSpec) (cells : List (ColumnNo × RowCell)) → are_fit schema changes place columns cells ≡ true → are_fit schema final place columns (filter_map kept cells) ≡ true
still_fit schema changes final kept keeps place columns [] fit = refl
still_fit schema changes final kept keeps place [] (cell ∷ cells) fit = absurd cc
still_fit schema changes final kept keeps place (column ∷ columns) (cell ∷ cells) fit =
    ⊎_elim (λ (is : IsLater schema changes place column columns cell cells). from_next schema final place column columns (filter_map kept (cell ∷ cells)) (still_fit schema changes final kept keeps (suc place) columns (cell ∷ cells) is.1))
    (λ (is : IsHere schema changes place column columns cell cells). by (kept cell) refl is (still_fit schema changes final kept keeps (suc place) columns cells (rest_of is))) (first_cell schema changes place column columns cell cells fit)
  where
    rest_of : IsHere schema changes place column columns cell cells → are_fit schema changes (suc place) columns cells ≡ true
    rest_of is = is.rest

    by : (found : Option (ColumnNo × RowCell)) → kept cell ≡ found → IsHere schema changes place column columns cell cells → are_fit schema final (suc place) columns (filter_map kept cells) ≡ true
        → are_fit schema final place (column ∷ columns) (cons_option found (filter_map kept cells)) ≡ true
    by None e is rest = from_next schema final place column columns (filter_map kept cells) rest
    by (Some other) e is rest =
        let same = keeps column cell other e is.fits in
        let here : nat_eq place cell.0.0 ≡ true = is.at in
        with_first schema final place column columns other (filter_map kept cells) (filter_map kept cells)
        (record { at = ap (λ (c : ColumnNo). nat_eq place c.0) (sym same.0) ∙ here; free = is.free; fits = same.1; rest = rest }) rest

module _ (mapped : Mapped) (well : IsWellMapped mapped) (has : HasHierarchies mapped) (graph : Graph) (prepared : Prepared) (fit : IsFit mapped graph) (is : IsGraph graph.objects graph.roots) (keyed : AreKeyed mapped graph prepared) where
  abbrev schema : Catalog
  schema = mapped.schema

  abbrev first : RowChanges
  first = object_changes mapped graph prepared

  abbrev found : List (Option ℕ)
  found = partners mapped.schema first

  abbrev final : RowChanges
  final = project mapped graph prepared

  abbrev names : List RowName
  names = rows.new_names mapped graph prepared

  -- ---- new rows

  abbrev IsNamed : RowName → Type 0
  IsNamed row = IsObject graph row.object × IsOwn mapped well.lined well.lines well.valid graph prepared fit row

  its_table : (object : ObjId) (table : TableId) → Has (tables_of mapped (object_at graph object).class) table → IsTable mapped.schema table
  its_table object table there = tables_declared mapped (object_at graph object).class table there

  new_fits : (placed : ℕ × RowName) → Has (enumerate_from 0 names) placed → IsFitNew schema first (rows.new_row mapped graph prepared names placed)
  new_fits placed there =
      let number = from_numbered 0 names placed there in
      let at : slice_get names placed.0 ≡ Some placed.1 = ap (slice_get names) (let e : placed.0 ≡ number.0 = omega (arith, number.1) in e) ∙ number.2 in
      let row : RowName = placed.1 in
      let made : IsObject graph row.object = each_has (λ (r : RowName). IsObject graph r.object) names row (recursion_from_All (λ (r : RowName). IsObject graph r.object) names (names_made mapped graph prepared names refl)) (has_at names placed.0 row at) in
      let own = each_has (IsOwn mapped well.lined well.lines well.valid graph prepared fit) names row (names_own mapped well.lined well.lines well.valid graph prepared fit) (has_at names placed.0 row at) in
      let inside : IsTable mapped.schema row.table = its_table row.object row.table own.1 in (
        inside,
        all_columns schema first (rows.new_cell mapped graph prepared names placed) (columns_at mapped row.table) 0
            (λ i column here. ap (λ (k : ℕ). cell_fits schema first column (rows.new_cell mapped graph prepared names placed (k, column))) (let e : 0 + i ≡ i = omega arith in e)
            ∙ new_cell_fits mapped well has graph prepared fit placed.0 row i column at own made inside here),
      )

  fresh_fit : AllByRecursion (IsFitNew schema first) first.fresh
  unfolding rows.new_rows
  fresh_fit =
      all_append (IsFitNew schema first) (map (rows.new_row mapped graph prepared names) (enumerate_from 0 names)) (pairs.made_rows mapped graph prepared)
      (all_map (Has (enumerate_from 0 names)) (IsFitNew schema first) (rows.new_row mapped graph prepared names) new_fits (enumerate_from 0 names) (all_from (Has (enumerate_from 0 names)) (enumerate_from 0 names) (λ placed there. there)))
      (made_rows_fit mapped has well.related graph prepared fit first (first_rows mapped well.lined well.lines well.valid well.declared (free_law mapped well.lined well.lines) graph prepared fit).at)

  sized : length found ≡ length first.fresh
  unfolding partners
  sized = length-map-range_with_len (partner_of schema first) 0 (length first.fresh)

  staying_fit : AllByRecursion (IsFitNew schema final) final.fresh
  staying_fit =
      all_staying (IsFitNew schema first) (IsFitNew schema final) schema first found (λ row fits. (fits.0, cells_after mapped graph first fresh_fit found sized (spec_of schema row.name.table).columns row.cells fits.1)) fresh_fit

  -- ---- keys

  identity_key : (object : ObjId) (table : TableId) → IsObject graph object → is_persistent (object_at graph object).state ≡ true → Has (tables_of mapped (object_at graph object).class) table → is_key (spec_of schema table) (key_held graph object) ≡ true
  identity_key object table made persists there = by (object_at graph object).identity refl (persistent_keyed it persists (is.identified (place_of object) graphs.no_object (let within : place_of object < length graph.objects = omega (arith, made.0, made.1) in within)))
    where
      it : Object
      it = object_at graph object

      by : (identity : Option (List Value)) → (object_at graph object).identity ≡ identity → is_some identity ≡ true → is_key (spec_of schema table) (key_or_none identity) ≡ true
      by None e some = absurd cc
      by (Some key) e some =
          let class : ClassId = (object_at graph object).class in
          key_everywhere mapped has class class table key (fit_class mapped graph object fit made) (fit_class mapped graph object fit made) refl there (ap (identity_fits mapped class) (sym e) ∙ (fit_at mapped graph object fit made).identity)

  -- ---- changed rows

  changed_row_fits : (object : ObjId) (table : TableId) → IsObject graph object → is_persistent (object_at graph object).state ≡ true → Has (tables_of mapped (object_at graph object).class) table → IsFitChanged schema first (rows.changed_row mapped graph prepared names object table)
  changed_row_fits object table made persists there =
      let inside : IsTable mapped.schema table = its_table object table there in (
        inside,
        identity_key object table made persists there,
        some_columns schema first (rows.changed_cell mapped graph prepared names object table) (columns_at mapped table) 0
            (λ i column at. subst (λ (k : ℕ). IsFitChange schema first k column (rows.changed_cell mapped graph prepared names object table (k, column))) (let e : i ≡ 0 + i = omega arith in e) (change object table made inside i column at)),
      )
    where
      change : (object : ObjId) (table : TableId) → IsObject graph object → IsTable mapped.schema table → (i : ℕ) (column : ColumnSpec) → slice_get (columns_at mapped table) i ≡ Some column → IsFitChange schema first i column (rows.changed_cell mapped graph prepared names object table (i, column))
      change object table made inside i column at = by (rows.changed_cell mapped graph prepared names object table (i, column)) refl
        where
          by : (given : Option (ColumnNo × RowCell)) → rows.changed_cell mapped graph prepared names object table (i, column) ≡ given → IsFitChange schema first i column given
          by None e = tt
          by (Some cell) e = changed_fits mapped well has graph prepared fit object table i column made inside at cell e

  all_changed : AllByRecursion (IsFitChanged schema first) first.changed
  unfolding rows.changed_rows
  all_changed =
      let keeping : List ObjId = filter (keeps_rows graph prepared) (object_ids graph) in
      all_from (IsFitChanged schema first) first.changed (λ row among.
      let from = from_flat (rows.rows_changed mapped graph prepared names) keeping row among in
      let kept = from_filter (keeps_rows graph prepared) (object_ids graph) from.0 from.1 in
      let made : IsObject graph from.0 = each_has (IsObject graph) (object_ids graph) from.0 (recursion_from_All (IsObject graph) (object_ids graph) (all_made graph (object_ids graph) refl)) kept.0 in
      let own = from_filter rows.has_cells (map (rows.changed_row mapped graph prepared names from.0) (tables_of mapped (object_at graph from.0).class)) row from.2 in
      let table = from_map (rows.changed_row mapped graph prepared names from.0) (tables_of mapped (object_at graph from.0).class) row own.0 in
      subst (IsFitChanged schema first) table.2 (changed_row_fits from.0 table.0 made (and_parts (is_persistent (object_at graph from.0).state) (not (is_among prepared.deleted from.0)) kept.1).0 table.1))

  -- behind the switches
  kept_fits : (row : ChangedRow) → IsFitChanged schema first row → IsFitChanged schema final (row_kept mapped graph first found row)
  kept_fits row fits = (
    fits.0,
    fits.1,
    still_fit schema first final (cell_kept mapped graph first found row) (keeps row) 0 (spec_of schema row.name.table).columns row.cells fits.2,
  )
    where
      keeps : (row : ChangedRow) (column : ColumnSpec) (cell other : ColumnNo × RowCell) → cell_kept mapped graph first found row cell ≡ Some other → cell_fits schema first column cell.1 ≡ true → (cell.0 ≡ other.0) × (cell_fits schema final column other.1 ≡ true)
      keeps row column cell other is fits = by (linked_change (base_in mapped row.name.table cell.0.0 (object_if graph row.name.object)) (cell_after_switch schema first found cell.1)) refl is
        where
          by : (now : Option RowCell) → linked_change (base_in mapped row.name.table cell.0.0 (object_if graph row.name.object)) (cell_after_switch schema first found cell.1) ≡ now → option_map (λ (n : RowCell). (cell.0, n)) now ≡ Some other → (cell.0 ≡ other.0) × (cell_fits schema final column other.1 ≡ true)
          by None e given = absurd cc
          by (Some now) e given =
              let same : (cell.0, now) ≡ other = cc in
              let of : now ≡ cell_after_switch schema first found cell.1 = link_change_is (base_in mapped row.name.table cell.0.0 (object_if graph row.name.object)) (cell_after_switch schema first found cell.1) now e in (
                ap (λ (c : ColumnNo × RowCell). c.0) same,
                ap (λ (c : ColumnNo × RowCell). cell_fits schema final column c.1) (sym same) ∙ ap (cell_fits schema final column) of ∙ after_fits mapped graph first fresh_fit found sized column cell.1 fits,
              )

  -- the row in place of a new and a deleted one
  switched_fits : (place : ℕ) (row : NewRow) (gone : GoneRow) → slice_get first.fresh place ≡ Some row → has_null (known_key schema first place) ≡ false → IsFitNew schema first row → IsFitChanged schema final (row_switched mapped graph first found (place, row) gone)
  switched_fits place row gone at some fits =
      let table : table_at first place ≡ row.name.table = ap (λ (r : NewRow). r.name.table) (get_or_from_slice_get first.fresh place row no_row at) in
      let less : place < length first.fresh = slice_get_within first.fresh place row at in (
        fits.0,
        subst (λ (t : TableId). is_key (spec_of schema t) (known_key schema first place) ≡ true) table
            (all_fit (key_columns (spec_of schema (table_at first place))) (known_key schema first place) (known_held mapped graph first fresh_fit place less) some),
        some_columns schema final (cell_switched mapped graph first found row gone) (columns_at mapped row.name.table) 0
            (λ i column here. subst (λ (k : ℕ). IsFitChange schema final k column (cell_switched mapped graph first found row gone (k, column))) (let e : i ≡ 0 + i = omega arith in e) (change row gone fits i column here)),
      )
    where
      change : (row : NewRow) (gone : GoneRow) → IsFitNew schema first row → (i : ℕ) (column : ColumnSpec) → slice_get (columns_at mapped row.name.table) i ≡ Some column → IsFitChange schema final i column (cell_switched mapped graph first found row gone (i, column))
      change row gone fits i column here = by column.key refl
        where
          now : Option RowCell
          now = linked_change (value_gone mapped graph gone i) (cell_after_switch schema first found (slice_index_or row.cells i (Given Null)))

          given : (cell : Option RowCell) → linked_change (value_gone mapped graph gone i) (cell_after_switch schema first found (slice_index_or row.cells i (Given Null))) ≡ cell → not column.key ≡ true → IsFitChange schema final i column (in_column i cell)
          given None e free = tt
          given (Some cell) e free =
              let own = opposite (cell_fits schema first) (spec_of schema row.name.table).columns row.cells i column fits.1 here in
              let is_own : slice_index_or row.cells i (Given Null) ≡ own.0 = get_or_from_slice_get row.cells i own.0 (Given Null) own.1 in
              let of : cell ≡ cell_after_switch schema first found own.0 =
              link_change_is (value_gone mapped graph gone i) (cell_after_switch schema first found (slice_index_or row.cells i (Given Null))) cell e ∙ ap (cell_after_switch schema first found) is_own in
              (refl, free, ap (cell_fits schema final column) of ∙ after_fits mapped graph first fresh_fit found sized column own.0 own.2)

          by : (key : Bool) → column.key ≡ key
              → IsFitChange schema final i column (if key then None else in_column i (linked_change (value_gone mapped graph gone i) (cell_after_switch schema first found (slice_index_or row.cells i (Given Null)))))
          by true k = tt
          by false k = given (linked_change (value_gone mapped graph gone i) (cell_after_switch schema first found (slice_index_or row.cells i (Given Null)))) refl (ap not k)

  -- all of a switched row's key is known
  partner_known : (place number : ℕ) → partner_of schema first place ≡ Some number → has_null (known_key schema first place) ≡ false
  partner_known place number is = by (has_null (known_key schema first place)) is
    where
      by : (b : Bool) → (if b then None else gone_unless_taken schema first (place_of_new schema first place) place) ≡ Some number → b ≡ false
      by true e = absurd cc
      by false e = refl

  partner_at : (place : ℕ) → place < length first.fresh → slice_index_or found place None ≡ partner_of schema first place
  unfolding partners
  partner_at place less = get_or-map-range_with_len (partner_of schema first) 0 (length first.fresh) place place None less (omega arith)

  switch_fits : (placed : ℕ × NewRow) → Has (enumerate_from 0 first.fresh) placed → (row : ChangedRow) → switch_of mapped graph first found placed ≡ Some row → IsFitChanged schema final row
  switch_fits placed there row is =
      let number = from_numbered 0 first.fresh placed there in
      let at : slice_get first.fresh placed.0 ≡ Some placed.1 = ap (slice_get first.fresh) (let e : placed.0 ≡ number.0 = omega (arith, number.1) in e) ∙ number.2 in
      by placed at (slice_index_or found placed.0 None) refl is
    where
      by : (placed : ℕ × NewRow) → slice_get first.fresh placed.0 ≡ Some placed.1 → (partner : Option ℕ) → slice_index_or found placed.0 None ≡ partner → option_map (λ (gone : ℕ). row_switched mapped graph first found placed (gone_at first.gone gone)) partner ≡ Some row → IsFitChanged schema final row
      by placed at None e given = absurd cc
      by placed at (Some gone) e given =
          let less : placed.0 < length first.fresh = slice_get_within first.fresh placed.0 placed.1 at in
          let known : has_null (known_key schema first placed.0) ≡ false = partner_known placed.0 gone (sym (partner_at placed.0 less) ∙ e) in
          let fits : IsFitNew schema first placed.1 = each_has (IsFitNew schema first) first.fresh placed.1 fresh_fit (has_at first.fresh placed.0 placed.1 at) in
          subst (IsFitChanged schema final) (same_Some (row_switched mapped graph first found placed (gone_at first.gone gone)) row given) (switched_fits placed.0 placed.1 (gone_at first.gone gone) at known fits)

  final_changed : AllByRecursion (IsFitChanged schema final) final.changed
  final_changed =
      all_append (IsFitChanged schema final) (rows_kept mapped graph first found) (rows_switched mapped graph first found)
      (all_filter (IsFitChanged schema final) rows.has_cells (map (row_kept mapped graph first found) first.changed)
      (all_map (IsFitChanged schema first) (IsFitChanged schema final) (row_kept mapped graph first found) kept_fits first.changed all_changed))
      (all_filter_map (Has (enumerate_from 0 first.fresh)) (IsFitChanged schema final) (switch_of mapped graph first found) switch_fits (enumerate_from 0 first.fresh)
      (all_from (Has (enumerate_from 0 first.fresh)) (enumerate_from 0 first.fresh) (λ placed there. there)))

  -- ---- deleted rows

  gone_row_fits : (object : ObjId) (table : TableId) → IsObject graph object → is_persistent (object_at graph object).state ≡ true → is_among prepared.deleted object ≡ true → Has (tables_of mapped (object_at graph object).class) table → IsFitGone schema (rows.gone_row mapped graph object table)
  gone_row_fits object table made persists deleted there = (
    its_table object table there,
    ap (is_key (spec_of schema table)) (keyed.read object table deleted (among_of (tables_of mapped (object_at graph object).class) table there)) ∙ identity_key object table made persists there,
  )

  first_gone : AllByRecursion (IsFitGone schema) first.gone
  unfolding rows.gone_rows
  first_gone =
      all_append (IsFitGone schema) (flat_map (rows.rows_gone mapped graph) prepared.deleted) (pairs.lost_rows mapped graph prepared)
      (all_from (IsFitGone schema) (flat_map (rows.rows_gone mapped graph) prepared.deleted) (λ row among.
      let from = from_flat (rows.rows_gone mapped graph) prepared.deleted row among in
      let made : IsObject graph from.0 = each_has (IsObject graph) prepared.deleted from.0 keyed.made from.1 in
      let persists : is_persistent (object_at graph from.0).state ≡ true = each_has (λ (object : ObjId). is_persistent (object_at graph object).state ≡ true) prepared.deleted from.0 keyed.standing from.1 in
      let table = from_map (rows.gone_row mapped graph from.0) (tables_of mapped (object_at graph from.0).class) row from.2 in
      subst (IsFitGone schema) table.2 (gone_row_fits from.0 table.0 made persists (among_objects prepared.deleted from.0 from.1) table.1)))
      (lost_rows_fit mapped has well.related graph prepared fit)

  final_gone : AllByRecursion (IsFitGone schema) final.gone
  final_gone = all_left (IsFitGone schema) first found first_gone

pub changes_fit_law : ChangesFit
changes_fit_law mapped graph prepared well has fit is keyed = record {
  fresh = staying_fit mapped well has graph prepared fit is keyed;
  changed = final_changed mapped well has graph prepared fit is keyed;
  gone = final_gone mapped well has graph prepared fit is keyed;
  late = (late_keys_fit mapped graph prepared well.lined well.lines well.valid well.declared well.posts).no_key;
}
