-- A foreign key of a row that stays new is of one kind behind the switches too: the key of a switched row is values, and that of
-- another new row stays one key.
use Rattle.std.proofs.Common.{◌≡◌, inl, inr, ℕ, zero, suc, ◌+◌, ◌<◌, true, cond, ◌&&◌, List, [], ◌∷◌, length, map, Option, None, Some, is_some, refl, sym, subst, ap, ◌∙◌, zero-add, arith}
use Rattle.std.proofs.lemmas.List.{length-map}
use Rattle.std.proofs.lemmas.List.Elements.{All-from_recursion, All-get_or}
use Rattle.std.proofs.lemmas.Option.{get_or_from_slice_get, same_Some, slice_get-get_or, slice_get_within}
use Rattle.std.specs.Prelude.{slice_get, slice_index_or}
use Rattle.std.specs.List.{AllByRecursion, cons_option, enumerate_from, filter_map, list_all, range_with_len}
use Rattle.schema_core.specs.declared.changes.NewRow.{NewRow}
use Rattle.schema_core.specs.declared.changes.RowCell.{RowCell}
use Rattle.schema_core.specs.declared.changes.RowCell.TheVariants.{Given, KeyOf}
use Rattle.schema_core.specs.declared.changes.RowChanges.{RowChanges}
use Rattle.schema_core.specs.declared.table.ForeignSpec.{ForeignSpec}
use Rattle.schema_core.specs.Catalog.{Catalog, key_columns, spec_of}
use Rattle.class_mapping.specs.Mapped.{Mapped}
use Rattle.object_arena.specs.Graph.{Graph}
use Rattle.flush_order.specs.Cells.{first_cells, is_late, key_parts, new_at, no_row, table_at}
use Rattle.row_switches.specs.Switch.{cell_after_switch, changes_by, key_cell, numbers_from, row_staying, rows_staying}
use Rattle.row_switches.proofs.Each.{each_to}
use Rattle.row_switches.proofs.RowsAfter.{all_staying}
use Rattle.session_laws.specs.Plans.Laws.{IsOneKind, cell_named, cells_named, is_given}
use Rattle.session_laws.specs.Projects.{IsWhole}
use Rattle.session_laws.specs.Graphs.{HasOneKind}
use Rattle.session_laws.proofs.Graphs.LinkKinds.{parts_long}
use Rattle.session_laws.proofs.Graphs.Named.{named_of_map}

module _ (mapped : Mapped) (graph : Graph) (changes : RowChanges) (found : List (Option ℕ)) (sized : length found ≡ length changes.fresh) (whole : AllByRecursion (IsWhole mapped.schema) changes.fresh) where
  abbrev schema : Catalog
  schema = mapped.schema

  abbrev after : RowCell → RowCell
  after = cell_after_switch mapped.schema changes found

  abbrev row_after : NewRow → NewRow
  row_after row = record { name = row.name; cells = map after row.cells }

  abbrev rest : RowChanges
  rest = changes_by mapped graph changes found

  -- ---- where a row that stays stands

  stays : (n : ℕ) (row : NewRow) → slice_index_or found n None ≡ None → row_staying mapped.schema changes found (n, row) ≡ Some (row_after row)
  stays n row e = ap (λ (partner : Option ℕ). cond (is_some partner) None (Some (row_after row))) e

  leaves : (n gone : ℕ) (row : NewRow) → slice_index_or found n None ≡ Some gone → row_staying mapped.schema changes found (n, row) ≡ None
  leaves n gone row e = ap (λ (partner : Option ℕ). cond (is_some partner) None (Some (row_after row))) e

  -- the rows from a number on
  abbrev left : ℕ → List NewRow → List NewRow
  left n rows = filter_map (row_staying mapped.schema changes found) (enumerate_from n rows)

  abbrev IsNumbered : ℕ → List (Option ℕ) → List NewRow → ℕ → NewRow → ℕ → ℕ → Type 0
  IsNumbered n partners rows i row count default = (k : ℕ) × (slice_index_or (numbers_from count partners) i default ≡ count + k) × (slice_get (left n rows) k ≡ Some (row_after row))

  number_of : (n count : ℕ) (partners : List (Option ℕ)) (rows : List NewRow) → length partners ≡ length rows → ((i : ℕ) → slice_index_or found (n + i) None ≡ slice_index_or partners i None)
      → (i : ℕ) (row : NewRow) (default : ℕ) → slice_get rows i ≡ Some row → slice_index_or partners i None ≡ None → IsNumbered n partners rows i row count default
  number_of n count partners [] long same i row default at none = absurd (cc)
  number_of n count [] (first ∷ rows) long same i row default at none = absurd (omega (arith, long))
  number_of n count (Some gone ∷ partners) (first ∷ rows) long same zero row default at none = absurd (cc)
  number_of n count (None ∷ partners) (first ∷ rows) long same zero row default at none =
      let here : n + 0 ≡ n = omega arith in
      let stay = stays n first (ap (λ k. slice_index_or found k None) (sym here) ∙ same 0) in
      (0, omega arith, ap (λ (given : Option NewRow). slice_get (cons_option given (left (n + 1) rows)) 0) stay ∙ ap (λ (r : NewRow). Some (row_after r)) (same_Some first row at))
  number_of n count (Some gone ∷ partners) (first ∷ rows) long same (suc i) row default at none =
      let here : n + 0 ≡ n = omega arith in
      let leave = leaves n gone first (ap (λ k. slice_index_or found k None) (sym here) ∙ same 0) in
      let more = number_of (n + 1) count partners rows (omega (arith, long)) (λ j. let next : n + 1 + j ≡ n + suc j = omega arith in ap (λ k. slice_index_or found k None) next ∙ same (suc j)) i row default at none in
      (more.0, more.1, ap (λ (given : Option NewRow). slice_get (cons_option given (left (n + 1) rows)) more.0) leave ∙ more.2)
  number_of n count (None ∷ partners) (first ∷ rows) long same (suc i) row default at none =
      let here : n + 0 ≡ n = omega arith in
      let stay = stays n first (ap (λ k. slice_index_or found k None) (sym here) ∙ same 0) in
      let more = number_of (n + 1) (count + 1) partners rows (omega (arith, long)) (λ j. let next : n + 1 + j ≡ n + suc j = omega arith in ap (λ k. slice_index_or found k None) next ∙ same (suc j)) i row default at none in
      (suc more.0, omega (arith, more.1), ap (λ (given : Option NewRow). slice_get (cons_option given (left (n + 1) rows)) (suc more.0)) stay ∙ more.2)

  abbrev number : ℕ → ℕ
  number place = slice_index_or (numbers_from 0 found) place place

  -- a row that is not switched stands at its number among those that stay
  staying_at : (place : ℕ) → place < length changes.fresh → slice_index_or found place None ≡ None → slice_get rest.fresh (number place) ≡ Some (row_after (new_at changes place))
  staying_at place less none =
      let more = number_of 0 0 found changes.fresh sized (λ i. ap (λ k. slice_index_or found k None) (zero-add i)) place (new_at changes place) place (slice_get-get_or changes.fresh place no_row less) none in
      ap (slice_get (rows_staying mapped.schema changes found)) (more.1 ∙ zero-add more.0) ∙ more.2

  -- ---- keys

  -- a row with a cell for each column has as many parts of its key as there are key columns
  key_long : (all : RowChanges) (place : ℕ) → length (new_at all place).cells ≡ length (spec_of mapped.schema (table_at all place)).columns
      → length (key_parts (spec_of mapped.schema (table_at all place)).columns (first_cells mapped.schema all place)) ≡ length (key_columns (spec_of mapped.schema (table_at all place)))
  key_long all place long = parts_long (is_late mapped.schema all (table_at all place)) (spec_of mapped.schema (table_at all place)).columns (new_at all place).cells long

  parts_given : (place gone : ℕ) → slice_index_or found place None ≡ Some gone → (parts : List ℕ) → list_all is_given (map after (map (KeyOf place) parts)) ≡ true
  parts_given place gone e [] = refl
  parts_given place gone e (part ∷ parts) =
      ap (λ (partner : Option ℕ). is_given (key_cell mapped.schema changes found place part partner) && list_all is_given (map after (map (KeyOf place) parts))) e ∙ parts_given place gone e parts

  parts_kept : (place : ℕ) → slice_index_or found place None ≡ None → (parts : List ℕ) → map after (map (KeyOf place) parts) ≡ map (KeyOf (number place)) parts
  parts_kept place e [] = refl
  parts_kept place e (part ∷ parts) =
      ap (λ (partner : Option ℕ). key_cell mapped.schema changes found place part partner ∷ map after (map (KeyOf place) parts)) e
      ∙ ap (λ (cells : List RowCell). KeyOf (number place) part ∷ cells) (parts_kept place e parts)

  all_given_after : (cells : List RowCell) → list_all is_given cells ≡ true → list_all is_given (map after cells) ≡ true
  all_given_after [] h = refl
  all_given_after (Given value ∷ cells) h = all_given_after cells h
  all_given_after (KeyOf place part ∷ cells) h = absurd (cc)

  -- ---- one kind

  kind_after : (foreign : ForeignSpec) (cells : List RowCell) → IsOneKind mapped.schema changes foreign cells → IsOneKind mapped.schema rest foreign (map after cells)
  kind_after foreign cells (inl given) = inl (all_given_after cells given)
  kind_after foreign cells (inr from) = by (slice_index_or found from.0 None) refl
    where
      place : ℕ
      place = from.0

      keys : Catalog → List ℕ
      keys own = range_with_len 0 (length (key_parts (spec_of own (table_at changes place)).columns (first_cells own changes place)))

      by : (partner : Option ℕ) → slice_index_or found place None ≡ partner → IsOneKind mapped.schema rest foreign (map after cells)
      by (Some gone) e = inl (ap (λ (own : List RowCell). list_all is_given (map after own)) from.3 ∙ parts_given place gone e (keys mapped.schema))
      by None e =
          let stands = staying_at place from.1 e in
          let row : new_at rest (number place) ≡ row_after (new_at changes place) = get_or_from_slice_get rest.fresh (number place) (row_after (new_at changes place)) no_row stands in
          let table : table_at rest (number place) ≡ table_at changes place = ap (λ (r : NewRow). r.name.table) row in
          let long : length (new_at changes place).cells ≡ length (spec_of mapped.schema (table_at changes place)).columns = All-get_or (IsWhole mapped.schema) changes.fresh place no_row from.1 (All-from_recursion (IsWhole mapped.schema) changes.fresh whole) in
          let long_after : length (new_at rest (number place)).cells ≡ length (spec_of mapped.schema (table_at rest (number place))).columns =
          ap (λ (r : NewRow). length r.cells) row ∙ length-map (new_at changes place).cells after ∙ long ∙ sym (ap (λ t. length (spec_of mapped.schema t).columns) table) in
          let same : length (key_parts (spec_of mapped.schema (table_at changes place)).columns (first_cells mapped.schema changes place)) ≡ length (key_parts (spec_of mapped.schema (table_at rest (number place))).columns (first_cells mapped.schema rest (number place))) =
          key_long changes place long ∙ sym (ap (λ t. length (key_columns (spec_of mapped.schema t))) table) ∙ sym (key_long rest (number place) long_after) in
          inr (
            number place,
            slice_get_within rest.fresh (number place) (row_after (new_at changes place)) stands,
            from.2 ∙ ap (λ t. Some t) (sym table),
            ap (map after) from.3 ∙ parts_kept place e (keys mapped.schema) ∙ ap (λ count. map (KeyOf (number place)) (range_with_len 0 count)) same,
          )

  named_after : (row : NewRow) (names : List (List ℕ)) → cells_named mapped.schema row.name.table (map after row.cells) names ≡ map after (cells_named mapped.schema row.name.table row.cells names)
  named_after row [] = refl
  named_after row (name ∷ names) =
      ap (λ cell. cell ∷ cells_named mapped.schema row.name.table (map after row.cells) names) (named_of_map after refl (spec_of mapped.schema row.name.table).columns row.cells name)
      ∙ ap (λ (cells : List RowCell). after (cell_named (spec_of mapped.schema row.name.table).columns row.cells name) ∷ cells) (named_after row names)

  -- the rows that stay
  pub staying_kinds : AllByRecursion (HasOneKind mapped.schema changes) changes.fresh → AllByRecursion (HasOneKind mapped.schema rest) rest.fresh
  staying_kinds all =
      all_staying (HasOneKind mapped.schema changes) (HasOneKind mapped.schema rest) mapped.schema changes found
      (λ row kinds.
      each_to (λ (foreign : ForeignSpec). IsOneKind mapped.schema changes foreign (cells_named mapped.schema row.name.table row.cells foreign.columns))
      (λ (foreign : ForeignSpec). IsOneKind mapped.schema rest foreign (cells_named mapped.schema row.name.table (map after row.cells) foreign.columns))
      (λ foreign kind. subst (IsOneKind mapped.schema rest foreign) (sym (named_after row foreign.columns)) (kind_after foreign (cells_named mapped.schema row.name.table row.cells foreign.columns) kind))
      (spec_of mapped.schema row.name.table).foreigns kinds)
      all
