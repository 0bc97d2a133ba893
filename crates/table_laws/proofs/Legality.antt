-- Legal tables stay legal where rows that fit are written under their keys, and where rows are taken out that no row refers to.
use Rattle.std.proofs.Common.{◌≡◌, ◌⊎◌, inl, inr, ℕ, ℤ, ◌==◌, Bool, true, false, not, cond, ◌&&◌, ◌||◌, List, [], ◌∷◌, Option, None, Some, Ok, Err, is_some, refl, sym, ap, ◌∙◌, subst}
use Rattle.std.specs.declared.cmp.Ordering.TheVariants.{Equal}
use Rattle.std.specs.BTreeMap.{is_at}
use Rattle.std.specs.List.{AllByRecursion, count_by, list_all, list_any}
use Rattle.std.specs.Cmp.Lexicographic.{pointwise}
use Rattle.std.specs.Option.{option_and_then, option_map}
use Rattle.std.proofs.lemmas.Bool.{eqb-true, or_parts}
use Rattle.base_core.specs.declared.ids.TableId.{TableId}
use Rattle.base_core.specs.declared.ids.ColumnNo.{ColumnNo}
use Rattle.base_core.specs.declared.value.Kind.TheVariants as kinds
use Rattle.base_core.specs.declared.value.Value.{Value}
use Rattle.base_core.specs.declared.value.Value.TheVariants.{Int}
use Rattle.base_core.specs.Order.{values_cmp}
use Rattle.schema_core.specs.declared.statement.Violation.{Violation}
use Rattle.schema_core.specs.declared.statement.Violation.TheVariants.{Foreign, KeysSpent, Missing, NoTable, NotNull, PrimaryKey, Unique}
use Rattle.schema_core.specs.declared.statement.RowStmt.{RowStmt}
use Rattle.schema_core.specs.declared.statement.RowStmt.TheVariants.{Insert, Update, Delete}
use Rattle.schema_core.specs.declared.table.ColumnSpec.{ColumnSpec}
use Rattle.schema_core.specs.declared.table.ForeignSpec.{ForeignSpec}
use Rattle.schema_core.specs.declared.table.TableSpec.{TableSpec}
use Rattle.schema_core.specs.Apply.{answer_keys, apply, apply_found, delete_found, delete_row, entries_of, entry_of, insert_rows, is_demanded, keys_of_entries, next_key, table_of, update_found, update_row, wants_key, with_cells, with_key, with_own_key}
use Rattle.schema_core.specs.Catalog.{Catalog, IsTable, has_generated_key, has_name, is_free_integer, is_required, kind_of, same_kind, spec_of, target_of}
use Rattle.schema_core.specs.Judged.{Judged, and_then, change_all, lacks_value, loses_row, remove_all, some_lacks, some_loses_row, some_repeats, some_written_dangles, with_all, without_all, write_all}
use Rattle.schema_core.specs.WellFormed.{IsWellFormed, are_cells, is_row, may_hold}
use Rattle.schema_core.specs.Tables.{Legal, Rows, Tables, cells_of, collide, dangles, fits, has_dangling, has_null, has_row, is_legal_row, is_null, key_of, names_row, repeats_unique, row_under, rows_in, same_values, some_dangles, table_cmp, with_row, with_rows, without_row}
use Rattle.table_laws.proofs.Entries.{all_insert, all_lookup, all_map, any_none, none_any}
use Rattle.table_laws.proofs.Members.{In, all_in, in_all, in_insert, in_remove, lookup_after, still_there}
use Rattle.table_laws.proofs.RowFits.{and_true, demands, filled_fits, only_key, plain_fits, wrote}
use Rattle.table_laws.proofs.SameValues.{same_key, same_table, same_turned, values_turned}

-- ---- the rows that are left

-- a row that is left was written, or there before
pub in_written : (rows entries : Rows) (e : List Value × List Value) → In e (with_all rows entries) → In e entries ⊎ In e rows
in_written rows [] e here = inr here
in_written rows (x ∷ xs) e here = by (in_written (with_row rows x.0 x.1) xs e here)
  where
    old : (e ≡ (x.0, x.1)) ⊎ In e rows → In e (x ∷ xs) ⊎ In e rows
    old (inl is) = inl (inl is)
    old (inr there) = inr there

    by : In e xs ⊎ In e (with_row rows x.0 x.1) → In e (x ∷ xs) ⊎ In e rows
    by (inl later) = inl (inr later)
    by (inr there) = old (in_insert values_cmp same_key rows x.0 x.1 e there)

in_left : (rows : Rows) (keys : List (List Value)) (e : List Value × List Value) → In e (without_all rows keys) → In e rows
in_left rows [] e here = here
in_left rows (key ∷ keys) e here = in_remove (is_at (values_cmp key)) rows e (in_left (without_row rows key) keys e here)

-- a key that has a row still has one where rows were written
key_stays : (rows entries : Rows) (key : List Value) → is_some (row_under rows key) ≡ true → is_some (row_under (with_all rows entries) key) ≡ true
key_stays rows [] key there = there
key_stays rows (x ∷ xs) key there = key_stays (with_row rows x.0 x.1) xs key (still_there values_cmp same_key rows x.0 key x.1 there)

-- ---- unique values

-- rows under two keys collide in a unique constraint
abbrev pub clash : TableSpec → List (List ℕ) → List Value × List Value → List Value × List Value → Bool
clash spec unique one other = not (same_values one.0 other.0) && collide spec unique one.1 other.1

pub clash_turned : (spec : TableSpec) (unique : List (List ℕ)) (one other : List Value × List Value) → clash spec unique one other ≡ clash spec unique other one
clash_turned spec unique one other =
    λ i. not (same_turned one.0 other.0 i) && values_turned (cells_of spec one.1 unique) (cells_of spec other.1 unique) i

pub alone_at : (spec : TableSpec) (rows : Rows) (e : List Value × List Value) → repeats_unique spec rows e.0 e.1 ≡ false → (u : List (List ℕ)) → In u spec.uniques → (o : List Value × List Value) → In o rows → clash spec u e o ≡ false
alone_at spec rows e alone u at o here =
    all_in (λ o. clash spec u e o ≡ false) rows o
    (any_none (clash spec u e) rows (all_in (λ u. list_any (clash spec u e) rows ≡ false) spec.uniques u (any_none (λ u. list_any (clash spec u e) rows) spec.uniques alone) at)) here

pub alone_by : (spec : TableSpec) (rows : Rows) (e : List Value × List Value) → ((u : List (List ℕ)) → In u spec.uniques → (o : List Value × List Value) → In o rows → clash spec u e o ≡ false) → repeats_unique spec rows e.0 e.1 ≡ false
alone_by spec rows e each =
    none_any (λ u. list_any (clash spec u e) rows) spec.uniques
    (in_all (λ u. list_any (clash spec u e) rows ≡ false) spec.uniques (λ u at. none_any (clash spec u e) rows (in_all (λ o. clash spec u e o ≡ false) rows (each u at))))

uniques_written : (spec : TableSpec) (rows entries : Rows) → AllByRecursion (λ e. repeats_unique spec rows e.0 e.1 ≡ false) rows → some_repeats spec (with_all rows entries) entries ≡ false
    → AllByRecursion (λ e. repeats_unique spec (with_all rows entries) e.0 e.1 ≡ false) (with_all rows entries)
uniques_written spec rows entries old fresh = in_all (λ e. repeats_unique spec left e.0 e.1 ≡ false) left (λ e here. alone_by spec left e (apart e here))
  where
    left : Rows
    left = with_all rows entries

    new : (e : List Value × List Value) → In e entries → (u : List (List ℕ)) → In u spec.uniques → (o : List Value × List Value) → In o (with_all rows entries) → clash spec u e o ≡ false
    new e at = alone_at spec (with_all rows entries) e (all_in (λ e. repeats_unique spec (with_all rows entries) e.0 e.1 ≡ false) entries e (any_none (λ e. repeats_unique spec (with_all rows entries) e.0 e.1) entries fresh) at)

    by : (e : List Value × List Value) → In e (with_all rows entries) → (u : List (List ℕ)) → In u spec.uniques → (o : List Value × List Value) → In o (with_all rows entries)
        → In e entries ⊎ In e rows → In o entries ⊎ In o rows → clash spec u e o ≡ false
    by e here u at o there (inl written) p = new e written u at o there
    by e here u at o there (inr kept) (inl written) = clash_turned spec u e o ∙ new o written u at e here
    by e here u at o there (inr kept) (inr also) = alone_at spec rows e (all_in (λ e. repeats_unique spec rows e.0 e.1 ≡ false) rows e old kept) u at o also

    apart : (e : List Value × List Value) → In e (with_all rows entries) → (u : List (List ℕ)) → In u spec.uniques → (o : List Value × List Value) → In o (with_all rows entries) → clash spec u e o ≡ false
    apart e here u at o there = by e here u at o there (in_written rows entries e here) (in_written rows entries o there)

uniques_left : (spec : TableSpec) (rows : Rows) (keys : List (List Value)) → AllByRecursion (λ e. repeats_unique spec rows e.0 e.1 ≡ false) rows
    → AllByRecursion (λ e. repeats_unique spec (without_all rows keys) e.0 e.1 ≡ false) (without_all rows keys)
uniques_left spec rows keys old =
    in_all (λ e. repeats_unique spec (without_all rows keys) e.0 e.1 ≡ false) (without_all rows keys)
    (λ e here. alone_by spec (without_all rows keys) e
    (λ u at o there. alone_at spec rows e (all_in (λ e. repeats_unique spec rows e.0 e.1 ≡ false) rows e old (in_left rows keys e here)) u at o (in_left rows keys o there)))

-- ---- foreign keys

-- no foreign key of a row of the tables dangles
abbrev pub Bound : Catalog → Tables → TableId × Rows → Type 0
Bound schema tables created = AllByRecursion (λ row. some_dangles schema tables (spec_of schema created.0) row.1 ≡ false) created.1

pub bound_at : (schema : Catalog) (tables : Tables) → has_dangling schema tables ≡ false → AllByRecursion (Bound schema tables) tables
bound_at schema tables none =
    all_map (λ c. list_any (λ row. some_dangles schema tables (spec_of schema c.0) row.1) c.1 ≡ false) (Bound schema tables)
    (λ c e. any_none (λ row. some_dangles schema tables (spec_of schema c.0) row.1) c.1 e) tables
    (any_none (λ c. list_any (λ row. some_dangles schema tables (spec_of schema c.0) row.1) c.1) tables none)

pub bound_by : (schema : Catalog) (tables : Tables) → AllByRecursion (Bound schema tables) tables → has_dangling schema tables ≡ false
bound_by schema tables all =
    none_any (λ c. list_any (λ row. some_dangles schema tables (spec_of schema c.0) row.1) c.1) tables
    (all_map (Bound schema tables) (λ c. list_any (λ row. some_dangles schema tables (spec_of schema c.0) row.1) c.1 ≡ false)
    (λ c e. none_any (λ row. some_dangles schema tables (spec_of schema c.0) row.1) c.1 e) tables all)

-- a key that names a row still does where rows were written
name_stays : (schema : Catalog) (tables : Tables) (table : TableId) (rows entries : Rows) (foreign : ForeignSpec) (key : List Value) → rows_in tables table ≡ Some rows
    → names_row schema tables foreign key ≡ true → names_row schema (with_rows tables table (with_all rows entries)) foreign key ≡ true
name_stays schema tables table rows entries foreign key found = by (target_of schema foreign)
  where
    left : Tables
    left = with_rows tables table (with_all rows entries)

    at : (target : TableId)
        → (rows_in (with_rows tables table (with_all rows entries)) target ≡ rows_in tables target) ⊎ ((table_cmp target table ≡ Equal) × (rows_in (with_rows tables table (with_all rows entries)) target ≡ Some (with_all rows entries)))
        → has_row key (rows_in tables target) ≡ true → has_row key (rows_in (with_rows tables table (with_all rows entries)) target) ≡ true
    at target (inl is) named = ap (has_row key) is ∙ named
    at target (inr is) named =
        let there : has_row key (Some rows) ≡ true = sym (ap (λ t. has_row key (rows_in tables t)) (same_table target table is.0) ∙ ap (has_row key) found) ∙ named in
        ap (has_row key) is.1 ∙ key_stays rows entries key there

    by : (target : Option TableId) → has_row key (option_and_then (rows_in tables) target) ≡ true → has_row key (option_and_then (rows_in (with_rows tables table (with_all rows entries))) target) ≡ true
    by None named = named
    by (Some target) named = at target (lookup_after table_cmp same_table tables table target (with_all rows entries)) named

still_bound : (n a b : Bool) → (a ≡ true → b ≡ true) → (n && not a) ≡ false → (n && not b) ≡ false
still_bound true true b stays e = ap (λ x. not x) (stays refl)
still_bound true false b stays e = cc
still_bound false a b stays e = refl

pub dangle_stays : (schema : Catalog) (tables : Tables) (table : TableId) (rows entries : Rows) (spec : TableSpec) (row : List Value) → rows_in tables table ≡ Some rows → some_dangles schema tables spec row ≡ false
    → some_dangles schema (with_rows tables table (with_all rows entries)) spec row ≡ false
dangle_stays schema tables table rows entries spec row found none =
    none_any (dangles schema (with_rows tables table (with_all rows entries)) spec row) spec.foreigns
    (all_map (λ f. dangles schema tables spec row f ≡ false) (λ f. dangles schema (with_rows tables table (with_all rows entries)) spec row f ≡ false)
    (λ f e. still_bound (not (has_null (cells_of spec row f.columns))) (names_row schema tables f (cells_of spec row f.columns)) (names_row schema (with_rows tables table (with_all rows entries)) f (cells_of spec row f.columns))
    (name_stays schema tables table rows entries f (cells_of spec row f.columns) found) e)
    spec.foreigns (any_none (dangles schema tables spec row) spec.foreigns none))

bound_written : (schema : Catalog) (tables : Tables) (table : TableId) (rows entries : Rows) → has_dangling schema tables ≡ false → rows_in tables table ≡ Some rows
    → some_written_dangles schema (with_rows tables table (with_all rows entries)) (spec_of schema table) entries ≡ false → has_dangling schema (with_rows tables table (with_all rows entries)) ≡ false
bound_written schema tables table rows entries old found fresh =
    bound_by schema left (all_insert table_cmp same_table (Bound schema left) tables table (with_all rows entries)
    (all_map (Bound schema tables) (Bound schema left)
    (λ c e. all_map (λ row. some_dangles schema tables (spec_of schema c.0) row.1 ≡ false) (λ row. some_dangles schema left (spec_of schema c.0) row.1 ≡ false)
    (λ row p. dangle_stays schema tables table rows entries (spec_of schema c.0) row.1 found p) c.1 e) tables (bound_at schema tables old))
    (in_all (λ row. some_dangles schema left (spec_of schema table) row.1 ≡ false) (with_all rows entries) (λ row here. by row (in_written rows entries row here))))
  where
    left : Tables
    left = with_rows tables table (with_all rows entries)

    by : (row : List Value × List Value) → In row entries ⊎ In row rows → some_dangles schema (with_rows tables table (with_all rows entries)) (spec_of schema table) row.1 ≡ false
    by row (inl written) =
        all_in (λ row. some_dangles schema (with_rows tables table (with_all rows entries)) (spec_of schema table) row.1 ≡ false) entries row
        (any_none (λ row. some_dangles schema (with_rows tables table (with_all rows entries)) (spec_of schema table) row.1) entries fresh) written
    by row (inr kept) =
        dangle_stays schema tables table rows entries (spec_of schema table) row.1 found
        (all_in (λ row. some_dangles schema tables (spec_of schema table) row.1 ≡ false) rows row (all_lookup table_cmp same_table (Bound schema tables) tables table rows (bound_at schema tables old) found) kept)

not_lost : (n a b : Bool) → (n && not a) ≡ false → (a && (n && not b)) ≡ false → (n && not b) ≡ false
not_lost true true b e f = f
not_lost true false b e f = cc
not_lost false a b e f = refl

-- no row that is left lost the row that it referred to
abbrev Kept : Catalog → Tables → Tables → TableId × Rows → Type 0
Kept schema before left created = AllByRecursion (λ row. list_any (loses_row schema before left (spec_of schema created.0) row.1) (spec_of schema created.0).foreigns ≡ false) created.1

row_kept : (schema : Catalog) (before left : Tables) (spec : TableSpec) (row : List Value) → some_dangles schema before spec row ≡ false → list_any (loses_row schema before left spec row) spec.foreigns ≡ false
    → some_dangles schema left spec row ≡ false
row_kept schema before left spec row old kept =
    none_any (dangles schema left spec row) spec.foreigns
    (in_all (λ f. dangles schema left spec row f ≡ false) spec.foreigns
    (λ f at. not_lost (not (has_null (cells_of spec row f.columns))) (names_row schema before f (cells_of spec row f.columns)) (names_row schema left f (cells_of spec row f.columns))
    (all_in (λ f. dangles schema before spec row f ≡ false) spec.foreigns f (any_none (dangles schema before spec row) spec.foreigns old) at)
    (all_in (λ f. loses_row schema before left spec row f ≡ false) spec.foreigns f (any_none (loses_row schema before left spec row) spec.foreigns kept) at)))

bound_left : (schema : Catalog) (tables : Tables) (table : TableId) (rows : Rows) (keys : List (List Value)) → has_dangling schema tables ≡ false → rows_in tables table ≡ Some rows
    → some_loses_row schema tables (with_rows tables table (without_all rows keys)) ≡ false → has_dangling schema (with_rows tables table (without_all rows keys)) ≡ false
bound_left schema tables table rows keys old found fresh =
    bound_by schema left (in_all (Bound schema left) left (λ c here. in_all (λ row. some_dangles schema left (spec_of schema c.0) row.1 ≡ false) c.1
    (λ row at. row_kept schema tables left (spec_of schema c.0) row.1 (was c row at (in_insert table_cmp same_table tables table (without_all rows keys) c here))
    (all_in (λ row. list_any (loses_row schema tables left (spec_of schema c.0) row.1) (spec_of schema c.0).foreigns ≡ false) c.1 row
    (any_none (λ row. list_any (loses_row schema tables left (spec_of schema c.0) row.1) (spec_of schema c.0).foreigns) c.1
    (all_in (λ c. list_any (λ row. list_any (loses_row schema tables left (spec_of schema c.0) row.1) (spec_of schema c.0).foreigns) c.1 ≡ false) left c
    (any_none (λ c. list_any (λ row. list_any (loses_row schema tables left (spec_of schema c.0) row.1) (spec_of schema c.0).foreigns) c.1) left fresh) here)) at))))
  where
    left : Tables
    left = with_rows tables table (without_all rows keys)

    was : (c : TableId × Rows) (row : List Value × List Value) → In row c.1 → (c ≡ (table, without_all rows keys)) ⊎ In c tables → some_dangles schema tables (spec_of schema c.0) row.1 ≡ false
    was c row at (inl is) =
        let there : In row rows = in_left rows keys row (subst (λ d. In row d.1) is at) in
        ap (λ d. some_dangles schema tables (spec_of schema d.0) row.1) is
        ∙ all_in (λ row. some_dangles schema tables (spec_of schema table) row.1 ≡ false) rows row (all_lookup table_cmp same_table (Bound schema tables) tables table rows (bound_at schema tables old) found) there
    was c row at (inr kept) = all_in (λ row. some_dangles schema tables (spec_of schema c.0) row.1 ≡ false) c.1 row (all_in (Bound schema tables) tables c (bound_at schema tables old) kept) at

-- ---- the tables that are left

-- what holds of each row of each table, in one table
here : (P : TableId → Rows → List Value × List Value → Type 0) (tables : Tables) (table : TableId) (rows : Rows) → AllByRecursion (λ c. AllByRecursion (P c.0 c.1) c.1) tables → rows_in tables table ≡ Some rows → AllByRecursion (P table rows) rows
here P tables table rows all found = all_lookup table_cmp same_table (λ c. AllByRecursion (P c.0 c.1) c.1) tables table rows all found

there : (P : TableId → Rows → List Value × List Value → Type 0) (tables : Tables) (table : TableId) (rows : Rows) → AllByRecursion (λ c. AllByRecursion (P c.0 c.1) c.1) tables → AllByRecursion (P table rows) rows → AllByRecursion (λ c. AllByRecursion (P c.0 c.1) c.1) (with_rows tables table rows)
there P tables table rows all one = all_insert table_cmp same_table (λ c. AllByRecursion (P c.0 c.1) c.1) tables table rows all one

abbrev has_key : Catalog → TableId → Rows → List Value × List Value → Type 0
has_key schema table rows row = key_of (spec_of schema table) row.1 ≡ row.0

abbrev has_cells : Catalog → TableId → Rows → List Value × List Value → Type 0
has_cells schema table rows row = is_legal_row (spec_of schema table) row.1 ≡ true

abbrev is_alone : Catalog → TableId → Rows → List Value × List Value → Type 0
is_alone schema table rows row = repeats_unique (spec_of schema table) rows row.0 row.1 ≡ false

-- a row stands under its key and fits
abbrev pub IsEntry : TableSpec → List Value × List Value → Type 0
IsEntry spec e = (key_of spec e.1 ≡ e.0) × (is_legal_row spec e.1 ≡ true)

each_written : (P : List Value × List Value → Type 0) (rows entries : Rows) → AllByRecursion P rows → AllByRecursion P entries → AllByRecursion P (with_all rows entries)
each_written P rows entries old new = in_all P (with_all rows entries) (λ e at. by e (in_written rows entries e at))
  where
    by : (e : List Value × List Value) → In e entries ⊎ In e rows → P e
    by e (inl written) = all_in P entries e new written
    by e (inr kept) = all_in P rows e old kept

each_left : (P : List Value × List Value → Type 0) (rows : Rows) (keys : List (List Value)) → AllByRecursion P rows → AllByRecursion P (without_all rows keys)
each_left P rows keys old = in_all P (without_all rows keys) (λ e at. all_in P rows e old (in_left rows keys e at))

legal_written : (schema : Catalog) (tables : Tables) (table : TableId) (rows entries : Rows) → Legal schema tables → rows_in tables table ≡ Some rows → AllByRecursion (IsEntry (spec_of schema table)) entries
    → some_repeats (spec_of schema table) (with_all rows entries) entries ≡ false → some_written_dangles schema (with_rows tables table (with_all rows entries)) (spec_of schema table) entries ≡ false
    → Legal schema (with_rows tables table (with_all rows entries))
legal_written schema tables table rows entries legal found fit alone bound = record {
  created = all_insert table_cmp same_table (λ c. IsTable schema c.0) tables table (with_all rows entries) legal.created
      (all_lookup table_cmp same_table (λ c. IsTable schema c.0) tables table rows legal.created found);
  keys = there (has_key schema) tables table (with_all rows entries) legal.keys
      (each_written (has_key schema table rows) rows entries (here (has_key schema) tables table rows legal.keys found) (all_map (IsEntry (spec_of schema table)) (has_key schema table rows) (λ e p. p.0) entries fit));
  cells = there (has_cells schema) tables table (with_all rows entries) legal.cells
      (each_written (has_cells schema table rows) rows entries (here (has_cells schema) tables table rows legal.cells found) (all_map (IsEntry (spec_of schema table)) (has_cells schema table rows) (λ e p. p.1) entries fit));
  uniques = there (is_alone schema) tables table (with_all rows entries) legal.uniques
      (uniques_written (spec_of schema table) rows entries (here (is_alone schema) tables table rows legal.uniques found) alone);
  foreigns = bound_written schema tables table rows entries legal.foreigns found bound;
}

legal_left : (schema : Catalog) (tables : Tables) (table : TableId) (rows : Rows) (keys : List (List Value)) → Legal schema tables → rows_in tables table ≡ Some rows
    → some_loses_row schema tables (with_rows tables table (without_all rows keys)) ≡ false → Legal schema (with_rows tables table (without_all rows keys))
legal_left schema tables table rows keys legal found bound = record {
  created = all_insert table_cmp same_table (λ c. IsTable schema c.0) tables table (without_all rows keys) legal.created
      (all_lookup table_cmp same_table (λ c. IsTable schema c.0) tables table rows legal.created found);
  keys = there (has_key schema) tables table (without_all rows keys) legal.keys (each_left (has_key schema table rows) rows keys (here (has_key schema) tables table rows legal.keys found));
  cells = there (has_cells schema) tables table (without_all rows keys) legal.cells (each_left (has_cells schema table rows) rows keys (here (has_cells schema) tables table rows legal.cells found));
  uniques = there (is_alone schema) tables table (without_all rows keys) legal.uniques
      (uniques_left (spec_of schema table) rows keys (here (is_alone schema) tables table rows legal.uniques found));
  foreigns = bound_left schema tables table rows keys legal.foreigns found bound;
}

-- ---- an accepted outcome

pub guard_ok : {A : Type 0} (b : Bool) (d : Violation) (x : Judged A) (y : A) → cond b (Err d) x ≡ Ok y → (b ≡ false) × (x ≡ Ok y)
guard_ok true d x y e = cc
guard_ok false d x y e = (refl, e)

pub no_ok : {A : Type 0} (d : Violation) (y : A) → Err d ≡ Ok y → ⊥
no_ok d y e = cc

abbrev okay : {A : Type 0} → A → Judged A
okay x = Ok x

pub same_ok : {A : Type 0} (x y : A) → okay x ≡ okay y → x ≡ y
same_ok x y e = cc

pub and_ok : {A B : Type 0} (r : Judged A) (next : A → Judged B) (y : B) → and_then r next ≡ Ok y → (a : A) × (r ≡ Ok a) × (next a ≡ Ok y)
and_ok (Ok a) next y e = (a, refl, e)
and_ok (Err violation) next y e = absurd (no_ok violation y e)

pub write_legal : (schema : Catalog) (tables left : Tables) (table : TableId) (rows entries : Rows) → Legal schema tables → rows_in tables table ≡ Some rows → AllByRecursion (IsEntry (spec_of schema table)) entries
    → write_all schema tables table rows entries ≡ Ok left → Legal schema left
unfolding write_all
write_legal schema tables left table rows entries legal found fit e =
    let after : Tables = with_rows tables table (with_all rows entries) in
    let one = guard_ok (some_repeats (spec_of schema table) (with_all rows entries) entries) Unique (cond (some_written_dangles schema after (spec_of schema table) entries) (Err Foreign) (Ok after)) left e in
    let two = guard_ok (some_written_dangles schema after (spec_of schema table) entries) Foreign (Ok after) left one.1 in
    subst (Legal schema) (same_ok after left two.1) (legal_written schema tables table rows entries legal found fit one.0 two.0)

pub change_legal : (schema : Catalog) (tables left : Tables) (table : TableId) (rows entries : Rows) → Legal schema tables → rows_in tables table ≡ Some rows
    → (some_lacks (spec_of schema table) entries ≡ false → AllByRecursion (IsEntry (spec_of schema table)) entries) → change_all schema tables table rows entries ≡ Ok left → Legal schema left
unfolding change_all
change_legal schema tables left table rows entries legal found fit e =
    let one = guard_ok (some_lacks (spec_of schema table) entries) NotNull (write_all schema tables table rows entries) left e in
    write_legal schema tables left table rows entries legal found (fit one.0) one.1

pub remove_legal : (schema : Catalog) (tables left : Tables) (table : TableId) (rows : Rows) (keys : List (List Value)) → Legal schema tables → rows_in tables table ≡ Some rows
    → remove_all schema tables table rows keys ≡ Ok left → Legal schema left
unfolding remove_all
remove_legal schema tables left table rows keys legal found e =
    let after : Tables = with_rows tables table (without_all rows keys) in
    let one = guard_ok (some_loses_row schema tables after) Foreign (Ok after) left e in
    subst (Legal schema) (same_ok after left one.1) (legal_left schema tables table rows keys legal found one.0)

pub keys_ok : (keys : List (List Value)) (left : Judged Tables) (answer : List (List Value) × Tables) → answer_keys keys left ≡ Ok answer → left ≡ Ok answer.1
keys_ok keys (Ok tables) answer e = ap (λ p. Ok p.1) (same_ok (keys, tables) answer e)
keys_ok keys (Err violation) answer e = absurd (no_ok violation answer e)

-- ---- an INSERT

-- the columns of a key that is generated hold integers
integers : (spec : TableSpec) → has_generated_key spec ≡ true → AllByRecursion (λ c. c.key ≡ true → same_kind (kind_of c.kind) kinds.Integer ≡ true) spec.columns
integers spec e =
    let both = and_true (count_by (λ c. c.key) spec.columns == 1) (list_any (λ c. c.key && is_free_integer spec.foreigns c) spec.columns) e in
    all_map (λ c. c.key ≡ true → is_free_integer spec.foreigns c ≡ true) (λ c. c.key ≡ true → same_kind (kind_of c.kind) kinds.Integer ≡ true)
    (λ c f k. (and_true (same_kind (kind_of c.kind) kinds.Integer) (not (list_any (λ foreign. has_name foreign.columns c.name) spec.foreigns)) (f k)).0)
    spec.columns (only_key (is_free_integer spec.foreigns) spec.columns (eqb-true (count_by (λ c. c.key) spec.columns) 1 both.0) both.1)

demands_true : (spec : TableSpec) (row : List Value) → has_generated_key spec ≡ true → lacks_value (is_demanded spec) spec.columns row ≡ lacks_value (demands true) spec.columns row
demands_true spec row e = ap (λ g. lacks_value (demands g) spec.columns row) e

drawn_fits : (spec : TableSpec) (row keyed : List Value) (next : Option ℤ) → has_generated_key spec ≡ true → is_row spec row ≡ true → lacks_value (is_demanded spec) spec.columns row ≡ false
    → option_map (λ n. with_key spec.columns (Int n) row) next ≡ Some keyed → is_legal_row spec keyed ≡ true
drawn_fits spec row keyed None g held full is = cc
drawn_fits spec row keyed (Some n) g held full is =
    let same : with_key spec.columns (Int n) row ≡ keyed = cc in
    ap (is_legal_row spec) (sym same) ∙ filled_fits spec.columns row n (integers spec g) held (sym (demands_true spec row g) ∙ full)

own_fits : (spec : TableSpec) (rows : Rows) (row keyed : List Value) (wants : Bool) → wants_key spec row ≡ wants → is_row spec row ≡ true → lacks_value (is_demanded spec) spec.columns row ≡ false
    → cond wants (option_map (λ n. with_key spec.columns (Int n) row) (next_key rows)) (Some row) ≡ Some keyed → is_legal_row spec keyed ≡ true
own_fits spec rows row keyed true w held full is = drawn_fits spec row keyed (next_key rows) (and_true (has_generated_key spec) (has_null (key_of spec row)) w).0 held full is
own_fits spec rows row keyed false w held full is =
    let same : row ≡ keyed = cc in
    ap (is_legal_row spec) (sym same) ∙ plain_fits (has_generated_key spec) spec.columns row held full w

pub entry_is : (spec : TableSpec) (rows : Rows) (keyed : Option (List Value)) (entry : List Value × List Value) → entry_of spec rows keyed ≡ Ok entry → (row : List Value) × (keyed ≡ Some row) × ((key_of spec row, row) ≡ entry)
entry_is spec rows None entry e = absurd (no_ok KeysSpent entry e)
entry_is spec rows (Some row) entry e =
    let one = guard_ok (is_some (row_under rows (key_of spec row))) PrimaryKey (Ok (key_of spec row, row)) entry e in
    (row, refl, same_ok (key_of spec row, row) entry one.1)

entry_fits : (spec : TableSpec) (rows : Rows) (row : List Value) (entry : List Value × List Value) → is_row spec row ≡ true → lacks_value (is_demanded spec) spec.columns row ≡ false
    → entry_of spec rows (with_own_key spec rows row) ≡ Ok entry → IsEntry spec entry
entry_fits spec rows row entry held full e =
    let it = entry_is spec rows (with_own_key spec rows row) entry e in
    subst (IsEntry spec) it.2 (refl, own_fits spec rows row it.0 (wants_key spec row) refl held full it.1)

entries_fit : (spec : TableSpec) (rows : Rows) (new : List (List Value)) (entries : Rows) → list_all (is_row spec) new ≡ true → list_any (lacks_value (is_demanded spec) spec.columns) new ≡ false
    → entries_of spec rows new ≡ Ok entries → AllByRecursion (IsEntry spec) entries
entries_fit spec rows [] entries held full e = subst (AllByRecursion (IsEntry spec)) (same_ok [] entries e) tt
entries_fit spec rows (row ∷ more) entries held full e =
    let hold = and_true (is_row spec row) (list_all (is_row spec) more) held in
    let fill = or_parts (lacks_value (is_demanded spec) spec.columns row) (list_any (lacks_value (is_demanded spec) spec.columns) more) full in
    let first = and_ok (entry_of spec rows (with_own_key spec rows row)) (λ entry. and_then (entries_of spec (with_row rows entry.0 entry.1) more) (λ es. Ok (entry ∷ es))) entries e in
    let rest = and_ok (entries_of spec (with_row rows first.0.0 first.0.1) more) (λ es. Ok (first.0 ∷ es)) entries first.2 in
    subst (AllByRecursion (IsEntry spec)) (same_ok (first.0 ∷ rest.0) entries rest.2)
    (entry_fits spec rows row first.0 hold.0 fill.0 first.1, entries_fit spec (with_row rows first.0.0 first.0.1) more rest.0 hold.1 fill.1 rest.1)

pub insert_legal : (schema : Catalog) (tables : Tables) (table : TableId) (rows : Rows) (new : List (List Value)) (answer : List (List Value) × Tables) → Legal schema tables → rows_in tables table ≡ Some rows
    → list_all (is_row (spec_of schema table)) new ≡ true → insert_rows schema tables table rows new ≡ Ok answer → Legal schema answer.1
unfolding insert_rows
insert_legal schema tables table rows new answer legal found held e =
    let spec : TableSpec = spec_of schema table in
    let one = guard_ok (list_any (lacks_value (is_demanded spec) spec.columns) new) NotNull (and_then (entries_of spec rows new) (λ entries. answer_keys (keys_of_entries entries) (write_all schema tables table rows entries))) answer e in
    let two = and_ok (entries_of spec rows new) (λ entries. answer_keys (keys_of_entries entries) (write_all schema tables table rows entries)) answer one.1 in
    write_legal schema tables answer.1 table rows two.0 legal found (entries_fit spec rows new two.0 held one.0 two.1)
    (keys_ok (keys_of_entries two.0) (write_all schema tables table rows two.0) answer two.2)

-- ---- an UPDATE

-- a row that fits may be held
pub may_from_fits : (cs : List ColumnSpec) (row : List Value) → pointwise fits cs row ≡ true → pointwise may_hold cs row ≡ true
may_from_fits [] [] e = refl
may_from_fits [] (v ∷ row) e = cc
may_from_fits (c ∷ cs) [] e = cc
may_from_fits (c ∷ cs) (v ∷ row) e =
    let both = and_true (fits c v) (pointwise fits cs row) e in
    ap (λ b. (is_null v || b) && pointwise may_hold cs row) both.0 ∙ ap (λ b. b && pointwise may_hold cs row) (or_true (is_null v)) ∙ may_from_fits cs row both.1
  where
    or_true : (b : Bool) → (b || true) ≡ true
    or_true true = refl
    or_true false = refl

pub plain_required : (c : ColumnSpec) → demands false c ≡ is_required c
plain_required c = strip (is_required c) c.key
  where
    strip : (a k : Bool) → (a && not (k && false)) ≡ a
    strip true true = refl
    strip true false = refl
    strip false k = refl

update_legal : (schema : Catalog) (tables : Tables) (table : TableId) (rows : Rows) (key : List Value) (cells : List (ColumnNo × Value)) (under : Option (List Value)) (answer : List (List Value) × Tables) → row_under rows key ≡ under
    → Legal schema tables → rows_in tables table ≡ Some rows → are_cells 0 (spec_of schema table).columns cells ≡ true → update_found schema tables table rows key cells under ≡ Ok answer → Legal schema answer.1
update_legal schema tables table rows key cells None answer u legal found written e = absurd (no_ok Missing answer e)
update_legal schema tables table rows key cells (Some row) answer u legal found written e =
    let spec : TableSpec = spec_of schema table in
    let fit : is_legal_row spec row ≡ true = all_lookup values_cmp same_key (has_cells schema table rows) rows key row (here (has_cells schema) tables table rows legal.cells found) u in
    let keyed : key_of spec row ≡ key = all_lookup values_cmp same_key (has_key schema table rows) rows key row (here (has_key schema) tables table rows legal.keys found) u in
    let w = wrote spec.columns 0 [] row cells refl written (may_from_fits spec.columns row fit) in
    change_legal schema tables answer.1 table rows ((key, with_cells row cells) ∷ []) legal found
    (λ full.
    let lacks : lacks_value (demands false) spec.columns w.out ≡ false =
    ap (λ R. lacks_value R spec.columns w.out) (λ i c. plain_required c i) ∙ ap (lacks_value is_required spec.columns) (sym w.is) ∙ (or_parts (lacks_value is_required spec.columns (with_cells row cells)) false full).0 in
    ((ap (key_of spec) w.is ∙ w.key ∙ keyed, ap (is_legal_row spec) w.is ∙ plain_fits false spec.columns w.out w.held lacks refl), tt))
    (keys_ok (key ∷ []) (change_all schema tables table rows ((key, with_cells row cells) ∷ [])) answer e)

-- ---- a DELETE

delete_legal : (schema : Catalog) (tables : Tables) (table : TableId) (rows : Rows) (key : List Value) (under : Option (List Value)) (answer : List (List Value) × Tables) → Legal schema tables → rows_in tables table ≡ Some rows
    → delete_found schema tables table rows key under ≡ Ok answer → Legal schema answer.1
delete_legal schema tables table rows key None answer legal found e = subst (Legal schema) (ap (λ p. p.1) (same_ok (key ∷ [], tables) answer e)) legal
delete_legal schema tables table rows key (Some row) answer legal found e =
    remove_legal schema tables answer.1 table rows (key ∷ []) legal found (keys_ok (key ∷ []) (remove_all schema tables table rows (key ∷ [])) answer e)

-- ---- a well-formed statement

apply_legal : (schema : Catalog) (tables : Tables) (sent : RowStmt) (found : Option Rows) (answer : List (List Value) × Tables) → rows_in tables (table_of sent) ≡ found → IsWellFormed schema sent → Legal schema tables
    → apply_found schema tables sent found ≡ Ok answer → Legal schema answer.1
unfolding update_row delete_row
apply_legal schema tables sent None answer f well legal e = absurd (no_ok (NoTable (table_of sent)) answer e)
apply_legal schema tables (Insert table new) (Some rows) answer f well legal e = insert_legal schema tables table rows new answer legal f well.1.wide e
apply_legal schema tables (Update table key cells) (Some rows) answer f well legal e = update_legal schema tables table rows key cells (row_under rows key) answer refl legal f well.3 e
apply_legal schema tables (Delete table key) (Some rows) answer f well legal e = delete_legal schema tables table rows key (row_under rows key) answer legal f e

pub accepted : (schema : Catalog) (tables : Tables) (sent : RowStmt) (keys : List (List Value)) (after : Tables) → IsWellFormed schema sent → Legal schema tables → apply schema tables sent ≡ Ok (keys, after) → Legal schema after
unfolding apply
accepted schema tables sent keys after well legal e = apply_legal schema tables sent (rows_in tables (table_of sent)) (keys, after) refl well legal e

-- ---- the rule over all rows

pub removed_rule : (schema : Catalog) (tables : Tables) (table : TableId) (rows : Rows) (keys : List (List Value)) → has_dangling schema tables ≡ false → rows_in tables table ≡ Some rows
    → has_dangling schema (with_rows tables table (without_all rows keys)) ≡ true → some_loses_row schema tables (with_rows tables table (without_all rows keys)) ≡ true
removed_rule schema tables table rows keys old found dangles = by (some_loses_row schema tables (with_rows tables table (without_all rows keys))) refl
  where
    by : (b : Bool) → some_loses_row schema tables (with_rows tables table (without_all rows keys)) ≡ b → b ≡ true
    by true is = refl
    by false is = sym (bound_left schema tables table rows keys old found is) ∙ dangles

pub written_rule : (schema : Catalog) (tables : Tables) (table : TableId) (rows entries : Rows) → has_dangling schema tables ≡ false → rows_in tables table ≡ Some rows
    → has_dangling schema (with_rows tables table (with_all rows entries)) ≡ true → some_written_dangles schema (with_rows tables table (with_all rows entries)) (spec_of schema table) entries ≡ true
written_rule schema tables table rows entries old found dangles = by (some_written_dangles schema (with_rows tables table (with_all rows entries)) (spec_of schema table) entries) refl
  where
    by : (b : Bool) → some_written_dangles schema (with_rows tables table (with_all rows entries)) (spec_of schema table) entries ≡ b → b ≡ true
    by true is = refl
    by false is = sym (bound_written schema tables table rows entries old found is) ∙ dangles
