-- The keys that new rows get have one value for each key column, of its kind, and the row's own where it gives one.
use Rattle.std.proofs.Common.{◌≡◌, ℕ, ℤ, ◌+◌, Bool, true, false, not, cond, ◌&&◌, ◌||◌, ◌==◌, is_some, List, [], ◌∷◌, Option, None, Some, Ok, Err, IfOk, if◌then◌else◌, refl, sym, ap, ◌∙◌, subst, arith}
use Rattle.std.proofs.lemmas.Bool.{eqb-true, true≢false}
use Rattle.std.proofs.lemmas.List.Sums.{sum_by-cons}
use Rattle.std.specs.List.{list_all, list_any, filter, count_by}
use Rattle.std.specs.Option.{option_map}
use Rattle.std.specs.Cmp.Lexicographic.{pointwise}
use Rattle.base_core.proofs.Tests.{and_true, or_false}
use Rattle.base_core.specs.declared.ids.ColumnNo.{ColumnNo}
use Rattle.base_core.specs.declared.ids.TableId.{TableId}
use Rattle.base_core.specs.declared.value.Value.{Value}
use Rattle.base_core.specs.declared.value.Value.TheVariants.{Int}
use Rattle.schema_core.specs.declared.statement.Violation.{Violation}
use Rattle.schema_core.specs.declared.statement.Violation.TheVariants.{NotNull, PrimaryKey}
use Rattle.schema_core.specs.declared.statement.RowStmt.{RowStmt}
use Rattle.schema_core.specs.declared.statement.RowStmt.TheVariants.{Insert, Update, Delete}
use Rattle.schema_core.specs.declared.table.ColumnSpec.{ColumnSpec}
use Rattle.schema_core.specs.declared.table.ForeignSpec.{ForeignSpec}
use Rattle.schema_core.specs.declared.table.TableSpec.{TableSpec}
use Rattle.schema_core.specs.Apply.{Outcome, answer_keys, apply, apply_found, delete_found, delete_row, entries_of, entry_of, insert_rows, is_demanded, keys_of_entries, next_key, table_of, update_found, update_row, wants_key, with_cells, with_key, with_own_key}
use Rattle.schema_core.specs.Judged.{Judged, and_then, change_all, lacks_value, remove_all, write_all}
use Rattle.schema_core.specs.Catalog.{Catalog, has_generated_key, has_name, is_free_integer, is_required, spec_of}
use Rattle.schema_core.specs.Tables.{Rows, Tables, fits, has_null, is_null, key_cells, key_of, row_under, rows_in, with_row}
use Rattle.schema_core.specs.WellFormed.{AreKeysFor, AreKeysOf, IsDrawnFor, IsWellFormed, is_key, is_row, may_hold}

-- ---- tests

both_true : (a b : Bool) → (a && b) ≡ true → (a ≡ true) × (b ≡ true)
both_true true b e = (refl, e)
both_true false b e = cc

both_false : (a b : Bool) → (a || b) ≡ false → (a ≡ false) × (b ≡ false)
both_false true b e = cc
both_false false b e = (refl, e)

-- ---- the columns of the key

abbrev of_key : ColumnSpec → Bool
of_key column = column.key

abbrev keys : List ColumnSpec → List ColumnSpec
keys columns = filter (λ column. column.key) columns

-- cells that are no NULL fit
key_cells_fit : (columns : List ColumnSpec) (row : List Value) → pointwise may_hold columns row ≡ true → has_null (key_cells columns row) ≡ false → pointwise fits (keys columns) (key_cells columns row) ≡ true
key_cells_fit [] [] holds held = refl
key_cells_fit [] (v ∷ row) holds held = cc
key_cells_fit (c ∷ cs) [] holds held = cc
key_cells_fit (c ∷ cs) (v ∷ row) holds held = by c.key refl (λ h. key_cells_fit cs row (both_true (may_hold c v) (pointwise may_hold cs row) holds).1 h)
  where
    shape : {b : Bool} → c.key ≡ b → pointwise fits (keys (c ∷ cs)) (key_cells (c ∷ cs) (v ∷ row)) ≡ pointwise fits (cond b (c ∷ keys cs) (keys cs)) (cond b (v ∷ key_cells cs row) (key_cells cs row))
    shape is = ap (λ b. pointwise fits (cond b (c ∷ keys cs) (keys cs)) (cond b (v ∷ key_cells cs row) (key_cells cs row))) is

    by : (b : Bool) → c.key ≡ b → (has_null (key_cells cs row) ≡ false → pointwise fits (keys cs) (key_cells cs row) ≡ true) → pointwise fits (keys (c ∷ cs)) (key_cells (c ∷ cs) (v ∷ row)) ≡ true
    by true is rest =
        let apart : (is_null v || has_null (key_cells cs row)) ≡ false = rw is at held in
        let two = both_false (is_null v) (has_null (key_cells cs row)) apart in
        let one = (both_true (may_hold c v) (pointwise may_hold cs row) holds).0 in
        let fit : fits c v ≡ true = sym (ap (λ b. b || fits c v) two.0) ∙ one in
        shape is ∙ ap (λ b. b && pointwise fits (keys cs) (key_cells cs row)) fit ∙ rest two.1
    by false is rest = shape is ∙ rest (rw is at held)

demanded_key : (n k g x : Bool) → k ≡ true → g ≡ false → (((n || k) && not (k && g)) && x) ≡ false → x ≡ false
demanded_key true true false x a b h = h
demanded_key false true false x a b h = h
demanded_key n true true x a b h = cc
demanded_key n false g x a b h = cc

-- where keys are not generated, a row that lacks no value has no NULL in its key
key_held : (g : Bool) (columns : List ColumnSpec) (row : List Value) → g ≡ false → lacks_value (λ column. is_required column && not (column.key && g)) columns row ≡ false → has_null (key_cells columns row) ≡ false
key_held g [] row plain full = refl
key_held g (c ∷ cs) [] plain full = refl
key_held g (c ∷ cs) (v ∷ row) plain full = by c.key refl (λ h. key_held g cs row plain h)
  where
    by : (b : Bool) → c.key ≡ b → (lacks_value (λ column. is_required column && not (column.key && g)) cs row ≡ false → has_null (key_cells cs row) ≡ false) → has_null (key_cells (c ∷ cs) (v ∷ row)) ≡ false
    by true is rest =
        let two = both_false ((is_required c && not (c.key && g)) && is_null v) (lacks_value (λ column. is_required column && not (column.key && g)) cs row) full in
        let held : is_null v ≡ false = demanded_key c.not_null c.key g (is_null v) is plain two.0 in
        rw is (ap (λ b. b || has_null (key_cells cs row)) held ∙ rest two.1)
    by false is rest =
        let two = both_false ((is_required c && not (c.key && g)) && is_null v) (lacks_value (λ column. is_required column && not (column.key && g)) cs row) full in
        rw is (rest two.1)

-- a key has the values that it has
drawn_self : (key : List Value) → IsDrawnFor key key
drawn_self [] = refl
drawn_self (v ∷ key) = (λ _. refl, drawn_self key)

-- ---- a generated key

-- how many columns are of the key
abbrev count : List ColumnSpec → ℕ
count [] = 0
count (c ∷ cs) = cond c.key 1 0 + count cs

counts : (columns : List ColumnSpec) → count_by (λ column. column.key) columns ≡ count columns
counts [] = refl
counts (c ∷ cs) = sum_by-cons (λ column. cond column.key 1 0) c cs ∙ ap (λ n. cond c.key 1 0 + n) (counts cs)

not_one : (n : ℕ) → 1 + n ≡ 0 → ⊥
not_one n e = omega arith

one_less : (n : ℕ) → 1 + n ≡ 1 → n ≡ 0
one_less n e = omega arith

none_more : (n : ℕ) → 0 + n ≡ n
none_more n = omega arith

-- without a column of the key there are no cells of it
no_keys : (columns : List ColumnSpec) → count columns ≡ 0 → keys columns ≡ []
no_keys [] none = refl
no_keys (c ∷ cs) none = by c.key refl (no_keys cs)
  where
    by : (b : Bool) → c.key ≡ b → (count cs ≡ 0 → keys cs ≡ []) → keys (c ∷ cs) ≡ []
    by true is rest = absurd (not_one (count cs) (sym (ap (λ b. cond b 1 0 + count cs) is) ∙ none))
    by false is rest = ap (λ b. cond b (c ∷ keys cs) (keys cs)) is ∙ rest (sym (none_more (count cs)) ∙ sym (ap (λ b. cond b 1 0 + count cs) is) ∙ none)

no_key_cells : (columns : List ColumnSpec) (row : List Value) → count columns ≡ 0 → key_cells columns row ≡ []
no_key_cells [] row none = refl
no_key_cells (c ∷ cs) [] none = refl
no_key_cells (c ∷ cs) (v ∷ row) none = by c.key refl (no_key_cells cs row)
  where
    by : (b : Bool) → c.key ≡ b → (count cs ≡ 0 → key_cells cs row ≡ []) → key_cells (c ∷ cs) (v ∷ row) ≡ []
    by true is rest = absurd (not_one (count cs) (sym (ap (λ b. cond b 1 0 + count cs) is) ∙ none))
    by false is rest = ap (λ b. cond b (v ∷ key_cells cs row) (key_cells cs row)) is ∙ rest (sym (none_more (count cs)) ∙ sym (ap (λ b. cond b 1 0 + count cs) is) ∙ none)

no_free_key : (free : ColumnSpec → Bool) (columns : List ColumnSpec) → count columns ≡ 0 → list_any (λ column. column.key && free column) columns ≡ false
no_free_key free [] none = refl
no_free_key free (c ∷ cs) none = by c.key refl (no_free_key free cs)
  where
    by : (b : Bool) → c.key ≡ b → (count cs ≡ 0 → list_any (λ column. column.key && free column) cs ≡ false) → list_any (λ column. column.key && free column) (c ∷ cs) ≡ false
    by true is rest = absurd (not_one (count cs) (sym (ap (λ b. cond b 1 0 + count cs) is) ∙ none))
    by false is rest =
        ap (λ b. (b && free c) || list_any (λ column. column.key && free column) cs) is ∙ rest (sym (none_more (count cs)) ∙ sym (ap (λ b. cond b 1 0 + count cs) is) ∙ none)

-- the one column of a generated key takes an integer
drawn_fits : (foreigns : List ForeignSpec) (columns : List ColumnSpec) (row : List Value) (n : ℤ) → count columns ≡ 1 → list_any (λ column. column.key && is_free_integer foreigns column) columns ≡ true
    → pointwise may_hold columns row ≡ true → pointwise fits (keys columns) (key_cells columns (with_key columns (Int n) row)) ≡ true
drawn_fits foreigns [] row n one free holds = cc
drawn_fits foreigns (c ∷ cs) [] n one free holds = cc
drawn_fits foreigns (c ∷ cs) (v ∷ row) n one free holds = by c.key refl (λ o f. drawn_fits foreigns cs row n o f (both_true (may_hold c v) (pointwise may_hold cs row) holds).1)
  where
    others : List Value
    others = with_key cs (Int n) row

    shape : (b : Bool) → c.key ≡ b → pointwise fits (keys (c ∷ cs)) (key_cells (c ∷ cs) (with_key (c ∷ cs) (Int n) (v ∷ row)))
        ≡ pointwise fits (cond b (c ∷ keys cs) (keys cs)) (cond b (cond b (Int n) v ∷ key_cells cs (with_key cs (Int n) row)) (key_cells cs (with_key cs (Int n) row)))
    shape b is = ap (λ b. pointwise fits (cond b (c ∷ keys cs) (keys cs)) (cond b (cond b (Int n) v ∷ key_cells cs (with_key cs (Int n) row)) (key_cells cs (with_key cs (Int n) row)))) is

    by : (b : Bool) → c.key ≡ b
        → (count cs ≡ 1 → list_any (λ column. column.key && is_free_integer foreigns column) cs ≡ true → pointwise fits (keys cs) (key_cells cs (with_key cs (Int n) row)) ≡ true)
        → pointwise fits (keys (c ∷ cs)) (key_cells (c ∷ cs) (with_key (c ∷ cs) (Int n) (v ∷ row))) ≡ true
    by true is rest =
        let none : count cs ≡ 0 = one_less (count cs) (sym (ap (λ b. cond b 1 0 + count cs) is) ∙ one) in
        let here : is_free_integer foreigns c ≡ true =
        sym (or_false (is_free_integer foreigns c)) ∙ ap (λ b. is_free_integer foreigns c || b) (sym (no_free_key (is_free_integer foreigns) cs none))
        ∙ sym (ap (λ b. (b && is_free_integer foreigns c) || list_any (λ column. column.key && is_free_integer foreigns column) cs) is) ∙ free in
        let fit : fits c (Int n) ≡ true = (both_true (fits c (Int n)) (not (list_any (λ foreign. has_name foreign.columns c.name) foreigns)) here).0 in
        shape true is ∙ ap (λ b. b && pointwise fits (keys cs) (key_cells cs (with_key cs (Int n) row))) fit
        ∙ ap (λ ks. pointwise fits ks (key_cells cs (with_key cs (Int n) row))) (no_keys cs none) ∙ ap (pointwise fits []) (no_key_cells cs (with_key cs (Int n) row) none)
    by false is rest =
        shape false is
        ∙ rest (sym (none_more (count cs)) ∙ sym (ap (λ b. cond b 1 0 + count cs) is) ∙ one) (sym (ap (λ b. (b && is_free_integer foreigns c) || list_any (λ column. column.key && is_free_integer foreigns column) cs) is) ∙ free)

-- it stands where the row left its key open
drawn_open : (columns : List ColumnSpec) (row : List Value) (key : Value) → count columns ≡ 1 → has_null (key_cells columns row) ≡ true
    → IsDrawnFor (key_cells columns row) (key_cells columns (with_key columns key row))
drawn_open [] row key one wide = cc
drawn_open (c ∷ cs) [] key one wide = cc
drawn_open (c ∷ cs) (v ∷ row) key one wide = by c.key refl (drawn_open cs row key)
  where
    shape : (b : Bool) → c.key ≡ b → IsDrawnFor (cond b (v ∷ key_cells cs row) (key_cells cs row)) (cond b (cond b key v ∷ key_cells cs (with_key cs key row)) (key_cells cs (with_key cs key row)))
        → IsDrawnFor (key_cells (c ∷ cs) (v ∷ row)) (key_cells (c ∷ cs) (with_key (c ∷ cs) key (v ∷ row)))
    shape b is = subst (λ b. IsDrawnFor (cond b (v ∷ key_cells cs row) (key_cells cs row)) (cond b (cond b key v ∷ key_cells cs (with_key cs key row)) (key_cells cs (with_key cs key row)))) (sym is)

    by : (b : Bool) → c.key ≡ b → (count cs ≡ 1 → has_null (key_cells cs row) ≡ true → IsDrawnFor (key_cells cs row) (key_cells cs (with_key cs key row)))
        → IsDrawnFor (key_cells (c ∷ cs) (v ∷ row)) (key_cells (c ∷ cs) (with_key (c ∷ cs) key (v ∷ row)))
    by true is rest =
        let none : count cs ≡ 0 = one_less (count cs) (sym (ap (λ b. cond b 1 0 + count cs) is) ∙ one) in
        let null : is_null v ≡ true =
        sym (or_false (is_null v)) ∙ ap (λ ks. is_null v || has_null ks) (sym (no_key_cells cs row none))
        ∙ sym (ap (λ b. has_null (cond b (v ∷ key_cells cs row) (key_cells cs row))) is) ∙ wide in
        shape true is (
          (λ held. absurd (true≢false (sym null ∙ held))),
          subst (λ ks. IsDrawnFor ks (key_cells cs (with_key cs key row))) (sym (no_key_cells cs row none)) (no_key_cells cs (with_key cs key row) none),
        )
    by false is rest =
        shape false is
        (rest (sym (none_more (count cs)) ∙ sym (ap (λ b. cond b 1 0 + count cs) is) ∙ one) (sym (ap (λ b. has_null (cond b (v ∷ key_cells cs row) (key_cells cs row))) is) ∙ wide))

-- ---- what a statement answers

abbrev KeyFor : TableSpec → List Value → List Value → Type 0
KeyFor spec row key = (is_key spec key ≡ true) × IsDrawnFor (key_of spec row) key

-- a row whose key is given
given_key : (spec : TableSpec) (row : List Value) → is_row spec row ≡ true → lacks_value (is_demanded spec) spec.columns row ≡ false → wants_key spec row ≡ false → KeyFor spec row (key_of spec row)
given_key spec row holds full given = by (has_generated_key spec) refl
  where
    by : (g : Bool) → has_generated_key spec ≡ g → KeyFor spec row (key_of spec row)
    by true is = (key_cells_fit spec.columns row holds (sym (ap (λ g. g && has_null (key_of spec row)) is) ∙ given), drawn_self (key_of spec row))
    by false is = (key_cells_fit spec.columns row holds (key_held (has_generated_key spec) spec.columns row is full), drawn_self (key_of spec row))

-- a row whose key is generated
drawn_key : (spec : TableSpec) (row : List Value) (n : ℤ) → is_row spec row ≡ true → wants_key spec row ≡ true → KeyFor spec row (key_of spec (with_key spec.columns (Int n) row))
drawn_key spec row n holds wanted =
    let two = both_true (has_generated_key spec) (has_null (key_of spec row)) wanted in
    let made = both_true (count_by (λ column. column.key) spec.columns == 1) (list_any (λ column. column.key && is_free_integer spec.foreigns column) spec.columns) two.0 in
    let one : count spec.columns ≡ 1 = sym (counts spec.columns) ∙ eqb-true (count_by (λ column. column.key) spec.columns) 1 made.0 in
    (drawn_fits spec.foreigns spec.columns row n one made.1 holds, drawn_open spec.columns row (Int n) one two.1)

choose : {A : Type 0} (P : A → Type 0) (b : Bool) (violation : Violation) (a : A) → P a → IfOk (if b then Err violation else Ok a) P
choose P true violation a p = tt
choose P false violation a p = p

-- a row that gets its key
entry_for : (spec : TableSpec) (rows : Rows) (row keyed : List Value) → KeyFor spec row (key_of spec keyed) → IfOk (entry_of spec rows (Some keyed)) (λ entry. KeyFor spec row entry.0)
entry_for spec rows row keyed is = choose (λ entry. KeyFor spec row entry.0) (is_some (row_under rows (key_of spec keyed))) PrimaryKey (key_of spec keyed, keyed) is

drawn_for : (spec : TableSpec) (rows : Rows) (row : List Value) (next : Option ℤ) → is_row spec row ≡ true → wants_key spec row ≡ true
    → IfOk (entry_of spec rows (option_map (λ key. with_key spec.columns (Int key) row) next)) (λ entry. KeyFor spec row entry.0)
drawn_for spec rows row None holds wanted = tt
drawn_for spec rows row (Some n) holds wanted = entry_for spec rows row (with_key spec.columns (Int n) row) (drawn_key spec row n holds wanted)

own_for : (spec : TableSpec) (rows : Rows) (row : List Value) (wants : Bool) → wants_key spec row ≡ wants → is_row spec row ≡ true → lacks_value (is_demanded spec) spec.columns row ≡ false
    → IfOk (entry_of spec rows (if wants then option_map (λ key. with_key spec.columns (Int key) row) (next_key rows) else Some row)) (λ entry. KeyFor spec row entry.0)
own_for spec rows row true is holds full = drawn_for spec rows row (next_key rows) holds is
own_for spec rows row false is holds full = entry_for spec rows row row (given_key spec row holds full is)

one_more : (spec : TableSpec) (row : List Value) (more : List (List Value)) (entry : List Value × List Value) (rest : Judged Rows) → KeyFor spec row entry.0 → IfOk rest (λ entries. AreKeysOf spec more (keys_of_entries entries))
    → IfOk (and_then rest (λ entries. Ok (entry ∷ entries))) (λ entries. AreKeysOf spec (row ∷ more) (keys_of_entries entries))
one_more spec row more entry (Ok entries) first are = (first.0, first.1, are)
one_more spec row more entry (Err violation) first are = tt

entries_for : (spec : TableSpec) (rows : Rows) (new : List (List Value)) → list_all (is_row spec) new ≡ true → list_any (lacks_value (is_demanded spec) spec.columns) new ≡ false
    → IfOk (entries_of spec rows new) (λ entries. AreKeysOf spec new (keys_of_entries entries))
entries_for spec rows [] hold full = refl
entries_for spec rows (row ∷ more) hold full =
    by (entry_of spec rows (with_own_key spec rows row)) (own_for spec rows row (wants_key spec row) refl held.0 filled.0) (λ entry. entries_for spec (with_row rows entry.0 entry.1) more held.1 filled.1)
  where
    held : (is_row spec row ≡ true) × (list_all (is_row spec) more ≡ true)
    held = both_true (is_row spec row) (list_all (is_row spec) more) hold

    filled : (lacks_value (is_demanded spec) spec.columns row ≡ false) × (list_any (lacks_value (is_demanded spec) spec.columns) more ≡ false)
    filled = both_false (lacks_value (is_demanded spec) spec.columns row) (list_any (lacks_value (is_demanded spec) spec.columns) more) full

    by : (r : Judged (List Value × List Value)) → IfOk r (λ entry. KeyFor spec row entry.0)
        → ((entry : List Value × List Value) → IfOk (entries_of spec (with_row rows entry.0 entry.1) more) (λ entries. AreKeysOf spec more (keys_of_entries entries)))
        → IfOk (and_then r (λ entry. and_then (entries_of spec (with_row rows entry.0 entry.1) more) (λ entries. Ok (entry ∷ entries)))) (λ entries. AreKeysOf spec (row ∷ more) (keys_of_entries entries))
    by (Ok entry) first again = one_more spec row more entry (entries_of spec (with_row rows entry.0 entry.1) more) first (again entry)
    by (Err violation) first again = tt

-- the keys that are answered
answered : (P : List (List Value) → Type 0) (keys : List (List Value)) (left : Judged Tables) → P keys → IfOk (answer_keys keys left) (λ done. P done.0)
answered P keys (Ok tables) is = is
answered P keys (Err violation) is = tt

insert_for : (schema : Catalog) (tables : Tables) (table : TableId) (rows : Rows) (new : List (List Value)) → list_all (is_row (spec_of schema table)) new ≡ true
    → IfOk (insert_rows schema tables table rows new) (λ done. AreKeysOf (spec_of schema table) new done.0)
unfolding insert_rows
insert_for schema tables table rows new hold = by (list_any (lacks_value (is_demanded (spec_of schema table)) (spec_of schema table).columns) new) refl
  where
    rest : (r : Judged Rows) → IfOk r (λ entries. AreKeysOf (spec_of schema table) new (keys_of_entries entries))
        → IfOk (and_then r (λ entries. answer_keys (keys_of_entries entries) (write_all schema tables table rows entries))) (λ done. AreKeysOf (spec_of schema table) new done.0)
    rest (Ok entries) are = answered (AreKeysOf (spec_of schema table) new) (keys_of_entries entries) (write_all schema tables table rows entries) are
    rest (Err violation) are = tt

    by : (b : Bool) → list_any (lacks_value (is_demanded (spec_of schema table)) (spec_of schema table).columns) new ≡ b
        → IfOk (if b then Err NotNull else and_then (entries_of (spec_of schema table) rows new) (λ entries. answer_keys (keys_of_entries entries) (write_all schema tables table rows entries)))
        (λ done. AreKeysOf (spec_of schema table) new done.0)
    by true is = tt
    by false is = rest (entries_of (spec_of schema table) rows new) (entries_for (spec_of schema table) rows new hold is)

update_for : (schema : Catalog) (tables : Tables) (table : TableId) (rows : Rows) (key : List Value) (cells : List (ColumnNo × Value)) (found : Option (List Value))
    → IfOk (update_found schema tables table rows key cells found) (λ done. done.0 ≡ key ∷ [])
update_for schema tables table rows key cells None = tt
update_for schema tables table rows key cells (Some row) = answered (λ keys. keys ≡ key ∷ []) (key ∷ []) (change_all schema tables table rows ((key, with_cells row cells) ∷ [])) refl

delete_for : (schema : Catalog) (tables : Tables) (table : TableId) (rows : Rows) (key : List Value) (found : Option (List Value)) → IfOk (delete_found schema tables table rows key found) (λ done. done.0 ≡ key ∷ [])
delete_for schema tables table rows key None = refl
delete_for schema tables table rows key (Some row) = answered (λ keys. keys ≡ key ∷ []) (key ∷ []) (remove_all schema tables table rows (key ∷ [])) refl

found_for : (schema : Catalog) (tables : Tables) (statement : RowStmt) (found : Option Rows) → IsWellFormed schema statement → IfOk (apply_found schema tables statement found) (λ done. AreKeysFor schema statement done.0)
unfolding update_row delete_row
found_for schema tables (Insert table new) None fit = tt
found_for schema tables (Update table key cells) None fit = tt
found_for schema tables (Delete table key) None fit = tt
found_for schema tables (Insert table new) (Some rows) fit = insert_for schema tables table rows new fit.1.wide
found_for schema tables (Update table key cells) (Some rows) fit = update_for schema tables table rows key cells (row_under rows key)
found_for schema tables (Delete table key) (Some rows) fit = delete_for schema tables table rows key (row_under rows key)

-- the keys that are answered are those for the statement
pub keys_for : (schema : Catalog) (tables : Tables) (statement : RowStmt) (keys : List (List Value)) (after : Tables) → apply schema tables statement ≡ Ok (keys, after) → IsWellFormed schema statement → AreKeysFor schema statement keys
unfolding apply
keys_for schema tables statement keys after is fit =
    subst (λ (o : Outcome). IfOk o (λ done. AreKeysFor schema statement done.0)) is (found_for schema tables statement (rows_in tables (table_of statement)) fit)
