-- Where the rows of an INSERT are accepted one by one, the INSERT is accepted as one statement, and does the same.
use Rattle.std.proofs.Common.{◌≡◌, ◌⊎◌, inl, inr, ℕ, Bool, true, false, cond, ◌||◌, ◌<◌, List, [], ◌∷◌, ◌++◌, length, Option, None, Some, Ok, Err, if◌then◌else◌, is_some, refl, sym, ap, ◌∙◌, subst, arith}
use Rattle.std.proofs.lemmas.Bool.{or_parts}
use Rattle.std.specs.declared.cmp.Ordering.{Ordering}
use Rattle.std.specs.declared.cmp.Ordering.TheVariants.{Less, Equal, Greater}
use Rattle.std.specs.List.{list_any}
use Rattle.base_core.specs.declared.ids.TableId.{TableId}
use Rattle.base_core.specs.declared.value.Value.{Value}
use Rattle.base_core.specs.Order.{values_cmp}
use Rattle.schema_core.specs.declared.statement.RowStmt.TheVariants.{Insert}
use Rattle.schema_core.specs.declared.statement.Violation.TheVariants.{Foreign, NotNull, PrimaryKey, Unique, NoTable}
use Rattle.schema_core.specs.declared.table.TableSpec.{TableSpec}
use Rattle.schema_core.specs.Apply.{Outcome, answer_keys, apply, entries_of, entry_of, insert_rows, is_demanded, keys_of_entries, with_own_key}
use Rattle.schema_core.specs.Catalog.{Catalog, spec_of}
use Rattle.schema_core.specs.Judged.{Judged, and_then, lacks_value, some_repeats, some_written_dangles, with_all, write_all}
use Rattle.schema_core.specs.Tables.{Rows, Tables, key_of, repeats_unique, row_under, rows_in, some_dangles, table_cmp, with_row, with_rows}
use Rattle.schema_core.specs.WellFormed.{IsWellFormed}
use Rattle.schema_core.proofs.ApplySteps.{apply_insert, apply_nowhere, entries_more, insert_full, write_dangles, write_done}
use Rattle.table_laws.specs.OneByOne.{one_by_one, refers_to_later}
use Rattle.table_laws.proofs.Legality.{alone_at, alone_by, and_ok, clash, clash_turned, dangle_stays, entry_is, guard_ok, in_written, no_ok, same_ok}
use Rattle.table_laws.proofs.Entries.{any_none}
use Rattle.table_laws.proofs.Members.{In, all_in}
use Rattle.table_laws.proofs.SameValues.{same_key, table_equal}

-- ---- entries that are put in

-- what is put in is there
in_put : (es : Rows) (k v : List Value) → In (k, v) (with_row es k v)
in_put [] k v = inl refl
in_put (d ∷ es) k v = at (values_cmp k d.0) refl (in_put es k v)
  where
    at : (r : Ordering) → values_cmp k d.0 ≡ r → In (k, v) (with_row es k v) → In (k, v) (with_row (d ∷ es) k v)
    at Less is again = let shape : (k, v) ∷ d ∷ es ≡ with_row (d ∷ es) k v = rw is refl in subst (In (k, v)) shape (inl refl)
    at Equal is again = let shape : (d.0, v) ∷ es ≡ with_row (d ∷ es) k v = rw is refl in subst (In (k, v)) shape (inl (ap (λ j. (j, v)) (same_key k d.0 is)))
    at Greater is again = let shape : d ∷ with_row es k v ≡ with_row (d ∷ es) k v = rw is refl in subst (In (k, v)) shape (inr again)

-- what was there is there where another key was put in
in_stays : (es : Rows) (k v : List Value) (e : List Value × List Value) → is_some (row_under es k) ≡ false → In e es → In e (with_row es k v)
in_stays [] k v e new here = absurd here
in_stays (d ∷ es) k v e new here = at (values_cmp k d.0) refl (λ n h. in_stays es k v e n h)
  where
    no : true ≡ false → ⊥
    no q = cc

    later : (is_some (row_under es k) ≡ false → In e es → In e (with_row es k v)) → is_some (row_under es k) ≡ false → In e (d ∷ es) → In e (d ∷ with_row es k v)
    later again n (inl q) = inl q
    later again n (inr q) = inr (again n q)

    at : (r : Ordering) → values_cmp k d.0 ≡ r → (is_some (row_under es k) ≡ false → In e es → In e (with_row es k v)) → In e (with_row (d ∷ es) k v)
    at Less is again = let shape : (k, v) ∷ d ∷ es ≡ with_row (d ∷ es) k v = rw is refl in subst (In e) shape (inr here)
    at Equal is again = let some : is_some (row_under (d ∷ es) k) ≡ true = rw is refl in absurd (no (sym some ∙ new))
    at Greater is again =
        let shape : d ∷ with_row es k v ≡ with_row (d ∷ es) k v = rw is refl in
        let rest : is_some (row_under es k) ≡ false = rw is at new in
        subst (In e) shape (later again rest here)

-- a new row's key was not there
new_key : (spec : TableSpec) (rows : Rows) (row : List Value) (entry : List Value × List Value) → entry_of spec rows (with_own_key spec rows row) ≡ Ok entry → is_some (row_under rows entry.0) ≡ false
new_key spec rows row entry e =
    let it = entry_is spec rows (with_own_key spec rows row) entry e in
    let one = guard_ok (is_some (row_under rows (key_of spec it.0))) PrimaryKey (Ok (key_of spec it.0, it.0)) entry (ap (entry_of spec rows) (sym it.1) ∙ e) in
    ap (λ k. is_some (row_under rows k.0)) (sym it.2) ∙ one.0

-- entries of an INSERT leave all other rows there
member_stays : (spec : TableSpec) (rows : Rows) (new : List (List Value)) (entries : Rows) (e : List Value × List Value) → entries_of spec rows new ≡ Ok entries → In e rows → In e (with_all rows entries)
member_stays spec rows [] entries e is here = subst (λ es. In e (with_all rows es)) (same_ok [] entries is) here
member_stays spec rows (row ∷ more) entries e is here =
    let first = and_ok (entry_of spec rows (with_own_key spec rows row)) (λ entry. and_then (entries_of spec (with_row rows entry.0 entry.1) more) (λ es. Ok (entry ∷ es))) entries is in
    let rest = and_ok (entries_of spec (with_row rows first.0.0 first.0.1) more) (λ es. Ok (first.0 ∷ es)) entries first.2 in
    subst (λ es. In e (with_all rows es)) (same_ok (first.0 ∷ rest.0) entries rest.2)
    (member_stays spec (with_row rows first.0.0 first.0.1) more rest.0 e rest.1 (in_stays rows first.0.0 first.0.1 e (new_key spec rows row first.0 first.1) here))

-- ---- one statement

-- What is known of rows that were accepted one by one: each has a value, they are entries of one statement that are accepted together.
record Together (schema : Catalog) (tables : Tables) (table : TableId) (rows : Rows) (new : List (List Value)) (answer : List (List Value) × Tables) : Type 0 where
  full : list_any (lacks_value (is_demanded (spec_of schema table)) (spec_of schema table).columns) new ≡ false
  entries : Rows
  are : entries_of (spec_of schema table) rows new ≡ Ok entries
  keys : answer.0 ≡ keys_of_entries entries
  left : answer.1 ≡ with_rows tables table (with_all rows entries)
  alone : some_repeats (spec_of schema table) (with_all rows entries) entries ≡ false
  bound : some_written_dangles schema (with_rows tables table (with_all rows entries)) (spec_of schema table) entries ≡ false

-- one statement of one row
together_one : (schema : Catalog) (tables : Tables) (table : TableId) (rows : Rows) (new : List (List Value)) (answer : List (List Value) × Tables) → insert_rows schema tables table rows new ≡ Ok answer
    → Together schema tables table rows new answer
unfolding insert_rows write_all
together_one schema tables table rows new answer e =
    let spec : TableSpec = spec_of schema table in
    let one = guard_ok (list_any (lacks_value (is_demanded spec) spec.columns) new) NotNull (and_then (entries_of spec rows new) (λ es. answer_keys (keys_of_entries es) (write_all schema tables table rows es))) answer e in
    let two = and_ok (entries_of spec rows new) (λ es. answer_keys (keys_of_entries es) (write_all schema tables table rows es)) answer one.1 in
    let three = and_ok (write_all schema tables table rows two.0) (λ ts. Ok (keys_of_entries two.0, ts)) answer two.2 in
    let after : Tables = with_rows tables table (with_all rows two.0) in
    let four = guard_ok (some_repeats spec (with_all rows two.0) two.0) Unique (cond (some_written_dangles schema after spec two.0) (Err Foreign) (Ok after)) three.0 three.1 in
    let five = guard_ok (some_written_dangles schema after spec two.0) Foreign (Ok after) three.0 four.1 in
    record {
      full = one.0;
      entries = two.0;
      are = two.1;
      keys = ap (λ p. p.0) (sym (same_ok (keys_of_entries two.0, three.0) answer three.2));
      left = ap (λ p. p.1) (sym (same_ok (keys_of_entries two.0, three.0) answer three.2)) ∙ sym (same_ok after three.0 five.1);
      alone = four.0;
      bound = five.0;
    }

together_done : (schema : Catalog) (tables : Tables) (table : TableId) (rows : Rows) (new : List (List Value)) (answer : List (List Value) × Tables) → Together schema tables table rows new answer
    → insert_rows schema tables table rows new ≡ Ok answer
together_done schema tables table rows new answer t =
    insert_full schema tables table rows new t.full
    ∙ ap (λ r. and_then r (λ es. answer_keys (keys_of_entries es) (write_all schema tables table rows es))) t.are
    ∙ ap (answer_keys (keys_of_entries t.entries)) (write_done schema tables table rows t.entries t.alone t.bound)
    ∙ (λ i. Ok (sym t.keys i, sym t.left i))

-- ---- the tables of one statement after another

-- the rows of a table are those that were put in last
rows_found : (tables : Tables) (table : TableId) (rows : Rows) → rows_in (with_rows tables table rows) table ≡ Some rows
rows_found [] table rows = rw table_equal refl
rows_found (t ∷ ts) table rows = at (table_cmp table t.0) refl (rows_found ts table rows)
  where
    at : (r : Ordering) → table_cmp table t.0 ≡ r → rows_in (with_rows ts table rows) table ≡ Some rows → rows_in (with_rows (t ∷ ts) table rows) table ≡ Some rows
    at Less is again = rw (is, table_equal) refl
    at Equal is again = rw (is, is) refl
    at Greater is again = rw (is, is) again

put_again : (tables : Tables) (table : TableId) (rows last : Rows) → with_rows (with_rows tables table rows) table last ≡ with_rows tables table last
put_again [] table rows last = rw table_equal refl
put_again (t ∷ ts) table rows last = at (table_cmp table t.0) refl (put_again ts table rows last)
  where
    at : (r : Ordering) → table_cmp table t.0 ≡ r → with_rows (with_rows ts table rows) table last ≡ with_rows ts table last → with_rows (with_rows (t ∷ ts) table rows) table last ≡ with_rows (t ∷ ts) table last
    at Less is again = rw (is, table_equal) refl
    at Equal is again = rw (is, is) refl
    at Greater is again = rw (is, is) (ap (λ x. t ∷ x) again)

both_none : (a b : Bool) → a ≡ false → b ≡ false → (a || b) ≡ false
both_none a b e f = ap (λ x. x || b) e ∙ f

left_none : (a : Bool) → (a || false) ≡ false → a ≡ false
left_none true e = cc
left_none false e = refl

-- the first row, and then the others
together_more : (schema : Catalog) (tables : Tables) (table : TableId) (rows : Rows) (row : List Value) (more : List (List Value)) (first rest : List (List Value) × Tables) (entry : List Value × List Value)
    → entry_of (spec_of schema table) rows (with_own_key (spec_of schema table) rows row) ≡ Ok entry
    → lacks_value (is_demanded (spec_of schema table)) (spec_of schema table).columns row ≡ false
    → first.0 ≡ entry.0 ∷ [] → first.1 ≡ with_rows tables table (with_row rows entry.0 entry.1)
    → repeats_unique (spec_of schema table) (with_row rows entry.0 entry.1) entry.0 entry.1 ≡ false → some_dangles schema first.1 (spec_of schema table) entry.1 ≡ false
    → Together schema first.1 table (with_row rows entry.0 entry.1) more rest → Together schema tables table rows (row ∷ more) (first.0 ++ rest.0, rest.1)
together_more schema tables table rows row more first rest entry is full keys left alone bound t = record {
  full = both_none (lacks_value (is_demanded spec) spec.columns row) (list_any (lacks_value (is_demanded spec) spec.columns) more) full t.full;
  entries = entry ∷ t.entries;
  are = entries_more spec rows row more entry t.entries is t.are;
  keys = ap (λ ks. ks ++ rest.0) keys ∙ ap (λ ks. entry.0 ∷ ks) t.keys;
  left = t.left ∙ whole;
  alone = both_none (repeats_unique spec last entry.0 entry.1) (some_repeats spec last t.entries) (alone_by spec last entry apart) t.alone;
  bound = both_none (some_dangles schema (with_rows tables table last) spec entry.1) (some_written_dangles schema (with_rows tables table last) spec t.entries)
      (ap (λ ts. some_dangles schema ts spec entry.1) (sym whole) ∙ dangle_stays schema first.1 table (with_row rows entry.0 entry.1) t.entries spec entry.1 (ap (λ ts. rows_in ts table) left ∙ rows_found tables table (with_row rows entry.0 entry.1)) bound)
      (ap (λ ts. some_written_dangles schema ts spec t.entries) (sym whole) ∙ t.bound);
}
  where
    spec : TableSpec
    spec = spec_of schema table

    last : Rows
    last = with_all (with_row rows entry.0 entry.1) t.entries

    whole : with_rows first.1 table (with_all (with_row rows entry.0 entry.1) t.entries) ≡ with_rows tables table (with_all (with_row rows entry.0 entry.1) t.entries)
    whole = ap (λ ts. with_rows ts table (with_all (with_row rows entry.0 entry.1) t.entries)) left ∙ put_again tables table (with_row rows entry.0 entry.1) (with_all (with_row rows entry.0 entry.1) t.entries)

    there : In entry (with_all (with_row rows entry.0 entry.1) t.entries)
    there = member_stays (spec_of schema table) (with_row rows entry.0 entry.1) more t.entries entry t.are (in_put rows entry.0 entry.1)

    by : (u : List (List ℕ)) → In u (spec_of schema table).uniques → (o : List Value × List Value) → In o t.entries ⊎ In o (with_row rows entry.0 entry.1) → clash (spec_of schema table) u entry o ≡ false
    by u at o (inl later) =
        clash_turned (spec_of schema table) u entry o
        ∙ alone_at (spec_of schema table) (with_all (with_row rows entry.0 entry.1) t.entries) o
        (all_in (λ o. repeats_unique (spec_of schema table) (with_all (with_row rows entry.0 entry.1) t.entries) o.0 o.1 ≡ false) t.entries o
        (any_none (λ o. repeats_unique (spec_of schema table) (with_all (with_row rows entry.0 entry.1) t.entries) o.0 o.1) t.entries t.alone) later) u at entry there
    by u at o (inr old) = alone_at (spec_of schema table) (with_row rows entry.0 entry.1) entry alone u at o old

    apart : (u : List (List ℕ)) → In u (spec_of schema table).uniques → (o : List Value × List Value) → In o (with_all (with_row rows entry.0 entry.1) t.entries) → clash (spec_of schema table) u entry o ≡ false
    apart u at o here = by u at o (in_written (with_row rows entry.0 entry.1) t.entries o here)

-- ---- one after the other

step : (schema : Catalog) (tables : Tables) (table : TableId) (rows : Rows) (row : List Value) (more : List (List Value)) (answer : List (List Value) × Tables) → rows_in tables table ≡ Some rows
    → one_by_one schema tables table (row ∷ more) ≡ Ok answer
    → ((ts : Tables) (rs : Rows) → rows_in ts table ≡ Some rs → with_rows ts table rs ≡ ts → (ans : List (List Value) × Tables) → one_by_one schema ts table more ≡ Ok ans → Together schema ts table rs more ans)
    → Together schema tables table rows (row ∷ more) answer
step schema tables table rows row more answer found e again =
    let spec : TableSpec = spec_of schema table in
    let one = and_ok (apply schema tables (Insert table (row ∷ []))) (λ first. and_then (one_by_one schema first.1 table more) (λ rest. Ok (first.0 ++ rest.0, rest.1))) answer e in
    let two = and_ok (one_by_one schema one.0.1 table more) (λ rest. Ok (one.0.0 ++ rest.0, rest.1)) answer one.2 in
    let t = together_one schema tables table rows (row ∷ []) one.0 (apply_insert schema tables table rows (row ∷ []) found ∙ one.1) in
    let three = and_ok (entry_of spec rows (with_own_key spec rows row)) (λ entry. and_then (entries_of spec (with_row rows entry.0 entry.1) []) (λ es. Ok (entry ∷ es))) t.entries t.are in
    let entry : List Value × List Value = three.0 in
    let alone_entry : t.entries ≡ entry ∷ [] = sym (same_ok (entry ∷ []) t.entries three.2) in
    let after : Rows = with_row rows entry.0 entry.1 in
    let left : one.0.1 ≡ with_rows tables table after = t.left ∙ ap (λ es. with_rows tables table (with_all rows es)) alone_entry in
    let alone : some_repeats spec (with_all rows (entry ∷ [])) (entry ∷ []) ≡ false = ap (λ es. some_repeats spec (with_all rows es) es) (sym alone_entry) ∙ t.alone in
    let bound : some_written_dangles schema (with_rows tables table after) spec (entry ∷ []) ≡ false = ap (λ es. some_written_dangles schema (with_rows tables table (with_all rows es)) spec es) (sym alone_entry) ∙ t.bound in
    let there : rows_in one.0.1 table ≡ Some after = ap (λ ts. rows_in ts table) left ∙ rows_found tables table after in
    let same : with_rows one.0.1 table after ≡ one.0.1 = ap (λ ts. with_rows ts table after) left ∙ put_again tables table after after ∙ sym left in
    let rest = again one.0.1 after there same two.0 two.1 in
    subst (Together schema tables table rows (row ∷ more)) (same_ok (one.0.0 ++ two.0.0, two.0.1) answer two.2)
    (together_more schema tables table rows row more one.0 two.0 entry three.1 (left_none (lacks_value (is_demanded spec) spec.columns row) t.full) (t.keys ∙ ap keys_of_entries alone_entry) left
    (left_none (repeats_unique spec after entry.0 entry.1) alone) (ap (λ ts. some_dangles schema ts spec entry.1) left ∙ left_none (some_dangles schema (with_rows tables table after) spec entry.1) bound) rest)

together : (schema : Catalog) (tables : Tables) (table : TableId) (rows : Rows) (new : List (List Value)) (answer : List (List Value) × Tables) → rows_in tables table ≡ Some rows → with_rows tables table rows ≡ tables
    → one_by_one schema tables table new ≡ Ok answer → Together schema tables table rows new answer
together schema tables table rows [] answer found same e = record {
  full = refl;
  entries = [];
  are = refl;
  keys = ap (λ p. p.0) (sym (same_ok ([], tables) answer e));
  left = ap (λ p. p.1) (sym (same_ok ([], tables) answer e)) ∙ sym same;
  alone = refl;
  bound = refl;
}
together schema tables table rows (row ∷ more) answer found same e = step schema tables table rows row more answer found e (λ ts rs f s ans is. together schema ts table rs more ans f s is)

pub as_one : (schema : Catalog) (tables : Tables) (table : TableId) (new : List (List Value)) (answer : List (List Value) × Tables) → 0 < length new → one_by_one schema tables table new ≡ Ok answer
    → apply schema tables (Insert table new) ≡ Ok answer
as_one schema tables table [] answer some e = absurd (omega arith)
as_one schema tables table (row ∷ more) answer some e = by (rows_in tables table) refl
  where
    first : (a : List (List Value) × Tables) × (apply schema tables (Insert table (row ∷ [])) ≡ Ok a) × (and_then (one_by_one schema a.1 table more) (λ rest. Ok (a.0 ++ rest.0, rest.1)) ≡ Ok answer)
    first = and_ok (apply schema tables (Insert table (row ∷ []))) (λ first. and_then (one_by_one schema first.1 table more) (λ rest. Ok (first.0 ++ rest.0, rest.1))) answer e

    by : (found : Option Rows) → rows_in tables table ≡ found → apply schema tables (Insert table (row ∷ more)) ≡ Ok answer
    by None none = absurd (no_ok (NoTable table) first.0 (sym (apply_nowhere schema tables (Insert table (row ∷ [])) none) ∙ first.1))
    by (Some rows) found =
        sym (apply_insert schema tables table rows (row ∷ more) found)
        ∙ together_done schema tables table rows (row ∷ more) answer
        (step schema tables table rows row more answer found e (λ ts rs f s ans is. together schema ts table rs more ans f s is))

pub many_as_one : (schema : Catalog) (tables : Tables) (table : TableId) (new : List (List Value)) (answer : List (List Value) × Tables) → IsWellFormed schema (Insert table new) → one_by_one schema tables table new ≡ Ok answer
    → apply schema tables (Insert table new) ≡ Ok answer
many_as_one schema tables table new answer well e = as_one schema tables table new answer well.1.some e

-- ---- what one statement does, done one by one

abbrev unless : {A : Type 0} → Bool → A → Judged A
unless b a = if b then Err Foreign else Ok a

later_same : (schema : Catalog) (tables : Tables) (table : TableId) (there rows entries : Rows) → refers_to_later schema (with_rows tables table there) table rows entries ≡ refers_to_later schema tables table rows entries
later_same schema tables table there rows [] = refl
later_same schema tables table there rows (e ∷ es) =
    ap (λ ts. some_dangles schema ts (spec_of schema table) e.1 || refers_to_later schema (with_rows tables table there) table (with_row rows e.0 e.1) es) (put_again tables table there (with_row rows e.0 e.1))
    ∙ ap (λ b. some_dangles schema (with_rows tables table (with_row rows e.0 e.1)) (spec_of schema table) e.1 || b) (later_same schema tables table there (with_row rows e.0 e.1) es)

none_left : (a : Bool) → a ≡ false → (a || false) ≡ false
none_left a e = ap (λ x. x || false) e

some_left : (a : Bool) → a ≡ true → (a || false) ≡ true
some_left a e = ap (λ x. x || false) e

-- a row of a statement that is accepted is accepted alone, unless it refers to no row yet
accept_one : (schema : Catalog) (tables : Tables) (table : TableId) (rows : Rows) (row : List Value) (entry : List Value × List Value) (b : Bool) → rows_in tables table ≡ Some rows
    → lacks_value (is_demanded (spec_of schema table)) (spec_of schema table).columns row ≡ false → entry_of (spec_of schema table) rows (with_own_key (spec_of schema table) rows row) ≡ Ok entry
    → repeats_unique (spec_of schema table) (with_row rows entry.0 entry.1) entry.0 entry.1 ≡ false
    → some_dangles schema (with_rows tables table (with_row rows entry.0 entry.1)) (spec_of schema table) entry.1 ≡ b
    → apply schema tables (Insert table (row ∷ [])) ≡ unless b (entry.0 ∷ [], with_rows tables table (with_row rows entry.0 entry.1))
accept_one schema tables table rows row entry b found full is alone dangles =
    sym (apply_insert schema tables table rows (row ∷ []) found)
    ∙ insert_full schema tables table rows (row ∷ []) (none_left (lacks_value (is_demanded (spec_of schema table)) (spec_of schema table).columns row) full)
    ∙ ap (λ r. and_then r (λ es. answer_keys (keys_of_entries es) (write_all schema tables table rows es))) (entries_more (spec_of schema table) rows row [] entry [] is refl)
    ∙ by b dangles
  where
    by : (c : Bool) → some_dangles schema (with_rows tables table (with_row rows entry.0 entry.1)) (spec_of schema table) entry.1 ≡ c
        → answer_keys (entry.0 ∷ []) (write_all schema tables table rows (entry ∷ [])) ≡ unless c (entry.0 ∷ [], with_rows tables table (with_row rows entry.0 entry.1))
    by true d =
        ap (answer_keys (entry.0 ∷ []))
        (write_dangles schema tables table rows (entry ∷ []) (none_left (repeats_unique (spec_of schema table) (with_row rows entry.0 entry.1) entry.0 entry.1) alone)
        (some_left (some_dangles schema (with_rows tables table (with_row rows entry.0 entry.1)) (spec_of schema table) entry.1) d))
    by false d =
        ap (answer_keys (entry.0 ∷ []))
        (write_done schema tables table rows (entry ∷ []) (none_left (repeats_unique (spec_of schema table) (with_row rows entry.0 entry.1) entry.0 entry.1) alone)
        (none_left (some_dangles schema (with_rows tables table (with_row rows entry.0 entry.1)) (spec_of schema table) entry.1) d))

-- what is left of a statement once its first row is in
rest_together : (schema : Catalog) (tables : Tables) (table : TableId) (rows : Rows) (row : List Value) (more : List (List Value)) (answer : List (List Value) × Tables) (t : Together schema tables table rows (row ∷ more) answer)
    (entry : List Value × List Value) (entries : Rows) → entries_of (spec_of schema table) (with_row rows entry.0 entry.1) more ≡ Ok entries → entry ∷ entries ≡ t.entries
    → Together schema (with_rows tables table (with_row rows entry.0 entry.1)) table (with_row rows entry.0 entry.1) more (keys_of_entries entries, answer.1)
rest_together schema tables table rows row more answer t entry entries are whole = record {
  full = (or_parts (lacks_value (is_demanded (spec_of schema table)) (spec_of schema table).columns row) (list_any (lacks_value (is_demanded (spec_of schema table)) (spec_of schema table).columns) more) t.full).1;
  entries = entries;
  are = are;
  keys = refl;
  left = t.left ∙ ap (λ es. with_rows tables table (with_all rows es)) (sym whole) ∙ sym again;
  alone = (or_parts (repeats_unique (spec_of schema table) last entry.0 entry.1) (some_repeats (spec_of schema table) last entries) (ap (λ es. some_repeats (spec_of schema table) (with_all rows es) es) whole ∙ t.alone)).1;
  bound = ap (λ ts. some_written_dangles schema ts (spec_of schema table) entries) again
      ∙ (or_parts (some_dangles schema (with_rows tables table last) (spec_of schema table) entry.1) (some_written_dangles schema (with_rows tables table last) (spec_of schema table) entries)
      (ap (λ es. some_written_dangles schema (with_rows tables table (with_all rows es)) (spec_of schema table) es) whole ∙ t.bound)).1;
}
  where
    last : Rows
    last = with_all (with_row rows entry.0 entry.1) entries

    again : with_rows (with_rows tables table (with_row rows entry.0 entry.1)) table (with_all (with_row rows entry.0 entry.1) entries) ≡ with_rows tables table (with_all (with_row rows entry.0 entry.1) entries)
    again = put_again tables table (with_row rows entry.0 entry.1) (with_all (with_row rows entry.0 entry.1) entries)

-- the first row is not like another of the rows with it
first_alone : (schema : Catalog) (tables : Tables) (table : TableId) (rows : Rows) (row : List Value) (more : List (List Value)) (answer : List (List Value) × Tables) (t : Together schema tables table rows (row ∷ more) answer)
    (entry : List Value × List Value) (entries : Rows) → entries_of (spec_of schema table) (with_row rows entry.0 entry.1) more ≡ Ok entries → entry ∷ entries ≡ t.entries
    → repeats_unique (spec_of schema table) (with_row rows entry.0 entry.1) entry.0 entry.1 ≡ false
first_alone schema tables table rows row more answer t entry entries are whole =
    let spec : TableSpec = spec_of schema table in
    let after : Rows = with_row rows entry.0 entry.1 in
    let last : Rows = with_all after entries in
    let one : repeats_unique spec last entry.0 entry.1 ≡ false =
    (or_parts (repeats_unique spec last entry.0 entry.1) (some_repeats spec last entries) (ap (λ es. some_repeats spec (with_all rows es) es) whole ∙ t.alone)).0 in
    alone_by spec after entry (λ u at o here. alone_at spec last entry one u at o (member_stays spec after more entries o are here))

abbrev answered : List (List Value) → Tables → List (List Value) × Tables
answered keys left = (keys, left)

abbrev behind : List (List Value) → List (List Value) × Tables → Outcome
behind keys rest = Ok (keys ++ rest.0, rest.1)

joined : (c : Bool) (key : List Value) (keys : List (List Value)) (left : Tables) → and_then (unless c (answered keys left)) (behind (key ∷ [])) ≡ unless c (answered (key ∷ keys) left)
joined true key keys left = refl
joined false key keys left = refl

then_others : (schema : Catalog) (after : Tables) (table : TableId) (more : List (List Value)) (key : List Value) (keys : List (List Value)) (left : Tables) (d c : Bool) → one_by_one schema after table more ≡ unless c (answered keys left)
    → and_then (unless d (answered (key ∷ []) after)) (λ one. and_then (one_by_one schema one.1 table more) (behind one.0)) ≡ unless (d || c) (answered (key ∷ keys) left)
then_others schema after table more key keys left true c ended = refl
then_others schema after table more key keys left false c ended = ap (λ r. and_then r (behind (key ∷ []))) ended ∙ joined c key keys left

step_back : (schema : Catalog) (tables : Tables) (table : TableId) (rows : Rows) (row : List Value) (more : List (List Value)) (answer : List (List Value) × Tables) → rows_in tables table ≡ Some rows
    → (t : Together schema tables table rows (row ∷ more) answer)
    → ((ts : Tables) (rs : Rows) → rows_in ts table ≡ Some rs → with_rows ts table rs ≡ ts → (ans : List (List Value) × Tables) → Together schema ts table rs more ans
    → (es : Rows) → entries_of (spec_of schema table) rs more ≡ Ok es → one_by_one schema ts table more ≡ unless (refers_to_later schema ts table rs es) ans)
    → one_by_one schema tables table (row ∷ more) ≡ unless (refers_to_later schema tables table rows t.entries) answer
step_back schema tables table rows row more answer found t again =
    let spec : TableSpec = spec_of schema table in
    let first = and_ok (entry_of spec rows (with_own_key spec rows row)) (λ entry. and_then (entries_of spec (with_row rows entry.0 entry.1) more) (λ es. Ok (entry ∷ es))) t.entries t.are in
    let others = and_ok (entries_of spec (with_row rows first.0.0 first.0.1) more) (λ es. Ok (first.0 ∷ es)) t.entries first.2 in
    let whole : first.0 ∷ others.0 ≡ t.entries = same_ok (first.0 ∷ others.0) t.entries others.2 in
    let full : lacks_value (is_demanded spec) spec.columns row ≡ false = (or_parts (lacks_value (is_demanded spec) spec.columns row) (list_any (lacks_value (is_demanded spec) spec.columns) more) t.full).0 in
    let alone = first_alone schema tables table rows row more answer t first.0 others.0 others.1 whole in
    let rest = rest_together schema tables table rows row more answer t first.0 others.0 others.1 whole in
    let after : Tables = with_rows tables table (with_row rows first.0.0 first.0.1) in
    let ended = again after (with_row rows first.0.0 first.0.1) (rows_found tables table (with_row rows first.0.0 first.0.1)) (put_again tables table (with_row rows first.0.0 first.0.1) (with_row rows first.0.0 first.0.1)) (keys_of_entries others.0, answer.1) rest others.0 others.1 in
    let same : (keys_of_entries (first.0 ∷ others.0), answer.1) ≡ answer = (λ i. (keys_of_entries (whole i), answer.1)) ∙ (λ i. (sym t.keys i, answer.1)) in
    ap (λ r. and_then r (λ one. and_then (one_by_one schema one.1 table more) (behind one.0))) (accept_one schema tables table rows row first.0 (some_dangles schema after spec first.0.1) found full first.1 alone refl)
    ∙ then_others schema after table more first.0.0 (keys_of_entries others.0) answer.1 (some_dangles schema after spec first.0.1) (refers_to_later schema after table (with_row rows first.0.0 first.0.1) others.0) ended
    ∙ ap (λ b. unless (some_dangles schema after spec first.0.1 || b) (answered (first.0.0 ∷ keys_of_entries others.0) answer.1)) (later_same schema tables table (with_row rows first.0.0 first.0.1) (with_row rows first.0.0 first.0.1) others.0)
    ∙ (λ i. unless (refers_to_later schema tables table rows (whole i)) (same i))

back : (schema : Catalog) (tables : Tables) (table : TableId) (rows : Rows) (new : List (List Value)) (answer : List (List Value) × Tables) → rows_in tables table ≡ Some rows → with_rows tables table rows ≡ tables
    → Together schema tables table rows new answer → (entries : Rows) → entries_of (spec_of schema table) rows new ≡ Ok entries → one_by_one schema tables table new ≡ unless (refers_to_later schema tables table rows entries) answer
back schema tables table rows [] answer found same t entries are =
    let none : [] ≡ entries = same_ok [] entries are in
    let left : [] ≡ t.entries = same_ok [] t.entries t.are in
    let keys : [] ≡ answer.0 = ap keys_of_entries left ∙ sym t.keys in
    let there : tables ≡ answer.1 = sym same ∙ ap (λ es. with_rows tables table (with_all rows es)) left ∙ sym t.left in
    (λ i. unless (refers_to_later schema tables table rows (none i)) (keys i, there i))
back schema tables table rows (row ∷ more) answer found same t entries are =
    step_back schema tables table rows row more answer found t (λ ts rs f s ans u es is. back schema ts table rs more ans f s u es is)
    ∙ ap (λ es. unless (refers_to_later schema tables table rows es) answer) (same_ok t.entries entries (sym t.are ∙ are))

not_less : 0 < 0 → ⊥
not_less h = omega arith

pub one_as_many : (schema : Catalog) (tables : Tables) (table : TableId) (rows : Rows) (new : List (List Value)) (entries : Rows) (answer : List (List Value) × Tables) → IsWellFormed schema (Insert table new) → rows_in tables table ≡ Some rows
    → entries_of (spec_of schema table) rows new ≡ Ok entries → apply schema tables (Insert table new) ≡ Ok answer
    → one_by_one schema tables table new ≡ (if refers_to_later schema tables table rows entries then Err Foreign else Ok answer)
one_as_many schema tables table rows [] entries answer well found are e = absurd (not_less well.1.some)
one_as_many schema tables table rows (row ∷ more) entries answer well found are e =
    let t = together_one schema tables table rows (row ∷ more) answer (apply_insert schema tables table rows (row ∷ more) found ∙ e) in
    step_back schema tables table rows row more answer found t (λ ts rs f s ans u es is. back schema ts table rs more ans f s u es is)
    ∙ ap (λ es. unless (refers_to_later schema tables table rows es) answer) (same_ok t.entries entries (sym t.are ∙ are))
