-- A row that was taken out: who referred to it referred to its key.
use Rattle.std.proofs.Common.{◌≡◌, Bool, true, false, not, ◌&&◌, ◌||◌, List, [], ◌∷◌, Option, None, Some, is_some, refl, sym, ap, ◌∙◌}
use Rattle.std.specs.declared.cmp.Ordering.TheVariants.{Equal}
use Rattle.std.specs.Ordering.{is_eq}
use Rattle.std.specs.Borrow.{Bor}
use Rattle.std.specs.Option.{option_and_then, unwrap_or}
use Rattle.std.specs.List.{list_any}
use Rattle.std.specs.BTreeMap.{is_at}
use Rattle.std.proofs.lemmas.Cmp.{ranked}
use Rattle.std.proofs.lemmas.Map.Lookups.{CmpEqualImpliesEq}
use Rattle.base_core.specs.declared.ids.TableId.{TableId}
use Rattle.base_core.specs.declared.value.Value.{Value}
use Rattle.base_core.specs.Order.{values_cmp}
use Rattle.schema_core.specs.declared.table.ForeignSpec.{ForeignSpec}
use Rattle.schema_core.specs.declared.table.TableSpec.{TableSpec}
use Rattle.schema_core.specs.Catalog.{Catalog, spec_of, target_of}
use Rattle.schema_core.specs.Judged.{loses_row, some_loses_row}
use Rattle.schema_core.specs.Tables.{Rows, Tables, cells_of, dangles, has_null, has_row, names_row, row_under, rows_in, same_values, table_cmp, with_row, with_rows, without_row}
use Rattle.table_rows.specs.Rows.{Places, rows_present, rows_at}
use Rattle.row_judging.specs.declared.losing.Before.{Before}
use Rattle.row_judging.specs.Lost.{is_lost, is_table, refers_to, some_lost, was_named}
use Rattle.row_judging.specs.declared.losing.Before.TheVariants as before
use Rattle.std.specs.Cmp.{Equal-is}
use Rattle.table_index.proofs.Entered.{same_is}
use Rattle.table_rows.proofs.Entries.{found_put, put_other, removed_other}
use Rattle.base_core.proofs.Exact.{exact_values, values_total}
use Rattle.schema_core.proofs.TableOrder.{tables_total}

exact_tables : CmpEqualImpliesEq table_cmp
exact_tables a b e = ap (λ n. record { 0 = n }) (ranked a.0 b.0 Equal (sym e))

-- ---- one foreign key

-- a key of the table that names no row that is left named the row that was taken out, or none
in_table : (rows : Rows) (key row cells : List Value) (b : Bool) → row_under rows key ≡ Some row → same_values cells key ≡ b → is_some (row_under (without_row rows key) cells) ≡ false → b ≡ is_some (row_under rows cells)
in_table rows key row cells true found same none = sym (ap (λ k. is_some (row_under rows k)) (same_is cells key same) ∙ ap is_some found)
in_table rows key row cells false found same none = sym (ap is_some (sym (removed_other exact_values cells key rows same)) ∙ none)

in_target : (tables : Tables) (table target : TableId) (rows left : Rows) (taken : Bool) (cells : List Value) (b : Bool) → rows_in tables table ≡ Some rows → (is_some (row_under left cells) ≡ false → taken ≡ is_some (row_under rows cells))
    → is_eq (table_cmp target table) ≡ b → has_row cells (rows_in (with_rows tables table left) target) ≡ false → (b && taken) ≡ has_row cells (rows_in tables target)
in_target tables table target rows left taken cells true there known same none =
    let it : target ≡ table = exact_tables target table ((Equal-is (table_cmp target table)).0 same) in
    let gone : has_row cells (rows_in (with_rows tables table left) table) ≡ false = ap (λ t. has_row cells (rows_in (with_rows tables table left) t)) (sym it) ∙ none in
    known (ap (has_row cells) (sym (found_put tables_total table left tables)) ∙ gone)
    ∙ sym (ap (λ t. has_row cells (rows_in tables t)) it ∙ ap (has_row cells) there)
in_target tables table target rows left taken cells false there known same none = sym (ap (has_row cells) (sym (put_other exact_tables target table left tables same)) ∙ none)

by_target : (tables : Tables) (table : TableId) (rows left : Rows) (taken : Bool) (cells : List Value) (target : Option TableId) → rows_in tables table ≡ Some rows → (is_some (row_under left cells) ≡ false → taken ≡ is_some (row_under rows cells))
    → has_row cells (option_and_then (rows_in (with_rows tables table left)) target) ≡ false → (is_table table target && taken) ≡ has_row cells (option_and_then (rows_in tables) target)
by_target tables table rows left taken cells None there known none = refl
by_target tables table rows left taken cells (Some target) there known none = in_target tables table target rows left taken cells (is_eq (table_cmp target table)) there known refl none

where_lost : (a b n l : Bool) → (l ≡ false → a ≡ b) → (a && (n && not l)) ≡ (b && (n && not l))
where_lost a b n false same = ap (λ x. x && (n && not false)) (same refl)
where_lost true true n true same = refl
where_lost false false n true same = refl
where_lost true false true true same = refl
where_lost true false false true same = refl
where_lost false true true true same = refl
where_lost false true false true same = refl

pub any_same : {A : Type 0} (f g : A → Bool) → ((x : A) → f x ≡ g x) → (xs : List A) → list_any f xs ≡ list_any g xs
any_same f g same [] = refl
any_same f g same (x ∷ xs) = ap (λ b. b || list_any f xs) (same x) ∙ ap (λ b. g x || b) (any_same f g same xs)

created_rows : (o : Option Rows) → is_some o ≡ true → o ≡ Some (unwrap_or o [])
created_rows None e = cc
created_rows (Some r) e = refl

-- rows that were taken out of one table, told by their keys
abbrev Tells : Catalog → Before → TableId → (List Value → Bool) → Type 0
Tells schema was table taken = (foreign : ForeignSpec) (cells : List Value) → was_named schema was foreign cells ≡ (refers_to schema foreign table && taken cells)

-- a key that names no row that is left named one before where it is of those that were taken out
abbrev Knows : Rows → Rows → (List Value → Bool) → Type 0
Knows rows left taken = (cells : List Value) → is_some (row_under left cells) ≡ false → taken cells ≡ is_some (row_under rows cells)

one_lost : (schema : Catalog) (was : Before) (tables : Tables) (table : TableId) (rows left : Rows) (taken : List Value → Bool) → Tells schema was table taken → rows_in tables table ≡ Some rows → Knows rows left taken
    → (spec : TableSpec) (r : List Value) (foreign : ForeignSpec) → is_lost schema was (with_rows tables table left) spec r foreign ≡ loses_row schema tables (with_rows tables table left) spec r foreign
one_lost schema was tables table rows left taken tells there knows spec r foreign =
    let cells : List Value = cells_of spec r foreign.columns in
    ap (λ b. b && dangles schema (with_rows tables table left) spec r foreign) (tells foreign cells)
    ∙ where_lost (refers_to schema foreign table && taken cells) (names_row schema tables foreign cells) (not (has_null cells)) (names_row schema (with_rows tables table left) foreign cells)
    (λ none. by_target tables table rows left (taken cells) cells (target_of schema foreign) there (knows cells) none)

all_lost : (schema : Catalog) (was : Before) (tables : Tables) (table : TableId) (rows left : Rows) (taken : List Value → Bool) → Tells schema was table taken → rows_in tables table ≡ Some rows → Knows rows left taken
    → some_lost schema was (with_rows tables table left) ≡ some_loses_row schema tables (with_rows tables table left)
all_lost schema was tables table rows left taken tells there knows =
    let after : Tables = with_rows tables table left in
    any_same (λ c. list_any (λ r. list_any (is_lost schema was after (spec_of schema c.0) r.1) (spec_of schema c.0).foreigns) c.1)
    (λ c. list_any (λ r. list_any (loses_row schema tables after (spec_of schema c.0) r.1) (spec_of schema c.0).foreigns) c.1)
    (λ c. any_same (λ r. list_any (is_lost schema was after (spec_of schema c.0) r.1) (spec_of schema c.0).foreigns) (λ r. list_any (loses_row schema tables after (spec_of schema c.0) r.1) (spec_of schema c.0).foreigns)
    (λ r. any_same (is_lost schema was after (spec_of schema c.0) r.1) (loses_row schema tables after (spec_of schema c.0) r.1)
    (λ foreign. one_lost schema was tables table rows left taken tells there knows (spec_of schema c.0) r.1 foreign) (spec_of schema c.0).foreigns) c.1) after

pub lost_alone : (schema : Catalog) (tables after : Tables) (table : TableId) (key : Bor (List Value)) (row : List Value) → is_some (rows_in tables table) ≡ true → row_under (rows_at tables table) key.now ≡ Some row
    → after ≡ with_rows tables table (without_row (rows_at tables table) key.now) → some_lost schema (before.Row table key) after ≡ some_loses_row schema tables after
lost_alone schema tables after table key row created found is =
    ap (some_lost schema (before.Row table key)) is
    ∙ all_lost schema (before.Row table key) tables table (rows_at tables table) (without_row (rows_at tables table) key.now) (λ cells. same_values cells key.now) (λ foreign cells. refl) (created_rows (rows_in tables table) created)
    (λ cells none. in_table (rows_at tables table) key.now row cells (same_values cells key.now) found refl none)
    ∙ ap (some_loses_row schema tables) (sym is)

-- rows that were taken out: each row that was there is left, or is one of them
pub lost_among : (schema : Catalog) (tables after : Tables) (table : TableId) (gone : Bor Places) (left : Rows) → is_some (rows_in tables table) ≡ true
    → ((cells : List Value) → is_some (row_under (rows_at tables table) cells) ≡ (is_some (row_under left cells) || is_some (row_under (rows_present gone.now) cells)))
    → after ≡ with_rows tables table left → some_lost schema (before.Rows table gone) after ≡ some_loses_row schema tables after
lost_among schema tables after table gone left created divided is =
    ap (some_lost schema (before.Rows table gone)) is
    ∙ all_lost schema (before.Rows table gone) tables table (rows_at tables table) left (λ cells. is_some (row_under (rows_present gone.now) cells)) (λ foreign cells. refl) (created_rows (rows_in tables table) created)
    (λ cells none. sym (divided cells ∙ ap (λ b. b || is_some (row_under (rows_present gone.now) cells)) none))
    ∙ ap (some_loses_row schema tables) (sym is)

or_true : (b : Bool) → (b || true) ≡ true
or_true true = refl
or_true false = refl

-- one row more was taken out
pub divided_more : (rows left gone : Rows) (key row : List Value) (cells : List Value) → is_some (row_under rows cells) ≡ (is_some (row_under left cells) || is_some (row_under gone cells)) → is_some (row_under left key) ≡ true
    → is_some (row_under rows cells) ≡ (is_some (row_under (without_row left key) cells) || is_some (row_under (with_row gone key row) cells))
divided_more rows left gone key row cells divided there = divided ∙ at (is_at (values_cmp cells) key) refl
  where
    at : (b : Bool) → is_at (values_cmp cells) key ≡ b → (is_some (row_under left cells) || is_some (row_under gone cells)) ≡ (is_some (row_under (without_row left key) cells) || is_some (row_under (with_row gone key row) cells))
    at true same =
        let it : cells ≡ key = same_is cells key same in
        ap (λ b. b || is_some (row_under gone cells)) (ap (λ k. is_some (row_under left k)) it ∙ there)
        ∙ sym (or_true (is_some (row_under (without_row left key) cells)))
        ∙ ap (λ b. is_some (row_under (without_row left key) cells) || b) (sym (ap (λ k. is_some (row_under (with_row gone key row) k)) it ∙ ap is_some (found_put values_total key row gone)))
    at false other =
        ap (λ o. is_some o || is_some (row_under gone cells)) (sym (removed_other exact_values cells key left other))
        ∙ ap (λ o. is_some (row_under (without_row left key) cells) || is_some o) (sym (put_other exact_values cells key row gone other))
