-- Declared tables have distinct names, and so have their columns.
use Rattle.std.proofs.Common.{◌≡◌, ℕ, suc, ◌+◌, ◌<◌, Bool, true, false, not, cond, ◌||◌, List, [], ◌∷◌, map, length, take, Option, Some, None, refl, sym, ◌∙◌, arith}
use Rattle.std.specs.Prelude.{slice_index_or, is_some, nat_lt}
use Rattle.std.specs.List.{list_all, list_any, position_or_len}
use Rattle.std.specs.Option.{option_map}
use Rattle.std.proofs.lemmas.Bool.{and_from, or_parts, or_from, not-false, not_from_false, lt-ltb, le-ltb, ltb-true, ltb-false}
use Rattle.base_core.specs.declared.ids.TableId.{TableId}
use Rattle.base_core.specs.declared.refusal.ArgumentKind.TheVariants.{DuplicateName, UnknownColumn, NoPrimaryKey, SharedColumn}
use Rattle.schema_core.specs.declared.table.ColumnSpec.{ColumnSpec}
use Rattle.schema_core.specs.declared.table.TableSpec.{TableSpec}
use Rattle.schema_core.specs.Catalog.{find_table, has_name, no_table, same_name}
use Rattle.schema_core.specs.Declaration.{declaration_fault, has_key, lists_unknown, repeats_name, shares_column, some_list, some_two}
use Rattle.sql_semantics.specs.Plain.{are_distinct}
use Rattle.sql_semantics.specs.DistinctNames.{has_distinct_columns}
use Rattle.script_laws.proofs.Texts.Readings.Places.{unlike}
use Rattle.script_laws.specs.Texts.Statements.{DeclaredNamesAreDistinct}

-- ---- a table that was taken

unchecked : {A : Type 0} (x y z w : A) (a b c d : Bool) → ◌≡◌ {A = Option A} (cond a (Some x) (cond b (Some y) (cond c (Some z) (cond d (Some w) None)))) None → (a ≡ false) × (c ≡ false)
unchecked x y z w true b c d e = absurd (cc)
unchecked x y z w false true c d e = absurd (cc)
unchecked x y z w false false true d e = absurd (cc)
unchecked x y z w false false false d e = (refl, refl)

-- ---- columns

other_columns : (columns : List ColumnSpec) (c : ColumnSpec) → list_any (λ later. same_name later.name c.name) columns ≡ false → has_name (map (λ column. column.name) columns) c.name ≡ false
other_columns [] c h = refl
other_columns (d ∷ ds) c h =
    let both = or_parts (same_name d.name c.name) (list_any (λ (later : ColumnSpec). same_name later.name c.name) ds) h in
    or_from (same_name d.name c.name) (has_name (map (λ (column : ColumnSpec). column.name) ds) c.name) both.0 (other_columns ds c both.1)

columns_apart : (columns : List ColumnSpec) → some_two (λ one other. same_name one.name other.name) columns ≡ false → are_distinct (map (λ column. column.name) columns) ≡ true
columns_apart [] h = refl
columns_apart (c ∷ cs) h =
    let both = or_parts (list_any (λ (later : ColumnSpec). same_name later.name c.name) cs) (some_two (λ (one other : ColumnSpec). same_name one.name other.name) cs) h in
    and_from (not (has_name (map (λ (column : ColumnSpec). column.name) cs) c.name)) (are_distinct (map (λ (column : ColumnSpec). column.name) cs))
    (not_from_false (has_name (map (λ (column : ColumnSpec). column.name) cs) c.name) (other_columns cs c both.0)) (columns_apart cs both.1)

keyed : (columns : List ColumnSpec) → list_any (λ column. column.key) columns ≡ true → nat_lt 0 (length columns) ≡ true
keyed [] h = absurd (cc)
keyed (c ∷ cs) h = lt-ltb 0 (suc (length cs)) (omega arith)

-- ---- tables

next_below : (m n : ℕ) → nat_lt (1 + m) (suc n) ≡ nat_lt m n
next_below m n = by (nat_lt m n) refl
  where
    by : (b : Bool) → nat_lt m n ≡ b → nat_lt (1 + m) (suc n) ≡ b
    by true is = let l : m < n = ltb-true m n is in lt-ltb (1 + m) (suc n) (omega arith)
    by false is = let l = ltb-false m n is in le-ltb (1 + m) (suc n) (omega arith)

found : {A : Type 0} (p : A → Bool) (xs : List A) → nat_lt (position_or_len p xs) (length xs) ≡ list_any p xs
found p [] = refl
found p (x ∷ xs) = by (p x) (found p xs)
  where
    by : (b : Bool) → nat_lt (position_or_len p xs) (length xs) ≡ list_any p xs → nat_lt (cond (not b) (1 + position_or_len p xs) 0) (suc (length xs)) ≡ (b || list_any p xs)
    by true rec = lt-ltb 0 (suc (length xs)) (omega arith)
    by false rec = next_below (position_or_len p xs) (length xs) ∙ rec

some_is : {A B : Type 0} (f : A → B) (x : A) (b : Bool) → is_some (option_map f (cond b (Some x) None)) ≡ b
some_is f x true = refl
some_is f x false = refl

abbrev numbered : ℕ → TableId
numbered place = record { 0 = place }

found_table : (tables : List TableSpec) (name : List ℕ) → is_some (find_table tables name) ≡ list_any (λ spec. same_name spec.name name) tables
found_table tables name =
    some_is numbered (position_or_len (λ (spec : TableSpec). same_name spec.name name) tables) (nat_lt (position_or_len (λ (spec : TableSpec). same_name spec.name name) tables) (length tables))
    ∙ found (λ (spec : TableSpec). same_name spec.name name) tables

-- no table has the name of one before it
abbrev Apart : List TableSpec → Type 0
Apart tables = (i : ℕ) → i < length tables → list_any (λ spec. same_name spec.name (slice_index_or tables i no_table).name) (take i tables) ≡ false

none_named : (name : List ℕ) (tables : List TableSpec) → ((i : ℕ) → i < length tables → same_name name (slice_index_or tables i no_table).name ≡ false) → has_name (map (λ spec. spec.name) tables) name ≡ false
none_named name [] h = refl
none_named name (s ∷ ss) h =
    or_from (same_name s.name name) (has_name (map (λ (spec : TableSpec). spec.name) ss) name) (unlike name s.name (h 0 (omega arith))) (none_named name ss (λ i l. h (suc i) (omega arith)))

tables_apart : (tables : List TableSpec) → Apart tables → are_distinct (map (λ spec. spec.name) tables) ≡ true
tables_apart [] h = refl
tables_apart (s ∷ ss) h =
    let parts : (i : ℕ) → i < length ss → (same_name s.name (slice_index_or ss i no_table).name ≡ false) × (list_any (λ (spec : TableSpec). same_name spec.name (slice_index_or ss i no_table).name) (take i ss) ≡ false) =
    λ i l. or_parts (same_name s.name (slice_index_or ss i no_table).name) (list_any (λ (spec : TableSpec). same_name spec.name (slice_index_or ss i no_table).name) (take i ss)) (h (suc i) (omega arith)) in
    and_from (not (has_name (map (λ (spec : TableSpec). spec.name) ss) s.name)) (are_distinct (map (λ (spec : TableSpec). spec.name) ss))
    (not_from_false (has_name (map (λ (spec : TableSpec). spec.name) ss) s.name) (none_named s.name ss (λ i l. (parts i l).0))) (tables_apart ss (λ i l. (parts i l).1))

each_passes : {A : Type 0} (p : A → Bool) (d : A) (xs : List A) → ((i : ℕ) → i < length xs → p (slice_index_or xs i d) ≡ true) → list_all p xs ≡ true
each_passes p d [] h = refl
each_passes p d (x ∷ xs) h = and_from (p x) (list_all p xs) (h 0 (omega arith)) (each_passes p d xs (λ i l. h (suc i) (omega arith)))

-- ---- the whole

record Taken (tables : List TableSpec) (spec : TableSpec) : Type 0 where
  name_is_free : list_any (λ other. same_name other.name spec.name) tables ≡ false
  columns_are_apart : some_two (λ one other. same_name one.name other.name) spec.columns ≡ false
  keyed_columns : list_any (λ column. column.key) spec.columns ≡ true

taken : (tables : List TableSpec) (spec : TableSpec) → declaration_fault tables spec ≡ None → Taken tables spec
unfolding declaration_fault
taken tables spec e =
    let both = unchecked DuplicateName UnknownColumn NoPrimaryKey SharedColumn (repeats_name tables spec) (lists_unknown spec) (not (has_key spec)) (shares_column spec) e in
    let names = or_parts (is_some (find_table tables spec.name) || some_two (λ (one other : ColumnSpec). same_name one.name other.name) spec.columns) (some_list (some_two same_name) spec) both.0 in
    let own = or_parts (is_some (find_table tables spec.name)) (some_two (λ (one other : ColumnSpec). same_name one.name other.name) spec.columns) names.0 in
    record { name_is_free = sym (found_table tables spec.name) ∙ own.0; columns_are_apart = own.1; keyed_columns = not-false (has_key spec) both.1 }

pub declared_names_are_distinct : DeclaredNamesAreDistinct
declared_names_are_distinct schema declared =
    let each : (i : ℕ) → i < length schema.tables → Taken (take i schema.tables) (slice_index_or schema.tables i no_table) =
    λ i l. taken (take i schema.tables) (slice_index_or schema.tables i no_table) (declared.faultless i l) in (
      and_from (are_distinct (map (λ (spec : TableSpec). spec.name) schema.tables)) (list_all has_distinct_columns schema.tables) (tables_apart schema.tables (λ i l. (each i l).name_is_free))
          (each_passes has_distinct_columns no_table schema.tables (λ i l. columns_apart (slice_index_or schema.tables i no_table).columns (each i l).columns_are_apart)),
      each_passes (λ (spec : TableSpec). nat_lt 0 (length spec.columns)) no_table schema.tables (λ i l. keyed (slice_index_or schema.tables i no_table).columns (each i l).keyed_columns),
    )
