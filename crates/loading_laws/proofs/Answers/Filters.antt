-- Selects that also ask for keys answer filters of what they answer without.
use Rattle.std.proofs.Common.{◌≡◌, ℕ, Bool, true, false, ◌&&◌, ◌||◌, List, [], ◌∷◌, ◌++◌, map, filter, Option, None, Some, Ok, if◌then◌else◌, is_some, refl, sym, ap, ◌∙◌}
use Rattle.std.specs.List.{AllByRecursion, list_any}
use Rattle.base_core.specs.declared.ids.ClassId.{ClassId}
use Rattle.base_core.specs.declared.ids.TableId.{TableId}
use Rattle.base_core.specs.declared.value.Value.{Value}
use Rattle.schema_core.specs.Catalog.{Catalog}
use Rattle.schema_core.specs.Tables.{same_values}
use Rattle.expr_types.specs.declared.expr.Expr.{Expr}
use Rattle.sql_semantics.specs.Checked.{Checked}
use Rattle.sql_semantics.specs.Eval.{Row, Tables}
use Rattle.sql_semantics.specs.Rows.{Frame, answer, sources}
use Rattle.class_mapping.specs.Mapped.{Mapped, class_spec, root_table}
use Rattle.load_columns.specs.declared.placing.Placement.{Placement}
use Rattle.load_columns.specs.declared.placing.SourceColumn.{SourceColumn}
use Rattle.load_columns.specs.Conditions.{has_one_of, has_values, is_in}
use Rattle.load_columns.specs.Placing.{attribute_columns, from_root}
use Rattle.load_selects.specs.declared.sources.Further.{Further}
use Rattle.load_selects.specs.Branches.{discriminator_column, discriminator_of, identities, is_of_branch, names_branch}
use Rattle.load_selects.specs.Selects.{class_rows, select_of}
use Rattle.load_selects.specs.Sources.{other_tables}
use Rattle.loading_laws.specs.Answers.Equal.{are_equal, equals_key}
use Rattle.loading_laws.specs.Answers.Answers.{AreRowsOf, IsKeyOf, Reads, value_at, values_at}
use Rattle.loading_laws.proofs.Answers.Totals.{filter_map, filter_same, filter_twice}
use Rattle.loading_laws.proofs.Answers.Values.{equals_known}
use Rattle.loading_laws.proofs.Answers.Conditions.{AreLong, AreTests, equals_some, in_one, key_tests, keys_tests, no_tests, one_test}
use Rattle.loading_laws.proofs.Answers.Answered.{answer_is}

same_found : (r : Checked (Frame × List Row)) (x y : Frame × List Row) → r ≡ Ok x → r ≡ Ok y → x ≡ y
same_found r x y p q = cc

-- ---- any conditions

-- conditions that are sure: at each row they have values, and all pass where a test is true
abbrev AreSure : List Expr → Type 0
AreSure conditions = (holds : Frame → Row → Bool) × ((f : Frame) → AreTests f conditions (holds f))

module _ (schema : Catalog) (tables : Tables) (first : TableId) (further : List Further) (items columns : List SourceColumn) (read : Row → List Value) (conditions : List Expr) (sure : AreSure conditions) (reads : Reads items columns read) where
  -- what a further test keeps of the rows
  filtered : (extra : List Expr) (asked : List Value → Bool) (all rows : List Row) → ((f : Frame) → AreTests f (extra ++ conditions) (λ row. asked (values_at f columns row) && sure.0 f row))
      → answer schema tables (select_of first further items conditions) ≡ Ok all → answer schema tables (select_of first further items (extra ++ conditions)) ≡ Ok rows
      → rows ≡ filter (λ row. asked (read row)) all
  unfolding sources
  filtered extra asked all rows tests whole some =
      let one = answer_is first further items conditions schema tables sure.0 sure.1 all whole in
      let two = answer_is first further items (extra ++ conditions) schema tables (λ f row. asked (values_at f columns row) && sure.0 f row) tests rows some in
      let from : two.0 ≡ one.0 = same_found (sources schema tables (select_of first further items conditions)) two.0 one.0 two.1 one.1 in
      let f : Frame = one.0.0 in
      two.2
      ∙ ap (λ (found : Frame × List Row). map (values_at found.0 items) (filter (λ row. asked (values_at found.0 columns row) && sure.0 found.0 row) found.1)) from
      ∙ ap (map (values_at f items)) (sym (filter_twice (λ row. asked (values_at f columns row)) (sure.0 f) one.0.1))
      ∙ ap (map (values_at f items)) (filter_same (λ row. asked (values_at f columns row)) (λ row. asked (read (values_at f items row))) (filter (sure.0 f) one.0.1) (λ row. ap asked (sym (reads.same f row))))
      ∙ sym (filter_map (λ row. asked (read row)) (values_at f items) (filter (sure.0 f) one.0.1))
      ∙ sym (ap (filter (λ row. asked (read row))) one.2)

  -- the rows that hold a key
  keyed_filtered : (key : List Value) (all rows : List Row) → answer schema tables (select_of first further items conditions) ≡ Ok all
      → answer schema tables (select_of first further items (has_values columns key ++ conditions)) ≡ Ok rows → rows ≡ filter (λ row. equals_key (read row) key) all
  keyed_filtered key all rows whole some = filtered (has_values columns key) (λ values. equals_key values key) all rows (λ f. key_tests f columns key conditions (sure.0 f) (sure.1 f)) whole some

  -- those that hold one of some keys
  some_filtered : (keys : List (List Value)) (all rows : List Row) → AreLong columns keys → answer schema tables (select_of first further items conditions) ≡ Ok all
      → answer schema tables (select_of first further items (has_one_of columns keys ++ conditions)) ≡ Ok rows → rows ≡ filter (λ row. equals_some keys (read row)) all
  some_filtered keys all rows long whole some = filtered (has_one_of columns keys) (equals_some keys) all rows (λ f. keys_tests f columns keys conditions (sure.0 f) long (sure.1 f)) whole some

-- ---- the rows of a class

nothing_sure : AreSure []
nothing_sure = (λ f row. true, λ f. no_tests f)

branch_by : (mapped : Mapped) (class : ClassId) (placement : Placement) (name : Option (List ℕ)) → AreSure (names_branch mapped class placement name)
branch_by mapped class placement None = nothing_sure
branch_by mapped class placement (Some name) =
    let place : SourceColumn = discriminator_column mapped class placement name in
    let values : List Value = identities mapped class in (
      λ f row. list_any (λ v. are_equal (value_at f row place, v)) values && true,
      λ f. one_test f (is_in place values) [] (λ row. list_any (λ v. are_equal (value_at f row place, v)) values) (λ row. true) (in_one f place values) (no_tests f),
    )

branch_or : (mapped : Mapped) (class : ClassId) (placement : Placement) (b : Bool) → AreSure (if b then [] else names_branch mapped class placement (discriminator_of mapped class))
branch_or mapped class placement true = nothing_sure
branch_or mapped class placement false = branch_by mapped class placement (discriminator_of mapped class)

-- the condition on the discriminator is sure
branch_sure : (mapped : Mapped) (class : ClassId) (placement : Placement) → AreSure (is_of_branch mapped class placement)
branch_sure mapped class placement = branch_or mapped class placement (is_some (class_spec mapped class).table)

keys_long : (columns : List SourceColumn) (keys : List (List Value)) → AllByRecursion (IsKeyOf columns) keys → AreLong columns keys
keys_long columns [] are = tt
keys_long columns (key ∷ keys) are = (are.0.long, keys_long columns keys are.1)

-- values that equal a key are the same as the key
key_same : (columns : List SourceColumn) (items : List SourceColumn) (read : Row → List Value) (key : List Value) (row : Row) → Reads items columns read → IsKeyOf columns key → equals_key (read row) key ≡ same_values (read row) key
key_same columns items read key row reads is = equals_known (read row) key (reads.long row ∙ is.long) is.known

some_same : (columns : List SourceColumn) (items : List SourceColumn) (read : Row → List Value) (keys : List (List Value)) (row : Row) → Reads items columns read → AllByRecursion (IsKeyOf columns) keys
    → equals_some keys (read row) ≡ list_any (same_values (read row)) keys
some_same columns items read [] row reads are = refl
some_same columns items read (key ∷ keys) row reads are =
    ap (λ (b : Bool). b || equals_some keys (read row)) (key_same columns items read key row reads are.0) ∙ ap (λ (b : Bool). same_values (read row) key || b) (some_same columns items read keys row reads are.1)

pub rows_of_key : (mapped : Mapped) (class : ClassId) (tables : Tables) (columns : List SourceColumn) (read : Row → List Value) (key : List Value) (all rows : List Row) → Reads (attribute_columns mapped class (from_root 0)) columns read
    → IsKeyOf columns key → AreRowsOf mapped class tables all → answer mapped.schema tables (class_rows mapped class (has_values columns key)) ≡ Ok rows → rows ≡ filter (λ row. same_values (read row) key) all
rows_of_key mapped class tables columns read key all rows reads is whole some =
    keyed_filtered mapped.schema tables (root_table mapped class) (other_tables mapped class (from_root 0)) (attribute_columns mapped class (from_root 0)) columns read (is_of_branch mapped class (from_root 0)) (branch_sure mapped class (from_root 0)) reads
    key all rows whole some
    ∙ filter_same (λ row. equals_key (read row) key) (λ row. same_values (read row) key) all (λ row. key_same columns (attribute_columns mapped class (from_root 0)) read key row reads is)

pub rows_of_keys : (mapped : Mapped) (class : ClassId) (tables : Tables) (columns : List SourceColumn) (read : Row → List Value) (keys : List (List Value)) (all rows : List Row) → Reads (attribute_columns mapped class (from_root 0)) columns read
    → AllByRecursion (IsKeyOf columns) keys → AreRowsOf mapped class tables all → answer mapped.schema tables (class_rows mapped class (has_one_of columns keys)) ≡ Ok rows
    → rows ≡ filter (λ row. list_any (same_values (read row)) keys) all
rows_of_keys mapped class tables columns read keys all rows reads are whole some =
    some_filtered mapped.schema tables (root_table mapped class) (other_tables mapped class (from_root 0)) (attribute_columns mapped class (from_root 0)) columns read (is_of_branch mapped class (from_root 0)) (branch_sure mapped class (from_root 0)) reads
    keys all rows (keys_long columns keys are) whole some
    ∙ filter_same (λ row. equals_some keys (read row)) (λ row. list_any (same_values (read row)) keys) all (λ row. some_same columns (attribute_columns mapped class (from_root 0)) read keys row reads are)
