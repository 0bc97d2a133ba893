-- What a select over inner joins answers: a row for each choice of one row of each source whose columns are tied and which passes.
use Rattle.std.proofs.Common.{◌≡◌, inr, inl, ℕ, zero, suc, ◌+◌, ◌<◌, ◌==◌, Bool, true, false, ◌&&◌, List, [], ◌∷◌, ◌++◌, filter, length, map, Option, None, Some, Ok, if◌then◌else◌, is_some, refl, sym, ap, subst, ◌∙◌, arith, append_assoc, append-nil}
use Rattle.std.specs.Prelude.{slice_get}
use Rattle.std.specs.Cmp.Lexicographic.{pointwise}
use Rattle.std.specs.Option.{option_and_then}
use Rattle.std.specs.List.{AllByRecursion, flat_map, list_all}
use Rattle.std.proofs.lemmas.Bool.{and_parts, eq-eqb, eqb-true, ne_eqb}
use Rattle.std.proofs.lemmas.List.{length-append, map-append}
use Rattle.std.proofs.lemmas.Option.{slice_get_within}
use Rattle.base_core.specs.declared.ids.ColumnNo.{ColumnNo}
use Rattle.base_core.specs.declared.ids.TableId.{TableId}
use Rattle.base_core.specs.declared.value.Value.{Value}
use Rattle.base_core.proofs.Lists.{get_after, get_before}
use Rattle.schema_core.specs.declared.table.ColumnSpec.{ColumnSpec}
use Rattle.schema_core.specs.declared.table.TableSpec.{TableSpec}
use Rattle.schema_core.specs.Catalog.{Catalog, spec_of}
use Rattle.schema_core.specs.WellFormed.{is_row, may_hold}
use Rattle.expr_types.specs.declared.expr.CompareOp.TheVariants as op
use Rattle.expr_types.specs.declared.expr.Expr.{Expr}
use Rattle.expr_types.specs.declared.expr.Expr.TheVariants as expr
use Rattle.expr_types.specs.declared.expr.Origin.{Origin}
use Rattle.expr_types.specs.declared.select.Joined.{Joined}
use Rattle.sql_semantics.specs.Checked.{Checked, ◌>>=◌}
use Rattle.sql_semantics.specs.Eval.{Meaning, Place, Row, Tables, after, comparison_truth, item_or_null, meaning_of, rows_in, truth, two}
use Rattle.sql_semantics.specs.Kinds.{Scope, column_in}
use Rattle.sql_semantics.specs.Plain.{AreJoined, IfSet, IsFilter, IsPlainSelect, StandsIn, fits, sources_of}
use Rattle.sql_semantics.specs.Rows.{Frame, answer, at, condition, each_from, joined_all, joined_row, kept_from, or_nulls, rows_of_join, sources, wider, width}
use Rattle.sql_semantics.specs.Shapes.{AreRows}
use Rattle.sql_semantics.specs.Truth.{all3, passes, value_of}
use Rattle.sql_semantics.proofs.Equations.{evaluated-Compare, fits-And, fits-Column, fits-Compare}
use Rattle.class_mapping.proofs.Having.{Has, from_filter, from_flat, from_map, has_filter, has_flat, has_map}
use Rattle.load_columns.specs.declared.placing.SourceColumn.{SourceColumn}
use Rattle.load_columns.specs.Conditions.{all_of as all_conditions, conjoined, equal_column, equal_columns}
use Rattle.load_selects.specs.declared.sources.Further.{Further}
use Rattle.load_selects.specs.Selects.{inner_joined, item_of, origin_of, select_of}
use Rattle.loading_laws.specs.Answers.Answers.{value_at, values_at}
use Rattle.loading_laws.specs.Answers.Equal.{are_equal, equals_key}
use Rattle.loading_laws.proofs.Answers.Answered.{answer_is}
use Rattle.loading_laws.proofs.Answers.Conditions.{AreTests, IsOne, no_tests, one_test, rows_of_tests}
use Rattle.loading_laws.proofs.Answers.Totals.{kept_where}
use Rattle.loading_laws.proofs.Answers.Values.{all_pass, all_value, column_value, equal_passes, equal_value}

-- ---- lists

pub every_has : {A : Type 0} (P : A → Type 0) (xs : List A) (x : A) → AllByRecursion P xs → Has xs x → P x
every_has P [] x all there = absurd there
every_has P (y ∷ xs) x all (inl e) = subst P e all.0
every_has P (y ∷ xs) x all (inr there) = every_has P xs x all.1 there

pub pointwise_long : {A B : Type 0} (test : A → B → Bool) (xs : List A) (ys : List B) → pointwise test xs ys ≡ true → length ys ≡ length xs
pointwise_long test [] [] h = refl
pointwise_long test [] (y ∷ ys) h = absurd cc
pointwise_long test (x ∷ xs) [] h = absurd cc
pointwise_long test (x ∷ xs) (y ∷ ys) h = ap suc (pointwise_long test xs ys (and_parts (test x y) (pointwise test xs ys) h).1)

-- ---- choices

-- one row for each source
abbrev pub Choice : Type 0
Choice = ℕ → Row

-- what a choice has in a column
abbrev pub chosen : Choice → SourceColumn → Value
chosen rows column = item_or_null (slice_get (rows column.source) column.column.0)

-- a table that is joined where some columns equal others, one by one
pub record Tie : Type 0 where
  pub table : TableId
  pub ones : List SourceColumn
  pub others : List SourceColumn

abbrev pub joined_where : Tie → Further
joined_where tie = record { table = tie.table; on = equal_columns tie.ones tie.others }

abbrev pub are_tied : Choice → Tie → Bool
are_tied rows tie = equals_key (map (chosen rows) tie.ones) (map (chosen rows) tie.others)

-- what holds of each tie and of the place of its source, from a place on
abbrev pub EachPlaced : (ℕ → Tie → Type 0) → ℕ → List Tie → Type 0
EachPlaced P place [] = Unit {0}
EachPlaced P place (tie ∷ ties) = P place tie × EachPlaced P (place + 1) ties

pub placed_split : (P : ℕ → Tie → Type 0) (place : ℕ) (ones others : List Tie) → EachPlaced P place (ones ++ others) → EachPlaced P place ones × EachPlaced P (place + length ones) others
placed_split P place [] others each = let same : place ≡ place + 0 = omega arith in (tt, subst (λ (p : ℕ). EachPlaced P p others) same each)
placed_split P place (tie ∷ ones) others each =
    let rest = placed_split P (place + 1) ones others each.1 in
    let same : place + 1 + length ones ≡ place + suc (length ones) = omega arith in
    ((each.0, rest.0), subst (λ (p : ℕ). EachPlaced P p others) same rest.1)

pub placed_join : (P : ℕ → Tie → Type 0) (place : ℕ) (ones others : List Tie) → EachPlaced P place ones → EachPlaced P (place + length ones) others → EachPlaced P place (ones ++ others)
placed_join P place [] others each more = let same : place + 0 ≡ place = omega arith in subst (λ (p : ℕ). EachPlaced P p others) same more
placed_join P place (tie ∷ ones) others each more =
    let same : place + suc (length ones) ≡ place + 1 + length ones = omega arith in
    (each.0, placed_join P (place + 1) ones others each.1 (subst (λ (p : ℕ). EachPlaced P p others) same more))

-- the source at a place gives one of its rows, and is tied
abbrev pub Meet : Tables → Choice → ℕ → Tie → Type 0
Meet tables rows place tie = Has (rows_in tables tie.table.0) (rows place) × (are_tied rows tie ≡ true)

-- each source from a place on does
abbrev pub Meets : Tables → Choice → ℕ → List Tie → Type 0
Meets tables rows place ties = EachPlaced (Meet tables rows) place ties

-- the sources have the column
abbrev pub IsInside : Catalog → List TableId → SourceColumn → Type 0
IsInside schema scope column = (spec : ColumnSpec) × (column_in schema scope column.source column.column ≡ Some spec)

abbrev pub PairsInside : Catalog → List TableId → List SourceColumn → List SourceColumn → Type 0
PairsInside schema scope [] others = Unit {0}
PairsInside schema scope (one ∷ ones) [] = Unit {0}
PairsInside schema scope (one ∷ ones) (other ∷ others) = (IsInside schema scope one × IsInside schema scope other) × PairsInside schema scope ones others

-- the columns of each tie are those of the sources up to its own
abbrev pub AreInside : Catalog → List TableId → List Tie → Type 0
AreInside schema scope [] = Unit {0}
AreInside schema scope (tie ∷ ties) = PairsInside schema (scope ++ tie.table ∷ []) tie.ones tie.others × AreInside schema (scope ++ tie.table ∷ []) ties

-- the choice with another row at a place
abbrev pub with_row : Choice → ℕ → Row → Choice
with_row rows place row = λ k. if k == place then row else rows k

pub put_there : (rows : Choice) (place : ℕ) (row : Row) → with_row rows place row place ≡ row
put_there rows place row = ap (λ (b : Bool). if b then row else rows place) (eq-eqb place place refl)

pub put_elsewhere : (rows : Choice) (place : ℕ) (row : Row) (k : ℕ) → k < place → with_row rows place row k ≡ rows k
put_elsewhere rows place row k less = ap (λ (b : Bool). if b then row else rows k) (ne_eqb k place (λ same. omega (arith, same, less)))

-- ---- the rows of a choice in one

abbrev glued : Choice → ℕ → List TableId → Row
glued rows place [] = []
glued rows place (table ∷ more) = rows place ++ glued rows (place + 1) more

glued_more : (rows : Choice) (place : ℕ) (scope : List TableId) (table : TableId) → glued rows place (scope ++ table ∷ []) ≡ glued rows place scope ++ rows (place + length scope)
glued_more rows place [] table = let same : place ≡ place + 0 = omega arith in append-nil (rows place) ∙ ap rows same
glued_more rows place (first ∷ scope) table =
    let same : place + 1 + length scope ≡ place + suc (length scope) = omega arith in
    ap (λ (row : Row). rows place ++ row) (glued_more rows (place + 1) scope table)
    ∙ sym (append_assoc (rows place) (glued rows (place + 1) scope) (rows (place + 1 + length scope)))
    ∙ ap (λ (n : ℕ). (rows place ++ glued rows (place + 1) scope) ++ rows n) same

glued_same : (one other : Choice) (place : ℕ) (scope : List TableId) → ((k : ℕ) → k < place + length scope → other k ≡ one k) → glued other place scope ≡ glued one place scope
glued_same one other place [] same = refl
glued_same one other place (first ∷ scope) same =
    ap (λ (row : Row). row ++ glued other (place + 1) scope) (same place (omega arith))
    ∙ ap (λ (row : Row). one place ++ row) (glued_same one other (place + 1) scope (λ k less. same k (omega (arith, less))))

module _ (schema : Catalog) where
  abbrev width_of : TableId → ℕ
  width_of table = length (spec_of schema table).columns

  abbrev starts_from : ℕ → List TableId → List ℕ
  starts_from n [] = []
  starts_from n (table ∷ more) = n ∷ starts_from (n + width_of table) more

  abbrev total : ℕ → List TableId → ℕ
  total n [] = n
  total n (table ∷ more) = total (n + width_of table) more

  starts_more : (n : ℕ) (scope : List TableId) (table : TableId) → starts_from n (scope ++ table ∷ []) ≡ starts_from n scope ++ total n scope ∷ []
  starts_more n [] table = refl
  starts_more n (first ∷ scope) table = ap (λ (rest : List ℕ). n ∷ rest) (starts_more (n + width_of first) scope table)

  total_more : (n : ℕ) (scope : List TableId) (table : TableId) → total n (scope ++ table ∷ []) ≡ total n scope + width_of table
  total_more n [] table = refl
  total_more n (first ∷ scope) table = total_more (n + width_of first) scope table

  -- the row of each source is as wide as its table
  abbrev Full : Choice → ℕ → List TableId → Type 0
  Full rows place [] = Unit {0}
  Full rows place (table ∷ more) = (length (rows place) ≡ width_of table) × Full rows (place + 1) more

  full_more : (rows : Choice) (place : ℕ) (scope : List TableId) (table : TableId) → Full rows place scope → length (rows (place + length scope)) ≡ width_of table → Full rows place (scope ++ table ∷ [])
  full_more rows place [] table full long = let same : place + 0 ≡ place = omega arith in (ap (λ (n : ℕ). length (rows n)) (sym same) ∙ long, tt)
  full_more rows place (first ∷ scope) table full long =
      let same : place + suc (length scope) ≡ place + 1 + length scope = omega arith in
      (full.0, full_more rows (place + 1) scope table full.1 (ap (λ (n : ℕ). length (rows n)) (sym same) ∙ long))

  full_same : (one other : Choice) (place : ℕ) (scope : List TableId) → ((k : ℕ) → k < place + length scope → other k ≡ one k) → Full one place scope → Full other place scope
  full_same one other place [] same full = tt
  full_same one other place (first ∷ scope) same full =
      (ap (λ (row : Row). length row) (same place (omega arith)) ∙ full.0, full_same one other (place + 1) scope (λ k less. same k (omega (arith, less))) full.1)

  -- a column of a source in the row of a choice
  value_there : (rows : Choice) (scope : List TableId) (n place : ℕ) (before : Row) → length before ≡ n → Full rows place scope → (s c : ℕ) (table : TableId) → slice_get scope s ≡ Some table → c < width_of table
      → after (before ++ glued rows place scope) c (slice_get (starts_from n scope) s) ≡ item_or_null (slice_get (rows (place + s)) c)
  value_there rows [] n place before long full s c table e less = absurd cc
  value_there rows (first ∷ scope) n place before long full zero c table e less =
      let one : first ≡ table = cc in
      let wide : length (rows place) ≡ width_of first = full.0 in
      let within : c < length (rows place) = omega (arith, wide, subst (λ (t : TableId). c < width_of t) (sym one) less) in
      let at_c : n + c ≡ length before + c = omega (arith, long) in
      let here : place ≡ place + 0 = omega arith in
      ap item_or_null
      (ap (slice_get (before ++ (rows place ++ glued rows (place + 1) scope))) at_c
      ∙ get_after before (rows place ++ glued rows (place + 1) scope) c
      ∙ get_before (rows place) (glued rows (place + 1) scope) c within
      ∙ ap (λ (k : ℕ). slice_get (rows k) c) here)
  value_there rows (first ∷ scope) n place before long full (suc s) c table e less =
      let more : length (before ++ rows place) ≡ length before + length (rows place) = length-append before (rows place) in
      let wide : length (rows place) ≡ width_of first = full.0 in
      let same : place + 1 + s ≡ place + suc s = omega arith in
      ap (λ (row : Row). after row c (slice_get (starts_from (n + width_of first) scope) s)) (sym (append_assoc before (rows place) (glued rows (place + 1) scope)))
      ∙ value_there rows scope (n + width_of first) (place + 1) (before ++ rows place) (omega (arith, more, wide, long)) full.1 s c table e less
      ∙ ap (λ (k : ℕ). item_or_null (slice_get (rows k) c)) same

  in_by : (found : Option TableId) (c : ColumnNo) (spec : ColumnSpec) → option_and_then (λ table. slice_get (spec_of schema table).columns c.0) found ≡ Some spec → (table : TableId) × (found ≡ Some table) × (c.0 < width_of table)
  in_by None c spec e = absurd cc
  in_by (Some table) c spec e = (table, refl, slice_get_within (spec_of schema table).columns c.0 spec e)

  abbrev frame : Tables → List TableId → Frame
  frame tables scope = record { starts = starts_from 0 scope; tables = tables }

  read_chosen : (tables : Tables) (rows : Choice) (scope : List TableId) → Full rows 0 scope → (column : SourceColumn) → IsInside schema scope column → value_at (frame tables scope) (glued rows 0 scope) column ≡ chosen rows column
  read_chosen tables rows scope full column inside =
      let there = in_by (slice_get scope column.source) column.column inside.0 inside.1 in
      let first : 0 + column.source ≡ column.source = omega arith in
      value_there rows scope 0 0 [] refl full column.source column.column.0 there.0 there.1 there.2 ∙ ap (λ (k : ℕ). item_or_null (slice_get (rows k) column.column.0)) first

-- ---- the condition of a tie

two_values : (a b : Meaning) (f : Value → Value → Checked Value) (p : Place) (x y : Value) → a p ≡ Ok x → b p ≡ Ok y → two a b f p ≡ f x y
two_values a b f p x y one other =
    ap (λ (r : Checked (Value × Value)). r >>= λ v. f v.0 v.1)
    (ap (λ (r : Checked Value). r >>= λ v. b p >>= λ w. Ok (v, w)) one ∙ ap (λ (r : Checked Value). r >>= λ w. Ok (x, w)) other)

-- two columns are equal
column_one : (f : Frame) (one other : SourceColumn) → IsOne f (equal_column one other) (λ row. are_equal (value_at f row one, value_at f row other))
column_one f one other = record {
  value = λ row. equal_value (value_at f row one) (value_at f row other);
  is = λ row.
      ap (λ (m : Meaning). m (at f row)) (evaluated-Compare op.Equal (expr.Column one.source one.column) (expr.Column other.source other.column))
      ∙ two_values (meaning_of (expr.Column one.source one.column)) (meaning_of (expr.Column other.source other.column)) (λ x y. truth (comparison_truth op.Equal x y)) (at f row) (value_at f row one) (value_at f row other)
      (column_value one.source one.column (at f row)) (column_value other.source other.column (at f row));
  passed = λ row. equal_passes (value_at f row one) (value_at f row other);
}

columns_tests : (f : Frame) (ones others : List SourceColumn) → AreTests f (equal_columns ones others) (λ row. equals_key (values_at f ones row) (values_at f others row))
columns_tests f [] others = no_tests f
columns_tests f (one ∷ ones) [] = no_tests f
columns_tests f (one ∷ ones) (other ∷ others) =
    one_test f (equal_column one other) (equal_columns ones others) (λ row. are_equal (value_at f row one, value_at f row other)) (λ row. equals_key (values_at f ones row) (values_at f others row)) (column_one f one other)
    (columns_tests f ones others)

same_list : {A : Type 0} (xs ys : List A) → ◌≡◌ {A = Checked (List A)} (Ok xs) (Ok ys) → xs ≡ ys
same_list xs ys e = cc

-- the rows for which all of some conditions hold
kept_conjoined : (f : Frame) (es : List Expr) (holds : Row → Bool) (rows : List Row) → AreTests f es holds → kept_from (condition f (conjoined es)) [] rows ≡ Ok (filter holds rows)
kept_conjoined f [] holds rows tests =
    kept_where (condition f (expr.And [])) holds
    (λ row. (value_of (all3 []), all_value [] [] (at f row) refl, all_pass [] ∙ ap (list_all passes) (same_list [] (tests.values row) (tests.each row [])) ∙ tests.pass row)) [] rows
kept_conjoined f (e ∷ []) holds rows tests = rows_of_tests f (e ∷ []) holds rows tests
kept_conjoined f (e ∷ g ∷ es) holds rows tests = rows_of_tests f (e ∷ g ∷ es) holds rows tests

-- ---- one join more

each_total : {A B : Type 0} (f : A → Checked (List B)) (g : A → List B) (done : List B) (xs : List A) → ((x : A) → f x ≡ Ok (g x)) → each_from f done xs ≡ Ok (done ++ flat_map g xs)
each_total f g done [] told = ap Ok (sym (append-nil done))
each_total f g done (x ∷ xs) told =
    ap (λ r. r >>= λ ys. each_from f (done ++ ys) xs) (told x) ∙ each_total f g (done ++ g x) xs told ∙ ap Ok (append_assoc done (g x) (flat_map g xs))

module _ (schema : Catalog) (tables : Tables) where
  abbrev next : List TableId → Tie → List TableId
  next scope tie = scope ++ tie.table ∷ []

  -- the columns of a tie are equal in a row
  abbrev ties_row : List TableId → Tie → Row → Bool
  ties_row scope tie row = equals_key (values_at (frame schema tables (next scope tie)) tie.ones row) (values_at (frame schema tables (next scope tie)) tie.others row)

  abbrev beside : List TableId → Tie → Row → List Row
  beside scope tie row = filter (ties_row scope tie) (map (λ (x : Row). row ++ x) (rows_in tables tie.table.0))

  abbrev extended : List TableId → Tie → List Row → List Row
  extended scope tie rows = flat_map (beside scope tie) rows

  abbrev all_joined : List TableId → List Tie → List Row → List Row
  all_joined scope [] rows = rows
  all_joined scope (tie ∷ ties) rows = all_joined (next scope tie) ties (extended scope tie rows)

  abbrev joins_of : List Tie → List Joined
  joins_of ties = map inner_joined (map joined_where ties)

  row_joined : (scope : List TableId) (tie : Tie) (row : Row) → joined_row (frame schema tables (next scope tie)) (inner_joined (joined_where tie)) (width schema (origin_of tie.table)) row ≡ Ok (beside scope tie row)
  row_joined scope tie row =
      ap (λ (r : Checked (List Row)). r >>= λ rows. Ok (or_nulls false row (width schema (origin_of tie.table)) rows))
      (kept_conjoined (frame schema tables (next scope tie)) (equal_columns tie.ones tie.others) (ties_row scope tie) (map (λ (x : Row). row ++ x) (rows_in tables tie.table.0))
      (columns_tests (frame schema tables (next scope tie)) tie.ones tie.others))

  abbrev tables_in : List Tie → List TableId
  tables_in ties = map (λ (tie : Tie). tie.table) ties

  joined_is : (scope : List TableId) (ties : List Tie) (rows : List Row)
      → joined_all schema (frame schema tables scope) (total schema 0 scope) (joins_of ties) rows ≡ Ok (frame schema tables (scope ++ tables_in ties), all_joined scope ties rows)
  joined_is scope [] rows = ap (λ (all : List TableId). let found : Frame × List Row = (frame schema tables all, rows) in let r : Checked (Frame × List Row) = Ok found in r) (sym (append-nil scope))
  joined_is scope (tie ∷ ties) rows =
      let j : Joined = inner_joined (joined_where tie) in
      let old : Frame = frame schema tables scope in
      let new : Frame = frame schema tables (next scope tie) in
      let wide : ℕ = width schema j.origin in
      let more : List Row = extended scope tie rows in
      let framed : wider old (total schema 0 scope) ≡ new = ap (λ (starts : List ℕ). let f : Frame = record { starts = starts; tables = tables } in f) (sym (starts_more schema 0 scope tie.table)) in
      ap (λ (f : Frame). rows_of_join schema f j rows >>= λ (joined : List Row). joined_all schema f (total schema 0 scope + wide) (joins_of ties) joined) framed
      ∙ ap (λ (r : Checked (List Row)). r >>= λ (joined : List Row). joined_all schema new (total schema 0 scope + wide) (joins_of ties) joined)
      (each_total (joined_row new j wide) (beside scope tie) [] rows (row_joined scope tie))
      ∙ ap (λ (n : ℕ). joined_all schema new n (joins_of ties) more) (sym (total_more schema 0 scope tie.table))
      ∙ joined_is (next scope tie) ties more
      ∙ ap (λ (all : List TableId). let found : Frame × List Row = (frame schema tables all, all_joined (next scope tie) ties more) in let r : Checked (Frame × List Row) = Ok found in r) (append_assoc scope (tie.table ∷ []) (tables_in ties))

  -- ---- rows and choices

  pub equal_inside : (u v : SourceColumn → Value) (scope : List TableId) (ones others : List SourceColumn) → ((column : SourceColumn) → IsInside schema scope column → u column ≡ v column) → PairsInside schema scope ones others
      → equals_key (map u ones) (map u others) ≡ equals_key (map v ones) (map v others)
  equal_inside u v scope [] others same inside = refl
  equal_inside u v scope (one ∷ ones) [] same inside = refl
  equal_inside u v scope (one ∷ ones) (other ∷ others) same inside =
      ap (λ (x : Value). are_equal (x, u other) && equals_key (map u ones) (map u others)) (same one inside.0.0)
      ∙ ap (λ (y : Value). are_equal (v one, y) && equals_key (map u ones) (map u others)) (same other inside.0.1)
      ∙ ap (λ (b : Bool). are_equal (v one, v other) && b) (equal_inside u v scope ones others same inside.1)

  ties_chosen : (scope : List TableId) (tie : Tie) (rows : Choice) → Full schema rows 0 (next scope tie) → PairsInside schema (next scope tie) tie.ones tie.others → ties_row scope tie (glued rows 0 (next scope tie)) ≡ are_tied rows tie
  ties_chosen scope tie rows full inside =
      equal_inside (value_at (frame schema tables (next scope tie)) (glued rows 0 (next scope tie))) (chosen rows) (next scope tie) tie.ones tie.others (read_chosen schema tables rows (next scope tie) full) inside

  -- a column of the first sources is the same in choices that are the same there
  chosen_same : (one other : Choice) (scope : List TableId) → ((k : ℕ) → k < length scope → other k ≡ one k) → (column : SourceColumn) → IsInside schema scope column → chosen other column ≡ chosen one column
  chosen_same one other scope same column inside =
      let there = in_by schema (slice_get scope column.source) column.column inside.0 inside.1 in
      ap (λ (row : Row). item_or_null (slice_get row column.column.0)) (same column.source (slice_get_within scope column.source there.0 there.1))

  -- what is true of all rows of each table is true of a row of one
  pub row_of_table : (test : TableSpec → Row → Bool) (found : Tables) (table : TableId) (row : Row) → AllByRecursion (λ one. AllByRecursion (λ r. test (spec_of schema one.0) r ≡ true) one.1) found → Has (rows_in found table.0) row
      → test (spec_of schema table) row ≡ true
  row_of_table test [] table row held there = absurd there
  row_of_table test (x ∷ found) table row held there = by (x.0.0 == table.0) refl there (row_of_table test found table row held.1)
    where
      by : (b : Bool) → (x.0.0 == table.0) ≡ b → Has (if b then x.1 else rows_in found table.0) row → (Has (rows_in found table.0) row → test (spec_of schema table) row ≡ true) → test (spec_of schema table) row ≡ true
      by false is h more = more h
      by true is h more =
          let same : x.0 ≡ table = ap (λ (n : ℕ). let one : TableId = record { 0 = n } in one) (eqb-true x.0.0 table.0 is) in
          ap (λ (one : TableId). test (spec_of schema one) row) (sym same) ∙ every_has (λ (r : Row). test (spec_of schema x.0) r ≡ true) x.1 row held.0 h

  -- a row of a table is as wide as the table
  pub wide_row : (table : TableId) (row : Row) → AreRows schema tables → Has (rows_in tables table.0) row → length row ≡ width_of schema table
  wide_row table row held there = pointwise_long may_hold (spec_of schema table).columns row (row_of_table is_row tables table row held there)

  -- what holds of a choice by its first rows alone
  abbrev IsOfFirst : ℕ → (Choice → Type 0) → Type 0
  IsOfFirst count P = (one other : Choice) → ((k : ℕ) → k < count → other k ≡ one k) → P one → P other

  record Chosen (scope : List TableId) (P : Choice → Type 0) (row : Row) : Type 0 where
    rows : Choice
    is : row ≡ glued rows 0 scope
    full : Full schema rows 0 scope
    holds : P rows

  abbrev Here : ℕ → Tie → Choice → Type 0
  Here place tie rows = Has (rows_in tables tie.table.0) (rows place) × (are_tied rows tie ≡ true)

  here_first : (scope : List TableId) (tie : Tie) (P : Choice → Type 0) → PairsInside schema (next scope tie) tie.ones tie.others → IsOfFirst (length scope) P → IsOfFirst (length (next scope tie)) (λ rows. P rows × Here (length scope) tie rows)
  here_first scope tie P inside local one other same h =
      let long : length (next scope tie) ≡ length scope + 1 = length-append scope (tie.table ∷ []) in
      let last : other (length scope) ≡ one (length scope) = same (length scope) (omega (arith, long)) in (
        local one other (λ k less. same k (omega (arith, less, long))) h.0,
        (subst (Has (rows_in tables tie.table.0)) (sym last) h.1.0, equal_inside (chosen other) (chosen one) (next scope tie) tie.ones tie.others (chosen_same one other (next scope tie) same) inside ∙ h.1.1),
      )

  extended_chosen : (scope : List TableId) (tie : Tie) (P : Choice → Type 0) → AreRows schema tables → PairsInside schema (next scope tie) tie.ones tie.others → IsOfFirst (length scope) P → (rows : List Row) → ((row : Row) → Has rows row → Chosen scope P row)
      → (row : Row) → Has (extended scope tie rows) row → Chosen (next scope tie) (λ choice. P choice × Here (length scope) tie choice) row
  extended_chosen scope tie P wide inside local rows each row there =
      let source : List Row = rows_in tables tie.table.0 in
      let from = from_flat (beside scope tie) rows row there in
      let kept = from_filter (ties_row scope tie) (map (λ (x : Row). from.0 ++ x) source) row from.2 in
      let made = from_map (λ (x : Row). from.0 ++ x) source row kept.0 in
      let old = each from.0 from.1 in
      let new : Choice = with_row old.rows (length scope) made.0 in
      let put : new (length scope) ≡ made.0 = put_there old.rows (length scope) made.0 in
      let below : (k : ℕ) → k < 0 + length scope → new k ≡ old.rows k = λ k less. put_elsewhere old.rows (length scope) made.0 k (omega (arith, less)) in
      let zero_more : 0 + length scope ≡ length scope = omega arith in
      let at : new (0 + length scope) ≡ made.0 = ap new zero_more ∙ put in
      let is : row ≡ glued new 0 (next scope tie) =
      sym made.2 ∙ ap (λ (r : Row). r ++ made.0) (old.is ∙ sym (glued_same old.rows new 0 scope below)) ∙ ap (λ (r : Row). glued new 0 scope ++ r) (sym at) ∙ sym (glued_more new 0 scope tie.table) in
      let full : Full schema new 0 (next scope tie) =
      full_more schema new 0 scope tie.table (full_same schema old.rows new 0 scope below old.full) (ap (λ (r : Row). length r) at ∙ wide_row tie.table made.0 wide made.1) in
      record {
        rows = new;
        is = is;
        full = full;
        holds = (
          local old.rows new (λ k less. put_elsewhere old.rows (length scope) made.0 k less) old.holds,
          (subst (Has source) (sym put) made.1, sym (ties_chosen scope tie new full inside) ∙ ap (ties_row scope tie) (sym is) ∙ kept.1),
        );
      }

  -- each joined row is that of a choice
  all_chosen : (scope : List TableId) (ties : List Tie) (P : Choice → Type 0) → AreRows schema tables → AreInside schema scope ties → IsOfFirst (length scope) P → (rows : List Row) → ((row : Row) → Has rows row → Chosen scope P row)
      → (row : Row) → Has (all_joined scope ties rows) row → Chosen (scope ++ tables_in ties) (λ choice. P choice × Meets tables choice (length scope) ties) row
  all_chosen scope [] P wide inside local rows each row there =
      let old = each row there in
      subst (λ (all : List TableId). Chosen all (λ choice. P choice × Meets tables choice (length scope) []) row) (sym (append-nil scope)) (record { rows = old.rows; is = old.is; full = old.full; holds = (old.holds, tt) })
  all_chosen scope (tie ∷ ties) P wide inside local rows each row there =
      let more =
      all_chosen (next scope tie) ties (λ choice. P choice × Here (length scope) tie choice) wide inside.1 (here_first scope tie P inside.0 local) (extended scope tie rows) (extended_chosen scope tie P wide inside.0 local rows each) row there in
      let long : length (next scope tie) ≡ length scope + 1 = length-append scope (tie.table ∷ []) in
      subst (λ (all : List TableId). Chosen all (λ choice. P choice × Meets tables choice (length scope) (tie ∷ ties)) row) (append_assoc scope (tie.table ∷ []) (tables_in ties))
      (record {
        rows = more.rows;
        is = more.is;
        full = more.full;
        holds = (more.holds.0.0, (more.holds.0.1, subst (λ (n : ℕ). Meets tables more.rows n ties) long more.holds.1));
      })

  -- and each choice that is tied has a joined row
  choice_joined : (scope : List TableId) (ties : List Tie) (choice : Choice) → AreRows schema tables → AreInside schema scope ties → Full schema choice 0 scope → Meets tables choice (length scope) ties → (rows : List Row)
      → Has rows (glued choice 0 scope) → Has (all_joined scope ties rows) (glued choice 0 (scope ++ tables_in ties)) × Full schema choice 0 (scope ++ tables_in ties)
  choice_joined scope [] choice wide inside full meets rows there =
      subst (λ (all : List TableId). Has rows (glued choice 0 all) × Full schema choice 0 all) (sym (append-nil scope)) (there, full)
  choice_joined scope (tie ∷ ties) choice wide inside full meets rows there =
      let source : List Row = rows_in tables tie.table.0 in
      let long : length (next scope tie) ≡ length scope + 1 = length-append scope (tie.table ∷ []) in
      let zero_more : 0 + length scope ≡ length scope = omega arith in
      let last : Row = choice (length scope) in
      let now : Full schema choice 0 (next scope tie) = full_more schema choice 0 scope tie.table full (ap (λ (n : ℕ). length (choice n)) zero_more ∙ wide_row tie.table last wide meets.0.0) in
      let glue : glued choice 0 (next scope tie) ≡ glued choice 0 scope ++ last = glued_more choice 0 scope tie.table ∙ ap (λ (n : ℕ). glued choice 0 scope ++ choice n) zero_more in
      let passes_tie : ties_row scope tie (glued choice 0 scope ++ last) ≡ true = ap (ties_row scope tie) (sym glue) ∙ ties_chosen scope tie choice now inside.0 ∙ meets.0.1 in
      let beside_it : Has (extended scope tie rows) (glued choice 0 scope ++ last) =
      has_flat (beside scope tie) rows (glued choice 0 scope) (glued choice 0 scope ++ last) there
      (has_filter (ties_row scope tie) (map (λ (x : Row). glued choice 0 scope ++ x) source) (glued choice 0 scope ++ last) (has_map (λ (x : Row). glued choice 0 scope ++ x) source last meets.0.0) passes_tie) in
      let more =
      choice_joined (next scope tie) ties choice wide inside.1 now (subst (λ (n : ℕ). Meets tables choice n ties) (sym long) meets.1) (extended scope tie rows) (subst (Has (extended scope tie rows)) (sym glue) beside_it) in
      subst (λ (all : List TableId). Has (all_joined (next scope tie) ties (extended scope tie rows)) (glued choice 0 all) × Full schema choice 0 all) (append_assoc scope (tie.table ∷ []) (tables_in ties)) more

-- ---- the answer

-- a condition on the columns that the sources have
pub record IsLocal (schema : Catalog) (scope : List TableId) (conditions : List Expr) (test : (SourceColumn → Value) → Bool) : Type 0 where
  pub tests : (f : Frame) → AreTests f conditions (λ row. test (value_at f row))
  pub local : (u v : SourceColumn → Value) → ((column : SourceColumn) → IsInside schema scope column → u column ≡ v column) → test u ≡ test v

-- a choice of a row of each source, tied and passing
pub record IsChoice (tables : Tables) (first : TableId) (ties : List Tie) (test : (SourceColumn → Value) → Bool) (rows : Choice) : Type 0 where
  pub head : Has (rows_in tables first.0) (rows 0)
  pub meets : Meets tables rows 1 ties
  pub passes : test (chosen rows) ≡ true

pub all_inside : (schema : Catalog) (scope : List TableId) (u v : SourceColumn → Value) (columns : List SourceColumn) → ((column : SourceColumn) → IsInside schema scope column → u column ≡ v column) → AllByRecursion (IsInside schema scope) columns → map u columns ≡ map v columns
all_inside schema scope u v [] same inside = refl
all_inside schema scope u v (column ∷ columns) same inside = ap (λ (x : Value). x ∷ map u columns) (same column inside.0) ∙ ap (λ (xs : List Value). v column ∷ xs) (all_inside schema scope u v columns same inside.1)

module _ (schema : Catalog) (tables : Tables) (first : TableId) (ties : List Tie) (items : List SourceColumn) (conditions : List Expr) (test : (SourceColumn → Value) → Bool) (wide : AreRows schema tables)
    (inside : AreInside schema (first ∷ []) ties) (items_inside : AllByRecursion (IsInside schema (first ∷ map (λ (tie : Tie). tie.table) ties)) items)
    (local : IsLocal schema (first ∷ map (λ (tie : Tie). tie.table) ties) conditions test) (rows : List Row) (is : answer schema tables (select_of first (map joined_where ties) items conditions) ≡ Ok rows) where
  abbrev scope : List TableId
  scope = first ∷ map (λ (tie : Tie). tie.table) ties

  abbrev whole : Frame
  whole = frame schema tables scope

  abbrev found_rows : List Row
  found_rows = all_joined schema tables (first ∷ []) ties (rows_in tables first.0)

  abbrev passing : Row → Bool
  passing row = test (value_at whole row)

  sources_are : sources schema tables (select_of first (map joined_where ties) items conditions) ≡ Ok (whole, found_rows)
  unfolding sources
  sources_are =
      let wide_first : width schema (origin_of first) ≡ 0 + width_of schema first = omega arith in
      ap (λ (n : ℕ). joined_all schema (frame schema tables (first ∷ [])) n (map inner_joined (map joined_where ties)) (rows_in tables first.0)) wide_first ∙ joined_is schema tables (first ∷ []) ties (rows_in tables first.0)

  same_found : (x y : Frame × List Row) → ◌≡◌ {A = Checked (Frame × List Row)} (Ok x) (Ok y) → x ≡ y
  same_found x y e = cc

  rows_are : rows ≡ map (values_at whole items) (filter passing found_rows)
  rows_are =
      let one = answer_is first (map joined_where ties) items conditions schema tables (λ f row. test (value_at f row)) local.tests rows is in
      let from = same_found one.0 (whole, found_rows) (sym one.1 ∙ sources_are) in
      one.2 ∙ ap (λ (found : Frame × List Row). map (values_at found.0 items) (filter (λ row. test (value_at found.0 row)) found.1)) from

  first_chosen : (row : Row) → Has (rows_in tables first.0) row → Chosen schema tables (first ∷ []) (λ choice. Has (rows_in tables first.0) (choice 0)) row
  first_chosen row there = record { rows = λ k. row; is = sym (append-nil row); full = (wide_row schema tables first row wide there, tt); holds = there }

  -- each row that is answered is that of a choice
  pub chosen_row : (row : Row) → Has rows row → (choice : Choice) × IsChoice tables first ties test choice × (row ≡ map (chosen choice) items)
  chosen_row row there =
      let made = from_map (values_at whole items) (filter passing found_rows) row (subst (λ (all : List Row). Has all row) rows_are there) in
      let kept = from_filter passing found_rows made.0 made.1 in
      let one =
      all_chosen schema tables (first ∷ []) ties (λ choice. Has (rows_in tables first.0) (choice 0)) wide inside (λ c d same h. subst (Has (rows_in tables first.0)) (sym (same 0 (omega arith))) h) (rows_in tables first.0) first_chosen made.0 kept.0 in
      let read : (column : SourceColumn) → IsInside schema scope column → value_at whole made.0 column ≡ chosen one.rows column = λ column within.
      ap (λ (r : Row). value_at whole r column) one.is ∙ read_chosen schema tables one.rows scope one.full column within in (
        one.rows,
        record { head = one.holds.0; meets = one.holds.1; passes = sym (local.local (value_at whole made.0) (chosen one.rows) read) ∙ kept.1 },
        sym made.2 ∙ all_inside schema scope (value_at whole made.0) (chosen one.rows) items read items_inside,
      )

  -- and each choice has its row among those that are answered
  pub choice_row : (choice : Choice) → IsChoice tables first ties test choice → Has rows (map (chosen choice) items)
  choice_row choice one =
      let start : Has (rows_in tables first.0) (glued choice 0 (first ∷ [])) = subst (Has (rows_in tables first.0)) (sym (append-nil (choice 0))) one.head in
      let joined = choice_joined schema tables (first ∷ []) ties choice wide inside (wide_row schema tables first (choice 0) wide one.head, tt) one.meets (rows_in tables first.0) start in
      let row : Row = glued choice 0 scope in
      let read : (column : SourceColumn) → IsInside schema scope column → value_at whole row column ≡ chosen choice column = read_chosen schema tables choice scope joined.1 in
      let passes_row : passing row ≡ true = local.local (value_at whole row) (chosen choice) read ∙ one.passes in
      subst (λ (all : List Row). Has all (map (chosen choice) items)) (sym rows_are)
      (subst (Has (map (values_at whole items) (filter passing found_rows))) (all_inside schema scope (value_at whole row) (chosen choice) items read items_inside)
      (has_map (values_at whole items) (filter passing found_rows) row (has_filter passing found_rows row joined.0 passes_row)))

-- ---- ties of a plain select

is_there : (schema : Catalog) (scope : Scope) (column : SourceColumn) (found : Option ColumnSpec) → column_in schema scope column.source column.column ≡ found → is_some found ≡ true → IsInside schema scope column
is_there schema scope column None e h = absurd cc
is_there schema scope column (Some spec) e h = (spec, e)

module _ (schema : Catalog) (scope : Scope) where
  pub column_inside : (column : SourceColumn) → fits schema (expr.Column column.source column.column) scope ≡ true → IsInside schema scope column
  column_inside column h =
      let found : Bool = is_some (column_in schema scope column.source column.column) in
      is_there schema scope column (column_in schema scope column.source column.column) refl (and_parts found true (sym (fits-Column schema scope column.source column.column) ∙ h)).0

  abbrev pub Fit : Expr → Type 0
  Fit e = fits schema e scope ≡ true

  equal_parts : (one other : SourceColumn) → Fit (equal_column one other) → IsInside schema scope one × IsInside schema scope other
  equal_parts one other h =
      let first : Bool = fits schema (expr.Column one.source one.column) scope in
      let second : Bool = fits schema (expr.Column other.source other.column) scope in
      let both = and_parts first (second && true) (sym (fits-Compare schema scope op.Equal (expr.Column one.source one.column) (expr.Column other.source other.column)) ∙ h) in
      (column_inside one both.0, column_inside other (and_parts second true both.1).0)

  each_fits : (es : List Expr) → list_all (λ (holds : Scope → Bool). holds scope) (map (fits schema) es) ≡ true → AllByRecursion Fit es
  each_fits [] h = tt
  each_fits (e ∷ es) h = let both = and_parts (fits schema e scope) (list_all (λ (holds : Scope → Bool). holds scope) (map (fits schema) es)) h in (both.0, each_fits es both.1)

  pub parts_fit : (es : List Expr) → fits schema (conjoined es) scope ≡ true → AllByRecursion Fit es
  parts_fit [] h = tt
  parts_fit (e ∷ []) h = (h, tt)
  parts_fit (e ∷ g ∷ es) h = each_fits (e ∷ g ∷ es) (sym (fits-And schema scope (e ∷ g ∷ es)) ∙ h)

  pub pairs_inside : (ones others : List SourceColumn) → AllByRecursion Fit (equal_columns ones others) → PairsInside schema scope ones others
  pairs_inside [] others h = tt
  pairs_inside (one ∷ ones) [] h = tt
  pairs_inside (one ∷ ones) (other ∷ others) h = (equal_parts one other h.0, pairs_inside ones others h.1)

-- the columns of the ties of a plain select are inside
pub ties_inside : (schema : Catalog) (before : List Origin) (under : List TableId) (ties : List Tie) → map (λ (origin : Origin). origin.table) before ≡ under → AreJoined schema before (map inner_joined (map joined_where ties)) → AreInside schema under ties
ties_inside schema before under [] same joined = tt
ties_inside schema before under (tie ∷ ties) same joined =
    let table_of : Origin → TableId = λ origin. origin.table in
    let more : map table_of (before ++ origin_of tie.table ∷ []) ≡ under ++ tie.table ∷ [] = map-append table_of before (origin_of tie.table ∷ []) ∙ ap (λ (tables : List TableId). tables ++ tie.table ∷ []) same in
    let fit = ap (λ (within : Scope). fits schema (conjoined (equal_columns tie.ones tie.others)) within) (sym more) ∙ joined.0.stands.fitting in (
      pairs_inside schema (under ++ tie.table ∷ []) tie.ones tie.others (parts_fit schema (under ++ tie.table ∷ []) (equal_columns tie.ones tie.others) fit),
      ties_inside schema (before ++ origin_of tie.table ∷ []) (under ++ tie.table ∷ []) ties more joined.2,
    )

-- ---- what is inside in a plain select

scope_of_ties : (ties : List Tie) → map (λ (origin : Origin). origin.table) (map (λ (join : Joined). join.origin) (map inner_joined (map joined_where ties))) ≡ map (λ (tie : Tie). tie.table) ties
scope_of_ties [] = refl
scope_of_ties (tie ∷ ties) = ap (λ (tables : List TableId). tie.table ∷ tables) (scope_of_ties ties)

items_fit : (schema : Catalog) (origins : List Origin) (under : List TableId) (items : List SourceColumn) → map (λ (origin : Origin). origin.table) origins ≡ under
    → AllByRecursion (λ (item : Expr × Option (List ℕ)). StandsIn schema origins item.0) (map item_of items) → AllByRecursion (IsInside schema under) items
items_fit schema origins under [] same stand = tt
items_fit schema origins under (item ∷ items) same stand =
    (column_inside schema under item (ap (λ (within : Scope). fits schema (expr.Column item.source item.column) within) (sym same) ∙ stand.0.fitting), items_fit schema origins under items same stand.1)

conditions_fit : (schema : Catalog) (origins : List Origin) (under : List TableId) (conditions : List Expr) → map (λ (origin : Origin). origin.table) origins ≡ under → IfSet (IsFilter schema origins) (all_conditions conditions)
    → AllByRecursion (Fit schema under) conditions
conditions_fit schema origins under [] same stand = tt
conditions_fit schema origins under (e ∷ []) same stand = (ap (λ (within : Scope). fits schema e within) (sym same) ∙ stand.condition.stands.fitting, tt)
conditions_fit schema origins under (e ∷ g ∷ es) same stand = parts_fit schema under (e ∷ g ∷ es) (ap (λ (within : Scope). fits schema (expr.And (e ∷ g ∷ es)) within) (sym same) ∙ stand.condition.stands.fitting)

-- the columns of ties, items and conditions are those of the sources
pub record HasInside (schema : Catalog) (first : TableId) (ties : List Tie) (items : List SourceColumn) (conditions : List Expr) : Type 0 where
  pub ties_in : AreInside schema (first ∷ []) ties
  pub items_in : AllByRecursion (IsInside schema (first ∷ map (λ (tie : Tie). tie.table) ties)) items
  pub conditions_in : AllByRecursion (Fit schema (first ∷ map (λ (tie : Tie). tie.table) ties)) conditions

pub inside_of : (schema : Catalog) (first : TableId) (ties : List Tie) (items : List SourceColumn) (conditions : List Expr) → IsPlainSelect schema (select_of first (map joined_where ties) items conditions) → HasInside schema first ties items conditions
inside_of schema first ties items conditions plain =
    let origins : List Origin = sources_of (select_of first (map joined_where ties) items conditions) in
    let same : map (λ (origin : Origin). origin.table) origins ≡ first ∷ map (λ (tie : Tie). tie.table) ties = ap (λ (tables : List TableId). first ∷ tables) (scope_of_ties ties) in
    record {
      ties_in = ties_inside schema (origin_of first ∷ []) (first ∷ []) ties refl plain.joins_stand;
      items_in = items_fit schema origins (first ∷ map (λ (tie : Tie). tie.table) ties) items same plain.items_stand;
      conditions_in = conditions_fit schema origins (first ∷ map (λ (tie : Tie). tie.table) ties) conditions same plain.filter_stands;
    }
