-- Lists of conditions over columns and values: nothing is refused, and all hold where their values are equal.
use Rattle.std.proofs.Common.{◌≡◌, ℕ, ◌==◌, Bool, true, false, ◌&&◌, ◌||◌, List, [], ◌∷◌, ◌++◌, filter, length, map, Ok, Err, if◌then◌else◌, refl, sym, ap, subst, ◌∙◌, append_assoc, append-nil, arith}
use Rattle.std.specs.List.{AllByRecursion, flat_map, list_all, list_any}
use Rattle.std.proofs.lemmas.Bool.{eqb-true}
use Rattle.base_core.specs.declared.value.Value.{Value}
use Rattle.expr_types.specs.declared.expr.Expr.{Expr}
use Rattle.expr_types.specs.declared.expr.Expr.TheVariants as expr
use Rattle.sql_semantics.specs.Checked.{Checked, ◌>>=◌}
use Rattle.sql_semantics.specs.Truth.{all3, any3, passes, truth_of, value_of}
use Rattle.sql_semantics.specs.Eval.{Row, all_from, among, meaning_of}
use Rattle.sql_semantics.specs.Rows.{Frame, at, condition, rows_where}
use Rattle.load_columns.specs.declared.placing.SourceColumn.{SourceColumn}
use Rattle.load_columns.specs.Conditions.{all_of, first_value, has_key, has_one_of, has_some_key, has_value, has_values, holds_first, is_in}
use Rattle.loading_laws.specs.Answers.Equal.{are_equal, equals_key}
use Rattle.loading_laws.specs.Answers.Answers.{value_at, values_at}
use Rattle.loading_laws.proofs.Answers.Totals.{IsTest, kept_where, map_twice, values_of_all}
use Rattle.loading_laws.proofs.Answers.Values.{all_pass, all_value, equal_passes, equal_value, equality_value, in_passes, in_value, some_pass, some_value}

-- ---- lists of conditions

-- at each row the conditions have these values, and all pass where the test is true
pub record AreTests (frame : Frame) (es : List Expr) (holds : Row → Bool) : Type 0 where
  pub values : Row → List Value
  pub each : (row : Row) (done : List Value) → all_from (at frame row) done (map meaning_of es) ≡ Ok (done ++ values row)
  pub pass : (row : Row) → list_all passes (values row) ≡ holds row

-- one condition
pub record IsOne (frame : Frame) (e : Expr) (holds : Row → Bool) : Type 0 where
  pub value : Row → Value
  pub is : (row : Row) → meaning_of e (at frame row) ≡ Ok (value row)
  pub passed : (row : Row) → passes (value row) ≡ holds row

pub no_tests : (frame : Frame) → AreTests frame [] (λ row. true)
no_tests frame = record { values = λ row. []; each = λ row done. ap Ok (sym (append-nil done)); pass = λ row. refl }

-- one condition more
pub one_test : (frame : Frame) (e : Expr) (es : List Expr) (one more : Row → Bool) → IsOne frame e one → AreTests frame es more → AreTests frame (e ∷ es) (λ row. one row && more row)
one_test frame e es one more first rest = record {
  values = λ row. first.value row ∷ rest.values row;
  each = λ row done.
      ap (λ (r : Checked Value). r >>= λ v. all_from (at frame row) (done ++ v ∷ []) (map meaning_of es)) (first.is row) ∙ rest.each row (done ++ first.value row ∷ [])
      ∙ ap Ok (append_assoc done (first.value row ∷ []) (rest.values row));
  pass = λ row. ap (λ (b : Bool). b && list_all passes (rest.values row)) (first.passed row) ∙ ap (λ (b : Bool). one row && b) (rest.pass row);
}

-- conditions that hold exactly where others do
pub same_tests : (frame : Frame) (es : List Expr) (holds other : Row → Bool) → ((row : Row) → holds row ≡ other row) → AreTests frame es holds → AreTests frame es other
same_tests frame es holds other same tests = record { values = tests.values; each = tests.each; pass = λ row. tests.pass row ∙ same row }

-- ---- the rows of which all conditions hold

all_kept : {A : Type 0} (p : A → Bool) (xs : List A) → ((x : A) → p x ≡ true) → xs ≡ filter p xs
all_kept p [] all = refl
all_kept p (x ∷ xs) all = ap (λ ys. x ∷ ys) (all_kept p xs all) ∙ sym (ap (λ (b : Bool). if b then x ∷ filter p xs else filter p xs) (all x))

same_list : (xs ys : List Value) → ◌≡◌ {A = Checked (List Value)} (Ok xs) (Ok ys) → xs ≡ ys
same_list xs ys e = cc

alone_by : (r : Checked Value) (vs : List Value) → (r >>= λ v. Ok (v ∷ [])) ≡ Ok vs → (v : Value) × (r ≡ Ok v) × (vs ≡ v ∷ [])
alone_by (Ok v) vs e = (v, refl, sym (same_list (v ∷ []) vs e))
alone_by (Err f) vs e = absurd cc

and_true : (b : Bool) → (b && true) ≡ b
and_true true = refl
and_true false = refl

alone_test : (frame : Frame) (e : Expr) (holds : Row → Bool) → AreTests frame (e ∷ []) holds → (row : Row) → IsTest (condition frame e) holds row
alone_test frame e holds tests row =
    let found = alone_by (meaning_of e (at frame row)) (tests.values row) (tests.each row []) in
    (found.0, found.1, sym (and_true (passes found.0)) ∙ ap (list_all passes) (sym found.2) ∙ tests.pass row)

all_test : (frame : Frame) (es : List Expr) (holds : Row → Bool) → AreTests frame es holds → (row : Row) → IsTest (condition frame (expr.And es)) holds row
all_test frame es holds tests row =
    (value_of (all3 (map truth_of (tests.values row))), all_value es (tests.values row) (at frame row) (tests.each row []), all_pass (tests.values row) ∙ tests.pass row)

pub rows_of_tests : (frame : Frame) (es : List Expr) (holds : Row → Bool) (rows : List Row) → AreTests frame es holds → rows_where frame (all_of es) rows ≡ Ok (filter holds rows)
rows_of_tests frame [] holds rows tests = ap Ok (all_kept holds rows (λ row. sym (tests.pass row) ∙ ap (list_all passes) (sym (same_list [] (tests.values row) (tests.each row [])))))
rows_of_tests frame (e ∷ []) holds rows tests = kept_where (condition frame e) holds (alone_test frame e holds tests) [] rows
rows_of_tests frame (e ∷ f ∷ es) holds rows tests = kept_where (condition frame (expr.And (e ∷ f ∷ es))) holds (all_test frame (e ∷ f ∷ es) holds tests) [] rows

-- ---- conditions on keys

-- a column holds a value
value_one : (frame : Frame) (place : SourceColumn) (v : Value) → IsOne frame (has_value place v) (λ row. are_equal (value_at frame row place, v))
value_one frame place v = record {
  value = λ row. equal_value (value_at frame row place) v;
  is = λ row. equality_value place.source place.column v (at frame row);
  passed = λ row. equal_passes (value_at frame row place) v;
}

and_assoc : (a b c : Bool) → (a && (b && c)) ≡ ((a && b) && c)
and_assoc true b c = refl
and_assoc false b c = refl

-- columns hold a key, and further conditions hold
pub key_tests : (frame : Frame) (columns : List SourceColumn) (key : List Value) (es : List Expr) (more : Row → Bool) → AreTests frame es more
    → AreTests frame (has_values columns key ++ es) (λ row. equals_key (values_at frame columns row) key && more row)
key_tests frame [] key es more tests = tests
key_tests frame (place ∷ columns) [] es more tests = tests
key_tests frame (place ∷ columns) (v ∷ key) es more tests =
    same_tests frame (has_value place v ∷ (has_values columns key ++ es)) (λ row. are_equal (value_at frame row place, v) && (equals_key (values_at frame columns row) key && more row))
    (λ row. equals_key (values_at frame (place ∷ columns) row) (v ∷ key) && more row)
    (λ row. and_assoc (are_equal (value_at frame row place, v)) (equals_key (values_at frame columns row) key) (more row))
    (one_test frame (has_value place v) (has_values columns key ++ es) (λ row. are_equal (value_at frame row place, v)) (λ row. equals_key (values_at frame columns row) key && more row) (value_one frame place v)
    (key_tests frame columns key es more tests))

-- a column is among values
pub in_one : (frame : Frame) (place : SourceColumn) (vs : List Value) → IsOne frame (is_in place vs) (λ row. list_any (λ v. are_equal (value_at frame row place, v)) vs)
in_one frame place vs = record {
  value = λ row. value_of (among (value_at frame row place) vs);
  is = λ row. in_value place.source place.column vs (at frame row);
  passed = λ row. in_passes (value_at frame row place) vs;
}

-- the columns hold one of these keys, as long as they are
abbrev pub AreLong : List SourceColumn → List (List Value) → Type 0
AreLong columns keys = AllByRecursion (λ key. length columns ≡ length key) keys

-- one of the keys is equal
abbrev pub equals_some : List (List Value) → List Value → Bool
equals_some keys values = list_any (equals_key values) keys

first_equal : (x : Value) (keys : List (List Value)) → AllByRecursion (λ key. ◌≡◌ {A = ℕ} 1 (length key)) keys → list_any (λ v. are_equal (x, v)) (map first_value keys) ≡ equals_some keys (x ∷ [])
first_equal x [] long = refl
first_equal x ([] ∷ keys) long = absurd (omega (arith, long.0))
first_equal x ((v ∷ w ∷ more) ∷ keys) long = absurd (omega (arith, long.0))
first_equal x ((v ∷ []) ∷ keys) long =
    ap (λ (b : Bool). b || list_any (λ u. are_equal (x, u)) (map first_value keys)) (sym (and_true (are_equal (x, v)))) ∙ ap (λ (b : Bool). equals_key (x ∷ []) (v ∷ []) || b) (first_equal x keys long.1)

-- the value of one key's condition
key_one : (frame : Frame) (columns : List SourceColumn) (key : List Value) → IsOne frame (has_key columns key) (λ row. equals_key (values_at frame columns row) key)
key_one frame columns key =
    let tests = subst (λ (es : List Expr). AreTests frame es (λ row. equals_key (values_at frame columns row) key && true)) (append-nil (has_values columns key)) (key_tests frame columns key [] (λ row. true) (no_tests frame)) in
    record {
      value = λ row. value_of (all3 (map truth_of (tests.values row)));
      is = λ row. all_value (has_values columns key) (tests.values row) (at frame row) (tests.each row []);
      passed = λ row. all_pass (tests.values row) ∙ tests.pass row ∙ and_true (equals_key (values_at frame columns row) key);
    }

passes_some : (frame : Frame) (columns : List SourceColumn) (keys : List (List Value)) (row : Row) → list_any passes (map (λ key. (key_one frame columns key).value row) keys) ≡ equals_some keys (values_at frame columns row)
passes_some frame columns [] row = refl
passes_some frame columns (key ∷ keys) row =
    ap (λ (b : Bool). b || list_any passes (map (λ key. (key_one frame columns key).value row) keys)) ((key_one frame columns key).passed row)
    ∙ ap (λ (b : Bool). equals_key (values_at frame columns row) key || b) (passes_some frame columns keys row)

-- the value of the condition that one of the keys is held
some_one : (frame : Frame) (columns : List SourceColumn) (keys : List (List Value)) → IsOne frame (expr.Or (map (has_key columns) keys)) (λ row. equals_some keys (values_at frame columns row))
some_one frame columns keys = record {
  value = λ row. value_of (any3 (map truth_of (map (λ key. (key_one frame columns key).value row) keys)));
  is = λ row.
      some_value (map (has_key columns) keys) (map (λ key. (key_one frame columns key).value row) keys) (at frame row)
      (ap (all_from (at frame row) []) (map_twice meaning_of (has_key columns) keys)
      ∙ values_of_all (at frame row) (λ key. meaning_of (has_key columns key)) (λ key. (key_one frame columns key).value row) (λ key. (key_one frame columns key).is row) [] keys);
  passed = λ row. some_pass (map (λ key. (key_one frame columns key).value row) keys) ∙ passes_some frame columns keys row;
}

-- ---- one of several keys

one_column : (frame : Frame) (place : SourceColumn) (keys : List (List Value)) (es : List Expr) (more : Row → Bool) → AreLong (place ∷ []) keys → AreTests frame es more
    → AreTests frame (holds_first keys place ∷ es) (λ row. equals_some keys (values_at frame (place ∷ []) row) && more row)
one_column frame place keys es more long tests =
    same_tests frame (holds_first keys place ∷ es) (λ row. list_any (λ v. are_equal (value_at frame row place, v)) (map first_value keys) && more row)
    (λ row. equals_some keys (values_at frame (place ∷ []) row) && more row)
    (λ row. ap (λ (b : Bool). b && more row) (first_equal (value_at frame row place) keys long))
    (one_test frame (holds_first keys place) es (λ row. list_any (λ v. are_equal (value_at frame row place, v)) (map first_value keys)) more (in_one frame place (map first_value keys)) tests)

or_false : (b : Bool) → (b || false) ≡ b
or_false true = refl
or_false false = refl

one_key : (frame : Frame) (columns : List SourceColumn) (key : List Value) (es : List Expr) (more : Row → Bool) → AreTests frame es more
    → AreTests frame ((has_values columns key ++ []) ++ es) (λ row. equals_some (key ∷ []) (values_at frame columns row) && more row)
one_key frame columns key es more tests =
    subst (λ (xs : List Expr). AreTests frame (xs ++ es) (λ row. equals_some (key ∷ []) (values_at frame columns row) && more row)) (sym (append-nil (has_values columns key)))
    (same_tests frame (has_values columns key ++ es) (λ row. equals_key (values_at frame columns row) key && more row) (λ row. equals_some (key ∷ []) (values_at frame columns row) && more row)
    (λ row. ap (λ (b : Bool). b && more row) (sym (or_false (equals_key (values_at frame columns row) key)))) (key_tests frame columns key es more tests))

some_keys : (frame : Frame) (columns : List SourceColumn) (keys : List (List Value)) (es : List Expr) (more : Row → Bool) → AreTests frame es more
    → AreTests frame (has_some_key columns keys ++ es) (λ row. equals_some keys (values_at frame columns row) && more row)
some_keys frame columns keys es more tests = one_test frame (expr.Or (map (has_key columns) keys)) es (λ row. equals_some keys (values_at frame columns row)) more (some_one frame columns keys) tests

abbrev AreTestsOf : Frame → List SourceColumn → List (List Value) → List Expr → (Row → Bool) → List Expr → Type 0
AreTestsOf frame columns keys es more first = AreTests frame (first ++ es) (λ row. equals_some keys (values_at frame columns row) && more row)

several_by : (frame : Frame) (columns : List SourceColumn) (key next : List Value) (keys : List (List Value)) (es : List Expr) (more : Row → Bool) (b : Bool) → (length (key ∷ next ∷ keys) == 1) ≡ b → AreTests frame es more
    → AreTestsOf frame columns (key ∷ next ∷ keys) es more (if b then flat_map (has_values columns) (key ∷ next ∷ keys) else has_some_key columns (key ∷ next ∷ keys))
several_by frame columns key next keys es more true is tests = let one = eqb-true (length (key ∷ next ∷ keys)) 1 is in absurd (omega (arith, one))
several_by frame columns key next keys es more false is tests = some_keys frame columns (key ∷ next ∷ keys) es more tests

several_columns : (frame : Frame) (columns : List SourceColumn) (keys : List (List Value)) (es : List Expr) (more : Row → Bool) → AreTests frame es more
    → AreTestsOf frame columns keys es more (if length keys == 1 then flat_map (has_values columns) keys else has_some_key columns keys)
several_columns frame columns [] es more tests = some_keys frame columns [] es more tests
several_columns frame columns (key ∷ []) es more tests = one_key frame columns key es more tests
several_columns frame columns (key ∷ next ∷ keys) es more tests = several_by frame columns key next keys es more (length (key ∷ next ∷ keys) == 1) refl tests

several_keys : (frame : Frame) (place next : SourceColumn) (columns : List SourceColumn) (keys : List (List Value)) (es : List Expr) (more : Row → Bool) (b : Bool) → (length (place ∷ next ∷ columns) == 1) ≡ b → AreTests frame es more
    → AreTestsOf frame (place ∷ next ∷ columns) keys es more
    (if b then map (holds_first keys) (place ∷ next ∷ columns) else if length keys == 1 then flat_map (has_values (place ∷ next ∷ columns)) keys else has_some_key (place ∷ next ∷ columns) keys)
several_keys frame place next columns keys es more true is tests = let one = eqb-true (length (place ∷ next ∷ columns)) 1 is in absurd (omega (arith, one))
several_keys frame place next columns keys es more false is tests = several_columns frame (place ∷ next ∷ columns) keys es more tests

-- columns hold one of these keys, and further conditions hold
pub keys_tests : (frame : Frame) (columns : List SourceColumn) (keys : List (List Value)) (es : List Expr) (more : Row → Bool) → AreLong columns keys → AreTests frame es more
    → AreTestsOf frame columns keys es more (has_one_of columns keys)
keys_tests frame [] keys es more long tests = several_columns frame [] keys es more tests
keys_tests frame (place ∷ []) keys es more long tests = one_column frame place keys es more long tests
keys_tests frame (place ∷ next ∷ columns) keys es more long tests = several_keys frame place next columns keys es more (length (place ∷ next ∷ columns) == 1) refl tests
