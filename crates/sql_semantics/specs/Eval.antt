-- The value of an expression at a row, by cases on the expression: three-valued, operands from left to right, with no short cut.
use Rattle.std.specs.Prelude.{ℕ, ◌+◌, ◌^◌, ℤ, pos, negsuc, ◌+ℤ◌, ◌-ℤ◌, ◌*ℤ◌, nat_lt, Bool, true, false, not, ◌||◌, if◌then◌else◌, ◌==◌, List, [], ◌∷◌, ◌++◌, length, map, filter, slice_get, Option, Some, None, Ok, Err}
use Rattle.std.specs.Str.{chars}
use Rattle.std.specs.Char.{to_ascii_lowercase, to_ascii_uppercase}
use Rattle.std.specs.Ordering.{is_lt}
use Rattle.base_core.specs.declared.value.Value.{Value}
use Rattle.base_core.specs.declared.value.Value.TheVariants as value
use Rattle.base_core.specs.declared.value.ArithOp.{ArithOp}
use Rattle.base_core.specs.declared.value.ArithOp.TheVariants.{Add, Sub, Mul}
use Rattle.base_core.specs.declared.refusal.Refusal.TheVariants.{DataError}
use Rattle.base_core.specs.declared.ids.TableId.{TableId}
use Rattle.base_core.specs.Order.{same_value, value_cmp}
pub use Rattle.schema_core.specs.Tables.{is_null}
use Rattle.expr_types.specs.declared.expr.Expr.{Expr}
use Rattle.expr_types.specs.declared.expr.Expr.TheOpen.{Expr-F}
use Rattle.expr_types.specs.declared.expr.Expr.TheFolds.{fold-Expr}
use Rattle.expr_types.specs.declared.expr.Origin.{Origin}
use Rattle.expr_types.specs.declared.expr.CompareOp.{CompareOp}
use Rattle.expr_types.specs.declared.expr.CompareOp.TheVariants.{Equal, NotEqual, Less, LessEqual, Greater, GreaterEqual}
use Rattle.expr_types.specs.declared.expr.Func.{Func}
use Rattle.expr_types.specs.declared.expr.Func.TheVariants.{Count, Sum, Min, Max, Lower, Upper, Length, Coalesce}
use Rattle.expr_types.specs.Level.{is_aggregate_function}
use Rattle.sql_semantics.specs.Checked.{Checked, ◌>>=◌}
use Rattle.sql_semantics.specs.Truth.{truth_of, value_of, passes, not3, and3, any3, all3, truth_or_opposite}
use Rattle.sql_semantics.specs.Texts.{like}

abbrev pub Row : Type 0
Row = List Value

abbrev pub Tables : Type 0
Tables = List (TableId × List Row)

-- where an expression is evaluated: the sources in scope, one after another in one row with the place at which each begins, the tables,
-- and the rows of the group, where there is one
pub record Place : Type 0 where
  pub row : Row
  pub starts : List ℕ
  pub tables : Tables
  pub group : Option (List Row)

abbrev pub Meaning : Type 0
Meaning = Place → Checked Value

-- ---- values

abbrev pub item_or_null : Option Value → Value
item_or_null (Some v) = v
item_or_null None = value.Null

abbrev pub after : Row → ℕ → Option ℕ → Value
after row c (Some start) = item_or_null (slice_get row (start + c))
after row c None = value.Null

-- column c of source s
abbrev pub column : Place → ℕ → ℕ → Value
column p s c = after p.row c (slice_get p.starts s)

abbrev pub fits_i64 : ℤ → Bool
fits_i64 (pos n) = nat_lt n (2 ^ 63)
fits_i64 (negsuc n) = nat_lt n (2 ^ 63)

abbrev pub exact : ArithOp → ℤ → ℤ → ℤ
exact Add a b = a +ℤ b
exact Sub a b = a -ℤ b
exact Mul a b = a *ℤ b

-- a result outside 64 bits is refused with the operator and its operands
abbrev pub integer_result : ArithOp → ℤ → ℤ → Checked ℤ
integer_result op a b = if fits_i64 (exact op a b) then Ok (exact op a b) else Err (DataError op a b)

abbrev pub int : Checked ℤ → Checked Value
int z = z >>= λ n. Ok (value.Int n)

abbrev pub arithmetic : ArithOp → Value → Value → Checked Value
arithmetic op (value.Int a) (value.Int b) = int (integer_result op a b)
arithmetic op a b = Ok value.Null

-- unary minus is 0 minus the operand
abbrev pub unary_minus : Value → Checked Value
unary_minus (value.Int a) = int (integer_result Sub (pos 0) a)
unary_minus a = Ok value.Null

abbrev pub concatenation_of : Value → Value → Value
concatenation_of (value.Text a) (value.Text b) = value.Text (a ++ b)
concatenation_of a b = value.Null

abbrev pub is_like : Value → Value → Option Bool
is_like (value.Text a) (value.Text b) = Some (like a b)
is_like a b = None

abbrev pub below : Value → Value → Bool
below a b = is_lt (value_cmp a b)

abbrev pub comparison_holds : CompareOp → Value → Value → Bool
comparison_holds Equal a b = same_value a b
comparison_holds NotEqual a b = not (same_value a b)
comparison_holds Less a b = below a b
comparison_holds LessEqual a b = not (below b a)
comparison_holds Greater a b = below b a
comparison_holds GreaterEqual a b = not (below a b)

-- a comparison with NULL is not known
abbrev pub comparison_truth : CompareOp → Value → Value → Option Bool
comparison_truth op a b = if is_null a || is_null b then None else Some (comparison_holds op a b)

-- x in (v, ..) is the `or` of x == v, ..
abbrev pub among : Value → List Value → Option Bool
among x vs = any3 (map (comparison_truth Equal x) vs)

-- x between a and b is x >= a and x <= b
abbrev pub between : Value → Value → Value → Option Bool
between x a b = and3 (comparison_truth GreaterEqual x a) (comparison_truth LessEqual x b)

abbrev pub first_known : List Value → Value
first_known [] = value.Null
first_known (v ∷ vs) = if is_null v then first_known vs else v

abbrev pub lower_case : Value → Value
lower_case (value.Text t) = value.Text (map to_ascii_lowercase t)
lower_case v = value.Null

abbrev pub upper_case : Value → Value
upper_case (value.Text t) = value.Text (map to_ascii_uppercase t)
upper_case v = value.Null

-- in characters
abbrev pub text_length : Value → Value
text_length (value.Text t) = value.Int (pos (length (chars t)))
text_length v = value.Null

-- ---- aggregates, over the values of a group's rows

abbrev pub known_values : List Value → List Value
known_values = filter (λ v. not (is_null v))

abbrev pub count_value : {A : Type 0} → List A → Value
count_value all = value.Int (pos (length all))

-- the running sum and the values that are left
abbrev pub sum_from : Value → List Value → Checked Value
sum_from sum [] = Ok sum
sum_from sum (v ∷ vs) = arithmetic Add sum v >>= λ next. sum_from next vs

-- NULL for no values; else they are added to 0, in order
abbrev pub total : List Value → Checked Value
total [] = Ok value.Null
total (v ∷ vs) = sum_from (value.Int (pos 0)) (v ∷ vs)

-- the first of the least values, NULL for none
abbrev pub least_from : Value → List Value → Value
least_from best [] = best
least_from best (v ∷ vs) = least_from (if is_null best || below v best then v else best) vs

abbrev pub least : List Value → Value
least = least_from value.Null

-- the first of the greatest values, NULL for none
abbrev pub greatest_from : Value → List Value → Value
greatest_from best [] = best
greatest_from best (v ∷ vs) = greatest_from (if is_null best || below best v then v else best) vs

abbrev pub greatest : List Value → Value
greatest = greatest_from value.Null

-- ---- expressions

abbrev pub one : Meaning → (Value → Checked Value) → Meaning
one a f p = a p >>= f

abbrev pub pair : Meaning → Meaning → Place → Checked (Value × Value)
pair a b p = a p >>= λ x. b p >>= λ y. Ok (x, y)

abbrev pub two : Meaning → Meaning → (Value → Value → Checked Value) → Meaning
two a b f p = pair a b p >>= λ v. f v.0 v.1

abbrev pub three : Meaning → Meaning → Meaning → (Value → Value → Value → Checked Value) → Meaning
three a b c f p = a p >>= λ x. pair b c p >>= λ v. f x v.0 v.1

-- the values of several operands, behind those so far
abbrev pub all_from : Place → List Value → List Meaning → Checked (List Value)
all_from p done [] = Ok done
all_from p done (m ∷ ms) = m p >>= λ v. all_from p (done ++ v ∷ []) ms

abbrev pub several : List Meaning → (List Value → Checked Value) → Meaning
several ms f p = all_from p [] ms >>= f

-- one operand at several rows, behind the values so far
abbrev pub along_from : Place → Meaning → List Value → List Row → Checked (List Value)
along_from p m done [] = Ok done
along_from p m done (r ∷ rs) = m (record p { row = r }) >>= λ v. along_from p m (done ++ v ∷ []) rs

abbrev pub without_group : Place → Place
without_group p = record p { group = None }

-- an aggregate's operand is evaluated at each row of the group, in order; what is NULL is left out
abbrev pub over : Option (List Row) → Place → Meaning → Checked (Option (List Value))
over None p m = Ok None
over (Some rows) p m = along_from (without_group p) m [] rows >>= λ vs. Ok (Some (known_values vs))

abbrev pub group_values : List Meaning → Place → Checked (Option (List Value))
group_values [] p = Ok None
group_values (m ∷ ms) p = over p.group p m

-- NULL outside a group
abbrev pub aggregate_value : Func → Option (List Value) → Checked Value
aggregate_value f None = Ok value.Null
aggregate_value Count (Some vs) = Ok (count_value vs)
aggregate_value Sum (Some vs) = total vs
aggregate_value Min (Some vs) = Ok (least vs)
aggregate_value Max (Some vs) = Ok (greatest vs)
aggregate_value f (Some vs) = Ok value.Null

abbrev pub first_of : List Value → Value
first_of [] = value.Null
first_of (v ∷ vs) = v

abbrev pub of_text : Func → Value → Value
of_text Lower v = lower_case v
of_text Upper v = upper_case v
of_text Length v = text_length v
of_text f v = value.Null

abbrev pub function_value : Func → List Value → Value
function_value Coalesce vs = first_known vs
function_value f vs = of_text f (first_of vs)

abbrev pub call_meaning : Func → List Meaning → Meaning
call_meaning f ms p = if is_aggregate_function f then group_values ms p >>= aggregate_value f else all_from p [] ms >>= λ vs. Ok (function_value f vs)

abbrev pub count_of : Option (List Row) → Value
count_of None = value.Null
count_of (Some rows) = count_value rows

-- the rows of a table, none where there is no such table
abbrev pub rows_in : Tables → ℕ → List Row
rows_in [] t = []
rows_in (x ∷ xs) t = if x.0.0 == t then x.1 else rows_in xs t

-- the same place with one more source, innermost
abbrev pub inside : Place → Row → Place
inside p r = record p { row = p.row ++ r; starts = p.starts ++ length p.row ∷ [] }

-- Whether the condition is true at one of the rows, all of which are tried.
abbrev pub some_from : Place → Meaning → Bool → List Row → Checked Bool
some_from p m found [] = Ok found
some_from p m found (r ∷ rs) = m (inside p r) >>= λ v. some_from p m (found || passes v) rs

abbrev pub truth : Option Bool → Checked Value
truth t = Ok (value_of t)

-- whether a row of the source meets the condition
abbrev pub existence : Bool → Origin → Meaning → Meaning
existence neg origin condition p = some_from p condition false (rows_in p.tables origin.table.0) >>= λ found. truth (truth_or_opposite neg (Some found))

-- one level of an expression, with the meanings of its operands
abbrev pub meaning : Expr-F Meaning → Meaning
meaning (Expr-F.Column s c) = λ p. Ok (column p s c.0)
meaning (Expr-F.Lit v) = λ p. Ok v
meaning (Expr-F.Compare op a b) = two a b (λ x y. truth (comparison_truth op x y))
meaning (Expr-F.IsNull neg a) = one a (λ x. truth (truth_or_opposite neg (Some (is_null x))))
meaning (Expr-F.And parts) = several parts (λ vs. truth (all3 (map truth_of vs)))
meaning (Expr-F.Or parts) = several parts (λ vs. truth (any3 (map truth_of vs)))
meaning (Expr-F.Not a) = one a (λ x. truth (not3 (truth_of x)))
meaning (Expr-F.Arith op a b) = two a b (arithmetic op)
meaning (Expr-F.Neg a) = one a unary_minus
meaning (Expr-F.Concat a b) = two a b (λ x y. Ok (concatenation_of x y))
meaning (Expr-F.Like neg a b) = two a b (λ x y. truth (truth_or_opposite neg (is_like x y)))
meaning (Expr-F.Ilike neg a b) = two a b (λ x y. truth (truth_or_opposite neg (is_like x y)))
meaning (Expr-F.InList neg a vs) = one a (λ x. truth (truth_or_opposite neg (among x vs)))
meaning (Expr-F.Between neg a b c) = three a b c (λ x y z. truth (truth_or_opposite neg (between x y z)))
meaning (Expr-F.Distinct neg a b) = two a b (λ x y. truth (truth_or_opposite neg (Some (not (same_value x y)))))
meaning (Expr-F.Call f operands) = call_meaning f operands
meaning Expr-F.CountAll = λ p. Ok (count_of p.group)
meaning (Expr-F.Exists neg origin condition) = existence neg origin condition

-- the meaning of an expression
unfoldable pub meaning_of : Expr → Meaning
meaning_of = fold-Expr Meaning meaning

-- at a row alone: no tables, and no group
abbrev pub at_row : Row → List ℕ → Place
at_row row starts = record { row = row; starts = starts; tables = []; group = None }
