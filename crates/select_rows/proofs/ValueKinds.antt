-- The value of an expression that stands in a scope is NULL or of the expression's kind.
use Rattle.std.proofs.Common.{◌≡◌, ℕ, ℤ, pos, Bool, true, false, not, ◌&&◌, ◌||◌, if◌then◌else◌, List, [], ◌∷◌, ◌++◌, length, map, nat_lt, Option, Some, None, Ok, Err, refl, sym, subst, ◌∙◌}
use Rattle.std.proofs.lemmas.Bool.{and_parts}
use Rattle.std.specs.List.{list_all, slice_get, AllByRecursion}
use Rattle.std.specs.Option.{is_some}
use Rattle.base_core.specs.declared.ids.ColumnNo.{ColumnNo}
use Rattle.base_core.specs.declared.value.ArithOp.{ArithOp}
use Rattle.base_core.specs.declared.value.ArithOp.TheVariants.{Add, Sub}
use Rattle.base_core.specs.declared.value.Kind.{Kind}
use Rattle.base_core.specs.declared.value.Kind.TheVariants as kinds
use Rattle.base_core.specs.declared.value.Value.{Value}
use Rattle.base_core.specs.declared.value.Value.TheVariants as value
use Rattle.schema_core.specs.declared.table.ColumnSpec.{ColumnSpec}
use Rattle.schema_core.specs.Catalog.{Catalog, kind_of}
use Rattle.expr_types.specs.declared.expr.Func.{Func}
use Rattle.expr_types.specs.declared.expr.Func.TheVariants.{Count, Sum, Min, Max, Lower, Upper, Length, Coalesce}
use Rattle.expr_types.specs.declared.expr.Expr.{Expr, roll-Expr}
use Rattle.expr_types.specs.declared.expr.Expr.TheOpen.{Expr-F}
use Rattle.expr_types.specs.declared.expr.Expr.TheFolds.{map-Expr}
use Rattle.expr_types.proofs.Folds.{bare, by_levels}
use Rattle.sql_semantics.specs.Kinds.{Scope, Judged, expression_kind, judged_level, gives, all_of, all_alike, in_scope, value_kind, column_in, column_kind, kind_where}
use Rattle.sql_semantics.specs.Kinds as typing
use Rattle.sql_semantics.specs.Plain.{Found, fits, is_of_kind, is_well_grouped, is_well_grouped_level}
use Rattle.sql_semantics.proofs.Equations.{fits_rolled, fits_step, judged_rolled, rolled, settled_rolled, with_settled}
use Rattle.sql_semantics.proofs.Typed.{all_of_each, alike_list, all_fits, gives_ok}
use Rattle.sql_semantics.specs.Checked.{Checked, ◌>>=◌}
use Rattle.sql_semantics.specs.Truth.{value_of}
use Rattle.sql_semantics.specs.Eval.{Place, Meaning, Row, after, meaning_of, meaning, truth, pair, all_from, along_from, call_meaning, integer_result, int, arithmetic, unary_minus, concatenation_of, sum_from, total, known_values, least_from, greatest_from, below, is_null, first_known, lower_case, upper_case, text_length, first_of, function_value, aggregate_value, group_values, over, without_group, count_of}
use Rattle.select_sources.proofs.Columns.{Columns, Fits, Members, Property, column_read}
use Rattle.select_sources.proofs.Sure.{Sure, bind_sure, every_more}
use Rattle.select_rows.proofs.Shapes.{every_filter}

abbrev pub OfKind : Kind → Value → Type 0
OfKind kind v = is_of_kind kind v ≡ true

-- a value of a column is NULL or of the column's kind
abbrev pub KindAt : Property
KindAt source column v = OfKind (kind_of column.kind) v

-- ---- judgements

gives_kind : (kind : Kind) (r : Judged) (k : Kind) → gives kind r ≡ Ok k → k ≡ kind
gives_kind kind r k e = (gives_ok kind r k e).0

all_of_kind : (wanted k : Kind) (js : List Judged) → all_of wanted js ≡ Ok k → k ≡ wanted
all_of_kind wanted k js e = (all_of_each wanted k js e).0

-- ---- values

as_kind : (k kind : Kind) (r : Checked Value) → k ≡ kind → Sure (OfKind kind) r → Sure (OfKind k) r
as_kind k kind r e h = subst (λ c. Sure (OfKind c) r) (sym e) h

literal_kind : (v : Value) → OfKind (value_kind v) v
literal_kind value.Null = refl
literal_kind (value.Bool b) = refl
literal_kind (value.Int n) = refl
literal_kind (value.Text t) = refl
literal_kind (value.Bytes b) = refl

null_kind : (k : Kind) → OfKind k value.Null
null_kind k = refl

truth_kind : (t : Option Bool) → OfKind kinds.Boolean (value_of t)
truth_kind (Some b) = refl
truth_kind None = refl

truth_sure : {A : Type 0} (r : Checked A) (f : A → Option Bool) → Sure (OfKind kinds.Boolean) (r >>= λ x. truth (f x))
truth_sure (Ok x) f = truth_kind (f x)
truth_sure (Err e) f = tt

truth_within : {A B : Type 0} (r : Checked A) (s : A → Checked B) (f : A → B → Option Bool) → Sure (OfKind kinds.Boolean) (r >>= λ x. s x >>= λ y. truth (f x y))
truth_within (Ok x) s f = truth_sure (s x) (f x)
truth_within (Err e) s f = tt

-- an answer of this kind, whatever it is made of
made_sure : {A : Type 0} (k : Kind) (r : Checked A) (f : A → Checked Value) → ((x : A) → Sure (OfKind k) (f x)) → Sure (OfKind k) (r >>= f)
made_sure k (Ok x) f h = h x
made_sure k (Err e) f h = tt

int_sure : (r : Checked ℤ) → Sure (OfKind kinds.Integer) (int r)
int_sure (Ok n) = refl
int_sure (Err e) = tt

arithmetic_sure : (op : ArithOp) (a b : Value) → Sure (OfKind kinds.Integer) (arithmetic op a b)
arithmetic_sure op (value.Int a) (value.Int b) = int_sure (integer_result op a b)
arithmetic_sure op a b = refl

negated_sure : (a : Value) → Sure (OfKind kinds.Integer) (unary_minus a)
negated_sure (value.Int a) = int_sure (integer_result Sub (pos 0) a)
negated_sure a = refl

concatenated_kind : (a b : Value) → OfKind kinds.Text (concatenation_of a b)
concatenated_kind (value.Text a) (value.Text b) = refl
concatenated_kind a b = refl

lowered_kind : (v : Value) → OfKind kinds.Text (lower_case v)
lowered_kind (value.Text t) = refl
lowered_kind v = refl

raised_kind : (v : Value) → OfKind kinds.Text (upper_case v)
raised_kind (value.Text t) = refl
raised_kind v = refl

length_kind : (v : Value) → OfKind kinds.Integer (text_length v)
length_kind (value.Text t) = refl
length_kind v = refl

chosen : (k : Kind) (b : Bool) (v w : Value) → OfKind k v → OfKind k w → OfKind k (if b then v else w)
chosen k true v w h g = h
chosen k false v w h g = g

first_kind : (k : Kind) (vs : List Value) → AllByRecursion (OfKind k) vs → OfKind k (first_known vs)
first_kind k [] h = null_kind k
first_kind k (v ∷ vs) h = chosen k (is_null v) (first_known vs) v (first_kind k vs h.1) h.0

least_kind : (k : Kind) (best : Value) (vs : List Value) → OfKind k best → AllByRecursion (OfKind k) vs → OfKind k (least_from best vs)
least_kind k best [] b h = b
least_kind k best (v ∷ vs) b h = least_kind k (if is_null best || below v best then v else best) vs (chosen k (is_null best || below v best) v best h.0 b) h.1

greatest_kind : (k : Kind) (best : Value) (vs : List Value) → OfKind k best → AllByRecursion (OfKind k) vs → OfKind k (greatest_from best vs)
greatest_kind k best [] b h = b
greatest_kind k best (v ∷ vs) b h = greatest_kind k (if is_null best || below best v then v else best) vs (chosen k (is_null best || below best v) v best h.0 b) h.1

added_sure : (sum : Value) (vs : List Value) → OfKind kinds.Integer sum → Sure (OfKind kinds.Integer) (sum_from sum vs)
added_sure sum [] h = h
added_sure sum (v ∷ vs) h = bind_sure (OfKind kinds.Integer) (OfKind kinds.Integer) (arithmetic Add sum v) (λ next. sum_from next vs) (arithmetic_sure Add sum v) (λ next g. added_sure next vs g)

total_sure : (vs : List Value) → Sure (OfKind kinds.Integer) (total vs)
total_sure [] = refl
total_sure (v ∷ vs) = added_sure (value.Int (pos 0)) (v ∷ vs) refl

-- ---- operands

abbrev Settled : ℕ → Expr → Bool → Type 0
Settled own e blind = blind ≡ true → is_well_grouped true [] own e ≡ true

abbrev pub Claim : Expr → Type 0
Claim e = (schema : Catalog) (scope : Scope) (p : Place) (blind : Bool) → Fits KindAt schema scope p blind → Settled (length scope) e blind → fits schema e scope ≡ true → (k : Kind) → expression_kind schema e scope ≡ Ok k → Sure (OfKind k) (meaning_of e p)

abbrev Known : Type 0
Known = (e : Expr) × Claim e

abbrev plain : List Known → List Expr
plain = map (λ k. k.0)

abbrev AllFit : Catalog → Scope → List Expr → Type 0
AllFit schema scope es = AllByRecursion (λ e. fits schema e scope ≡ true) es

abbrev AllJudged : Catalog → Scope → Kind → List Expr → Type 0
AllJudged schema scope k es = AllByRecursion (λ e. expression_kind schema e scope ≡ Ok k) es

all_settled : (own : ℕ) (es : List Expr) → list_all (λ (found : Found). found.1) (map (with_settled own) es) ≡ true → AllByRecursion (λ e. is_well_grouped true [] own e ≡ true) es
all_settled own [] h = tt
all_settled own (e ∷ es) h = let both = and_parts (is_well_grouped true [] own e) (list_all (λ (found : Found). found.1) (map (with_settled own) es)) h in (both.0, all_settled own es both.1)

all_sure : (schema : Catalog) (scope : Scope) (p : Place) (blind : Bool) (k : Kind) → Fits KindAt schema scope p blind → (ks : List Known) → (blind ≡ true → AllByRecursion (λ e. is_well_grouped true [] (length scope) e ≡ true) (plain ks))
    → AllFit schema scope (plain ks) → AllJudged schema scope k (plain ks) → (done : List Value) → AllByRecursion (OfKind k) done → Sure (AllByRecursion (OfKind k)) (all_from p done (map meaning_of (plain ks)))
all_sure schema scope p blind k h [] s f j done d = d
all_sure schema scope p blind k h (x ∷ ks) s f j done d =
    bind_sure (OfKind k) (AllByRecursion (OfKind k)) (meaning_of x.0 p) (λ v. all_from p (done ++ v ∷ []) (map meaning_of (plain ks))) (x.1 schema scope p blind h (λ b. (s b).0) f.0 k j.0)
    (λ v g. all_sure schema scope p blind k h ks (λ b. (s b).1) f.1 j.1 (done ++ v ∷ []) (every_more (OfKind k) done v d g))

along_sure : (schema : Catalog) (scope : Scope) (p : Place) (k : Kind) (x : Known) → fits schema x.0 scope ≡ true → expression_kind schema x.0 scope ≡ Ok k → (rows : List Row) → AllByRecursion (Columns KindAt schema scope p.starts) rows
    → (done : List Value) → AllByRecursion (OfKind k) done → Sure (AllByRecursion (OfKind k)) (along_from (without_group p) (meaning_of x.0) done rows)
along_sure schema scope p k x f j [] m done d = d
along_sure schema scope p k x f j (r ∷ rows) m done d =
    bind_sure (OfKind k) (AllByRecursion (OfKind k)) (meaning_of x.0 (record (without_group p) { row = r })) (λ v. along_from (without_group p) (meaning_of x.0) (done ++ v ∷ []) rows)
    (x.1 schema scope (record (without_group p) { row = r }) false (record { columns = λ _. m.0; members = tt }) (λ b. absurd (cc)) f k j)
    (λ v g. along_sure schema scope p k x f j rows m.1 (done ++ v ∷ []) (every_more (OfKind k) done v d g))

abbrev Gathered : Kind → Option (List Value) → Type 0
Gathered k None = Unit {0}
Gathered k (Some vs) = AllByRecursion (OfKind k) vs

over_sure : (schema : Catalog) (scope : Scope) (p : Place) (k : Kind) (x : Known) → fits schema x.0 scope ≡ true → expression_kind schema x.0 scope ≡ Ok k → (g : Option (List Row)) → Members KindAt schema scope p.starts g
    → Sure (Gathered k) (over g p (meaning_of x.0))
over_sure schema scope p k x f j None m = tt
over_sure schema scope p k x f j (Some rows) m =
    bind_sure (AllByRecursion (OfKind k)) (Gathered k) (along_from (without_group p) (meaning_of x.0) [] rows) (λ vs. Ok (Some (known_values vs))) (along_sure schema scope p k x f j rows m [] tt)
    (λ vs h. every_filter (OfKind k) (λ v. not (is_null v)) vs h)

gathered_sure : (schema : Catalog) (scope : Scope) (p : Place) (blind : Bool) (k : Kind) → Fits KindAt schema scope p blind → (ks : List Known) → AllFit schema scope (plain ks) → AllJudged schema scope k (plain ks)
    → Sure (Gathered k) (group_values (map meaning_of (plain ks)) p)
gathered_sure schema scope p blind k h [] f j = tt
gathered_sure schema scope p blind k h (x ∷ ks) f j = over_sure schema scope p k x f.0 j.0 p.group h.members

count_sure : (o : Option (List Value)) → Sure (OfKind kinds.Integer) (aggregate_value Count o)
count_sure None = refl
count_sure (Some vs) = refl

sum_sure : (o : Option (List Value)) → Sure (OfKind kinds.Integer) (aggregate_value Sum o)
sum_sure None = refl
sum_sure (Some vs) = total_sure vs

min_sure : (k : Kind) (o : Option (List Value)) → Gathered k o → Sure (OfKind k) (aggregate_value Min o)
min_sure k None h = null_kind k
min_sure k (Some vs) h = least_kind k value.Null vs (null_kind k) h

max_sure : (k : Kind) (o : Option (List Value)) → Gathered k o → Sure (OfKind k) (aggregate_value Max o)
max_sure k None h = null_kind k
max_sure k (Some vs) h = greatest_kind k value.Null vs (null_kind k) h

group_count : (g : Option (List Row)) → OfKind kinds.Integer (count_of g)
group_count None = refl
group_count (Some rows) = refl

-- the operands of one call are settled
abbrev CallSettled : ℕ → Func → List Expr → Bool → Type 0
CallSettled own f es blind = blind ≡ true → is_well_grouped_level true own (Expr-F.Call f (map (with_settled own) es)) ≡ true

coalesce_settled : (own : ℕ) (es : List Expr) → is_well_grouped_level true own (Expr-F.Call Coalesce (map (with_settled own) es)) ≡ true → AllByRecursion (λ e. is_well_grouped true [] own e ≡ true) es
coalesce_settled own es h = all_settled own es h

called_sure : (schema : Catalog) (scope : Scope) (p : Place) (blind : Bool) → Fits KindAt schema scope p blind → (f : Func) (ks : List Known) → CallSettled (length scope) f (plain ks) blind → AllFit schema scope (plain ks)
    → (k : Kind) → typing.call_kind f (in_scope scope (map (expression_kind schema) (plain ks))) ≡ Ok k → Sure (OfKind k) (call_meaning f (map meaning_of (plain ks)) p)
called_sure schema scope p blind h Count ks s f k j =
    as_kind k kinds.Integer _ (gives_kind kinds.Integer (all_alike (in_scope scope (map (expression_kind schema) (plain ks)))) k j) (made_sure kinds.Integer (group_values (map meaning_of (plain ks)) p) (aggregate_value Count) count_sure)
called_sure schema scope p blind h Sum ks s f k j =
    as_kind k kinds.Integer _ (all_of_kind kinds.Integer k (in_scope scope (map (expression_kind schema) (plain ks))) j) (made_sure kinds.Integer (group_values (map meaning_of (plain ks)) p) (aggregate_value Sum) sum_sure)
called_sure schema scope p blind h Min ks s f k j =
    bind_sure (Gathered k) (OfKind k) (group_values (map meaning_of (plain ks)) p) (aggregate_value Min)
    (gathered_sure schema scope p blind k h ks f (alike_list schema scope k (plain ks) j)) (λ o g. min_sure k o g)
called_sure schema scope p blind h Max ks s f k j =
    bind_sure (Gathered k) (OfKind k) (group_values (map meaning_of (plain ks)) p) (aggregate_value Max)
    (gathered_sure schema scope p blind k h ks f (alike_list schema scope k (plain ks) j)) (λ o g. max_sure k o g)
called_sure schema scope p blind h Lower ks s f k j =
    as_kind k kinds.Text _ (all_of_kind kinds.Text k (in_scope scope (map (expression_kind schema) (plain ks))) j) (made_sure kinds.Text (all_from p [] (map meaning_of (plain ks))) (λ vs. Ok (function_value Lower vs)) (λ vs. lowered_kind (first_of vs)))
called_sure schema scope p blind h Upper ks s f k j =
    as_kind k kinds.Text _ (all_of_kind kinds.Text k (in_scope scope (map (expression_kind schema) (plain ks))) j) (made_sure kinds.Text (all_from p [] (map meaning_of (plain ks))) (λ vs. Ok (function_value Upper vs)) (λ vs. raised_kind (first_of vs)))
called_sure schema scope p blind h Length ks s f k j =
    as_kind k kinds.Integer _ (gives_kind kinds.Integer (all_of kinds.Text (in_scope scope (map (expression_kind schema) (plain ks)))) k j) (made_sure kinds.Integer (all_from p [] (map meaning_of (plain ks))) (λ vs. Ok (function_value Length vs)) (λ vs. length_kind (first_of vs)))
called_sure schema scope p blind h Coalesce ks s f k j =
    bind_sure (AllByRecursion (OfKind k)) (OfKind k) (all_from p [] (map meaning_of (plain ks))) (λ vs. Ok (function_value Coalesce vs))
    (all_sure schema scope p blind k h ks (λ b. coalesce_settled (length scope) (plain ks) (s b)) f (alike_list schema scope k (plain ks) j) [] tt)
    (λ vs g. first_kind k vs g)

-- ---- columns

column_by : (schema : Catalog) (scope : Scope) (p : Place) (blind : Bool) (s : ℕ) (c : ColumnNo) (o : Option ColumnSpec) → column_in schema scope s c ≡ o → is_some o ≡ true → Fits KindAt schema scope p blind
    → (blind ≡ true → not (nat_lt s (length scope)) ≡ true) → OfKind (kind_where o) (after p.row c.0 (slice_get p.starts s))
column_by schema scope p blind s c (Some column) is there h apart = column_read KindAt schema scope p blind s c column h apart is
column_by schema scope p blind s c None is there h apart = absurd (cc)

column_seen : (schema : Catalog) (scope : Scope) (p : Place) (blind : Bool) (s : ℕ) (c : ColumnNo) → Fits KindAt schema scope p blind → (blind ≡ true → not (nat_lt s (length scope)) ≡ true) → is_some (column_in schema scope s c) ≡ true
    → OfKind (column_kind schema scope s c) (after p.row c.0 (slice_get p.starts s))
column_seen schema scope p blind s c h apart there = column_by schema scope p blind s c (column_in schema scope s c) refl there h apart

-- ---- the levels

level : (y : Expr-F Known) (schema : Catalog) (scope : Scope) (p : Place) (blind : Bool) → Fits KindAt schema scope p blind
    → (blind ≡ true → is_well_grouped_level true (length scope) (map-Expr Expr Found (with_settled (length scope)) (bare y)) ≡ true)
    → fits_step schema (map-Expr Expr (Scope → Bool) (fits schema) (bare y)) scope ≡ true → (k : Kind) → judged_level schema (map-Expr Expr (Scope → Judged) (expression_kind schema) (bare y)) scope ≡ Ok k
    → Sure (OfKind k) (meaning (map-Expr Expr Meaning meaning_of (bare y)) p)
level (Expr-F.Column s c) schema scope p blind h a f k j =
    as_kind k (column_kind schema scope s c) (Ok (after p.row c.0 (slice_get p.starts s))) (cc) (column_seen schema scope p blind s c h (λ b. (and_parts (not (nat_lt s (length scope))) true (and_parts (not (nat_lt s (length scope)) && true) true (a b)).0).0) (and_parts (is_some (column_in schema scope s c)) _ f).0)
level (Expr-F.Lit v) schema scope p blind h a f k j = as_kind k (value_kind v) (Ok v) (cc) (literal_kind v)
level (Expr-F.Compare op x y) schema scope p blind h a f k j = as_kind k kinds.Boolean _ (gives_kind kinds.Boolean _ k j) (truth_sure (pair (meaning_of x.0) (meaning_of y.0) p) _)
level (Expr-F.IsNull g x) schema scope p blind h a f k j = as_kind k kinds.Boolean _ (gives_kind kinds.Boolean _ k j) (truth_sure (meaning_of x.0 p) _)
level (Expr-F.And es) schema scope p blind h a f k j = as_kind k kinds.Boolean _ (all_of_kind kinds.Boolean k (in_scope scope (map (expression_kind schema) (plain es))) j) (truth_sure (all_from p [] (map meaning_of (plain es))) _)
level (Expr-F.Or es) schema scope p blind h a f k j = as_kind k kinds.Boolean _ (all_of_kind kinds.Boolean k (in_scope scope (map (expression_kind schema) (plain es))) j) (truth_sure (all_from p [] (map meaning_of (plain es))) _)
level (Expr-F.Not x) schema scope p blind h a f k j = as_kind k kinds.Boolean _ (all_of_kind kinds.Boolean k (expression_kind schema x.0 scope ∷ []) j) (truth_sure (meaning_of x.0 p) _)
level (Expr-F.Arith op x y) schema scope p blind h a f k j =
    as_kind k kinds.Integer _ (all_of_kind kinds.Integer k (expression_kind schema x.0 scope ∷ expression_kind schema y.0 scope ∷ []) j) (made_sure kinds.Integer (pair (meaning_of x.0) (meaning_of y.0) p) (λ v. arithmetic op v.0 v.1) (λ v. arithmetic_sure op v.0 v.1))
level (Expr-F.Neg x) schema scope p blind h a f k j = as_kind k kinds.Integer _ (all_of_kind kinds.Integer k (expression_kind schema x.0 scope ∷ []) j) (made_sure kinds.Integer (meaning_of x.0 p) unary_minus negated_sure)
level (Expr-F.Concat x y) schema scope p blind h a f k j =
    as_kind k kinds.Text _ (all_of_kind kinds.Text k (expression_kind schema x.0 scope ∷ expression_kind schema y.0 scope ∷ []) j) (made_sure kinds.Text (pair (meaning_of x.0) (meaning_of y.0) p) (λ v. Ok (concatenation_of v.0 v.1)) (λ v. concatenated_kind v.0 v.1))
level (Expr-F.Like g x y) schema scope p blind h a f k j = as_kind k kinds.Boolean _ (gives_kind kinds.Boolean _ k j) (truth_sure (pair (meaning_of x.0) (meaning_of y.0) p) _)
level (Expr-F.Ilike g x y) schema scope p blind h a f k j = as_kind k kinds.Boolean _ (gives_kind kinds.Boolean _ k j) (truth_sure (pair (meaning_of x.0) (meaning_of y.0) p) _)
level (Expr-F.InList g x vs) schema scope p blind h a f k j = as_kind k kinds.Boolean _ (gives_kind kinds.Boolean _ k j) (truth_sure (meaning_of x.0 p) _)
level (Expr-F.Between g x y z) schema scope p blind h a f k j = as_kind k kinds.Boolean _ (gives_kind kinds.Boolean _ k j) (truth_within (meaning_of x.0 p) (λ _. pair (meaning_of y.0) (meaning_of z.0) p) _)
level (Expr-F.Distinct g x y) schema scope p blind h a f k j = as_kind k kinds.Boolean _ (gives_kind kinds.Boolean _ k j) (truth_sure (pair (meaning_of x.0) (meaning_of y.0) p) _)
level (Expr-F.Call g es) schema scope p blind h a f k j = called_sure schema scope p blind h g es a (all_fits schema scope (plain es) (and_parts _ _ f).1) k j
level Expr-F.CountAll schema scope p blind h a f k j = as_kind k kinds.Integer (Ok (count_of p.group)) (cc) (group_count p.group)
level (Expr-F.Exists g o x) schema scope p blind h a f k j = as_kind k kinds.Boolean _ (all_of_kind kinds.Boolean k (expression_kind schema x.0 (scope ++ o.table ∷ []) ∷ []) j) (truth_sure _ _)

step : (y : Expr-F Known) → Claim (roll-Expr (bare y))
step y schema scope p blind h a f k j =
    subst (λ (m : Meaning). Sure (OfKind k) (m p)) (sym (rolled (bare y)))
    (level y schema scope p blind h (λ b. sym (settled_rolled (length scope) (bare y)) ∙ a b) (sym (fits_rolled schema scope (bare y)) ∙ f) k (sym (judged_rolled schema scope (bare y)) ∙ j))

-- the value of an expression that stands in the scope is NULL or of its kind
pub kind_sure : (e : Expr) → Claim e
kind_sure = by_levels Claim step
