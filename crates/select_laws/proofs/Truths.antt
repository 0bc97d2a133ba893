-- An expression of boolean kind is true, false or NULL.
use Rattle.std.proofs.Common.{◌≡◌, ℕ, Bool, true, false, not, ◌||◌, cond, List, [], ◌∷◌, ◌++◌, map, Option, Some, None, Ok, Err, refl, sym, ap, subst, ◌∙◌}
use Rattle.std.proofs.lemmas.Bool.{and_parts}
use Rattle.std.specs.Option.{is_some}
use Rattle.std.specs.List.{slice_get, AllByRecursion}
use Rattle.base_core.specs.declared.value.Value.TheVariants as value
use Rattle.base_core.specs.declared.value.Kind.{Kind}
use Rattle.base_core.specs.declared.value.Kind.TheVariants as kinds
use Rattle.schema_core.specs.declared.table.ColumnSpec.{ColumnSpec}
use Rattle.base_core.specs.declared.ids.ColumnNo.{ColumnNo}
use Rattle.base_core.specs.declared.value.Value.{Value}
use Rattle.expr_types.specs.declared.expr.Func.{Func}
use Rattle.expr_types.specs.declared.expr.Expr.{Expr, roll-Expr}
use Rattle.expr_types.specs.declared.expr.Expr.TheOpen.{Expr-F}
use Rattle.expr_types.specs.declared.expr.Expr.TheVariants as expr
use Rattle.expr_types.specs.declared.expr.Expr.TheFolds.{ind-Expr, map-Expr}
use Rattle.expr_types.specs.declared.expr.Func.TheVariants.{Count, Sum, Min, Max, Lower, Upper, Length, Coalesce}
use Rattle.schema_core.specs.Catalog.{Catalog, kind_of}
use Rattle.sql_semantics.specs.Kinds.{Scope, Judged, expression_kind, all_of, call_kind, in_scope, value_kind, column_in, kind_where}
use Rattle.sql_semantics.specs.Plain.{fits, is_of_kind}
use Rattle.sql_semantics.specs.Checked.{Checked, ◌>>=◌}
use Rattle.sql_semantics.specs.Truth.{value_of}
use Rattle.sql_semantics.specs.Eval.{Place, Row, meaning_of, truth, all_from, along_from, without_group, group_values, over, known_values, aggregate_value, least_from, greatest_from, below, first_known, is_null, column, after}
use Rattle.select_laws.specs.Apart.{stands_apart, may_be}
use Rattle.select_laws.specs.Places.{FitsPlace}
use Rattle.select_laws.proofs.Apart.{Apart, Free, apart_each, aggregate_free}
use Rattle.sql_semantics.proofs.Equations.{evaluated-Column, evaluated-Lit, evaluated-Compare, evaluated-IsNull, evaluated-And, evaluated-Or, evaluated-Not, evaluated-Like, evaluated-Ilike, evaluated-InList, evaluated-Between, evaluated-Distinct, evaluated-Call, evaluated-Exists, judged-Column, judged-Lit, judged-Arith, judged-Neg, judged-Concat, judged-Call, judged-CountAll, fits-Column, fits-Call}
use Rattle.select_laws.proofs.Equations.{apart-Call}
use Rattle.select_laws.proofs.Inside.{Fits, ReadsAt, member, alone, column_reads}
use Rattle.select_laws.proofs.Negations.{Truthful, truth_value}
use Rattle.sql_semantics.proofs.Typed.{all_of_each, gives_ok, alike_list, all_fits}

truthful_is : (t : Option Bool) (v : Value) → value_of t ≡ v → Truthful v
truthful_is t v e = subst Truthful e (ap value_of (truth_value t))

truth_is : {A : Type 0} (r : Checked A) (f : A → Option Bool) (v : Value) → (r >>= λ x. truth (f x)) ≡ Ok v → Truthful v
truth_is (Ok x) f v e = truthful_is (f x) v (cc)
truth_is (Err g) f v e = absurd (cc)

truth_within : {A B : Type 0} (r : Checked A) (s : A → Checked B) (f : A → B → Option Bool) (v : Value) → (r >>= λ x. s x >>= λ y. truth (f x y)) ≡ Ok v → Truthful v
truth_within (Ok x) s f v e = truth_is (s x) (f x) v e
truth_within (Err g) s f v e = absurd (cc)

of_boolean : (v : Value) → is_of_kind kinds.Boolean v ≡ true → Truthful v
of_boolean value.Null e = refl
of_boolean (value.Bool b) e = refl
of_boolean (value.Int n) e = absurd (cc)
of_boolean (value.Text t) e = absurd (cc)
of_boolean (value.Bytes b) e = absurd (cc)

literal_truth : (v : Value) → value_kind v ≡ kinds.Boolean → Truthful v
literal_truth value.Null e = refl
literal_truth (value.Bool b) e = refl
literal_truth (value.Int n) e = absurd (cc)
literal_truth (value.Text t) e = absurd (cc)
literal_truth (value.Bytes b) e = absurd (cc)

reads_truth : (row : Row) (start : Option ℕ) (c : ℕ) (kind : Kind) → ReadsAt row start c kind → kind ≡ kinds.Boolean → Truthful (after row c start)
reads_truth row start c kind h e = of_boolean (after row c start) (subst (λ k. is_of_kind k (after row c start) ≡ true) e h)

column_truth : (schema : Catalog) (scope : Scope) (outer : ℕ) (free : Bool) (p : Place) → Fits schema scope outer free p → (s : ℕ) (c : ColumnNo) → Apart p.group outer free (expr.Column s c) → (o : Option ColumnSpec) → column_in schema scope s c ≡ o →
    is_some o ≡ true → kind_where o ≡ kinds.Boolean → Truthful (column p s c.0)
column_truth schema scope outer free p h s c a (Some spec) is here e = reads_truth p.row (slice_get p.starts s) c.0 (kind_of spec.kind) (column_reads schema scope outer free p h s c spec a is) e
column_truth schema scope outer free p h s c a None is here e = absurd (cc)

abbrev pub Claim : Expr → Type 0
Claim e = (schema : Catalog) (scope : Scope) (outer : ℕ) (free : Bool) (p : Place) → Fits schema scope outer free p → fits schema e scope ≡ true → Apart p.group outer free e → expression_kind schema e scope ≡ Ok kinds.Boolean → (v : Value) → meaning_of e p ≡ Ok v → Truthful v

abbrev answer : Value → Checked Value
answer v = Ok v

value_is : {v w : Value} → answer v ≡ answer w → v ≡ w
value_is e = cc

abbrev list_or_none : Option (List Value) → Checked (Option (List Value))
list_or_none o = Ok o

option_is : {o q : Option (List Value)} → list_or_none o ≡ list_or_none q → o ≡ q
option_is e = cc

abbrev Known : Type 0
Known = (e : Expr) × Claim e

abbrev AllTruthful : List Value → Type 0
AllTruthful = AllByRecursion Truthful

all_push : (vs : List Value) (v : Value) → AllTruthful vs → Truthful v → AllTruthful (vs ++ v ∷ [])
all_push [] v h t = (t, tt)
all_push (w ∷ vs) v h t = (h.0, all_push vs v h.1 t)

first_truthful_by : (b : Bool) (x v : Value) → Truthful x → Truthful v → Truthful (cond b x v)
first_truthful_by true x v hx hv = hx
first_truthful_by false x v hx hv = hv

first_truthful : (vs : List Value) → AllTruthful vs → Truthful (first_known vs)
first_truthful [] h = refl
first_truthful (v ∷ vs) h = first_truthful_by (is_null v) (first_known vs) v (first_truthful vs h.1) h.0

pub bind_ok : {A B : Type 0} (r : Checked A) (f : A → Checked B) (y : B) → (r >>= f) ≡ Ok y → (x : A) × (r ≡ Ok x) × (f x ≡ Ok y)
bind_ok (Ok x) f y e = (x, refl, e)
bind_ok (Err g) f y e = absurd (cc)

all_from_truthful : (schema : Catalog) (scope : Scope) (outer : ℕ) (free : Bool) (p : Place) → Fits schema scope outer free p → (es : List Known) → AllByRecursion (λ e. fits schema e scope ≡ true) (map (λ e. e.0) es) →
    AllByRecursion (Apart p.group outer free) (map (λ e. e.0) es) → AllByRecursion (λ e. expression_kind schema e scope ≡ Ok kinds.Boolean) (map (λ e. e.0) es) → (done vs : List Value) → AllTruthful done → all_from p done (map meaning_of (map (λ e. e.0) es)) ≡ Ok vs → AllTruthful vs
all_from_truthful schema scope outer free p h [] f a j done vs t e = subst AllTruthful (cc) t
all_from_truthful schema scope outer free p h (k ∷ es) f a j done vs t e =
    let one = bind_ok (meaning_of k.0 p) (λ v. all_from p (done ++ v ∷ []) (map meaning_of (map (λ (d : Known). d.0) es))) vs e in
    all_from_truthful schema scope outer free p h es f.1 a.1 j.1 (done ++ one.0 ∷ []) vs (all_push done one.0 t (k.1 schema scope outer free p h f.0 a.0 j.0 one.0 one.1)) one.2

-- the values that an aggregate goes over, where there is a group
abbrev IfTruthful : Option (List Value) → Type 0
IfTruthful None = Unit {0}
IfTruthful (Some vs) = AllTruthful vs

along_truthful : (schema : Catalog) (scope : Scope) (outer : ℕ) (free : Bool) (p : Place) (k : Known) → fits schema k.0 scope ≡ true → expression_kind schema k.0 scope ≡ Ok kinds.Boolean →
    (rows : List Row) → AllByRecursion (λ row. FitsPlace schema scope (member p row)) rows → (done vs : List Value) → AllTruthful done → along_from (without_group p) (meaning_of k.0) done rows ≡ Ok vs → AllTruthful vs
along_truthful schema scope outer free p k f j [] each done vs t e = subst AllTruthful (cc) t
along_truthful schema scope outer free p k f j (row ∷ rows) each done vs t e =
    let one = bind_ok (meaning_of k.0 (member p row)) (λ v. along_from (without_group p) (meaning_of k.0) (done ++ v ∷ []) rows) vs e in
    along_truthful schema scope outer free p k f j rows each.1 (done ++ one.0 ∷ []) vs (all_push done one.0 t (k.1 schema scope 0 true (member p row) (alone schema scope true (member p row) each.0) f refl j one.0 one.1)) one.2

known_by : (b : Bool) (v : Value) (vs : List Value) → Truthful v → AllTruthful vs → AllTruthful (cond b (v ∷ vs) vs)
known_by true v vs hv h = (hv, h)
known_by false v vs hv h = h

known_truthful : (vs : List Value) → AllTruthful vs → AllTruthful (known_values vs)
known_truthful [] h = tt
known_truthful (v ∷ vs) h = known_by (not (is_null v)) v (known_values vs) h.0 (known_truthful vs h.1)

over_truthful : (schema : Catalog) (scope : Scope) (outer : ℕ) (free : Bool) (p : Place) → Fits schema scope outer free p → (k : Known) → fits schema k.0 scope ≡ true → expression_kind schema k.0 scope ≡ Ok kinds.Boolean →
    (group : Option (List Row)) → p.group ≡ group → Free group free → (o : Option (List Value)) → over group p (meaning_of k.0) ≡ Ok o → IfTruthful o
over_truthful schema scope outer free p h k f j None is may o e = subst IfTruthful (option_is e) tt
over_truthful schema scope outer free p h k f j (Some rows) is may o e =
    let one = bind_ok (along_from (without_group p) (meaning_of k.0) [] rows) (λ vs. Ok (Some (known_values vs))) o e in
    subst IfTruthful (option_is one.2) (known_truthful one.0 (along_truthful schema scope outer free p k f j rows (h.each rows may is) [] one.0 tt one.1))

gathered_truthful : (schema : Catalog) (scope : Scope) (outer : ℕ) (free : Bool) (p : Place) → Fits schema scope outer free p → Free p.group free → (es : List Known) → AllByRecursion (λ e. fits schema e scope ≡ true) (map (λ e. e.0) es) →
    AllByRecursion (λ e. expression_kind schema e scope ≡ Ok kinds.Boolean) (map (λ e. e.0) es) → (o : Option (List Value)) → group_values (map meaning_of (map (λ e. e.0) es)) p ≡ Ok o → IfTruthful o
gathered_truthful schema scope outer free p h may [] f j o e = subst IfTruthful (option_is e) tt
gathered_truthful schema scope outer free p h may (k ∷ es) f j o e = over_truthful schema scope outer free p h k f.0 j.0 p.group refl may o e

least_truthful : (vs : List Value) (best : Value) → Truthful best → AllTruthful vs → Truthful (least_from best vs)
least_truthful [] best hb h = hb
least_truthful (v ∷ vs) best hb h = least_truthful vs (cond (is_null best || below v best) v best) (first_truthful_by (is_null best || below v best) v best h.0 hb) h.1

greatest_truthful : (vs : List Value) (best : Value) → Truthful best → AllTruthful vs → Truthful (greatest_from best vs)
greatest_truthful [] best hb h = hb
greatest_truthful (v ∷ vs) best hb h = greatest_truthful vs (cond (is_null best || below best v) v best) (first_truthful_by (is_null best || below best v) v best h.0 hb) h.1

least_truth : (o : Option (List Value)) (v : Value) → IfTruthful o → aggregate_value Min o ≡ Ok v → Truthful v
least_truth None v h e = subst Truthful (value_is e) refl
least_truth (Some vs) v h e = subst Truthful (value_is e) (least_truthful vs value.Null refl h)

greatest_truth : (o : Option (List Value)) (v : Value) → IfTruthful o → aggregate_value Max o ≡ Ok v → Truthful v
greatest_truth None v h e = subst Truthful (value_is e) refl
greatest_truth (Some vs) v h e = subst Truthful (value_is e) (greatest_truthful vs value.Null refl h)

no_boolean : (k : Kind) (js : List Judged) → all_of k js ≡ Ok kinds.Boolean → kinds.Boolean ≡ k
no_boolean k js e = (all_of_each k kinds.Boolean js e).0

abbrev verdict : Kind → Judged
verdict k = Ok k

kind_is : {j k : Kind} → verdict j ≡ verdict k → j ≡ k
kind_is e = cc

not_boolean_integer : kinds.Boolean ≡ kinds.Integer → ⊥
not_boolean_integer e = absurd (cc)

not_boolean_text : kinds.Boolean ≡ kinds.Text → ⊥
not_boolean_text e = absurd (cc)

called_truth : (f : Func) (schema : Catalog) (scope : Scope) (outer : ℕ) (free : Bool) (p : Place) → Fits schema scope outer free p → (es : List Known) → AllByRecursion (λ e. fits schema e scope ≡ true) (map (λ e. e.0) es) →
    Apart p.group outer free (expr.Call f (map (λ e. e.0) es)) → call_kind f (in_scope scope (map (expression_kind schema) (map (λ e. e.0) es))) ≡ Ok kinds.Boolean → (v : Value) → meaning_of (expr.Call f (map (λ e. e.0) es)) p ≡ Ok v → Truthful v
called_truth Count schema scope outer free p h es f a j v e = absurd (not_boolean_integer (gives_ok kinds.Integer _ kinds.Boolean j).0)
called_truth Sum schema scope outer free p h es f a j v e = absurd (not_boolean_integer (no_boolean kinds.Integer (in_scope scope (map (expression_kind schema) (map (λ (d : Known). d.0) es))) j))
called_truth Lower schema scope outer free p h es f a j v e = absurd (not_boolean_text (no_boolean kinds.Text (in_scope scope (map (expression_kind schema) (map (λ (d : Known). d.0) es))) j))
called_truth Upper schema scope outer free p h es f a j v e = absurd (not_boolean_text (no_boolean kinds.Text (in_scope scope (map (expression_kind schema) (map (λ (d : Known). d.0) es))) j))
called_truth Length schema scope outer free p h es f a j v e = absurd (not_boolean_integer (gives_ok kinds.Integer _ kinds.Boolean j).0)
called_truth Min schema scope outer free p h es f a j v e =
    let es' = map (λ (d : Known). d.0) es in
    let one = bind_ok (group_values (map meaning_of es') p) (aggregate_value Min) v (sym (ap (λ m. m p) (evaluated-Call Min es')) ∙ e) in
    least_truth one.0 v (gathered_truthful schema scope outer free p h (aggregate_free p.group outer free Min es' refl a) es f (alike_list schema scope kinds.Boolean es' j) one.0 one.1) one.2
called_truth Max schema scope outer free p h es f a j v e =
    let es' = map (λ (d : Known). d.0) es in
    let one = bind_ok (group_values (map meaning_of es') p) (aggregate_value Max) v (sym (ap (λ m. m p) (evaluated-Call Max es')) ∙ e) in
    greatest_truth one.0 v (gathered_truthful schema scope outer free p h (aggregate_free p.group outer free Max es' refl a) es f (alike_list schema scope kinds.Boolean es' j) one.0 one.1) one.2
called_truth Coalesce schema scope outer free p h es f a j v e =
    let es' = map (λ (d : Known). d.0) es in
    let one = bind_ok (all_from p [] (map meaning_of es')) _ v (sym (ap (λ m. m p) (evaluated-Call Coalesce es')) ∙ e) in
    let apart = apart_each p.group outer free free (expr.Call Coalesce es') (may_be outer free (Expr-F.Call Coalesce (map (stands_apart outer) es'))) es' (apart-Call outer free Coalesce es') a in
    let all = all_from_truthful schema scope outer free p h es f apart (alike_list schema scope kinds.Boolean es' j) [] one.0 tt one.1 in
    let same : first_known one.0 ≡ v = cc in
    subst Truthful same (first_truthful one.0 all)

level : (y : Expr-F Known) → Claim (roll-Expr (map-Expr Known Expr (λ e. e.0) y))
level (Expr-F.Column s c) = subst Claim (sym (expr.rolls-Column s c)) (λ schema scope outer free p h f a' j v' e. subst Truthful (value_is (sym (ap (λ m. m p) (evaluated-Column s c)) ∙ e)) (column_truth schema scope outer free p h s c a' _ refl (and_parts _ true (sym (fits-Column schema scope s c) ∙ f)).0 (kind_is (sym (judged-Column schema scope s c) ∙ j))))
level (Expr-F.Lit v) = subst Claim (sym (expr.rolls-Lit v)) (λ schema scope outer free p h f a' j v' e. subst Truthful (value_is (sym (ap (λ m. m p) (evaluated-Lit v)) ∙ e)) (literal_truth v (kind_is (sym (judged-Lit schema scope v) ∙ j))))
level (Expr-F.Compare op a b) = subst Claim (sym (expr.rolls-Compare op a.0 b.0)) (λ schema scope outer free p h f a' j v' e. truth_is _ _ v' (sym (ap (λ m. m p) (evaluated-Compare op a.0 b.0)) ∙ e))
level (Expr-F.IsNull g a) = subst Claim (sym (expr.rolls-IsNull g a.0)) (λ schema scope outer free p h f a' j v' e. truth_is _ _ v' (sym (ap (λ m. m p) (evaluated-IsNull g a.0)) ∙ e))
level (Expr-F.And es) = subst Claim (sym (expr.rolls-And (map (λ (e : Known). e.0) es))) (λ schema scope outer free p h f a' j v' e. truth_is _ _ v' (sym (ap (λ m. m p) (evaluated-And (map (λ (e : Known). e.0) es))) ∙ e))
level (Expr-F.Or es) = subst Claim (sym (expr.rolls-Or (map (λ (e : Known). e.0) es))) (λ schema scope outer free p h f a' j v' e. truth_is _ _ v' (sym (ap (λ m. m p) (evaluated-Or (map (λ (e : Known). e.0) es))) ∙ e))
level (Expr-F.Not a) = subst Claim (sym (expr.rolls-Not a.0)) (λ schema scope outer free p h f a' j v' e. truth_is _ _ v' (sym (ap (λ m. m p) (evaluated-Not a.0)) ∙ e))
level (Expr-F.Arith op a b) = subst Claim (sym (expr.rolls-Arith op a.0 b.0)) (λ schema scope outer free p h f a' j v' e. absurd (not_boolean_integer (no_boolean kinds.Integer (expression_kind schema a.0 scope ∷ expression_kind schema b.0 scope ∷ []) (sym (judged-Arith schema scope op a.0 b.0) ∙ j))))
level (Expr-F.Neg a) = subst Claim (sym (expr.rolls-Neg a.0)) (λ schema scope outer free p h f a' j v' e. absurd (not_boolean_integer (no_boolean kinds.Integer (expression_kind schema a.0 scope ∷ []) (sym (judged-Neg schema scope a.0) ∙ j))))
level (Expr-F.Concat a b) = subst Claim (sym (expr.rolls-Concat a.0 b.0)) (λ schema scope outer free p h f a' j v' e. absurd (not_boolean_text (no_boolean kinds.Text (expression_kind schema a.0 scope ∷ expression_kind schema b.0 scope ∷ []) (sym (judged-Concat schema scope a.0 b.0) ∙ j))))
level (Expr-F.Like g a b) = subst Claim (sym (expr.rolls-Like g a.0 b.0)) (λ schema scope outer free p h f a' j v' e. truth_is _ _ v' (sym (ap (λ m. m p) (evaluated-Like g a.0 b.0)) ∙ e))
level (Expr-F.Ilike g a b) = subst Claim (sym (expr.rolls-Ilike g a.0 b.0)) (λ schema scope outer free p h f a' j v' e. truth_is _ _ v' (sym (ap (λ m. m p) (evaluated-Ilike g a.0 b.0)) ∙ e))
level (Expr-F.InList g a vs) = subst Claim (sym (expr.rolls-InList g a.0 vs)) (λ schema scope outer free p h f a' j v' e. truth_is _ _ v' (sym (ap (λ m. m p) (evaluated-InList g a.0 vs)) ∙ e))
level (Expr-F.Between g a low high) = subst Claim (sym (expr.rolls-Between g a.0 low.0 high.0)) (λ schema scope outer free p h f a' j v' e. truth_within (meaning_of a.0 p) _ _ v' (sym (ap (λ m. m p) (evaluated-Between g a.0 low.0 high.0)) ∙ e))
level (Expr-F.Distinct g a b) = subst Claim (sym (expr.rolls-Distinct g a.0 b.0)) (λ schema scope outer free p h f a' j v' e. truth_is _ _ v' (sym (ap (λ m. m p) (evaluated-Distinct g a.0 b.0)) ∙ e))
level (Expr-F.Call f' es) = subst Claim (sym (expr.rolls-Call f' (map (λ (e : Known). e.0) es))) (λ schema scope outer free p h f a' j v' e. called_truth f' schema scope outer free p h es (all_fits schema scope (map (λ (e : Known). e.0) es) (and_parts _ _ (sym (fits-Call schema scope f' (map (λ (e : Known). e.0) es)) ∙ f)).1) a' (sym (judged-Call schema scope f' (map (λ (e : Known). e.0) es)) ∙ j) v' e)
level Expr-F.CountAll = subst Claim (sym expr.rolls-CountAll) (λ schema scope outer free p h f a' j v' e. absurd (not_boolean_integer (sym (kind_is (sym (judged-CountAll schema scope) ∙ j)))))
level (Expr-F.Exists g o a) = subst Claim (sym (expr.rolls-Exists g o a.0)) (λ schema scope outer free p h f a' j v' e. truth_is _ _ v' (sym (ap (λ m. m p) (evaluated-Exists g o a.0)) ∙ e))

pub truthful : (e : Expr) → Claim e
truthful = ind-Expr Claim (λ x y is. subst (λ z. Claim (roll-Expr z)) is (level y))
