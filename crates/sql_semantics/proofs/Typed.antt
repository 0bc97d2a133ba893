-- The operands of a typed expression are typed, and fit where it fits.
use Rattle.std.proofs.Common.{◌≡◌, Bool, true, false, cond, List, [], ◌∷◌, map, Ok, Err, refl, sym, ap, subst, ◌∙◌}
use Rattle.std.proofs.lemmas.Bool.{and_parts}
use Rattle.std.specs.List.{list_all, AllByRecursion}
use Rattle.std.specs.Result.{is_ok}
use Rattle.base_core.specs.declared.value.Kind.{Kind}
use Rattle.base_core.specs.declared.value.Kind.TheVariants as kinds
use Rattle.base_core.specs.declared.refusal.Refusal.{Refusal}
use Rattle.schema_core.specs.Catalog.{Catalog, same_kind}
use Rattle.expr_types.specs.declared.expr.Expr.{Expr}
use Rattle.sql_semantics.specs.Kinds.{Scope, Judged, expression_kind, then_judge, kind_or_mismatch, all_of, all_alike, gives, in_scope}
use Rattle.sql_semantics.specs.Plain.{fits}

pub has_kind : (r : Judged) → is_ok r ≡ true → (k : Kind) × (r ≡ Ok k)
has_kind (Ok k) e = (k, refl)
has_kind (Err f) e = absurd (cc)

pub then_ok : (r : Judged) (next : Kind → Judged) (k : Kind) → then_judge r next ≡ Ok k → (j : Kind) × (r ≡ Ok j) × (next j ≡ Ok k)
then_ok (Ok j) next k e = (j, refl, e)
then_ok (Err f) next k e = absurd (cc)

expected_by : (b : Bool) (wanted k : Kind) (f : Refusal) → cond b (Ok wanted) (Err f) ≡ Ok k → b ≡ true
expected_by true wanted k f e = refl
expected_by false wanted k f e = absurd (cc)

pub same_kind_is : (a b : Kind) → same_kind a b ≡ true → a ≡ b
same_kind_is kinds.Integer kinds.Integer e = refl
same_kind_is kinds.Text kinds.Text e = refl
same_kind_is kinds.Boolean kinds.Boolean e = refl
same_kind_is kinds.Bytes kinds.Bytes e = refl
same_kind_is a b e = absurd (cc)

pub kind_itself : (k : Kind) → same_kind k k ≡ true
kind_itself kinds.Integer = refl
kind_itself kinds.Text = refl
kind_itself kinds.Boolean = refl
kind_itself kinds.Bytes = refl

pub all_of_each : (wanted k : Kind) (js : List Judged) → all_of wanted js ≡ Ok k → (k ≡ wanted) × AllByRecursion (λ j. j ≡ Ok wanted) js
all_of_each wanted k [] e = (cc, tt)
all_of_each wanted k (j ∷ js) e =
    let one = then_ok j (λ found. then_judge (kind_or_mismatch wanted found) (λ kind. all_of wanted js)) k e in
    let two = then_ok (kind_or_mismatch wanted one.0) (λ kind. all_of wanted js) k one.2 in
    let found : one.0 ≡ wanted = same_kind_is one.0 wanted (expected_by (same_kind one.0 wanted) wanted two.0 _ two.1) in
    let rest = all_of_each wanted k js two.2 in
    (rest.0, (one.1 ∙ ap Ok found, rest.1))

pub alike_each : (k : Kind) (js : List Judged) → all_alike js ≡ Ok k → AllByRecursion (λ j. j ≡ Ok k) js
alike_each k [] e = tt
alike_each k (Ok kind ∷ js) e =
    let rest = all_of_each kind k js e in
    subst (λ (c : Kind). AllByRecursion (λ (j : Judged). j ≡ Ok c) (Ok kind ∷ js)) (sym rest.0) (refl, rest.1)
alike_each k (Err f ∷ js) e = absurd (cc)

pub gives_ok : (kind : Kind) (r : Judged) (k : Kind) → gives kind r ≡ Ok k → (k ≡ kind) × (j : Kind) × (r ≡ Ok j)
gives_ok kind r k e = let one = then_ok r (λ found. Ok kind) k e in let same : kind ≡ k = cc in (sym same, one.0, one.1)

pub all_fits : (schema : Catalog) (scope : Scope) (es : List Expr) → list_all (λ (holds : Scope → Bool). holds scope) (map (fits schema) es) ≡ true → AllByRecursion (λ e. fits schema e scope ≡ true) es
all_fits schema scope [] h = tt
all_fits schema scope (e ∷ es) h =
    let both = and_parts (fits schema e scope) (list_all (λ (holds : Scope → Bool). holds scope) (map (fits schema) es)) h in (both.0, all_fits schema scope es both.1)

pub all_judged : (schema : Catalog) (scope : Scope) (k : Kind) (es : List Expr) → AllByRecursion (λ j. j ≡ Ok k) (in_scope scope (map (expression_kind schema) es)) → AllByRecursion (λ e. expression_kind schema e scope ≡ Ok k) es
all_judged schema scope k [] h = tt
all_judged schema scope k (e ∷ es) h = (h.0, all_judged schema scope k es h.1)

pub alike_list : (schema : Catalog) (scope : Scope) (k : Kind) (es : List Expr) → all_alike (in_scope scope (map (expression_kind schema) es)) ≡ Ok k → AllByRecursion (λ e. expression_kind schema e scope ≡ Ok k) es
alike_list schema scope k es h = all_judged schema scope k es (alike_each k (in_scope scope (map (expression_kind schema) es)) h)

pub of_list : (schema : Catalog) (scope : Scope) (wanted k : Kind) (es : List Expr) → all_of wanted (in_scope scope (map (expression_kind schema) es)) ≡ Ok k → AllByRecursion (λ e. expression_kind schema e scope ≡ Ok wanted) es
of_list schema scope wanted k es h = all_judged schema scope wanted es (all_of_each wanted k (in_scope scope (map (expression_kind schema) es)) h).1
