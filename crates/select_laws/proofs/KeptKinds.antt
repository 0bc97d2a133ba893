-- The normal form of a typed expression has its kind.
use Rattle.std.proofs.Common.{◌≡◌, Bool, not, List, [], ◌∷◌, ◌++◌, map, Option, Some, None, Ok, refl, sym, ap, subst, ◌∙◌}
use Rattle.std.specs.List.{AllByRecursion}
use Rattle.base_core.proofs.Lists.{every_append}
use Rattle.base_core.specs.declared.value.Kind.{Kind}
use Rattle.base_core.specs.declared.value.Kind.TheVariants as kinds
use Rattle.schema_core.specs.Catalog.{Catalog}
use Rattle.expr_types.specs.declared.expr.Func.{Func}
use Rattle.expr_types.specs.declared.expr.Func.TheVariants.{Count, Sum, Min, Max, Lower, Upper, Length, Coalesce}
use Rattle.expr_types.specs.declared.expr.Expr.{Expr, out-Expr, roll-Expr}
use Rattle.expr_types.specs.declared.expr.Expr.TheOpen.{Expr-F}
use Rattle.expr_types.specs.declared.expr.Expr.TheVariants as expr
use Rattle.expr_types.specs.Normal.{normal, negation_of_level, like_by, joined_parts, and_parts, and_parts_at, or_parts, or_parts_at, lower_argument, opposite}
use Rattle.expr_types.proofs.Folds.{bare, by_levels, whole_is}
use Rattle.expr_normal.proofs.Steps.{normal-Column, normal-Lit, normal-Compare, normal-IsNull, normal-And, normal-Or, normal-Not, normal-Arith, normal-Neg, normal-Concat, normal-Like, normal-Ilike, normal-InList, normal-Between, normal-Distinct, normal-Call, normal-CountAll, normal-Exists}
use Rattle.sql_semantics.specs.Kinds.{Scope, Judged, expression_kind, then_judge, kind_or_mismatch, all_of, all_alike, gives, call_kind, in_scope, value_kind}
use Rattle.sql_semantics.proofs.Equations.{judged-Compare, judged-IsNull, judged-And, judged-Or, judged-Not, judged-Arith, judged-Neg, judged-Concat, judged-Like, judged-Ilike, judged-InList, judged-Between, judged-Distinct, judged-Call, judged-Exists}
use Rattle.sql_semantics.proofs.Typed.{all_of_each, alike_each, gives_ok, of_list}
use Rattle.select_laws.proofs.Forms.{and_parts_by, liked_is, lowered_whole, negated_is, or_parts_by}

-- ---- conditions

abbrev IsBoolean : Catalog → Scope → Expr → Type 0
IsBoolean schema scope e = expression_kind schema e scope ≡ Ok kinds.Boolean

all_booleans : (schema : Catalog) (scope : Scope) (es : List Expr) → AllByRecursion (IsBoolean schema scope) es → all_of kinds.Boolean (in_scope scope (map (expression_kind schema) es)) ≡ Ok kinds.Boolean
all_booleans schema scope [] h = refl
all_booleans schema scope (e ∷ es) h =
    ap (λ j. then_judge j (λ found. then_judge (kind_or_mismatch kinds.Boolean found) (λ kind. all_of kinds.Boolean (in_scope scope (map (expression_kind schema) es))))) h.0
    ∙ all_booleans schema scope es h.1

as_whole : (schema : Catalog) (scope : Scope) (n e : Expr) (j : Judged) → n ≡ e → expression_kind schema n scope ≡ j → expression_kind schema e scope ≡ j
as_whole schema scope n e j is h = ap (λ x. expression_kind schema x scope) (sym is) ∙ h

and_booleans_at : (schema : Catalog) (scope : Scope) (n : Expr) (x : Expr-F Expr) → out-Expr n ≡ x → IsBoolean schema scope n → AllByRecursion (IsBoolean schema scope) (and_parts_at n x)
and_booleans_at schema scope n (Expr-F.And es) is h =
    of_list schema scope kinds.Boolean kinds.Boolean es
    (sym (judged-And schema scope es) ∙ as_whole schema scope n (expr.And es) _ (whole_is n (Expr-F.And es) is ∙ expr.rolls-And es) h)
and_booleans_at schema scope n level is h = (h, tt)

and_booleans : (schema : Catalog) (scope : Scope) (ns : List Expr) → AllByRecursion (IsBoolean schema scope) ns → AllByRecursion (IsBoolean schema scope) (joined_parts and_parts ns)
and_booleans schema scope [] h = tt
and_booleans schema scope (n ∷ ns) h =
    every_append (IsBoolean schema scope) (and_parts n) (joined_parts and_parts ns)
    (subst (AllByRecursion (IsBoolean schema scope)) (sym (and_parts_by n)) (and_booleans_at schema scope n (out-Expr n) refl h.0))
    (and_booleans schema scope ns h.1)

or_booleans_at : (schema : Catalog) (scope : Scope) (n : Expr) (x : Expr-F Expr) → out-Expr n ≡ x → IsBoolean schema scope n → AllByRecursion (IsBoolean schema scope) (or_parts_at n x)
or_booleans_at schema scope n (Expr-F.Or es) is h =
    of_list schema scope kinds.Boolean kinds.Boolean es
    (sym (judged-Or schema scope es) ∙ as_whole schema scope n (expr.Or es) _ (whole_is n (Expr-F.Or es) is ∙ expr.rolls-Or es) h)
or_booleans_at schema scope n level is h = (h, tt)

or_booleans : (schema : Catalog) (scope : Scope) (ns : List Expr) → AllByRecursion (IsBoolean schema scope) ns → AllByRecursion (IsBoolean schema scope) (joined_parts or_parts ns)
or_booleans schema scope [] h = tt
or_booleans schema scope (n ∷ ns) h =
    every_append (IsBoolean schema scope) (or_parts n) (joined_parts or_parts ns)
    (subst (AllByRecursion (IsBoolean schema scope)) (sym (or_parts_by n)) (or_booleans_at schema scope n (out-Expr n) refl h.0))
    (or_booleans schema scope ns h.1)

negated_boolean : (schema : Catalog) (scope : Scope) (n : Expr) (x : Expr-F Expr) → out-Expr n ≡ x → IsBoolean schema scope n → IsBoolean schema scope (negation_of_level n x)
negated_boolean schema scope n (Expr-F.Compare op a b) is h =
    judged-Compare schema scope (opposite op) a b ∙ sym (judged-Compare schema scope op a b) ∙ as_whole schema scope n (expr.Compare op a b) _ (whole_is n (Expr-F.Compare op a b) is ∙ expr.rolls-Compare op a b) h
negated_boolean schema scope n (Expr-F.IsNull g a) is h =
    judged-IsNull schema scope (not g) a ∙ sym (judged-IsNull schema scope g a) ∙ as_whole schema scope n (expr.IsNull g a) _ (whole_is n (Expr-F.IsNull g a) is ∙ expr.rolls-IsNull g a) h
negated_boolean schema scope n (Expr-F.Like g a b) is h =
    judged-Like schema scope (not g) a b ∙ sym (judged-Like schema scope g a b) ∙ as_whole schema scope n (expr.Like g a b) _ (whole_is n (Expr-F.Like g a b) is ∙ expr.rolls-Like g a b) h
negated_boolean schema scope n (Expr-F.Ilike g a b) is h =
    judged-Ilike schema scope (not g) a b ∙ sym (judged-Ilike schema scope g a b) ∙ as_whole schema scope n (expr.Ilike g a b) _ (whole_is n (Expr-F.Ilike g a b) is ∙ expr.rolls-Ilike g a b) h
negated_boolean schema scope n (Expr-F.InList g a vs) is h =
    judged-InList schema scope (not g) a vs ∙ sym (judged-InList schema scope g a vs) ∙ as_whole schema scope n (expr.InList g a vs) _ (whole_is n (Expr-F.InList g a vs) is ∙ expr.rolls-InList g a vs) h
negated_boolean schema scope n (Expr-F.Between g a low high) is h =
    judged-Between schema scope (not g) a low high ∙ sym (judged-Between schema scope g a low high) ∙ as_whole schema scope n (expr.Between g a low high) _ (whole_is n (Expr-F.Between g a low high) is ∙ expr.rolls-Between g a low high) h
negated_boolean schema scope n (Expr-F.Distinct g a b) is h =
    judged-Distinct schema scope (not g) a b ∙ sym (judged-Distinct schema scope g a b) ∙ as_whole schema scope n (expr.Distinct g a b) _ (whole_is n (Expr-F.Distinct g a b) is ∙ expr.rolls-Distinct g a b) h
negated_boolean schema scope n (Expr-F.Exists g o a) is h =
    judged-Exists schema scope (not g) o a ∙ sym (judged-Exists schema scope g o a) ∙ as_whole schema scope n (expr.Exists g o a) _ (whole_is n (Expr-F.Exists g o a) is ∙ expr.rolls-Exists g o a) h
negated_boolean schema scope n (Expr-F.Not a) is h =
    (all_of_each kinds.Boolean kinds.Boolean (expression_kind schema a scope ∷ []) (sym (judged-Not schema scope a) ∙ as_whole schema scope n (expr.Not a) _ (whole_is n (Expr-F.Not a) is ∙ expr.rolls-Not a) h)).1.0
negated_boolean schema scope n level is h = judged-Not schema scope n ∙ ap (λ j. all_of kinds.Boolean (j ∷ [])) h

abbrev IsText : Catalog → Scope → Expr → Type 0
IsText schema scope e = expression_kind schema e scope ≡ Ok kinds.Text

lowered_text : (schema : Catalog) (scope : Scope) (a x : Expr) → lower_argument a ≡ Some x → IsText schema scope a → IsText schema scope x
lowered_text schema scope a x is h =
    (all_of_each kinds.Text kinds.Text (expression_kind schema x scope ∷ []) (sym (judged-Call schema scope Lower (x ∷ [])) ∙ as_whole schema scope a (expr.Call Lower (x ∷ [])) _ (lowered_whole a x is) h)).1.0

abbrev text_test : Judged → Judged → Judged
text_test i j = gives kinds.Boolean (all_of kinds.Text (i ∷ j ∷ []))

both_texts : (i j : Judged) → i ≡ Ok kinds.Text → j ≡ Ok kinds.Text → text_test i j ≡ Ok kinds.Boolean
both_texts i j e f = ap (λ k. text_test k j) e ∙ ap (text_test (Ok kinds.Text)) f

liked_boolean : (schema : Catalog) (scope : Scope) (g : Bool) (a b : Expr) (s t : Option Expr) → lower_argument a ≡ s → lower_argument b ≡ t → IsText schema scope a → IsText schema scope b → IsBoolean schema scope (like_by g a b s t)
liked_boolean schema scope g a b (Some x) (Some y) es et ha hb =
    judged-Ilike schema scope g x y ∙ both_texts (expression_kind schema x scope) (expression_kind schema y scope) (lowered_text schema scope a x es ha) (lowered_text schema scope b y et hb)
liked_boolean schema scope g a b (Some x) None es et ha hb = judged-Like schema scope g a b ∙ both_texts (expression_kind schema a scope) (expression_kind schema b scope) ha hb
liked_boolean schema scope g a b None t es et ha hb = judged-Like schema scope g a b ∙ both_texts (expression_kind schema a scope) (expression_kind schema b scope) ha hb

-- ---- functions

abbrev HasKind : Judged → Type 0
HasKind j = (k : Kind) × (j ≡ Ok k)

all_have : (k : Kind) (js : List Judged) → AllByRecursion (λ j. j ≡ Ok k) js → AllByRecursion HasKind js
all_have k [] h = tt
all_have k (j ∷ js) h = ((k, h.0), all_have k js h.1)

all_alike_have : (k : Kind) (js : List Judged) → all_alike js ≡ Ok k → AllByRecursion HasKind js
all_alike_have k js h = all_have k js (alike_each k js h)

all_of_have : (wanted k : Kind) (js : List Judged) → all_of wanted js ≡ Ok k → AllByRecursion HasKind js
all_of_have wanted k js h = all_have wanted js (all_of_each wanted k js h).1

called_have : (f : Func) (k : Kind) (js : List Judged) → call_kind f js ≡ Ok k → AllByRecursion HasKind js
called_have Count k js h = let g = gives_ok kinds.Integer (all_alike js) k h in all_alike_have g.1 js g.2
called_have Sum k js h = all_of_have kinds.Integer k js h
called_have Min k js h = all_alike_have k js h
called_have Max k js h = all_alike_have k js h
called_have Lower k js h = all_of_have kinds.Text k js h
called_have Upper k js h = all_of_have kinds.Text k js h
called_have Length k js h = let g = gives_ok kinds.Integer (all_of kinds.Text js) k h in all_of_have kinds.Text g.1 js g.2
called_have Coalesce k js h = all_alike_have k js h

-- ---- all levels

abbrev KeepsKind : Expr → Type 0
KeepsKind e = (schema : Catalog) (scope : Scope) (k : Kind) → expression_kind schema e scope ≡ Ok k → expression_kind schema (normal e) scope ≡ Ok k

abbrev Known : Type 0
Known = (e : Expr) × KeepsKind e

abbrev plain : List Known → List Expr
plain = map (λ k. k.0)

same : (schema : Catalog) (scope : Scope) (x : Known) (k : Kind) → expression_kind schema x.0 scope ≡ Ok k → expression_kind schema (normal x.0) scope ≡ expression_kind schema x.0 scope
same schema scope x k h = x.1 schema scope k h ∙ sym h

each_boolean : (schema : Catalog) (scope : Scope) (ks : List Known) → AllByRecursion (IsBoolean schema scope) (plain ks) → AllByRecursion (IsBoolean schema scope) (map normal (plain ks))
each_boolean schema scope [] h = tt
each_boolean schema scope (x ∷ ks) h = (x.1 schema scope kinds.Boolean h.0, each_boolean schema scope ks h.1)

each_same : (schema : Catalog) (scope : Scope) (ks : List Known) → AllByRecursion HasKind (in_scope scope (map (expression_kind schema) (plain ks)))
    → in_scope scope (map (expression_kind schema) (map normal (plain ks))) ≡ in_scope scope (map (expression_kind schema) (plain ks))
each_same schema scope [] h = refl
each_same schema scope (x ∷ ks) h =
    ap (λ j. j ∷ in_scope scope (map (expression_kind schema) (map normal (plain ks)))) (same schema scope x h.0.0 h.0.1)
    ∙ ap (λ l. expression_kind schema x.0 scope ∷ l) (each_same schema scope ks h.1)

via : (x e : Expr) → x ≡ e → KeepsKind e → KeepsKind x
via x e is h = subst KeepsKind (sym is) h

judged_as : (schema : Catalog) (scope : Scope) (e n : Expr) (j : Judged) (k : Kind) → normal e ≡ n → expression_kind schema n scope ≡ j → j ≡ Ok k → expression_kind schema (normal e) scope ≡ Ok k
judged_as schema scope e n j k is h g = ap (λ x. expression_kind schema x scope) is ∙ h ∙ g

level : (y : Expr-F Known) → KeepsKind (roll-Expr (bare y))
level (Expr-F.Column s c) = via _ _ (expr.rolls-Column s c) (λ schema scope k h. ap (λ x. expression_kind schema x scope) (normal-Column s c) ∙ h)
level (Expr-F.Lit v) = via _ _ (expr.rolls-Lit v) (λ schema scope k h. ap (λ x. expression_kind schema x scope) (normal-Lit v) ∙ h)
level Expr-F.CountAll = via _ _ expr.rolls-CountAll (λ schema scope k h. ap (λ x. expression_kind schema x scope) normal-CountAll ∙ h)
level (Expr-F.Compare op a b) = via _ _ (expr.rolls-Compare op a.0 b.0) (λ schema scope k h.
    let t = sym (judged-Compare schema scope op a.0 b.0) ∙ h in
    let w = gives_ok kinds.Boolean _ k t in let js = alike_each w.1 (expression_kind schema a.0 scope ∷ expression_kind schema b.0 scope ∷ []) w.2 in
    judged_as schema scope _ _ _ k (normal-Compare op a.0 b.0) (judged-Compare schema scope op (normal a.0) (normal b.0))
    (ap (λ j. gives kinds.Boolean (all_alike (j ∷ expression_kind schema (normal b.0) scope ∷ []))) (same schema scope a w.1 js.0)
    ∙ ap (λ j. gives kinds.Boolean (all_alike (expression_kind schema a.0 scope ∷ j ∷ []))) (same schema scope b w.1 js.1.0)
    ∙ t))
level (Expr-F.Distinct g a b) = via _ _ (expr.rolls-Distinct g a.0 b.0) (λ schema scope k h.
    let t = sym (judged-Distinct schema scope g a.0 b.0) ∙ h in
    let w = gives_ok kinds.Boolean _ k t in let js = alike_each w.1 (expression_kind schema a.0 scope ∷ expression_kind schema b.0 scope ∷ []) w.2 in
    judged_as schema scope _ _ _ k (normal-Distinct g a.0 b.0) (judged-Distinct schema scope g (normal a.0) (normal b.0))
    (ap (λ j. gives kinds.Boolean (all_alike (j ∷ expression_kind schema (normal b.0) scope ∷ []))) (same schema scope a w.1 js.0)
    ∙ ap (λ j. gives kinds.Boolean (all_alike (expression_kind schema a.0 scope ∷ j ∷ []))) (same schema scope b w.1 js.1.0)
    ∙ t))
level (Expr-F.Between g a low high) = via _ _ (expr.rolls-Between g a.0 low.0 high.0) (λ schema scope k h.
    let t = sym (judged-Between schema scope g a.0 low.0 high.0) ∙ h in
    let w = gives_ok kinds.Boolean _ k t in let js = alike_each w.1 (expression_kind schema a.0 scope ∷ expression_kind schema low.0 scope ∷ expression_kind schema high.0 scope ∷ []) w.2 in
    judged_as schema scope _ _ _ k (normal-Between g a.0 low.0 high.0) (judged-Between schema scope g (normal a.0) (normal low.0) (normal high.0))
    (ap (λ j. gives kinds.Boolean (all_alike (j ∷ expression_kind schema (normal low.0) scope ∷ expression_kind schema (normal high.0) scope ∷ []))) (same schema scope a w.1 js.0)
    ∙ ap (λ j. gives kinds.Boolean (all_alike (expression_kind schema a.0 scope ∷ j ∷ expression_kind schema (normal high.0) scope ∷ []))) (same schema scope low w.1 js.1.0)
    ∙ ap (λ j. gives kinds.Boolean (all_alike (expression_kind schema a.0 scope ∷ expression_kind schema low.0 scope ∷ j ∷ []))) (same schema scope high w.1 js.1.1.0)
    ∙ t))
level (Expr-F.InList g a vs) = via _ _ (expr.rolls-InList g a.0 vs) (λ schema scope k h.
    let t = sym (judged-InList schema scope g a.0 vs) ∙ h in
    let w = gives_ok kinds.Boolean _ k t in let js = alike_each w.1 (expression_kind schema a.0 scope ∷ map (λ v. Ok (value_kind v)) vs) w.2 in
    judged_as schema scope _ _ _ k (normal-InList g a.0 vs) (judged-InList schema scope g (normal a.0) vs)
    (ap (λ j. gives kinds.Boolean (all_alike (j ∷ map (λ v. Ok (value_kind v)) vs))) (same schema scope a w.1 js.0)
    ∙ t))
level (Expr-F.IsNull g a) = via _ _ (expr.rolls-IsNull g a.0) (λ schema scope k h.
    let t = sym (judged-IsNull schema scope g a.0) ∙ h in
    let w = gives_ok kinds.Boolean (expression_kind schema a.0 scope) k t in
    judged_as schema scope _ _ _ k (normal-IsNull g a.0) (judged-IsNull schema scope g (normal a.0))
    (ap (λ j. gives kinds.Boolean j) (same schema scope a w.1 w.2)
    ∙ t))
level (Expr-F.Arith op a b) = via _ _ (expr.rolls-Arith op a.0 b.0) (λ schema scope k h.
    let t = sym (judged-Arith schema scope op a.0 b.0) ∙ h in
    let js = (all_of_each kinds.Integer k (expression_kind schema a.0 scope ∷ expression_kind schema b.0 scope ∷ []) t).1 in
    judged_as schema scope _ _ _ k (normal-Arith op a.0 b.0) (judged-Arith schema scope op (normal a.0) (normal b.0))
    (ap (λ j. all_of kinds.Integer (j ∷ expression_kind schema (normal b.0) scope ∷ [])) (same schema scope a kinds.Integer js.0)
    ∙ ap (λ j. all_of kinds.Integer (expression_kind schema a.0 scope ∷ j ∷ [])) (same schema scope b kinds.Integer js.1.0)
    ∙ t))
level (Expr-F.Neg a) = via _ _ (expr.rolls-Neg a.0) (λ schema scope k h.
    let t = sym (judged-Neg schema scope a.0) ∙ h in
    let js = (all_of_each kinds.Integer k (expression_kind schema a.0 scope ∷ []) t).1 in
    judged_as schema scope _ _ _ k (normal-Neg a.0) (judged-Neg schema scope (normal a.0))
    (ap (λ j. all_of kinds.Integer (j ∷ [])) (same schema scope a kinds.Integer js.0)
    ∙ t))
level (Expr-F.Concat a b) = via _ _ (expr.rolls-Concat a.0 b.0) (λ schema scope k h.
    let t = sym (judged-Concat schema scope a.0 b.0) ∙ h in
    let js = (all_of_each kinds.Text k (expression_kind schema a.0 scope ∷ expression_kind schema b.0 scope ∷ []) t).1 in
    judged_as schema scope _ _ _ k (normal-Concat a.0 b.0) (judged-Concat schema scope (normal a.0) (normal b.0))
    (ap (λ j. all_of kinds.Text (j ∷ expression_kind schema (normal b.0) scope ∷ [])) (same schema scope a kinds.Text js.0)
    ∙ ap (λ j. all_of kinds.Text (expression_kind schema a.0 scope ∷ j ∷ [])) (same schema scope b kinds.Text js.1.0)
    ∙ t))
level (Expr-F.Ilike g a b) = via _ _ (expr.rolls-Ilike g a.0 b.0) (λ schema scope k h.
    let t = sym (judged-Ilike schema scope g a.0 b.0) ∙ h in
    let w = gives_ok kinds.Boolean (all_of kinds.Text (expression_kind schema a.0 scope ∷ expression_kind schema b.0 scope ∷ [])) k t in let js = (all_of_each kinds.Text w.1 (expression_kind schema a.0 scope ∷ expression_kind schema b.0 scope ∷ []) w.2).1 in
    judged_as schema scope _ _ _ k (normal-Ilike g a.0 b.0) (judged-Ilike schema scope g (normal a.0) (normal b.0))
    (ap (λ j. gives kinds.Boolean (all_of kinds.Text (j ∷ expression_kind schema (normal b.0) scope ∷ []))) (same schema scope a kinds.Text js.0)
    ∙ ap (λ j. gives kinds.Boolean (all_of kinds.Text (expression_kind schema a.0 scope ∷ j ∷ []))) (same schema scope b kinds.Text js.1.0)
    ∙ t))
level (Expr-F.Exists g o a) = via _ _ (expr.rolls-Exists g o a.0) (λ schema scope k h.
    let t = sym (judged-Exists schema scope g o a.0) ∙ h in
    let js = (all_of_each kinds.Boolean k (expression_kind schema a.0 (scope ++ o.table ∷ []) ∷ []) t).1 in
    judged_as schema scope _ _ _ k (normal-Exists g o a.0) (judged-Exists schema scope g o (normal a.0))
    (ap (λ j. all_of kinds.Boolean (j ∷ [])) (same schema (scope ++ o.table ∷ []) a kinds.Boolean js.0)
    ∙ t))
level (Expr-F.And es) = via _ _ (expr.rolls-And (plain es)) (λ schema scope k h.
    let t = sym (judged-And schema scope (plain es)) ∙ h in
    let kind = (all_of_each kinds.Boolean k (in_scope scope (map (expression_kind schema) (plain es))) t).0 in
    judged_as schema scope _ _ _ k (normal-And (plain es)) (judged-And schema scope (joined_parts and_parts (map normal (plain es))))
    (all_booleans schema scope (joined_parts and_parts (map normal (plain es)))
    (and_booleans schema scope (map normal (plain es)) (each_boolean schema scope es (of_list schema scope kinds.Boolean k (plain es) t))) ∙ ap Ok (sym kind)))
level (Expr-F.Or es) = via _ _ (expr.rolls-Or (plain es)) (λ schema scope k h.
    let t = sym (judged-Or schema scope (plain es)) ∙ h in
    let kind = (all_of_each kinds.Boolean k (in_scope scope (map (expression_kind schema) (plain es))) t).0 in
    judged_as schema scope _ _ _ k (normal-Or (plain es)) (judged-Or schema scope (joined_parts or_parts (map normal (plain es))))
    (all_booleans schema scope (joined_parts or_parts (map normal (plain es)))
    (or_booleans schema scope (map normal (plain es)) (each_boolean schema scope es (of_list schema scope kinds.Boolean k (plain es) t))) ∙ ap Ok (sym kind)))
level (Expr-F.Not a) = via _ _ (expr.rolls-Not a.0) (λ schema scope k h.
    let each = all_of_each kinds.Boolean k (expression_kind schema a.0 scope ∷ []) (sym (judged-Not schema scope a.0) ∙ h) in
    ap (λ x. expression_kind schema x scope) (normal-Not a.0 ∙ negated_is (normal a.0))
    ∙ negated_boolean schema scope (normal a.0) (out-Expr (normal a.0)) refl (a.1 schema scope kinds.Boolean each.1.0) ∙ ap Ok (sym each.0))
level (Expr-F.Like g a b) = via _ _ (expr.rolls-Like g a.0 b.0) (λ schema scope k h.
    let kind = gives_ok kinds.Boolean (all_of kinds.Text (expression_kind schema a.0 scope ∷ expression_kind schema b.0 scope ∷ [])) k (sym (judged-Like schema scope g a.0 b.0) ∙ h) in
    let js = (all_of_each kinds.Text kind.1 (expression_kind schema a.0 scope ∷ expression_kind schema b.0 scope ∷ []) kind.2).1 in
    ap (λ x. expression_kind schema x scope) (normal-Like g a.0 b.0 ∙ liked_is g (normal a.0) (normal b.0))
    ∙ liked_boolean schema scope g (normal a.0) (normal b.0) (lower_argument (normal a.0)) (lower_argument (normal b.0)) refl refl (a.1 schema scope kinds.Text js.0) (b.1 schema scope kinds.Text js.1.0)
    ∙ ap Ok (sym kind.0))
level (Expr-F.Call f es) = via _ _ (expr.rolls-Call f (plain es)) (λ schema scope k h.
    let t = sym (judged-Call schema scope f (plain es)) ∙ h in
    judged_as schema scope _ _ _ k (normal-Call f (plain es)) (judged-Call schema scope f (map normal (plain es)))
    (ap (call_kind f) (each_same schema scope es (called_have f k (in_scope scope (map (expression_kind schema) (plain es))) t)) ∙ t))

-- the normal form of a typed expression has its kind
pub kind_kept : (e : Expr) → KeepsKind e
kind_kept = by_levels KeepsKind level
