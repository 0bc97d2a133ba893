-- The operands of a typed expression are typed.
use Rattle.std.proofs.Common.{◌≡◌, ℕ, Bool, true, false, ◌&&◌, ◌||◌, List, [], ◌∷◌, ◌++◌, map, Option, None, Ok, refl, sym, ap, ◌∙◌}
use Rattle.std.proofs.lemmas.Bool.{and_parts}
use Rattle.std.specs.List.{list_all, AllByRecursion}
use Rattle.base_core.specs.declared.value.Kind.{Kind}
use Rattle.base_core.specs.declared.value.Kind.TheVariants as kinds
use Rattle.base_core.specs.declared.value.Value.{Value}
use Rattle.base_core.specs.declared.value.ArithOp.{ArithOp}
use Rattle.expr_types.specs.declared.expr.CompareOp.{CompareOp}
use Rattle.expr_types.specs.declared.expr.Func.{Func}
use Rattle.expr_types.specs.declared.expr.Origin.{Origin}
use Rattle.expr_types.specs.declared.expr.Expr.{Expr}
use Rattle.expr_types.specs.declared.expr.Expr.TheOpen.{Expr-F}
use Rattle.expr_types.specs.declared.expr.Expr.TheVariants as expr
use Rattle.expr_types.specs.declared.expr.Func.TheVariants.{Count, Sum, Min, Max, Lower, Upper, Length, Coalesce}
use Rattle.expr_types.specs.Level.{is_aggregate_function}
use Rattle.schema_core.specs.Catalog.{Catalog}
use Rattle.sql_semantics.specs.Kinds.{Scope, expression_kind, all_of, all_alike, call_kind, in_scope, value_kind}
use Rattle.sql_semantics.specs.Plain.{fits, fits_level}
use Rattle.sql_semantics.specs.Eval.{Row}
use Rattle.sql_semantics.proofs.Typed.{alike_each, alike_list, all_fits, gives_ok, of_list}
use Rattle.select_laws.specs.Apart.{stands_apart, may_be}
use Rattle.select_laws.proofs.Apart.{Apart, apart_each, none_apart}
use Rattle.sql_semantics.proofs.Equations.{judged-Compare, judged-IsNull, judged-And, judged-Or, judged-Not, judged-Arith, judged-Neg, judged-Concat, judged-Like, judged-Ilike, judged-InList, judged-Between, judged-Distinct, judged-Call, judged-Exists, fits-Compare, fits-IsNull, fits-And, fits-Or, fits-Not, fits-Arith, fits-Neg, fits-Concat, fits-Like, fits-Ilike, fits-InList, fits-Between, fits-Distinct, fits-Call, fits-Exists}
use Rattle.select_laws.proofs.Equations.{apart-Compare, apart-IsNull, apart-And, apart-Or, apart-Not, apart-Arith, apart-Neg, apart-Concat, apart-Like, apart-Ilike, apart-InList, apart-Between, apart-Distinct, apart-Call, apart-Exists}

-- an expression that stands in a scope and has a kind there, and of which stands apart from each `exists` what has to
pub record Good (schema : Catalog) (scope : Scope) (group : Option (List Row)) (outer : ℕ) (free : Bool) (e : Expr) : Type 0 where
  pub fitting : fits schema e scope ≡ true
  pub apart : Apart group outer free e
  pub kind : Kind
  pub typed : expression_kind schema e scope ≡ Ok kind

pub all_good : (schema : Catalog) (scope : Scope) (group : Option (List Row)) (outer : ℕ) (free : Bool) (k : Kind) (es : List Expr) →
    AllByRecursion (λ e. fits schema e scope ≡ true) es → AllByRecursion (Apart group outer free) es → AllByRecursion (λ e. expression_kind schema e scope ≡ Ok k) es → AllByRecursion (Good schema scope group outer free) es
all_good schema scope group outer free k [] f a j = tt
all_good schema scope group outer free k (e ∷ es) f a j = (record { fitting = f.0; apart = a.0; kind = k; typed = j.0 }, all_good schema scope group outer free k es f.1 a.1 j.1)

-- the operands of a function
called_good : (schema : Catalog) (scope : Scope) (group : Option (List Row)) (outer : ℕ) (free : Bool) (f : Func) (k : Kind) (es : List Expr) →
    AllByRecursion (λ e. fits schema e scope ≡ true) es → AllByRecursion (Apart group outer free) es → call_kind f (in_scope scope (map (expression_kind schema) es)) ≡ Ok k → AllByRecursion (Good schema scope group outer free) es
called_good schema scope group outer free Count k es f a h = let g = gives_ok kinds.Integer (all_alike (in_scope scope (map (expression_kind schema) es))) k h in all_good schema scope group outer free g.1 es f a (alike_list schema scope g.1 es g.2)
called_good schema scope group outer free Sum k es f a h = all_good schema scope group outer free kinds.Integer es f a (of_list schema scope kinds.Integer k es h)
called_good schema scope group outer free Min k es f a h = all_good schema scope group outer free k es f a (alike_list schema scope k es h)
called_good schema scope group outer free Max k es f a h = all_good schema scope group outer free k es f a (alike_list schema scope k es h)
called_good schema scope group outer free Lower k es f a h = all_good schema scope group outer free kinds.Text es f a (of_list schema scope kinds.Text k es h)
called_good schema scope group outer free Upper k es f a h = all_good schema scope group outer free kinds.Text es f a (of_list schema scope kinds.Text k es h)
called_good schema scope group outer free Length k es f a h = let g = gives_ok kinds.Integer (all_of kinds.Text (in_scope scope (map (expression_kind schema) es))) k h in all_good schema scope group outer free kinds.Text es f a (of_list schema scope kinds.Text g.1 es g.2)
called_good schema scope group outer free Coalesce k es f a h = all_good schema scope group outer free k es f a (alike_list schema scope k es h)

pub good-Compare : (schema : Catalog) (scope : Scope) (group : Option (List Row)) (outer : ℕ) (free : Bool) (op : CompareOp) (a : Expr) (b : Expr) → Good schema scope group outer free (expr.Compare op a b) → AllByRecursion (Good schema scope group outer free) (a ∷ b ∷ [])
good-Compare schema scope group outer free op a b h =
    let fit = all_fits schema scope (a ∷ b ∷ []) (and_parts (fits_level schema scope (Expr-F.Compare op (fits schema a) (fits schema b))) _ (sym (fits-Compare schema scope op a b) ∙ h.fitting)).1 in
    let apart = apart_each group outer free free (expr.Compare op a b) (may_be outer free (Expr-F.Compare op (stands_apart outer a) (stands_apart outer b))) (a ∷ b ∷ []) (apart-Compare outer free op a b) h.apart in
    let typed = sym (judged-Compare schema scope op a b) ∙ h.typed in
    let g = gives_ok kinds.Boolean _ h.kind typed in let js = alike_each g.1 (expression_kind schema a scope ∷ expression_kind schema b scope ∷ []) g.2 in all_good schema scope group outer free g.1 (a ∷ b ∷ []) fit apart (js.0, (js.1.0, tt))

pub good-IsNull : (schema : Catalog) (scope : Scope) (group : Option (List Row)) (outer : ℕ) (free : Bool) (g : Bool) (a : Expr) → Good schema scope group outer free (expr.IsNull g a) → AllByRecursion (Good schema scope group outer free) (a ∷ [])
good-IsNull schema scope group outer free g a h =
    let fit = all_fits schema scope (a ∷ []) (and_parts (fits_level schema scope (Expr-F.IsNull g (fits schema a))) _ (sym (fits-IsNull schema scope g a) ∙ h.fitting)).1 in
    let apart = apart_each group outer free free (expr.IsNull g a) (may_be outer free (Expr-F.IsNull g (stands_apart outer a))) (a ∷ []) (apart-IsNull outer free g a) h.apart in
    let typed = sym (judged-IsNull schema scope g a) ∙ h.typed in
    let g = gives_ok kinds.Boolean (expression_kind schema a scope) h.kind typed in all_good schema scope group outer free g.1 (a ∷ []) fit apart (g.2, tt)

pub good-And : (schema : Catalog) (scope : Scope) (group : Option (List Row)) (outer : ℕ) (free : Bool) (es : List Expr) → Good schema scope group outer free (expr.And es) → AllByRecursion (Good schema scope group outer free) es
good-And schema scope group outer free es h =
    let fit = all_fits schema scope es (and_parts (fits_level schema scope (Expr-F.And (map (fits schema) es))) _ (sym (fits-And schema scope es) ∙ h.fitting)).1 in
    let apart = apart_each group outer free free (expr.And es) (may_be outer free (Expr-F.And (map (stands_apart outer) es))) es (apart-And outer free es) h.apart in
    let typed = sym (judged-And schema scope es) ∙ h.typed in
    all_good schema scope group outer free kinds.Boolean es fit apart (of_list schema scope kinds.Boolean h.kind es typed)

pub good-Or : (schema : Catalog) (scope : Scope) (group : Option (List Row)) (outer : ℕ) (free : Bool) (es : List Expr) → Good schema scope group outer free (expr.Or es) → AllByRecursion (Good schema scope group outer free) es
good-Or schema scope group outer free es h =
    let fit = all_fits schema scope es (and_parts (fits_level schema scope (Expr-F.Or (map (fits schema) es))) _ (sym (fits-Or schema scope es) ∙ h.fitting)).1 in
    let apart = apart_each group outer free free (expr.Or es) (may_be outer free (Expr-F.Or (map (stands_apart outer) es))) es (apart-Or outer free es) h.apart in
    let typed = sym (judged-Or schema scope es) ∙ h.typed in
    all_good schema scope group outer free kinds.Boolean es fit apart (of_list schema scope kinds.Boolean h.kind es typed)

pub good-Not : (schema : Catalog) (scope : Scope) (group : Option (List Row)) (outer : ℕ) (free : Bool) (a : Expr) → Good schema scope group outer free (expr.Not a) → AllByRecursion (Good schema scope group outer free) (a ∷ [])
good-Not schema scope group outer free a h =
    let fit = all_fits schema scope (a ∷ []) (and_parts (fits_level schema scope (Expr-F.Not (fits schema a))) _ (sym (fits-Not schema scope a) ∙ h.fitting)).1 in
    let apart = apart_each group outer free free (expr.Not a) (may_be outer free (Expr-F.Not (stands_apart outer a))) (a ∷ []) (apart-Not outer free a) h.apart in
    let typed = sym (judged-Not schema scope a) ∙ h.typed in
    all_good schema scope group outer free kinds.Boolean (a ∷ []) fit apart (of_list schema scope kinds.Boolean h.kind (a ∷ []) typed)

pub good-Arith : (schema : Catalog) (scope : Scope) (group : Option (List Row)) (outer : ℕ) (free : Bool) (op : ArithOp) (a : Expr) (b : Expr) → Good schema scope group outer free (expr.Arith op a b) → AllByRecursion (Good schema scope group outer free) (a ∷ b ∷ [])
good-Arith schema scope group outer free op a b h =
    let fit = all_fits schema scope (a ∷ b ∷ []) (and_parts (fits_level schema scope (Expr-F.Arith op (fits schema a) (fits schema b))) _ (sym (fits-Arith schema scope op a b) ∙ h.fitting)).1 in
    let apart = apart_each group outer free free (expr.Arith op a b) (may_be outer free (Expr-F.Arith op (stands_apart outer a) (stands_apart outer b))) (a ∷ b ∷ []) (apart-Arith outer free op a b) h.apart in
    let typed = sym (judged-Arith schema scope op a b) ∙ h.typed in
    all_good schema scope group outer free kinds.Integer (a ∷ b ∷ []) fit apart (of_list schema scope kinds.Integer h.kind (a ∷ b ∷ []) typed)

pub good-Neg : (schema : Catalog) (scope : Scope) (group : Option (List Row)) (outer : ℕ) (free : Bool) (a : Expr) → Good schema scope group outer free (expr.Neg a) → AllByRecursion (Good schema scope group outer free) (a ∷ [])
good-Neg schema scope group outer free a h =
    let fit = all_fits schema scope (a ∷ []) (and_parts (fits_level schema scope (Expr-F.Neg (fits schema a))) _ (sym (fits-Neg schema scope a) ∙ h.fitting)).1 in
    let apart = apart_each group outer free free (expr.Neg a) (may_be outer free (Expr-F.Neg (stands_apart outer a))) (a ∷ []) (apart-Neg outer free a) h.apart in
    let typed = sym (judged-Neg schema scope a) ∙ h.typed in
    all_good schema scope group outer free kinds.Integer (a ∷ []) fit apart (of_list schema scope kinds.Integer h.kind (a ∷ []) typed)

pub good-Concat : (schema : Catalog) (scope : Scope) (group : Option (List Row)) (outer : ℕ) (free : Bool) (a : Expr) (b : Expr) → Good schema scope group outer free (expr.Concat a b) → AllByRecursion (Good schema scope group outer free) (a ∷ b ∷ [])
good-Concat schema scope group outer free a b h =
    let fit = all_fits schema scope (a ∷ b ∷ []) (and_parts (fits_level schema scope (Expr-F.Concat (fits schema a) (fits schema b))) _ (sym (fits-Concat schema scope a b) ∙ h.fitting)).1 in
    let apart = apart_each group outer free free (expr.Concat a b) (may_be outer free (Expr-F.Concat (stands_apart outer a) (stands_apart outer b))) (a ∷ b ∷ []) (apart-Concat outer free a b) h.apart in
    let typed = sym (judged-Concat schema scope a b) ∙ h.typed in
    all_good schema scope group outer free kinds.Text (a ∷ b ∷ []) fit apart (of_list schema scope kinds.Text h.kind (a ∷ b ∷ []) typed)

pub good-Like : (schema : Catalog) (scope : Scope) (group : Option (List Row)) (outer : ℕ) (free : Bool) (g : Bool) (a : Expr) (b : Expr) → Good schema scope group outer free (expr.Like g a b) → AllByRecursion (Good schema scope group outer free) (a ∷ b ∷ [])
good-Like schema scope group outer free g a b h =
    let fit = all_fits schema scope (a ∷ b ∷ []) (and_parts (fits_level schema scope (Expr-F.Like g (fits schema a) (fits schema b))) _ (sym (fits-Like schema scope g a b) ∙ h.fitting)).1 in
    let apart = apart_each group outer free free (expr.Like g a b) (may_be outer free (Expr-F.Like g (stands_apart outer a) (stands_apart outer b))) (a ∷ b ∷ []) (apart-Like outer free g a b) h.apart in
    let typed = sym (judged-Like schema scope g a b) ∙ h.typed in
    let g = gives_ok kinds.Boolean _ h.kind typed in all_good schema scope group outer free kinds.Text (a ∷ b ∷ []) fit apart (of_list schema scope kinds.Text g.1 (a ∷ b ∷ []) g.2)

pub good-Ilike : (schema : Catalog) (scope : Scope) (group : Option (List Row)) (outer : ℕ) (free : Bool) (g : Bool) (a : Expr) (b : Expr) → Good schema scope group outer free (expr.Ilike g a b) → AllByRecursion (Good schema scope group outer free) (a ∷ b ∷ [])
good-Ilike schema scope group outer free g a b h =
    let fit = all_fits schema scope (a ∷ b ∷ []) (and_parts (fits_level schema scope (Expr-F.Ilike g (fits schema a) (fits schema b))) _ (sym (fits-Ilike schema scope g a b) ∙ h.fitting)).1 in
    let apart = apart_each group outer free free (expr.Ilike g a b) (may_be outer free (Expr-F.Ilike g (stands_apart outer a) (stands_apart outer b))) (a ∷ b ∷ []) (apart-Ilike outer free g a b) h.apart in
    let typed = sym (judged-Ilike schema scope g a b) ∙ h.typed in
    let g = gives_ok kinds.Boolean _ h.kind typed in all_good schema scope group outer free kinds.Text (a ∷ b ∷ []) fit apart (of_list schema scope kinds.Text g.1 (a ∷ b ∷ []) g.2)

pub good-InList : (schema : Catalog) (scope : Scope) (group : Option (List Row)) (outer : ℕ) (free : Bool) (g : Bool) (a : Expr) (vs : List Value) → Good schema scope group outer free (expr.InList g a vs) → AllByRecursion (Good schema scope group outer free) (a ∷ [])
good-InList schema scope group outer free g a vs h =
    let fit = all_fits schema scope (a ∷ []) (and_parts (fits_level schema scope (Expr-F.InList g (fits schema a) vs)) _ (sym (fits-InList schema scope g a vs) ∙ h.fitting)).1 in
    let apart = apart_each group outer free free (expr.InList g a vs) (may_be outer free (Expr-F.InList g (stands_apart outer a) vs)) (a ∷ []) (apart-InList outer free g a vs) h.apart in
    let typed = sym (judged-InList schema scope g a vs) ∙ h.typed in
    let g = gives_ok kinds.Boolean _ h.kind typed in let js = alike_each g.1 (expression_kind schema a scope ∷ map (λ v. Ok (value_kind v)) vs) g.2 in all_good schema scope group outer free g.1 (a ∷ []) fit apart (js.0, tt)

pub good-Between : (schema : Catalog) (scope : Scope) (group : Option (List Row)) (outer : ℕ) (free : Bool) (g : Bool) (a : Expr) (low : Expr) (high : Expr) → Good schema scope group outer free (expr.Between g a low high) → AllByRecursion (Good schema scope group outer free) (a ∷ low ∷ high ∷ [])
good-Between schema scope group outer free g a low high h =
    let fit = all_fits schema scope (a ∷ low ∷ high ∷ []) (and_parts (fits_level schema scope (Expr-F.Between g (fits schema a) (fits schema low) (fits schema high))) _ (sym (fits-Between schema scope g a low high) ∙ h.fitting)).1 in
    let apart = apart_each group outer free free (expr.Between g a low high) (may_be outer free (Expr-F.Between g (stands_apart outer a) (stands_apart outer low) (stands_apart outer high))) (a ∷ low ∷ high ∷ []) (apart-Between outer free g a low high) h.apart in
    let typed = sym (judged-Between schema scope g a low high) ∙ h.typed in
    let g = gives_ok kinds.Boolean _ h.kind typed in let js = alike_each g.1 (expression_kind schema a scope ∷ expression_kind schema low scope ∷ expression_kind schema high scope ∷ []) g.2 in all_good schema scope group outer free g.1 (a ∷ low ∷ high ∷ []) fit apart (js.0, (js.1.0, (js.1.1.0, tt)))

pub good-Distinct : (schema : Catalog) (scope : Scope) (group : Option (List Row)) (outer : ℕ) (free : Bool) (g : Bool) (a : Expr) (b : Expr) → Good schema scope group outer free (expr.Distinct g a b) → AllByRecursion (Good schema scope group outer free) (a ∷ b ∷ [])
good-Distinct schema scope group outer free g a b h =
    let fit = all_fits schema scope (a ∷ b ∷ []) (and_parts (fits_level schema scope (Expr-F.Distinct g (fits schema a) (fits schema b))) _ (sym (fits-Distinct schema scope g a b) ∙ h.fitting)).1 in
    let apart = apart_each group outer free free (expr.Distinct g a b) (may_be outer free (Expr-F.Distinct g (stands_apart outer a) (stands_apart outer b))) (a ∷ b ∷ []) (apart-Distinct outer free g a b) h.apart in
    let typed = sym (judged-Distinct schema scope g a b) ∙ h.typed in
    let g = gives_ok kinds.Boolean _ h.kind typed in let js = alike_each g.1 (expression_kind schema a scope ∷ expression_kind schema b scope ∷ []) g.2 in all_good schema scope group outer free g.1 (a ∷ b ∷ []) fit apart (js.0, (js.1.0, tt))

pub good-Call : (schema : Catalog) (scope : Scope) (group : Option (List Row)) (outer : ℕ) (free : Bool) (f : Func) (es : List Expr) → is_aggregate_function f ≡ false → Good schema scope group outer free (expr.Call f es) → AllByRecursion (Good schema scope group outer free) es
good-Call schema scope group outer free f es off h =
    let fit = all_fits schema scope es (and_parts (fits_level schema scope (Expr-F.Call f (map (fits schema) es))) _ (sym (fits-Call schema scope f es) ∙ h.fitting)).1 in
    let each : Bool = list_all (λ (holds : Bool → Bool). holds free) (map (stands_apart outer) es) in
    let here : Bool = may_be outer free (Expr-F.Call f (map (stands_apart outer) es)) in
    let apart = apart_each group outer free free (expr.Call f es) here es (apart-Call outer free f es ∙ ap (λ b. here && (b || each)) off) h.apart in
    let typed = sym (judged-Call schema scope f es) ∙ h.typed in
    called_good schema scope group outer free f h.kind es fit apart typed

-- the operands of an aggregate are evaluated outside a group
pub good-Operands : (schema : Catalog) (scope : Scope) (group : Option (List Row)) (outer : ℕ) (free : Bool) (f : Func) (es : List Expr) → Good schema scope group outer free (expr.Call f es) → AllByRecursion (Good schema scope None 0 true) es
good-Operands schema scope group outer free f es h =
    let fit = all_fits schema scope es (and_parts (fits_level schema scope (Expr-F.Call f (map (fits schema) es))) _ (sym (fits-Call schema scope f es) ∙ h.fitting)).1 in
    called_good schema scope None 0 true f h.kind es fit (none_apart 0 true es refl) (sym (judged-Call schema scope f es) ∙ h.typed)

pub good-Exists : (schema : Catalog) (scope : Scope) (group : Option (List Row)) (outer : ℕ) (free : Bool) (g : Bool) (o : Origin) (a : Expr) → Good schema scope group outer free (expr.Exists g o a) → AllByRecursion (Good schema (scope ++ o.table ∷ []) group outer false) (a ∷ [])
good-Exists schema scope group outer free g o a h =
    let fit = all_fits schema (scope ++ o.table ∷ []) (a ∷ []) (and_parts (fits_level schema scope (Expr-F.Exists g o (fits schema a))) _ (sym (fits-Exists schema scope g o a) ∙ h.fitting)).1 in
    let apart = apart_each group outer free false (expr.Exists g o a) (may_be outer free (Expr-F.Exists g o (stands_apart outer a))) (a ∷ []) (apart-Exists outer free g o a) h.apart in
    let typed = sym (judged-Exists schema scope g o a) ∙ h.typed in
    all_good schema (scope ++ o.table ∷ []) group outer false kinds.Boolean (a ∷ []) fit apart (of_list schema (scope ++ o.table ∷ []) kinds.Boolean h.kind (a ∷ []) typed)
