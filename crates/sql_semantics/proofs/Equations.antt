-- What expressions mean, of which kind they are and whether they fit: by one level, and one equation for each variant.
use Rattle.std.proofs.Common.{◌≡◌, ℕ, Bool, true, ◌&&◌, List, [], ◌∷◌, ◌++◌, map, ap}
use Rattle.std.specs.List.{list_all}
use Rattle.base_core.specs.declared.ids.ColumnNo.{ColumnNo}
use Rattle.base_core.specs.declared.value.Value.{Value}
use Rattle.base_core.specs.declared.value.ArithOp.{ArithOp}
use Rattle.schema_core.specs.Catalog.{Catalog}
use Rattle.expr_types.specs.declared.expr.CompareOp.{CompareOp}
use Rattle.expr_types.specs.declared.expr.Func.{Func}
use Rattle.expr_types.specs.declared.expr.Origin.{Origin}
use Rattle.expr_types.specs.declared.expr.Expr.{Expr, roll-Expr}
use Rattle.expr_types.specs.declared.expr.Expr.TheOpen.{Expr-F}
use Rattle.expr_types.specs.declared.expr.Expr.TheFolds.{map-Expr, fold-roll-Expr, para-roll-Expr}
use Rattle.expr_types.specs.declared.expr.Expr.TheVariants as expr
use Rattle.expr_types.specs.Level.{operands, scope_below}
use Rattle.expr_types.proofs.Folds.{fold-Column, fold-Lit, fold-Compare, fold-IsNull, fold-And, fold-Or, fold-Not, fold-Arith, fold-Neg, fold-Concat, fold-Like, fold-Ilike, fold-InList, fold-Between, fold-Distinct, fold-Call, fold-CountAll, fold-Exists}
use Rattle.sql_semantics.specs.Arithmetic.{arithmetic_level, has_arithmetic}
use Rattle.sql_semantics.specs.Kinds.{Scope, Judged, expression_kind, judged_level}
use Rattle.sql_semantics.specs.Plain.{Found, fits, fits_level, full_level, has_full_lists, is_well_grouped, is_well_grouped_level}
use Rattle.sql_semantics.specs.Eval.{Meaning, meaning_of, meaning}

abbrev pub enter : Scope → Origin → Scope
enter scope origin = scope ++ origin.table ∷ []

abbrev pub fits_step : Catalog → Expr-F (Scope → Bool) → Scope → Bool
fits_step schema level scope = fits_level schema scope level && list_all (λ holds. holds (scope_below enter scope level)) (operands level)

abbrev pub with_settled : ℕ → Expr → Found
with_settled own e = (e, is_well_grouped true [] own e)

-- ---- one level

pub rolled : (x : Expr-F Expr) → meaning_of (roll-Expr x) ≡ meaning (map-Expr Expr Meaning meaning_of x)
unfolding meaning_of
rolled x = fold-roll-Expr Meaning meaning x

pub arithmetic_rolled : (x : Expr-F Expr) → has_arithmetic (roll-Expr x) ≡ arithmetic_level (map-Expr Expr Bool has_arithmetic x)
unfolding has_arithmetic
arithmetic_rolled x = fold-roll-Expr Bool arithmetic_level x

pub fits_rolled : (schema : Catalog) (scope : Scope) (x : Expr-F Expr) → fits schema (roll-Expr x) scope ≡ fits_step schema (map-Expr Expr (Scope → Bool) (fits schema) x) scope
unfolding fits
fits_rolled schema scope x = ap (λ (f : Scope → Bool). f scope) (fold-roll-Expr (Scope → Bool) (fits_step schema) x)

pub judged_rolled : (schema : Catalog) (scope : Scope) (x : Expr-F Expr) → expression_kind schema (roll-Expr x) scope ≡ judged_level schema (map-Expr Expr (Scope → Judged) (expression_kind schema) x) scope
unfolding expression_kind
judged_rolled schema scope x = ap (λ (j : Scope → Judged). j scope) (fold-roll-Expr (Scope → Judged) (judged_level schema) x)

pub settled_rolled : (own : ℕ) (x : Expr-F Expr) → is_well_grouped true [] own (roll-Expr x) ≡ is_well_grouped_level true own (map-Expr Expr Found (with_settled own) x)
unfolding is_well_grouped
settled_rolled own x = para-roll-Expr Bool (is_well_grouped_level true own) x

-- ---- variants

pub evaluated-Column : (s : ℕ) (c : ColumnNo) → meaning_of (expr.Column s c) ≡ meaning (Expr-F.Column s c)
unfolding meaning_of
evaluated-Column s c = fold-Column Meaning meaning s c

pub judged-Column : (schema : Catalog) (scope : Scope) (s : ℕ) (c : ColumnNo) → expression_kind schema (expr.Column s c) scope ≡ judged_level schema (Expr-F.Column s c) scope
unfolding expression_kind
judged-Column schema scope s c = ap (λ (j : Scope → Judged). j scope) (fold-Column (Scope → Judged) (judged_level schema) s c)

pub fits-Column : (schema : Catalog) (scope : Scope) (s : ℕ) (c : ColumnNo) → fits schema (expr.Column s c) scope ≡ fits_step schema (Expr-F.Column s c) scope
unfolding fits
fits-Column schema scope s c = ap (λ (f : Scope → Bool). f scope) (fold-Column (Scope → Bool) (fits_step schema) s c)

pub evaluated-Lit : (v : Value) → meaning_of (expr.Lit v) ≡ meaning (Expr-F.Lit v)
unfolding meaning_of
evaluated-Lit v = fold-Lit Meaning meaning v

pub judged-Lit : (schema : Catalog) (scope : Scope) (v : Value) → expression_kind schema (expr.Lit v) scope ≡ judged_level schema (Expr-F.Lit v) scope
unfolding expression_kind
judged-Lit schema scope v = ap (λ (j : Scope → Judged). j scope) (fold-Lit (Scope → Judged) (judged_level schema) v)

pub fits-Lit : (schema : Catalog) (scope : Scope) (v : Value) → fits schema (expr.Lit v) scope ≡ fits_step schema (Expr-F.Lit v) scope
unfolding fits
fits-Lit schema scope v = ap (λ (f : Scope → Bool). f scope) (fold-Lit (Scope → Bool) (fits_step schema) v)

pub evaluated-Compare : (op : CompareOp) (a : Expr) (b : Expr) → meaning_of (expr.Compare op a b) ≡ meaning (Expr-F.Compare op (meaning_of a) (meaning_of b))
unfolding meaning_of
evaluated-Compare op a b = fold-Compare Meaning meaning op a b

pub judged-Compare : (schema : Catalog) (scope : Scope) (op : CompareOp) (a : Expr) (b : Expr) → expression_kind schema (expr.Compare op a b) scope ≡ judged_level schema (Expr-F.Compare op (expression_kind schema a) (expression_kind schema b)) scope
unfolding expression_kind
judged-Compare schema scope op a b = ap (λ (j : Scope → Judged). j scope) (fold-Compare (Scope → Judged) (judged_level schema) op a b)

pub fits-Compare : (schema : Catalog) (scope : Scope) (op : CompareOp) (a : Expr) (b : Expr) → fits schema (expr.Compare op a b) scope ≡ fits_step schema (Expr-F.Compare op (fits schema a) (fits schema b)) scope
unfolding fits
fits-Compare schema scope op a b = ap (λ (f : Scope → Bool). f scope) (fold-Compare (Scope → Bool) (fits_step schema) op a b)

pub evaluated-IsNull : (g : Bool) (a : Expr) → meaning_of (expr.IsNull g a) ≡ meaning (Expr-F.IsNull g (meaning_of a))
unfolding meaning_of
evaluated-IsNull g a = fold-IsNull Meaning meaning g a

pub judged-IsNull : (schema : Catalog) (scope : Scope) (g : Bool) (a : Expr) → expression_kind schema (expr.IsNull g a) scope ≡ judged_level schema (Expr-F.IsNull g (expression_kind schema a)) scope
unfolding expression_kind
judged-IsNull schema scope g a = ap (λ (j : Scope → Judged). j scope) (fold-IsNull (Scope → Judged) (judged_level schema) g a)

pub fits-IsNull : (schema : Catalog) (scope : Scope) (g : Bool) (a : Expr) → fits schema (expr.IsNull g a) scope ≡ fits_step schema (Expr-F.IsNull g (fits schema a)) scope
unfolding fits
fits-IsNull schema scope g a = ap (λ (f : Scope → Bool). f scope) (fold-IsNull (Scope → Bool) (fits_step schema) g a)

pub evaluated-And : (es : List Expr) → meaning_of (expr.And es) ≡ meaning (Expr-F.And (map meaning_of es))
unfolding meaning_of
evaluated-And es = fold-And Meaning meaning es

pub judged-And : (schema : Catalog) (scope : Scope) (es : List Expr) → expression_kind schema (expr.And es) scope ≡ judged_level schema (Expr-F.And (map (expression_kind schema) es)) scope
unfolding expression_kind
judged-And schema scope es = ap (λ (j : Scope → Judged). j scope) (fold-And (Scope → Judged) (judged_level schema) es)

pub fits-And : (schema : Catalog) (scope : Scope) (es : List Expr) → fits schema (expr.And es) scope ≡ fits_step schema (Expr-F.And (map (fits schema) es)) scope
unfolding fits
fits-And schema scope es = ap (λ (f : Scope → Bool). f scope) (fold-And (Scope → Bool) (fits_step schema) es)

pub evaluated-Or : (es : List Expr) → meaning_of (expr.Or es) ≡ meaning (Expr-F.Or (map meaning_of es))
unfolding meaning_of
evaluated-Or es = fold-Or Meaning meaning es

pub judged-Or : (schema : Catalog) (scope : Scope) (es : List Expr) → expression_kind schema (expr.Or es) scope ≡ judged_level schema (Expr-F.Or (map (expression_kind schema) es)) scope
unfolding expression_kind
judged-Or schema scope es = ap (λ (j : Scope → Judged). j scope) (fold-Or (Scope → Judged) (judged_level schema) es)

pub fits-Or : (schema : Catalog) (scope : Scope) (es : List Expr) → fits schema (expr.Or es) scope ≡ fits_step schema (Expr-F.Or (map (fits schema) es)) scope
unfolding fits
fits-Or schema scope es = ap (λ (f : Scope → Bool). f scope) (fold-Or (Scope → Bool) (fits_step schema) es)

pub evaluated-Not : (a : Expr) → meaning_of (expr.Not a) ≡ meaning (Expr-F.Not (meaning_of a))
unfolding meaning_of
evaluated-Not a = fold-Not Meaning meaning a

pub judged-Not : (schema : Catalog) (scope : Scope) (a : Expr) → expression_kind schema (expr.Not a) scope ≡ judged_level schema (Expr-F.Not (expression_kind schema a)) scope
unfolding expression_kind
judged-Not schema scope a = ap (λ (j : Scope → Judged). j scope) (fold-Not (Scope → Judged) (judged_level schema) a)

pub fits-Not : (schema : Catalog) (scope : Scope) (a : Expr) → fits schema (expr.Not a) scope ≡ fits_step schema (Expr-F.Not (fits schema a)) scope
unfolding fits
fits-Not schema scope a = ap (λ (f : Scope → Bool). f scope) (fold-Not (Scope → Bool) (fits_step schema) a)

pub evaluated-Arith : (op : ArithOp) (a : Expr) (b : Expr) → meaning_of (expr.Arith op a b) ≡ meaning (Expr-F.Arith op (meaning_of a) (meaning_of b))
unfolding meaning_of
evaluated-Arith op a b = fold-Arith Meaning meaning op a b

pub judged-Arith : (schema : Catalog) (scope : Scope) (op : ArithOp) (a : Expr) (b : Expr) → expression_kind schema (expr.Arith op a b) scope ≡ judged_level schema (Expr-F.Arith op (expression_kind schema a) (expression_kind schema b)) scope
unfolding expression_kind
judged-Arith schema scope op a b = ap (λ (j : Scope → Judged). j scope) (fold-Arith (Scope → Judged) (judged_level schema) op a b)

pub fits-Arith : (schema : Catalog) (scope : Scope) (op : ArithOp) (a : Expr) (b : Expr) → fits schema (expr.Arith op a b) scope ≡ fits_step schema (Expr-F.Arith op (fits schema a) (fits schema b)) scope
unfolding fits
fits-Arith schema scope op a b = ap (λ (f : Scope → Bool). f scope) (fold-Arith (Scope → Bool) (fits_step schema) op a b)

pub evaluated-Neg : (a : Expr) → meaning_of (expr.Neg a) ≡ meaning (Expr-F.Neg (meaning_of a))
unfolding meaning_of
evaluated-Neg a = fold-Neg Meaning meaning a

pub judged-Neg : (schema : Catalog) (scope : Scope) (a : Expr) → expression_kind schema (expr.Neg a) scope ≡ judged_level schema (Expr-F.Neg (expression_kind schema a)) scope
unfolding expression_kind
judged-Neg schema scope a = ap (λ (j : Scope → Judged). j scope) (fold-Neg (Scope → Judged) (judged_level schema) a)

pub fits-Neg : (schema : Catalog) (scope : Scope) (a : Expr) → fits schema (expr.Neg a) scope ≡ fits_step schema (Expr-F.Neg (fits schema a)) scope
unfolding fits
fits-Neg schema scope a = ap (λ (f : Scope → Bool). f scope) (fold-Neg (Scope → Bool) (fits_step schema) a)

pub evaluated-Concat : (a : Expr) (b : Expr) → meaning_of (expr.Concat a b) ≡ meaning (Expr-F.Concat (meaning_of a) (meaning_of b))
unfolding meaning_of
evaluated-Concat a b = fold-Concat Meaning meaning a b

pub judged-Concat : (schema : Catalog) (scope : Scope) (a : Expr) (b : Expr) → expression_kind schema (expr.Concat a b) scope ≡ judged_level schema (Expr-F.Concat (expression_kind schema a) (expression_kind schema b)) scope
unfolding expression_kind
judged-Concat schema scope a b = ap (λ (j : Scope → Judged). j scope) (fold-Concat (Scope → Judged) (judged_level schema) a b)

pub fits-Concat : (schema : Catalog) (scope : Scope) (a : Expr) (b : Expr) → fits schema (expr.Concat a b) scope ≡ fits_step schema (Expr-F.Concat (fits schema a) (fits schema b)) scope
unfolding fits
fits-Concat schema scope a b = ap (λ (f : Scope → Bool). f scope) (fold-Concat (Scope → Bool) (fits_step schema) a b)

pub evaluated-Like : (g : Bool) (a : Expr) (b : Expr) → meaning_of (expr.Like g a b) ≡ meaning (Expr-F.Like g (meaning_of a) (meaning_of b))
unfolding meaning_of
evaluated-Like g a b = fold-Like Meaning meaning g a b

pub judged-Like : (schema : Catalog) (scope : Scope) (g : Bool) (a : Expr) (b : Expr) → expression_kind schema (expr.Like g a b) scope ≡ judged_level schema (Expr-F.Like g (expression_kind schema a) (expression_kind schema b)) scope
unfolding expression_kind
judged-Like schema scope g a b = ap (λ (j : Scope → Judged). j scope) (fold-Like (Scope → Judged) (judged_level schema) g a b)

pub fits-Like : (schema : Catalog) (scope : Scope) (g : Bool) (a : Expr) (b : Expr) → fits schema (expr.Like g a b) scope ≡ fits_step schema (Expr-F.Like g (fits schema a) (fits schema b)) scope
unfolding fits
fits-Like schema scope g a b = ap (λ (f : Scope → Bool). f scope) (fold-Like (Scope → Bool) (fits_step schema) g a b)

pub evaluated-Ilike : (g : Bool) (a : Expr) (b : Expr) → meaning_of (expr.Ilike g a b) ≡ meaning (Expr-F.Ilike g (meaning_of a) (meaning_of b))
unfolding meaning_of
evaluated-Ilike g a b = fold-Ilike Meaning meaning g a b

pub judged-Ilike : (schema : Catalog) (scope : Scope) (g : Bool) (a : Expr) (b : Expr) → expression_kind schema (expr.Ilike g a b) scope ≡ judged_level schema (Expr-F.Ilike g (expression_kind schema a) (expression_kind schema b)) scope
unfolding expression_kind
judged-Ilike schema scope g a b = ap (λ (j : Scope → Judged). j scope) (fold-Ilike (Scope → Judged) (judged_level schema) g a b)

pub fits-Ilike : (schema : Catalog) (scope : Scope) (g : Bool) (a : Expr) (b : Expr) → fits schema (expr.Ilike g a b) scope ≡ fits_step schema (Expr-F.Ilike g (fits schema a) (fits schema b)) scope
unfolding fits
fits-Ilike schema scope g a b = ap (λ (f : Scope → Bool). f scope) (fold-Ilike (Scope → Bool) (fits_step schema) g a b)

pub evaluated-InList : (g : Bool) (a : Expr) (vs : List Value) → meaning_of (expr.InList g a vs) ≡ meaning (Expr-F.InList g (meaning_of a) vs)
unfolding meaning_of
evaluated-InList g a vs = fold-InList Meaning meaning g a vs

pub judged-InList : (schema : Catalog) (scope : Scope) (g : Bool) (a : Expr) (vs : List Value) → expression_kind schema (expr.InList g a vs) scope ≡ judged_level schema (Expr-F.InList g (expression_kind schema a) vs) scope
unfolding expression_kind
judged-InList schema scope g a vs = ap (λ (j : Scope → Judged). j scope) (fold-InList (Scope → Judged) (judged_level schema) g a vs)

pub fits-InList : (schema : Catalog) (scope : Scope) (g : Bool) (a : Expr) (vs : List Value) → fits schema (expr.InList g a vs) scope ≡ fits_step schema (Expr-F.InList g (fits schema a) vs) scope
unfolding fits
fits-InList schema scope g a vs = ap (λ (f : Scope → Bool). f scope) (fold-InList (Scope → Bool) (fits_step schema) g a vs)

pub evaluated-Between : (g : Bool) (a : Expr) (low : Expr) (high : Expr) → meaning_of (expr.Between g a low high) ≡ meaning (Expr-F.Between g (meaning_of a) (meaning_of low) (meaning_of high))
unfolding meaning_of
evaluated-Between g a low high = fold-Between Meaning meaning g a low high

pub judged-Between : (schema : Catalog) (scope : Scope) (g : Bool) (a : Expr) (low : Expr) (high : Expr) → expression_kind schema (expr.Between g a low high) scope ≡ judged_level schema (Expr-F.Between g (expression_kind schema a) (expression_kind schema low) (expression_kind schema high)) scope
unfolding expression_kind
judged-Between schema scope g a low high = ap (λ (j : Scope → Judged). j scope) (fold-Between (Scope → Judged) (judged_level schema) g a low high)

pub fits-Between : (schema : Catalog) (scope : Scope) (g : Bool) (a : Expr) (low : Expr) (high : Expr) → fits schema (expr.Between g a low high) scope ≡ fits_step schema (Expr-F.Between g (fits schema a) (fits schema low) (fits schema high)) scope
unfolding fits
fits-Between schema scope g a low high = ap (λ (f : Scope → Bool). f scope) (fold-Between (Scope → Bool) (fits_step schema) g a low high)

pub evaluated-Distinct : (g : Bool) (a : Expr) (b : Expr) → meaning_of (expr.Distinct g a b) ≡ meaning (Expr-F.Distinct g (meaning_of a) (meaning_of b))
unfolding meaning_of
evaluated-Distinct g a b = fold-Distinct Meaning meaning g a b

pub judged-Distinct : (schema : Catalog) (scope : Scope) (g : Bool) (a : Expr) (b : Expr) → expression_kind schema (expr.Distinct g a b) scope ≡ judged_level schema (Expr-F.Distinct g (expression_kind schema a) (expression_kind schema b)) scope
unfolding expression_kind
judged-Distinct schema scope g a b = ap (λ (j : Scope → Judged). j scope) (fold-Distinct (Scope → Judged) (judged_level schema) g a b)

pub fits-Distinct : (schema : Catalog) (scope : Scope) (g : Bool) (a : Expr) (b : Expr) → fits schema (expr.Distinct g a b) scope ≡ fits_step schema (Expr-F.Distinct g (fits schema a) (fits schema b)) scope
unfolding fits
fits-Distinct schema scope g a b = ap (λ (f : Scope → Bool). f scope) (fold-Distinct (Scope → Bool) (fits_step schema) g a b)

pub evaluated-Call : (f : Func) (es : List Expr) → meaning_of (expr.Call f es) ≡ meaning (Expr-F.Call f (map meaning_of es))
unfolding meaning_of
evaluated-Call f es = fold-Call Meaning meaning f es

pub judged-Call : (schema : Catalog) (scope : Scope) (f : Func) (es : List Expr) → expression_kind schema (expr.Call f es) scope ≡ judged_level schema (Expr-F.Call f (map (expression_kind schema) es)) scope
unfolding expression_kind
judged-Call schema scope f es = ap (λ (j : Scope → Judged). j scope) (fold-Call (Scope → Judged) (judged_level schema) f es)

pub fits-Call : (schema : Catalog) (scope : Scope) (f : Func) (es : List Expr) → fits schema (expr.Call f es) scope ≡ fits_step schema (Expr-F.Call f (map (fits schema) es)) scope
unfolding fits
fits-Call schema scope f es = ap (λ (f : Scope → Bool). f scope) (fold-Call (Scope → Bool) (fits_step schema) f es)

pub evaluated-CountAll : meaning_of expr.CountAll ≡ meaning Expr-F.CountAll
unfolding meaning_of
evaluated-CountAll = fold-CountAll Meaning meaning

pub judged-CountAll : (schema : Catalog) (scope : Scope) → expression_kind schema expr.CountAll scope ≡ judged_level schema Expr-F.CountAll scope
unfolding expression_kind
judged-CountAll schema scope = ap (λ (j : Scope → Judged). j scope) (fold-CountAll (Scope → Judged) (judged_level schema))

pub fits-CountAll : (schema : Catalog) (scope : Scope) → fits schema expr.CountAll scope ≡ fits_step schema Expr-F.CountAll scope
unfolding fits
fits-CountAll schema scope = ap (λ (f : Scope → Bool). f scope) (fold-CountAll (Scope → Bool) (fits_step schema))

pub evaluated-Exists : (g : Bool) (o : Origin) (a : Expr) → meaning_of (expr.Exists g o a) ≡ meaning (Expr-F.Exists g o (meaning_of a))
unfolding meaning_of
evaluated-Exists g o a = fold-Exists Meaning meaning g o a

pub judged-Exists : (schema : Catalog) (scope : Scope) (g : Bool) (o : Origin) (a : Expr) → expression_kind schema (expr.Exists g o a) scope ≡ judged_level schema (Expr-F.Exists g o (expression_kind schema a)) scope
unfolding expression_kind
judged-Exists schema scope g o a = ap (λ (j : Scope → Judged). j scope) (fold-Exists (Scope → Judged) (judged_level schema) g o a)

pub fits-Exists : (schema : Catalog) (scope : Scope) (g : Bool) (o : Origin) (a : Expr) → fits schema (expr.Exists g o a) scope ≡ fits_step schema (Expr-F.Exists g o (fits schema a)) scope
unfolding fits
fits-Exists schema scope g o a = ap (λ (f : Scope → Bool). f scope) (fold-Exists (Scope → Bool) (fits_step schema) g o a)

pub full_rolled : (x : Expr-F Expr) → has_full_lists (roll-Expr x) ≡ full_level (map-Expr Expr Bool has_full_lists x)
unfolding has_full_lists
full_rolled x = fold-roll-Expr Bool full_level x
