-- What is tested at every level, at the levels that have lists of operands; and names that stand once.
use Rattle.std.proofs.Common.{◌≡◌, ℕ, Bool, not, ◌&&◌, nat_lt, suc, List, [], ◌∷◌, ◌++◌, map, length, refl, ap, ◌∙◌}
use Rattle.std.specs.List.{list_all}
use Rattle.schema_core.specs.Catalog.{Catalog, has_name, same_name}
use Rattle.schema_core.specs.Declaration.{some_two}
use Rattle.expr_types.specs.declared.expr.Expr.{Expr}
use Rattle.expr_types.specs.declared.expr.Expr.TheOpen.{Expr-F}
use Rattle.expr_types.specs.declared.expr.Expr.TheVariants as expr
use Rattle.expr_types.specs.declared.expr.Func.{Func}
use Rattle.expr_types.specs.declared.expr.Origin.{Origin}
use Rattle.expr_types.specs.Level.{operands, scope_below}
use Rattle.expr_types.proofs.Folds.{fold-And, fold-Or, fold-Call}
use Rattle.sql_semantics.specs.Kinds.{Scope}
use Rattle.sql_semantics.specs.Plain.{adds_name, are_distinct, fits, full_level, has_full_lists, name_of, names_apart, takes}
use Rattle.sql_semantics.proofs.Equations.{fits-And, fits-Or, fits-Call}
use Rattle.expr_scopes.proofs.Neither.{not_either}

pub fits_and : (schema : Catalog) (scope : Scope) (es : List Expr) → fits schema (expr.And es) scope ≡ list_all (λ holds. holds scope) (map (fits schema) es)
fits_and schema scope es = fits-And schema scope es

pub fits_or : (schema : Catalog) (scope : Scope) (es : List Expr) → fits schema (expr.Or es) scope ≡ list_all (λ holds. holds scope) (map (fits schema) es)
fits_or schema scope es = fits-Or schema scope es

same_count : (f : Func) (schema : Catalog) (es : List Expr) → takes f (length (map (fits schema) es)) ≡ takes f (length es)
same_count f schema es = ap (takes f) (counted es)
  where
    counted : (xs : List Expr) → length (map (fits schema) xs) ≡ length xs
    counted [] = refl
    counted (x ∷ xs) = ap suc (counted xs)

pub fits_call : (schema : Catalog) (scope : Scope) (f : Func) (es : List Expr) → fits schema (expr.Call f es) scope ≡ (takes f (length es) && list_all (λ holds. holds scope) (map (fits schema) es))
fits_call schema scope f es = fits-Call schema scope f es ∙ ap (λ b. b && list_all (λ (holds : Scope → Bool). holds scope) (map (fits schema) es)) (same_count f schema es)

pub ruleset fitting_lists = (fits_and, fits_or, fits_call)

-- ---- names

abbrev Names : Type 0
Names = List (List ℕ)

abbrev apart_step : Catalog → Expr-F (Names → Bool) → Names → Bool
apart_step schema level names =
    adds_name schema names level && list_all (λ holds. holds (scope_below (λ (around : Names) (origin : Origin). around ++ name_of schema origin ∷ []) names level)) (operands level)

pub apart_and : (schema : Catalog) (names : Names) (es : List Expr) → names_apart schema (expr.And es) names ≡ list_all (λ holds. holds names) (map (names_apart schema) es)
unfolding names_apart
apart_and schema names es = ap (λ (f : Names → Bool). f names) (fold-And (Names → Bool) (apart_step schema) es)

pub apart_or : (schema : Catalog) (names : Names) (es : List Expr) → names_apart schema (expr.Or es) names ≡ list_all (λ holds. holds names) (map (names_apart schema) es)
unfolding names_apart
apart_or schema names es = ap (λ (f : Names → Bool). f names) (fold-Or (Names → Bool) (apart_step schema) es)

pub apart_call : (schema : Catalog) (names : Names) (g : Func) (es : List Expr) → names_apart schema (expr.Call g es) names ≡ list_all (λ holds. holds names) (map (names_apart schema) es)
unfolding names_apart
apart_call schema names g es = ap (λ (f : Names → Bool). f names) (fold-Call (Names → Bool) (apart_step schema) g es)

pub ruleset apart_lists = (apart_and, apart_or, apart_call)

pub distinct_names : (names : Names) → are_distinct names ≡ not (some_two same_name names)
distinct_names [] = refl
distinct_names (name ∷ names) = ap (λ b. not (has_name names name) && b) (distinct_names names) ∙ not_either (has_name names name) (some_two same_name names)

-- ---- lists

same_many : {A B : Type 0} (f : A → B) (xs : List A) → nat_lt 1 (length (map f xs)) ≡ nat_lt 1 (length xs)
same_many f xs = ap (nat_lt 1) (counted f xs)
  where
    counted : {A B : Type 0} (f : A → B) (xs : List A) → length (map f xs) ≡ length xs
    counted f [] = refl
    counted f (x ∷ xs) = ap suc (counted f xs)

pub full_and : (es : List Expr) → has_full_lists (expr.And es) ≡ (nat_lt 1 (length es) && list_all (λ has. has) (map has_full_lists es))
unfolding has_full_lists
full_and es = fold-And Bool full_level es ∙ ap (λ b. b && list_all (λ (has : Bool). has) (map has_full_lists es)) (same_many has_full_lists es)

pub full_or : (es : List Expr) → has_full_lists (expr.Or es) ≡ (nat_lt 1 (length es) && list_all (λ has. has) (map has_full_lists es))
unfolding has_full_lists
full_or es = fold-Or Bool full_level es ∙ ap (λ b. b && list_all (λ (has : Bool). has) (map has_full_lists es)) (same_many has_full_lists es)

pub full_call : (f : Func) (es : List Expr) → has_full_lists (expr.Call f es) ≡ list_all (λ has. has) (map has_full_lists es)
unfolding has_full_lists
full_call f es = fold-Call Bool full_level f es

pub ruleset full_lists = (full_and, full_or, full_call)
