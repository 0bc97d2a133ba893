-- Expressions that are lists of others, and steps of loops over numbers.
use Rattle.std.proofs.Common.{◌≡◌, ℕ, suc, ◌+◌, ◌-◌, ◌<◌, ◌≤◌, List, [], ◌∷◌, ◌++◌, map, append_assoc, append-nil, refl, ap, arith, ◌∙◌}
use Rattle.std.specs.List.{flat_map, range_with_len}
use Rattle.schema_core.specs.Catalog.{Catalog}
use Rattle.expr_types.specs.declared.expr.Expr.{Expr}
use Rattle.expr_types.specs.declared.expr.Expr.TheVariants as expr
use Rattle.expr_types.specs.declared.expr.Func.{Func}
use Rattle.expr_types.proofs.Folds.{fold-And, fold-Or, fold-Call}
use Rattle.alias_names.specs.Names.{exists_names, names_at}

-- ---- names

joined_map : (f : Expr → List (List ℕ)) (es : List Expr) → flat_map (λ names. names) (map f es) ≡ flat_map f es
joined_map f [] = refl
joined_map f (e ∷ es) = ap (λ names. f e ++ names) (joined_map f es)

pub names_and : (schema : Catalog) (es : List Expr) → exists_names schema (expr.And es) ≡ flat_map (exists_names schema) es
unfolding exists_names
names_and schema es = fold-And (List (List ℕ)) (names_at schema) es ∙ joined_map (exists_names schema) es

pub names_or : (schema : Catalog) (es : List Expr) → exists_names schema (expr.Or es) ≡ flat_map (exists_names schema) es
unfolding exists_names
names_or schema es = fold-Or (List (List ℕ)) (names_at schema) es ∙ joined_map (exists_names schema) es

pub names_call : (schema : Catalog) (f : Func) (es : List Expr) → exists_names schema (expr.Call f es) ≡ flat_map (exists_names schema) es
unfolding exists_names
names_call schema f es = fold-Call (List (List ℕ)) (names_at schema) f es ∙ joined_map (exists_names schema) es

pub ruleset name_lists = (names_and, names_or, names_call, append_assoc, append-nil)

-- ---- numbers

numbers_more : (from n m : ℕ) → n ≡ suc m → range_with_len from n ≡ from ∷ range_with_len (from + 1) m
numbers_more from n m e = ap (range_with_len from) e

numbers_none : (from n : ℕ) → n ≡ 0 → range_with_len from n ≡ []
numbers_none from n e = ap (range_with_len from) e

-- the numbers from 1 on, of which so many are passed
pub numbers_left : (passed count : ℕ) → passed < count → range_with_len (passed + 1) (count - passed) ≡ (passed + 1) ∷ range_with_len (passed + 1 + 1) (count - (passed + 1))
numbers_left passed count h = numbers_more (passed + 1) (count - passed) (count - (passed + 1)) (omega (arith, h))

pub numbers_done : (passed count : ℕ) → count ≤ passed → range_with_len (passed + 1) (count - passed) ≡ []
numbers_done passed count h = numbers_none (passed + 1) (count - passed) (omega (arith, h))

pub ruleset range_steps = (numbers_left, numbers_done, append_assoc, append-nil)
