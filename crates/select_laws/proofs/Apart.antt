-- What stands apart from each `exists` in an expression does so in its operands.
use Rattle.std.proofs.Common.{◌≡◌, ℕ, ◌≤◌, nat_lt, Bool, true, false, not, ◌&&◌, ◌||◌, List, [], ◌∷◌, map, Option, Some, None, refl, sym, ◌∙◌, arith}
use Rattle.std.proofs.lemmas.Bool.{and_parts, ltb-false}
use Rattle.std.specs.List.{list_all, AllByRecursion}
use Rattle.base_core.specs.declared.ids.ColumnNo.{ColumnNo}
use Rattle.expr_types.specs.declared.expr.Func.{Func}
use Rattle.expr_types.specs.declared.expr.Expr.{Expr}
use Rattle.expr_types.specs.declared.expr.Expr.TheOpen.{Expr-F}
use Rattle.expr_types.specs.declared.expr.Expr.TheVariants as expr
use Rattle.expr_types.specs.Level.{is_aggregate_function}
use Rattle.sql_semantics.specs.Eval.{Row}
use Rattle.select_laws.specs.Apart.{stands_apart, may_be}
use Rattle.select_laws.proofs.Equations.{apart-Column, apart-Call}

-- in a group, aggregates and the columns of outer sources stand where they are free to; without one, no sources are outer ones
abbrev pub Apart : Option (List Row) → ℕ → Bool → Expr → Type 0
Apart None outer free e = outer ≡ 0
Apart (Some rows) outer free e = stands_apart outer e free ≡ true

all_apart : (outer : ℕ) (free : Bool) (es : List Expr) → list_all (λ (holds : Bool → Bool). holds free) (map (stands_apart outer) es) ≡ true → AllByRecursion (λ e. stands_apart outer e free ≡ true) es
all_apart outer free [] h = tt
all_apart outer free (e ∷ es) h =
    let both = and_parts (stands_apart outer e free) (list_all (λ (holds : Bool → Bool). holds free) (map (stands_apart outer) es)) h in (both.0, all_apart outer free es both.1)

pub none_apart : (outer : ℕ) (free : Bool) (es : List Expr) → outer ≡ 0 → AllByRecursion (Apart None outer free) es
none_apart outer free [] h = tt
none_apart outer free (e ∷ es) h = (h, none_apart outer free es h)

-- the operands, of an expression with this test of its own level
pub apart_each : (group : Option (List Row)) (outer : ℕ) (free below : Bool) (e : Expr) (here : Bool) (es : List Expr) →
    stands_apart outer e free ≡ (here && list_all (λ (holds : Bool → Bool). holds below) (map (stands_apart outer) es)) → Apart group outer free e → AllByRecursion (Apart group outer below) es
apart_each None outer free below e here es is h = none_apart outer below es h
apart_each (Some rows) outer free below e here es is h =
    all_apart outer below es (and_parts here (list_all (λ (holds : Bool → Bool). holds below) (map (stands_apart outer) es)) (sym is ∙ h)).1

pub apart_alone : (group : Option (List Row)) (free : Bool) (e : Expr) → group ≡ None → Apart group 0 free e
apart_alone None free e is = refl
apart_alone (Some rows) free e is = absurd (cc)

pub apart_grouped : (group : Option (List Row)) (rows : List Row) (outer : ℕ) (free : Bool) (e : Expr) → group ≡ Some rows → stands_apart outer e free ≡ true → Apart group outer free e
apart_grouped None rows outer free e is h = absurd (cc)
apart_grouped (Some members) rows outer free e is h = h

-- in a group an aggregate is free to stand
abbrev pub Free : Option (List Row) → Bool → Type 0
Free None free = Unit {0}
Free (Some rows) free = free ≡ true

by_test : (free is : Bool) → (free || not (is || false)) ≡ true → is ≡ true → free ≡ true
by_test true is h e = refl
by_test false true h e = absurd (cc)
by_test false false h e = absurd (cc)

pub aggregate_free : (group : Option (List Row)) (outer : ℕ) (free : Bool) (f : Func) (es : List Expr) → is_aggregate_function f ≡ true → Apart group outer free (expr.Call f es) → Free group free
aggregate_free None outer free f es is h = tt
aggregate_free (Some rows) outer free f es is h =
    by_test free (is_aggregate_function f) (and_parts (may_be outer free (Expr-F.Call f (map (stands_apart outer) es))) _ (sym (apart-Call outer free f es) ∙ h)).0 is

not_outer : (b : Bool) → (not b && true) ≡ true → b ≡ false
not_outer true h = absurd (cc)
not_outer false h = refl

-- a column that is not free is of no outer source
pub column_inner : (group : Option (List Row)) (outer : ℕ) (s : ℕ) (c : ColumnNo) → Apart group outer false (expr.Column s c) → outer ≤ s
column_inner None outer s c h = omega (arith, h)
column_inner (Some rows) outer s c h = ltb-false s outer (not_outer (nat_lt s outer) (sym (apart-Column outer false s c) ∙ h))
