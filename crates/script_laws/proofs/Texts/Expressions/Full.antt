-- An expression that stands under sources has its operands, and its text is read.
use Rattle.std.proofs.Common.{◌≡◌, ℕ, Bool, true, ◌&&◌, List, [], ◌∷◌, length, map, refl, sym, ap, ◌∙◌, subst}
use Rattle.std.specs.Prelude.{nat_lt}
use Rattle.std.specs.List.{list_all}
use Rattle.std.proofs.lemmas.Bool.{and_parts, eqb-true}
use Rattle.std.proofs.lemmas.List.{length-map}
use Rattle.schema_core.specs.Catalog.{Catalog}
use Rattle.expr_types.specs.declared.expr.Expr.{Expr, roll-Expr}
use Rattle.expr_types.specs.declared.expr.Expr.TheOpen.{Expr-F}
use Rattle.expr_types.specs.declared.expr.Expr.TheFolds.{map-Expr}
use Rattle.expr_types.specs.declared.expr.Func.{Func}
use Rattle.expr_types.specs.declared.expr.Func.TheVariants as func
use Rattle.expr_types.specs.declared.expr.Origin.{Origin}
use Rattle.expr_types.specs.Level.{operands, scope_below}
use Rattle.expr_types.proofs.Folds.{bare, by_levels}
use Rattle.expr_types.proofs.Operands.{operands_map}
use Rattle.sql_semantics.specs.Kinds.{Scope}
use Rattle.sql_semantics.specs.Plain.{StandsIn, fits, fits_level, has_full_lists, several, takes}
use Rattle.sql_semantics.proofs.Equations.{enter, fits_rolled, full_rolled as lists_are_rolled}
use Rattle.sql_text.specs.Written.{nothing_written}
use Rattle.sql_expressions.specs.Laid.{laid}
use Rattle.script_laws.specs.Texts.Grammar.Trees.{Sql}
use Rattle.script_laws.specs.Texts.Grammar.Reads.{Reads, Either}
use Rattle.script_laws.proofs.Texts.Grammar.OneTree.{one_tree}
use Rattle.script_laws.specs.Texts.Expressions.Read.{ExpressionsAreRead, TextsTellTrees, written_alone}
use Rattle.script_laws.specs.Texts.Expressions.Tree.{tree}
use Rattle.script_laws.proofs.Texts.Expressions.Pieces.{all_written, and_both}
use Rattle.script_laws.proofs.Texts.Expressions.Levels.{to_either}
use Rattle.script_laws.proofs.Texts.Expressions.Expressions.{has_operands, is_full, full_rolled, full_read}

abbrev HasAll : Catalog → Expr → Type 0
HasAll schema e = (scope : Scope) → fits schema e scope ≡ true → has_full_lists e ≡ true → is_full e ≡ true

abbrev Known : Catalog → Type 0
Known schema = (e : Expr) × HasAll schema e

several_map : {A B : Type 0} (f : A → B) (x : Expr-F A) → several (map-Expr A B f x) ≡ several x
several_map f (Expr-F.And es) = ap (nat_lt 1) (length-map es f)
several_map f (Expr-F.Or es) = ap (nat_lt 1) (length-map es f)
several_map f x = refl

some_operand : (f : Func) (n : ℕ) → takes f n ≡ true → nat_lt 0 n ≡ true
some_operand func.Coalesce n h = h
some_operand f n h = one n (eqb-true n 1 h)
  where
    one : (n : ℕ) → n ≡ 1 → nat_lt 0 n ≡ true
    one n is = ap (nat_lt 0) is

operands_there : (schema : Catalog) (scope : Scope) (x : Expr-F Expr) → fits_level schema scope (map-Expr Expr (Scope → Bool) (fits schema) x) ≡ true → has_operands (map-Expr Expr Bool is_full x) ≡ true
operands_there schema scope (Expr-F.Call f es) h =
    ap (nat_lt 0) (length-map es is_full ∙ sym (length-map es (fits schema))) ∙ some_operand f (length (map (fits schema) es)) h
operands_there schema scope x h = refl

-- the operands of a level, with what becomes of each
operands_as : (schema : Catalog) {A : Type 0} (f : Expr → A) (y : Expr-F (Known schema)) → operands (map-Expr Expr A f (bare y)) ≡ map f (map (λ k. k.0) (operands y))
operands_as schema f y = operands_map f (bare y) ∙ ap (map f) (operands_map (λ k. k.0) y)

each_full : (schema : Catalog) (scope : Scope) (ks : List (Known schema)) → list_all (λ (holds : Scope → Bool). holds scope) (map (fits schema) (map (λ k. k.0) ks)) ≡ true
    → list_all (λ b. b) (map has_full_lists (map (λ k. k.0) ks)) ≡ true → list_all (λ b. b) (map is_full (map (λ k. k.0) ks)) ≡ true
each_full schema scope [] h l = refl
each_full schema scope (k ∷ ks) h l =
    let one = and_parts (fits schema k.0 scope) (list_all (λ (holds : Scope → Bool). holds scope) (map (fits schema) (map (λ (k : Known schema). k.0) ks))) h in
    let two = and_parts (has_full_lists k.0) (list_all (λ b. b) (map has_full_lists (map (λ (k : Known schema). k.0) ks))) l in
    and_both (is_full k.0) (list_all (λ b. b) (map is_full (map (λ (k : Known schema). k.0) ks))) (k.1 scope one.0 two.0) (each_full schema scope ks one.1 two.1)

step : (schema : Catalog) (y : Expr-F (Known schema)) → HasAll schema (roll-Expr (bare y))
step schema y scope h l =
    let x : Expr-F Expr = bare y in
    let level : Expr-F (Scope → Bool) = map-Expr Expr (Scope → Bool) (fits schema) x in
    let below : Scope = scope_below enter scope level in
    let one = and_parts (fits_level schema scope level) (list_all (λ (holds : Scope → Bool). holds below) (operands level)) (sym (fits_rolled schema scope x) ∙ h) in
    let two = and_parts (several (map-Expr Expr Bool has_full_lists x)) (list_all (λ b. b) (operands (map-Expr Expr Bool has_full_lists x))) (sym (lists_are_rolled x) ∙ l) in
    full_rolled x
    ∙ and_both (several (map-Expr Expr Bool is_full x) && has_operands (map-Expr Expr Bool is_full x)) (list_all (λ b. b) (operands (map-Expr Expr Bool is_full x)))
    (and_both (several (map-Expr Expr Bool is_full x)) (has_operands (map-Expr Expr Bool is_full x)) (several_map is_full x ∙ (sym (several_map has_full_lists x) ∙ two.0)) (operands_there schema scope x one.0))
    (ap (list_all (λ b. b)) (operands_as schema is_full y)
    ∙ each_full schema below (operands y) (sym (ap (list_all (λ (holds : Scope → Bool). holds below)) (operands_as schema (fits schema) y)) ∙ one.1) (sym (ap (list_all (λ b. b)) (operands_as schema has_full_lists y)) ∙ two.1))

pub has_all : (schema : Catalog) (e : Expr) → HasAll schema e
has_all schema = by_levels (HasAll schema) (step schema)

pub stands_full : (schema : Catalog) (sources : List Origin) (e : Expr) → StandsIn schema sources e → is_full e ≡ true
stands_full schema sources e s = has_all schema e (map (λ origin. origin.table) sources) s.fitting s.full_lists

pub expressions_are_read : ExpressionsAreRead
expressions_are_read dialect schema sources base e s =
    all_written (λ t v. Reads dialect Either t v (tree dialect schema e sources)) (nothing_written dialect) ((laid dialect schema e).pieces sources base)
    (λ t v w. to_either (laid dialect schema e).level (full_read dialect schema e (stands_full schema sources e s) sources base t v w))

pub texts_tell_trees : TextsTellTrees
texts_tell_trees dialect schema other_schema sources other_sources base other_base e other h g same_text same_values =
    let x : Sql = tree dialect other_schema other other_sources in
    one_tree dialect Either (written_alone dialect schema sources base e).text (written_alone dialect schema sources base e).values (tree dialect schema e sources) x
    (expressions_are_read dialect schema sources base e h)
    (subst (λ text. Reads dialect Either text (written_alone dialect schema sources base e).values x) (sym same_text)
    (subst (λ values. Reads dialect Either (written_alone dialect other_schema other_sources other_base other).text values x) (sym same_values)
    (expressions_are_read dialect other_schema other_sources other_base other g)))
