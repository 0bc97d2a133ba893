-- Each test of an expression holds exactly where its condition does.
use Rattle.std.proofs.Common.{◌≡◌, ℕ, Bool, true, ◌&&◌, List, [], ◌∷◌, Option, Some, None, Ok, Err, is_ok, refl, ap, ◌∙◌, ◌<◌, length}
use Rattle.std.proofs.lemmas.Bool.{and_from, and_parts, lt-ltb, ltb-true}
use Rattle.std.specs.List.{list_all, AllByRecursion}
use Rattle.base_core.specs.declared.ids.TableId.{TableId}
use Rattle.base_core.specs.declared.value.Kind.{Kind}
use Rattle.base_core.specs.declared.value.Kind.TheVariants as kinds
use Rattle.schema_core.specs.Catalog.{Catalog}
use Rattle.expr_types.specs.declared.expr.Expr.{Expr}
use Rattle.expr_types.specs.declared.expr.Origin.{Origin}
use Rattle.expr_types.specs.Normal.{normal}
use Rattle.expr_types.specs.Same.{same}
use Rattle.sql_semantics.specs.Kinds.{Judged, Scope, expression_kind}
use Rattle.sql_semantics.specs.Plain.{IfSet, IsCondition, IsFilter, StandsIn, fits, has_full_lists, lacks_aggregate, names_apart}
use Rattle.sql_semantics.proofs.Typed.{kind_itself, same_kind_is}
use Rattle.expr_scopes.specs.Scopes as scopes
use Rattle.plain_statements.specs.Tested as test
use Rattle.expr_scopes.proofs.Equality.{same_from, same_is}

-- a test that tells whether something is so
pub record Tells (b : Bool) (P : Type 0) : Type 0 where
  pub told : b ≡ true → P
  pub holds : P → b ≡ true

-- ---- lists and options

pub each : {A : Type 0} (p : A → Bool) (P : A → Type 0) → ((x : A) → Tells (p x) (P x)) → (xs : List A) → Tells (list_all p xs) (AllByRecursion P xs)
each p P tells [] = record { told = λ h. tt; holds = λ h. refl }
each p P tells (x ∷ xs) = record {
  told = λ h. let both = and_parts (p x) (list_all p xs) h in ((tells x).told both.0, (each p P tells xs).told both.1);
  holds = λ h. and_from (p x) (list_all p xs) ((tells x).holds h.0) ((each p P tells xs).holds h.1);
}

pub if_there : (p : Expr → Bool) (P : Expr → Type 0) → ((e : Expr) → Tells (p e) (P e)) → (o : Option Expr) → Tells (test.if_set p o) (IfSet P o)
if_there p P tells (Some e) = tells e
if_there p P tells None = record { told = λ h. tt; holds = λ h. refl }

-- ---- tables

pub known : (schema : Catalog) (table : TableId) → Tells (scopes.is_known schema table) (table.0 < length schema.tables)
known schema table = record { told = ltb-true table.0 (length schema.tables); holds = lt-ltb table.0 (length schema.tables) }

-- ---- kinds

pub of_kind : (kind : Kind) (r : Judged) → Tells (test.is_of kind r) (r ≡ Ok kind)
of_kind kind (Ok found) = record { told = λ h. ap Ok (same_kind_is found kind h); holds = λ h. ap (test.is_of kind) h ∙ kind_itself kind }
of_kind kind (Err mismatch) = record { told = λ h. absurd (cc); holds = λ h. absurd (cc) }

kind_ok : (kind : Kind) (r : Judged) → r ≡ Ok kind → is_ok r ≡ true
kind_ok kind r h = ap is_ok h

-- ---- an expression under sources

pub placed : (schema : Catalog) (sources : List Origin) (e : Expr) → test.is_placed schema (test.tables_of sources) (test.names_of schema sources) e ≡ true
    → is_ok (expression_kind schema e (test.tables_of sources)) ≡ true → StandsIn schema sources e
placed schema sources e h typed =
    let scope : Scope = test.tables_of sources in
    let names : List (List ℕ) = test.names_of schema sources in
    let three = and_parts (fits schema e scope && names_apart schema e names && has_full_lists e) (same (normal e) e) h in
    let two = and_parts (fits schema e scope && names_apart schema e names) (has_full_lists e) three.0 in
    let one = and_parts (fits schema e scope) (names_apart schema e names) two.0 in
    record { fitting = one.0; typed = typed; in_normal_form = same_is (normal e) e three.1; full_lists = two.1; apart = one.1 }

pub placed_from : (schema : Catalog) (sources : List Origin) (e : Expr) → StandsIn schema sources e → test.is_placed schema (test.tables_of sources) (test.names_of schema sources) e ≡ true
placed_from schema sources e s =
    let scope : Scope = test.tables_of sources in
    let names : List (List ℕ) = test.names_of schema sources in
    and_from (fits schema e scope && names_apart schema e names && has_full_lists e) (same (normal e) e)
    (and_from (fits schema e scope && names_apart schema e names) (has_full_lists e) (and_from (fits schema e scope) (names_apart schema e names) s.fitting s.apart) s.full_lists)
    (same_from (normal e) e s.in_normal_form)

pub standing : (schema : Catalog) (sources : List Origin) (e : Expr) → Tells (test.stands schema (test.tables_of sources) (test.names_of schema sources) e) (StandsIn schema sources e)
standing schema sources e =
    let scope : Scope = test.tables_of sources in
    let names : List (List ℕ) = test.names_of schema sources in
    record {
      told = λ h. let both = and_parts (test.is_placed schema scope names e) (is_ok (expression_kind schema e scope)) h in placed schema sources e both.0 both.1;
      holds = λ s. and_from (test.is_placed schema scope names e) (is_ok (expression_kind schema e scope)) (placed_from schema sources e s) s.typed;
    }

-- an expression that stands and is of a kind
pub standing_as : (schema : Catalog) (sources : List Origin) (kind : Kind) (e : Expr)
    → Tells (test.stands_as schema (test.tables_of sources) (test.names_of schema sources) kind e) (StandsIn schema sources e × (expression_kind schema e (test.tables_of sources) ≡ Ok kind))
standing_as schema sources kind e =
    let scope : Scope = test.tables_of sources in
    let names : List (List ℕ) = test.names_of schema sources in
    record {
      told = λ h.
          let both = and_parts (test.is_placed schema scope names e) (test.is_of kind (expression_kind schema e scope)) h in
          let is : expression_kind schema e scope ≡ Ok kind = (of_kind kind (expression_kind schema e scope)).told both.1 in
          (placed schema sources e both.0 (kind_ok kind (expression_kind schema e scope) is), is);
      holds = λ s. and_from (test.is_placed schema scope names e) (test.is_of kind (expression_kind schema e scope)) (placed_from schema sources e s.0) ((of_kind kind (expression_kind schema e scope)).holds s.1);
    }

pub condition : (schema : Catalog) (sources : List Origin) (e : Expr) → Tells (test.is_condition schema (test.tables_of sources) (test.names_of schema sources) e) (IsCondition schema sources e)
condition schema sources e = record {
  told = λ h. let s = (standing_as schema sources kinds.Boolean e).told h in record { stands = s.0; boolean = s.1 };
  holds = λ c. (standing_as schema sources kinds.Boolean e).holds (c.stands, c.boolean);
}

pub row_condition : (schema : Catalog) (sources : List Origin) (e : Expr) → Tells (test.is_filter schema (test.tables_of sources) (test.names_of schema sources) e) (IsFilter schema sources e)
row_condition schema sources e =
    let first : Bool = test.is_condition schema (test.tables_of sources) (test.names_of schema sources) e in
    record {
      told = λ h. let both = and_parts first (lacks_aggregate e) h in record { condition = (condition schema sources e).told both.0; no_aggregate = both.1 };
      holds = λ f. and_from first (lacks_aggregate e) ((condition schema sources e).holds f.condition) f.no_aggregate;
    }
