-- Each table that a plain select names is declared.
use Rattle.std.proofs.Common.{◌≡◌, ◌<◌, ℕ, Bool, true, false, ◌||◌, ◌==◌, List, [], ◌∷◌, ◌++◌, length, map, Option, Some, None, Result, Ok, Err, IfErr, IsTrue, refl, sym, ap, subst, ◌∙◌}
use Rattle.std.proofs.lemmas.Bool.{and_parts, eqb-true, ltb-true}
use Rattle.std.specs.List.{list_all, list_any, AllByRecursion}
use Rattle.expr_types.proofs.Operands.{operands_map}
use Rattle.base_core.proofs.Lists.{every_append}
use Rattle.base_core.specs.declared.ids.TableId.{TableId}
use Rattle.base_core.specs.declared.refusal.Refusal.{Refusal}
use Rattle.base_core.specs.declared.refusal.Refusal.TheVariants.{OperationalError}
use Rattle.schema_core.specs.Catalog.{Catalog}
use Rattle.expr_types.specs.declared.expr.Expr.{Expr, roll-Expr}
use Rattle.expr_types.specs.declared.expr.Expr.TheOpen.{Expr-F}
use Rattle.expr_types.specs.declared.expr.Expr.TheFolds.{map-Expr, fold-roll-Expr}
use Rattle.expr_types.specs.declared.expr.Origin.{Origin}
use Rattle.expr_types.specs.declared.select.Joined.{Joined}
use Rattle.expr_types.specs.declared.select.Select.{Select}
use Rattle.expr_types.specs.Level.{operands, scope_below}
use Rattle.expr_types.proofs.Folds.{bare, by_levels}
use Rattle.sql_semantics.specs.Kinds.{Scope}
use Rattle.sql_semantics.specs.Plain.{AreJoined, IfSet, IsCondition, IsFilter, IsPlainSelect, StandsIn, fits, fits_level, is_declared, sources_of}
use Rattle.base_core.specs.Answers.{Gives}
use Rattle.sql_semantics.specs.Eval.{Row, Tables}
use Rattle.sql_semantics.specs.SelectRefusals.{CanRefuse, IsOfDeclared}
use Rattle.sql_semantics.specs.Rows.{answer, flat, exists_tables, named_where, own_table, tables_of}
use Rattle.sql_semantics.proofs.Equations.{enter, fits_rolled}
use Rattle.select_rows.proofs.Refused.{refused_rows}

-- each number is a declared table's
abbrev pub AreTables : Catalog → List ℕ → Type 0
AreTables schema ts = AllByRecursion (λ t. t < length schema.tables) ts

pub both_tables : (schema : Catalog) (ts us : List ℕ) → AreTables schema ts → AreTables schema us → AreTables schema (ts ++ us)
both_tables schema = every_append (λ t. t < length schema.tables)

-- ---- expressions

abbrev NamesTables : Expr → Type 0
NamesTables e = (schema : Catalog) (scope : Scope) → fits schema e scope ≡ true → AreTables schema (exists_tables e)

abbrev Known : Type 0
Known = (e : Expr) × NamesTables e

abbrev plain : List Known → List Expr
plain = map (λ k. k.0)

abbrev pub named_step : Expr-F (List ℕ) → List ℕ
named_step level = own_table level ++ flat (operands level)

own_tables : (schema : Catalog) (scope : Scope) (x : Expr-F Expr) → fits_level schema scope (map-Expr Expr (Scope → Bool) (fits schema) x) ≡ true → AreTables schema (own_table (map-Expr Expr (List ℕ) exists_tables x))
own_tables schema scope (Expr-F.Exists g o a) h = (ltb-true o.table.0 (length schema.tables) h, tt)
own_tables schema scope x h = tt

each_named : (schema : Catalog) (scope : Scope) (ks : List Known) → list_all (λ (holds : Scope → Bool). holds scope) (map (fits schema) (plain ks)) ≡ true → AreTables schema (flat (map exists_tables (plain ks)))
each_named schema scope [] h = tt
each_named schema scope (k ∷ ks) h =
    let both = and_parts (fits schema k.0 scope) (list_all (λ (holds : Scope → Bool). holds scope) (map (fits schema) (plain ks))) h in
    both_tables schema (exists_tables k.0) (flat (map exists_tables (plain ks))) (k.1 schema scope both.0) (each_named schema scope ks both.1)

-- the operands of a level, with what becomes of each
operands_as : {A : Type 0} (f : Expr → A) (y : Expr-F Known) → operands (map-Expr Expr A f (bare y)) ≡ map f (plain (operands y))
operands_as f y = operands_map f (bare y) ∙ ap (map f) (operands_map (λ k. k.0) y)

named_rolled : (x : Expr-F Expr) → exists_tables (roll-Expr x) ≡ named_step (map-Expr Expr (List ℕ) exists_tables x)
unfolding exists_tables
named_rolled x = fold-roll-Expr (List ℕ) named_step x

step : (y : Expr-F Known) → NamesTables (roll-Expr (bare y))
step y schema scope h =
    let level : Expr-F (Scope → Bool) = map-Expr Expr (Scope → Bool) (fits schema) (bare y) in
    let below : Scope = scope_below enter scope level in
    let both = and_parts (fits_level schema scope level) (list_all (λ (holds : Scope → Bool). holds below) (operands level)) (sym (fits_rolled schema scope (bare y)) ∙ h) in
    subst (AreTables schema) (sym (named_rolled (bare y)))
    (both_tables schema (own_table (map-Expr Expr (List ℕ) exists_tables (bare y))) (flat (operands (map-Expr Expr (List ℕ) exists_tables (bare y)))) (own_tables schema scope (bare y) both.0)
    (subst (λ (ls : List (List ℕ)). AreTables schema (flat ls)) (sym (operands_as exists_tables y))
    (each_named schema below (operands y) (subst (λ (hs : List (Scope → Bool)). list_all (λ (holds : Scope → Bool). holds below) hs ≡ true) (operands_as (fits schema) y) both.1))))

-- each table of an expression that stands in a scope is declared
pub named_tables : (e : Expr) → NamesTables e
named_tables = by_levels NamesTables step

-- ---- the parts of a select

pub stands_tables : (schema : Catalog) (sources : List Origin) (e : Expr) → StandsIn schema sources e → AreTables schema (exists_tables e)
stands_tables schema sources e h = named_tables e schema (map (λ origin. origin.table) sources) h.fitting

each_tables : {A : Type 0} (e : A → Expr) (schema : Catalog) (sources : List Origin) (xs : List A) → AllByRecursion (λ x. StandsIn schema sources (e x)) xs → AreTables schema (flat (map (λ x. exists_tables (e x)) xs))
each_tables e schema sources [] h = tt
each_tables e schema sources (x ∷ xs) h = both_tables schema (exists_tables (e x)) (flat (map (λ y. exists_tables (e y)) xs)) (stands_tables schema sources (e x) h.0) (each_tables e schema sources xs h.1)

pub filter_tables : (schema : Catalog) (sources : List Origin) (o : Option Expr) → IfSet (IsFilter schema sources) o → AreTables schema (named_where o)
filter_tables schema sources None h = tt
filter_tables schema sources (Some e) h = stands_tables schema sources e h.condition.stands

having_tables : (schema : Catalog) (sources : List Origin) (o : Option Expr) → IfSet (IsCondition schema sources) o → AreTables schema (named_where o)
having_tables schema sources None h = tt
having_tables schema sources (Some e) h = stands_tables schema sources e h.stands

abbrev joins_of : List Joined → List ℕ
joins_of js = flat (map (λ (j : Joined). j.origin.table.0 ∷ exists_tables j.on) js)

joins_tables : (schema : Catalog) (before : List Origin) (js : List Joined) → list_all (is_declared schema) (map (λ (j : Joined). j.origin) js) ≡ true → AreJoined schema before js → AreTables schema (joins_of js)
joins_tables schema before [] d h = tt
joins_tables schema before (j ∷ js) d h =
    let both = and_parts (is_declared schema j.origin) (list_all (is_declared schema) (map (λ (i : Joined). i.origin) js)) d in (
      ltb-true j.origin.table.0 (length schema.tables) both.0,
      both_tables schema (exists_tables j.on) (joins_of js) (stands_tables schema (before ++ j.origin ∷ []) j.on h.0.stands) (joins_tables schema (before ++ j.origin ∷ []) js both.1 h.2),
    )

-- each table that a plain select names is declared
pub select_tables : (schema : Catalog) (s : Select) → IsPlainSelect schema s → AreTables schema (tables_of s)
select_tables schema s h =
    let both = and_parts (is_declared schema s.first) (list_all (is_declared schema) (map (λ (j : Joined). j.origin) s.joins)) h.declared_tables in
    let items : List ℕ = flat (map (λ (i : Expr × Option (List ℕ)). exists_tables i.0) s.items) in
    let groups : List ℕ = flat (map exists_tables s.groups) in
    let order : List ℕ = flat (map (λ (k : Expr × Bool). exists_tables k.0) s.order) in
    let sources : List ℕ = s.first.table.0 ∷ joins_of s.joins in
    let both_of = both_tables schema in
    both_of (items ++ sources ++ named_where s.filter ++ groups ++ named_where s.having) order
    (both_of (items ++ sources ++ named_where s.filter ++ groups) (named_where s.having)
    (both_of (items ++ sources ++ named_where s.filter) groups
    (both_of (items ++ sources) (named_where s.filter)
    (both_of items sources (each_tables (λ (i : Expr × Option (List ℕ)). i.0) schema (sources_of s) s.items h.items_stand) (ltb-true s.first.table.0 (length schema.tables) both.0, joins_tables schema (s.first ∷ []) s.joins both.1 h.joins_stand))
    (filter_tables schema (sources_of s) s.filter h.filter_stands))
    (each_tables (λ (e : Expr). e) schema (sources_of s) s.groups h.groups_stand))
    (having_tables schema (sources_of s) s.having h.having_stands))
    (each_tables (λ (k : Expr × Bool). k.0) schema (sources_of s) s.order h.order_stands)

-- ---- refusals

table_by : (a b : Bool) (n : ℕ) (t table : ℕ) → (t == table) ≡ a → (a || b) ≡ true → t < n → (b ≡ true → table < n) → table < n
table_by true b n t table is h below more = subst (λ k. k < n) (eqb-true t table is) below
table_by false b n t table is h below more = more h

-- a number of the list is a declared table's
pub table_among : (schema : Catalog) (table : TableId) (ts : List ℕ) → AreTables schema ts → IsTrue (list_any (λ t. t == table.0) ts) → table.0 < length schema.tables
table_among schema table [] h g = absurd (cc)
table_among schema table (t ∷ ts) h g = table_by (t == table.0) (list_any (λ x. x == table.0) ts) (length schema.tables) t table.0 refl g h.0 (table_among schema table ts h.1)

-- a table that refuses a plain select is declared
pub declared_select : (schema : Catalog) (s : Select) (e : Refusal) → IsPlainSelect schema s → CanRefuse s e → IsOfDeclared schema e
declared_select schema s (OperationalError table) p h = table_among schema table (tables_of s) (select_tables schema s p) h
declared_select schema s e p h = tt

told_declared : {X : Type 0} (schema : Catalog) (s : Select) (r : Result X Refusal) → IsPlainSelect schema s → IfErr r (λ e. CanRefuse s e) → IfErr r (λ e. IsOfDeclared schema e)
told_declared schema s (Ok x) p h = tt
told_declared schema s (Err e) p h = declared_select schema s e p h

pub declared_rows : (schema : Catalog) (tables : Tables) (s : Select) (r : Result (List Row) Refusal) → Gives (λ (x : List Row). x) r (answer schema tables s) → IsPlainSelect schema s → IfErr r (λ e. IsOfDeclared schema e)
declared_rows schema tables s r g p = told_declared schema s r p (refused_rows schema tables s r g)
