-- The normal form of an expression can be had from its tree, where names tell sources, tables and columns.
use Rattle.std.proofs.Common.{◌≡◌, ℕ, ◌++◌, Bool, true, false, not, ◌&&◌, List, [], ◌∷◌, map, length, Option, Some, None, refl, sym, ap, ◌∙◌}
use Rattle.std.specs.Prelude.{nat_lt, slice_get, is_some}
use Rattle.std.specs.Option.{option_map, option_and_then}
use Rattle.std.specs.List.{list_all}
use Rattle.std.proofs.lemmas.Bool.{not-true, and_parts}
use Rattle.std.proofs.lemmas.Option.{slice_get-map}
use Rattle.base_core.specs.declared.ids.ColumnNo.{ColumnNo}
use Rattle.base_core.specs.declared.ids.TableId.{TableId}
use Rattle.base_core.specs.declared.value.ArithOp.{ArithOp}
use Rattle.base_core.specs.declared.value.ArithOp.TheVariants.{Add, Sub, Mul}
use Rattle.base_core.specs.declared.value.Value.{Value}
use Rattle.schema_core.specs.declared.table.ColumnSpec.{ColumnSpec}
use Rattle.schema_core.specs.declared.table.TableSpec.{TableSpec}
use Rattle.schema_core.specs.Catalog.{Catalog, spec_of, no_table, has_name}
use Rattle.expr_types.specs.declared.expr.CompareOp.{CompareOp}
use Rattle.expr_types.specs.declared.expr.CompareOp.TheVariants as compare
use Rattle.expr_types.specs.declared.expr.Expr.{Expr, roll-Expr}
use Rattle.expr_types.specs.declared.expr.Expr.TheOpen.{Expr-F}
use Rattle.expr_types.specs.declared.expr.Expr.TheFolds.{map-Expr, fold-roll-Expr}
use Rattle.expr_types.specs.declared.expr.Expr.TheVariants as expr
use Rattle.expr_types.specs.declared.expr.Func.{Func}
use Rattle.expr_types.specs.declared.expr.Func.TheVariants as func
use Rattle.expr_types.specs.declared.expr.Origin.{Origin}
use Rattle.expr_types.specs.Level.{operands, scope_below}
use Rattle.expr_types.specs.Normal.{normal, normal_level, negation_of, negation_of_level, normal_like, like_by, lower_argument, lower_argument_at}
use Rattle.expr_types.proofs.Folds.{bare, by_levels}
use Rattle.sql_semantics.specs.Kinds.{Scope, column_in}
use Rattle.sql_semantics.specs.DistinctNames.{has_distinct_columns, has_distinct_names}
use Rattle.sql_semantics.specs.Plain.{StandsIn, adds_name, are_distinct, fits, fits_level, name_of, names_apart, takes}
use Rattle.sql_semantics.proofs.Equations.{fits_step, fits_rolled}
use Rattle.base_core.specs.declared.dialect.Dialect.{Dialect}
use Rattle.base_core.specs.declared.dialect.Dialect.TheVariants.{Sqlite, Postgresql, Mysql}
use Rattle.sql_text.specs.Columns.{name_or_empty as named_as}
use Rattle.sql_expressions.specs.Laid.{column_shown, source_shown}
use Rattle.script_laws.specs.Texts.Grammar.Trees.{Test, Equal, NotEqual, Less, LessEqual, Greater, GreaterEqual, Like, Ilike, Distinct, Sign, Plus, Minus, Beside, Function, Count, Sum, Min, Max, Lower, Upper, Length, Coalesce, Concat, Source, Sql, column, mark, test, null_test, in_list, between, all_of, any_of, opposite, sum, product, negative, call, count_all, exists, Sqls, none, more}
use Rattle.script_laws.specs.Texts.Expressions.Tree.{tree, tree_at, trees, compare_test, function_as, arith_tree, concat_tree, ilike_tree, distinct_tree, exists_tree, source_tree}
use Rattle.script_laws.proofs.Texts.Expressions.Full.{texts_tell_trees}
use Rattle.script_laws.specs.Texts.Readings.OneReading.{TextsTellExpressions}
use Rattle.script_laws.proofs.Texts.Readings.Places.{place, place_is, distinct_more, map_more, all_at, within}

-- ---- from a tree

abbrev pub source_names : Catalog → List Origin → List (List ℕ)
source_names schema scope = map (name_of schema) scope

abbrev pub tables_in : List Origin → Scope
tables_in scope = map (λ origin. origin.table) scope

abbrev column_names : Catalog → Option Origin → List (List ℕ)
column_names schema None = []
column_names schema (Some origin) = map (λ c. c.name) (spec_of schema origin.table).columns

abbrev pub numbered : ℕ → ColumnNo
numbered n = record { 0 = n }

abbrev column_back : Catalog → List Origin → ℕ → List ℕ → Expr
column_back schema scope source name = normal_level (Expr-F.Column source (numbered (place name (column_names schema (slice_get scope source)))))

abbrev origin_made : ℕ → Option (List ℕ) → Origin
origin_made table alias = record { table = record { 0 = table }; alias = alias }

abbrev pub origin_back : Catalog → Source → Origin
origin_back schema source = record { table = record { 0 = place source.table (map (λ spec. spec.name) schema.tables) }; alias = source.alias }

abbrev test_back : Test → Expr → Expr → Expr
test_back Equal a b = normal_level (Expr-F.Compare compare.Equal a b)
test_back NotEqual a b = normal_level (Expr-F.Compare compare.NotEqual a b)
test_back Less a b = normal_level (Expr-F.Compare compare.Less a b)
test_back LessEqual a b = normal_level (Expr-F.Compare compare.LessEqual a b)
test_back Greater a b = normal_level (Expr-F.Compare compare.Greater a b)
test_back GreaterEqual a b = normal_level (Expr-F.Compare compare.GreaterEqual a b)
test_back (Like n) a b = normal_level (Expr-F.Like n a b)
test_back (Ilike n) a b = normal_level (Expr-F.Ilike n a b)
test_back (Distinct n) a b = normal_level (Expr-F.Distinct n a b)

abbrev sum_back : Sign → Expr → Expr → Expr
sum_back Plus a b = normal_level (Expr-F.Arith Add a b)
sum_back Minus a b = normal_level (Expr-F.Arith Sub a b)
sum_back Beside a b = normal_level (Expr-F.Concat a b)

abbrev concat_back : List Expr → Expr
concat_back (a ∷ b ∷ []) = normal_level (Expr-F.Concat a b)
concat_back es = normal_level Expr-F.CountAll

abbrev call_back : Function → List Expr → Expr
call_back Count es = normal_level (Expr-F.Call func.Count es)
call_back Sum es = normal_level (Expr-F.Call func.Sum es)
call_back Min es = normal_level (Expr-F.Call func.Min es)
call_back Max es = normal_level (Expr-F.Call func.Max es)
call_back Lower es = normal_level (Expr-F.Call func.Lower es)
call_back Upper es = normal_level (Expr-F.Call func.Upper es)
call_back Length es = normal_level (Expr-F.Call func.Length es)
call_back Coalesce es = normal_level (Expr-F.Call func.Coalesce es)
call_back Concat es = concat_back es

mutual
  pub back : Catalog → Sql → List Origin → Expr
  back schema (column source name) scope = column_back schema scope (place source (source_names schema scope)) name
  back schema (mark v) scope = normal_level (Expr-F.Lit v)
  back schema (test by a b) scope = test_back by (back schema a scope) (back schema b scope)
  back schema (null_test n a) scope = normal_level (Expr-F.IsNull n (back schema a scope))
  back schema (in_list n a vs) scope = normal_level (Expr-F.InList n (back schema a scope) vs)
  back schema (between n a b c) scope = normal_level (Expr-F.Between n (back schema a scope) (back schema b scope) (back schema c scope))
  back schema (all_of xs) scope = normal_level (Expr-F.And (backs schema xs scope))
  back schema (any_of xs) scope = normal_level (Expr-F.Or (backs schema xs scope))
  back schema (opposite a) scope = normal_level (Expr-F.Not (back schema a scope))
  back schema (sum by a b) scope = sum_back by (back schema a scope) (back schema b scope)
  back schema (product a b) scope = normal_level (Expr-F.Arith Mul (back schema a scope) (back schema b scope))
  back schema (negative a) scope = normal_level (Expr-F.Neg (back schema a scope))
  back schema (call by xs) scope = call_back by (backs schema xs scope)
  back schema count_all scope = normal_level Expr-F.CountAll
  back schema (exists source a) scope = normal_level (Expr-F.Exists false (origin_back schema source) (back schema a (scope ++ origin_back schema source ∷ [])))

  backs : Catalog → Sqls → List Origin → List Expr
  backs schema none scope = []
  backs schema (more x xs) scope = back schema x scope ∷ backs schema xs scope

-- ---- what names tell

abbrev name_below : Catalog → List (List ℕ) → Origin → List (List ℕ)
name_below schema names origin = names ++ name_of schema origin ∷ []

abbrev apart_step : Catalog → Expr-F (List (List ℕ) → Bool) → List (List ℕ) → Bool
apart_step schema level names = adds_name schema names level && list_all (λ holds. holds (scope_below (name_below schema) names level)) (operands level)

apart_rolled : (schema : Catalog) (names : List (List ℕ)) (x : Expr-F Expr) → names_apart schema (roll-Expr x) names ≡ apart_step schema (map-Expr Expr (List (List ℕ) → Bool) (names_apart schema) x) names
unfolding names_apart
apart_rolled schema names x = ap (λ (f : List (List ℕ) → Bool). f names) (fold-roll-Expr (List (List ℕ) → Bool) (apart_step schema) x)

-- expressions whose names are told under a scope
record AreTold (schema : Catalog) (scope : List Origin) (es : List Expr) : Type 0 where
  fitting : list_all (λ (holds : Scope → Bool). holds (tables_in scope)) (map (fits schema) es) ≡ true
  apart : list_all (λ (holds : List (List ℕ) → Bool). holds (source_names schema scope)) (map (names_apart schema) es) ≡ true
  distinct : are_distinct (source_names schema scope) ≡ true

record IsTold (schema : Catalog) (scope : List Origin) (e : Expr) : Type 0 where
  fitting : fits schema e (tables_in scope) ≡ true
  apart : names_apart schema e (source_names schema scope) ≡ true
  distinct : are_distinct (source_names schema scope) ≡ true

first_told : {schema : Catalog} {scope : List Origin} {e : Expr} {es : List Expr} → AreTold schema scope (e ∷ es) → IsTold schema scope e
first_told {schema} {scope} {e} {es} t = record {
  fitting = (and_parts (fits schema e (tables_in scope)) (list_all (λ (holds : Scope → Bool). holds (tables_in scope)) (map (fits schema) es)) t.fitting).0;
  apart = (and_parts (names_apart schema e (source_names schema scope)) (list_all (λ (holds : List (List ℕ) → Bool). holds (source_names schema scope)) (map (names_apart schema) es)) t.apart).0;
  distinct = t.distinct;
}

others_told : {schema : Catalog} {scope : List Origin} {e : Expr} {es : List Expr} → AreTold schema scope (e ∷ es) → AreTold schema scope es
others_told {schema} {scope} {e} {es} t = record {
  fitting = (and_parts (fits schema e (tables_in scope)) (list_all (λ (holds : Scope → Bool). holds (tables_in scope)) (map (fits schema) es)) t.fitting).1;
  apart = (and_parts (names_apart schema e (source_names schema scope)) (list_all (λ (holds : List (List ℕ) → Bool). holds (source_names schema scope)) (map (names_apart schema) es)) t.apart).1;
  distinct = t.distinct;
}

two : {A B C : Type 0} (f : A → B → C) {a c : A} {b d : B} → a ≡ c → b ≡ d → f a b ≡ f c d
two {A} {B} {C} f {a} {c} {b} {d} e g = ap (λ (x : A). f x b) e ∙ ap (f c) g

module _ (q : Dialect) (schema : Catalog) (named : has_distinct_names schema ≡ true) where
  tables_distinct : are_distinct (map (λ (spec : TableSpec). spec.name) schema.tables) ≡ true
  tables_distinct = (and_parts (are_distinct (map (λ (spec : TableSpec). spec.name) schema.tables)) (list_all has_distinct_columns schema.tables) named).0

  pub columns_distinct : (table : TableId) → has_distinct_columns (spec_of schema table) ≡ true
  columns_distinct table = all_at has_distinct_columns schema.tables table.0 no_table (and_parts (are_distinct (map (λ (spec : TableSpec). spec.name) schema.tables)) (list_all has_distinct_columns schema.tables) named).1 refl

  -- ---- columns

  pub column_place : (columns : List ColumnSpec) (i : ℕ) → are_distinct (map (λ (s : ColumnSpec). s.name) columns) ≡ true → is_some (slice_get columns i) ≡ true
      → place (named_as (slice_get columns i)) (map (λ (s : ColumnSpec). s.name) columns) ≡ i
  column_place columns i d there = by (slice_get columns i) refl there
    where
      by : (s : Option ColumnSpec) → slice_get columns i ≡ s → is_some s ≡ true → place (named_as s) (map (λ (s : ColumnSpec). s.name) columns) ≡ i
      by None is there = absurd (cc)
      by (Some s) is there = place_is (map (λ (c : ColumnSpec). c.name) columns) i s.name d (slice_get-map (λ (c : ColumnSpec). c.name) columns i ∙ ap (option_map (λ (c : ColumnSpec). c.name)) is)

  column_by : (scope : List Origin) (source : ℕ) (c : ColumnNo) → are_distinct (source_names schema scope) ≡ true → (o : Option Origin) → slice_get scope source ≡ o
      → is_some (option_and_then (λ (table : TableId). slice_get (spec_of schema table).columns c.0) (option_map (λ (origin : Origin). origin.table) o)) ≡ true
      → column_back schema scope (place (source_shown schema o) (source_names schema scope)) (column_shown schema o c) ≡ normal_level (Expr-F.Column source c)
  column_by scope source c distinct None is there = absurd (cc)
  column_by scope source c distinct (Some origin) is there =
      let found : place (name_of schema origin) (source_names schema scope) ≡ source =
      place_is (source_names schema scope) source (name_of schema origin) distinct (slice_get-map (name_of schema) scope source ∙ ap (option_map (name_of schema)) is) in
      ap (λ (s : ℕ). column_back schema scope s (column_shown schema (Some origin) c)) found
      ∙ (ap (λ (o : Option Origin). normal_level (Expr-F.Column source (numbered (place (column_shown schema (Some origin) c) (column_names schema o))))) is
      ∙ ap (λ (n : ℕ). normal_level (Expr-F.Column source (numbered n))) (column_place (spec_of schema origin.table).columns c.0 (columns_distinct origin.table) there))

  column_told : (scope : List Origin) (source : ℕ) (c : ColumnNo) → are_distinct (source_names schema scope) ≡ true → is_some (column_in schema (tables_in scope) source c) ≡ true
      → back schema (column (source_shown schema (slice_get scope source)) (column_shown schema (slice_get scope source) c)) scope ≡ normal_level (Expr-F.Column source c)
  unfolding back
  column_told scope source c distinct there =
      column_by scope source c distinct (slice_get scope source) refl
      (sym (ap (λ (o : Option TableId). is_some (option_and_then (λ (table : TableId). slice_get (spec_of schema table).columns c.0) o)) (slice_get-map (λ (origin : Origin). origin.table) scope source)) ∙ there)

  -- ---- sources

  pub origin_told : (origin : Origin) → nat_lt origin.table.0 (length schema.tables) ≡ true → origin_back schema (source_tree schema origin) ≡ origin
  origin_told origin there =
      ap (λ (n : ℕ). origin_made n origin.alias)
      (place_is (map (λ (spec : TableSpec). spec.name) schema.tables) origin.table.0 (spec_of schema origin.table).name tables_distinct (within (λ (spec : TableSpec). spec.name) schema.tables origin.table.0 no_table there))

  -- ---- levels

  abbrev Known : Type 0
  Known = (e : Expr) × ((scope : List Origin) → IsTold schema scope e → back schema (tree q schema e scope) scope ≡ normal e)

  abbrev bares : List Known → List Expr
  bares ks = map (λ k. k.0) ks

  list_back : (scope : List Origin) (ks : List Known) → AreTold schema scope (bares ks) → backs schema (trees (map (λ a. a scope) (map (tree q schema) (bares ks)))) scope ≡ map normal (bares ks)
  unfolding back backs
  list_back scope [] t = refl
  list_back scope (k ∷ ks) t = two (λ (e : Expr) (es : List Expr). e ∷ es) (k.1 scope (first_told t)) (list_back scope ks (others_told t))

  compare_back : (op : CompareOp) (a b : Expr) → test_back (compare_test op) a b ≡ normal_level (Expr-F.Compare op a b)
  compare_back compare.Equal a b = refl
  compare_back compare.NotEqual a b = refl
  compare_back compare.Less a b = refl
  compare_back compare.LessEqual a b = refl
  compare_back compare.Greater a b = refl
  compare_back compare.GreaterEqual a b = refl

  arith_back : (op : ArithOp) (x y : Sql) (scope : List Origin) → back schema (arith_tree op x y) scope ≡ normal_level (Expr-F.Arith op (back schema x scope) (back schema y scope))
  unfolding back
  arith_back Add x y scope = refl
  arith_back Sub x y scope = refl
  arith_back Mul x y scope = refl

  function_back : (f : Func) (es : List Expr) → call_back (function_as f) es ≡ normal_level (Expr-F.Call f es)
  function_back func.Count es = refl
  function_back func.Sum es = refl
  function_back func.Min es = refl
  function_back func.Max es = refl
  function_back func.Lower es = refl
  function_back func.Upper es = refl
  function_back func.Length es = refl
  function_back func.Coalesce es = refl

  two_back : (d : Dialect) (x y : Sql) (scope : List Origin) → back schema (concat_tree d x y) scope ≡ normal_level (Expr-F.Concat (back schema x scope) (back schema y scope))
  unfolding back backs
  two_back Sqlite x y scope = refl
  two_back Postgresql x y scope = refl
  two_back Mysql x y scope = refl

  -- `like` of two lowered texts
  lowers : (a : Expr) → lower_argument (roll-Expr (Expr-F.Call func.Lower (a ∷ []))) ≡ Some a
  unfolding lower_argument
  lowers a = ap lower_argument (expr.rolls-Call func.Lower (a ∷ [])) ∙ ap lower_argument_at (expr.outs-Call func.Lower (a ∷ []))

  liked_lowers : (n : Bool) (a b : Expr) → normal_like n (roll-Expr (Expr-F.Call func.Lower (a ∷ []))) (roll-Expr (Expr-F.Call func.Lower (b ∷ []))) ≡ roll-Expr (Expr-F.Ilike n a b)
  unfolding normal_like
  liked_lowers n a b =
      two (like_by n (roll-Expr (Expr-F.Call func.Lower (a ∷ []))) (roll-Expr (Expr-F.Call func.Lower (b ∷ [])))) (lowers a) (lowers b) ∙ sym (expr.rolls-Ilike n a b)

  ilike_back : (d : Dialect) (n : Bool) (x y : Sql) (scope : List Origin) → back schema (ilike_tree d n x y) scope ≡ normal_level (Expr-F.Ilike n (back schema x scope) (back schema y scope))
  unfolding back backs
  ilike_back Sqlite n x y scope = liked_lowers n (back schema x scope) (back schema y scope)
  ilike_back Postgresql n x y scope = refl
  ilike_back Mysql n x y scope = liked_lowers n (back schema x scope) (back schema y scope)

  undistinct : (a b : Expr) → negation_of (roll-Expr (Expr-F.Distinct true a b)) ≡ roll-Expr (Expr-F.Distinct false a b)
  unfolding negation_of
  undistinct a b =
      ap negation_of (expr.rolls-Distinct true a b) ∙ (ap (negation_of_level (expr.Distinct true a b)) (expr.outs-Distinct true a b) ∙ sym (expr.rolls-Distinct false a b))

  distinct_back : (d : Dialect) (n : Bool) (x y : Sql) (scope : List Origin) → back schema (distinct_tree d n x y) scope ≡ normal_level (Expr-F.Distinct n (back schema x scope) (back schema y scope))
  unfolding back
  distinct_back Sqlite n x y scope = refl
  distinct_back Postgresql n x y scope = refl
  distinct_back Mysql true x y scope = refl
  distinct_back Mysql false x y scope = undistinct (back schema x scope) (back schema y scope)

  nonexistent : (o : Origin) (a : Expr) → negation_of (roll-Expr (Expr-F.Exists false o a)) ≡ roll-Expr (Expr-F.Exists true o a)
  unfolding negation_of
  nonexistent o a = ap negation_of (expr.rolls-Exists false o a) ∙ (ap (negation_of_level (expr.Exists false o a)) (expr.outs-Exists false o a) ∙ sym (expr.rolls-Exists true o a))

  exists_back : (n : Bool) (source : Source) (x : Sql) (scope : List Origin)
      → back schema (exists_tree n (exists source x)) scope ≡ normal_level (Expr-F.Exists n (origin_back schema source) (back schema x (scope ++ origin_back schema source ∷ [])))
  unfolding back
  exists_back false source x scope = refl
  exists_back true source x scope = nonexistent (origin_back schema source) (back schema x (scope ++ origin_back schema source ∷ []))

  -- the scope in an `exists`
  inner_told : (scope : List Origin) (origin : Origin) (e : Expr) → fits schema e (tables_in scope ++ origin.table ∷ []) ≡ true → names_apart schema e (source_names schema scope ++ name_of schema origin ∷ []) ≡ true
      → are_distinct (source_names schema scope) ≡ true → has_name (source_names schema scope) (name_of schema origin) ≡ false → IsTold schema (scope ++ origin ∷ []) e
  inner_told scope origin e f n d h = record {
    fitting = ap (fits schema e) (map_more (λ (o : Origin). o.table) scope origin) ∙ f;
    apart = ap (names_apart schema e) (map_more (name_of schema) scope origin) ∙ n;
    distinct = ap are_distinct (map_more (name_of schema) scope origin) ∙ distinct_more (source_names schema scope) (name_of schema origin) d h;
  }

  level_back : (scope : List Origin) → are_distinct (source_names schema scope) ≡ true → (y : Expr-F Known) → fits_step schema (map-Expr Expr (Scope → Bool) (fits schema) (bare y)) (tables_in scope) ≡ true
      → apart_step schema (map-Expr Expr (List (List ℕ) → Bool) (names_apart schema) (bare y)) (source_names schema scope) ≡ true
      → back schema (tree_at q schema (map-Expr Expr (List Origin → Sql) (tree q schema) (bare y)) scope) scope ≡ normal_level (map-Expr Expr Expr normal (bare y))
  unfolding back backs
  level_back scope d (Expr-F.Column s c) f n = column_told scope s c d (and_parts (is_some (column_in schema (tables_in scope) s c)) true f).0
  level_back scope d (Expr-F.Lit v) f n = refl
  level_back scope d (Expr-F.Compare op a b) f n =
      let g : AreTold schema scope (a.0 ∷ b.0 ∷ []) = record { fitting = f; apart = n; distinct = d } in
      compare_back op (back schema (tree q schema a.0 scope) scope) (back schema (tree q schema b.0 scope) scope)
      ∙ two (λ (x y : Expr). normal_level (Expr-F.Compare op x y)) (a.1 scope (first_told g)) (b.1 scope (first_told (others_told g)))
  level_back scope d (Expr-F.IsNull k a) f n =
      let g : AreTold schema scope (a.0 ∷ []) = record { fitting = f; apart = n; distinct = d } in
      ap (λ (x : Expr). normal_level (Expr-F.IsNull k x)) (a.1 scope (first_told g))
  level_back scope d (Expr-F.And ks) f n = ap (λ (es : List Expr). normal_level (Expr-F.And es)) (list_back scope ks (record { fitting = f; apart = n; distinct = d }))
  level_back scope d (Expr-F.Or ks) f n = ap (λ (es : List Expr). normal_level (Expr-F.Or es)) (list_back scope ks (record { fitting = f; apart = n; distinct = d }))
  level_back scope d (Expr-F.Not a) f n =
      let g : AreTold schema scope (a.0 ∷ []) = record { fitting = f; apart = n; distinct = d } in
      ap (λ (x : Expr). normal_level (Expr-F.Not x)) (a.1 scope (first_told g))
  level_back scope d (Expr-F.Arith op a b) f n =
      let g : AreTold schema scope (a.0 ∷ b.0 ∷ []) = record { fitting = f; apart = n; distinct = d } in
      arith_back op (tree q schema a.0 scope) (tree q schema b.0 scope) scope ∙ two (λ (x y : Expr). normal_level (Expr-F.Arith op x y)) (a.1 scope (first_told g)) (b.1 scope (first_told (others_told g)))
  level_back scope d (Expr-F.Neg a) f n =
      let g : AreTold schema scope (a.0 ∷ []) = record { fitting = f; apart = n; distinct = d } in
      ap (λ (x : Expr). normal_level (Expr-F.Neg x)) (a.1 scope (first_told g))
  level_back scope d (Expr-F.Concat a b) f n =
      let g : AreTold schema scope (a.0 ∷ b.0 ∷ []) = record { fitting = f; apart = n; distinct = d } in
      two_back q (tree q schema a.0 scope) (tree q schema b.0 scope) scope ∙ two (λ (x y : Expr). normal_level (Expr-F.Concat x y)) (a.1 scope (first_told g)) (b.1 scope (first_told (others_told g)))
  level_back scope d (Expr-F.Like k a b) f n =
      let g : AreTold schema scope (a.0 ∷ b.0 ∷ []) = record { fitting = f; apart = n; distinct = d } in
      two (λ (x y : Expr). normal_level (Expr-F.Like k x y)) (a.1 scope (first_told g)) (b.1 scope (first_told (others_told g)))
  level_back scope d (Expr-F.Ilike k a b) f n =
      let g : AreTold schema scope (a.0 ∷ b.0 ∷ []) = record { fitting = f; apart = n; distinct = d } in
      ilike_back q k (tree q schema a.0 scope) (tree q schema b.0 scope) scope ∙ two (λ (x y : Expr). normal_level (Expr-F.Ilike k x y)) (a.1 scope (first_told g)) (b.1 scope (first_told (others_told g)))
  level_back scope d (Expr-F.InList k a vs) f n =
      let g : AreTold schema scope (a.0 ∷ []) = record { fitting = (and_parts (fits_level schema (tables_in scope) (Expr-F.InList k (fits schema a.0) vs)) (fits schema a.0 (tables_in scope) && true) f).1; apart = n; distinct = d } in
      ap (λ (x : Expr). normal_level (Expr-F.InList k x vs)) (a.1 scope (first_told g))
  level_back scope d (Expr-F.Between k a b c) f n =
      let g : AreTold schema scope (a.0 ∷ b.0 ∷ c.0 ∷ []) = record { fitting = f; apart = n; distinct = d } in
      two (λ (x y : Expr). normal_level (Expr-F.Between k x y (back schema (tree q schema c.0 scope) scope))) (a.1 scope (first_told g)) (b.1 scope (first_told (others_told g)))
      ∙ ap (λ (z : Expr). normal_level (Expr-F.Between k (normal a.0) (normal b.0) z)) (c.1 scope (first_told (others_told (others_told g))))
  level_back scope d (Expr-F.Distinct k a b) f n =
      let g : AreTold schema scope (a.0 ∷ b.0 ∷ []) = record { fitting = f; apart = n; distinct = d } in
      distinct_back q k (tree q schema a.0 scope) (tree q schema b.0 scope) scope ∙ two (λ (x y : Expr). normal_level (Expr-F.Distinct k x y)) (a.1 scope (first_told g)) (b.1 scope (first_told (others_told g)))
  level_back scope d (Expr-F.Call g ks) f n =
      let fitting = (and_parts (takes g (length (map (fits schema) (bares ks)))) (list_all (λ (holds : Scope → Bool). holds (tables_in scope)) (map (fits schema) (bares ks))) f).1 in
      function_back g (backs schema (trees (map (λ a. a scope) (map (tree q schema) (bares ks)))) scope)
      ∙ ap (λ (es : List Expr). normal_level (Expr-F.Call g es)) (list_back scope ks (record { fitting = fitting; apart = n; distinct = d }))
  level_back scope d Expr-F.CountAll f n = refl
  level_back scope d (Expr-F.Exists k o a) f n =
      let one = and_parts (nat_lt o.table.0 (length schema.tables)) (fits schema a.0 (tables_in scope ++ o.table ∷ []) && true) f in
      let other = and_parts (not (has_name (source_names schema scope) (name_of schema o))) (names_apart schema a.0 (source_names schema scope ++ name_of schema o ∷ []) && true) n in
      let inner = inner_told scope o a.0 (and_parts (fits schema a.0 (tables_in scope ++ o.table ∷ [])) true one.1).0 (and_parts (names_apart schema a.0 (source_names schema scope ++ name_of schema o ∷ [])) true other.1).0 d
      (not-true (has_name (source_names schema scope) (name_of schema o)) other.0) in
      exists_back k (source_tree schema o) (tree q schema a.0 (scope ++ o ∷ [])) scope
      ∙ (ap (λ (p : Origin). normal_level (Expr-F.Exists k p (back schema (tree q schema a.0 (scope ++ o ∷ [])) (scope ++ p ∷ [])))) (origin_told o one.0)
      ∙ ap (λ (x : Expr). normal_level (Expr-F.Exists k o x)) (a.1 (scope ++ o ∷ []) inner))

  tree_rolled : (scope : List Origin) (x : Expr-F Expr) → tree q schema (roll-Expr x) scope ≡ tree_at q schema (map-Expr Expr (List Origin → Sql) (tree q schema) x) scope
  unfolding tree
  tree_rolled scope x = ap (λ (f : List Origin → Sql). f scope) (fold-roll-Expr (List Origin → Sql) (tree_at q schema) x)

  normal_rolled : (x : Expr-F Expr) → normal (roll-Expr x) ≡ normal_level (map-Expr Expr Expr normal x)
  unfolding normal
  normal_rolled x = fold-roll-Expr Expr normal_level x

  to_normal : (e : Expr) (scope : List Origin) → IsTold schema scope e → back schema (tree q schema e scope) scope ≡ normal e
  to_normal =
      by_levels (λ e. (scope : List Origin) → IsTold schema scope e → back schema (tree q schema e scope) scope ≡ normal e)
      (λ y scope t. ap (λ (x : Sql). back schema x scope) (tree_rolled scope (bare y)) ∙ (level_back scope t.distinct y (sym (fits_rolled schema (tables_in scope) (bare y)) ∙ t.fitting) (sym (apart_rolled schema (source_names schema scope) (bare y)) ∙ t.apart) ∙ sym (normal_rolled (bare y))))

  told : (sources : List Origin) (e : Expr) → are_distinct (source_names schema sources) ≡ true → StandsIn schema sources e → IsTold schema sources e
  told sources e d s = record { fitting = s.fitting; apart = s.apart; distinct = d }

  -- an expression that stands under sources of distinct names is had from its tree
  pub from_tree : (sources : List Origin) (e : Expr) → are_distinct (source_names schema sources) ≡ true → StandsIn schema sources e → back schema (tree q schema e sources) sources ≡ e
  from_tree sources e d s = to_normal e sources (told sources e d s) ∙ s.in_normal_form

  pub from_mark : (v : Value) (sources : List Origin) → back schema (mark v) sources ≡ normal_level (Expr-F.Lit v)
  unfolding back
  from_mark v sources = refl

pub texts_tell_expressions : TextsTellExpressions
texts_tell_expressions dialect schema sources base other_base e other named distinct h g texts values =
    sym (from_tree dialect schema named sources e distinct h)
    ∙ (ap (λ (x : Sql). back schema x sources) (texts_tell_trees dialect schema schema sources sources base other_base e other h g texts values)
    ∙ from_tree dialect schema named sources other distinct g)
