-- Conditions over columns whose kinds are known: that they hold a key, or one of several, and that they equal others.
use Rattle.std.proofs.Common.{◌≡◌, ℕ, suc, ◌<◌, ◌≤◌, Bool, true, false, ◌==◌, List, [], ◌∷◌, map, length, refl, ap, if◌then◌else◌, arith}
use Rattle.std.specs.List.{AllByRecursion, flat_map}
use Rattle.std.specs.Cmp.Lexicographic.{pointwise}
use Rattle.std.proofs.lemmas.Bool.{and_parts, eq-eqb, eqb-true}
use Rattle.std.proofs.lemmas.List.{length-map}
use Rattle.base_core.proofs.Lists.{every_append}
use Rattle.base_core.specs.declared.value.Kind.{Kind}
use Rattle.base_core.specs.declared.value.Value.{Value}
use Rattle.schema_core.specs.Catalog.{Catalog, same_kind}
use Rattle.expr_types.specs.declared.expr.Expr.TheVariants as expr
use Rattle.expr_types.specs.declared.expr.Origin.{Origin}
use Rattle.expr_types.specs.Normal.{or_parts}
use Rattle.sql_semantics.specs.Kinds.{value_kind}
use Rattle.sql_semantics.specs.Plain.{is_given}
use Rattle.sql_semantics.proofs.Typed.{same_kind_is}
use Rattle.base_core.specs.declared.value.Kind.TheVariants.{Boolean}
use Rattle.load_columns.specs.declared.placing.SourceColumn.{SourceColumn}
use Rattle.load_columns.specs.Conditions.{column_of, equal_columns, first_value, has_key, has_one_of, has_some_key, has_value, has_values, holds_first}
use Rattle.collection_selects.proofs.Plain.{IsPart, all_stand, all_whole}
use Rattle.collection_selects.proofs.Standing.{IsThere, Stands, and_stands, and_whole_or, column_stands, equal_stands, equal_whole, in_stands, in_whole, is_of, lit_stands, or_stands, or_whole}

-- the sources have the columns, of these kinds one by one
abbrev pub AreTyped : Catalog → List Origin → List SourceColumn → List Kind → Type 0
AreTyped schema sources [] [] = Unit {0}
AreTyped schema sources (column ∷ columns) (kind ∷ kinds) = IsThere schema sources column.source column.column kind × AreTyped schema sources columns kinds
AreTyped schema sources columns kinds = ⊥

-- values are given, and of these kinds one by one
abbrev pub fit_kinds : List Kind → List Value → Bool
fit_kinds kinds key = pointwise is_of kinds key

pub typed_long : (schema : Catalog) (sources : List Origin) (columns : List SourceColumn) (kinds : List Kind) → AreTyped schema sources columns kinds → length columns ≡ length kinds
typed_long schema sources [] [] h = refl
typed_long schema sources [] (kind ∷ kinds) h = absurd h
typed_long schema sources (column ∷ columns) [] h = absurd h
typed_long schema sources (column ∷ columns) (kind ∷ kinds) h = ap suc (typed_long schema sources columns kinds h.1)

-- ---- a key

value_part : (schema : Catalog) (sources : List Origin) (column : SourceColumn) (kind : Kind) (v : Value) → IsThere schema sources column.source column.column kind → is_of kind v ≡ true
    → IsPart schema sources (has_value column v)
value_part schema sources column kind v there h =
    let parts = and_parts (is_given v) (same_kind (value_kind v) kind) h in
    record {
      stands =
          equal_stands schema sources kind (column_of column) (expr.Lit v) (column_stands schema sources column.source column.column kind there)
          (lit_stands schema sources v kind parts.0 (same_kind_is (value_kind v) kind parts.1));
      whole = equal_whole (column_of column) (expr.Lit v);
    }

-- columns hold a key of their kinds
pub values_stand : (schema : Catalog) (sources : List Origin) (columns : List SourceColumn) (kinds : List Kind) (key : List Value) → AreTyped schema sources columns kinds → fit_kinds kinds key ≡ true
    → AllByRecursion (IsPart schema sources) (has_values columns key)
values_stand schema sources [] [] key typed h = tt
values_stand schema sources [] (kind ∷ kinds) key typed h = absurd typed
values_stand schema sources (column ∷ columns) [] key typed h = absurd typed
values_stand schema sources (column ∷ columns) (kind ∷ kinds) [] typed h = tt
values_stand schema sources (column ∷ columns) (kind ∷ kinds) (v ∷ key) typed h =
    let parts = and_parts (is_of kind v) (fit_kinds kinds key) h in
    (value_part schema sources column kind v typed.0 parts.0, values_stand schema sources columns kinds key typed.1 parts.1)

values_long : (schema : Catalog) (sources : List Origin) (columns : List SourceColumn) (kinds : List Kind) (key : List Value) → AreTyped schema sources columns kinds → fit_kinds kinds key ≡ true
    → length (has_values columns key) ≡ length columns
values_long schema sources [] [] key typed h = refl
values_long schema sources [] (kind ∷ kinds) key typed h = absurd typed
values_long schema sources (column ∷ columns) [] key typed h = absurd typed
values_long schema sources (column ∷ columns) (kind ∷ kinds) [] typed h = absurd cc
values_long schema sources (column ∷ columns) (kind ∷ kinds) (v ∷ key) typed h =
    ap suc (values_long schema sources columns kinds key typed.1 (and_parts (is_of kind v) (fit_kinds kinds key) h).1)

-- ---- one of several keys

abbrev FitAll : List Kind → List (List Value) → Type 0
FitAll kinds keys = AllByRecursion (λ key. fit_kinds kinds key ≡ true) keys

first_fits : (kind : Kind) (key : List Value) → fit_kinds (kind ∷ []) key ≡ true → is_of kind (first_value key) ≡ true
first_fits kind [] h = absurd cc
first_fits kind (v ∷ key) h = (and_parts (is_of kind v) (fit_kinds [] key) h).0

firsts_fit : (kind : Kind) (keys : List (List Value)) → FitAll (kind ∷ []) keys → AllByRecursion (λ v. is_of kind v ≡ true) (map first_value keys)
firsts_fit kind [] h = tt
firsts_fit kind (key ∷ keys) h = (first_fits kind key h.0, firsts_fit kind keys h.1)

holds_one : (schema : Catalog) (sources : List Origin) (columns : List SourceColumn) (kinds : List Kind) (keys : List (List Value)) → length columns ≡ 1 → AreTyped schema sources columns kinds → FitAll kinds keys
    → AllByRecursion (IsPart schema sources) (map (holds_first keys) columns)
holds_one schema sources [] kinds keys long typed h = tt
holds_one schema sources (column ∷ []) [] keys long typed h = absurd typed
holds_one schema sources (column ∷ []) (kind ∷ []) keys long typed h = (
  record {
    stands =
        in_stands schema sources kind (column_of column) (map first_value keys) (column_stands schema sources column.source column.column kind typed.0) (firsts_fit kind keys h);
    whole = in_whole (column_of column) (map first_value keys);
  },
  tt,
)
holds_one schema sources (column ∷ []) (kind ∷ more ∷ kinds) keys long typed h = absurd typed.1
holds_one schema sources (column ∷ other ∷ columns) kinds keys long typed h = absurd (omega (arith, long))

each_stands : (schema : Catalog) (sources : List Origin) (columns : List SourceColumn) (kinds : List Kind) (keys : List (List Value)) → AreTyped schema sources columns kinds → FitAll kinds keys
    → AllByRecursion (IsPart schema sources) (flat_map (has_values columns) keys)
each_stands schema sources columns kinds [] typed h = tt
each_stands schema sources columns kinds (key ∷ keys) typed h =
    every_append (IsPart schema sources) (has_values columns key) (flat_map (has_values columns) keys) (values_stand schema sources columns kinds key typed h.0) (each_stands schema sources columns kinds keys typed h.1)

keys_stand : (schema : Catalog) (sources : List Origin) (columns : List SourceColumn) (kinds : List Kind) (keys : List (List Value)) → 2 ≤ length columns → AreTyped schema sources columns kinds → FitAll kinds keys
    → AllByRecursion (Stands schema sources Boolean) (map (has_key columns) keys)
keys_stand schema sources columns kinds [] long typed h = tt
keys_stand schema sources columns kinds (key ∷ keys) long typed h =
    let parts = values_stand schema sources columns kinds key typed h.0 in
    let wide : 2 ≤ length (has_values columns key) = omega (arith, long, values_long schema sources columns kinds key typed h.0) in (
      and_stands schema sources (has_values columns key) wide (all_stand schema sources (has_values columns key) parts) (all_whole schema sources (has_values columns key) parts),
      keys_stand schema sources columns kinds keys long typed h.1,
    )

keys_whole : (columns : List SourceColumn) (keys : List (List Value)) → AllByRecursion (λ e. or_parts e ≡ e ∷ []) (map (has_key columns) keys)
keys_whole columns [] = tt
keys_whole columns (key ∷ keys) = (and_whole_or (has_values columns key), keys_whole columns keys)

some_stands : (schema : Catalog) (sources : List Origin) (columns : List SourceColumn) (kinds : List Kind) (keys : List (List Value)) → 2 ≤ length columns → 2 ≤ length keys → AreTyped schema sources columns kinds
    → FitAll kinds keys → AllByRecursion (IsPart schema sources) (has_some_key columns keys)
some_stands schema sources columns kinds keys long many typed h =
    let two : 2 ≤ length (map (has_key columns) keys) = omega (arith, many, length-map keys (has_key columns)) in (
      record {
        stands = or_stands schema sources (map (has_key columns) keys) two (keys_stand schema sources columns kinds keys long typed h) (keys_whole columns keys);
        whole = or_whole (map (has_key columns) keys);
      },
      tt,
    )

at_least_two : (n : ℕ) → 0 < n → (n == 1) ≡ false → 2 ≤ n
at_least_two n some h = by (λ e. eq-eqb n 1 e)
  where
    by : (n ≡ 1 → (n == 1) ≡ true) → 2 ≤ n
    by f =
        let unlike : n ≡ 1 → ⊥ = λ e. let yes_one : (n == 1) ≡ true = f e in cc in
        omega (arith, some, unlike)

-- columns hold one of several keys of their kinds
one_by : (schema : Catalog) (sources : List Origin) (columns : List SourceColumn) (kinds : List Kind) (keys : List (List Value)) (alone single : Bool) → (length columns == 1) ≡ alone → (length keys == 1) ≡ single
    → 0 < length columns → 0 < length keys → AreTyped schema sources columns kinds → FitAll kinds keys
    → AllByRecursion (IsPart schema sources) (if alone then map (holds_first keys) columns else if single then flat_map (has_values columns) keys else has_some_key columns keys)
one_by schema sources columns kinds keys true single e g some many typed h = holds_one schema sources columns kinds keys (eqb-true (length columns) 1 e) typed h
one_by schema sources columns kinds keys false true e g some many typed h = each_stands schema sources columns kinds keys typed h
one_by schema sources columns kinds keys false false e g some many typed h =
    some_stands schema sources columns kinds keys (at_least_two (length columns) some e) (at_least_two (length keys) many g) typed h

pub one_of_stands : (schema : Catalog) (sources : List Origin) (columns : List SourceColumn) (kinds : List Kind) (keys : List (List Value)) → 0 < length columns → 0 < length keys → AreTyped schema sources columns kinds
    → AllByRecursion (λ key. fit_kinds kinds key ≡ true) keys → AllByRecursion (IsPart schema sources) (has_one_of columns keys)
one_of_stands schema sources columns kinds keys some many typed h = one_by schema sources columns kinds keys (length columns == 1) (length keys == 1) refl refl some many typed h

-- ---- equal columns

pub equal_stand : (schema : Catalog) (sources : List Origin) (columns others : List SourceColumn) (kinds : List Kind) → AreTyped schema sources columns kinds → AreTyped schema sources others kinds
    → AllByRecursion (IsPart schema sources) (equal_columns columns others)
equal_stand schema sources [] others kinds h g = tt
equal_stand schema sources (column ∷ columns) [] kinds h g = tt
equal_stand schema sources (column ∷ columns) (other ∷ others) [] h g = absurd h
equal_stand schema sources (column ∷ columns) (other ∷ others) (kind ∷ kinds) h g = (
  record {
    stands =
        equal_stands schema sources kind (column_of column) (column_of other) (column_stands schema sources column.source column.column kind h.0)
        (column_stands schema sources other.source other.column kind g.0);
    whole = equal_whole (column_of column) (column_of other);
  },
  equal_stand schema sources columns others kinds h.1 g.1,
)

pub equal_some : (columns others : List SourceColumn) → 0 < length columns → 0 < length others → 1 ≤ length (equal_columns columns others)
equal_some [] others some more = absurd (omega (arith, some))
equal_some (column ∷ columns) [] some more = absurd (omega (arith, more))
equal_some (column ∷ columns) (other ∷ others) some more = omega arith
