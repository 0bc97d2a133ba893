-- What a line can say of an expression, and what has no fault in its names, stands under its sources.
use Rattle.std.proofs.Common.{◌≡◌, ℕ, ◌+◌, suc, Bool, true, false, cond, not, ◌&&◌, nat_lt, List, [], ◌∷◌, ◌++◌, length, map, Option, Some, None, Ok, Err, refl, sym, ap, subst, ◌∙◌, arith}
use Rattle.std.proofs.lemmas.Bool.{and_from, and_parts, lt-ltb}
use Rattle.std.proofs.lemmas.Option.{slice_get-get_or, slice_get_within}
use Rattle.std.proofs.lemmas.List.{length-map}
use Rattle.std.proofs.lemmas.List.FromFn.{length-enumerate_from}
use Rattle.std.specs.List.{AllByRecursion, enumerate_from, find, list_all, slice_get}
use Rattle.std.specs.Option.{is_some}
use Rattle.base_core.proofs.Lists.{get_before, get_last}
use Rattle.base_core.specs.declared.ids.ColumnNo.{ColumnNo}
use Rattle.base_core.specs.declared.ids.TableId.{TableId}
use Rattle.base_core.specs.declared.refusal.Refusal.{Refusal}
use Rattle.base_core.specs.declared.refusal.RequestKind.TheVariants.{WrongKind}
use Rattle.schema_core.specs.Catalog.{Catalog, find_table, spec_of}
use Rattle.expr_types.specs.declared.expr.Expr.{Expr, roll-Expr}
use Rattle.expr_types.specs.declared.expr.Expr.TheOpen.{Expr-F}
use Rattle.expr_types.specs.declared.expr.Expr.TheVariants as expr
use Rattle.expr_types.specs.declared.expr.Expr.TheFolds.{map-Expr}
use Rattle.sql_semantics.specs.Kinds.{column_in}
use Rattle.sql_semantics.specs.Kinds.{Scope as Tables}
use Rattle.sql_semantics.specs.Plain.{fits, full_level, has_full_lists, is_given, takes}
use Rattle.sql_semantics.proofs.Equations.{fits_rolled, fits_step, full_rolled}
use Rattle.script_types.specs.declared.expression.SynSource.{SynSource}
use Rattle.script_types.specs.declared.expression.Syn.{Syn, roll-Syn}
use Rattle.script_types.specs.declared.expression.Syn.TheOpen.{Syn-F}
use Rattle.script_types.specs.declared.expression.Syn.TheFolds.{fold-roll-Syn, map-Syn}
use Rattle.script_names.specs.Faults.{fault_if}
use Rattle.script_names.specs.Parts.{operands}
use Rattle.script_names.specs.Scopes.{PathMeaning, Scope, column_or_name, find_column, in_no_table, in_source, in_table, inner_scope, outer_scope, path_in, scope_below, source_meant}
use Rattle.script_names.specs.Naming.{column_or_null, faults_behind, faults_before, faults_in, name_faults, name_faults_level, named_expression, named_level, named_origin, number_or_none, path_faults, said_in, table_faults, table_number, unknown_if_none}
use Rattle.script_names.proofs.Folds.{bare, by_levels}
use Rattle.script_names.proofs.Operands.{operands_map}
use Rattle.script_names.proofs.Places.{found_is_table}
use Rattle.script_resolve.specs.Sayable.{can_stand, is_sayable, sayable_level}
use Rattle.script_resolve.proofs.Columns.{found_column, no_column}
use Rattle.script_resolve.proofs.Parts.{nil_parts, nil_three}

-- ---- lists

found_has : {A : Type 0} (P : A → Type 0) (p : A → Bool) (xs : List A) (x : A) → AllByRecursion P xs → find p xs ≡ Some x → P x
found_has P p [] x all h = absurd cc
found_has {A} P p (y ∷ ys) x all h = at (p y) h (λ g. found_has P p ys x all.1 g)
  where
    some_same : (a b : A) → Some a ≡ Some b → a ≡ b
    some_same a b g = cc

    at : (b : Bool) → cond b (Some y) (find p ys) ≡ Some x → (find p ys ≡ Some x → P x) → P x
    at true g rest = subst P (some_same y x g) all.0
    at false g rest = rest g

-- ---- sources in scope

-- the tables of the sources in scope, each at its place
pub record IsScope (schema : Catalog) (scope : Scope) (tables : Tables) : Type 0 where
  pub long : length scope ≡ length tables
  pub each : AllByRecursion (λ placed. slice_get tables placed.0 ≡ Some (table_number schema placed.1.table)) scope

module _ (schema : Catalog) where
  abbrev At : Tables → ℕ × SynSource → Type 0
  At tables placed = slice_get tables placed.0 ≡ Some (table_number schema placed.1.table)

  at_more : (tables : Tables) (table : TableId) (scope : Scope) → AllByRecursion (At tables) scope → AllByRecursion (At (tables ++ table ∷ [])) scope
  at_more tables table [] h = tt
  at_more tables table (placed ∷ scope) h =
      (get_before tables (table ∷ []) placed.0 (slice_get_within tables placed.0 (table_number schema placed.1.table) h.0) ∙ h.0, at_more tables table scope h.1)

  long_more : (tables : Tables) (table : TableId) → length (tables ++ table ∷ []) ≡ suc (length tables)
  long_more [] table = refl
  long_more (t ∷ tables) table = ap suc (long_more tables table)

  inner_is : (scope : Scope) (tables : Tables) (source : SynSource) → IsScope schema scope tables → IsScope schema (inner_scope scope source) (tables ++ table_number schema source.table ∷ [])
  inner_is scope tables source is = record {
    long = ap suc is.long ∙ sym (long_more tables (table_number schema source.table));
    each = (ap (slice_get (tables ++ table_number schema source.table ∷ [])) is.long ∙ get_last tables (table_number schema source.table), at_more tables (table_number schema source.table) scope is.each);
  }

  abbrev tables_of : List SynSource → Tables
  tables_of = map (λ source. table_number schema source.table)

  placed_in : (before : Tables) (sources : List SynSource) (n : ℕ) → n ≡ length before → AllByRecursion (At (before ++ tables_of sources)) (enumerate_from n sources)
  placed_in before [] n h = tt
  placed_in before (source ∷ sources) n h =
      let table : TableId = table_number schema source.table in
      let here : slice_get (before ++ table ∷ tables_of sources) n ≡ Some table = ap (slice_get (before ++ table ∷ tables_of sources)) h ∙ seam before table (tables_of sources) in
      let rest = placed_in (before ++ table ∷ []) sources (n + 1) (omega (arith, long_more before table)) in
      (here, subst (λ (ts : Tables). AllByRecursion (At ts) (enumerate_from (n + 1) sources)) (moved before table (tables_of sources)) rest)
    where
      seam : (xs : Tables) (x : TableId) (ys : Tables) → slice_get (xs ++ x ∷ ys) (length xs) ≡ Some x
      seam [] x ys = refl
      seam (y ∷ xs) x ys = seam xs x ys

      moved : (xs : Tables) (x : TableId) (ys : Tables) → (xs ++ x ∷ []) ++ ys ≡ xs ++ x ∷ ys
      moved [] x ys = refl
      moved (y ∷ xs) x ys = ap (λ zs. y ∷ zs) (moved xs x ys)

  pub outer_is : (sources : List SynSource) → IsScope schema (outer_scope sources) (tables_of sources)
  outer_is sources = record {
    long = length-enumerate_from 0 sources ∙ sym (length-map sources (λ (source : SynSource). table_number schema source.table));
    each = placed_in [] sources 0 refl;
  }

  -- ---- paths

  no_table : (source column : List ℕ) (alias : Option (List ℕ)) (place : ℕ × ColumnNo) → in_no_table source column alias ≡ Ok place → ⊥
  no_table source column None place h = cc
  no_table source column (Some alias) place h = cc

  module _ (tables : Tables) (source column : List ℕ) (place : ℕ × ColumnNo) where
    abbrev Stood : Type 0
    Stood = is_some (column_in schema tables place.0 place.1) ≡ true

    in_column : (placed : ℕ × SynSource) (table : TableId) → slice_get tables placed.0 ≡ Some table → (c : Option ColumnNo) → find_column (spec_of schema table) column ≡ c → column_or_name column placed.0 c ≡ Ok place → Stood
    in_column placed table at None is h = absurd cc
    in_column placed table at (Some number) is h =
        let told : is_some (column_in schema tables placed.0 number) ≡ true = rw at (ap is_some (slice_get-get_or (spec_of schema table).columns number.0 no_column (found_column (spec_of schema table) column number is).0)) in
        subst (λ (p : ℕ × ColumnNo). is_some (column_in schema tables p.0 p.1) ≡ true) (same (Ok (placed.0, number)) (placed.0, number) place refl h) told
      where
        same : (p : PathMeaning) (a b : ℕ × ColumnNo) → p ≡ Ok a → p ≡ Ok b → a ≡ b
        same p a b e f = cc

    in_its_table : (placed : ℕ × SynSource) → At tables placed → (t : Option TableId) → find_table schema.tables placed.1.table ≡ t → in_table schema source column placed t ≡ Ok place → Stood
    in_its_table placed at None is h = absurd (no_table source column placed.1.alias place h)
    in_its_table placed at (Some table) is h =
        let number : table_number schema placed.1.table ≡ table = ap (number_or_none schema) is in
        in_column placed table (at ∙ ap (λ t. Some t) number) (find_column (spec_of schema table) column) refl h

    in_its_source : (scope : Scope) (o : Option (ℕ × SynSource)) → ((placed : ℕ × SynSource) → o ≡ Some placed → At tables placed) → in_source schema source column o ≡ Ok place → Stood
    in_its_source scope None at h = absurd cc
    in_its_source scope (Some placed) at h = in_its_table placed (at placed refl) (find_table schema.tables placed.1.table) refl h

    path_stands : (scope : Scope) → IsScope schema scope tables → path_in schema scope source column ≡ Ok place → Stood
    path_stands scope is h = in_its_source scope (source_meant scope source) (λ placed e. found_has (At tables) _ scope placed is.each e) h

  -- ---- expressions

  -- every level stands in its scope, and `and` and `or` have two parts or more
  abbrev pub Stands : Expr → Tables → Type 0
  Stands e tables = (fits schema e tables ≡ true) × (has_full_lists e ≡ true)

  fit_all : (tables : Tables) (es : List Expr) → AllByRecursion (λ e. Stands e tables) es → list_all (λ holds. holds tables) (map (fits schema) es) ≡ true
  fit_all tables [] h = refl
  fit_all tables (e ∷ es) h = and_from (fits schema e tables) (list_all (λ holds. holds tables) (map (fits schema) es)) h.0.0 (fit_all tables es h.1)

  full_all : (tables : Tables) (es : List Expr) → AllByRecursion (λ e. Stands e tables) es → list_all (λ has. has) (map has_full_lists es) ≡ true
  full_all tables [] h = refl
  full_all tables (e ∷ es) h = and_from (has_full_lists e) (list_all (λ has. has) (map has_full_lists es)) h.0.1 (full_all tables es h.1)

  of_level : (x : Expr-F Expr) (e : Expr) (tables : Tables) → roll-Expr x ≡ e → fits_step schema (map-Expr Expr (Tables → Bool) (fits schema) x) tables ≡ true
      → full_level (map-Expr Expr Bool has_full_lists x) ≡ true → Stands e tables
  of_level x e tables is fit full =
      (ap (λ (n : Expr). fits schema n tables) (sym is) ∙ (fits_rolled schema tables x ∙ fit), ap has_full_lists (sym is) ∙ (full_rolled x ∙ full))

  -- a level that asks nothing of itself
  of_operands : (x : Expr-F Expr) (e : Expr) (tables : Tables) (es : List Expr) → roll-Expr x ≡ e
      → fits_step schema (map-Expr Expr (Tables → Bool) (fits schema) x) tables ≡ list_all (λ holds. holds tables) (map (fits schema) es)
      → full_level (map-Expr Expr Bool has_full_lists x) ≡ list_all (λ has. has) (map has_full_lists es)
      → AllByRecursion (λ e. Stands e tables) es → Stands e tables
  of_operands x e tables es is fit full h = of_level x e tables is (fit ∙ fit_all tables es h) (full ∙ full_all tables es h)

  path_level : (scope : Scope) (tables : Tables) (source column : List ℕ) → IsScope schema scope tables → (p : PathMeaning) → path_in schema scope source column ≡ p → path_faults p ≡ [] → Stands (column_or_null p) tables
  path_level scope tables source column is (Err name) at h = (absurd cc, absurd cc)
  path_level scope tables source column is (Ok place) at h =
      of_level (Expr-F.Column place.0 place.1) _ tables (expr.rolls-Column place.0 place.1) (and_from (is_some (column_in schema tables place.0 place.1)) true (path_stands tables source column place scope is at) refl) refl

  no_fault : (b : Bool) → fault_if (not b) WrongKind ≡ [] → b ≡ true
  no_fault true h = refl
  no_fault false h = absurd cc

  declared : (name : List ℕ) (t : Option TableId) → find_table schema.tables name ≡ t → unknown_if_none name t ≡ [] → nat_lt (number_or_none schema t).0 (length schema.tables) ≡ true
  declared name None is h = absurd cc
  declared name (Some table) is h = lt-ltb table.0 (length schema.tables) (found_is_table schema name table is)

  pub is_declared_table : (name : List ℕ) → table_faults schema name ≡ [] → nat_lt (table_number schema name).0 (length schema.tables) ≡ true
  is_declared_table name h = declared name (find_table schema.tables name) refl h

  -- ---- what is known of operands

  -- what is to be shown of each expression
  abbrev Named : Syn → Type 0
  Named e = (scope : Scope) (tables : Tables) → IsScope schema scope tables → is_sayable e ≡ true → name_faults schema e scope ≡ [] → Stands (named_expression schema e scope) tables

  abbrev Known : Type 0
  Known = (e : Syn) × Named e

  abbrev tables_below : Tables → Syn-F Known → Tables
  tables_below tables (Syn-F.Exists source condition) = tables ++ table_number schema source.table ∷ []
  tables_below tables level = tables

  below_is : (scope : Scope) (tables : Tables) (y : Syn-F Known) → IsScope schema scope tables → IsScope schema (scope_below scope y) (tables_below tables y)
  below_is scope tables (Syn-F.Exists source condition) is = inner_is scope tables source is
  below_is scope tables y is = is

  abbrev syns : List Known → List Syn
  syns = map (λ (k : Known). k.0)

  abbrev said : Scope → List Known → List Expr
  said scope ks = said_in scope (map (named_expression schema) (syns ks))

  each_stands : (scope : Scope) (tables : Tables) → IsScope schema scope tables → (ks : List Known) → list_all (λ holds. holds) (map is_sayable (syns ks)) ≡ true
      → faults_in scope (map (name_faults schema) (syns ks)) ≡ [] → AllByRecursion (λ e. Stands e tables) (said scope ks)
  each_stands scope tables is [] say none = tt
  each_stands scope tables is (k ∷ ks) say none =
      let can = and_parts (is_sayable k.0) (list_all (λ holds. holds) (map is_sayable (syns ks))) say in
      let free = nil_parts (name_faults schema k.0 scope) (faults_in scope (map (name_faults schema) (syns ks))) none in
      (k.1 scope tables is can.0 free.0, each_stands scope tables is ks can.1 free.1)

  listed : {A : Type 0} (f : Syn → A) (y : Syn-F Known) → operands (map-Syn Syn A f (bare y)) ≡ map f (syns (operands y))
  listed f y = operands_map f (bare y) ∙ ap (map f) (operands_map (λ (k : Known). k.0) y)

  scopes_below : (y : Syn-F Known) (scope : Scope) → scope_below scope (map-Syn Syn (Scope → List Refusal) (name_faults schema) (bare y)) ≡ scope_below scope y
  scopes_below (Syn-F.Exists source condition) scope = refl
  scopes_below y scope = refl

  several_full : (scope : Scope) (tables : Tables) (ks : List Known) → nat_lt 1 (length (map is_sayable (syns ks))) ≡ true → AllByRecursion (λ e. Stands e tables) (said scope ks)
      → (nat_lt 1 (length (map has_full_lists (said scope ks))) && list_all (λ has. has) (map has_full_lists (said scope ks))) ≡ true
  several_full scope tables ks can h =
      let es : List Expr = said scope ks in
      let long : length (map has_full_lists es) ≡ length (map is_sayable (syns ks)) =
      length-map es has_full_lists ∙ (length-map (map (named_expression schema) (syns ks)) (λ (a : Scope → Expr). a scope) ∙ (length-map (syns ks) (named_expression schema) ∙ sym (length-map (syns ks) is_sayable))) in
      and_from (nat_lt 1 (length (map has_full_lists es))) (list_all (λ has. has) (map has_full_lists es)) (ap (nat_lt 1) long ∙ can) (full_all tables es h)

  -- ---- one level

  stands_level : (scope : Scope) (tables : Tables) → IsScope schema scope tables → (y : Syn-F Known)
      → can_stand (map-Syn Syn Bool is_sayable (bare y)) ≡ true
      → faults_before schema scope (map-Syn Syn (Scope → List Refusal) (name_faults schema) (bare y)) ≡ []
      → faults_behind (map-Syn Syn (Scope → List Refusal) (name_faults schema) (bare y)) ≡ []
      → AllByRecursion (λ e. Stands e (tables_below tables y)) (said (scope_below scope y) (operands y))
      → Stands (named_level schema (map-Syn Syn (Scope → Expr) (named_expression schema) (bare y)) scope) tables
  stands_level scope tables is (Syn-F.Lit v) can before behind h = of_level (Expr-F.Lit v) _ tables (expr.rolls-Lit v) (and_from (is_given v) true can refl) refl
  stands_level scope tables is (Syn-F.Path s c) can before behind h = path_level scope tables s c is (path_in schema scope s c) refl before
  stands_level scope tables is Syn-F.CountAll can before behind h = of_level Expr-F.CountAll _ tables expr.rolls-CountAll refl refl
  stands_level scope tables is (Syn-F.Call f ks) can before behind h =
      let es : List Expr = said scope ks in
      let long : length (map (fits schema) es) ≡ length (map (name_faults schema) (syns ks)) =
      length-map es (fits schema) ∙ (length-map (map (named_expression schema) (syns ks)) (λ (a : Scope → Expr). a scope) ∙ (length-map (syns ks) (named_expression schema) ∙ sym (length-map (syns ks) (name_faults schema)))) in
      let count : takes f (length (map (fits schema) es)) ≡ true = ap (takes f) long ∙ no_fault (takes f (length (map (name_faults schema) (syns ks)))) behind in
      of_level (Expr-F.Call f es) _ tables (expr.rolls-Call f es) (and_from (takes f (length (map (fits schema) es))) (list_all (λ holds. holds tables) (map (fits schema) es)) count (fit_all tables es h)) (full_all tables es h)
  stands_level scope tables is (Syn-F.Exists s k) can before behind h =
      let e : Expr = named_expression schema k.0 (inner_scope scope s) in
      let below : Tables = tables ++ table_number schema s.table ∷ [] in
      of_level (Expr-F.Exists false (named_origin schema s) e) _ tables (expr.rolls-Exists false (named_origin schema s) e)
      (and_from (nat_lt (table_number schema s.table).0 (length schema.tables)) (fits schema e below && true) (is_declared_table s.table before) (fit_all below (e ∷ []) h)) (full_all below (e ∷ []) h)
  stands_level scope tables is (Syn-F.Compare op a b) can before behind h =
      of_operands (Expr-F.Compare op (named_expression schema a.0 scope) (named_expression schema b.0 scope)) _ tables (said scope (a ∷ b ∷ [])) (expr.rolls-Compare op (named_expression schema a.0 scope) (named_expression schema b.0 scope)) refl refl h
  stands_level scope tables is (Syn-F.IsNull g a) can before behind h =
      of_operands (Expr-F.IsNull g (named_expression schema a.0 scope)) _ tables (said scope (a ∷ [])) (expr.rolls-IsNull g (named_expression schema a.0 scope)) refl refl h
  stands_level scope tables is (Syn-F.Like g a b) can before behind h =
      of_operands (Expr-F.Like g (named_expression schema a.0 scope) (named_expression schema b.0 scope)) _ tables (said scope (a ∷ b ∷ [])) (expr.rolls-Like g (named_expression schema a.0 scope) (named_expression schema b.0 scope)) refl refl h
  stands_level scope tables is (Syn-F.Ilike g a b) can before behind h =
      of_operands (Expr-F.Ilike g (named_expression schema a.0 scope) (named_expression schema b.0 scope)) _ tables (said scope (a ∷ b ∷ [])) (expr.rolls-Ilike g (named_expression schema a.0 scope) (named_expression schema b.0 scope)) refl refl h
  stands_level scope tables is (Syn-F.InList g a vs) can before behind h =
      let e : Expr = named_expression schema a.0 scope in
      of_level (Expr-F.InList g e vs) _ tables (expr.rolls-InList g e vs) (and_from (list_all is_given vs) (fits schema e tables && true) can (fit_all tables (e ∷ []) h)) (full_all tables (e ∷ []) h)
  stands_level scope tables is (Syn-F.Between g a low high) can before behind h =
      of_operands (Expr-F.Between g (named_expression schema a.0 scope) (named_expression schema low.0 scope) (named_expression schema high.0 scope)) _ tables (said scope (a ∷ low ∷ high ∷ []))
      (expr.rolls-Between g (named_expression schema a.0 scope) (named_expression schema low.0 scope) (named_expression schema high.0 scope)) refl refl h
  stands_level scope tables is (Syn-F.Distinct g a b) can before behind h =
      of_operands (Expr-F.Distinct g (named_expression schema a.0 scope) (named_expression schema b.0 scope)) _ tables (said scope (a ∷ b ∷ [])) (expr.rolls-Distinct g (named_expression schema a.0 scope) (named_expression schema b.0 scope)) refl refl h
  stands_level scope tables is (Syn-F.And ks) can before behind h =
      let es : List Expr = said scope ks in
      of_level (Expr-F.And es) _ tables (expr.rolls-And es) (fit_all tables es h) (several_full scope tables ks can h)
  stands_level scope tables is (Syn-F.Or ks) can before behind h =
      let es : List Expr = said scope ks in
      of_level (Expr-F.Or es) _ tables (expr.rolls-Or es) (fit_all tables es h) (several_full scope tables ks can h)
  stands_level scope tables is (Syn-F.Not a) can before behind h =
      of_operands (Expr-F.Not (named_expression schema a.0 scope)) _ tables (said scope (a ∷ [])) (expr.rolls-Not (named_expression schema a.0 scope)) refl refl h
  stands_level scope tables is (Syn-F.Arith op a b) can before behind h =
      of_operands (Expr-F.Arith op (named_expression schema a.0 scope) (named_expression schema b.0 scope)) _ tables (said scope (a ∷ b ∷ [])) (expr.rolls-Arith op (named_expression schema a.0 scope) (named_expression schema b.0 scope)) refl refl h
  stands_level scope tables is (Syn-F.Concat a b) can before behind h =
      of_operands (Expr-F.Concat (named_expression schema a.0 scope) (named_expression schema b.0 scope)) _ tables (said scope (a ∷ b ∷ [])) (expr.rolls-Concat (named_expression schema a.0 scope) (named_expression schema b.0 scope)) refl refl h
  stands_level scope tables is (Syn-F.Neg a) can before behind h =
      of_operands (Expr-F.Neg (named_expression schema a.0 scope)) _ tables (said scope (a ∷ [])) (expr.rolls-Neg (named_expression schema a.0 scope)) refl refl h

  -- ---- the whole

  level_stands : (y : Syn-F Known) → Named (roll-Syn (bare y))
  unfolding is_sayable name_faults named_expression
  level_stands y scope tables is say none =
      let can = and_parts (can_stand (map-Syn Syn Bool is_sayable (bare y))) (list_all (λ holds. holds) (operands (map-Syn Syn Bool is_sayable (bare y)))) (sym (fold-roll-Syn Bool sayable_level (bare y)) ∙ say) in
      let level : Syn-F (Scope → List Refusal) = map-Syn Syn (Scope → List Refusal) (name_faults schema) (bare y) in
      let faults : name_faults_level schema level scope ≡ [] = sym (ap (λ (f : Scope → List Refusal). f scope) (fold-roll-Syn (Scope → List Refusal) (name_faults_level schema) (bare y))) ∙ none in
      let parts = nil_three (faults_before schema scope level) (faults_in (scope_below scope level) (operands level)) (faults_behind level) faults in
      let below : scope_below scope level ≡ scope_below scope y = scopes_below y scope in
      let say_each : list_all (λ holds. holds) (map is_sayable (syns (operands y))) ≡ true = ap (list_all (λ (holds : Bool). holds)) (sym (listed is_sayable y)) ∙ can.1 in
      let free : faults_in (scope_below scope y) (map (name_faults schema) (syns (operands y))) ≡ [] =
      ap (faults_in (scope_below scope y)) (sym (listed (name_faults schema) y)) ∙ (ap (λ (s : Scope). faults_in s (operands level)) (sym below) ∙ parts.1) in
      let each = each_stands (scope_below scope y) (tables_below tables y) (below_is scope tables y is) (operands y) say_each free in
      subst (λ (e : Expr). Stands e tables) (sym (ap (λ (f : Scope → Expr). f scope) (fold-roll-Syn (Scope → Expr) (named_level schema) (bare y)))) (stands_level scope tables is y can.0 parts.0 parts.2 each)

  -- where a line can say the expression and its names have no fault, it stands under its sources
  pub named_stands : (e : Syn) → Named e
  named_stands = by_levels Named level_stands
