-- What an expression of a query says finds its columns among the sources.
use Rattle.std.proofs.Common.{◌≡◌, ℕ, ◌+◌, Bool, true, false, if◌then◌else◌, List, [], ◌∷◌, ◌++◌, length, map, Option, None, Some, Ok, IfOk, refl, sym, ap, subst, ◌∙◌, arith, length-append}
use Rattle.std.specs.Prelude.{is_some, slice_get}
use Rattle.std.specs.Option.{option_and_then}
use Rattle.std.specs.List.{AllByRecursion, list_all}
use Rattle.std.proofs.lemmas.Bool.{and_from}
use Rattle.std.proofs.lemmas.List.{length-map, map-append}
use Rattle.std.proofs.lemmas.Option.{slice_get-get_or}
use Rattle.base_core.proofs.Lists.{get_last}
use Rattle.base_core.specs.declared.ids.AttrNo.{AttrNo}
use Rattle.base_core.specs.declared.ids.ColumnNo.{ColumnNo}
use Rattle.base_core.specs.declared.ids.TableId.{TableId}
use Rattle.schema_core.specs.Catalog.{Catalog, same_name, spec_of}
use Rattle.expr_types.specs.declared.expr.Expr.{Expr, roll-Expr}
use Rattle.expr_types.specs.declared.expr.Expr.TheFolds.{map-Expr}
use Rattle.expr_types.specs.declared.expr.Expr.TheOpen.{Expr-F}
use Rattle.expr_types.specs.declared.expr.Expr.TheVariants as expr
use Rattle.expr_types.specs.declared.expr.Func.{Func}
use Rattle.expr_types.specs.declared.expr.Origin.{Origin}
use Rattle.sql_semantics.specs.Checked.{Checked, ◌>>=◌}
use Rattle.sql_semantics.specs.Kinds.{Scope, column_in}
use Rattle.sql_semantics.specs.Plain.{name_or, takes}
use Rattle.class_types.specs.declared.mapped.Attribute.{Attribute}
use Rattle.class_mapping.specs.Mapped.{IsAttribute, Mapped, attribute_of, attributes_of, class_spec, no_attribute}
use Rattle.class_mapping.proofs.Having.{Has, has_at}
use Rattle.mapping_laws.specs.Hierarchies.{HasHierarchies}
use Rattle.mapping_laws.proofs.Ties.{class_tables}
use Rattle.load_columns.specs.declared.placing.SourceColumn.{SourceColumn}
use Rattle.load_columns.specs.Placing.{attribute_column}
use Rattle.collection_selects.proofs.Keys.{IsAt}
use Rattle.collection_selects.proofs.Placed.{at_more, attribute_there}
use Rattle.known_queries.specs.Known.{finds_columns}
use Rattle.known_queries.proofs.Found.{found_rolled, found_step}
use Rattle.script_types.specs.declared.expression.Syn.{Syn, roll-Syn}
use Rattle.script_types.specs.declared.expression.Syn.TheFolds.{fold-roll-Syn, map-Syn}
use Rattle.script_types.specs.declared.expression.Syn.TheOpen.{Syn-F}
use Rattle.script_types.specs.declared.expression.SynSource.{SynSource}
use Rattle.script_names.specs.Scopes.{find_column}
use Rattle.script_names.proofs.Folds.{bare, by_levels}
use Rattle.script_resolve.proofs.Columns.{found_column, no_column}
use Rattle.command_names.specs.Attributes.{attribute_named}
use Rattle.command_names.specs.Terms.{found_or_unknown, wrong_kind}
use Rattle.query_names.proofs.Meant.{attribute_is}
use Rattle.query_names.specs.declared.scope.InnerSource.{InnerSource}
use Rattle.query_names.specs.declared.scope.PlacedClass.{PlacedClass}
use Rattle.query_names.specs.declared.scope.QueryScope.{QueryScope}
use Rattle.query_names.specs.Expressions.{Said, all_of, called, exists_said, expression_said, said_level, table_said, three, two}
use Rattle.query_names.specs.Scopes.{attribute_said, class_meant, in_class, path_by, path_said, scope_within, source_meant}
use Rattle.query_names.proofs.Answered.{found_among, ok_after, ok_each, ok_found, ok_list, ok_pair, ok_then}
use Rattle.query_names.proofs.Placed.{StandsAmong, still_stand}

abbrev pub table_of : Origin → TableId
table_of origin = origin.table

abbrev pub tables_in : List Origin → Scope
tables_in origins = map table_of origins

-- the classes in scope stand among these sources, and each source of an `exists` is the one at its place
pub record IsAmong (mapped : Mapped) (origins : List Origin) (scope : QueryScope) : Type 0 where
  pub classes : AllByRecursion (StandsAmong mapped origins) scope.classes
  pub inner : AllByRecursion (λ (source : InnerSource). IsAt origins source.place source.table) scope.inner
  pub long : scope.sources ≡ length origins

-- ---- scopes

inner_still : (origins more : List Origin) (sources : List InnerSource) → AllByRecursion (λ (source : InnerSource). IsAt origins source.place source.table) sources
    → AllByRecursion (λ (source : InnerSource). IsAt (origins ++ more) source.place source.table) sources
inner_still origins more [] h = tt
inner_still origins more (source ∷ sources) h = (at_more origins more source.place source.table h.0, inner_still origins more sources h.1)

-- inside an `exists`
within_among : (mapped : Mapped) (origins : List Origin) (scope : QueryScope) (name : List ℕ) (origin : Origin) → IsAmong mapped origins scope → IsAmong mapped (origins ++ origin ∷ []) (scope_within scope name origin.table)
within_among mapped origins scope name origin is =
    let tables : Scope = tables_in origins in
    let here : slice_get (tables ++ origin.table ∷ []) scope.sources ≡ Some origin.table =
    ap (slice_get (tables ++ origin.table ∷ [])) (is.long ∙ sym (length-map origins table_of)) ∙ get_last tables origin.table in
    let counted : length (origins ++ origin ∷ []) ≡ length origins + 1 = length-append origins (origin ∷ []) in
    let long : scope.sources ≡ length origins = is.long in
    record {
      classes = still_stand mapped origins (origin ∷ []) scope.classes is.classes;
      inner = (ap (λ (found : Scope). slice_get found scope.sources) (map-append table_of origins (origin ∷ [])) ∙ here, inner_still origins (origin ∷ []) scope.inner is.inner);
      long = omega (arith, counted, long);
    }

module _ (mapped : Mapped) (has : HasHierarchies mapped) where
  abbrev schema : Catalog
  schema = mapped.schema

  abbrev pub Finds : Scope → Expr → Type 0
  Finds scope e = finds_columns schema e scope ≡ true

  -- ---- one level

  all_find : (scope : Scope) (es : List Expr) → AllByRecursion (Finds scope) es → list_all (λ (holds : Scope → Bool). holds scope) (map (finds_columns schema) es) ≡ true
  all_find scope [] h = refl
  all_find scope (e ∷ es) h = and_from (finds_columns schema e scope) (list_all (λ (holds : Scope → Bool). holds scope) (map (finds_columns schema) es)) h.0 (all_find scope es h.1)

  of_level : (x : Expr-F Expr) (e : Expr) (scope : Scope) → roll-Expr x ≡ e → found_step schema (map-Expr Expr (Scope → Bool) (finds_columns schema) x) scope ≡ true → Finds scope e
  of_level x e scope is found = ap (λ (n : Expr). finds_columns schema n scope) (sym is) ∙ found_rolled schema scope x ∙ found

  -- where the operands do
  of_operands : (x : Expr-F Expr) (e : Expr) (scope : Scope) (es : List Expr) → roll-Expr x ≡ e
      → found_step schema (map-Expr Expr (Scope → Bool) (finds_columns schema) x) scope ≡ list_all (λ (holds : Scope → Bool). holds scope) (map (finds_columns schema) es)
      → AllByRecursion (Finds scope) es → Finds scope e
  of_operands x e scope es is found h = of_level x e scope is (found ∙ all_find scope es h)

  column_finds : (scope : Scope) (source : ℕ) (column : ColumnNo) → is_some (column_in schema scope source column) ≡ true → Finds scope (expr.Column source column)
  column_finds scope source column there =
      of_level (Expr-F.Column source column) _ scope (expr.rolls-Column source column) (and_from (is_some (column_in schema scope source column)) true there refl)

  pub and_finds : (scope : Scope) (es : List Expr) → AllByRecursion (Finds scope) es → Finds scope (expr.And es)
  and_finds scope es h = of_operands (Expr-F.And es) _ scope es (expr.rolls-And es) refl h

  -- ---- paths

  attribute_finds : (origins : List Origin) (placed : PlacedClass) (attr : AttrNo) → StandsAmong mapped origins placed → IsAttribute mapped placed.class attr → Finds (tables_in origins) (attribute_said mapped placed attr)
  attribute_finds origins placed attr stands less =
      let attribute : Attribute = attribute_of mapped placed.class attr in
      let there : Has (attributes_of mapped placed.class) attribute = has_at (attributes_of mapped placed.class) attr.0 attribute (slice_get-get_or (attributes_of mapped placed.class) attr.0 no_attribute less) in
      let column = attribute_there mapped placed.class has stands.declared (class_tables mapped placed.class has stands.declared) placed.placement origins stands.stands attribute there in
      let read : SourceColumn = attribute_column mapped placed.class placed.placement attribute in
      column_finds (tables_in origins) read.source read.column (ap is_some column.1.is)

  class_finds : (origins : List Origin) (placed : PlacedClass) (name : List ℕ) → StandsAmong mapped origins placed → IfOk (in_class mapped name placed) (Finds (tables_in origins))
  class_finds origins placed name stands =
      ok_after (IsAttribute mapped placed.class) (Finds (tables_in origins)) (attribute_named mapped placed.class name) (λ (attr : AttrNo). Ok (attribute_said mapped placed attr))
      (ok_each (IsAttribute mapped placed.class) (attribute_named mapped placed.class name) (attribute_is mapped placed.class name)) (λ attr less. attribute_finds origins placed attr stands less)

  source_finds : (origins : List Origin) (source : InnerSource) (name : List ℕ) → IsAt origins source.place source.table
      → IfOk (found_or_unknown name (find_column (spec_of schema source.table) name) >>= λ (column : ColumnNo). Ok (expr.Column source.place column)) (Finds (tables_in origins))
  source_finds origins source name at =
      ok_after Named (Finds (tables_in origins)) (found_or_unknown name (find_column (spec_of schema source.table) name)) (λ (column : ColumnNo). Ok (expr.Column source.place column))
      (ok_found Named name (find_column (spec_of schema source.table) name) (λ column is. is))
      (λ column is. column_finds (tables_in origins) source.place column
      (ap (λ (found : Option TableId). is_some (option_and_then (λ (table : TableId). slice_get (spec_of schema table).columns column.0) found)) at
      ∙ ap is_some (slice_get-get_or (spec_of schema source.table).columns column.0 no_column (found_column (spec_of schema source.table) name column is).0)))
    where
      Named : ColumnNo → Type 0
      Named column = find_column (spec_of schema source.table) name ≡ Some column

  path_finds : (origins : List Origin) (scope : QueryScope) (owner name : List ℕ) → IsAmong mapped origins scope → IfOk (path_said mapped scope owner name) (Finds (tables_in origins))
  path_finds origins scope owner name is = by (source_meant scope.inner owner) refl
    where
      by : (o : Option InnerSource) → source_meant scope.inner owner ≡ o → IfOk (path_by mapped scope owner name o) (Finds (tables_in origins))
      by None at =
          ok_after (StandsAmong mapped origins) (Finds (tables_in origins)) (found_or_unknown owner (class_meant mapped scope.classes owner)) (in_class mapped name)
          (ok_found (StandsAmong mapped origins) owner (class_meant mapped scope.classes owner)
          (λ placed found. found_among (StandsAmong mapped origins) (λ (placed : PlacedClass). same_name (class_spec mapped placed.class).name owner) scope.classes placed is.classes found))
          (λ placed stands. class_finds origins placed name stands)
      by (Some source) at =
          source_finds origins source name (found_among (λ (source : InnerSource). IsAt origins source.place source.table) (λ (source : InnerSource). same_name source.name owner) scope.inner source is.inner at)

  -- ---- what is known of operands

  abbrev Claim : Syn → Type 0
  Claim e = (origins : List Origin) (scope : QueryScope) → IsAmong mapped origins scope → IfOk (expression_said mapped e scope) (Finds (tables_in origins))

  abbrev Known : Type 0
  Known = (e : Syn) × Claim e

  abbrev said : Known → Said
  said k = expression_said mapped k.0

  abbrev Pair : Scope → Expr × Expr → Type 0
  Pair tables both = Finds tables both.0 × Finds tables both.1

  abbrev Triple : Scope → Expr × (Expr × Expr) → Type 0
  Triple tables all = Finds tables all.0 × Pair tables all.1

  module _ (origins : List Origin) (scope : QueryScope) (is : IsAmong mapped origins scope) where
    abbrev tables : Scope
    tables = tables_in origins

    one_finds : (a : Known) (of : Expr → Expr) → ((e : Expr) → Finds tables e → Finds tables (of e)) → IfOk (said a scope >>= λ (e : Expr). Ok (of e)) (Finds tables)
    one_finds a of keeps = ok_after (Finds tables) (Finds tables) (said a scope) (λ (e : Expr). Ok (of e)) (a.1 origins scope is) keeps

    pair_find : (a b : Known) → IfOk (two (said a) (said b) scope) (Pair tables)
    pair_find a b = ok_pair (Finds tables) (Finds tables) (said a scope) (said b scope) (a.1 origins scope is) (b.1 origins scope is)

    two_find : (a b : Known) (of : Expr → Expr → Expr) → ((e f : Expr) → Finds tables e → Finds tables f → Finds tables (of e f)) → IfOk (two (said a) (said b) scope >>= λ (it : Expr × Expr). Ok (of it.0 it.1)) (Finds tables)
    two_find a b of keeps =
        ok_after (Pair tables) (Finds tables) (two (said a) (said b) scope) (λ (it : Expr × Expr). Ok (of it.0 it.1)) (pair_find a b) (λ it h. keeps it.0 it.1 h.0 h.1)

    three_find : (a b c : Known) (of : Expr → Expr → Expr → Expr) → ((e f g : Expr) → Finds tables e → Finds tables f → Finds tables g → Finds tables (of e f g))
        → IfOk (three (said a) (said b) (said c) scope >>= λ (it : Expr × (Expr × Expr)). Ok (of it.0 it.1.0 it.1.1)) (Finds tables)
    three_find a b c of keeps =
        ok_after (Triple tables) (Finds tables) (three (said a) (said b) (said c) scope) (λ (it : Expr × (Expr × Expr)). Ok (of it.0 it.1.0 it.1.1))
        (ok_pair (Finds tables) (Pair tables) (said a scope) (two (said b) (said c) scope) (a.1 origins scope is) (pair_find b c)) (λ it h. keeps it.0 it.1.0 it.1.1 h.0 h.1.0 h.1.1)

    abbrev saids : List Known → List Said
    saids ks = map (expression_said mapped) (map (λ (k : Known). k.0) ks)

    answers_find : (ks : List Known) → AllByRecursion (λ (answer : Checked Expr). IfOk answer (Finds tables)) (map (λ (operand : Said). operand scope) (saids ks))
    answers_find [] = tt
    answers_find (k ∷ ks) = (k.1 origins scope is, answers_find ks)

    list_finds : (ks : List Known) (of : List Expr → Checked Expr) → ((es : List Expr) → AllByRecursion (Finds tables) es → IfOk (of es) (Finds tables)) → IfOk (all_of (saids ks) scope >>= of) (Finds tables)
    list_finds ks of keeps =
        ok_after (AllByRecursion (Finds tables)) (Finds tables) (all_of (saids ks) scope) of (ok_list (Finds tables) (map (λ (operand : Said). operand scope) (saids ks)) (answers_find ks)) keeps

    call_finds : (f : Func) (es : List Expr) → AllByRecursion (Finds tables) es → IfOk (called f es) (Finds tables)
    call_finds f es h = by (takes f (length es))
      where
        by : (b : Bool) → IfOk (if b then Ok (expr.Call f es) else wrong_kind) (Finds tables)
        by true = of_operands (Expr-F.Call f es) _ tables es (expr.rolls-Call f es) refl h
        by false = tt

    exists_finds : (source : SynSource) (a : Known) → IfOk (exists_said schema source (said a) scope) (Finds tables)
    exists_finds source a =
        ok_then (Finds tables) (table_said schema source.table)
        (λ (table : TableId). said a (scope_within scope (name_or source.table source.alias) table) >>= λ (e : Expr). Ok (expr.Exists false (record { table = table; alias = source.alias }) e))
        (λ table.
        let origin : Origin = record { table = table; alias = source.alias } in
        let name : List ℕ = name_or source.table source.alias in
        let longer : List Origin = origins ++ origin ∷ [] in
        ok_after (Finds (tables_in longer)) (Finds tables) (said a (scope_within scope name table)) (λ (e : Expr). Ok (expr.Exists false origin e)) (a.1 longer (scope_within scope name table) (within_among mapped origins scope name origin is))
        (λ e h. of_level (Expr-F.Exists false origin e) _ tables (expr.rolls-Exists false origin e)
        (and_from (finds_columns schema e (tables ++ table ∷ [])) true (subst (λ (found : Scope). Finds found e) (map-append table_of origins (origin ∷ [])) h) refl)))

    level_finds : (y : Syn-F Known) → IfOk (said_level mapped (map-Syn Syn Said (expression_said mapped) (bare y)) scope) (Finds tables)
    level_finds (Syn-F.Lit v) = of_level (Expr-F.Lit v) _ tables (expr.rolls-Lit v) refl
    level_finds (Syn-F.Path owner name) = path_finds origins scope owner name is
    level_finds Syn-F.CountAll = of_level Expr-F.CountAll _ tables expr.rolls-CountAll refl
    level_finds (Syn-F.Call f ks) = list_finds ks (called f) (call_finds f)
    level_finds (Syn-F.Exists source a) = exists_finds source a
    level_finds (Syn-F.Compare op a b) = two_find a b (λ e f. expr.Compare op e f) (λ e f h g. of_operands (Expr-F.Compare op e f) _ tables (e ∷ f ∷ []) (expr.rolls-Compare op e f) refl (h, (g, tt)))
    level_finds (Syn-F.IsNull n a) = one_finds a (λ e. expr.IsNull n e) (λ e h. of_operands (Expr-F.IsNull n e) _ tables (e ∷ []) (expr.rolls-IsNull n e) refl (h, tt))
    level_finds (Syn-F.Like n a b) = two_find a b (λ e f. expr.Like n e f) (λ e f h g. of_operands (Expr-F.Like n e f) _ tables (e ∷ f ∷ []) (expr.rolls-Like n e f) refl (h, (g, tt)))
    level_finds (Syn-F.Ilike n a b) = two_find a b (λ e f. expr.Ilike n e f) (λ e f h g. of_operands (Expr-F.Ilike n e f) _ tables (e ∷ f ∷ []) (expr.rolls-Ilike n e f) refl (h, (g, tt)))
    level_finds (Syn-F.InList n a vs) = one_finds a (λ e. expr.InList n e vs) (λ e h. of_operands (Expr-F.InList n e vs) _ tables (e ∷ []) (expr.rolls-InList n e vs) refl (h, tt))
    level_finds (Syn-F.Between n a low high) =
        three_find a low high (λ e f g. expr.Between n e f g) (λ e f g h i j. of_operands (Expr-F.Between n e f g) _ tables (e ∷ f ∷ g ∷ []) (expr.rolls-Between n e f g) refl (h, (i, (j, tt))))
    level_finds (Syn-F.Distinct n a b) = two_find a b (λ e f. expr.Distinct n e f) (λ e f h g. of_operands (Expr-F.Distinct n e f) _ tables (e ∷ f ∷ []) (expr.rolls-Distinct n e f) refl (h, (g, tt)))
    level_finds (Syn-F.And ks) = list_finds ks (λ es. Ok (expr.And es)) (λ es h. and_finds tables es h)
    level_finds (Syn-F.Or ks) = list_finds ks (λ es. Ok (expr.Or es)) (λ es h. of_operands (Expr-F.Or es) _ tables es (expr.rolls-Or es) refl h)
    level_finds (Syn-F.Not a) = one_finds a (λ e. expr.Not e) (λ e h. of_operands (Expr-F.Not e) _ tables (e ∷ []) (expr.rolls-Not e) refl (h, tt))
    level_finds (Syn-F.Arith op a b) = two_find a b (λ e f. expr.Arith op e f) (λ e f h g. of_operands (Expr-F.Arith op e f) _ tables (e ∷ f ∷ []) (expr.rolls-Arith op e f) refl (h, (g, tt)))
    level_finds (Syn-F.Concat a b) = two_find a b (λ e f. expr.Concat e f) (λ e f h g. of_operands (Expr-F.Concat e f) _ tables (e ∷ f ∷ []) (expr.rolls-Concat e f) refl (h, (g, tt)))
    level_finds (Syn-F.Neg a) = one_finds a (λ e. expr.Neg e) (λ e h. of_operands (Expr-F.Neg e) _ tables (e ∷ []) (expr.rolls-Neg e) refl (h, tt))

  -- ---- the whole

  step : (y : Syn-F Known) → Claim (roll-Syn (bare y))
  unfolding expression_said
  step y origins scope is =
      subst (λ (told : Said). IfOk (told scope) (Finds (tables_in origins))) (sym (fold-roll-Syn Said (said_level mapped) (bare y))) (level_finds origins scope is y)

  -- what an expression says finds its columns where the classes in scope stand among the sources
  pub said_finds : (e : Syn) → Claim e
  said_finds = by_levels Claim step
