-- The rows of a query that a line says are known by the tables.
use Rattle.std.proofs.Common.{◌≡◌, ℕ, ◌≤◌, ◌<◌, Bool, true, false, not, ◌&&◌, if◌then◌else◌, nat_lt, List, [], ◌∷◌, ◌++◌, length, map, Option, None, Some, Ok, Err, IfOk, refl, sym, ap, subst, ◌∙◌, arith}
use Rattle.std.specs.Prelude.{slice_get}
use Rattle.std.specs.Option.{option_and_then, option_to_list}
use Rattle.std.specs.List.{AllByRecursion, flat_map, list_all}
use Rattle.std.proofs.lemmas.Bool.{and_parts, lt-ltb}
use Rattle.std.proofs.lemmas.List.{length-map, map-append}
use Rattle.std.proofs.lemmas.List.Elements.{All-from_recursion}
use Rattle.std.proofs.lemmas.Option.{slice_get_within}
use Rattle.base_core.proofs.Lists.{every_append}
use Rattle.base_core.specs.Answers.{Gives}
use Rattle.base_core.specs.declared.ids.ClassId.{ClassId}
use Rattle.base_core.specs.declared.ids.ColumnNo.{ColumnNo}
use Rattle.base_core.specs.declared.ids.RelNo.{RelNo}
use Rattle.base_core.specs.declared.ids.TableId.{TableId}
use Rattle.base_core.specs.declared.refusal.RequestKind.TheVariants.{DuplicateFrom, NotGrouped}
use Rattle.schema_core.specs.declared.table.ColumnSpec.{ColumnSpec}
use Rattle.schema_core.specs.Catalog.{Catalog, same_name, spec_of}
use Rattle.expr_types.specs.Normal.{normal}
use Rattle.expr_types.specs.NormalSelect.{normal_join, normal_select, normal_where}
use Rattle.expr_types.specs.declared.expr.Expr.{Expr}
use Rattle.expr_types.specs.declared.expr.Expr.TheOpen.{Expr-F}
use Rattle.expr_types.specs.declared.expr.Expr.TheVariants as expr
use Rattle.expr_types.specs.declared.expr.Origin.{Origin}
use Rattle.expr_types.specs.declared.select.Joined.{Joined}
use Rattle.expr_types.specs.declared.select.ObjectQuery.{ObjectQuery}
use Rattle.expr_types.specs.declared.select.Select.{Select}
use Rattle.sql_semantics.specs.Checked.{Checked, ◌>>=◌}
use Rattle.sql_semantics.specs.Kinds.{Scope, column_in}
use Rattle.sql_semantics.specs.Plain.{IfSet, and_having, is_grouped, is_well_grouped, lacks_aggregate, outputs, sources_of}
use Rattle.sql_semantics.specs.Shapes.{scope_of as tables_of_select}
use Rattle.sql_semantics.proofs.Equations.{enter, settled_rolled}
use Rattle.class_mapping.specs.Mapped.{IsClass, Mapped, class_spec, relations_of, root_table}
use Rattle.class_mapping.specs.Related.{AreRelated}
use Rattle.class_mapping.proofs.Having.{Has, has_map}
use Rattle.mapping_laws.specs.Hierarchies.{HasHierarchies}
use Rattle.mapping_laws.proofs.Ties.{class_tables}
use Rattle.load_columns.specs.declared.placing.SourceColumn.{SourceColumn}
use Rattle.load_columns.specs.Conditions.{all_of, column_of, conjoined}
use Rattle.load_columns.specs.Placing.{attribute_column, attribute_columns, from_root}
use Rattle.load_selects.specs.Branches.{is_of_branch}
use Rattle.load_selects.specs.declared.sources.Further.{Further}
use Rattle.load_selects.specs.Selects.{inner_joined, item_of, origin_of}
use Rattle.load_selects.specs.Sources.{other_tables}
use Rattle.collection_selects.proofs.ClassLemmas.{all_tied, placed_before}
use Rattle.collection_selects.proofs.Placed.{StandsAt, attributes_there, branch_parts}
use Rattle.collection_selects.proofs.Plain.{AreTied, IsColumn, IsPart, all_stand, all_whole}
use Rattle.collection_selects.proofs.Standing.{and_stands}
use Rattle.known_queries.specs.Known.{BeginsWith, FindsColumns, ReadsJoined, finds_column, finds_columns}
use Rattle.known_queries.proofs.Attributes.{some_attribute}
use Rattle.known_queries.proofs.Found.{fits_finds}
use Rattle.load_queries.specs.Queries.{ReadsObjects}
use Rattle.select_laws.proofs.KeptFolds.{at_columns, every_keeps, every_step, is_column, kept}
use Rattle.script_types.specs.declared.expression.Syn.{Syn}
use Rattle.script_types.specs.declared.select.SynQuery.{SynQuery}
use Rattle.script_names.specs.Faults.{fault_if}
use Rattle.script_resolve.specs.Judging.{before_groups, has_names_apart, has_parts_in_place, judged_select, place_faults}
use Rattle.script_resolve.proofs.Parts.{nil_parts}
use Rattle.script_resolve.proofs.PlainSelect.{no_fault}
use Rattle.statement_kinds.specs.Mismatches.{mismatches}
use Rattle.command_names.specs.Attributes.{class_named}
use Rattle.command_names.specs.Terms.{unknown}
use Rattle.query_names.specs.declared.scope.PlacedClass.{PlacedClass}
use Rattle.query_names.specs.declared.scope.QueryScope.{QueryScope}
use Rattle.query_names.specs.declared.sources.QuerySources.{QuerySources}
use Rattle.query_names.specs.Expressions.{expression_said}
use Rattle.query_names.specs.Judging.{limit_faults, query_faults}
use Rattle.query_names.specs.Queries.{AreRelations, Parts, conditions, filter_said, judged_query, key_said, named_query, named_under, normal_query, option_said, options_said, order_said, parts_said, query_of, resolved_query, rest_said, written_select}
use Rattle.query_names.specs.Sources.{class_alone, relation_named, scope_of, with_joins}
use Rattle.query_names.proofs.Answered.{ok_after, ok_each, ok_list, ok_pair, ok_unless, relation_there}
use Rattle.query_names.proofs.Finding.{Finds, IsAmong, and_finds, said_finds, tables_in}
use Rattle.query_names.proofs.Meant.{class_is}
use Rattle.query_names.proofs.Placed.{ArePlaced, StandsAmong, all_placed, counted, origins_of}
use Rattle.query_names.proofs.Selectable.{Begins, alone_begins, joins_begin, origins_stay, query_reads}
use Rattle.query_names.proofs.Standing.{joined_exist, selectin_exist}

-- ---- normal forms

-- every level but a column finds its columns
finds_elsewhere : (schema : Catalog) (scope : Scope) (level : Expr-F (Scope → Bool)) → is_column level ≡ false → finds_column schema scope level ≡ true
finds_elsewhere schema scope (Expr-F.Column source column) other = absurd cc
finds_elsewhere schema scope level other = refl

-- the normal form finds the columns that the expression finds
finds_kept : (schema : Catalog) (scope : Scope) (e : Expr) → finds_columns schema (normal e) scope ≡ finds_columns schema e scope
unfolding finds_columns
finds_kept schema scope e = ap (λ (f : Scope → Bool). f scope) (kept (Scope → Bool) (every_step enter (finds_column schema)) (every_keeps Scope enter (finds_column schema) (at_columns Scope (finds_column schema) (finds_elsewhere schema))) e)

-- conditions of joins are in normal form
conjoined_normal : (schema : Catalog) (sources : List Origin) (es : List Expr) → 1 ≤ length es → AllByRecursion (IsPart schema sources) es → normal (conjoined es) ≡ conjoined es
conjoined_normal schema sources [] some parts = absurd (omega (arith, some))
conjoined_normal schema sources (e ∷ []) some parts = parts.0.stands.in_normal_form
conjoined_normal schema sources (e ∷ d ∷ es) some parts =
    let all : List Expr = e ∷ d ∷ es in
    (and_stands schema sources all (omega arith) (all_stand schema sources all parts) (all_whole schema sources all parts)).in_normal_form

joins_stay : (schema : Catalog) (before : List Origin) (further : List Further) → AreTied schema before further → map normal_join (map inner_joined further) ≡ map inner_joined further
joins_stay schema before [] tied = refl
joins_stay schema before (one ∷ further) tied =
    ap (λ (e : Expr). (record (inner_joined one) { on = e }) ∷ map normal_join (map inner_joined further)) (conjoined_normal schema (before ++ origin_of one.table ∷ []) one.on tied.0 tied.1)
    ∙ ap (λ (joins : List Joined). inner_joined one ∷ joins) (joins_stay schema (before ++ origin_of one.table ∷ []) further tied.2)

-- ---- groups

different : false ≡ true → ⊥
different h = cc

-- a column of a grouped query's own sources stands outside its groups
column_loose : (own source : ℕ) (column : ColumnNo) → nat_lt source own ≡ true → is_well_grouped true [] own (expr.Column source column) ≡ false
column_loose own source column less =
    ap (is_well_grouped true [] own) (sym (expr.rolls-Column source column)) ∙ settled_rolled own (Expr-F.Column source column) ∙ ap (λ (b : Bool). not b && true && true) less

loose : (grouped : Bool) (own : ℕ) (column : SourceColumn) (es : List Expr) → nat_lt column.source own ≡ true → list_all (is_well_grouped grouped [] own) (column_of column ∷ es) ≡ true → grouped ≡ false
loose false own column es less h = refl
loose true own column es less h =
    absurd (different (sym (column_loose own column.source column.column less) ∙ (and_parts (is_well_grouped true [] own (column_of column)) (list_all (is_well_grouped true [] own) es) h).0))

-- so a query of columns has no groups
first_loose : (grouped : Bool) (own : ℕ) (columns : List SourceColumn) (es : List Expr) (column : SourceColumn) → Has columns column → AllByRecursion (λ (one : SourceColumn). nat_lt one.source own ≡ true) columns
    → list_all (is_well_grouped grouped [] own) (map (λ (item : Expr × Option (List ℕ)). item.0) (map item_of columns) ++ es) ≡ true → grouped ≡ false
first_loose grouped own [] es column there less h = absurd there
first_loose grouped own (one ∷ columns) es column there less h = loose grouped own one (map (λ (item : Expr × Option (List ℕ)). item.0) (map item_of columns) ++ es) less.0 h

source_within : (schema : Catalog) (scope : Scope) (source : ℕ) (column : ColumnNo) (spec : ColumnSpec) → column_in schema scope source column ≡ Some spec → nat_lt source (length scope) ≡ true
source_within schema scope source column spec h = by (slice_get scope source) refl h
  where
    by : (o : Option TableId) → slice_get scope source ≡ o → option_and_then (λ (table : TableId). slice_get (spec_of schema table).columns column.0) o ≡ Some spec → nat_lt source (length scope) ≡ true
    by None is e = absurd cc
    by (Some table) is e = lt-ltb source (length scope) (slice_get_within scope source table is)

all_within : (schema : Catalog) (sources : List Origin) (columns : List SourceColumn) → AllByRecursion (IsColumn schema sources) columns → AllByRecursion (λ (one : SourceColumn). nat_lt one.source (length sources) ≡ true) columns
all_within schema sources [] h = tt
all_within schema sources (one ∷ columns) h =
    let table_of : Origin → TableId = λ origin. origin.table in (
      ap (nat_lt one.source) (sym (length-map sources table_of)) ∙ source_within schema (map table_of sources) one.source one.column h.0.1.spec h.0.1.is,
      all_within schema sources columns h.1,
    )

-- ---- answers

ok_both : {A : Type 0} (P Q : A → Type 0) (told : Checked A) → IfOk told P → IfOk told Q → IfOk told (λ a. P a × Q a)
ok_both P Q (Ok a) h g = (h, g)
ok_both P Q (Err e) h g = tt

-- the options of a query are relationships of its class, and its rows are known by the tables
abbrev pub IsReadable : Mapped → ObjectQuery → Type 0
IsReadable mapped query = ReadsJoined mapped query × AreRelations mapped query.class query.selectin

module _ (mapped : Mapped) (has : HasHierarchies mapped) (relations : AreRelated mapped) where
  abbrev schema : Catalog
  schema = mapped.schema

  abbrev Finding : Scope → Expr → Type 0
  Finding = Finds mapped has

  abbrev KeysFind : Scope → List (Expr × Bool) → Type 0
  KeysFind tables = AllByRecursion (λ (key : Expr × Bool). Finding tables key.0)

  abbrev AreThere : ClassId → List (Bool × RelNo) → Type 0
  AreThere class = AllByRecursion (λ (option : Bool × RelNo). option.1.0 < length (relations_of mapped class))

  -- ---- the parts

  module _ (class : ClassId) (sources : QuerySources) (placed : ArePlaced mapped class sources) where
    abbrev origins : List Origin
    origins = origins_of mapped class sources

    abbrev tables : Scope
    tables = tables_in origins

    abbrev scope : QueryScope
    scope = scope_of sources

    among : IsAmong mapped origins scope
    among = record { classes = placed; inner = tt; long = sym (counted mapped class sources) }

    abbrev IsFilter : Option Expr → Type 0
    IsFilter = IfSet (Finding tables)

    filter_finds : (filter : Option Syn) → IfOk (filter_said mapped scope filter) IsFilter
    filter_finds None = tt
    filter_finds (Some e) = ok_after (Finding tables) IsFilter (expression_said mapped e scope) (λ (e : Expr). Ok (Some e)) (said_finds mapped has e origins scope among) (λ e h. h)

    key_finds : (key : Syn × Bool) → IfOk (key_said mapped scope key) (λ (key : Expr × Bool). Finding tables key.0)
    key_finds key =
        ok_after (Finding tables) (λ (key : Expr × Bool). Finding tables key.0) (expression_said mapped key.0 scope) (λ (e : Expr). Ok (e, key.1)) (said_finds mapped has key.0 origins scope among) (λ e h. h)

    keys_find : (keys : List (Syn × Bool)) → AllByRecursion (λ (answer : Checked (Expr × Bool)). IfOk answer (λ (key : Expr × Bool). Finding tables key.0)) (map (key_said mapped scope) keys)
    keys_find [] = tt
    keys_find (key ∷ keys) = (key_finds key, keys_find keys)

    option_there : (option : Bool × List ℕ × List ℕ) → IfOk (option_said mapped class option) (λ (option : Bool × RelNo). option.1.0 < length (relations_of mapped class))
    option_there option =
        ok_after There (λ (option : Bool × RelNo). There option.1) (if same_name (class_spec mapped class).name option.1 then relation_named mapped class option.2 else unknown option.1)
        (λ (place : RelNo). Ok (option.0, place)) (by (same_name (class_spec mapped class).name option.1)) (λ place less. less)
      where
        There : RelNo → Type 0
        There place = place.0 < length (relations_of mapped class)

        by : (b : Bool) → IfOk (if b then relation_named mapped class option.2 else unknown option.1) There
        by true = relation_there mapped class option.2
        by false = tt

    options_there : (options : List (Bool × List ℕ × List ℕ))
        → AllByRecursion (λ (answer : Checked (Bool × RelNo)). IfOk answer (λ (option : Bool × RelNo). option.1.0 < length (relations_of mapped class))) (map (option_said mapped class) options)
    options_there [] = tt
    options_there (option ∷ options) = (option_there option, options_there options)

    abbrev IsRest : List (Expr × Bool) × List (Bool × RelNo) → Type 0
    IsRest rest = KeysFind tables rest.0 × AreThere class rest.1

    abbrev AreParts : Parts → Type 0
    AreParts parts = IsFilter parts.0 × IsRest parts.1

    parts_find : (written : SynQuery) → IfOk (parts_said mapped class scope written) AreParts
    parts_find written =
        ok_pair IsFilter IsRest (filter_said mapped scope written.filter) (rest_said mapped class scope written) (filter_finds written.filter)
        (ok_pair (KeysFind tables) (AreThere class) (order_said mapped scope written.order) (options_said mapped class written.options)
        (ok_list (λ (key : Expr × Bool). Finding tables key.0) (map (key_said mapped scope) written.order) (keys_find written.order))
        (ok_list (λ (option : Bool × RelNo). option.1.0 < length (relations_of mapped class)) (map (option_said mapped class) written.options) (options_there written.options)))

    -- ---- conditions

    parts_fit : (es : List Expr) → AllByRecursion (IsPart schema origins) es → AllByRecursion (Finding tables) es
    parts_fit [] h = tt
    parts_fit (e ∷ es) h = (fits_finds schema e tables h.0.stands.fitting, parts_fit es h.1)

    branches_find : (classes : List PlacedClass) → AllByRecursion (StandsAmong mapped origins) classes
        → AllByRecursion (Finding tables) (flat_map (λ (placed : PlacedClass). is_of_branch mapped placed.class placed.placement) classes)
    branches_find [] h = tt
    branches_find (one ∷ classes) h =
        every_append (Finding tables) (is_of_branch mapped one.class one.placement) (flat_map (λ (placed : PlacedClass). is_of_branch mapped placed.class placed.placement) classes)
        (parts_fit (is_of_branch mapped one.class one.placement) (branch_parts mapped one.class has h.0.declared (class_tables mapped one.class has h.0.declared) one.placement origins h.0.stands))
        (branches_find classes h.1)

    listed : (filter : Option Expr) → IsFilter filter → AllByRecursion (Finding tables) (option_to_list filter)
    listed None h = tt
    listed (Some e) h = (h, tt)

    together : (es : List Expr) → AllByRecursion (Finding tables) es → IsFilter (all_of es)
    together [] h = tt
    together (e ∷ []) h = h.0
    together (e ∷ d ∷ es) h = and_finds mapped has tables (e ∷ d ∷ es) h

    filter_normal : (filter : Option Expr) → IsFilter filter → IsFilter (normal_where filter)
    filter_normal None h = tt
    filter_normal (Some e) h = finds_kept schema tables e ∙ h

    order_normal : (order : List (Expr × Bool)) → KeysFind tables order → KeysFind tables (map (λ (key : Expr × Bool). (normal key.0, key.1)) order)
    order_normal [] h = tt
    order_normal (key ∷ order) h = (finds_kept schema tables key.0 ∙ h.0, order_normal order h.1)

    -- ---- the query

    module _ (less : IsClass mapped class) (begun : Begins mapped class sources) (written : SynQuery) (parts : Parts) (h : AreParts parts) where
      abbrev whole : ObjectQuery
      whole = query_of mapped class sources written parts

      abbrev n : Select
      n = normal_select (written_select mapped class sources written parts)

      reads : ReadsObjects mapped class n
      reads = query_reads mapped has class sources written parts begun less

      sources_stay : sources_of n ≡ origins
      sources_stay = ap (λ (more : List Origin). origin_of (root_table mapped class) ∷ more) (origins_stay (map inner_joined sources.further))

      scope_stays : tables_of_select n ≡ tables
      scope_stays = ap tables_in sources_stay

      finds : FindsColumns schema n
      finds = record {
        filter =
            subst (λ (found : Scope). IfSet (λ (e : Expr). finds_columns schema e found ≡ true) n.filter) (sym scope_stays)
            (filter_normal (all_of (conditions mapped parts.0 sources.classes))
            (together (conditions mapped parts.0 sources.classes)
            (every_append (Finding tables) (option_to_list parts.0) (flat_map (λ (placed : PlacedClass). is_of_branch mapped placed.class placed.placement) sources.classes) (listed parts.0 h.0) (branches_find sources.classes placed))));
        order = subst (λ (found : Scope). AllByRecursion (λ (key : Expr × Bool). finds_columns schema key.0 found ≡ true) n.order) (sym scope_stays) (order_normal parts.1.0 h.1.0);
      }

      begins : BeginsWith mapped class n
      begins =
          let other : List Further = other_tables mapped class (from_root 0) in
          let more : List Joined = map normal_join (map inner_joined begun.more) in
          record {
            more = more;
            first = refl;
            joins =
                ap (λ (all : List Further). map normal_join (map inner_joined all)) begun.is ∙ ap (map normal_join) (map-append inner_joined other begun.more)
                ∙ map-append normal_join (map inner_joined other) (map inner_joined begun.more)
                ∙ ap (λ (joins : List Joined). joins ++ more) (joins_stay schema (origin_of (root_table mapped class) ∷ []) other (all_tied mapped class has less (class_tables mapped class has less)));
          }

      -- the attributes of the class stand among its sources
      inside : AllByRecursion (λ (one : SourceColumn). nat_lt one.source (length (sources_of n)) ≡ true) (attribute_columns mapped class (from_root 0))
      inside =
          let known = class_tables mapped class has less in
          let stands : StandsAt mapped class (from_root 0) (sources_of n) = subst (StandsAt mapped class (from_root 0)) (sym reads.sources) (placed_before mapped class has less known reads.more) in
          all_within schema (sources_of n) (attribute_columns mapped class (from_root 0)) (attributes_there mapped class has less known (from_root 0) (sources_of n) stands)

      single : query_faults mapped whole ≡ [] → is_grouped n ≡ false
      unfolding place_faults
      single none =
          let judged = nil_parts (judged_select schema whole.select) (limit_faults mapped whole) none in
          let places = nil_parts (mismatches schema whole.select) (place_faults schema n) judged.0 in
          let grouping = nil_parts (fault_if (not (has_parts_in_place n)) NotGrouped) (fault_if (not (has_names_apart schema n)) DuplicateFrom) places.1 in
          let well : Bool = list_all (is_well_grouped (is_grouped n) n.groups (length (sources_of n))) (and_having n.having (outputs n)) in
          let both = and_parts (list_all lacks_aggregate (before_groups n)) well (no_fault (has_parts_in_place n) NotGrouped grouping.0) in
          let keys : List Expr = map (λ (key : Expr × Bool). key.0) n.order in
          let own = some_attribute mapped class has less in
          first_loose (is_grouped n) (length (sources_of n)) (attribute_columns mapped class (from_root 0)) keys (attribute_column mapped class (from_root 0) own.0) (has_map (attribute_column mapped class (from_root 0)) _ own.0 own.1) inside
          (subst (λ (items : List (Expr × Option (List ℕ))). list_all (is_well_grouped (is_grouped n) [] (length (sources_of n))) (map (λ (item : Expr × Option (List ℕ)). item.0) items ++ keys) ≡ true) reads.items both.1)

      query_known : query_faults mapped whole ≡ [] → IsReadable mapped (normal_query whole)
      query_known none =
          let options = All-from_recursion (λ (option : Bool × RelNo). option.1.0 < length (relations_of mapped class)) parts.1.1 h.1.1 in (
            record {
              own = record { class = less; begins = begins; reads = reads.items; single = single none };
              places = joined_exist mapped class parts.1.1 options;
              finds = finds;
            },
            selectin_exist mapped class parts.1.1 options,
          )

  -- ---- the whole

  abbrev Known : ObjectQuery → Type 0
  Known query = query_faults mapped query ≡ [] → IsReadable mapped (normal_query query)

  under_known : (written : SynQuery) (class : ClassId) (sources : QuerySources) → IsClass mapped class → ArePlaced mapped class sources × Begins mapped class sources → IfOk (named_under mapped written class sources) Known
  under_known written class sources less both =
      ok_after (AreParts class sources both.0) Known (parts_said mapped class (scope_of sources) written) (λ (parts : Parts). Ok (query_of mapped class sources written parts)) (parts_find class sources both.0 written)
      (λ parts h. query_known class sources both.0 less both.1 written parts h)

  class_known : (written : SynQuery) (class : ClassId) → IsClass mapped class → IfOk (with_joins mapped (class_alone mapped class) written.joins >>= named_under mapped written class) Known
  class_known written class less =
      let told : Checked QuerySources = with_joins mapped (class_alone mapped class) written.joins in
      ok_after (λ (sources : QuerySources). ArePlaced mapped class sources × Begins mapped class sources) Known told (named_under mapped written class)
      (ok_both (ArePlaced mapped class) (Begins mapped class) told (all_placed mapped has relations class written.joins less) (joins_begin mapped class written.joins (class_alone mapped class) (alone_begins mapped class)))
      (λ sources both. under_known written class sources less both)

  named_known : (written : SynQuery) → IfOk (named_query mapped written) Known
  named_known written =
      ok_after (IsClass mapped) Known (class_named mapped written.class) (λ (class : ClassId). (with_joins mapped (class_alone mapped class) written.joins >>= named_under mapped written class))
      (ok_each (IsClass mapped) (class_named mapped written.class) (class_is mapped written.class)) (class_known written)

  -- the rows of a query that is resolved are known by the tables
  pub resolved_known : (written : SynQuery) → IfOk (resolved_query mapped written) (IsReadable mapped)
  unfolding resolved_query
  resolved_known written =
      ok_after Known (IsReadable mapped) (named_query mapped written) (judged_query mapped) (named_known written)
      (λ query known. ok_unless (IsReadable mapped) (query_faults mapped query) (normal_query query) known)

  -- so are those of one that a call resolves
  pub readable : (written : SynQuery) (r : Checked ObjectQuery) → Gives (λ (query : ObjectQuery). query) r (resolved_query mapped written) → IfOk r (ReadsJoined mapped)
  readable written (Ok query) told = let known : IsReadable mapped query = subst (λ (r : Checked ObjectQuery). IfOk r (IsReadable mapped)) told (resolved_known written) in known.0
  readable written (Err e) told = tt
