-- Selects with further left joins and columns: where these stand, the select with its condition and order under its sources is plain.
use Rattle.std.proofs.Common.{◌≡◌, ℕ, ◌+◌, ◌-◌, ◌<◌, ◌^◌, Bool, true, false, not, ◌&&◌, ◌||◌, nat_lt, List, [], ◌∷◌, ◌++◌, length, map, Option, None, Some, refl, sym, ap, subst, ◌∙◌, arith, append_assoc, append-nil, length-append}
use Rattle.std.specs.Prelude.{is_ok, is_some, slice_get}
use Rattle.std.specs.Option.{option_and_then, option_map}
use Rattle.std.specs.List.{AllByRecursion, flat_map, list_all, list_any}
use Rattle.std.proofs.lemmas.Bool.{and_parts, lt-ltb}
use Rattle.std.proofs.lemmas.List.{length-map, map-append}
use Rattle.std.proofs.lemmas.List.Folds.{list_all-append, list_any-append}
use Rattle.base_core.proofs.Lists.{every_append}
use Rattle.base_core.specs.declared.ids.ColumnNo.{ColumnNo}
use Rattle.base_core.specs.declared.ids.TableId.{TableId}
use Rattle.schema_core.specs.declared.table.ColumnSpec.{ColumnSpec}
use Rattle.schema_core.specs.Catalog.{Catalog, has_name, kind_of, same_name, spec_of}
use Rattle.expr_types.specs.declared.expr.Origin.{Origin}
use Rattle.expr_types.specs.declared.expr.Expr.{Expr}
use Rattle.expr_types.specs.declared.select.Joined.{Joined}
use Rattle.expr_types.specs.declared.select.Select.{Select}
use Rattle.expr_types.specs.Level.{has_aggregate}
use Rattle.sql_semantics.specs.Kinds.{Scope, column_in}
use Rattle.sql_semantics.specs.Plain.{AreJoined, IfSet, IsCondition, IsFilter, IsPlainSelect, StandsIn, and_having, are_distinct, is_declared, is_grouped, is_limit, is_well_grouped, lacks_aggregate, name_of, outputs, sources_of}
use Rattle.sql_semantics.proofs.Equations.{fits-Column}
use Rattle.class_mapping.proofs.Having.{true_false}
use Rattle.class_mapping.proofs.LineLemmas.{got_still}
use Rattle.mapping_laws.proofs.Tables.{turned}
use Rattle.load_columns.specs.declared.placing.SourceColumn.{SourceColumn}
use Rattle.load_columns.specs.Conditions.{column_of, conjoined}
use Rattle.load_selects.specs.declared.sources.Further.{Further}
use Rattle.load_selects.specs.Selects.{item_of}
use Rattle.collection_selects.proofs.Plain.{IsColumn}
use Rattle.collection_selects.proofs.Standing.{column_stands}
use Rattle.collection_selects.proofs.Pairs.Led.{was_false}
use Rattle.main_selects.specs.MainSelect.{left_joined, with_items, with_left_join, with_shifted}
use Rattle.main_selects.specs.Shifted.{shifted}
use Rattle.joined_rows.proofs.Widening.{count_sources}
use Rattle.alias_names.specs.Names.{exists_names, filter_names, taken_names}
use Rattle.loading_laws.proofs.MainSelects.Aliases.{alias_is_free}
use Rattle.loading_laws.proofs.Wide.Levels.{aggregates_stay}
use Rattle.loading_laws.proofs.Wide.Selected.{is_absent, was_neither}
use Rattle.loading_laws.proofs.MainSelects.Scopes.{are_free}
use Rattle.loading_laws.proofs.MainSelects.Stands.{filter_wide, lacking_settled, stands_wide}

abbrev Names : Type 0
Names = List (List ℕ)

abbrev Items : Type 0
Items = List (Expr × Option (List ℕ))

abbrev pub origins_of : List Joined → List Origin
origins_of joins = map (λ join. join.origin) joins

-- the names of the sources of the `exists` of its condition and order
abbrev pub inner_names : Catalog → Select → Names
inner_names schema s = filter_names schema s.filter ++ flat_map (λ key. exists_names schema key.0) s.order

-- ---- names

name_apart : (names : Names) (more name : List ℕ) → has_name names name ≡ false → same_name name more ≡ false → has_name (names ++ more ∷ []) name ≡ false
name_apart names more name none other =
    list_any-append (λ one. same_name one name) names (more ∷ []) ∙ ap (λ (b : Bool). b || (same_name more name || false)) none ∙ ap (λ (b : Bool). b || false) (turned name more other)

distinct_more : (names : Names) (more : List ℕ) → are_distinct names ≡ true → has_name names more ≡ false → are_distinct (names ++ more ∷ []) ≡ true
distinct_more [] more apart none = refl
distinct_more (name ∷ names) more apart none =
    let parts = and_parts (not (has_name names name)) (are_distinct names) apart in
    let both = was_neither (same_name name more) (has_name names more) none in
    ap (λ (b : Bool). not b && are_distinct (names ++ more ∷ [])) (name_apart names more name (was_false (has_name names name) parts.0) both.0) ∙ distinct_more names more parts.1 both.1

free_more : (extra names : Names) (more : List ℕ) → are_free extra names ≡ true → has_name names more ≡ false → are_free (extra ++ more ∷ []) names ≡ true
free_more extra [] more free none = refl
free_more extra (name ∷ names) more free none =
    let parts = and_parts (not (has_name extra name)) (are_free extra names) free in
    let both = was_neither (same_name name more) (has_name names more) none in
    ap (λ (b : Bool). not b && are_free (extra ++ more ∷ []) names) (name_apart extra more name (was_false (has_name extra name) parts.0) both.0) ∙ free_more extra names more parts.1 both.1

free_of_none : (names : Names) → are_free [] names ≡ true
free_of_none [] = refl
free_of_none (name ∷ names) = free_of_none names

-- ---- joins, columns

joined_all : (schema : Catalog) (before : List Origin) (joins more : List Joined) → AreJoined schema before joins → AreJoined schema (before ++ origins_of joins) more → AreJoined schema before (joins ++ more)
joined_all schema before [] more h g = subst (λ (sources : List Origin). AreJoined schema sources more) (append-nil before) g
joined_all schema before (join ∷ joins) more h g =
    (h.0, h.1, joined_all schema (before ++ join.origin ∷ []) joins more h.2 (subst (λ (sources : List Origin). AreJoined schema sources more) (sym (append_assoc before (join.origin ∷ []) (origins_of joins))) g))

column_still : (schema : Catalog) (scope more : Scope) (source : ℕ) (column : ColumnNo) (spec : ColumnSpec) → column_in schema scope source column ≡ Some spec → column_in schema (scope ++ more) source column ≡ Some spec
column_still schema scope more source column spec h = by (slice_get scope source) refl h
  where
    at : TableId → Option ColumnSpec
    at table = slice_get (spec_of schema table).columns column.0

    by : (found : Option TableId) → slice_get scope source ≡ found → option_and_then at found ≡ Some spec → option_and_then at (slice_get (scope ++ more) source) ≡ Some spec
    by None is e = absurd cc
    by (Some table) is e = ap (option_and_then at) (got_still scope more source table is) ∙ e

pub column_more : (schema : Catalog) (sources more : List Origin) (column : SourceColumn) → IsColumn schema sources column → IsColumn schema (sources ++ more) column
column_more schema sources more column h =
    let table_of : Origin → TableId = λ origin. origin.table in (
      h.0,
      record {
        spec = h.1.spec;
        is =
            ap (λ (scope : Scope). column_in schema scope column.source column.column) (map-append table_of sources more)
            ∙ column_still schema (map table_of sources) (map table_of more) column.source column.column h.1.spec h.1.is;
        alike = h.1.alike;
      },
    )

pub columns_more : (schema : Catalog) (sources more : List Origin) (columns : List SourceColumn) → AllByRecursion (IsColumn schema sources) columns → AllByRecursion (IsColumn schema (sources ++ more)) columns
columns_more schema sources more [] h = tt
columns_more schema sources more (column ∷ columns) h = (column_more schema sources more column h.0, columns_more schema sources more columns h.1)

-- an item that stands is a column of its source
column_there : (schema : Catalog) (sources : List Origin) (column : SourceColumn) → StandsIn schema sources (column_of column) → IsColumn schema sources column
column_there schema sources column h = by (column_in schema scope column.source column.column) refl (sym (fits-Column schema scope column.source column.column) ∙ h.fitting)
  where
    scope : Scope
    scope = map (λ origin. origin.table) sources

    by : (found : Option ColumnSpec) → column_in schema scope column.source column.column ≡ found → (is_some found && true) ≡ true → IsColumn schema sources column
    by None is e = absurd cc
    by (Some spec) is e = (kind_of spec.kind, record { spec = spec; is = is; alike = refl })

columns_there : (schema : Catalog) (sources : List Origin) (columns : List SourceColumn) → AllByRecursion (λ (item : Expr × Option (List ℕ)). StandsIn schema sources item.0) (map item_of columns) → AllByRecursion (IsColumn schema sources) columns
columns_there schema sources [] h = tt
columns_there schema sources (column ∷ columns) h = (column_there schema sources column h.0, columns_there schema sources columns h.1)

columns_stand : (schema : Catalog) (sources : List Origin) (columns : List SourceColumn) → AllByRecursion (IsColumn schema sources) columns → AllByRecursion (λ (item : Expr × Option (List ℕ)). StandsIn schema sources item.0) (map item_of columns)
columns_stand schema sources [] h = tt
columns_stand schema sources (column ∷ columns) h =
    let stands = column_stands schema sources column.source column.column h.0.0 h.0.1 in
    (record { fitting = stands.fitting; typed = ap is_ok stands.typed; in_normal_form = stands.in_normal_form; full_lists = stands.full_lists; apart = stands.apart }, columns_stand schema sources columns h.1)

columns_lack : (schema : Catalog) (sources : List Origin) (columns : List SourceColumn) → AllByRecursion (IsColumn schema sources) columns → list_any has_aggregate (map (λ (item : Expr × Option (List ℕ)). item.0) (map item_of columns)) ≡ false
columns_lack schema sources [] h = refl
columns_lack schema sources (column ∷ columns) h =
    ap (λ (b : Bool). b || list_any has_aggregate (map (λ (item : Expr × Option (List ℕ)). item.0) (map item_of columns))) (column_stands schema sources column.source column.column h.0.0 h.0.1).no_aggregate
    ∙ columns_lack schema sources columns h.1

-- ---- a select with further joins and columns

pub record IsGrown (schema : Catalog) (s wide : Select) : Type 0 where
  pub joins : List Joined
  pub columns : List SourceColumn
  pub is : wide ≡ record s { items = s.items ++ map item_of columns; joins = s.joins ++ joins }
  pub known : list_all (is_declared schema) (origins_of joins) ≡ true
  pub distinct : are_distinct (map (name_of schema) (sources_of wide)) ≡ true
  pub free : are_free (map (name_of schema) (origins_of joins)) (inner_names schema s) ≡ true
  pub tied : AreJoined schema (sources_of s) joins
  pub there : AllByRecursion (IsColumn schema (sources_of wide)) columns

pub grown_itself : (schema : Catalog) (s : Select) → are_distinct (map (name_of schema) (sources_of s)) ≡ true → IsGrown schema s s
grown_itself schema s distinct = record {
  joins = [];
  columns = [];
  is = ap (λ (items : Items). record s { items = items }) (sym (append-nil s.items)) ∙ ap (λ (joins : List Joined). record s { items = s.items ++ []; joins = joins }) (sym (append-nil s.joins));
  known = refl;
  distinct = distinct;
  free = free_of_none (inner_names schema s);
  tied = tt;
  there = tt;
}

pub grown_sources : (schema : Catalog) (s wide : Select) (grown : IsGrown schema s wide) → sources_of wide ≡ sources_of s ++ origins_of grown.joins
grown_sources schema s wide grown = ap sources_of grown.is ∙ ap (λ (origins : List Origin). s.first ∷ origins) (map-append (λ (join : Joined). join.origin) s.joins grown.joins)

pub with_join : (schema : Catalog) (s wide : Select) (further : Further) → IsGrown schema s wide → further.table.0 < length schema.tables
    → IsFilter schema (sources_of wide ++ (left_joined schema wide further).origin ∷ []) (conjoined further.on) → length (taken_names schema wide) + 1 < 2 ^ 64 → IsGrown schema s (with_left_join schema wide further)
with_join schema s wide further grown within on few =
    let join : Joined = left_joined schema wide further in
    let origin : Origin = join.origin in
    let alias : List ℕ = name_of schema origin in
    let name_in : Origin → List ℕ = name_of schema in
    let tables : Names = map (λ table. table.name) schema.tables in
    let own : Names = map name_in (sources_of wide) in
    let fresh : has_name (tables ++ (own ++ inner_names schema wide)) alias ≡ false = alias_is_free (taken_names schema wide) (spec_of schema further.table).name few in
    let test : List ℕ → Bool = λ other. same_name other alias in
    let behind = (was_neither (has_name tables alias) (has_name (own ++ inner_names schema wide) alias) (sym (list_any-append test tables (own ++ inner_names schema wide)) ∙ fresh)).1 in
    let both = was_neither (has_name own alias) (has_name (inner_names schema wide) alias) (sym (list_any-append test own (inner_names schema wide)) ∙ behind) in
    let inner : has_name (inner_names schema s) alias ≡ false = ap (λ (x : Select). has_name (inner_names schema x) alias) (sym grown.is) ∙ both.1 in
    let from : sources_of (with_left_join schema wide further) ≡ sources_of wide ++ origin ∷ [] = ap (λ (origins : List Origin). wide.first ∷ origins) (map-append (λ (one : Joined). one.origin) wide.joins (join ∷ [])) in
    let added : origins_of (grown.joins ++ join ∷ []) ≡ origins_of grown.joins ++ origin ∷ [] = map-append (λ (one : Joined). one.origin) grown.joins (join ∷ []) in
    let under : IsFilter schema ((sources_of s ++ origins_of grown.joins) ++ origin ∷ []) (conjoined further.on) =
    subst (λ (sources : List Origin). IsFilter schema (sources ++ origin ∷ []) (conjoined further.on)) (grown_sources schema s wide grown) on in
    record {
      joins = grown.joins ++ join ∷ [];
      columns = grown.columns;
      is =
          ap (λ (x : Select). record x { joins = x.joins ++ join ∷ [] }) grown.is
          ∙ ap (λ (joins : List Joined). record s { items = s.items ++ map item_of grown.columns; joins = joins }) (append_assoc s.joins grown.joins (join ∷ []));
      known =
          ap (list_all (is_declared schema)) added ∙ list_all-append (is_declared schema) (origins_of grown.joins) (origin ∷ [])
          ∙ ap (λ (b : Bool). b && (is_declared schema origin && true)) grown.known ∙ ap (λ (b : Bool). b && true) (lt-ltb further.table.0 (length schema.tables) within);
      distinct = ap (λ (sources : List Origin). are_distinct (map name_in sources)) from ∙ ap are_distinct (map-append name_in (sources_of wide) (origin ∷ [])) ∙ distinct_more own alias grown.distinct both.0;
      free =
          ap (λ (origins : List Origin). are_free (map name_in origins) (inner_names schema s)) added
          ∙ ap (λ (names : Names). are_free names (inner_names schema s)) (map-append name_in (origins_of grown.joins) (origin ∷ []))
          ∙ free_more (map name_in (origins_of grown.joins)) (inner_names schema s) alias grown.free inner;
      tied = joined_all schema (sources_of s) grown.joins (join ∷ []) grown.tied (under.condition, under.no_aggregate, tt);
      there = subst (λ (sources : List Origin). AllByRecursion (IsColumn schema sources) grown.columns) (sym from) (columns_more schema (sources_of wide) (origin ∷ []) grown.columns grown.there);
    }

pub with_columns : (schema : Catalog) (s wide : Select) (columns : List SourceColumn) → IsGrown schema s wide → AllByRecursion (IsColumn schema (sources_of wide)) columns → IsGrown schema s (with_items wide columns)
with_columns schema s wide columns grown there = record {
  joins = grown.joins;
  columns = grown.columns ++ columns;
  is =
      ap (λ (x : Select). record x { items = x.items ++ map item_of columns }) grown.is
      ∙ ap (λ (items : Items). record s { items = items; joins = s.joins ++ grown.joins })
      (append_assoc s.items (map item_of grown.columns) (map item_of columns) ∙ ap (λ (items : Items). s.items ++ items) (sym (map-append item_of grown.columns columns)));
  known = grown.known;
  distinct = grown.distinct;
  free = grown.free;
  tied = grown.tied;
  there = every_append (IsColumn schema (sources_of wide)) grown.columns columns grown.there there;
}

-- ---- it is plain

is_empty : {A : Type 0} (xs : List A) → nat_lt 0 (length xs) ≡ false → xs ≡ []
is_empty [] h = refl
is_empty (x ∷ xs) h = let some : 0 < length (x ∷ xs) = omega arith in true_false (nat_lt 0 (length (x ∷ xs))) (lt-ltb 0 (length (x ∷ xs)) some) h

all_settled : (own : ℕ) (es : List Expr) → list_any has_aggregate es ≡ false → list_all (is_well_grouped false [] own) es ≡ true
all_settled own [] h = refl
all_settled own (e ∷ es) h =
    let both = was_neither (has_aggregate e) (list_any has_aggregate es) h in
    ap (λ (b : Bool). b && list_all (is_well_grouped false [] own) es) (lacking_settled own e both.0) ∙ all_settled own es both.1

module _ (schema : Catalog) (s wide : Select) (own : List SourceColumn) (reads : s.items ≡ map item_of own) (plain : IsPlainSelect schema s) (single : is_grouped s ≡ false) (grown : IsGrown schema s wide) where
  abbrev first : List Origin
  first = sources_of s

  abbrev more : List Origin
  more = origins_of grown.joins

  abbrev extra : Names
  extra = map (name_of schema) more

  abbrev sh : Expr → Expr
  sh = shifted (length first) (length more)

  abbrev moved_order : List (Expr × Bool) → List (Expr × Bool)
  moved_order order = map (λ (key : Expr × Bool). (sh key.0, key.1)) order

  abbrev under : ℕ → ℕ → Select
  under n m = record wide { filter = option_map (shifted n m) s.filter; order = map (λ (key : Expr × Bool). (shifted n m key.0, key.1)) s.order }

  abbrev made : Select
  made = under (length first) (length more)

  sources : sources_of wide ≡ first ++ more
  sources = grown_sources schema s wide grown

  counted : length wide.joins - length s.joins ≡ length more
  counted =
      let joined = ap (λ (x : Select). length x.joins) grown.is ∙ length-append s.joins grown.joins in
      let long = length-map grown.joins (λ (join : Joined). join.origin) in
      omega (arith, joined, long)

  made_is : with_shifted s wide ≡ made
  made_is = ap (λ (n : ℕ). under n (length wide.joins - length s.joins)) (sym (count_sources s)) ∙ ap (under (length first)) counted

  -- without groups
  groupless : (s.groups ≡ []) × (s.having ≡ None) × (list_any has_aggregate (outputs s) ≡ false)
  groupless =
      let one = was_neither (nat_lt 0 (length s.groups) || is_some s.having) (list_any has_aggregate (outputs s)) single in
      let two = was_neither (nat_lt 0 (length s.groups)) (is_some s.having) one.0 in
      (is_empty s.groups two.0, is_absent s.having two.1, one.1)

  no_groups : wide.groups ≡ []
  no_groups = ap (λ (x : Select). x.groups) grown.is ∙ groupless.0

  no_having : wide.having ≡ None
  no_having = ap (λ (x : Select). x.having) grown.is ∙ groupless.1

  -- its items
  columns : AllByRecursion (IsColumn schema (sources_of wide)) (own ++ grown.columns)
  columns =
      let stand : AllByRecursion (λ (item : Expr × Option (List ℕ)). StandsIn schema first item.0) (map item_of own) = subst (AllByRecursion (λ (item : Expr × Option (List ℕ)). StandsIn schema first item.0)) reads plain.items_stand in
      every_append (IsColumn schema (sources_of wide)) own grown.columns
      (subst (λ (under : List Origin). AllByRecursion (IsColumn schema under) own) (sym sources) (columns_more schema first more own (columns_there schema first own stand))) grown.there

  items : wide.items ≡ map item_of (own ++ grown.columns)
  items = ap (λ (x : Select). x.items) grown.is ∙ ap (λ (items : Items). items ++ map item_of grown.columns) reads ∙ sym (map-append item_of own grown.columns)

  -- its names
  parts_free : (are_free extra (filter_names schema s.filter) ≡ true) × (are_free extra (flat_map (λ (key : Expr × Bool). exists_names schema key.0) s.order) ≡ true)
  parts_free =
      let behind : Names = flat_map (λ (key : Expr × Bool). exists_names schema key.0) s.order in
      and_parts (are_free extra (filter_names schema s.filter)) (are_free extra behind) (sym (list_all-append (λ name. not (has_name extra name)) (filter_names schema s.filter) behind) ∙ grown.free)

  filter_by : (filter : Option Expr) → are_free extra (filter_names schema filter) ≡ true → IfSet (IsFilter schema first) filter → IfSet (IsFilter schema (first ++ more)) (option_map sh filter)
  filter_by None free h = tt
  filter_by (Some e) free h = filter_wide schema first more e free h

  order_by : (order : List (Expr × Bool)) → are_free extra (flat_map (λ (key : Expr × Bool). exists_names schema key.0) order) ≡ true → AllByRecursion (λ (key : Expr × Bool). StandsIn schema first key.0) order
      → AllByRecursion (λ (key : Expr × Bool). StandsIn schema (first ++ more) key.0) (moved_order order)
  order_by [] free h = tt
  order_by (key ∷ order) free h =
      let behind : Names = flat_map (λ (key : Expr × Bool). exists_names schema key.0) order in
      let parts = and_parts (are_free extra (exists_names schema key.0)) (are_free extra behind) (sym (list_all-append (λ name. not (has_name extra name)) (exists_names schema key.0) behind) ∙ free) in
      (stands_wide schema first more key.0 parts.0 h.0, order_by order parts.1 h.1)

  order_lacks : (order : List (Expr × Bool)) → list_any has_aggregate (map (λ (key : Expr × Bool). key.0) order) ≡ false → list_any has_aggregate (map (λ (key : Expr × Bool). key.0) (moved_order order)) ≡ false
  order_lacks [] h = refl
  order_lacks (key ∷ order) h =
      let both = was_neither (has_aggregate key.0) (list_any has_aggregate (map (λ (key : Expr × Bool). key.0) order)) h in
      ap (λ (b : Bool). b || list_any has_aggregate (map (λ (key : Expr × Bool). key.0) (moved_order order))) (aggregates_stay (length first) (length more) key.0 ∙ both.0) ∙ order_lacks order both.1

  abbrev shown : Expr × Option (List ℕ) → Expr
  shown item = item.0

  outputs_lack : list_any has_aggregate (outputs made) ≡ false
  outputs_lack =
      let keys : List Expr = map (λ (key : Expr × Bool). key.0) (moved_order s.order) in
      let told = was_neither (list_any has_aggregate (map shown s.items)) (list_any has_aggregate (map (λ (key : Expr × Bool). key.0) s.order))
      (sym (list_any-append has_aggregate (map shown s.items) (map (λ (key : Expr × Bool). key.0) s.order)) ∙ groupless.2) in
      list_any-append has_aggregate (map shown wide.items) keys
      ∙ ap (λ (b : Bool). b || list_any has_aggregate keys) (ap (λ (items : Items). list_any has_aggregate (map shown items)) items ∙ columns_lack schema (sources_of wide) (own ++ grown.columns) columns)
      ∙ order_lacks s.order told.1

  made_single : is_grouped made ≡ false
  made_single =
      ap (λ (groups : List Expr). nat_lt 0 (length groups) || is_some wide.having || list_any has_aggregate (outputs made)) no_groups
      ∙ ap (λ (having : Option Expr). is_some having || list_any has_aggregate (outputs made)) no_having ∙ outputs_lack

  -- the select is plain under all its sources
  pub grown_plain : IsPlainSelect schema (with_shifted s wide)
  grown_plain =
      let from = sym sources in
      subst (IsPlainSelect schema) (sym made_is)
      (record {
        declared_tables =
            ap (list_all (is_declared schema)) sources ∙ list_all-append (is_declared schema) first more ∙ ap (λ (b : Bool). b && list_all (is_declared schema) more) plain.declared_tables ∙ grown.known;
        distinct_names = grown.distinct;
        items_stand = subst (AllByRecursion (λ (item : Expr × Option (List ℕ)). StandsIn schema (sources_of wide) item.0)) (sym items) (columns_stand schema (sources_of wide) (own ++ grown.columns) columns);
        joins_stand = subst (λ (x : Select). AreJoined schema (x.first ∷ []) x.joins) (sym grown.is) (joined_all schema (s.first ∷ []) s.joins grown.joins plain.joins_stand grown.tied);
        filter_stands = subst (λ (under : List Origin). IfSet (IsFilter schema under) (option_map sh s.filter)) from (filter_by s.filter parts_free.0 plain.filter_stands);
        groups_stand = subst (AllByRecursion (StandsIn schema (sources_of wide))) (sym no_groups) tt;
        groups_plain = ap (list_all lacks_aggregate) no_groups;
        having_stands = subst (IfSet (IsCondition schema (sources_of wide))) (sym no_having) tt;
        order_stands = subst (λ (under : List Origin). AllByRecursion (λ (key : Expr × Bool). StandsIn schema under key.0) (moved_order s.order)) from (order_by s.order parts_free.1 plain.order_stands);
        grouped_columns =
            ap (λ (g : Bool). list_all (is_well_grouped g wide.groups (length (sources_of wide))) (and_having wide.having (outputs made))) made_single
            ∙ ap (λ (groups : List Expr). list_all (is_well_grouped false groups (length (sources_of wide))) (and_having wide.having (outputs made))) no_groups
            ∙ ap (λ (having : Option Expr). list_all (is_well_grouped false [] (length (sources_of wide))) (and_having having (outputs made))) no_having ∙ all_settled (length (sources_of wide)) (outputs made) outputs_lack;
        fits_limit = ap (λ (x : Select). is_limit x.limit) grown.is ∙ plain.fits_limit;
        fits_offset = ap (λ (x : Select). is_limit x.offset) grown.is ∙ plain.fits_offset;
      })
