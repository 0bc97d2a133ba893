-- The main select of a query answers what its own select answers, each row of its sources in place of one for each of its partners.
use Rattle.std.proofs.Common.{◌≡◌, ℕ, ◌+◌, ◌<◌, arith, Bool, true, false, ◌||◌, if◌then◌else◌, ◌==◌, List, [], ◌∷◌, ◌++◌, length, map, Option, None, Some, Ok, Err, refl, sym, ap, subst, ◌∙◌, append-nil}
use Rattle.std.specs.Prelude.{is_some, nat_lt}
use Rattle.std.specs.Option.{option_map}
use Rattle.std.specs.List.{AllByRecursion, flat_map, list_any}
use Rattle.std.specs.Cmp.Lexicographic.{pointwise}
use Rattle.std.proofs.lemmas.Bool.{and_parts, eqb-true}
use Rattle.std.proofs.lemmas.List.{length-map, map-append}
use Rattle.std.proofs.lemmas.List.Folds.{list_any-append}
use Rattle.base_core.specs.declared.ids.TableId.{TableId}
use Rattle.base_core.specs.declared.value.Value.{Value}
use Rattle.schema_core.specs.declared.table.ColumnSpec.{ColumnSpec}
use Rattle.schema_core.specs.Catalog.{Catalog, spec_of}
use Rattle.schema_core.specs.WellFormed.{is_row, may_hold}
use Rattle.expr_types.specs.declared.expr.Expr.{Expr}
use Rattle.expr_types.specs.declared.expr.Origin.{Origin}
use Rattle.expr_types.specs.declared.select.Joined.{Joined}
use Rattle.expr_types.specs.declared.select.ObjectQuery.{ObjectQuery}
use Rattle.expr_types.specs.declared.select.Select.{Select}
use Rattle.expr_types.specs.Level.{aggregate_level, has_aggregate}
use Rattle.expr_types.proofs.Folds.{fold-Column}
use Rattle.sql_semantics.specs.Checked.{Checked, ◌>>=◌}
use Rattle.sql_semantics.specs.Eval.{Row, Tables, meaning_of, rows_in}
use Rattle.sql_semantics.specs.Kinds.{Scope, column_in}
use Rattle.sql_semantics.specs.Order.{key_of}
use Rattle.sql_semantics.specs.Plain.{IfSet, IsFilter, StandsIn, fits, is_grouped, outputs, sources_of}
use Rattle.sql_semantics.specs.Rows.{answer, keys_from, require_created, sources, tables_of}
use Rattle.sql_semantics.specs.Shapes.{AreRows, scope_of}
use Rattle.sql_semantics.specs.declared.sort_key.SortKey.{SortKey}
use Rattle.sql_semantics.proofs.Equations.{fits-Column}
use Rattle.class_mapping.specs.Mapped.{Mapped}
use Rattle.load_columns.specs.declared.placing.SourceColumn.{SourceColumn}
use Rattle.load_columns.specs.Conditions.{column_of}
use Rattle.load_selects.specs.declared.sources.Further.{Further}
use Rattle.load_selects.specs.Selects.{item_of}
use Rattle.main_selects.specs.MainSelect.{main_select}
use Rattle.main_selects.specs.Shifted.{shifted}
use Rattle.known_queries.specs.Known.{FindsColumns, finds_columns}
use Rattle.known_queries.proofs.Found.{fits_finds}
use Rattle.loading_laws.proofs.Answers.Totals.{map_twice}
use Rattle.loading_laws.specs.Wide.Parts.{cell, cells, place_of, whole}
use Rattle.loading_laws.specs.Wide.Partners.{partners}
use Rattle.loading_laws.specs.Wide.Answers.{AreAnswered, AreOfSources, AreWideIn, CanBeJoined, joined_rows, left_of, options_columns, options_sources, own_columns, table_width}
use Rattle.loading_laws.proofs.Wide.Conditions.{IsColumnIn}
use Rattle.loading_laws.proofs.Wide.Created.{own_created}
use Rattle.loading_laws.proofs.Wide.Forms.{IsMain, main_is, under}
use Rattle.loading_laws.proofs.Wide.Joins.{IsMade, all_made, every_gives, every_map, first_made, join_all, join_append, of_first, sources_are}
use Rattle.loading_laws.proofs.Wide.Kept.{HasAnswer, has_then}
use Rattle.loading_laws.proofs.Wide.Lefts.{AreBehindWide, all_some, flat_alone, left_tables, lefts_multiply, map_alike, partners_wide, with_partners}
use Rattle.loading_laws.proofs.Wide.Levels.{aggregates_stay}
use Rattle.loading_laws.proofs.Wide.Options.{options_total}
use Rattle.loading_laws.proofs.Wide.Ordered.{Keys, items_in_order, order_has}
use Rattle.loading_laws.proofs.Wide.Places.{frame_of, same_cell, wide_long}
use Rattle.loading_laws.proofs.Wide.Selected.{IsCarried, SameWhere, SourceRows, answer_is, keys_at, was_neither, ranked, ranked_have}
use Rattle.loading_laws.proofs.Wide.Wider.{HasWideRows, alike_then, regrouped, wider_same}

-- ---- rows are as wide as their tables

row_long : (columns : List ColumnSpec) (row : Row) → pointwise may_hold columns row ≡ true → length row ≡ length columns
row_long [] [] h = refl
row_long [] (v ∷ row) h = absurd cc
row_long (column ∷ columns) [] h = absurd cc
row_long (column ∷ columns) (v ∷ row) h = let rest = row_long columns row (and_parts (may_hold column v) (pointwise may_hold columns row) h).1 in omega (arith, rest)

all_long : (schema : Catalog) (table : TableId) (rows : List Row) → AllByRecursion (λ row. is_row (spec_of schema table) row ≡ true) rows → AllByRecursion (λ row. length row ≡ table_width schema table) rows
all_long schema table [] h = tt
all_long schema table (row ∷ rows) h = (row_long (spec_of schema table).columns row h.0, all_long schema table rows h.1)

found_by : (schema : Catalog) (one table : TableId) (b : Bool) (rows rest : List Row) → (b ≡ true → one ≡ table) → AllByRecursion (λ row. length row ≡ table_width schema one) rows
    → AllByRecursion (λ row. length row ≡ table_width schema table) rest → AllByRecursion (λ row. length row ≡ table_width schema table) (if b then rows else rest)
found_by schema one table true rows rest same h g = subst (λ (t : TableId). AllByRecursion (λ (row : Row). length row ≡ table_width schema t) rows) (same refl) h
found_by schema one table false rows rest same h g = g

pub rows_wide : (schema : Catalog) (tables : Tables) → AreRows schema tables → HasWideRows schema tables
rows_wide schema [] h table = tt
rows_wide schema (t ∷ tables) h table =
    found_by schema t.0 table (t.0.0 == table.0) t.1 (rows_in tables table.0) (λ e. ap (λ (n : ℕ). record { 0 = n }) (eqb-true t.0.0 table.0 e)) (all_long schema t.0 t.1 h.0) (rows_wide schema tables h.1 table)

-- ---- what stands fits

column_fits : (schema : Catalog) (scope : Scope) (column : SourceColumn) → fits schema (column_of column) scope ≡ true → IsColumnIn schema scope column
column_fits schema scope column h = (and_parts (is_some (column_in schema scope column.source column.column)) true (sym (fits-Column schema scope column.source column.column) ∙ h)).0

items_inside : (schema : Catalog) (sources : List Origin) (columns : List SourceColumn) → AllByRecursion (λ (item : Expr × Option (List ℕ)). StandsIn schema sources item.0) (map item_of columns)
    → AllByRecursion (IsColumnIn schema (map (λ origin. origin.table) sources)) columns
items_inside schema sources [] h = tt
items_inside schema sources (column ∷ columns) h = (column_fits schema (map (λ (origin : Origin). origin.table) sources) column h.0.fitting, items_inside schema sources columns h.1)

column_lacks : (column : SourceColumn) → has_aggregate (column_of column) ≡ false
unfolding has_aggregate
column_lacks column = fold-Column Bool aggregate_level column.source column.column

pub items_lack : (columns : List SourceColumn) → list_any has_aggregate (map (λ (item : Expr × Option (List ℕ)). item.0) (map item_of columns)) ≡ false
items_lack [] = refl
items_lack (column ∷ columns) = ap (λ (b : Bool). b || list_any has_aggregate (map (λ (item : Expr × Option (List ℕ)). item.0) (map item_of columns))) (column_lacks column) ∙ items_lack columns

order_lacks : (own more : ℕ) (order : List (Expr × Bool)) → list_any has_aggregate (map (λ (key : Expr × Bool). key.0) (map (λ (key : Expr × Bool). (shifted own more key.0, key.1)) order)) ≡ list_any has_aggregate (map (λ (key : Expr × Bool). key.0) order)
order_lacks own more [] = refl
order_lacks own more (key ∷ order) =
    ap (λ (b : Bool). b || list_any has_aggregate (map (λ (key : Expr × Bool). key.0) (map (λ (key : Expr × Bool). (shifted own more key.0, key.1)) order))) (aggregates_stay own more key.0)
    ∙ ap (λ (b : Bool). has_aggregate key.0 || b) (order_lacks own more order)

-- a select of columns with further columns and joins has no groups either
under_single : (s : Select) (own columns : List SourceColumn) (joins : List Joined) (n m : ℕ) → s.items ≡ map item_of own → is_grouped s ≡ false → is_grouped (under s joins columns n m) ≡ false
under_single s own columns joins n m reads single =
    let one = was_neither (nat_lt 0 (length s.groups) || is_some s.having) (list_any has_aggregate (outputs s)) single in
    let of : Expr × Option (List ℕ) → Expr = λ item. item.0 in
    let keys : List Expr = map (λ (key : Expr × Bool). key.0) s.order in
    let moved : List Expr = map (λ (key : Expr × Bool). key.0) (map (λ (key : Expr × Bool). (shifted n m key.0, key.1)) s.order) in
    let two = was_neither (list_any has_aggregate (map of s.items)) (list_any has_aggregate keys) (sym (list_any-append has_aggregate (map of s.items) keys) ∙ one.1) in
    ap (λ (b : Bool). b || list_any has_aggregate (map of (s.items ++ map item_of columns) ++ moved)) one.0
    ∙ list_any-append has_aggregate (map of (s.items ++ map item_of columns)) moved
    ∙ ap (λ (es : List Expr). list_any has_aggregate es || list_any has_aggregate moved) (map-append of s.items (map item_of columns))
    ∙ ap (λ (b : Bool). b || list_any has_aggregate moved) (list_any-append has_aggregate (map of s.items) (map of (map item_of columns)))
    ∙ ap (λ (b : Bool). (b || list_any has_aggregate (map of (map item_of columns))) || list_any has_aggregate moved) two.0
    ∙ ap (λ (b : Bool). b || list_any has_aggregate moved) (items_lack columns) ∙ order_lacks n m s.order ∙ two.1

-- ---- conditions and keys under more sources

abbrev Finds : Catalog → Scope → Expr → Type 0
Finds schema scope e = finds_columns schema e scope ≡ true

where_finds : (schema : Catalog) (sources : List Origin) (filter : Option Expr) → IfSet (IsFilter schema sources) filter → IfSet (Finds schema (map (λ origin. origin.table) sources)) filter
where_finds schema sources None h = tt
where_finds schema sources (Some e) h = fits_finds schema e (map (λ (origin : Origin). origin.table) sources) h.condition.stands.fitting

order_finds : (schema : Catalog) (sources : List Origin) (order : List (Expr × Bool)) → AllByRecursion (λ (key : Expr × Bool). StandsIn schema sources key.0) order
    → AllByRecursion (λ (key : Expr × Bool). Finds schema (map (λ origin. origin.table) sources) key.0) order
order_finds schema sources order stands =
    let scope : Scope = map (λ (origin : Origin). origin.table) sources in
    every_gives (λ (key : Expr × Bool). StandsIn schema sources key.0) (λ (key : Expr × Bool). Finds schema scope key.0) (λ key one. fits_finds schema key.0 scope one.fitting) order stands

module _ (schema : Catalog) (tables : Tables) (wide_rows : HasWideRows schema tables) (scope : Scope) (rows others : SourceRows) (wide : AreWideIn schema scope rows) (own more : ℕ) (own_is : length rows ≡ own) (more_is : length others ≡ more) where
  same_at : (e : Expr) → Finds schema scope e → meaning_of (shifted own more e) (place_of tables (rows ++ others)) ≡ meaning_of e (place_of tables rows)
  same_at e fit =
      ap (λ (k : ℕ). meaning_of (shifted k more e) (place_of tables (rows ++ others))) (sym own_is)
      ∙ ap (λ (k : ℕ). meaning_of (shifted (length rows) k e) (place_of tables (rows ++ others))) (sym more_is)
      ∙ ap (λ (l : List Row). meaning_of (shifted (length rows) (length others) e) (place_of tables (rows ++ l))) (sym (append-nil others))
      ∙ wider_same schema tables rows others wide_rows e scope [] (subst (AreWideIn schema scope) (sym (append-nil rows)) wide) fit
      ∙ ap (λ (l : List Row). meaning_of e (place_of tables l)) (append-nil rows)

  same_keys : (order : List (Expr × Bool)) → AllByRecursion (λ (key : Expr × Bool). Finds schema scope key.0) order → (done : List SortKey)
      → keys_from (place_of tables (rows ++ others)) done (map (λ (key : Expr × Bool). (shifted own more key.0, key.1)) order) ≡ keys_from (place_of tables rows) done order
  same_keys [] fit done = refl
  same_keys (key ∷ order) fit done =
      ap (λ (told : Checked Value). told >>= λ v. keys_from (place_of tables (rows ++ others)) (done ++ key_of key.1 v ∷ []) (map (λ (one : Expr × Bool). (shifted own more one.0, one.1)) order)) (same_at key.0 fit.0)
      ∙ alike_then (meaning_of key.0 (place_of tables rows)) _ _ (λ v. same_keys order fit.1 (done ++ key_of key.1 v ∷ []))

  same_where : (filter : Option Expr) → IfSet (Finds schema scope) filter → SameWhere tables (option_map (shifted own more) filter) (rows ++ others) filter rows
  same_where None fit = tt
  same_where (Some e) fit = same_at e fit

pub where_itself : (tables : Tables) (filter : Option Expr) (rows : SourceRows) → SameWhere tables filter rows filter rows
where_itself tables None rows = tt
where_itself tables (Some e) rows = refl

-- ---- cells

cells_stay : (schema : Catalog) (scope : Scope) (own extra : List Row) (columns : List SourceColumn) → AreWideIn schema scope own → AllByRecursion (IsColumnIn schema scope) columns → cells columns (own ++ extra) ≡ cells columns own
cells_stay schema scope own extra [] wide h = refl
cells_stay schema scope own extra (column ∷ columns) wide h =
    ap (λ (v : Value). v ∷ cells columns (own ++ extra)) (same_cell schema scope own extra column.source column.column wide h.0) ∙ ap (λ (l : Row). cell own column ∷ l) (cells_stay schema scope own extra columns wide h.1)

pub flat_where : {A B : Type 0} (P : A → Type 0) (f g : A → List B) → ((x : A) → P x → f x ≡ g x) → (xs : List A) → AllByRecursion P xs → flat_map f xs ≡ flat_map g xs
flat_where P f g same [] h = refl
flat_where {B = B} P f g same (x ∷ xs) h = ap (λ (l : List B). l ++ flat_map f xs) (same x h.0) ∙ ap (λ (l : List B). g x ++ l) (flat_where P f g same xs h.1)

pub flat_singles : {A B : Type 0} (f : A → B) (xs : List A) → flat_map (λ x. f x ∷ []) xs ≡ map f xs
flat_singles f [] = refl
flat_singles {B = B} f (x ∷ xs) = ap (λ (l : List B). f x ∷ l) (flat_singles f xs)

-- ---- the law

-- a query without groups whose own select and main select find their columns, over tables with rows of theirs
pub record HasColumns (mapped : Mapped) (tables : Tables) (query : ObjectQuery) : Type 0 where
  pub reads : query.select.items ≡ map item_of (own_columns mapped query)
  pub single : is_grouped query.select ≡ false
  pub own : AllByRecursion (IsColumnIn mapped.schema (scope_of query.select)) (own_columns mapped query)
  pub finds : FindsColumns mapped.schema query.select
  pub main : AllByRecursion (IsColumnIn mapped.schema (scope_of (main_select mapped query))) (own_columns mapped query ++ options_columns mapped query.class (length (sources_of query.select)) query.joined)
  pub held : AreRows mapped.schema tables
  pub created : require_created tables (tables_of (main_select mapped query)) ≡ Ok tt

-- plain selects do so
pub of_plain : (mapped : Mapped) (tables : Tables) (query : ObjectQuery) → CanBeJoined mapped tables query → HasColumns mapped tables query
of_plain mapped tables query h =
    let schema : Catalog = mapped.schema in
    let s : Select = query.select in
    let main : Select = main_select mapped query in
    let own : List SourceColumn = own_columns mapped query in
    let columns : List SourceColumn = options_columns mapped query.class (length (sources_of s)) query.joined in
    let reads : main.items ≡ map item_of (own ++ columns) =
    ap (λ (one : Select). one.items) (main_is mapped query).is ∙ ap (λ (items : List (Expr × Option (List ℕ))). items ++ map item_of columns) h.reads ∙ sym (map-append item_of own columns) in
    record {
      reads = h.reads;
      single = h.single;
      own = items_inside schema (sources_of s) own (subst (AllByRecursion (λ (item : Expr × Option (List ℕ)). StandsIn schema (sources_of s) item.0)) h.reads h.plain.items_stand);
      finds = record { filter = where_finds schema (sources_of s) s.filter h.plain.filter_stands; order = order_finds schema (sources_of s) s.order h.plain.order_stands };
      main = items_inside schema (sources_of main) (own ++ columns) (subst (AllByRecursion (λ (item : Expr × Option (List ℕ)). StandsIn schema (sources_of main) item.0)) reads h.main.items_stand);
      held = h.held;
      created = h.created;
    }

module _ (mapped : Mapped) (tables : Tables) (query : ObjectQuery) (h : HasColumns mapped tables query) where
  abbrev schema : Catalog
  schema = mapped.schema

  abbrev s : Select
  s = query.select

  abbrev n : ℕ
  n = length (sources_of s)

  abbrev more : List Further
  more = options_sources mapped query.class n query.joined

  abbrev own : List SourceColumn
  own = own_columns mapped query

  abbrev columns : List SourceColumn
  columns = options_columns mapped query.class n query.joined

  abbrev scope : Scope
  scope = scope_of s

  wide_rows : HasWideRows schema tables
  wide_rows = rows_wide schema tables h.held

  form : IsMain mapped query more columns
  form = main_is mapped query

  abbrev main : Select
  main = under s form.joins columns n (length more)

  main_created : require_created tables (tables_of main) ≡ Ok tt
  main_created = sym (ap (λ (one : Select). require_created tables (tables_of one)) form.is) ∙ h.created

  own_inside : AllByRecursion (IsColumnIn schema scope) own
  own_inside = h.own

  main_reads : main.items ≡ map item_of (own ++ columns)
  main_reads = ap (λ (items : List (Expr × Option (List ℕ))). items ++ map item_of columns) h.reads ∙ sym (map-append item_of own columns)

  main_inside : AllByRecursion (IsColumnIn schema (scope_of main)) (own ++ columns)
  main_inside = subst (λ (one : Select). AllByRecursion (IsColumnIn schema (scope_of one)) (own ++ columns)) form.is h.main

  main_scope : scope_of main ≡ scope ++ map (λ further. further.table) more
  main_scope =
      ap (λ (origins : List Origin). s.first.table ∷ map (λ (origin : Origin). origin.table) origins) (map-append (λ (join : Joined). join.origin) s.joins form.joins)
      ∙ ap (λ (l : Scope). s.first.table ∷ l) (map-append (λ (origin : Origin). origin.table) (map (λ (join : Joined). join.origin) s.joins) (map (λ (join : Joined). join.origin) form.joins))
      ∙ ap (λ (l : Scope). scope ++ l) (left_tables form.joins more form.left)

  scope_long : length scope ≡ n
  scope_long = length-map (sources_of s) (λ (origin : Origin). origin.table)

  -- ---- rows of the sources

  abbrev Made : SourceRows → Type 0
  Made = IsMade schema tables wide_rows s.first s.joins

  abbrev told : Checked (List SourceRows)
  told = join_all schema tables s.joins (of_first schema tables wide_rows s.first)

  told_made : HasAnswer (AllByRecursion Made) told
  told_made = all_made schema tables wide_rows s.first [] s.joins (of_first schema tables wide_rows s.first) (first_made schema tables wide_rows s.first)

  abbrev becomes : SourceRows → List SourceRows
  becomes = with_partners schema tables more

  abbrev alone : SourceRows → List SourceRows
  alone rows = rows ∷ []

  one_some : (rows : SourceRows) → 0 < length (alone rows)
  one_some rows = omega arith

  own_sources : sources schema tables s ≡ (told >>= λ all. Ok (frame_of schema tables scope, map whole (flat_map alone all)))
  own_sources = sources_are schema tables wide_rows s ∙ alike_then told _ _ (λ all. ap (λ (l : List SourceRows). Ok (frame_of schema tables scope, map whole l)) (sym (flat_alone all)))

  main_sources : sources schema tables main ≡ (told >>= λ all. Ok (frame_of schema tables (scope_of main), map whole (flat_map becomes all)))
  main_sources =
      sources_are schema tables wide_rows main
      ∙ ap (λ (q : Checked (List SourceRows)). q >>= λ now. Ok (frame_of schema tables (scope_of main), map whole now))
      (join_append schema tables s.joins form.joins (of_first schema tables wide_rows s.first) ∙ alike_then told _ _ (lefts_multiply schema tables form.joins more form.left (options_total mapped query.class n query.joined)))
      ∙ regrouped told (λ all. Ok (flat_map becomes all)) (λ now. Ok (frame_of schema tables (scope_of main), map whole now))

  -- ---- the own select

  abbrev OwnCarried : SourceRows → Type 0
  OwnCarried = IsCarried schema tables s scope own h.reads h.single own_inside s.filter s.order alone one_some

  own_carried : HasAnswer (AllByRecursion OwnCarried) told
  own_carried =
      has_of told (λ rows made. record { wide = (made.wide, tt); passes = (where_itself tables s.filter rows, tt); ranks = (refl, tt) }) told_made
    where
      has_of : (q : Checked (List SourceRows)) → ((rows : SourceRows) → Made rows → OwnCarried rows) → HasAnswer (AllByRecursion Made) q → HasAnswer (AllByRecursion OwnCarried) q
      has_of (Ok all) gives has = every_gives Made OwnCarried gives all has
      has_of (Err e) gives has = tt

  abbrev kept : Checked (List (Keys × SourceRows))
  kept = told >>= ranked tables s.filter s.order

  abbrev own_last : List (Keys × SourceRows) → Checked (List Row)
  own_last outs = Ok (left_of s (flat_map (λ rows. map (cells own) (alone rows)) (items_in_order outs)))

  own_answer : answer schema tables s ≡ (kept >>= own_last)
  own_answer =
      answer_is schema tables s scope own h.reads h.single own_inside s.filter s.order alone one_some (own_created tables s form.joins columns n (length more) main_created) told own_sources own_carried

  -- ---- the main select

  main_single : is_grouped main ≡ false
  main_single = under_single s own columns form.joins n (length more) h.reads h.single

  abbrev MainCarried : SourceRows → Type 0
  MainCarried = IsCarried schema tables main (scope_of main) (own ++ columns) main_reads main_single main_inside s.filter s.order becomes (all_some schema tables more)

  rows_carried : (rows : SourceRows) → Made rows → MainCarried rows
  rows_carried rows made =
      let ps : List (List Row) = partners schema tables more rows in
      let long : length rows ≡ n = wide_long schema scope rows made.wide ∙ scope_long in
      let wide = partners_wide schema tables wide_rows more scope rows made.wide in
      let Behind : List Row → Type 0 = AreBehindWide schema tables wide_rows scope more rows in
      record {
        wide = every_map Behind (AreWideIn schema (scope_of main)) (λ others. rows ++ others) (λ others b. subst (λ (one : Scope). AreWideIn schema one (rows ++ others)) (sym main_scope) b.wide) ps wide;
        passes =
            every_map Behind (λ one. SameWhere tables main.filter one s.filter rows) (λ others. rows ++ others)
            (λ others b. same_where schema tables wide_rows scope rows others made.wide n (length more) long b.long s.filter h.finds.filter) ps wide;
        ranks =
            every_map Behind (λ one. keys_at tables main.order one ≡ keys_at tables s.order rows) (λ others. rows ++ others)
            (λ others b. same_keys schema tables wide_rows scope rows others made.wide n (length more) long b.long s.order h.finds.order []) ps wide;
      }

  main_carried : HasAnswer (AllByRecursion MainCarried) told
  main_carried = has_of told told_made
    where
      has_of : (q : Checked (List SourceRows)) → HasAnswer (AllByRecursion Made) q → HasAnswer (AllByRecursion MainCarried) q
      has_of (Ok all) has = every_gives Made MainCarried rows_carried all has
      has_of (Err e) has = tt

  abbrev main_last : List (Keys × SourceRows) → Checked (List Row)
  main_last outs = Ok (left_of s (flat_map (λ rows. map (cells (own ++ columns)) (becomes rows)) (items_in_order outs)))

  main_answer : answer schema tables (main_select mapped query) ≡ (kept >>= main_last)
  main_answer =
      ap (answer schema tables) form.is
      ∙ answer_is schema tables main (scope_of main) (own ++ columns) main_reads main_single main_inside s.filter s.order becomes (all_some schema tables more) main_created told main_sources main_carried

  -- ---- both

  kept_made : HasAnswer (AllByRecursion (λ (item : Keys × SourceRows). Made item.1)) kept
  kept_made = has_then (AllByRecursion Made) (AllByRecursion (λ (item : Keys × SourceRows). Made item.1)) told (ranked tables s.filter s.order) told_made (λ all has. ranked_have Made tables s.filter s.order all has)

  of_sources : (rows : SourceRows) → Made rows → AreOfSources schema tables s rows
  of_sources rows made = record { wide = made.wide; together = made.together }

  rows_shown : (rows : SourceRows) → Made rows → map (cells (own ++ columns)) (becomes rows) ≡ joined_rows mapped tables query rows
  rows_shown rows made =
      map_twice (cells (own ++ columns)) (λ others. rows ++ others) (partners schema tables more rows)
      ∙ map_alike (λ (others : List Row). cells (own ++ columns) (rows ++ others)) (λ (others : List Row). cells own rows ++ cells columns (rows ++ others))
      (λ others. map-append (cell (rows ++ others)) own columns ∙ ap (λ (l : Row). l ++ cells columns (rows ++ others)) (cells_stay schema scope rows others own made.wide own_inside)) (partners schema tables more rows)

  both : (q : Checked (List (Keys × SourceRows))) → HasAnswer (AllByRecursion (λ (item : Keys × SourceRows). Made item.1)) q → AreAnswered mapped tables query (q >>= own_last) (q >>= main_last)
  both (Ok outs) has =
      let from : List SourceRows = items_in_order outs in
      let made : AllByRecursion Made from = order_has Made outs has in
      record {
        from = from;
        sourced = every_gives Made (AreOfSources schema tables s) of_sources from made;
        owners_are = ap (left_of s) (flat_singles (cells own) from);
        joined_are = ap (left_of s) (flat_where Made (λ rows. map (cells (own ++ columns)) (becomes rows)) (joined_rows mapped tables query) rows_shown from made);
      }
  both (Err e) has = refl

  pub main_multiplies : AreAnswered mapped tables query (answer mapped.schema tables query.select) (answer mapped.schema tables (main_select mapped query))
  main_multiplies =
      subst (λ (told : Checked (List Row)). AreAnswered mapped tables query told (answer schema tables (main_select mapped query))) (sym own_answer)
      (subst (λ (told : Checked (List Row)). AreAnswered mapped tables query (kept >>= own_last) told) (sym main_answer) (both kept kept_made))
