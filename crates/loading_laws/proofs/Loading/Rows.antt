-- The select of a class's rows has an answer where all tables are created, and a main select is plain.
use Rattle.std.proofs.Common.{◌≡◌, ℕ, ◌+◌, Bool, true, false, List, [], ◌∷◌, ◌++◌, map, Option, None, Some, Ok, Err, if◌then◌else◌, is_some, refl, sym, ap, subst, ◌∙◌}
use Rattle.std.specs.List.{AllByRecursion}
use Rattle.std.proofs.lemmas.List.{map-append}
use Rattle.base_core.specs.declared.ids.ClassId.{ClassId}
use Rattle.base_core.specs.declared.ids.TableId.{TableId}
use Rattle.base_core.specs.declared.refusal.Refusal.TheVariants.{OperationalError}
use Rattle.base_core.specs.declared.value.Value.{Value}
use Rattle.schema_core.specs.Catalog.{Catalog}
use Rattle.expr_types.specs.declared.expr.Expr.{Expr}
use Rattle.expr_types.specs.declared.expr.Origin.{Origin}
use Rattle.expr_types.specs.declared.select.Joined.{Joined}
use Rattle.expr_types.specs.declared.select.ObjectQuery.{ObjectQuery}
use Rattle.expr_types.specs.declared.select.Select.{Select}
use Rattle.sql_semantics.specs.Checked.{Checked, ◌>>=◌}
use Rattle.sql_semantics.specs.Created.{bare}
use Rattle.sql_semantics.specs.Eval.{Place, Row, Tables, all_from, column, meaning_of, rows_in}
use Rattle.sql_semantics.specs.Plain.{IsPlainSelect, is_grouped}
use Rattle.sql_semantics.specs.Rows.{Frame, answer, answer_rows, at, at_basis, condition, each_from, group_bases, groups_having, joined_all, joined_row, kept_from, keys_from, mapped_from, of_rows, or_nulls, output, require_created, rows_of_join, rows_where, sources, tables_of, values, wider, width}
use Rattle.sql_semantics.specs.Shapes.{AreLegalRows, AreRows}
use Rattle.sql_semantics.specs.Truth.{all3, passes, truth_of, value_of}
use Rattle.sql_semantics.specs.declared.basis.Basis.{Basis}
use Rattle.sql_semantics.specs.declared.basis.Basis.TheVariants as basis
use Rattle.class_mapping.specs.Mapped.{IsClass, Mapped, class_spec, root_table}
use Rattle.mapping_laws.specs.Hierarchies.{HasHierarchies}
use Rattle.mapping_laws.proofs.Ties.{class_tables}
use Rattle.select_rows.proofs.Declared.{AreTables, select_tables}
use Rattle.load_columns.specs.declared.placing.SourceColumn.{SourceColumn}
use Rattle.load_columns.specs.Conditions.{all_of, conjoined, equal_columns}
use Rattle.load_columns.specs.Placing.{attribute_columns, from_root}
use Rattle.load_selects.specs.declared.sources.Further.{Further}
use Rattle.load_selects.specs.Branches.{discriminator_column, discriminator_of, identities, is_of_branch, names_branch}
use Rattle.load_selects.specs.Selects.{class_rows, inner_joined, item_of, origin_of, select_of}
use Rattle.load_selects.specs.Sources.{other_tables}
use Rattle.collection_selects.proofs.ClassLemmas.{rows_plain, sources_are}
use Rattle.main_selects.specs.MainSelect.{main_select}
use Rattle.load_queries.specs.Queries.{ReadsObjects}
use Rattle.load_calls.specs.Reading.{World}
use Rattle.table_laws.proofs.HeldRows.{fitting_rows, legal_rows}
use Rattle.loading_laws.specs.Answers.Answers.{AreRowsOf}
use Rattle.loading_laws.proofs.Answers.Values.{all_value, column_value}
use Rattle.loading_laws.proofs.Members.Choices.{Tie, joined_where}
use Rattle.loading_laws.proofs.Members.Owned.{others_tied, own_ties}
use Rattle.loading_laws.proofs.Wide.Conditions.{IsTotal, equalities_total, in_total}
use Rattle.loading_laws.proofs.MainSelects.Main.{main_is_plain}
use Rattle.loading_laws.specs.Loading.Loadable.{AreCreated, IsLoadable, rows_of, rows_or_none}

-- ---- steps that have answers

-- it is answered, not refused
abbrev HasValue : {A : Type 0} → Checked A → Type 0
HasValue {A} told = (a : A) × (told ≡ Ok a)

answered_then : {A B : Type 0} (told : Checked A) (next : A → Checked B) → HasValue told → ((a : A) → HasValue (next a)) → HasValue (told >>= next)
answered_then told next one more = let rest = more one.0 in (rest.0, ap (λ r. r >>= next) one.1 ∙ rest.1)

kept_answered : {A : Type 0} (test : A → Checked Value) → ((x : A) → HasValue (test x)) → (done xs : List A) → HasValue (kept_from test done xs)
kept_answered test total done [] = (done, refl)
kept_answered test total done (x ∷ xs) =
    answered_then (test x) (λ v. kept_from test (if passes v then done ++ x ∷ [] else done) xs) (total x) (λ v. kept_answered test total (if passes v then done ++ x ∷ [] else done) xs)

each_answered : {A B : Type 0} (f : A → Checked (List B)) → ((x : A) → HasValue (f x)) → (done : List B) (xs : List A) → HasValue (each_from f done xs)
each_answered f total done [] = (done, refl)
each_answered f total done (x ∷ xs) = answered_then (f x) (λ ys. each_from f (done ++ ys) xs) (total x) (λ ys. each_answered f total (done ++ ys) xs)

mapped_answered : {A B : Type 0} (f : A → Checked B) → ((x : A) → HasValue (f x)) → (done : List B) (xs : List A) → HasValue (mapped_from f done xs)
mapped_answered f total done [] = (done, refl)
mapped_answered f total done (x ∷ xs) = answered_then (f x) (λ y. mapped_from f (done ++ y ∷ []) xs) (total x) (λ y. mapped_answered f total (done ++ y ∷ []) xs)

-- ---- conditions

values_answered : (p : Place) (es : List Expr) → AllByRecursion IsTotal es → (done : List Value) → HasValue (all_from p done (map meaning_of es))
values_answered p [] total done = (done, refl)
values_answered p (e ∷ es) total done = answered_then (meaning_of e p) (λ v. all_from p (done ++ v ∷ []) (map meaning_of es)) (total.0 p) (λ v. values_answered p es total.1 (done ++ v ∷ []))

together : (es : List Expr) → AllByRecursion IsTotal es → IsTotal (conjoined es)
together [] total p = (value_of (all3 []), all_value [] [] p refl)
together (e ∷ []) total p = total.0 p
together (e ∷ d ∷ es) total p = let told = values_answered p (e ∷ d ∷ es) total [] in (value_of (all3 (map truth_of told.0)), all_value (e ∷ d ∷ es) told.0 p told.1)

where_answered : (f : Frame) (es : List Expr) → AllByRecursion IsTotal es → (rows : List Row) → HasValue (rows_where f (all_of es) rows)
where_answered f [] total rows = (rows, refl)
where_answered f (e ∷ []) total rows = kept_answered (condition f e) (λ row. total.0 (at f row)) [] rows
where_answered f (e ∷ d ∷ es) total rows = kept_answered (condition f (conjoined (e ∷ d ∷ es))) (λ row. together (e ∷ d ∷ es) total (at f row)) [] rows

-- ---- sources

join_answered : (schema : Catalog) (f : Frame) (tie : Tie) (rows : List Row) → HasValue (rows_of_join schema f (inner_joined (joined_where tie)) rows)
join_answered schema f tie rows =
    let join : Joined = inner_joined (joined_where tie) in
    let n : ℕ = width schema join.origin in
    each_answered (joined_row f join n)
    (λ row.
    answered_then (kept_from (condition f join.on) [] (map (λ x. row ++ x) (rows_in f.tables tie.table.0))) (λ found. Ok (or_nulls false row n found))
    (kept_answered (condition f join.on) (λ r. together (equal_columns tie.ones tie.others) (equalities_total tie.ones tie.others) (at f r)) [] (map (λ x. row ++ x) (rows_in f.tables tie.table.0)))
    (λ found. (or_nulls false row n found, refl)))
    [] rows

joins_answered : (schema : Catalog) (ties : List Tie) (f : Frame) (n : ℕ) (rows : List Row) → HasValue (joined_all schema f n (map inner_joined (map joined_where ties)) rows)
joins_answered schema [] f n rows = ((f, rows), refl)
joins_answered schema (tie ∷ ties) f n rows =
    let join : Joined = inner_joined (joined_where tie) in
    answered_then (rows_of_join schema (wider f n) join rows) (λ more. joined_all schema (wider f n) (n + width schema join.origin) (map inner_joined (map joined_where ties)) more)
    (join_answered schema (wider f n) tie rows) (λ more. joins_answered schema ties (wider f n) (n + width schema join.origin) more)

-- ---- items

items_answered : (p : Place) (columns : List SourceColumn) (done : List Value) → HasValue (all_from p done (map (λ (i : Expr × Option (List ℕ)). meaning_of i.0) (map item_of columns)))
items_answered p [] done = (done, refl)
items_answered p (c ∷ columns) done =
    answered_then (meaning_of (item_of c).0 p) (λ v. all_from p (done ++ v ∷ []) (map (λ (i : Expr × Option (List ℕ)). meaning_of i.0) (map item_of columns)))
    (column p c.source c.column.0, column_value c.source c.column p) (λ v. items_answered p columns (done ++ v ∷ []))

module _ (first : TableId) (further : List Further) (items : List SourceColumn) (conditions : List Expr) where
  abbrev whole : Select
  whole = select_of first further items conditions

  bases_answered : (f : Frame) (rows : List Row) (b : Bool) → HasValue (if b then group_bases f [] rows else Ok (map (λ r. basis.Row r) rows))
  bases_answered f rows true = (basis.Group rows ∷ [], refl)
  bases_answered f rows false = (map (λ r. basis.Row r) rows, refl)

  output_answered : (f : Frame) (b : Basis) → HasValue (output f whole b)
  output_answered f b =
      answered_then (values (at_basis f b) whole) (λ row. keys_from (at_basis f b) [] [] >>= λ keys. Ok (keys, row)) (items_answered (at_basis f b) items []) (λ row. (([], row), refl))

  rows_answered : (f : Frame) (rows : List Row) → HasValue (of_rows f whole rows)
  rows_answered f rows =
      answered_then (if is_grouped whole then group_bases f [] rows else Ok (map (λ r. basis.Row r) rows)) (λ all. groups_having f None all >>= λ left. mapped_from (output f whole) [] left >>= λ outs. Ok (answer_rows whole outs))
      (bases_answered f rows (is_grouped whole))
      (λ all. answered_then (mapped_from (output f whole) [] all) (λ outs. Ok (answer_rows whole outs)) (mapped_answered (output f whole) (output_answered f) [] all) (λ outs. (answer_rows whole outs, refl)))

-- ---- the rows of a class

all_created : (schema : Catalog) (tables : Tables) (numbers : List ℕ) → AreCreated schema tables → AreTables schema numbers → HasValue (require_created tables numbers)
all_created schema tables [] created named = (tt, refl)
all_created schema tables (t ∷ numbers) created named =
    let table : TableId = record { 0 = t } in
    let rest = all_created schema tables numbers created named.1 in
    (rest.0, ap (λ (b : Bool). if b then require_created tables numbers else Err (OperationalError table)) (created table named.0) ∙ rest.1)

branch_total : (mapped : Mapped) (class : ClassId) → AllByRecursion IsTotal (is_of_branch mapped class (from_root 0))
branch_total mapped class = by (is_some (class_spec mapped class).table) (discriminator_of mapped class)
  where
    by : (b : Bool) (name : Option (List ℕ)) → AllByRecursion IsTotal (if b then [] else names_branch mapped class (from_root 0) name)
    by true name = tt
    by false None = tt
    by false (Some name) = (in_total (discriminator_column mapped class (from_root 0) name) (identities mapped class), tt)

-- its select is answered
class_answered : (mapped : Mapped) (class : ClassId) (tables : Tables) → HasHierarchies mapped → IsClass mapped class → AreCreated mapped.schema tables → HasValue (answer mapped.schema tables (class_rows mapped class []))
unfolding answer sources
class_answered mapped class tables has declared created =
    let schema : Catalog = mapped.schema in
    let root : TableId = root_table mapped class in
    let columns : List SourceColumn = attribute_columns mapped class (from_root 0) in
    let branch : List Expr = is_of_branch mapped class (from_root 0) in
    let named = select_tables schema (class_rows mapped class []) (rows_plain mapped class has declared (class_tables mapped class has declared) [] tt) in
    subst (λ (further : List Further). AreTables schema (tables_of (select_of root further columns branch)) → HasValue (answer schema tables (select_of root further columns branch))) (sym (others_tied mapped class)) (by (own_ties mapped class)) named
  where
    by : (ties : List Tie) → AreTables mapped.schema (tables_of (select_of (root_table mapped class) (map joined_where ties) (attribute_columns mapped class (from_root 0)) (is_of_branch mapped class (from_root 0))))
        → HasValue (answer mapped.schema tables (select_of (root_table mapped class) (map joined_where ties) (attribute_columns mapped class (from_root 0)) (is_of_branch mapped class (from_root 0))))
    by ties named =
        let schema : Catalog = mapped.schema in
        let root : TableId = root_table mapped class in
        let columns : List SourceColumn = attribute_columns mapped class (from_root 0) in
        let branch : List Expr = is_of_branch mapped class (from_root 0) in
        let s : Select = select_of root (map joined_where ties) columns branch in
        answered_then (require_created tables (tables_of s)) (λ u. sources schema tables s >>= λ from. rows_where from.0 s.filter from.1 >>= λ rows. of_rows from.0 s rows) (all_created schema tables (tables_of s) created named)
        (λ u.
        answered_then (sources schema tables s) (λ from. rows_where from.0 s.filter from.1 >>= λ rows. of_rows from.0 s rows)
        (joins_answered schema ties (record { starts = 0 ∷ []; tables = tables }) (width schema (origin_of root)) (rows_in tables root.0))
        (λ from.
        answered_then (rows_where from.0 s.filter from.1) (λ rows. of_rows from.0 s rows) (where_answered from.0 branch (branch_total mapped class) from.1)
        (λ rows. rows_answered root (map joined_where ties) columns branch from.0 rows)))

-- ---- what a loadable query has

module _ (mapped : Mapped) (query : ObjectQuery) (w : World) (is : IsLoadable mapped query w) where
  -- the rows of each class are those that its select answers
  pub rows_are : (class : ClassId) → IsClass mapped class → AreRowsOf mapped class (bare w.store.tables) (rows_of mapped (bare w.store.tables) class)
  rows_are class declared =
      let told = class_answered mapped class (bare w.store.tables) is.has declared is.created in
      told.1 ∙ ap (λ (r : Checked (List Row)). let rows : Checked (List Row) = Ok (rows_or_none r) in rows) (sym told.1)

  pub held_of : AreRows mapped.schema (bare w.store.tables)
  held_of = fitting_rows mapped.schema w.store.tables is.sound.legal.cells

  pub legal_of : AreLegalRows mapped.schema (bare w.store.tables)
  legal_of = legal_rows mapped.schema w.store.tables is.sound.legal.cells

  -- it reads the objects of its class
  pub reads_of : ReadsObjects mapped query.class query.select
  reads_of =
      let table_of : Joined → Origin = λ join. join.origin in
      record {
        more = map table_of is.begins.more;
        items = is.reads;
        sources =
            ap (λ (first : Origin). first ∷ map table_of query.select.joins) is.begins.first
            ∙ ap (λ (joins : List Joined). origin_of (root_table mapped query.class) ∷ map table_of joins) is.begins.joins
            ∙ ap (λ (origins : List Origin). origin_of (root_table mapped query.class) ∷ origins) (map-append table_of (map inner_joined (other_tables mapped query.class (from_root 0))) is.begins.more)
            ∙ ap (λ (origins : List Origin). origins ++ map table_of is.begins.more) (sources_are mapped query.class is.has is.class (class_tables mapped query.class is.has is.class) [] []);
      }

  -- its main select may be sent
  pub main_of : IsPlainSelect mapped.schema (main_select mapped query)
  main_of = main_is_plain mapped query is.has is.related is.class is.places reads_of is.plain is.single is.few
