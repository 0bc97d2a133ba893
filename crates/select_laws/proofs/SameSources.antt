-- The joins of a typed select and of its normal form give the same rows, in each of which every column has a fitting value.
use Rattle.std.proofs.Common.{◌≡◌, ℕ, ◌+◌, List, [], ◌∷◌, ◌++◌, length, map, Option, Some, None, Ok, refl, sym, ap, subst, ◌∙◌, arith, length-append, append_assoc, append-nil}
use Rattle.std.proofs.lemmas.List.{map-append}
use Rattle.std.specs.List.{slice_get, AllByRecursion}
use Rattle.base_core.specs.declared.ids.TableId.{TableId}
use Rattle.base_core.specs.declared.value.Kind.{Kind}
use Rattle.schema_core.specs.Catalog.{Catalog, kind_of}
use Rattle.schema_core.specs.WellFormed.{may_hold}
use Rattle.expr_types.specs.declared.expr.Expr.{Expr}
use Rattle.expr_types.specs.declared.expr.Origin.{Origin}
use Rattle.expr_types.specs.declared.select.Joined.{Joined}
use Rattle.expr_types.specs.declared.select.Select.{Select}
use Rattle.expr_types.specs.Normal.{normal}
use Rattle.expr_types.specs.NormalSelect.{normal_join, normal_select}
use Rattle.sql_semantics.specs.Kinds.{Scope}
use Rattle.sql_semantics.specs.Checked.{Checked, ◌>>=◌}
use Rattle.sql_semantics.specs.Eval.{Row, Tables, rows_in}
use Rattle.sql_semantics.specs.Rows.{Frame, at, condition, rows_of_join, joined_all, joined_row, or_nulls, sources, wider, width}
use Rattle.sql_semantics.specs.Shapes.{AreRows, scope_of}
use Rattle.sql_semantics.specs.Typed.{AreTypedJoins, IsTyped, IsTypedFilter}
use Rattle.select_sources.proofs.Columns as columns
use Rattle.select_sources.proofs.Columns.{IsIn, IsOf, first_in, joined_each, joined_sure, rows_of_table, table_of}
use Rattle.select_sources.proofs.Sure.{Sure, bind_sure}
use Rattle.select_rows.proofs.ItemKinds.{held_kind}
use Rattle.select_rows.proofs.ValueKinds.{KindAt, OfKind}
use Rattle.select_laws.specs.Places.{BeginsAt, FitsPlace, FitsTable}
use Rattle.select_laws.proofs.Meaning.{in_every_row}
use Rattle.select_laws.proofs.SameLists.{bind_sure_same, each_same, kept_same}

abbrev pub tables_in : List Origin → Scope
tables_in sources = map (λ (o : Origin). o.table) sources

-- ---- places

begins_by : (row : Row) (start : Option ℕ) (c : ℕ) (kind : Kind) → columns.BeginsAt (OfKind kind) row start c → BeginsAt row start c kind
begins_by row (Some start) c kind h = h
begins_by row None c kind h = h

table_fits : (schema : Catalog) (table : TableId) (rows : List Row) → AllByRecursion (IsOf (KindAt 0) schema table) rows → AllByRecursion (FitsTable schema table) rows
table_fits schema table [] h = tt
table_fits schema table (row ∷ rows) h = (λ c column is. h.0.columns c column is, table_fits schema table rows h.1)

pub tables_fit : (schema : Catalog) (tables : Tables) → AreRows schema tables → (table : TableId) → AllByRecursion (FitsTable schema table) (rows_in tables table.0)
tables_fit schema tables a table = table_fits schema table (rows_in tables table.0) (rows_of_table KindAt may_hold held_kind schema tables 0 table a)

row_fits : (schema : Catalog) (scope : Scope) (f : Frame) (starts : List ℕ) (n : ℕ) (row : Row) → f.starts ≡ starts → length starts ≡ length scope → AreRows schema f.tables → IsIn KindAt schema scope starts n row → FitsPlace schema scope (at f row)
row_fits schema scope f starts n row is e a h = record {
  begins = ap length is ∙ e;
  columns = λ s c column there. subst (λ (l : List ℕ). BeginsAt row (slice_get l s) c (kind_of column.kind)) (sym is)
      (begins_by row (slice_get starts s) c (kind_of column.kind) (h.stand s (record { 0 = c }) column there));
  rows = tables_fit schema f.tables a;
  no_group = refl;
}

-- ---- one more source

longer : (starts : List ℕ) (scope : Scope) (n : ℕ) (t : TableId) → length starts ≡ length scope → length (starts ++ n ∷ []) ≡ length (scope ++ t ∷ [])
longer starts scope n t e = omega (arith, length-append {A = ℕ}, length-append {A = TableId}, e)

-- an expression that stands under these sources, in a row in which they begin
pub condition_same : (schema : Catalog) (sources : List Origin) (e : Expr) (f : Frame) (row : Row) → IsTyped schema sources e → FitsPlace schema (tables_in sources) (at f row) → condition f (normal e) row ≡ condition f e row
condition_same schema sources e f row t h = in_every_row schema (tables_in sources) e t.fitting t.typed (at f row) h

module _ (schema : Catalog) (before : List Origin) (f : Frame) (n : ℕ) (j : Joined) (a : AreRows schema f.tables) (e : length f.starts ≡ length (tables_in before)) (t : IsTypedFilter schema (before ++ j.origin ∷ []) j.on) where
  abbrev m : ℕ
  m = width schema j.origin

  abbrev IsJoined : Row → Type 0
  IsJoined = IsIn KindAt schema (tables_in before ++ table_of j ∷ []) (f.starts ++ n ∷ []) (n + m)

  more : tables_in (before ++ j.origin ∷ []) ≡ (tables_in before ++ table_of j ∷ [])
  more = map-append (λ (o : Origin). o.table) before (j.origin ∷ [])

  on_same : (row : Row) → IsJoined row → condition (wider f n) (normal j.on) row ≡ condition (wider f n) j.on row
  on_same row h =
      condition_same schema (before ++ j.origin ∷ []) j.on (wider f n) row t.condition.stands
      (subst (λ (s : Scope). FitsPlace schema s (at (wider f n) row)) (sym more)
      (row_fits schema (tables_in before ++ table_of j ∷ []) (wider f n) (f.starts ++ n ∷ []) (n + m) row refl (longer f.starts (tables_in before) n (table_of j) e) a h))

  row_same : (row : Row) → IsIn KindAt schema (tables_in before) f.starts n row → joined_row (wider f n) (normal_join j) m row ≡ joined_row (wider f n) j m row
  row_same row h =
      ap (λ (r : Checked (List Row)). r >>= λ rows. Ok (or_nulls j.left row m rows))
      (kept_same IsJoined (condition (wider f n) (normal j.on)) (condition (wider f n) j.on) on_same [] (map (λ x. row ++ x) (rows_in f.tables j.origin.table.0))
      (joined_each KindAt schema (tables_in before) f.starts n m (table_of j) row (rows_in f.tables j.origin.table.0) e refl h (rows_of_table KindAt may_hold held_kind schema f.tables (length (tables_in before)) (table_of j) a)))

  pub joined_same : (rows : List Row) → AllByRecursion (IsIn KindAt schema (tables_in before) f.starts n) rows → rows_of_join schema (wider f n) (normal_join j) rows ≡ rows_of_join schema (wider f n) j rows
  joined_same rows h = each_same (IsIn KindAt schema (tables_in before) f.starts n) (joined_row (wider f n) (normal_join j) m) (joined_row (wider f n) j m) row_same [] rows h

  pub then_sure : (js : List Joined) (rows : List Row) → AllByRecursion (IsIn KindAt schema (tables_in before) f.starts n) rows
      → Sure (AllByRecursion (IsIn KindAt schema (tables_in (before ++ j.origin ∷ [])) (f.starts ++ n ∷ []) (n + m))) (rows_of_join schema (wider f n) j rows)
  then_sure js rows h =
      subst (λ (s : Scope). Sure (AllByRecursion (IsIn KindAt schema s (f.starts ++ n ∷ []) (n + m))) (rows_of_join schema (wider f n) j rows)) (sym more)
      (joined_sure KindAt may_hold held_kind schema (tables_in before) f n j js rows a e (λ i k is l column. refl) h)

  pub then_long : length (f.starts ++ n ∷ []) ≡ length (tables_in (before ++ j.origin ∷ []))
  then_long = longer f.starts (tables_in before) n (table_of j) e ∙ ap length (sym more)

-- ---- all sources

pub joins_same : (schema : Catalog) (before : List Origin) (f : Frame) (n : ℕ) (js : List Joined) (rows : List Row) → AreRows schema f.tables → length f.starts ≡ length (tables_in before) → AreTypedJoins schema before js
    → AllByRecursion (IsIn KindAt schema (tables_in before) f.starts n) rows → joined_all schema f n (map normal_join js) rows ≡ joined_all schema f n js rows
joins_same schema before f n [] rows a e t h = refl
joins_same schema before f n (j ∷ js) rows a e t h =
    let m : ℕ = width schema j.origin in
    ap (λ (r : Checked (List Row)). r >>= λ more. joined_all schema (wider f n) (n + m) (map normal_join js) more) (joined_same schema before f n j a e t.0 rows h)
    ∙ bind_sure_same (AllByRecursion (IsIn KindAt schema (tables_in (before ++ j.origin ∷ [])) (f.starts ++ n ∷ []) (n + m))) (rows_of_join schema (wider f n) j rows) _ _ (then_sure schema before f n j a e t.0 js rows h)
    (λ more k. joins_same schema (before ++ j.origin ∷ []) (wider f n) (n + m) js more a (then_long schema before f n j a e t.0) t.1 k)

-- the sources in scope, with rows in which they begin
pub record IsFrom (schema : Catalog) (scope : Scope) (from : Frame × List Row) : Type 0 where
  pub begins : length from.0.starts ≡ length scope
  pub tables : AreRows schema from.0.tables
  pub rows : AllByRecursion (λ row. FitsPlace schema scope (at from.0 row)) from.1

rows_fit : (schema : Catalog) (scope : Scope) (f : Frame) (n : ℕ) (rows : List Row) → length f.starts ≡ length scope → AreRows schema f.tables → AllByRecursion (IsIn KindAt schema scope f.starts n) rows → AllByRecursion (λ row. FitsPlace schema scope (at f row)) rows
rows_fit schema scope f n [] e a h = tt
rows_fit schema scope f n (row ∷ rows) e a h = (row_fits schema scope f f.starts n row refl e a h.0, rows_fit schema scope f n rows e a h.1)

from_sure : (schema : Catalog) (before : List Origin) (f : Frame) (n : ℕ) (js : List Joined) (rows : List Row) → AreRows schema f.tables → length f.starts ≡ length (tables_in before) → AreTypedJoins schema before js
    → AllByRecursion (IsIn KindAt schema (tables_in before) f.starts n) rows → Sure (IsFrom schema (tables_in (before ++ map (λ (j : Joined). j.origin) js))) (joined_all schema f n js rows)
from_sure schema before f n [] rows a e t h =
    subst (λ (os : List Origin). IsFrom schema (tables_in os) (f, rows)) (sym (append-nil before)) (record { begins = e; tables = a; rows = rows_fit schema (tables_in before) f n rows e a h })
from_sure schema before f n (j ∷ js) rows a e t h =
    let m : ℕ = width schema j.origin in
    let others : List Origin = map (λ (k : Joined). k.origin) js in
    bind_sure (AllByRecursion (IsIn KindAt schema (tables_in (before ++ j.origin ∷ [])) (f.starts ++ n ∷ []) (n + m))) (IsFrom schema (tables_in (before ++ j.origin ∷ others))) (rows_of_join schema (wider f n) j rows)
    (λ more. joined_all schema (wider f n) (n + m) js more) (then_sure schema before f n j a e t.0 js rows h)
    (λ more k. subst (λ (os : List Origin). Sure (IsFrom schema (tables_in os)) (joined_all schema (wider f n) (n + m) js more)) (append_assoc before (j.origin ∷ []) others)
    (from_sure schema (before ++ j.origin ∷ []) (wider f n) (n + m) js more a (then_long schema before f n j a e t.0) t.1 k))

module _ (schema : Catalog) (tables : Tables) (s : Select) (a : AreRows schema tables) (t : AreTypedJoins schema (s.first ∷ []) s.joins) where
  abbrev start : Frame
  start = record { starts = 0 ∷ []; tables = tables }

  first_rows : AllByRecursion (IsIn KindAt schema (tables_in (s.first ∷ [])) (0 ∷ []) (width schema s.first)) (rows_in tables s.first.table.0)
  first_rows = first_in KindAt may_hold held_kind schema s.first.table (rows_in tables s.first.table.0) (rows_of_table KindAt may_hold held_kind schema tables 0 s.first.table a)

  pub sources_same : sources schema tables (normal_select s) ≡ sources schema tables s
  unfolding sources
  sources_same = joins_same schema (s.first ∷ []) start (width schema s.first) s.joins (rows_in tables s.first.table.0) a refl t first_rows

  pub sources_fit : Sure (IsFrom schema (scope_of s)) (sources schema tables s)
  unfolding sources
  sources_fit = from_sure schema (s.first ∷ []) start (width schema s.first) s.joins (rows_in tables s.first.table.0) a refl t first_rows
