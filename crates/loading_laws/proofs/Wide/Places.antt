-- What stands in the columns of sources at a place that is made of a row of each.
use Rattle.std.proofs.Common.{◌≡◌, ℕ, zero, suc, ◌+◌, ◌<◌, arith, List, [], ◌∷◌, ◌++◌, length, true, Option, None, Some, refl, sym, ap, subst, ◌∙◌, append_assoc, append-nil, length-append}
use Rattle.std.specs.Prelude.{is_some, slice_get}
use Rattle.std.specs.Option.{option_and_then}
use Rattle.std.proofs.lemmas.Option.{slice_get_within}
use Rattle.base_core.proofs.Lists.{get_after, get_before}
use Rattle.base_core.specs.declared.ids.ColumnNo.{ColumnNo}
use Rattle.base_core.specs.declared.ids.TableId.{TableId}
use Rattle.schema_core.specs.Catalog.{Catalog, spec_of}
use Rattle.sql_semantics.specs.Eval.{Row, Tables, Place, after, column, inside, item_or_null}
use Rattle.sql_semantics.specs.Kinds.{Scope, column_in}
use Rattle.sql_semantics.specs.Rows.{Frame, at, wider}
use Rattle.load_columns.specs.Placing.{column_at}
use Rattle.main_selects.specs.Shifted.{shifted_place}
use Rattle.loading_laws.specs.Wide.Parts.{cell, place_of, starts_from, whole}
use Rattle.loading_laws.specs.Wide.Answers.{AreWideIn, table_width}
use Rattle.loading_laws.proofs.Wide.Levels.{get_shifted}

-- ---- columns

in_part : (before : Row) (rows : List Row) (s c : ℕ) (row : Row) → slice_get rows s ≡ Some row → c < length row
    → after (before ++ whole rows) c (slice_get (starts_from (length before) rows) s) ≡ item_or_null (slice_get row c)
in_part before [] s c row is inner = absurd cc
in_part before (y ∷ rows) zero c row is inner =
    let same : y ≡ row = cc in
    ap item_or_null (get_after before (y ++ whole rows) c ∙ get_before y (whole rows) c (subst (λ (z : Row). c < length z) (sym same) inner) ∙ ap (λ (z : Row). slice_get z c) same)
in_part before (y ∷ rows) (suc s) c row is inner =
    ap (λ (r : Row). after r c (slice_get (starts_from (length before + length y) rows) s)) (sym (append_assoc before y (whole rows)))
    ∙ ap (λ (n : ℕ). after ((before ++ y) ++ whole rows) c (slice_get (starts_from n rows) s)) (sym (length-append before y))
    ∙ in_part (before ++ y) rows s c row is inner

part_column : (tables : Tables) (rows : List Row) (s c : ℕ) (row : Row) → slice_get rows s ≡ Some row → c < length row → column (place_of tables rows) s c ≡ item_or_null (slice_get row c)
part_column tables rows s c row is inner = in_part [] rows s c row is inner

some_within : {A : Type 0} (xs : List A) (k : ℕ) → is_some (slice_get xs k) ≡ true → k < length xs
some_within [] k e = absurd cc
some_within (x ∷ xs) zero e = omega arith
some_within (x ∷ xs) (suc k) e = let h = some_within xs k e in omega (arith, h)

-- the row of a source that has the column
part_of : (schema : Catalog) (scope : Scope) (rows : List Row) (s : ℕ) (c : ColumnNo) → AreWideIn schema scope rows → is_some (column_in schema scope s c) ≡ true
    → (row : Row) × (slice_get rows s ≡ Some row) × (c.0 < length row)
part_of schema [] rows s c h is = absurd cc
part_of schema (t ∷ scope) [] s c h is = absurd h
part_of schema (t ∷ scope) (x ∷ rows) zero c h is = (x, refl, let e = some_within (spec_of schema t).columns c.0 is in let w = h.0 in omega (arith, e, w))
part_of schema (t ∷ scope) (x ∷ rows) (suc s) c h is = part_of schema scope rows s c h.1 is

pub column_is : (schema : Catalog) (scope : Scope) (tables : Tables) (rows : List Row) (s : ℕ) (c : ColumnNo) → AreWideIn schema scope rows → is_some (column_in schema scope s c) ≡ true
    → column (place_of tables rows) s c.0 ≡ cell rows (column_at s c)
column_is schema scope tables rows s c wide is =
    let row = part_of schema scope rows s c wide is in
    part_column tables rows s c.0 row.0 row.1 row.2 ∙ sym (ap (λ (found : Option Row). item_or_null (option_and_then (λ (r : Row). slice_get r c.0) found)) row.1)

-- a column of the first or last sources is what it is without those between
pub same_column : (schema : Catalog) (scope : Scope) (tables : Tables) (own extra inner : List Row) (s : ℕ) (c : ColumnNo) → AreWideIn schema scope (own ++ inner) → is_some (column_in schema scope s c) ≡ true
    → column (place_of tables (own ++ (extra ++ inner))) (shifted_place (length own) (length extra) s) c.0 ≡ column (place_of tables (own ++ inner)) s c.0
same_column schema scope tables own extra inner s c wide is =
    let row = part_of schema scope (own ++ inner) s c wide is in
    part_column tables (own ++ (extra ++ inner)) (shifted_place (length own) (length extra) s) c.0 row.0 (get_shifted own extra inner s ∙ row.1) row.2
    ∙ sym (part_column tables (own ++ inner) s c.0 row.0 row.1 row.2)

-- a cell of the first sources is what it is without those behind them
pub same_cell : (schema : Catalog) (scope : Scope) (own extra : List Row) (s : ℕ) (c : ColumnNo) → AreWideIn schema scope own → is_some (column_in schema scope s c) ≡ true
    → cell (own ++ extra) (column_at s c) ≡ cell own (column_at s c)
same_cell schema scope own extra s c wide is =
    let row = part_of schema scope own s c wide is in
    ap (λ (found : Option Row). item_or_null (option_and_then (λ (r : Row). slice_get r c.0) found)) (get_before own extra s (slice_get_within own s row.0 row.1))

-- ---- one source more

whole_more : (rows : List Row) (r : Row) → whole (rows ++ r ∷ []) ≡ whole rows ++ r
whole_more [] r = append-nil r
whole_more (x ∷ rows) r = ap (λ (l : Row). x ++ l) (whole_more rows r) ∙ sym (append_assoc x (whole rows) r)

starts_more : (n : ℕ) (rows : List Row) (r : Row) → starts_from n (rows ++ r ∷ []) ≡ starts_from n rows ++ (n + length (whole rows)) ∷ []
starts_more n [] r = let e : n ≡ n + 0 = omega arith in ap (λ (k : ℕ). k ∷ []) e
starts_more n (x ∷ rows) r =
    let e : (n + length x) + length (whole rows) ≡ n + length (x ++ whole rows) = omega (arith, length-append x (whole rows)) in
    ap (λ (l : List ℕ). n ∷ l) (starts_more (n + length x) rows r ∙ ap (λ (k : ℕ). starts_from (n + length x) rows ++ k ∷ []) e)

abbrev placed : Tables → Row → List ℕ → Place
placed tables row starts = record { row = row; starts = starts; tables = tables; group = None }

pub inside_is : (tables : Tables) (rows : List Row) (r : Row) → inside (place_of tables rows) r ≡ place_of tables (rows ++ r ∷ [])
inside_is tables rows r =
    let e : length (whole rows) ≡ 0 + length (whole rows) = omega arith in
    ap (λ (l : Row). placed tables l (starts_from 0 rows ++ length (whole rows) ∷ [])) (sym (whole_more rows r))
    ∙ ap (λ (ns : List ℕ). placed tables (whole (rows ++ r ∷ [])) ns) (ap (λ (k : ℕ). starts_from 0 rows ++ k ∷ []) e ∙ sym (starts_more 0 rows r))

pub wide_more : (schema : Catalog) (scope : Scope) (rows : List Row) (t : TableId) (r : Row) → AreWideIn schema scope rows → length r ≡ table_width schema t → AreWideIn schema (scope ++ t ∷ []) (rows ++ r ∷ [])
wide_more schema [] [] t r h e = (e, tt)
wide_more schema [] (x ∷ rows) t r h e = absurd h
wide_more schema (u ∷ scope) [] t r h e = absurd h
wide_more schema (u ∷ scope) (x ∷ rows) t r h e = (h.0, wide_more schema scope rows t r h.1 e)

pub wide_long : (schema : Catalog) (scope : Scope) (rows : List Row) → AreWideIn schema scope rows → length rows ≡ length scope
wide_long schema [] [] h = refl
wide_long schema [] (x ∷ rows) h = absurd h
wide_long schema (t ∷ scope) [] h = absurd h
wide_long schema (t ∷ scope) (x ∷ rows) h = let e = wide_long schema scope rows h.1 in omega (arith, e)

-- ---- frames

-- where the sources of a scope begin
abbrev pub scope_starts : Catalog → ℕ → Scope → List ℕ
scope_starts schema n [] = []
scope_starts schema n (t ∷ scope) = n ∷ scope_starts schema (n + table_width schema t) scope

abbrev pub scope_end : Catalog → ℕ → Scope → ℕ
scope_end schema n [] = n
scope_end schema n (t ∷ scope) = scope_end schema (n + table_width schema t) scope

abbrev pub frame_of : Catalog → Tables → Scope → Frame
frame_of schema tables scope = record { starts = scope_starts schema 0 scope; tables = tables }

starts_end : (schema : Catalog) (n : ℕ) (scope : Scope) (t : TableId) → scope_starts schema n (scope ++ t ∷ []) ≡ scope_starts schema n scope ++ scope_end schema n scope ∷ []
starts_end schema n [] t = refl
starts_end schema n (u ∷ scope) t = ap (λ (l : List ℕ). n ∷ l) (starts_end schema (n + table_width schema u) scope t)

pub end_more : (schema : Catalog) (n : ℕ) (scope : Scope) (t : TableId) → scope_end schema n (scope ++ t ∷ []) ≡ scope_end schema n scope + table_width schema t
end_more schema n [] t = refl
end_more schema n (u ∷ scope) t = end_more schema (n + table_width schema u) scope t

abbrev framed : Tables → List ℕ → Frame
framed tables starts = record { starts = starts; tables = tables }

pub frame_more : (schema : Catalog) (tables : Tables) (scope : Scope) (t : TableId) → wider (frame_of schema tables scope) (scope_end schema 0 scope) ≡ frame_of schema tables (scope ++ t ∷ [])
frame_more schema tables scope t = ap (framed tables) (sym (starts_end schema 0 scope t))

starts_are : (schema : Catalog) (n : ℕ) (scope : Scope) (rows : List Row) → AreWideIn schema scope rows → scope_starts schema n scope ≡ starts_from n rows
starts_are schema n [] [] h = refl
starts_are schema n [] (x ∷ rows) h = absurd h
starts_are schema n (t ∷ scope) [] h = absurd h
starts_are schema n (t ∷ scope) (x ∷ rows) h = ap (λ (l : List ℕ). n ∷ l) (ap (λ (k : ℕ). scope_starts schema (n + k) scope) (sym h.0) ∙ starts_are schema (n + length x) scope rows h.1)

pub place_is : (schema : Catalog) (tables : Tables) (scope : Scope) (rows : List Row) → AreWideIn schema scope rows → at (frame_of schema tables scope) (whole rows) ≡ place_of tables rows
place_is schema tables scope rows h = ap (placed tables (whole rows)) (starts_are schema 0 scope rows h)

pub whole_behind : (rows : List Row) (r : Row) → whole rows ++ r ≡ whole (rows ++ r ∷ [])
whole_behind rows r = sym (whole_more rows r)
