-- The row and the key of an object that fits its mapping, beside the table of its class's root.
use Rattle.std.proofs.Common.{◌≡◌, ℕ, ◌+◌, ◌<◌, Bool, true, false, List, [], ◌∷◌, length, map, filter, cond, get_or, suc, Option, None, Some, refl, sym, ap, ◌∙◌, arith}
use Rattle.std.specs.Prelude.{◌&&◌, ◌||◌, not}
use Rattle.std.specs.List.{enumerate_from}
use Rattle.std.specs.Cmp.Lexicographic.{pointwise}
use Rattle.std.proofs.lemmas.Bool.{and_from, and_parts}
use Rattle.std.proofs.lemmas.List.{get_or-map}
use Rattle.std.proofs.lemmas.List.FromFn.{get_or-enumerate_from, length-enumerate_from}
use Rattle.class_mapping.proofs.PlainLemmas.{no_column}
use Rattle.base_core.specs.declared.ids.AttrNo.{AttrNo}
use Rattle.base_core.specs.declared.ids.ClassId.{ClassId}
use Rattle.base_core.specs.declared.ids.TableId.{TableId}
use Rattle.base_core.specs.declared.value.Kind.{Kind}
use Rattle.base_core.specs.declared.value.Value.{Value}
use Rattle.base_core.specs.declared.value.Value.TheVariants as value
use Rattle.schema_core.specs.declared.table.ColumnSpec.{ColumnSpec}
use Rattle.schema_core.specs.declared.table.ColumnKind.TheVariants as column_kinds
use Rattle.schema_core.specs.Catalog.{kind_of, same_kind}
use Rattle.schema_core.specs.Tables.{fits, fits_kind, kind_of_value, value_or_null}
use Rattle.schema_core.specs.WellFormed.{is_key, is_row, may_hold}
use Rattle.class_types.specs.declared.mapped.Attribute.{Attribute}
use Rattle.class_layouts.specs.Columns.{attribute_at}
use Rattle.class_mapping.specs.Mapped.{Mapped, attribute_of, no_attribute, root_spec, root_table}
use Rattle.class_mapping.specs.Plain.{attr_at}
use Rattle.class_mapping.specs.PlainClass.{IsPlainClass}
use Rattle.object_arena.specs.declared.object.Cell.{Cell}
use Rattle.object_arena.specs.declared.object.Object.{Object}
use Rattle.object_arena.specs.Graph.{row_of}
use Rattle.object_arena.specs.Fit.{ObjectFits, cell_fits, is_just_of_kind, key_fits, key_value_fits, value_fits}

-- ---- the row

value_held : (table : TableId) (n : ℕ) (column : ColumnSpec) (known : Option Value) → value_fits (attribute_at table (n, column)) known ≡ true → may_hold column (value_or_null known) ≡ true
value_held table n column None h = refl
value_held table n column (Some value.Null) h = refl
value_held table n column (Some (value.Bool b)) h = h
value_held table n column (Some (value.Int z)) h = h
value_held table n column (Some (value.Text t)) h = h
value_held table n column (Some (value.Bytes b)) h = h

-- cells that fit a table's attributes make a row of the table
row_fits : (table : TableId) (n : ℕ) (columns : List ColumnSpec) (cells : List Cell) → pointwise cell_fits (map (attribute_at table) (enumerate_from n columns)) cells ≡ true → pointwise may_hold columns (map (λ cell. value_or_null cell.value) cells) ≡ true
row_fits table n [] [] h = refl
row_fits table n [] (cell ∷ cells) h = absurd cc
row_fits table n (column ∷ columns) [] h = absurd cc
row_fits table n (column ∷ columns) (cell ∷ cells) h =
    let attribute : Attribute = attribute_at table (n, column) in
    let parts = and_parts (cell_fits attribute cell) (pointwise cell_fits (map (attribute_at table) (enumerate_from (n + 1) columns)) cells) h in
    and_from (may_hold column (value_or_null cell.value)) (pointwise may_hold columns (map (λ c. value_or_null c.value) cells))
    (value_held table n column cell.value (and_parts (value_fits attribute cell.value) (value_fits attribute cell.base) parts.0).0)
    (row_fits table (n + 1) columns cells parts.1)

-- the row of an object of a plain root that fits
pub object_row : (mapped : Mapped) (object : Object) → IsPlainClass mapped object.class → ObjectFits mapped object → is_row (root_spec mapped object.class) (row_of object) ≡ true
object_row mapped object plain fits =
    row_fits (root_table mapped object.class) 0 (root_spec mapped object.class).columns object.cells
    (ap (λ (attributes : List Attribute). pointwise cell_fits attributes object.cells) (sym plain.attributes) ∙ fits.cells)

-- ---- the key

none_taken : (b : Bool) → false ≡ not (b || true)
none_taken true = refl
none_taken false = refl

one_key : (column : ColumnSpec) (wanted : Kind) (found : Option Kind) → column.key ≡ true → wanted ≡ kind_of column.kind → is_just_of_kind wanted found ≡ fits_kind column found
one_key column wanted None key same = rw key (none_taken column.not_null)
one_key column wanted (Some found) key same = ap (λ (kind : Kind). same_kind kind found) same

-- the kinds of the columns from a number on
abbrev KindsFrom : (ℕ → Kind) → ℕ → List ColumnSpec → Type 0
KindsFrom kinds n columns = (i : ℕ) → i < length columns → kinds (n + i) ≡ kind_of (get_or columns i no_column).kind

abbrev has_kinds : (ℕ → Kind) → List (ℕ × ColumnSpec) → List Value → Bool
has_kinds kinds placed key = pointwise (λ attr v. is_just_of_kind (kinds attr.0) (kind_of_value v)) (map attr_at placed) key

later : (kinds : ℕ → Kind) (n : ℕ) (column : ColumnSpec) (columns : List ColumnSpec) → KindsFrom kinds n (column ∷ columns) → KindsFrom kinds (n + 1) columns
later kinds n column columns all i less =
    let same : n + 1 + i ≡ n + suc i = omega arith in
    ap kinds same ∙ all (suc i) (omega arith)

first : (kinds : ℕ → Kind) (n : ℕ) (column : ColumnSpec) (columns : List ColumnSpec) → KindsFrom kinds n (column ∷ columns) → kinds n ≡ kind_of column.kind
first kinds n column columns all =
    let same : n ≡ n + 0 = omega arith in
    ap kinds same ∙ all 0 (omega arith)

-- one column more, of the key or not
column_more : (kinds : ℕ → Kind) (n : ℕ) (column : ColumnSpec) (placed : List (ℕ × ColumnSpec)) (columns : List ColumnSpec) (is : Bool) (key : List Value) → (is ≡ true → column.key ≡ true) → kinds n ≡ kind_of column.kind
    → ((more : List Value) → has_kinds kinds placed more ≡ pointwise fits columns more)
    → has_kinds kinds (cond is ((n, column) ∷ placed) placed) key ≡ pointwise fits (cond is (column ∷ columns) columns) key
column_more kinds n column placed columns false key flag same rest = rest key
column_more kinds n column placed columns true [] flag same rest = refl
column_more kinds n column placed columns true (v ∷ key) flag same rest =
    ap (λ (b : Bool). b && has_kinds kinds placed key) (one_key column (kinds n) (kind_of_value v) (flag refl) same)
    ∙ ap (λ (b : Bool). fits column v && b) (rest key)

keys_from : (kinds : ℕ → Kind) (n : ℕ) (columns : List ColumnSpec) (key : List Value) → KindsFrom kinds n columns → has_kinds kinds (filter (λ placed. placed.1.key) (enumerate_from n columns)) key ≡ pointwise fits (filter (λ column. column.key) columns) key
keys_from kinds n [] [] all = refl
keys_from kinds n [] (v ∷ key) all = refl
keys_from kinds n (column ∷ columns) key all =
    column_more kinds n column (filter (λ placed. placed.1.key) (enumerate_from (n + 1) columns)) (filter (λ c. c.key) columns) column.key key (λ e. e) (first kinds n column columns all)
    (λ more. keys_from kinds (n + 1) columns more (later kinds n column columns all))

kind_at : (table : TableId) (columns : List ColumnSpec) (i : ℕ) → i < length columns → (get_or (map (attribute_at table) (enumerate_from 0 columns)) i no_attribute).kind ≡ kind_of (get_or columns i no_column).kind
kind_at table columns i less =
    let long : i < length (enumerate_from 0 columns) = rw length-enumerate_from less in
    ap (λ (a : Attribute). a.kind)
    (get_or-map (attribute_at table) (enumerate_from 0 columns) i (0, no_column) no_attribute long
    ∙ ap (attribute_at table) (get_or-enumerate_from 0 columns i (0, no_column) less))

-- the keys of a plain root are those of its table
pub key_is : (mapped : Mapped) (class : ClassId) (key : List Value) → IsPlainClass mapped class → key_fits mapped class key ≡ is_key (root_spec mapped class) key
key_is mapped class key plain =
    let columns : List ColumnSpec = (root_spec mapped class).columns in
    ap (λ (keys : List AttrNo). pointwise (key_value_fits mapped class) keys key) plain.keys
    ∙ keys_from (λ i. (attribute_of mapped class (record { 0 = i })).kind) 0 columns key
    (λ i less.
    let number : 0 + i ≡ i = omega arith in
    ap (λ (p : ℕ). (attribute_of mapped class (record { 0 = p })).kind) number
    ∙ ap (λ (attributes : List Attribute). (get_or attributes i no_attribute).kind) plain.attributes
    ∙ kind_at (root_table mapped class) columns i less)
