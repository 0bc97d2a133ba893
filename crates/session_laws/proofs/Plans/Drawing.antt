-- A key as it is drawn, and the foreign keys of a row that is drawn.
use Rattle.std.proofs.Common.{◌≡◌, inl, inr, ℕ, ℤ, ◌+◌, Bool, true, false, not, cond, ◌&&◌, ◌||◌, eqb, List, [], ◌∷◌, map, length, Option, None, Some, refl, sym, ap, ◌∙◌, subst, arith}
use Rattle.std.proofs.lemmas.Bool.{eq-eqb, eqb-true}
use Rattle.std.proofs.lemmas.List.Sums.{sum_by-cons}
use Rattle.std.specs.List.{AllByRecursion, count_by, list_any}
use Rattle.base_core.specs.declared.value.Value.{Value}
use Rattle.base_core.specs.declared.value.Value.TheVariants.{Null, Int}
use Rattle.schema_core.specs.declared.changes.RowCell.{RowCell}
use Rattle.schema_core.specs.declared.changes.RowCell.TheVariants.{Given, KeyOf}
use Rattle.schema_core.specs.declared.table.ColumnSpec.{ColumnSpec}
use Rattle.schema_core.specs.declared.table.ForeignSpec.{ForeignSpec}
use Rattle.schema_core.specs.declared.table.TableSpec.{TableSpec}
use Rattle.schema_core.specs.Apply.{next_key, wants_key, with_key, with_own_key}
use Rattle.schema_core.specs.Catalog.{has_generated_key, has_name, is_free_integer, kind_of, same_kind, same_name}
use Rattle.base_core.specs.declared.value.Kind.TheVariants as kinds
use Rattle.schema_core.specs.Tables.{Rows, cell_of, cells_of, has_null, is_null, key_cells, key_of}
use Rattle.schema_core.proofs.Names.{same_names}
use Rattle.table_laws.proofs.Entries.{all_map}
use Rattle.table_laws.proofs.RowFits.{and_true, only_key}
use Rattle.flush_order.specs.Cells.{cells_cleared, key_parts}
use Rattle.flush_plan.specs.Flushing.{Keys, value_of_cell}
use Rattle.session_laws.proofs.Plans.Drawn.{drawn_under}
use Rattle.session_laws.specs.Plans.Laws.{AreLoose, cell_named, is_given}
use Rattle.session_laws.proofs.Plans.Referring.{Drawn, all_named, key_map, null_is}
use Rattle.session_laws.proofs.Plans.Facts.{none_some, not_true, or_false, same_some, true_false}

or_none_right : (a : Bool) → (a || false) ≡ a
or_none_right true = refl
or_none_right false = refl

-- cells as long as the columns
abbrev pub LongCells : List ColumnSpec → List RowCell → Type 0
LongCells [] [] = Unit {0}
LongCells [] (cell ∷ cells) = ⊥
LongCells (c ∷ cs) [] = ⊥
LongCells (c ∷ cs) (cell ∷ cells) = LongCells cs cells

-- ---- the parts of a key

count_step : (c : ColumnSpec) (cs : List ColumnSpec) → count_by (λ d. d.key) (c ∷ cs) ≡ cond c.key 1 0 + count_by (λ d. d.key) cs
count_step c cs = sum_by-cons (λ d. cond d.key 1 0) c cs

part_step : (k : Bool) (cell : RowCell) (parts : List RowCell) (n : ℕ) → length parts ≡ n → length (cond k (cell ∷ parts) parts) ≡ cond k 1 0 + n
part_step true cell parts n e = omega (arith, e)
part_step false cell parts n e = omega (arith, e)

parts_count : (cs : List ColumnSpec) (cells : List RowCell) → LongCells cs cells → length (key_parts cs cells) ≡ count_by (λ c. c.key) cs
parts_count [] [] l = refl
parts_count [] (cell ∷ cells) l = absurd l
parts_count (c ∷ cs) [] l = absurd l
parts_count (c ∷ cs) (cell ∷ cells) l = part_step c.key cell (key_parts cs cells) (count_by (λ d. d.key) cs) (parts_count cs cells l) ∙ sym (count_step c cs)

abbrev IsFree : List ForeignSpec → ColumnSpec → Type 0
IsFree foreigns c = list_any (λ foreign. has_name foreign.columns c.name) foreigns ≡ false

given_step : (k : Bool) (cell : RowCell) (parts : List RowCell) → (k ≡ true → is_given cell ≡ true) → AllByRecursion (λ p. is_given p ≡ true) parts → AllByRecursion (λ p. is_given p ≡ true) (cond k (cell ∷ parts) parts)
given_step true cell parts here more = (here refl, more)
given_step false cell parts here more = more

parts_given : (foreigns : List ForeignSpec) (cs : List ColumnSpec) (cells : List RowCell) → AllByRecursion (λ c. c.key ≡ true → IsFree foreigns c) cs → AreLoose foreigns cs cells → AllByRecursion (λ p. is_given p ≡ true) (key_parts cs cells)
parts_given foreigns [] cells free loose = tt
parts_given foreigns (c ∷ cs) [] free loose = tt
parts_given foreigns (c ∷ cs) (cell ∷ cells) free loose = given_step c.key cell (key_parts cs cells) (λ k. loose.0 (free.0 k)) (parts_given foreigns cs cells free.1 loose.1)

clear_step : (t : Bool) (cell : RowCell) → is_given cell ≡ true → is_given (cond t (Given Null) cell) ≡ true
clear_step true cell e = refl
clear_step false cell e = e

pub loose_cleared : (foreigns : List ForeignSpec) (t : ColumnSpec → Bool) (cs : List ColumnSpec) (cells : List RowCell) → AreLoose foreigns cs cells → AreLoose foreigns cs (cells_cleared t (Given Null) cs cells)
loose_cleared foreigns t [] cells loose = tt
loose_cleared foreigns t (c ∷ cs) [] loose = tt
loose_cleared foreigns t (c ∷ cs) (cell ∷ cells) loose = ((λ free. clear_step (t c) cell (loose.0 free)), loose_cleared foreigns t cs cells loose.1)

pub long_cleared : (t : ColumnSpec → Bool) (cs : List ColumnSpec) (cells : List RowCell) → LongCells cs cells → LongCells cs (cells_cleared t (Given Null) cs cells)
long_cleared t [] [] l = tt
long_cleared t [] (cell ∷ cells) l = absurd l
long_cleared t (c ∷ cs) [] l = absurd l
long_cleared t (c ∷ cs) (cell ∷ cells) l = long_cleared t cs cells l

given_null : (keys : Keys) (cell : RowCell) → is_given cell ≡ true → is_null (value_of_cell keys cell) ≡ true → cell ≡ Given Null
given_null keys (Given value) g n = ap Given (null_is value n)
given_null keys (KeyOf place part) g n = absurd (true_false (sym g))

one_part : (keys : Keys) (parts : List RowCell) → length parts ≡ 1 → AllByRecursion (λ p. is_given p ≡ true) parts → has_null (map (value_of_cell keys) parts) ≡ true → AllByRecursion (λ p. p ≡ Given Null) parts
one_part keys [] e g n = tt
one_part keys (cell ∷ []) e g n = (given_null keys cell g.0 (sym (or_none_right (is_null (value_of_cell keys cell))) ∙ n), tt)
one_part keys (cell ∷ other ∷ parts) e g n = absurd (omega (arith, e))

-- a key that was given is drawn
plain_drawn : (keys : Keys) (parts : List RowCell) → Drawn keys parts (map (value_of_cell keys) parts)
plain_drawn keys [] = tt
plain_drawn keys (cell ∷ parts) = (inl refl, plain_drawn keys parts)

keyed_step : (keys : Keys) (k : Bool) (cell : RowCell) (v key : Value) (parts : List RowCell) (rest : List Value) → (AllByRecursion (λ p. p ≡ Given Null) parts → Drawn keys parts rest) → AllByRecursion (λ p. p ≡ Given Null) (cond k (cell ∷ parts) parts) → Drawn keys (cond k (cell ∷ parts) parts) (cond k (cond k key v ∷ rest) rest)
keyed_step keys true cell v key parts rest more all = (inr all.0, more all.1)
keyed_step keys false cell v key parts rest more all = more all

keyed_drawn : (keys : Keys) (cs : List ColumnSpec) (cells : List RowCell) (key : Value) → AllByRecursion (λ p. p ≡ Given Null) (key_parts cs cells) → Drawn keys (key_parts cs cells) (key_cells cs (with_key cs key (map (value_of_cell keys) cells)))
keyed_drawn keys [] cells key all = tt
keyed_drawn keys (c ∷ cs) [] key all = tt
keyed_drawn keys (c ∷ cs) (cell ∷ cells) key all =
    keyed_step keys c.key cell (value_of_cell keys cell) key (key_parts cs cells) (key_cells cs (with_key cs key (map (value_of_cell keys) cells))) (keyed_drawn keys cs cells key) all

-- where a key is generated its column is in no foreign key
key_free : (spec : TableSpec) → has_generated_key spec ≡ true → AllByRecursion (λ c. c.key ≡ true → IsFree spec.foreigns c) spec.columns
key_free spec e =
    let both = and_true (eqb (count_by (λ c. c.key) spec.columns) 1) (list_any (λ c. c.key && is_free_integer spec.foreigns c) spec.columns) e in
    all_map (λ c. c.key ≡ true → is_free_integer spec.foreigns c ≡ true) (λ c. c.key ≡ true → IsFree spec.foreigns c)
    (λ c free k. not_true (list_any (λ foreign. has_name foreign.columns c.name) spec.foreigns) (and_true (same_kind (kind_of c.kind) kinds.Integer) (not (list_any (λ foreign. has_name foreign.columns c.name) spec.foreigns)) (free k)).1)
    spec.columns (only_key (is_free_integer spec.foreigns) spec.columns (eqb-true (count_by (λ c. c.key) spec.columns) 1 both.0) both.1)

under_drawn : (spec : TableSpec) (keys : Keys) (cells : List RowCell) (row : List Value) (key : Option ℤ) → AllByRecursion (λ p. p ≡ Given Null) (key_parts spec.columns cells) → drawn_under spec (map (value_of_cell keys) cells) key ≡ Some row → Drawn keys (key_parts spec.columns cells) (key_of spec row)
under_drawn spec keys cells row None all e = absurd (none_some row e)
under_drawn spec keys cells row (Some n) all e =
    subst (λ r. Drawn keys (key_parts spec.columns cells) (key_of spec r)) (same_some (with_key spec.columns (Int n) (map (value_of_cell keys) cells)) row e) (keyed_drawn keys spec.columns cells (Int n) all)

drawn_by : (spec : TableSpec) (rows : Rows) (keys : Keys) (cells : List RowCell) (row : List Value) (b : Bool) → wants_key spec (map (value_of_cell keys) cells) ≡ b → LongCells spec.columns cells → AreLoose spec.foreigns spec.columns cells → cond b (drawn_under spec (map (value_of_cell keys) cells) (next_key rows)) (Some (map (value_of_cell keys) cells)) ≡ Some row → Drawn keys (key_parts spec.columns cells) (key_of spec row)
drawn_by spec rows keys cells row true wants l loose e =
    let both = and_true (has_generated_key spec) (has_null (key_of spec (map (value_of_cell keys) cells))) wants in
    let one = and_true (eqb (count_by (λ c. c.key) spec.columns) 1) (list_any (λ c. c.key && is_free_integer spec.foreigns c) spec.columns) both.0 in
    under_drawn spec keys cells row (next_key rows)
    (one_part keys (key_parts spec.columns cells) (parts_count spec.columns cells l ∙ eqb-true (count_by (λ c. c.key) spec.columns) 1 one.0)
    (parts_given spec.foreigns spec.columns cells (key_free spec both.0) loose)
    (sym (ap has_null (key_map (value_of_cell keys) spec.columns cells)) ∙ both.1))
    e
drawn_by spec rows keys cells row false wants l loose e =
    subst (Drawn keys (key_parts spec.columns cells)) (sym (key_map (value_of_cell keys) spec.columns cells) ∙ ap (key_of spec) (same_some (map (value_of_cell keys) cells) row e)) (plain_drawn keys (key_parts spec.columns cells))

pub key_drawn : (spec : TableSpec) (rows : Rows) (keys : Keys) (cells : List RowCell) (row : List Value) → LongCells spec.columns cells → AreLoose spec.foreigns spec.columns cells → with_own_key spec rows (map (value_of_cell keys) cells) ≡ Some row → Drawn keys (key_parts spec.columns cells) (key_of spec row)
key_drawn spec rows keys cells row l loose e = drawn_by spec rows keys cells row (wants_key spec (map (value_of_cell keys) cells)) refl l loose e

-- ---- the cells of a foreign key

same_refl : (name : List ℕ) → same_name name name ≡ true
same_refl [] = refl
same_refl (n ∷ name) = ap (λ b. b && same_name name name) (eq-eqb n n refl) ∙ same_refl name

cell_step : (k s : Bool) (key v x : Value) → (k ≡ true → s ≡ false) → cond s (cond k key v) x ≡ cond s v x
cell_step true true key v x apart = absurd (true_false (apart refl))
cell_step true false key v x apart = refl
cell_step false s key v x apart = refl

keyed_cell : (cs : List ColumnSpec) (key : Value) (row : List Value) (name : List ℕ) → AllByRecursion (λ c. c.key ≡ true → same_name c.name name ≡ false) cs → cell_of cs (with_key cs key row) name ≡ cell_of cs row name
keyed_cell [] key row name apart = refl
keyed_cell (c ∷ cs) key [] name apart = refl
keyed_cell (c ∷ cs) key (v ∷ row) name apart =
    ap (cond (same_name c.name name) (cond c.key key v)) (keyed_cell cs key row name apart.1)
    ∙ cell_step c.key (same_name c.name name) key v (cell_of cs row name) apart.0

name_apart : (names : List (List ℕ)) (name other : List ℕ) (b : Bool) → same_name other name ≡ b → has_name (name ∷ names) other ≡ false → b ≡ false
name_apart names name other true e none =
    absurd (true_false (sym (ap (λ n. same_name name n) (same_names other name e) ∙ same_refl name) ∙ (or_false (same_name name other) (has_name names other) none).0))
name_apart names name other false e none = refl

keyed_cells : (cs : List ColumnSpec) (key : Value) (row : List Value) (names : List (List ℕ)) → AllByRecursion (λ c. c.key ≡ true → has_name names c.name ≡ false) cs → map (cell_of cs (with_key cs key row)) names ≡ map (cell_of cs row) names
keyed_cells cs key row [] apart = refl
keyed_cells cs key row (name ∷ names) apart =
    λ i. keyed_cell cs key row name (all_map (λ c. c.key ≡ true → has_name (name ∷ names) c.name ≡ false) (λ c. c.key ≡ true → same_name c.name name ≡ false) (λ c f k. name_apart names name c.name (same_name c.name name) refl (f k)) cs apart) i
    ∷ keyed_cells cs key row names (all_map (λ c. c.key ≡ true → has_name (name ∷ names) c.name ≡ false) (λ c. c.key ≡ true → has_name names c.name ≡ false) (λ c f k. (or_false (same_name name c.name) (has_name names c.name) (f k)).1) cs apart) i

under_cells : (spec : TableSpec) (row placed : List Value) (key : Option ℤ) (names : List (List ℕ)) → AllByRecursion (λ c. c.key ≡ true → has_name names c.name ≡ false) spec.columns → drawn_under spec row key ≡ Some placed → cells_of spec placed names ≡ cells_of spec row names
under_cells spec row placed None names apart e = absurd (none_some placed e)
under_cells spec row placed (Some n) names apart e =
    ap (λ r. cells_of spec r names) (sym (same_some (with_key spec.columns (Int n) row) placed e)) ∙ keyed_cells spec.columns (Int n) row names apart

cells_by : (spec : TableSpec) (rows : Rows) (row placed : List Value) (foreign : ForeignSpec) (b : Bool) → wants_key spec row ≡ b → (AllByRecursion (λ c. c.key ≡ true → IsFree spec.foreigns c) spec.columns → AllByRecursion (λ c. c.key ≡ true → has_name foreign.columns c.name ≡ false) spec.columns) → cond b (drawn_under spec row (next_key rows)) (Some row) ≡ Some placed → cells_of spec placed foreign.columns ≡ cells_of spec row foreign.columns
cells_by spec rows row placed foreign true wants apart e = under_cells spec row placed (next_key rows) foreign.columns (apart (key_free spec (and_true (has_generated_key spec) (has_null (key_of spec row)) wants).0)) e
cells_by spec rows row placed foreign false wants apart e = ap (λ r. cells_of spec r foreign.columns) (sym (same_some row placed e))

-- each foreign key of a row that is drawn has the cells that were put in
pub foreign_drawn : (spec : TableSpec) (rows : Rows) (keys : Keys) (cells : List RowCell) (placed : List Value) (foreigns : List ForeignSpec) → ((c : ColumnSpec) → IsFree spec.foreigns c → IsFree foreigns c) → with_own_key spec rows (map (value_of_cell keys) cells) ≡ Some placed → AllByRecursion (λ foreign. cells_of spec placed foreign.columns ≡ map (value_of_cell keys) (map (cell_named spec.columns cells) foreign.columns)) foreigns
foreign_drawn spec rows keys cells placed [] part e = tt
foreign_drawn spec rows keys cells placed (foreign ∷ foreigns) part e = (
  cells_by spec rows (map (value_of_cell keys) cells) placed foreign (wants_key spec (map (value_of_cell keys) cells)) refl
      (all_map (λ c. c.key ≡ true → IsFree spec.foreigns c) (λ c. c.key ≡ true → has_name foreign.columns c.name ≡ false)
      (λ c free k. (or_false (has_name foreign.columns c.name) (list_any (λ f. has_name f.columns c.name) foreigns) (part c (free k))).0) spec.columns)
      e
      ∙ all_named (value_of_cell keys) refl spec.columns cells foreign.columns,
  foreign_drawn spec rows keys cells placed foreigns (λ c free. (or_false (has_name foreign.columns c.name) (list_any (λ f. has_name f.columns c.name) foreigns) (part c free)).1) e,
)
