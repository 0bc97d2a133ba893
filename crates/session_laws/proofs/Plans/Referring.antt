-- A foreign key of a new row that names a new row refers to it, where no value is guessed.
use Rattle.std.proofs.Common.{◌≡◌, ◌⊎◌, inl, inr, ℕ, zero, suc, ◌+◌, ◌<◌, Bool, true, false, not, cond, ◌&&◌, ◌||◌, List, [], ◌∷◌, map, length, Option, Some, refl, sym, ap, ◌∙◌, arith}
use Rattle.std.proofs.lemmas.Bool.{eq-eqb}
use Rattle.std.specs.Prelude.{slice_index_or}
use Rattle.std.specs.Cmp.{tied_itself}
use Rattle.std.specs.Ordering.{is_eq}
use Rattle.std.specs.List.{list_all, list_any, range_with_len}
use Rattle.base_core.specs.declared.ids.TableId.{TableId}
use Rattle.base_core.specs.declared.value.Value.{Value}
use Rattle.base_core.specs.declared.value.Value.TheVariants.{Null, Int, Text, Bool as BoolValue, Bytes}
use Rattle.schema_core.specs.declared.changes.RowCell.{RowCell}
use Rattle.schema_core.specs.declared.changes.RowCell.TheVariants.{Given, KeyOf}
use Rattle.schema_core.specs.declared.changes.RowChanges.{RowChanges}
use Rattle.schema_core.specs.declared.table.ColumnSpec.{ColumnSpec}
use Rattle.schema_core.specs.declared.table.ForeignSpec.{ForeignSpec}
use Rattle.schema_core.specs.Catalog.{Catalog, same_name, spec_of, target_of}
use Rattle.schema_core.specs.Tables.{cell_of, cells_of, given_value, has_null, is_null, key_cells, key_of, same_values}
use Rattle.flush_order.specs.Cells.{first_cells, key_parts, known_value, known_row, part_at, table_at}
use Rattle.flush_order.specs.Refers.{comes_from, is_table, names}
use Rattle.flush_plan.specs.Flushing.{Keys, key_of_new, value_of_cell}
use Rattle.flush_plan.specs.Planning.{key_at}
use Rattle.flush_plan.specs.Stating.{is_open}
use Rattle.session_laws.specs.Plans.Laws.{IsOneKind, cell_named, cells_named, is_given}
use Rattle.session_laws.proofs.Plans.Facts.{or_false, true_false}
use Rattle.base_core.proofs.Exact.{values_total}

or_none : (a b : Bool) → a ≡ false → b ≡ false → (a || b) ≡ false
or_none true b e f = e
or_none false b e f = f

pub null_is : (v : Value) → is_null v ≡ true → v ≡ Null
null_is Null e = refl
null_is (BoolValue b) e = cc
null_is (Int n) e = cc
null_is (Text t) e = cc
null_is (Bytes b) e = cc

-- ---- cells by name, and of the key, of a row that is read cell by cell

pub named_map : (read : RowCell → Value) → read (Given Null) ≡ Null → (cs : List ColumnSpec) (cells : List RowCell) (name : List ℕ) → cell_of cs (map read cells) name ≡ read (cell_named cs cells name)
named_map read none [] cells name = sym none
named_map read none (c ∷ cs) [] name = sym none
named_map read none (c ∷ cs) (cell ∷ cells) name = step (same_name c.name name) (named_map read none cs cells name)
  where
    step : (b : Bool) {v : Value} {other : RowCell} → v ≡ read other → cond b (read cell) v ≡ read (cond b cell other)
    step true e = refl
    step false e = e

pub all_named : (read : RowCell → Value) → read (Given Null) ≡ Null → (cs : List ColumnSpec) (cells : List RowCell) (names : List (List ℕ)) → map (cell_of cs (map read cells)) names ≡ map read (map (cell_named cs cells) names)
all_named read none cs cells [] = refl
all_named read none cs cells (name ∷ names) = λ i. named_map read none cs cells name i ∷ all_named read none cs cells names i

pub key_map : (read : RowCell → Value) (cs : List ColumnSpec) (cells : List RowCell) → key_cells cs (map read cells) ≡ map read (key_parts cs cells)
key_map read [] cells = refl
key_map read (c ∷ cs) [] = refl
key_map read (c ∷ cs) (cell ∷ cells) = step c.key (key_cells cs (map read cells)) (key_parts cs cells) (key_map read cs cells)
  where
    step : (b : Bool) (vs : List Value) (parts : List RowCell) → vs ≡ map read parts → cond b (read cell ∷ vs) vs ≡ map read (cond b (cell ∷ parts) parts)
    step true vs parts e = λ i. read cell ∷ e i
    step false vs parts e = e

-- ---- a key as it was drawn: its parts, but for those that were generated

abbrev pub Drawn : Keys → List RowCell → List Value → Type 0
Drawn keys [] [] = Unit {0}
Drawn keys [] (v ∷ key) = ⊥
Drawn keys (cell ∷ parts) [] = ⊥
Drawn keys (cell ∷ parts) (v ∷ key) = ((v ≡ value_of_cell keys cell) ⊎ (cell ≡ Given Null)) × Drawn keys parts key

part_of : (keys : Keys) (parts : List RowCell) (key : List Value) (part : ℕ) → Drawn keys parts key → (slice_index_or key part Null ≡ value_of_cell keys (slice_index_or parts part (Given Null))) ⊎ (slice_index_or parts part (Given Null) ≡ Given Null)
part_of keys [] [] part d = inr refl
part_of keys [] (v ∷ key) part d = absurd d
part_of keys (cell ∷ parts) [] part d = absurd d
part_of keys (cell ∷ parts) (v ∷ key) zero d = d.0
part_of keys (cell ∷ parts) (v ∷ key) (suc part) d = part_of keys parts key part d.1

module _ (schema : Catalog) (changes : RowChanges) (keys : Keys) where
  abbrev pub spec_at : ℕ → List ColumnSpec
  spec_at place = (spec_of schema (table_at changes place)).columns

  -- each new row's key is as it was drawn
  abbrev pub AllDrawn : Type 0
  AllDrawn = (place : ℕ) → Drawn keys (key_parts (spec_at place) (first_cells schema changes place)) (key_of_new keys place)

  -- what is known of a cell before keys are drawn is what is put there
  pub known_put : AllDrawn → (steps : ℕ) (cell : RowCell) → (known_value schema changes steps cell ≡ Null) ⊎ (value_of_cell keys cell ≡ known_value schema changes steps cell)
  known_put drawn steps (Given value) = inr refl
  known_put drawn zero (KeyOf place part) = inl refl
  known_put drawn (suc steps) (KeyOf place part) =
      elim (part_of keys (key_parts (spec_at place) (first_cells schema changes place)) (key_of_new keys place) part (drawn place)) [
        | inl same ↦ elim (known_put drawn steps (part_at schema changes place part)) [
          | inl none ↦ inl none
          | inr is ↦ inr (same ∙ is)
        ]
        | inr none ↦ inl (ap (known_value schema changes steps) none)
      ]

  known_parts : AllDrawn → (steps : ℕ) (parts : List RowCell) (key : List Value) → Drawn keys parts key → has_null (map (known_value schema changes steps) parts) ≡ false → key ≡ map (known_value schema changes steps) parts
  known_parts drawn steps [] [] d whole = refl
  known_parts drawn steps [] (v ∷ key) d whole = absurd d
  known_parts drawn steps (cell ∷ parts) [] d whole = absurd d
  known_parts drawn steps (cell ∷ parts) (v ∷ key) d whole =
      let both = or_false (is_null (known_value schema changes steps cell)) (has_null (map (known_value schema changes steps) parts)) whole in
      let here : v ≡ known_value schema changes steps cell = elim d.0 [
        | inl same ↦ elim (known_put drawn steps cell) [
          | inl none ↦ absurd (true_false (sym (ap is_null none) ∙ both.0))
          | inr is ↦ same ∙ is
        ]
        | inr none ↦ absurd (true_false (sym (ap (λ c. is_null (known_value schema changes steps c)) none) ∙ both.0))
      ] in
      λ i. here i ∷ known_parts drawn steps parts key d.1 both.1 i

  -- a key that is wholly known is the key
  pub known_key : AllDrawn → (place : ℕ) → is_open schema changes place ≡ false → key_of (spec_of schema (table_at changes place)) (known_row schema changes place) ≡ key_of_new keys place
  known_key drawn place whole =
      let is : key_of (spec_of schema (table_at changes place)) (known_row schema changes place) ≡ map (known_value schema changes (length changes.fresh)) (key_parts (spec_at place) (first_cells schema changes place)) = key_map (known_value schema changes (length changes.fresh)) (spec_at place) (first_cells schema changes place) in
      is ∙ sym (known_parts drawn (length changes.fresh) (key_parts (spec_at place) (first_cells schema changes place)) (key_of_new keys place) (drawn place) (ap has_null (sym is) ∙ whole))

  -- ---- cells that are given are known

  given_known : (steps : ℕ) (cells : List RowCell) → list_all is_given cells ≡ true → map (known_value schema changes steps) cells ≡ map (value_of_cell keys) cells
  given_known steps [] all = refl
  given_known steps (Given value ∷ cells) all = λ i. value ∷ given_known steps cells all i
  given_known steps (KeyOf place part ∷ cells) all = absurd (true_false (sym all))

  given_put : (cells : List RowCell) → list_all is_given cells ≡ true → map given_value cells ≡ map (value_of_cell keys) cells
  given_put [] all = refl
  given_put (Given value ∷ cells) all = λ i. value ∷ given_put cells all i
  given_put (KeyOf place part ∷ cells) all = absurd (true_false (sym all))

  pub table_is : (table : TableId) (target : Option TableId) → target ≡ Some table → is_table table target ≡ true
  table_is table target e = ap (is_table table) e ∙ eq-eqb table.0 table.0 refl

  pub key_same : (key other : List Value) → key ≡ other → same_values key other ≡ true
  key_same key other e = ap (same_values key) (sym e) ∙ ap is_eq (tied_itself values_total key)

  -- values that equal a known key refer to it
  values_refer : (place other : ℕ) (foreign : ForeignSpec) (key : List Value) → target_of schema foreign ≡ Some (table_at changes other) → cells_of (spec_of schema (table_at changes place)) (known_row schema changes place) foreign.columns ≡ key → has_null key ≡ false → key ≡ key_of (spec_of schema (table_at changes other)) (known_row schema changes other) → names schema (known_row schema changes place) (table_at changes place) (table_at changes other) (key_of (spec_of schema (table_at changes other)) (known_row schema changes other)) foreign ≡ true
  values_refer place other foreign key target is whole same =
      (λ i. table_is (table_at changes other) (target_of schema foreign) target i
      && not (has_null (is i))
      && same_values (is i) (key_of (spec_of schema (table_at changes other)) (known_row schema changes other)))
      ∙ (λ i. not (whole i) && same_values key (key_of (spec_of schema (table_at changes other)) (known_row schema changes other)))
      ∙ key_same key (key_of (spec_of schema (table_at changes other)) (known_row schema changes other)) same

  -- ---- cells that come from a row

  comes_named : (other : ℕ) (cs : List ColumnSpec) (cells : List RowCell) (name : List ℕ) → list_any (comes_from other) cells ≡ false → comes_from other (cell_named cs cells name) ≡ false
  comes_named other [] cells name none = refl
  comes_named other (c ∷ cs) [] name none = refl
  comes_named other (c ∷ cs) (cell ∷ cells) name none =
      let both = or_false (comes_from other cell) (list_any (comes_from other) cells) none in
      step (same_name c.name name) (cell_named cs cells name) both.0 (comes_named other cs cells name both.1)
    where
      step : (b : Bool) (rest : RowCell) → comes_from other cell ≡ false → comes_from other rest ≡ false → comes_from other (cond b cell rest) ≡ false
      step true rest e f = e
      step false rest e f = f

  pub comes_all : (other : ℕ) (cs : List ColumnSpec) (cells : List RowCell) (names : List (List ℕ)) → list_any (comes_from other) cells ≡ false → list_any (comes_from other) (map (cell_named cs cells) names) ≡ false
  comes_all other cs cells [] none = refl
  comes_all other cs cells (name ∷ names) none = or_none (comes_from other (cell_named cs cells name)) (list_any (comes_from other) (map (cell_named cs cells) names)) (comes_named other cs cells name none) (comes_all other cs cells names none)

  -- the parts of a key, put in, are the key
  read_parts : (whole : List Value) (a : ℕ) (parts : List RowCell) (key : List Value) → Drawn keys parts key → ((i : ℕ) → slice_index_or whole (a + i) Null ≡ slice_index_or key i Null) → map (λ i. slice_index_or whole i Null) (range_with_len a (length parts)) ≡ key
  read_parts whole a [] [] d at = refl
  read_parts whole a [] (v ∷ key) d at = absurd d
  read_parts whole a (cell ∷ parts) [] d at = absurd d
  read_parts whole a (cell ∷ parts) (v ∷ key) d at =
      let here : slice_index_or whole a Null ≡ v = ap (λ k. slice_index_or whole k Null) (plus_zero a) ∙ at 0 in
      λ i. here i ∷ read_parts whole (a + 1) parts key d.1 (λ k. ap (λ n. slice_index_or whole n Null) (plus_one a k) ∙ at (suc k)) i
    where
      plus_zero : (a : ℕ) → a ≡ a + 0
      plus_zero a = omega arith

      plus_one : (a k : ℕ) → (a + 1) + k ≡ a + suc k
      plus_one a k = omega arith

  map_map : (other : ℕ) (is : List ℕ) → map (value_of_cell keys) (map (KeyOf other) is) ≡ map (λ i. slice_index_or (key_of_new keys other) i Null) is
  map_map other [] = refl
  map_map other (i ∷ is) = ap (λ rest. slice_index_or (key_of_new keys other) i Null ∷ rest) (map_map other is)

  plus_none : (i : ℕ) → 0 + i ≡ i
  plus_none i = omega arith

  pub put_key : AllDrawn → (other : ℕ) → map (value_of_cell keys) (key_at schema changes other) ≡ key_of_new keys other
  put_key drawn other =
      map_map other (range_with_len 0 (length (key_parts (spec_at other) (first_cells schema changes other))))
      ∙ read_parts (key_of_new keys other) 0 (key_parts (spec_at other) (first_cells schema changes other)) (key_of_new keys other) (drawn other) (λ i. ap (λ n. slice_index_or (key_of_new keys other) n Null) (plus_none i))

  parts_come : (other : ℕ) (parts : List RowCell) (key : List Value) (a : ℕ) → Drawn keys parts key → (key ≡ [] → ⊥) → list_any (comes_from other) (map (KeyOf other) (range_with_len a (length parts))) ≡ true
  parts_come other [] [] a d some = absurd (some refl)
  parts_come other [] (v ∷ key) a d some = absurd d
  parts_come other (cell ∷ parts) key a d some = ap (λ b. b || list_any (comes_from other) (map (KeyOf other) (range_with_len (a + 1) (length parts)))) (eq-eqb other other refl)

  same_table : (t u : TableId) → Some t ≡ Some u → t ≡ u
  same_table t u e = cc

  and_false : (a b : Bool) → a ≡ true → (a && b) ≡ false → b ≡ false
  and_false true b e f = f
  and_false false b e f = absurd (true_false (sym e))

  open_or_known : (b : Bool) → (b ≡ true) ⊎ (b ≡ false)
  open_or_known true = inl refl
  open_or_known false = inr refl

  -- what is asked of a foreign key of a new row, that it may name no row that it does not refer to
  pub record IsSafe (place other : ℕ) (row guess : List Value) (foreign : ForeignSpec) : Type 0 where
    pub cells : cells_of (spec_of schema (table_at changes place)) row foreign.columns ≡ map (value_of_cell keys) (cells_named schema (table_at changes place) (first_cells schema changes place) foreign.columns)
    pub kind : IsOneKind schema changes foreign (cells_named schema (table_at changes place) (first_cells schema changes place) foreign.columns)
    pub guess_cells : cells_of (spec_of schema (table_at changes place)) guess foreign.columns ≡ map given_value (cells_named schema (table_at changes place) (first_cells schema changes place) foreign.columns)
    pub no_guess : (is_open schema changes other && names schema guess (table_at changes place) (table_at changes other) (key_of_new keys other) foreign) ≡ false
    pub no_value : names schema (known_row schema changes place) (table_at changes place) (table_at changes other) (key_of (spec_of schema (table_at changes other)) (known_row schema changes other)) foreign ≡ false
    pub no_part : list_any (comes_from other) (first_cells schema changes place) ≡ false
    pub some_key : key_of_new keys other ≡ [] → ⊥
    pub one_key : (q : ℕ) → q < length changes.fresh → table_at changes q ≡ table_at changes other → key_of_new keys q ≡ key_of_new keys other → q ≡ other

  pub names_not : AllDrawn → (place other : ℕ) (row guess : List Value) (foreign : ForeignSpec) → IsSafe place other row guess foreign → target_of schema foreign ≡ Some (table_at changes other) → has_null (cells_of (spec_of schema (table_at changes place)) row foreign.columns) ≡ false → cells_of (spec_of schema (table_at changes place)) row foreign.columns ≡ key_of_new keys other → ⊥
  names_not drawn place other row guess foreign safe target whole same = by_kind safe.kind
    where
      named : List RowCell
      named = cells_named schema (table_at changes place) (first_cells schema changes place) foreign.columns

      by_value : list_all is_given named ≡ true → (is_open schema changes other ≡ true) ⊎ (is_open schema changes other ≡ false) → ⊥
      by_value all (inl opens) =
          let guessed : cells_of (spec_of schema (table_at changes place)) guess foreign.columns ≡ key_of_new keys other = safe.guess_cells ∙ given_put named all ∙ sym safe.cells ∙ same in
          let no : names schema guess (table_at changes place) (table_at changes other) (key_of_new keys other) foreign ≡ false = and_false (is_open schema changes other) (names schema guess (table_at changes place) (table_at changes other) (key_of_new keys other) foreign) opens safe.no_guess in
          true_false (sym ((λ i. table_is (table_at changes other) (target_of schema foreign) target i && not (has_null (guessed i)) && same_values (guessed i) (key_of_new keys other))
          ∙ (λ i. not ((ap has_null (sym same) ∙ whole) i) && same_values (key_of_new keys other) (key_of_new keys other))
          ∙ key_same (key_of_new keys other) (key_of_new keys other) refl) ∙ no)
      by_value all (inr knows) =
          let is : cells_of (spec_of schema (table_at changes place)) (known_row schema changes place) foreign.columns ≡ key_of_new keys other =
          all_named (known_value schema changes (length changes.fresh)) refl (spec_at place) (first_cells schema changes place) foreign.columns
          ∙ given_known (length changes.fresh) named all ∙ sym safe.cells ∙ same in
          true_false (sym (values_refer place other foreign (key_of_new keys other) target is (ap has_null (sym same) ∙ whole) (sym (known_key drawn other knows))) ∙ safe.no_value)

      by_kind : IsOneKind schema changes foreign named → ⊥
      by_kind (inl all) = by_value all (open_or_known (is_open schema changes other))
      by_kind (inr from) =
          let key : key_of_new keys from.0 ≡ key_of_new keys other = sym (put_key drawn from.0) ∙ sym (ap (map (value_of_cell keys)) from.3) ∙ sym safe.cells ∙ same in
          let is : from.0 ≡ other = safe.one_key from.0 from.1 (same_table (table_at changes from.0) (table_at changes other) (sym from.2 ∙ target)) key in
          let comes : list_any (comes_from other) named ≡ true =
          ap (list_any (comes_from other)) (from.3 ∙ ap (key_at schema changes) is)
          ∙ parts_come other (key_parts (spec_at other) (first_cells schema changes other)) (key_of_new keys other) 0 (drawn other) safe.some_key in
          true_false (sym comes ∙ comes_all other (spec_at place) (first_cells schema changes place) foreign.columns safe.no_part)
