-- The place of a column of a name, and the cell there.
use Rattle.std.proofs.Common.{◌≡◌, ℕ, zero, suc, ◌+◌, ◌<◌, ◌≤◌, true, false, cond, List, [], ◌∷◌, ◌++◌, map, length, get_or, drop, take, refl, sym, ap, ◌∙◌, add-one, drop-cons, arith}
use Rattle.std.specs.Prelude.{slice_index_or}
use Rattle.std.proofs.lemmas.List.{drop-drop}
use Rattle.base_core.specs.declared.value.Value.{Value}
use Rattle.base_core.specs.declared.value.Value.TheVariants.{Null}
use Rattle.schema_core.specs.declared.table.ColumnSpec.{ColumnSpec}
use Rattle.schema_core.specs.Catalog.{same_name}
use Rattle.schema_core.specs.Tables.{cell_of}

-- no column before this place has the name
abbrev pub IsAfter : List ColumnSpec → List ℕ → ℕ → Type 0
IsAfter columns name place = (row : List Value) → cell_of columns row name ≡ cell_of (drop place columns) (drop place row) name

here : (columns : List ColumnSpec) (row : List Value) (name : List ℕ) (c : ColumnSpec) → same_name c.name name ≡ true → cell_of (c ∷ columns) row name ≡ slice_index_or row 0 Null
here columns [] name c is = refl
here columns (cell ∷ row) name c is = ap (λ b. cond b cell (cell_of columns row name)) is

beyond : (row : List Value) (i : ℕ) → slice_index_or (drop i row) 0 Null ≡ slice_index_or row i Null
beyond row zero = refl
beyond [] (suc i) = refl
beyond (c ∷ row) (suc i) = beyond row i

next : (columns : List ColumnSpec) (row : List Value) (name : List ℕ) (c : ColumnSpec) → same_name c.name name ≡ false → cell_of (c ∷ columns) row name ≡ cell_of columns (drop 1 row) name
next [] [] name c other = refl
next (d ∷ columns) [] name c other = refl
next columns (cell ∷ row) name c other = ap (λ b. cond b cell (cell_of columns row name)) other

at : (columns : List ColumnSpec) (i : ℕ) (d : ColumnSpec) → i < length columns → drop i columns ≡ get_or columns i d ∷ drop (i + 1) columns
at columns i d h = rw (add-one, drop-cons columns i d) refl

pub place_hit : (columns : List ColumnSpec) (name : List ℕ) (i : ℕ) (d : ColumnSpec) → i < length columns → IsAfter columns name i → same_name (get_or columns i d).name name ≡ true
    → (row : List Value) → slice_index_or row i Null ≡ cell_of columns row name
place_hit columns name i d h after is row =
    sym (after row ∙ ap (λ cs. cell_of cs (drop i row) name) (at columns i d h) ∙ here (drop (i + 1) columns) (drop i row) name (get_or columns i d) is ∙ beyond row i)

pub place_next : (columns : List ColumnSpec) (name : List ℕ) (i : ℕ) (d : ColumnSpec) → i < length columns → IsAfter columns name i → same_name (get_or columns i d).name name ≡ false → IsAfter columns name (i + 1)
place_next columns name i d h after other row =
    after row ∙ ap (λ cs. cell_of cs (drop i row) name) (at columns i d h) ∙ next (drop (i + 1) columns) (drop i row) name (get_or columns i d) other
    ∙ ap (λ r. cell_of (drop (i + 1) columns) r name) (drop-drop 1 i row)

pub ruleset place_steps = (place_hit, place_next)
