-- The keys of new rows.
use Rattle.std.proofs.Common.{◌≡◌, ◌<◌, ◌≤◌, ◌+◌, ℕ, Bool, true, false, cond, ◌&&◌, List, [], ◌∷◌, ◌++◌, length, drop, get_or, refl, sym, ap, ◌∙◌, subst, append_assoc, append-nil}
use Rattle.std.proofs.lemmas.Bool.{and_parts}
use Rattle.std.proofs.lemmas.List.{drop_more, drop_all}
use Rattle.std.specs.List.{list_all, filter}
use Rattle.std.specs.Cmp.Lexicographic.{pointwise}
use Rattle.base_core.specs.declared.value.Value.{Value}
use Rattle.schema_core.specs.declared.table.ColumnSpec.{ColumnSpec}
use Rattle.schema_core.specs.declared.table.TableSpec.{TableSpec}
use Rattle.schema_core.specs.Apply.{with_key}
use Rattle.schema_core.specs.Tables.{fits, is_legal_row, is_null, key_cells}
use Rattle.schema_core.specs.WellFormed.{AreKeysOf, IsDrawnFor}
use Rattle.sqlite_statements.specs.Endings.{IsKeyFor}

-- ---- a key that is open, and one that is given

pub drawn_given : (key : List Value) → IsDrawnFor key key
drawn_given [] = refl
drawn_given (v ∷ key) = ((λ _. refl), drawn_given key)

null_is_open : (v w : Value) → is_null v ≡ true → (is_null v ≡ false → w ≡ v)
null_is_open v w null = λ given. cc

open_by : (k : Bool) (column : ColumnSpec) (columns : List ColumnSpec) (n v : Value) (row : List Value) → column.key ≡ k
    → (list_all is_null (key_cells columns row) ≡ true → IsDrawnFor (key_cells columns row) (key_cells columns (with_key columns n row)))
    → list_all is_null (cond k (v ∷ key_cells columns row) (key_cells columns row)) ≡ true
    → IsDrawnFor (cond k (v ∷ key_cells columns row) (key_cells columns row)) (cond k (cond k n v ∷ key_cells columns (with_key columns n row)) (key_cells columns (with_key columns n row)))
open_by true column columns n v row is more null =
    let both = and_parts (is_null v) (list_all is_null (key_cells columns row)) null in
    (null_is_open v n both.0, more both.1)
open_by false column columns n v row is more null = more null

pub drawn_open : (columns : List ColumnSpec) (n : Value) (row : List Value) → list_all is_null (key_cells columns row) ≡ true → IsDrawnFor (key_cells columns row) (key_cells columns (with_key columns n row))
drawn_open [] n row null = refl
drawn_open (column ∷ columns) n [] null = refl
drawn_open (column ∷ columns) n (v ∷ row) null = open_by column.key column columns n v row refl (drawn_open columns n row) null

pub ruleset drawn = (drawn_given, drawn_open)

-- ---- a legal row has a key

key_by : (k : Bool) (column : ColumnSpec) (columns : List ColumnSpec) (v : Value) (row : List Value) → fits column v ≡ true → pointwise fits (filter (λ c. c.key) columns) (key_cells columns row) ≡ true
    → pointwise fits (cond k (column ∷ filter (λ c. c.key) columns) (filter (λ c. c.key) columns)) (cond k (v ∷ key_cells columns row) (key_cells columns row)) ≡ true
key_by true column columns v row one more = ap (λ b. b && pointwise fits (filter (λ c. c.key) columns) (key_cells columns row)) one ∙ more
key_by false column columns v row one more = more

key_fits : (columns : List ColumnSpec) (row : List Value) → pointwise fits columns row ≡ true → pointwise fits (filter (λ c. c.key) columns) (key_cells columns row) ≡ true
key_fits [] [] e = refl
key_fits [] (v ∷ row) e = cc
key_fits (column ∷ columns) [] e = cc
key_fits (column ∷ columns) (v ∷ row) e =
    let both = and_parts (fits column v) (pointwise fits columns row) e in
    key_by column.key column columns v row both.0 (key_fits columns row both.1)

-- a legal row's key is one for the row that it comes of
pub key_is_for : (spec : TableSpec) (row filled key : List Value) → IsDrawnFor (key_cells spec.columns row) (key_cells spec.columns filled) → is_legal_row spec filled ≡ true
    → key ≡ key_cells spec.columns filled → IsKeyFor spec row key
key_is_for spec row filled key given legal is = subst (λ (k : List Value). IsKeyFor spec row k) (sym is) (key_fits spec.columns filled legal, given)

-- ---- keys of rows

-- what the keys of the rows that are left add
abbrev pub AreWhole : TableSpec → List (List Value) → ℕ → List (List Value) → Type 0
AreWhole spec rows i keys = (more : List (List Value)) → AreKeysOf spec (drop i rows) more → AreKeysOf spec rows (keys ++ more)

pub keys_step : (spec : TableSpec) (rows keys : List (List Value)) (key : List Value) (i : ℕ) (d : List Value) → i < length rows → IsKeyFor spec (get_or rows i d) key → AreWhole spec rows i keys → AreWhole spec rows (i + 1) (keys ++ key ∷ [])
keys_step spec rows keys key i d h k so = λ more ks.
    subst (AreKeysOf spec rows) (sym (append_assoc keys (key ∷ []) more)) (so (key ∷ more) (subst (λ zs. AreKeysOf spec zs (key ∷ more)) (sym (drop_more rows i d h)) (k.0, k.1, ks)))

pub keys_end : (spec : TableSpec) (rows keys : List (List Value)) (i : ℕ) → length rows ≤ i → AreWhole spec rows i keys → AreKeysOf spec rows keys
keys_end spec rows keys i h so = subst (AreKeysOf spec rows) (append-nil keys) (so [] (subst (λ zs. AreKeysOf spec zs []) (sym (drop_all i rows h)) refl))
