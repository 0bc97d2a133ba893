-- The columns of a key with their places, and their kinds.
use Rattle.std.proofs.Common.{◌≡◌, ℕ, ◌+◌, Bool, true, false, cond, List, [], ◌∷◌, map, filter, refl, ap}
use Rattle.std.specs.List.{enumerate_from}
use Rattle.base_core.specs.declared.value.Kind.{Kind}
use Rattle.schema_core.specs.declared.table.ColumnSpec.{ColumnSpec}
use Rattle.schema_core.specs.Catalog.{kind_of}
use Rattle.mapping_laws.specs.Hierarchies.{kinds_of}

abbrev pub keys_placed : List ColumnSpec → List (ℕ × ColumnSpec)
keys_placed columns = filter (λ placed. placed.1.key) (enumerate_from 0 columns)

abbrev pub kinds_at : List (ℕ × ColumnSpec) → List Kind
kinds_at placed = map (λ (one : ℕ × ColumnSpec). kind_of one.1.kind) placed

kept_same : (b : Bool) (one : ℕ × ColumnSpec) (placed : List (ℕ × ColumnSpec)) (columns : List ColumnSpec) → kinds_at placed ≡ kinds_of columns
    → kinds_at (cond b (one ∷ placed) placed) ≡ kinds_of (cond b (one.1 ∷ columns) columns)
kept_same true one placed columns h = ap (λ (rest : List Kind). kind_of one.1.kind ∷ rest) h
kept_same false one placed columns h = h

pub kinds_placed : (n : ℕ) (columns : List ColumnSpec) → kinds_at (filter (λ placed. placed.1.key) (enumerate_from n columns)) ≡ kinds_of (filter (λ column. column.key) columns)
kinds_placed n [] = refl
kinds_placed n (column ∷ columns) =
    kept_same column.key (n, column) (filter (λ placed. placed.1.key) (enumerate_from (n + 1) columns)) (filter (λ other. other.key) columns) (kinds_placed (n + 1) columns)
