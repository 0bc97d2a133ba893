-- One more column with its value.
use Rattle.std.proofs.Common.{◌≡◌, ◌<◌, ◌≤◌, ◌+◌, ℕ, List, [], ◌∷◌, ◌++◌, length, drop, get_or, sym, ap, ◌∙◌, append_assoc, append-nil, arith}
use Rattle.std.proofs.lemmas.List.{drop_more, drop_all}
use Rattle.base_core.specs.declared.ids.ColumnNo.{ColumnNo}
use Rattle.base_core.specs.declared.value.Value.{Value}
use Rattle.sql_semantics.specs.Taken.{column_values}

pub pair_more : (columns : List ColumnNo) (values : List Value) (i : ℕ) (c : ColumnNo) (v : Value) → i < length columns → i < length values → c ≡ get_or columns i c → v ≡ get_or values i v
    → column_values (drop i columns) (drop i values) ≡ (c, v) ∷ column_values (drop (i + 1) columns) (drop (i + 1) values)
pair_more columns values i c v l m p q =
    ap (λ cs. column_values cs (drop i values)) (drop_more columns i c l) ∙ ap (column_values (get_or columns i c ∷ drop (i + 1) columns)) (drop_more values i v m)
    ∙ ap (λ d. (d, get_or values i v) ∷ column_values (drop (i + 1) columns) (drop (i + 1) values)) (sym p) ∙ ap (λ w. (c, w) ∷ column_values (drop (i + 1) columns) (drop (i + 1) values)) (sym q)

pub pair_end : (columns : List ColumnNo) (values : List Value) (i : ℕ) → length columns ≤ i → column_values (drop i columns) (drop i values) ≡ []
pair_end columns values i l = ap (λ cs. column_values cs (drop i values)) (drop_all i columns l)

pub ruleset pairs = (pair_more, pair_end, append_assoc, append-nil)
