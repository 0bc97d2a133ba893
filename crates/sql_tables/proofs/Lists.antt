-- Lists that stand in CREATE TABLE.
use Rattle.std.proofs.Common.{◌≡◌, ℕ, ◌+◌, ◌==◌, Bool, true, false, cond, List, [], ◌∷◌, ◌++◌, codes, ap, ◌∙◌}
use Rattle.std.specs.List.{list_any}
use Rattle.schema_core.specs.Catalog.{Catalog}
use Rattle.schema_core.specs.declared.table.ColumnSpec.{ColumnSpec}
use Rattle.schema_core.specs.declared.table.ForeignSpec.{ForeignSpec}
use Rattle.sql_text.specs.Pages.{Paged, WroteOn, put_on}
use Rattle.sql_text.specs.Written.{words, name}
use Rattle.sql_text.proofs.Pages.{more_on, wrote_then}
use Rattle.sql_tables.specs.Ddl.{key_names, foreign_pieces, foreigns_pieces}

-- a column of the key, behind its word
pub key_next : (word : List ℕ) (column : ColumnSpec) (rest xs : List ColumnSpec) (old mid new done : Paged) → xs ≡ column ∷ rest → column.key ≡ true
    → (old.is_whole ≡ true → put_on old (key_names word xs) ≡ done) → WroteOn (words word ∷ []) old mid → WroteOn (name column.name ∷ []) mid new → new.is_whole ≡ true → put_on new (key_names (codes ", ") rest) ≡ done
key_next word column rest xs old mid new done xs-is key so-far first second =
    more_on (words word ∷ name column.name ∷ []) (key_names (codes ", ") rest) (key_names word xs) old new done
    (ap (key_names word) xs-is ∙ ap (λ (b : Bool). cond b (words word ∷ name column.name ∷ key_names (codes ", ") rest) (key_names word rest)) key)
    so-far
    (wrote_then (words word ∷ []) (name column.name ∷ []) old mid new first second)

-- a foreign key that does not come later
pub foreign_next : (schema : Catalog) (later : List ℕ) (number : ℕ) (foreign : ForeignSpec) (rest xs : List ForeignSpec) (old mid new done : Paged) → xs ≡ foreign ∷ rest → list_any (λ other. other == number) later ≡ false
    → (old.is_whole ≡ true → put_on old (foreigns_pieces schema later number xs) ≡ done) → WroteOn (words (codes ", ") ∷ []) old mid → WroteOn (foreign_pieces schema foreign) mid new
    → new.is_whole ≡ true → put_on new (foreigns_pieces schema later (number + 1) rest) ≡ done
foreign_next schema later number foreign rest xs old mid new done xs-is here so-far first second =
    more_on (words (codes ", ") ∷ foreign_pieces schema foreign) (foreigns_pieces schema later (number + 1) rest) (foreigns_pieces schema later number xs) old new done
    (ap (foreigns_pieces schema later number) xs-is ∙ ap (λ (b : Bool). cond b (foreigns_pieces schema later (number + 1) rest) (words (codes ", ") ∷ foreign_pieces schema foreign ++ foreigns_pieces schema later (number + 1) rest)) here)
    so-far
    (wrote_then (words (codes ", ") ∷ []) (foreign_pieces schema foreign) old mid new first second)
