-- The texts of the cut of a select's rows.
use Rattle.std.specs.Prelude.{ℕ, ◌<◌, ◌^◌, ◌++◌, List, [], ◌∷◌, Option, Some, None, codes, pos}
use Rattle.base_core.specs.declared.value.Value.TheVariants as cell
use Rattle.base_core.specs.declared.dialect.Dialect.{Dialect}
use Rattle.base_core.specs.declared.dialect.Dialect.TheVariants.{Sqlite, Postgresql, Mysql}
use Rattle.sql_expressions.specs.Laid.{param}
use Rattle.sql_text.specs.Written.{Piece, words, value}

abbrev pub number_piece : ℕ → Piece
number_piece n = value param (cell.Int (pos n))

-- a number of rows is below 2 ^ 63
abbrev pub IsCut : Option ℕ → Type 0
IsCut None = Unit {0}
IsCut (Some n) = n < 2 ^ 63

abbrev pub row_count_pieces : List ℕ → ℕ → List Piece
row_count_pieces word n = words word ∷ number_piece n ∷ []

-- MySQL writes the offset first
abbrev pub both_pieces : Dialect → ℕ → ℕ → List Piece
both_pieces Sqlite l o = row_count_pieces (codes " LIMIT ") l ++ row_count_pieces (codes " OFFSET ") o
both_pieces Postgresql l o = row_count_pieces (codes " LIMIT ") l ++ row_count_pieces (codes " OFFSET ") o
both_pieces Mysql l o = row_count_pieces (codes " LIMIT ") o ++ row_count_pieces (codes ", ") l

abbrev pub offset_pieces : Dialect → ℕ → List Piece
offset_pieces Sqlite o = row_count_pieces (codes " LIMIT -1 OFFSET ") o
offset_pieces Postgresql o = row_count_pieces (codes " LIMIT ALL OFFSET ") o
offset_pieces Mysql o = row_count_pieces (codes " LIMIT ") o ++ words (codes ", 18446744073709551615") ∷ []

abbrev pub cut_pieces : Dialect → Option ℕ → Option ℕ → List Piece
cut_pieces dialect None None = []
cut_pieces dialect (Some l) None = row_count_pieces (codes " LIMIT ") l
cut_pieces dialect None (Some o) = offset_pieces dialect o
cut_pieces dialect (Some l) (Some o) = both_pieces dialect l o
