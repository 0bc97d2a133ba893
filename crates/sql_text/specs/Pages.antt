-- A page: a text as it is written, and whether there was memory for all of it.
use Rattle.std.specs.Prelude.{◌≡◌, Bool, true, false, List}
use Rattle.sql_text.specs.Written.{Piece, Written, put_all}

pub record Paged : Type 0 where
  pub written : Written
  pub is_whole : Bool

abbrev pub whole_page : Written → Paged
whole_page written = record { written = written; is_whole = true }

-- the page of a text for which memory ran out
abbrev pub broken_page : Written → Paged
broken_page written = record { written = written; is_whole = false }

-- with these pieces at the end
unfoldable pub put_on : Paged → List Piece → Paged
put_on page pieces = record { written = put_all page.written pieces; is_whole = page.is_whole }

-- a call wrote these pieces at the end, unless the page says that memory ran out
abbrev pub WroteOn : List Piece → Paged → Paged → Type 0
WroteOn pieces old new = new.is_whole ≡ true → new ≡ put_on old pieces
