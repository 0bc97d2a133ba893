-- The texts of selects.
use Rattle.std.specs.Prelude.{ℕ, ◌++◌, Bool, true, false, List, [], ◌∷◌, map, Option, Some, None, codes}
use Rattle.schema_core.specs.Catalog.{Catalog}
use Rattle.expr_types.specs.declared.expr.Expr.{Expr}
use Rattle.expr_types.specs.declared.expr.Origin.{Origin}
use Rattle.expr_types.specs.declared.select.Joined.{Joined}
use Rattle.expr_types.specs.declared.select.Select.{Select}
use Rattle.sql_semantics.specs.Plain.{sources_of}
use Rattle.base_core.specs.declared.dialect.Dialect.{Dialect}
use Rattle.sql_text.specs.Words.{select_word, join_word}
use Rattle.sql_expressions.specs.Laid.{laid, param, parts, source_pieces}
use Rattle.sql_text.specs.Written.{Piece, words, name, with_separators}
use Rattle.sql_rows.specs.Cuts.{cut_pieces}

-- an expression by itself
abbrev pub whole : Dialect → Catalog → List Origin → Expr → List Piece
whole dialect schema scope e = (laid dialect schema e).pieces scope param

abbrev pub named_pieces : Option (List ℕ) → List Piece
named_pieces None = []
named_pieces (Some shown) = words (codes " AS ") ∷ name shown ∷ []

abbrev pub item_pieces : Dialect → Catalog → List Origin → Expr × Option (List ℕ) → List Piece
item_pieces dialect schema scope item = whole dialect schema scope item.0 ++ named_pieces item.1

abbrev pub join_pieces : Dialect → Catalog → List Origin → Joined → List Piece
join_pieces dialect schema scope join = words (join_word join.left) ∷ source_pieces schema join.origin ++ words (codes " ON ") ∷ whole dialect schema scope join.on

-- each further source, with its condition under the sources up to it
abbrev pub joins_pieces : Dialect → Catalog → List Origin → List Joined → List Piece
joins_pieces dialect schema before [] = []
joins_pieces dialect schema before (join ∷ joins) =
    join_pieces dialect schema (before ++ join.origin ∷ []) join ++ joins_pieces dialect schema (before ++ join.origin ∷ []) joins

-- a word with the condition behind it, where there is one
abbrev pub clause_pieces : Dialect → Catalog → List Origin → List ℕ → Option Expr → List Piece
clause_pieces dialect schema scope word None = []
clause_pieces dialect schema scope word (Some e) = words word ∷ whole dialect schema scope e

abbrev pub group_by_pieces : Dialect → Catalog → List Origin → List Expr → List Piece
group_by_pieces dialect schema scope groups = words (codes " GROUP BY ") ∷ parts 1 (codes ", ") (map (laid dialect schema) groups) scope

abbrev pub groups_pieces : Dialect → Catalog → List Origin → List Expr → List Piece
groups_pieces dialect schema scope [] = []
groups_pieces dialect schema scope (e ∷ groups) = group_by_pieces dialect schema scope (e ∷ groups)

abbrev pub desc_pieces : Bool → List Piece
desc_pieces false = []
desc_pieces true = words (codes " DESC") ∷ []

abbrev pub key_pieces : Dialect → Catalog → List Origin → Expr × Bool → List Piece
key_pieces dialect schema scope key = whole dialect schema scope key.0 ++ desc_pieces key.1

abbrev pub order_by_pieces : Dialect → Catalog → List Origin → List (Expr × Bool) → List Piece
order_by_pieces dialect schema scope keys = words (codes " ORDER BY ") ∷ with_separators (codes ", ") (key_pieces dialect schema scope) keys

abbrev pub order_pieces : Dialect → Catalog → List Origin → List (Expr × Bool) → List Piece
order_pieces dialect schema scope [] = []
order_pieces dialect schema scope (key ∷ keys) = order_by_pieces dialect schema scope (key ∷ keys)

-- what stands before FROM
abbrev pub head_pieces : Dialect → Catalog → Select → List Piece
head_pieces dialect schema s = words (select_word s.distinct) ∷ with_separators (codes ", ") (item_pieces dialect schema (sources_of s)) s.items

-- the sources
abbrev pub from_pieces : Dialect → Catalog → Select → List Piece
from_pieces dialect schema s = words (codes " FROM ") ∷ source_pieces schema s.first ++ joins_pieces dialect schema (s.first ∷ []) s.joins

-- the clauses behind the sources
abbrev pub tail_pieces : Dialect → Catalog → List Origin → Select → List Piece
tail_pieces dialect schema scope s =
    clause_pieces dialect schema scope (codes " WHERE ") s.filter
    ++ groups_pieces dialect schema scope s.groups
    ++ clause_pieces dialect schema scope (codes " HAVING ") s.having
    ++ order_pieces dialect schema scope s.order
    ++ cut_pieces dialect s.limit s.offset

unfoldable pub select_pieces : Dialect → Catalog → Select → List Piece
select_pieces dialect schema s = head_pieces dialect schema s ++ from_pieces dialect schema s ++ tail_pieces dialect schema (sources_of s) s
