-- The text of an expression, level by level. A literal that stands alone takes the base name that it is given, and one beside a plain
-- column that column's name.
use Rattle.std.specs.Prelude.{ℕ, ◌++◌, Bool, true, false, nat_lt, List, [], ◌∷◌, Option, Some, None, slice_get, if◌then◌else◌, codes}
use Rattle.base_core.specs.declared.ids.ColumnNo.{ColumnNo}
use Rattle.base_core.specs.declared.value.ArithOp.{ArithOp}
use Rattle.base_core.specs.declared.value.ArithOp.TheVariants.{Add, Sub, Mul}
use Rattle.base_core.specs.declared.value.Value.{Value}
use Rattle.schema_core.specs.Catalog.{Catalog, spec_of}
use Rattle.expr_types.specs.declared.expr.CompareOp.{CompareOp}
use Rattle.expr_types.specs.declared.expr.CompareOp.TheVariants.{Equal, NotEqual, Less, LessEqual, Greater, GreaterEqual}
use Rattle.expr_types.specs.declared.expr.Expr.{Expr}
use Rattle.expr_types.specs.declared.expr.Expr.TheOpen.{Expr-F}
use Rattle.expr_types.specs.declared.expr.Expr.TheFolds.{fold-Expr}
use Rattle.expr_types.specs.declared.expr.Func.{Func}
use Rattle.expr_types.specs.declared.expr.Func.TheVariants.{Count, Sum, Min, Max, Lower, Upper, Length, Coalesce}
use Rattle.expr_types.specs.declared.expr.Origin.{Origin}
use Rattle.sql_semantics.specs.Plain.{name_of, name_or}
use Rattle.base_core.specs.declared.dialect.Dialect.{Dialect}
use Rattle.base_core.specs.declared.dialect.Dialect.TheVariants.{Sqlite, Postgresql, Mysql}
use Rattle.sql_text.specs.Columns.{column_name}
use Rattle.sql_text.specs.Rules as rules
use Rattle.sql_text.specs.Words.{null_word, like_word, ilike_word, in_word, empty_word, between_word, distinct_word, sqlite_distinct_word}
use Rattle.sql_text.specs.Written.{Piece, words, name, value, with_separators}

-- ---- names

-- the name of a column of a source in scope
abbrev pub column_shown : Catalog → Option Origin → ColumnNo → List ℕ
column_shown schema None column = []
column_shown schema (Some origin) column = column_name schema origin.table column

-- the name of a source in scope
abbrev pub source_shown : Catalog → Option Origin → List ℕ
source_shown schema None = []
source_shown schema (Some origin) = name_of schema origin

abbrev pub column_pieces : Catalog → Option Origin → ColumnNo → List Piece
column_pieces schema origin column = name (source_shown schema origin) ∷ words (codes ".") ∷ name (column_shown schema origin column) ∷ []

abbrev pub alias_pieces : Option (List ℕ) → List Piece
alias_pieces None = []
alias_pieces (Some alias) = words (codes " AS ") ∷ name alias ∷ []

-- a source as it stands behind FROM and JOIN
abbrev pub source_pieces : Catalog → Origin → List Piece
source_pieces schema origin = name (spec_of schema origin.table).name ∷ alias_pieces origin.alias

-- ---- words

abbrev pub compare_word : CompareOp → List ℕ
compare_word Equal = codes " = "
compare_word NotEqual = codes " != "
compare_word Less = codes " < "
compare_word LessEqual = codes " <= "
compare_word Greater = codes " > "
compare_word GreaterEqual = codes " >= "

abbrev pub arith_word : ArithOp → List ℕ
arith_word Add = codes " + "
arith_word Sub = codes " - "
arith_word Mul = codes " * "

abbrev pub no_in_word : Bool → List ℕ
no_in_word negated = empty_word negated ++ codes ")"

abbrev pub exists_word : Bool → List ℕ
exists_word false = codes "EXISTS (SELECT 1 FROM "
exists_word true = codes "NOT EXISTS (SELECT 1 FROM "

abbrev pub function_word : Func → List ℕ
function_word Count = codes "count("
function_word Sum = codes "sum("
function_word Min = codes "min("
function_word Max = codes "max("
function_word Lower = codes "lower("
function_word Upper = codes "upper("
function_word Length = codes "length("
function_word Coalesce = codes "coalesce("

-- ---- levels

-- 1 OR, 2 AND, 3 NOT, 4 comparisons, 5 `+ - ||`, 6 `*`, 7 unary minus, 8 all else
abbrev pub arith_level : ArithOp → ℕ
arith_level Add = 5
arith_level Sub = 5
arith_level Mul = 6

abbrev pub concat_level : Dialect → ℕ
concat_level Sqlite = 5
concat_level Postgresql = 5
concat_level Mysql = 8

abbrev pub distinct_level : Dialect → Bool → ℕ
distinct_level Sqlite negated = 4
distinct_level Postgresql negated = 4
distinct_level Mysql false = 3
distinct_level Mysql true = 4

abbrev pub in_level : List Value → ℕ
in_level [] = 8
in_level (v ∷ values) = 4

abbrev pub exists_level : Bool → ℕ
exists_level negated = rules.exists_level negated

abbrev pub level_at : {A : Type 0} → Dialect → Expr-F A → ℕ
level_at dialect (Expr-F.Column source column) = 8
level_at dialect (Expr-F.Lit v) = 8
level_at dialect (Expr-F.Compare op a b) = 4
level_at dialect (Expr-F.IsNull negated a) = 4
level_at dialect (Expr-F.And parts) = 2
level_at dialect (Expr-F.Or parts) = 1
level_at dialect (Expr-F.Not a) = 3
level_at dialect (Expr-F.Arith op a b) = arith_level op
level_at dialect (Expr-F.Neg a) = 7
level_at dialect (Expr-F.Concat a b) = concat_level dialect
level_at dialect (Expr-F.Like negated a b) = 4
level_at dialect (Expr-F.Ilike negated a b) = 4
level_at dialect (Expr-F.InList negated a values) = in_level values
level_at dialect (Expr-F.Between negated a low high) = 4
level_at dialect (Expr-F.Distinct negated a b) = distinct_level dialect negated
level_at dialect (Expr-F.Call function operands) = 8
level_at dialect Expr-F.CountAll = 8
level_at dialect (Expr-F.Exists negated origin condition) = exists_level negated

-- ---- expressions

pub record Laid : Type 0 where
  pub level : ℕ
  -- the column's name, where the level is a plain column
  pub plain : List Origin → Option (List ℕ)
  -- the text under these sources, with this base name for a literal that stands alone
  pub pieces : List Origin → List ℕ → List Piece

abbrev pub param : List ℕ
param = codes "param"

-- the base name beside an operand, and beside two, of which the first column counts
abbrev pub beside : List Origin → Laid → List ℕ
beside scope a = name_or param (a.plain scope)

abbrev pub beside_two : List Origin → Laid → Laid → List ℕ
beside_two scope a b = name_or (beside scope b) (a.plain scope)

-- text between an opening word and its closing parenthesis
abbrev pub with_closing_parenthesis : List ℕ → List Piece → List Piece
with_closing_parenthesis opening inner = words opening ∷ inner ++ words (codes ")") ∷ []

-- an operand, in parentheses where its level is below the least one
abbrev pub under : ℕ → Laid → List Origin → List ℕ → List Piece
under least a scope base = if nat_lt a.level least then with_closing_parenthesis (codes "(") (a.pieces scope base) else a.pieces scope base

-- two operands side by side, each named by the other
abbrev pub two : ℕ → ℕ → List ℕ → Laid → Laid → List Origin → List Piece
two left right word a b scope = under left a scope (beside scope b) ++ words word ∷ under right b scope (beside scope a)

-- operands that do not name each other
unfoldable pub part : ℕ → List Origin → Laid → List Piece
part least scope a = under least a scope param

abbrev pub parts : ℕ → List ℕ → List Laid → List Origin → List Piece
parts least word operands scope = with_separators word (part least scope) operands

-- a value of a list
unfoldable pub value_pieces : List ℕ → Value → List Piece
value_pieces base v = value base v ∷ []

abbrev pub arith_pieces : ArithOp → Laid → Laid → List Origin → List Piece
arith_pieces Add a b scope = two 5 6 (arith_word Add) a b scope
arith_pieces Sub a b scope = two 5 6 (arith_word Sub) a b scope
arith_pieces Mul a b scope = two 6 7 (arith_word Mul) a b scope

abbrev pub concat_pieces : Dialect → Laid → Laid → List Origin → List Piece
concat_pieces Sqlite a b scope = two 5 6 (codes " || ") a b scope
concat_pieces Postgresql a b scope = two 5 6 (codes " || ") a b scope
concat_pieces Mysql a b scope = with_closing_parenthesis (codes "concat(") (two 5 6 (codes ", ") a b scope)

abbrev pub lower_like_word : Bool → List ℕ
lower_like_word negated = codes ")" ++ (like_word negated ++ codes "lower(")

abbrev pub lower_like : Bool → Laid → Laid → List Origin → List Piece
lower_like negated a b scope = with_closing_parenthesis (codes "lower(") (two 5 5 (lower_like_word negated) a b scope)

abbrev pub ilike_pieces : Dialect → Bool → Laid → Laid → List Origin → List Piece
ilike_pieces Sqlite negated a b scope = lower_like negated a b scope
ilike_pieces Postgresql negated a b scope = two 5 5 (ilike_word negated) a b scope
ilike_pieces Mysql negated a b scope = lower_like negated a b scope

abbrev pub no_list : Bool → Laid → List Origin → List Piece
no_list negated a scope = words (codes "(") ∷ under 5 a scope param ++ words (no_in_word negated) ∷ []

abbrev pub full_list : Bool → Laid → List Value → List Origin → List Piece
full_list negated a values scope =
    under 5 a scope param ++ words (in_word negated) ∷ with_separators (codes ", ") (value_pieces (beside scope a)) values ++ words (codes ")") ∷ []

abbrev pub in_pieces : Bool → Laid → List Value → List Origin → List Piece
in_pieces negated a [] scope = no_list negated a scope
in_pieces negated a (v ∷ values) scope = full_list negated a (v ∷ values) scope

-- an operand behind a word, and one before it
abbrev pub behind : List ℕ → Laid → List Origin → List Piece
behind word a scope = words word ∷ under 8 a scope param

abbrev pub before : Laid → List ℕ → List Origin → List Piece
before a word scope = under 5 a scope param ++ words word ∷ []

abbrev pub between_pieces : Bool → Laid → Laid → Laid → List Origin → List Piece
between_pieces negated a low high scope =
    under 5 a scope (beside_two scope low high) ++ words (between_word negated) ∷ under 5 low scope (beside scope a) ++ words (codes " AND ") ∷ under 5 high scope (beside scope a)

abbrev pub distinct_pieces : Dialect → Bool → Laid → Laid → List Origin → List Piece
distinct_pieces Sqlite negated a b scope = two 5 5 (sqlite_distinct_word negated) a b scope
distinct_pieces Postgresql negated a b scope = two 5 5 (distinct_word negated) a b scope
distinct_pieces Mysql false a b scope = with_closing_parenthesis (codes "NOT (") (two 5 5 (codes " <=> ") a b scope)
distinct_pieces Mysql true a b scope = two 5 5 (codes " <=> ") a b scope

abbrev pub call_pieces : Func → List Laid → List Origin → List Piece
call_pieces function operands scope = with_closing_parenthesis (function_word function) (parts 1 (codes ", ") operands scope)

abbrev pub exists_pieces : Catalog → Bool → Origin → Laid → List Origin → List Piece
exists_pieces schema negated origin condition scope =
    words (exists_word negated) ∷ source_pieces schema origin ++ words (codes " WHERE ") ∷ condition.pieces (scope ++ origin ∷ []) param ++ words (codes ")") ∷ []

abbrev pub pieces_at : Dialect → Catalog → Expr-F Laid → List Origin → List ℕ → List Piece
pieces_at dialect schema (Expr-F.Column source column) scope base = column_pieces schema (slice_get scope source) column
pieces_at dialect schema (Expr-F.Lit v) scope base = value base v ∷ []
pieces_at dialect schema (Expr-F.Compare op a b) scope base = two 5 5 (compare_word op) a b scope
pieces_at dialect schema (Expr-F.IsNull negated a) scope base = before a (null_word negated) scope
pieces_at dialect schema (Expr-F.And operands) scope base = parts 3 (codes " AND ") operands scope
pieces_at dialect schema (Expr-F.Or operands) scope base = parts 2 (codes " OR ") operands scope
pieces_at dialect schema (Expr-F.Not a) scope base = behind (codes "NOT ") a scope
pieces_at dialect schema (Expr-F.Arith op a b) scope base = arith_pieces op a b scope
pieces_at dialect schema (Expr-F.Neg a) scope base = behind (codes "-") a scope
pieces_at dialect schema (Expr-F.Concat a b) scope base = concat_pieces dialect a b scope
pieces_at dialect schema (Expr-F.Like negated a b) scope base = two 5 5 (like_word negated) a b scope
pieces_at dialect schema (Expr-F.Ilike negated a b) scope base = ilike_pieces dialect negated a b scope
pieces_at dialect schema (Expr-F.InList negated a values) scope base = in_pieces negated a values scope
pieces_at dialect schema (Expr-F.Between negated a low high) scope base = between_pieces negated a low high scope
pieces_at dialect schema (Expr-F.Distinct negated a b) scope base = distinct_pieces dialect negated a b scope
pieces_at dialect schema (Expr-F.Call function operands) scope base = call_pieces function operands scope
pieces_at dialect schema Expr-F.CountAll scope base = words (codes "count(*)") ∷ []
pieces_at dialect schema (Expr-F.Exists negated origin condition) scope base = exists_pieces schema negated origin condition scope

abbrev pub plain_at : {A : Type 0} → Catalog → Expr-F A → List Origin → Option (List ℕ)
plain_at schema (Expr-F.Column source column) scope = Some (column_shown schema (slice_get scope source) column)
plain_at schema level scope = None

abbrev pub laid_level : Dialect → Catalog → Expr-F Laid → Laid
laid_level dialect schema level = record { level = level_at dialect level; plain = plain_at schema level; pieces = pieces_at dialect schema level }

-- an expression as it is laid out
unfoldable pub laid : Dialect → Catalog → Expr → Laid
laid dialect schema = fold-Expr Laid (laid_level dialect schema)
