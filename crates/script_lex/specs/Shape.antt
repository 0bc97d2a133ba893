-- The kind and the length of the token that a text begins with. A text reads as 0 past its end.
use Rattle.std.specs.Prelude.{◌≡◌, ◌≤◌, ℕ, ◌+◌, ◌%◌, Bool, true, false, not, ◌&&◌, ◌||◌, if◌then◌else◌, ◌==◌, List, [], ◌∷◌, ◌++◌, take, drop, codes, slice_index, Option, Some, None}
use Rattle.std.specs.Char.{is_ascii_digit, is_ascii_hexdigit, is_ascii_alphanumeric}
use Rattle.std.specs.List.{prefix_len}
use Rattle.std.specs.Str.{bytes_eq}
use Rattle.script_lex.specs.declared.shape.Class.{Class}
use Rattle.script_lex.specs.declared.shape.Class.TheVariants as class
use Rattle.script_lex.specs.declared.kind.Kind.{Kind}
use Rattle.script_lex.specs.declared.kind.Kind.TheVariants as k

abbrev pub Text : Type 0
Text = List ℕ

abbrev pub is_in : Class → ℕ → Bool
is_in class.Digit b = is_ascii_digit b
is_in class.Hex b = is_ascii_hexdigit b
is_in class.Word b = is_ascii_alphanumeric b || b == 95

-- the first place from `at` on whose byte is not of the class
abbrev pub past : Class → Text → ℕ → ℕ
past c z at = at + prefix_len (is_in c) (drop at z)

abbrev pub lookup : List (Text × Kind) → Text → Kind
lookup [] word = k.Other
lookup (w ∷ ws) word = if bytes_eq w.0 word then w.1 else lookup ws word

-- the words that are no name
abbrev pub reserved_words : List (Text × Kind)
reserved_words =
    (codes "and", k.And) ∷ (codes "or", k.Or) ∷ (codes "not", k.Not) ∷ (codes "like", k.Like) ∷
    (codes "ilike", k.Ilike) ∷ (codes "in", k.In) ∷ (codes "between", k.Between) ∷ (codes "is", k.Is) ∷
    (codes "exists", k.Exists) ∷ (codes "null", k.Null) ∷ (codes "true", k.True) ∷ (codes "false", k.False) ∷
    (codes "where", k.Where) ∷ (codes "order", k.Order) ∷ (codes "group", k.Group) ∷ (codes "having", k.Having) ∷
    (codes "limit", k.Limit) ∷ (codes "offset", k.Offset) ∷ (codes "join", k.Join) ∷ (codes "left", k.Left) ∷
    (codes "on", k.On) ∷ (codes "from", k.From) ∷ (codes "as", k.As) ∷ (codes "with", k.With) ∷
    (codes "by", k.By) ∷ (codes "asc", k.Asc) ∷ (codes "desc", k.Desc) ∷ (codes "distinct", k.Distinct) ∷ []

-- the words of the forms that are also names
abbrev pub other_words : List (Text × Kind)
other_words =
    (codes "table", k.Table) ∷ (codes "class", k.Class) ∷ (codes "discriminator", k.Discriminator) ∷
    (codes "identity", k.Identity) ∷ (codes "extends", k.Extends) ∷ (codes "owns", k.Owns) ∷
    (codes "one", k.One) ∷ (codes "many", k.Many) ∷ (codes "validate", k.Validate) ∷ (codes "end", k.End) ∷
    (codes "back", k.Back) ∷ (codes "backref", k.Backref) ∷ (codes "using", k.Using) ∷
    (codes "cascade", k.Cascade) ∷ (codes "post_update", k.PostUpdate) ∷ (codes "secondary", k.Secondary) ∷
    (codes "save", k.Save) ∷ (codes "update", k.Update) ∷ (codes "refresh", k.Refresh) ∷
    (codes "expire", k.Expire) ∷ (codes "merge", k.Merge) ∷ (codes "expunge", k.Expunge) ∷
    (codes "delete", k.Delete) ∷ (codes "orphan", k.Orphan) ∷ (codes "all", k.All) ∷ (codes "none", k.NoneWord) ∷
    (codes "configure", k.Configure) ∷ (codes "create_all", k.CreateAll) ∷ (codes "drop_all", k.DropAll) ∷
    (codes "dump", k.Dump) ∷ (codes "new", k.New) ∷ (codes "get", k.Get) ∷ (codes "objects", k.Objects) ∷
    (codes "related", k.Related) ∷ (codes "begin_nested", k.BeginNested) ∷ (codes "set", k.Set) ∷
    (codes "append", k.Append) ∷ (codes "remove", k.Remove) ∷ (codes "add", k.Add) ∷ (codes "show", k.Show) ∷
    (codes "state", k.State) ∷ (codes "flush", k.Flush) ∷ (codes "commit", k.Commit) ∷
    (codes "rollback", k.Rollback) ∷ (codes "close", k.Close) ∷ (codes "rows", k.Rows) ∷ (codes "bulk", k.Bulk) ∷
    (codes "compile", k.Compile) ∷ (codes "sqlite", k.Sqlite) ∷ (codes "postgresql", k.Postgresql) ∷
    (codes "mysql", k.Mysql) ∷ (codes "insert", k.Insert) ∷ (codes "values", k.Values) ∷
    (codes "joined", k.Joined) ∷ (codes "selectin", k.Selectin) ∷ (codes "integer", k.Integer) ∷
    (codes "varchar", k.Varchar) ∷ (codes "text", k.Text) ∷ (codes "boolean", k.Boolean) ∷
    (codes "bytes", k.Bytes) ∷ (codes "primary", k.Primary) ∷ (codes "key", k.Key) ∷ (codes "unique", k.Unique) ∷
    (codes "foreign", k.Foreign) ∷ (codes "references", k.References) ∷ (codes "count", k.Count) ∷
    (codes "sum", k.Sum) ∷ (codes "min", k.Min) ∷ (codes "max", k.Max) ∷ (codes "lower", k.Lower) ∷
    (codes "upper", k.Upper) ∷ (codes "length", k.Length) ∷ (codes "coalesce", k.Coalesce) ∷ []

-- the kind of a word
unfoldable pub keyword : Text → Kind
keyword = lookup (reserved_words ++ other_words)

abbrev pub word : Text → Kind × ℕ
word z = (keyword (take (past class.Word z 0) z), past class.Word z 0)

-- the place after the closing quote, for a text that begins at `at`; a doubled quote does not close
abbrev pub quote_end : ℕ → Bool → ℕ → Text → Option ℕ
quote_end quote is_second at [] = None
quote_end quote true at (b ∷ z) = quote_end quote false (at + 1) z
quote_end quote false at (b ∷ z) = if b == quote && not (slice_index z 0 == quote) then Some (at + 1) else quote_end quote (b == quote) (at + 1) z

abbrev pub kind_or_bad : Kind → Option ℕ → Kind × ℕ
kind_or_bad kind None = (k.Bad, 1)
kind_or_bad kind (Some end) = (kind, end)

abbrev pub quoted_prefix : Kind → Text → Kind × ℕ
quoted_prefix kind z = kind_or_bad kind (quote_end (slice_index z 0) false 1 (drop 1 z))

-- one byte long, or two where there is a second
abbrev pub IsShort : ℕ → ℕ → Type 0
IsShort next len = (1 ≤ len) × (len ≤ 2) × (next ≡ 0 → len ≡ 1)

abbrev pub less : ℕ → Kind × ℕ
less next = if next == 61 then (k.LessEqual, 2) else (k.Less, 1)

abbrev pub greater : ℕ → Kind × ℕ
greater next = if next == 61 then (k.GreaterEqual, 2) else (k.Greater, 1)

abbrev pub equal : ℕ → Kind × ℕ
equal next = if next == 61 then (k.Equal, 2) else (k.Assign, 1)

-- a minus directly before a digit has a kind of its own
abbrev pub minus : ℕ → Kind
minus next = if is_ascii_digit next then k.Signed else k.Minus

abbrev pub single : ℕ → Kind
single b =
    if b == 40 then k.LParen else (if b == 41 then k.RParen else (if b == 91 then k.LBracket else (if b == 93 then k.RBracket
    else (if b == 44 then k.Comma else (if b == 46 then k.Dot else (if b == 43 then k.Plus else (if b == 42 then k.Star else k.Bad)))))))

-- a symbol, by its first two bytes
unfoldable pub symbol : ℕ → ℕ → Kind × ℕ
symbol b next =
    if b == 60 then less next else (if b == 62 then greater next else (if b == 61 then equal next
    else (if b == 33 && next == 61 then (k.NotEqual, 2)
    else (if b == 124 && next == 124 then (k.Concat, 2)
    else (if b == 45 then (minus next, 1) else (single b, 1))))))

-- `x'`, hexadecimal digits of an even number, and a quote
abbrev pub is_bytes : Text → Bool
is_bytes z =
    let end = past class.Hex z 2 in
    slice_index z 0 == 120 && slice_index z 1 == 39 && slice_index z end == 39 && end % 2 == 0

-- the kind of the longest prefix of a text that is a token, and its length in bytes; the text begins with no blank
unfoldable pub token_prefix : Text → Kind × ℕ
token_prefix z =
    let b = slice_index z 0 in
    if is_bytes z then (k.BytesLiteral, past class.Hex z 2 + 1)
    else (if is_ascii_digit b then (k.Number, past class.Digit z 0)
    else (if is_in class.Word b then word z
    else (if b == 34 then quoted_prefix k.Quoted z
    else (if b == 39 then quoted_prefix k.TextLiteral z
    else symbol b (slice_index z 1)))))
