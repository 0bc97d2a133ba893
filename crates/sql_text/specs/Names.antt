-- Names as a dialect writes them, and the names of marks.
use Rattle.std.specs.Prelude.{ℕ, ◌++◌, Bool, false, not, ◌&&◌, ◌||◌, ◌==◌, nat_lt, List, [], ◌∷◌, if◌then◌else◌, codes}
use Rattle.std.specs.List.{list_any, flat_map}
use Rattle.std.specs.Str.{bytes_eq}
use Rattle.base_core.specs.declared.dialect.Dialect.{Dialect}
use Rattle.base_core.specs.declared.dialect.Dialect.TheVariants.{Sqlite, Postgresql, Mysql}

-- the words that are quoted where they are names
unfoldable pub words_to_quote : List (List ℕ)
words_to_quote =
    codes "all" ∷ codes "and" ∷ codes "as" ∷ codes "asc" ∷ codes "between" ∷ codes "by" ∷ codes "case" ∷ codes "check"
    ∷ codes "collate" ∷ codes "column" ∷ codes "constraint" ∷ codes "create" ∷ codes "cross" ∷ codes "default" ∷ codes "delete"
    ∷ codes "desc" ∷ codes "distinct" ∷ codes "drop" ∷ codes "else" ∷ codes "end" ∷ codes "except" ∷ codes "exists"
    ∷ codes "foreign" ∷ codes "from" ∷ codes "grant" ∷ codes "group" ∷ codes "having" ∷ codes "in" ∷ codes "index"
    ∷ codes "insert" ∷ codes "intersect" ∷ codes "into" ∷ codes "is" ∷ codes "join" ∷ codes "key" ∷ codes "left"
    ∷ codes "like" ∷ codes "limit" ∷ codes "natural" ∷ codes "not" ∷ codes "null" ∷ codes "offset" ∷ codes "on"
    ∷ codes "or" ∷ codes "order" ∷ codes "primary" ∷ codes "references" ∷ codes "right" ∷ codes "select" ∷ codes "set"
    ∷ codes "table" ∷ codes "then" ∷ codes "to" ∷ codes "union" ∷ codes "unique" ∷ codes "update" ∷ codes "user"
    ∷ codes "using" ∷ codes "values" ∷ codes "when" ∷ codes "where" ∷ codes "with" ∷ []

unfoldable pub is_reserved : List ℕ → Bool
is_reserved name = list_any (λ word. bytes_eq word name) words_to_quote

abbrev pub is_between : ℕ → ℕ → ℕ → Bool
is_between low high byte = not (nat_lt byte low) && not (nat_lt high byte)

abbrev pub is_lower : ℕ → Bool
is_lower byte = is_between 97 122 byte

abbrev pub is_upper : ℕ → Bool
is_upper byte = is_between 65 90 byte

abbrev pub is_digit : ℕ → Bool
is_digit byte = is_between 48 57 byte

-- `a-z`, `0-9`, `_` and `$` stand in a name without quotes
abbrev pub is_plain_byte : ℕ → Bool
is_plain_byte byte = is_lower byte || is_digit byte || byte == 95 || byte == 36

-- but no digit and no `$` at its beginning
abbrev pub begins_plain : List ℕ → Bool
begins_plain [] = false
begins_plain (byte ∷ bytes) = not (is_digit byte) && not (byte == 36)

unfoldable pub needs_quotes : List ℕ → Bool
needs_quotes name = not (begins_plain name) || list_any (λ byte. not (is_plain_byte byte)) name || is_reserved name

-- `"`, in MySQL the backquote
abbrev pub quote_of : Dialect → ℕ
quote_of Sqlite = 34
quote_of Postgresql = 34
quote_of Mysql = 96

abbrev pub doubled_byte : ℕ → ℕ → List ℕ
doubled_byte mark byte = if byte == mark then mark ∷ mark ∷ [] else byte ∷ []

-- the text with each of these bytes doubled
abbrev pub with_byte_doubled : ℕ → List ℕ → List ℕ
with_byte_doubled mark text = flat_map (doubled_byte mark) text

-- the text with `%` doubled, where the dialect's marks begin with it
abbrev pub with_percents : Dialect → List ℕ → List ℕ
with_percents Sqlite text = text
with_percents Postgresql text = with_byte_doubled 37 text
with_percents Mysql text = with_byte_doubled 37 text

abbrev pub quoted_name : Dialect → List ℕ → List ℕ
quoted_name dialect name = quote_of dialect ∷ with_byte_doubled (quote_of dialect) (with_percents dialect name) ++ quote_of dialect ∷ []

-- a name as it stands in a text
unfoldable pub name_text : Dialect → List ℕ → List ℕ
name_text dialect name = if needs_quotes name then quoted_name dialect name else name

-- letters, digits and `_` stand in a base name, and `_` stands for every other byte
abbrev pub cleaned_byte : ℕ → ℕ
cleaned_byte byte = if is_lower byte || is_upper byte || is_digit byte || byte == 95 then byte else 95
