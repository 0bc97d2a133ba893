-- What a token holds beside its kind.
use Rattle.std.specs.Prelude.{ℕ, ◌+◌, ◌-◌, ◌*◌, ◌^◌, min, Bool, true, false, if◌then◌else◌, ◌==◌, nat_le, [], ◌∷◌, length, take, drop, Option, Some, None, ◌&&◌}
use Rattle.std.specs.Option.{option_map}
use Rattle.std.specs.Str.{is_utf8}
use Rattle.base_core.specs.declared.value.Value.TheVariants as value
use Rattle.script_lex.specs.declared.kind.Kind.{Kind}
use Rattle.script_lex.specs.declared.kind.Kind.TheVariants as k
use Rattle.script_lex.specs.declared.token.Content.{Content}
use Rattle.script_lex.specs.declared.token.Content.TheVariants.{Name, Number, Literal}
use Rattle.script_lex.specs.declared.shape.Class.TheVariants as class
use Rattle.script_lex.specs.Shape.{Text, past}

-- one quote for each two
abbrev pub undouble : ℕ → Bool → Text → Text
undouble quote is_second [] = []
undouble quote true (b ∷ z) = undouble quote false z
undouble quote false (b ∷ z) = b ∷ undouble quote (b == quote) z

-- without a prefix of this many bytes, and without the last byte
abbrev pub inside : ℕ → Text → Text
inside prefix t = take (length t - prefix - 1) (drop prefix t)

abbrev pub hex_digit : ℕ → ℕ
hex_digit b = if nat_le 48 b && nat_le b 57 then b - 48 else (if nat_le 65 b && nat_le b 70 then b - 65 + 10 else (if nat_le 97 b && nat_le b 102 then b - 97 + 10 else 0))

-- a byte for each two digits
abbrev pub bytes_of_hex : Text → Text
bytes_of_hex [] = []
bytes_of_hex (high ∷ []) = []
bytes_of_hex (high ∷ low ∷ z) = (16 * hex_digit high + hex_digit low) ∷ bytes_of_hex z

-- the number that is written by digits after those of a number
abbrev pub digits_value : ℕ → Text → ℕ
digits_value n [] = n
digits_value n (b ∷ digits) = digits_value (n * 10 + (b - 48)) digits

-- the number, or 2^64 - 1 for any above it
abbrev pub number : Text → ℕ
number digits = min (digits_value 0 digits) (2 ^ 64 - 1)

-- the digits after a minus
abbrev pub signed_digits : Text → Text
signed_digits z = take (past class.Digit (drop 1 z) 0) (drop 1 z)

unfoldable pub if_utf8 : Text → Option Text
if_utf8 bytes = if is_utf8 bytes then Some bytes else None

-- What the prefix of this length of a text holds as a token of this kind. There is none where a name or text is no UTF-8.
abbrev pub content_by : Kind → Text → Text → Option Content
content_by k.Quoted spelling z = option_map Name (if_utf8 (undouble 34 false (inside 1 spelling)))
content_by k.TextLiteral spelling z = option_map (λ t. Literal (value.Text t)) (if_utf8 (undouble 39 false (inside 1 spelling)))
content_by k.BytesLiteral spelling z = Some (Literal (value.Bytes (bytes_of_hex (inside 2 spelling))))
content_by k.Number spelling z = Some (Number (number spelling))
content_by k.Signed spelling z = Some (Number (number (signed_digits z)))
content_by _ spelling z = option_map Name (if_utf8 spelling)

unfoldable pub content : Kind → ℕ → Text → Option Content
content kind len z = content_by kind (take len z) z
