-- What is written of values, byte by byte.
use Rattle.std.specs.Prelude.{ℕ, ◌/◌, ◌%◌, Bool, true, false, cond, ◌==◌, List, [], ◌∷◌, ◌++◌, codes}
use Rattle.std.specs.List.{flat_map}
use Rattle.std.specs.Fmt.{signed_decimal, digits}
use Rattle.base_core.specs.declared.value.Value.{Value}
use Rattle.base_core.specs.declared.value.Value.TheVariants.{Null, Bool as BoolValue, Int, Text, Bytes}

abbrev pub doubled_byte : ℕ → List ℕ
doubled_byte byte = cond (byte == 39) (39 ∷ 39 ∷ []) (byte ∷ [])

-- the text with each of its quotes doubled
abbrev pub with_quotes_doubled : List ℕ → List ℕ
with_quotes_doubled text = flat_map doubled_byte text

-- two hexadecimal digits in lower case
abbrev pub hex_byte : ℕ → List ℕ
hex_byte byte = digits 16 false (byte / 16) ++ digits 16 false (byte % 16)

abbrev pub bool_text : Bool → List ℕ
bool_text true = codes "true"
bool_text false = codes "false"

-- a text in quotes
abbrev pub text_in_quotes : List ℕ → List ℕ
text_in_quotes text = 39 ∷ with_quotes_doubled text ++ 39 ∷ []

abbrev pub bytes_text : List ℕ → List ℕ
bytes_text bytes = codes "x'" ++ flat_map hex_byte bytes ++ 39 ∷ []

abbrev pub value_text : Value → List ℕ
value_text Null = codes "null"
value_text (BoolValue b) = bool_text b
value_text (Int n) = signed_decimal n
value_text (Text t) = text_in_quotes t
value_text (Bytes bytes) = bytes_text bytes

-- the word that is written of NULL or of a boolean; nothing of other values
abbrev pub word_of : Value → List ℕ
word_of Null = codes "null"
word_of (BoolValue b) = bool_text b
word_of _ = []
