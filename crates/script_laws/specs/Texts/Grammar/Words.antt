-- The words of a dialect. It has no word for some forms.
use Rattle.std.specs.Prelude.{ℕ, Bool, true, false, List, Option, Some, None, codes}
use Rattle.base_core.specs.declared.dialect.Dialect.{Dialect}
use Rattle.base_core.specs.declared.dialect.Dialect.TheVariants.{Sqlite, Postgresql, Mysql}
use Rattle.sql_text.specs.Words.{like_word, ilike_word, distinct_word, sqlite_distinct_word}
use Rattle.script_laws.specs.Texts.Grammar.Trees.{Test, Equal, NotEqual, Less, LessEqual, Greater, GreaterEqual, Like, Ilike, Distinct, Sign, Plus, Minus, Beside, Function, Count, Sum, Min, Max, Lower, Upper, Length, Coalesce, Concat}

abbrev pub ilike_in : Dialect → Bool → Option (List ℕ)
ilike_in Postgresql negated = Some (ilike_word negated)
ilike_in Sqlite negated = None
ilike_in Mysql negated = None

abbrev pub distinct_in : Dialect → Bool → Option (List ℕ)
distinct_in Sqlite negated = Some (sqlite_distinct_word negated)
distinct_in Postgresql negated = Some (distinct_word negated)
distinct_in Mysql false = None
distinct_in Mysql true = Some (codes " <=> ")

abbrev pub test_word : Dialect → Test → Option (List ℕ)
test_word dialect Equal = Some (codes " = ")
test_word dialect NotEqual = Some (codes " != ")
test_word dialect Less = Some (codes " < ")
test_word dialect LessEqual = Some (codes " <= ")
test_word dialect Greater = Some (codes " > ")
test_word dialect GreaterEqual = Some (codes " >= ")
test_word dialect (Like negated) = Some (like_word negated)
test_word dialect (Ilike negated) = ilike_in dialect negated
test_word dialect (Distinct negated) = distinct_in dialect negated

abbrev pub beside_word : Dialect → Option (List ℕ)
beside_word Sqlite = Some (codes " || ")
beside_word Postgresql = Some (codes " || ")
beside_word Mysql = None

abbrev pub sign_word : Dialect → Sign → Option (List ℕ)
sign_word dialect Plus = Some (codes " + ")
sign_word dialect Minus = Some (codes " - ")
sign_word dialect Beside = beside_word dialect

abbrev pub concat_word : Dialect → Option (List ℕ)
concat_word Sqlite = None
concat_word Postgresql = None
concat_word Mysql = Some (codes "concat(")

-- a function's name, with the parenthesis behind it
abbrev pub function_word : Dialect → Function → Option (List ℕ)
function_word dialect Count = Some (codes "count(")
function_word dialect Sum = Some (codes "sum(")
function_word dialect Min = Some (codes "min(")
function_word dialect Max = Some (codes "max(")
function_word dialect Lower = Some (codes "lower(")
function_word dialect Upper = Some (codes "upper(")
function_word dialect Length = Some (codes "length(")
function_word dialect Coalesce = Some (codes "coalesce(")
function_word dialect Concat = concat_word dialect
