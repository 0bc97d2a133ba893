-- The words of SQL that texts are made of and read by, with the blanks around them, and the parenthesis behind them where one opens.
use Rattle.std.specs.Prelude.{ℕ, Bool, true, false, List, codes}

-- ---- tests, and those that deny them

abbrev pub null_word : Bool → List ℕ
null_word false = codes " IS NULL"
null_word true = codes " IS NOT NULL"

abbrev pub like_word : Bool → List ℕ
like_word false = codes " LIKE "
like_word true = codes " NOT LIKE "

abbrev pub ilike_word : Bool → List ℕ
ilike_word false = codes " ILIKE "
ilike_word true = codes " NOT ILIKE "

abbrev pub in_word : Bool → List ℕ
in_word false = codes " IN ("
in_word true = codes " NOT IN ("

-- a test for an empty list
abbrev pub empty_word : Bool → List ℕ
empty_word false = codes " IN (NULL) AND 1 != 1"
empty_word true = codes " NOT IN (NULL) OR 1 = 1"

abbrev pub between_word : Bool → List ℕ
between_word false = codes " BETWEEN "
between_word true = codes " NOT BETWEEN "

abbrev pub distinct_word : Bool → List ℕ
distinct_word false = codes " IS DISTINCT FROM "
distinct_word true = codes " IS NOT DISTINCT FROM "

-- SQLite's words for it
abbrev pub sqlite_distinct_word : Bool → List ℕ
sqlite_distinct_word false = codes " IS NOT "
sqlite_distinct_word true = codes " IS "

-- ---- selects

-- of all rows, or of distinct ones
abbrev pub select_word : Bool → List ℕ
select_word false = codes "SELECT "
select_word true = codes "SELECT DISTINCT "

-- of an inner join, or a left one
abbrev pub join_word : Bool → List ℕ
join_word false = codes " JOIN "
join_word true = codes " LEFT OUTER JOIN "
