-- A reader of expressions, for proofs alone: it shows that a text and its values are read as one tree. It reads as far as a text goes on, and takes some texts
-- that the grammar has not.
use Rattle.std.proofs.Common.{ℕ, zero, suc, ◌++◌, ◌==◌, Bool, true, false, not, ◌&&◌, if◌then◌else◌, List, [], ◌∷◌, Option, Some, None, codes}
use Rattle.base_core.specs.declared.value.Value.{Value}
use Rattle.base_core.specs.declared.dialect.Dialect.{Dialect}
use Rattle.base_core.specs.declared.dialect.Dialect.TheVariants.{Sqlite, Postgresql, Mysql}
use Rattle.sql_text.specs.Names.{is_plain_byte, quote_of}
use Rattle.sql_text.specs.Words.{null_word, in_word, empty_word, between_word}
use Rattle.script_laws.specs.Texts.Grammar.Trees.{Test, Equal, NotEqual, Less, LessEqual, Greater, GreaterEqual, Like, Ilike, Distinct, Sign, Plus, Minus, Beside, Function, Count, Sum, Min, Max, Lower, Upper, Length, Coalesce, Concat, Source, Sql, column, mark, test, null_test, in_list, between, all_of, any_of, opposite, sum, product, negative, call, count_all, exists, Sqls, none, more}
use Rattle.script_laws.specs.Texts.Grammar.Words.{test_word, sign_word, function_word}
use Rattle.script_laws.specs.Texts.Grammar.Reads.{is_label_byte, Level, Either, Both, Opposite, Tested, Added, Multiplied, Signed, Operand}

-- ---- words

-- the text behind a word
abbrev pub after : List ℕ → List ℕ → Option (List ℕ)
after [] text = Some text
after (c ∷ cs) [] = None
after (c ∷ cs) (b ∷ bs) = if c == b then after cs bs else None

abbrev pub found_by : {A : Type 0} → A → Option (List ℕ) → Option (A × List ℕ) → Option (A × List ℕ)
found_by a None other = other
found_by a (Some rest) other = Some (a, rest)

-- the first word with which the text begins, and what is behind it
abbrev pub find : {A : Type 0} → List (List ℕ × A) → List ℕ → Option (A × List ℕ)
find [] text = None
find (entry ∷ entries) text = found_by entry.1 (after entry.0 text) (find entries text)

abbrev pub worded : {A : Type 0} → Option (List ℕ) → A → List (List ℕ × A) → List (List ℕ × A)
worded None a entries = entries
worded (Some word) a entries = (word, a) ∷ entries

-- what may stand behind a sum
pub data Tail : Type 0 where
  ends : Test → Tail
  nulls : Bool → Tail
  empties : Bool → Tail
  lists : Bool → Tail
  ranges : Bool → Tail

abbrev tests : Dialect → List (List ℕ × Tail) → List (List ℕ × Tail)
tests q entries =
    worded (test_word q Equal) (ends Equal) (worded (test_word q NotEqual) (ends NotEqual)
    (worded (test_word q Less) (ends Less) (worded (test_word q LessEqual) (ends LessEqual)
    (worded (test_word q Greater) (ends Greater) (worded (test_word q GreaterEqual) (ends GreaterEqual)
    (worded (test_word q (Like false)) (ends (Like false)) (worded (test_word q (Like true)) (ends (Like true))
    (worded (test_word q (Ilike false)) (ends (Ilike false)) (worded (test_word q (Ilike true)) (ends (Ilike true))
    (worded (test_word q (Distinct false)) (ends (Distinct false)) (worded (test_word q (Distinct true)) (ends (Distinct true)) entries)))))))))))

unfoldable pub tails : Dialect → List (List ℕ × Tail)
tails q =
    (null_word true, nulls true) ∷ (null_word false, nulls false)
    ∷ tests q ((empty_word true, empties true) ∷ (empty_word false, empties false) ∷ (in_word true, lists true) ∷ (in_word false, lists false)
    ∷ (between_word true, ranges true) ∷ (between_word false, ranges false) ∷ [])

unfoldable pub signs : Dialect → List (List ℕ × Sign)
signs q = worded (sign_word q Plus) Plus (worded (sign_word q Minus) Minus (worded (sign_word q Beside) Beside []))

abbrev functions : Dialect → List (List ℕ × Function)
functions q =
    worded (function_word q Count) Count (worded (function_word q Sum) Sum (worded (function_word q Min) Min (worded (function_word q Max) Max
    (worded (function_word q Lower) Lower (worded (function_word q Upper) Upper (worded (function_word q Length) Length
    (worded (function_word q Coalesce) Coalesce (worded (function_word q Concat) Concat []))))))))

-- the function of a name with its parenthesis
unfoldable pub function_of : Dialect → List ℕ → Option (Function × List ℕ)
function_of q name = find (functions q) (name ++ codes "(")

-- ---- results

-- what was read, with the text and the values that are left
abbrev pub Out : Type 0 → Type 0
Out A = Option (A × List ℕ × List Value)

abbrev pub next : {A B : Type 0} → Out A → (A → List ℕ → List Value → Out B) → Out B
next None go = None
next (Some out) go = go out.0 out.1 out.2

abbrev pub behind : {B : Type 0} → Option (List ℕ) → (List ℕ → Out B) → Out B
behind None go = None
behind (Some rest) go = go rest

-- ---- names and marks

abbrev pub with_byte : ℕ → Option (List ℕ × List ℕ) → Option (List ℕ × List ℕ)
with_byte c None = None
with_byte c (Some found) = Some (c ∷ found.0, found.1)

-- up to the quote that is not doubled
abbrev pub quoted_in : ℕ → List ℕ → Option (List ℕ × List ℕ)
quoted_in quote [] = None
quoted_in quote (c ∷ []) = if c == quote then Some ([], []) else None
quoted_in quote (c ∷ d ∷ rest) =
    if c == quote then (if d == quote then with_byte quote (quoted_in quote rest) else Some ([], d ∷ rest)) else with_byte c (quoted_in quote (d ∷ rest))

-- with one for each two of these bytes
abbrev pub halved : ℕ → List ℕ → List ℕ
halved byte [] = []
halved byte (c ∷ []) = c ∷ []
halved byte (c ∷ d ∷ rest) = if c == byte then byte ∷ halved byte rest else c ∷ halved byte (d ∷ rest)

abbrev pub without_percents : Dialect → List ℕ → List ℕ
without_percents Sqlite text = text
without_percents Postgresql text = halved 37 text
without_percents Mysql text = halved 37 text

abbrev pub plain_by : ℕ → List ℕ → List ℕ × List ℕ → Bool → List ℕ × List ℕ
plain_by c cs past true = (c ∷ past.0, past.1)
plain_by c cs past false = ([], c ∷ cs)

-- the bytes that stand bare in a name
abbrev pub plain_in : List ℕ → List ℕ × List ℕ
plain_in [] = ([], [])
plain_in (c ∷ cs) = plain_by c cs (plain_in cs) (is_plain_byte c)

abbrev pub unquoted : Dialect → Option (List ℕ × List ℕ) → Option (List ℕ × List ℕ)
unquoted q None = None
unquoted q (Some found) = Some (without_percents q found.0, found.1)

unfoldable pub name_in : Dialect → List ℕ → Option (List ℕ × List ℕ)
name_in q [] = None
name_in q (c ∷ cs) = if c == quote_of q then unquoted q (quoted_in (quote_of q) cs) else Some (plain_in (c ∷ cs))

abbrev pub behind_label : List ℕ → List ℕ
behind_label [] = []
behind_label (c ∷ cs) = if is_label_byte c then behind_label cs else c ∷ cs

abbrev labelled_in : Option (List ℕ) → Option (List ℕ)
labelled_in None = None
labelled_in (Some rest) = after (codes ")s") (behind_label rest)

-- the text behind a mark
unfoldable pub mark_in : Dialect → List ℕ → Option (List ℕ)
mark_in Sqlite text = after (codes "?") text
mark_in Postgresql text = labelled_in (after (codes "%(") text)
mark_in Mysql text = after (codes "%s") text

abbrev pub one_value : Value → List ℕ → List Value → Out (List Value)
one_value v rest left = Some (v ∷ [], rest, left)

abbrev pub more_values : Value → Out (List Value) → Out (List Value)
more_values v None = None
more_values v (Some out) = Some (v ∷ out.0, out.1, out.2)

-- marks with commas between, each with its value
abbrev pub marks_by : Value → (List ℕ → Out (List Value)) → List Value → List ℕ → Option (List ℕ) → Out (List Value)
marks_by v go left rest None = Some (v ∷ [], rest, left)
marks_by v go left rest (Some text) = more_values v (go text)

abbrev pub marks_in : Dialect → List Value → List ℕ → Out (List Value)
marks_in q [] text = None
marks_in q (v ∷ values) text = behind (mark_in q text) (λ rest. marks_by v (marks_in q values) values rest (after (codes ", ") rest))

-- ---- expressions

abbrev pub Reader : Type 0 → Type 0
Reader A = List ℕ → List Value → Out A

-- readers of all levels, of parts of a level, and of what goes on behind a product or a sum
pub record Readers : Type 0 where
  pub tree : Level → Reader Sql
  pub parts : Level → List ℕ → Reader Sqls
  pub products : Sql → Reader Sql
  pub sums : Sql → Reader Sql

abbrev nothing : Readers
nothing = record { tree = λ l text values. None; parts = λ l word text values. None; products = λ x text values. None; sums = λ x text values. None }

abbrev pub products_by : Readers → Sql → List ℕ → List Value → Option (List ℕ) → Out Sql
products_by r x text values None = Some (x, text, values)
products_by r x text values (Some rest) = next (r.tree Signed rest values) (λ y. r.products (product x y))

abbrev pub sums_by : Readers → Sql → List ℕ → List Value → Option (Sign × List ℕ) → Out Sql
sums_by r x text values None = Some (x, text, values)
sums_by r x text values (Some found) = next (r.tree Multiplied found.1 values) (λ y. r.sums (sum found.0 x y))

abbrev pub parts_by : Readers → Level → List ℕ → Sql → List ℕ → List Value → Option (List ℕ) → Out Sqls
parts_by r l word x text values None = Some (more x none, text, values)
parts_by r l word x text values (Some rest) = next (r.parts l word rest values) (λ xs rest left. Some (more x xs, rest, left))

abbrev pub one_or : (Sqls → Sql) → Sqls → Sql
one_or list none = list none
one_or list (more x none) = x
one_or list (more x (more y ys)) = list (more x (more y ys))

abbrev pub closed : {A : Type 0} → A → List ℕ → List Value → Out A
closed x text left = behind (after (codes ")") text) (λ rest. Some (x, rest, left))

abbrev pub tail_by : Dialect → Readers → Sql → List ℕ → List Value → Tail → Out Sql
tail_by q r x rest values (ends by) = next (r.tree Added rest values) (λ y rest left. Some (test by x y, rest, left))
tail_by q r x rest values (nulls negated) = Some (null_test negated x, rest, values)
tail_by q r x rest values (empties negated) = Some (in_list negated x [], rest, values)
tail_by q r x rest values (lists negated) = next (marks_in q values rest) (λ w. closed (in_list negated x w))
tail_by q r x rest values (ranges negated) =
    next (r.tree Added rest values)
    (λ y rest left. behind (after (codes " AND ") rest) (λ rest. next (r.tree Added rest left) (λ z rest left. Some (between negated x y z, rest, left))))

abbrev pub tested_by : Dialect → Readers → Sql → List ℕ → List Value → Option (Tail × List ℕ) → Out Sql
tested_by q r x text values None = Some (x, text, values)
tested_by q r x text values (Some found) = tail_by q r x found.1 values found.0

abbrev pub not_by : Readers → List ℕ → List Value → Option (List ℕ) → Out Sql
not_by r text values None = r.tree Tested text values
not_by r text values (Some rest) = next (r.tree Operand rest values) (λ x rest left. Some (opposite x, rest, left))

abbrev pub signed_by : Readers → List ℕ → List Value → Option (List ℕ) → Out Sql
signed_by r text values None = r.tree Operand text values
signed_by r text values (Some rest) = next (r.tree Operand rest values) (λ x rest left. Some (negative x, rest, left))

abbrev pub existing_in : Readers → Source → List Value → List ℕ → Out Sql
existing_in r source values text =
    behind (after (codes " WHERE ") text) (λ rest. next (r.tree Either rest values) (λ x. closed (exists source x)))

abbrev pub aliased_in : Dialect → Readers → List ℕ → List Value → Option (List ℕ × List ℕ) → Out Sql
aliased_in q r table values None = None
aliased_in q r table values (Some found) = existing_in r (record { table = table; alias = Some found.0 }) values found.1

abbrev pub aliased_by : Dialect → Readers → List ℕ → List Value → List ℕ → Option (List ℕ) → Out Sql
aliased_by q r table values text None = existing_in r (record { table = table; alias = None }) values text
aliased_by q r table values text (Some rest) = aliased_in q r table values (name_in q rest)

abbrev pub exists_by : Dialect → Readers → List Value → Option (List ℕ × List ℕ) → Out Sql
exists_by q r values None = None
exists_by q r values (Some found) = aliased_by q r found.0 values found.1 (after (codes " AS ") found.1)

abbrev pub column_by : List ℕ → List Value → Option (List ℕ × List ℕ) → Out Sql
column_by source values None = None
column_by source values (Some found) = Some (column source found.0, found.1, values)

abbrev pub operands_by : Readers → Function → List ℕ → List Value → Option (List ℕ) → Out Sql
operands_by r by text values None = next (r.parts Either (codes ", ") text values) (λ xs. closed (call by xs))
operands_by r by text values (Some rest) = Some (count_all, rest, values)

abbrev pub call_by : Readers → List ℕ → List Value → Option (Function × List ℕ) → Out Sql
call_by r text values None = None
call_by r text values (Some found) = operands_by r found.0 text values (after (codes "*)") text)

abbrev pub named_by : Dialect → Readers → List ℕ → List ℕ → List Value → Option (List ℕ) → Out Sql
named_by q r name text values (Some rest) = column_by name values (name_in q rest)
named_by q r name text values None = behind (after (codes "(") text) (λ rest. call_by r rest values (function_of q name))

abbrev pub name_by : Dialect → Readers → List Value → Option (List ℕ × List ℕ) → Out Sql
name_by q r values None = None
name_by q r values (Some found) = named_by q r found.0 found.1 values (after (codes ".") found.1)

abbrev pub word_by : Dialect → Readers → List ℕ → List Value → Option (List ℕ) → Out Sql
word_by q r text values None = name_by q r values (name_in q text)
word_by q r text values (Some rest) = exists_by q r values (name_in q rest)

abbrev pub value_by : List ℕ → List Value → Out Sql
value_by rest [] = None
value_by rest (v ∷ values) = Some (mark v, rest, values)

abbrev pub mark_by : Dialect → Readers → List ℕ → List Value → Option (List ℕ) → Out Sql
mark_by q r text values None = word_by q r text values (after (codes "EXISTS (SELECT 1 FROM ") text)
mark_by q r text values (Some rest) = value_by rest values

abbrev pub operand_by : Dialect → Readers → List ℕ → List Value → Option (List ℕ) → Out Sql
operand_by q r text values None = mark_by q r text values (mark_in q text)
operand_by q r text values (Some rest) = next (r.tree Either rest values) (λ x. closed x)

abbrev pub at : Dialect → Readers → Level → Reader Sql
at q r Either text values = next (r.parts Both (codes " OR ") text values) (λ xs rest left. Some (one_or any_of xs, rest, left))
at q r Both text values = next (r.parts Opposite (codes " AND ") text values) (λ xs rest left. Some (one_or all_of xs, rest, left))
at q r Opposite text values = not_by r text values (after (codes "NOT ") text)
at q r Tested text values = next (r.tree Added text values) (λ x rest left. tested_by q r x rest left (find (tails q) rest))
at q r Added text values = next (r.tree Multiplied text values) (λ x. r.sums x)
at q r Multiplied text values = next (r.tree Signed text values) (λ x. r.products x)
at q r Signed text values = signed_by r text values (after (codes "-") text)
at q r Operand text values = operand_by q r text values (after (codes "(") text)

abbrev pub turn : Dialect → Readers → Readers
turn q r = record {
  tree = at q r;
  parts = λ l word text values. next (r.tree l text values) (λ x rest left. parts_by r l word x rest left (after word rest));
  products = λ x text values. products_by r x text values (after (codes " * ") text);
  sums = λ x text values. sums_by r x text values (find (signs q) text);
}

-- with this bound on how long and how deep a text is
unfoldable pub read : Dialect → ℕ → Readers
read q zero = nothing
read q (suc k) = turn q (read q k)

-- ---- what goes on

abbrev pub is_none : {A : Type 0} → Option A → Bool
is_none None = true
is_none (Some a) = false

-- no name goes on here
abbrev pub ends_name : List ℕ → Bool
ends_name [] = true
ends_name (c ∷ cs) = not (is_plain_byte c) && not (c == 34) && not (c == 96)

-- no text of the level goes on here
unfoldable pub stops : Dialect → Level → List ℕ → Bool
stops q Operand rest = ends_name rest
stops q Signed rest = ends_name rest
stops q Multiplied rest = ends_name rest && is_none (after (codes " * ") rest)
stops q Added rest = (ends_name rest && is_none (after (codes " * ") rest)) && is_none (find (signs q) rest)
stops q Tested rest = ((ends_name rest && is_none (after (codes " * ") rest)) && is_none (find (signs q) rest)) && is_none (find (tails q) rest)
stops q Opposite rest = ((ends_name rest && is_none (after (codes " * ") rest)) && is_none (find (signs q) rest)) && is_none (find (tails q) rest)
stops q Both rest =
    (((ends_name rest && is_none (after (codes " * ") rest)) && is_none (find (signs q) rest)) && is_none (find (tails q) rest)) && is_none (after (codes " AND ") rest)
stops q Either rest =
    ((((ends_name rest && is_none (after (codes " * ") rest)) && is_none (find (signs q) rest)) && is_none (find (tails q) rest)) && is_none (after (codes " AND ") rest))
    && is_none (after (codes " OR ") rest)
