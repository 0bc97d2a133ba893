-- The grammar of expressions in three dialects of SQL, on whole texts: a text of a level and its values, read as a tree. Every mark takes
-- the next value.
use Rattle.std.specs.Prelude.{◌≡◌, ℕ, ◌++◌, Bool, false, ◌||◌, ◌==◌, List, [], ◌∷◌, Some, None, IsTrue, codes}
use Rattle.std.specs.List.{list_all}
use Rattle.base_core.specs.declared.value.Value.{Value}
use Rattle.base_core.specs.declared.dialect.Dialect.{Dialect}
use Rattle.base_core.specs.declared.dialect.Dialect.TheVariants.{Sqlite, Postgresql, Mysql}
use Rattle.sql_text.specs.Names.{needs_quotes, quoted_name, is_lower, is_upper, is_digit}
use Rattle.sql_text.specs.Words.{null_word, in_word, empty_word, between_word}
use Rattle.script_laws.specs.Texts.Grammar.Trees.{Test, Sign, Function, Source, Sql, column, mark, test, null_test, in_list, between, all_of, any_of, opposite, sum, product, negative, call, count_all, exists, Sqls, none, more}
use Rattle.script_laws.specs.Texts.Grammar.Words.{test_word, sign_word, function_word}

-- ---- names and marks

-- a name stands bare where it needs no quotes, or in quotes with each quote in it doubled, and each `%` where the dialect doubles it
pub data IsName (dialect : Dialect) : List ℕ → List ℕ → Type 0 where
  bare : {name : List ℕ} → needs_quotes name ≡ false → IsName dialect name name
  in_quotes : {name : List ℕ} → IsName dialect (quoted_name dialect name) name

abbrev pub is_label_byte : ℕ → Bool
is_label_byte byte = is_lower byte || is_upper byte || is_digit byte || byte == 95

-- `?`, `%(label)s` and `%s`
pub data IsMark : Dialect → List ℕ → Type 0 where
  question : IsMark Sqlite (codes "?")
  labelled : (label : List ℕ) → IsTrue (list_all is_label_byte label) → IsMark Postgresql (codes "%(" ++ (label ++ codes ")s"))
  format : IsMark Mysql (codes "%s")

-- one mark or more, with commas between
pub data AreMarks (dialect : Dialect) : List ℕ → List Value → Type 0 where
  one_mark : {a : List ℕ} {v : Value} → IsMark dialect a → AreMarks dialect a (v ∷ [])
  more_marks : {a b : List ℕ} {v : Value} {w : List Value} → IsMark dialect a → AreMarks dialect b w → AreMarks dialect (a ++ (codes ", " ++ b)) (v ∷ w)

-- `table` or `table AS alias`
pub data IsSource (dialect : Dialect) : List ℕ → Source → Type 0 where
  named : {a table : List ℕ} → IsName dialect a table → IsSource dialect a (record { table = table; alias = None })
  aliased : {a b table alias : List ℕ} → IsName dialect a table → IsName dialect b alias → IsSource dialect (a ++ (codes " AS " ++ b)) (record { table = table; alias = Some alias })

-- ---- levels

-- from the loosest to the tightest
pub data Level : Type 0 where
  Either : Level
  Both : Level
  Opposite : Level
  Tested : Level
  Added : Level
  Multiplied : Level
  Signed : Level
  Operand : Level

abbrev pub tighter : Level → Level
tighter Either = Both
tighter Both = Opposite
tighter Opposite = Tested
tighter Tested = Added
tighter Added = Multiplied
tighter Multiplied = Signed
tighter Signed = Operand
tighter Operand = Operand

mutual
  pub data Reads (dialect : Dialect) : Level → List ℕ → List Value → Sql → Type 0 where
    -- a level's text is a text of the next level
    as_tighter : {l : Level} {a : List ℕ} {v : List Value} {x : Sql} → Reads dialect (tighter l) a v x → Reads dialect l a v x
    -- 1: `a OR b`
    either : {a b : List ℕ} {v w : List Value} {x : Sql} {ys : Sqls} → Reads dialect Both a v x → Parts dialect Both (codes " OR ") b w ys
        → Reads dialect Either (a ++ (codes " OR " ++ b)) (v ++ w) (any_of (more x ys))
    -- 2: `a AND b`
    both : {a b : List ℕ} {v w : List Value} {x : Sql} {ys : Sqls} → Reads dialect Opposite a v x → Parts dialect Opposite (codes " AND ") b w ys
        → Reads dialect Both (a ++ (codes " AND " ++ b)) (v ++ w) (all_of (more x ys))
    -- 3: `NOT a`
    negated : {a : List ℕ} {v : List Value} {x : Sql} → Reads dialect Operand a v x → Reads dialect Opposite (codes "NOT " ++ a) v (opposite x)
    -- 4: `a = b` and the like, `a IS NULL`, `a IN (?)`, `a BETWEEN b AND c`
    tested : {a b word : List ℕ} {v w : List Value} {x y : Sql} (by : Test) → test_word dialect by ≡ Some word → Reads dialect Added a v x → Reads dialect Added b w y
        → Reads dialect Tested (a ++ (word ++ b)) (v ++ w) (test by x y)
    null_tested : {a : List ℕ} {v : List Value} {x : Sql} (negated : Bool) → Reads dialect Added a v x → Reads dialect Tested (a ++ null_word negated) v (null_test negated x)
    listed : {a b : List ℕ} {v w : List Value} {x : Sql} (negated : Bool) → Reads dialect Added a v x → AreMarks dialect b w
        → Reads dialect Tested (a ++ (in_word negated ++ (b ++ codes ")"))) (v ++ w) (in_list negated x w)
    ranged : {a b c : List ℕ} {u v w : List Value} {x y z : Sql} (negated : Bool) → Reads dialect Added a u x → Reads dialect Added b v y → Reads dialect Added c w z
        → Reads dialect Tested (a ++ (between_word negated ++ (b ++ (codes " AND " ++ c)))) (u ++ (v ++ w)) (between negated x y z)
    -- 5: `a + b`, `a - b`, `a || b`
    added : {a b word : List ℕ} {v w : List Value} {x y : Sql} (by : Sign) → sign_word dialect by ≡ Some word → Reads dialect Added a v x → Reads dialect Multiplied b w y
        → Reads dialect Added (a ++ (word ++ b)) (v ++ w) (sum by x y)
    -- 6: `a * b`
    multiplied : {a b : List ℕ} {v w : List Value} {x y : Sql} → Reads dialect Multiplied a v x → Reads dialect Signed b w y
        → Reads dialect Multiplied (a ++ (codes " * " ++ b)) (v ++ w) (product x y)
    -- 7: `-a`
    signed : {a : List ℕ} {v : List Value} {x : Sql} → Reads dialect Operand a v x → Reads dialect Signed (codes "-" ++ a) v (negative x)
    -- 8: all else
    in_parentheses : {a : List ℕ} {v : List Value} {x : Sql} → Reads dialect Either a v x → Reads dialect Operand (codes "(" ++ (a ++ codes ")")) v x
    marked : {a : List ℕ} (v : Value) → IsMark dialect a → Reads dialect Operand a (v ∷ []) (mark v)
    of_source : {a b source name : List ℕ} → IsName dialect a source → IsName dialect b name → Reads dialect Operand (a ++ (codes "." ++ b)) [] (column source name)
    in_nothing : {a : List ℕ} {v : List Value} {x : Sql} (negated : Bool) → Reads dialect Added a v x → Reads dialect Operand (codes "(" ++ ((a ++ empty_word negated) ++ codes ")")) v (in_list negated x [])
    called : {a word : List ℕ} {v : List Value} {xs : Sqls} (by : Function) → function_word dialect by ≡ Some word → Parts dialect Either (codes ", ") a v xs
        → Reads dialect Operand (word ++ (a ++ codes ")")) v (call by xs)
    counted : Reads dialect Operand (codes "count(*)") [] count_all
    existing : {a b : List ℕ} {v : List Value} {source : Source} {x : Sql} → IsSource dialect a source → Reads dialect Either b v x
        → Reads dialect Operand (codes "EXISTS (SELECT 1 FROM " ++ (a ++ (codes " WHERE " ++ (b ++ codes ")")))) v (exists source x)

  -- one text of a level or more, with the word between each two
  pub data Parts (dialect : Dialect) : Level → List ℕ → List ℕ → List Value → Sqls → Type 0 where
    one_part : {l : Level} {word a : List ℕ} {v : List Value} {x : Sql} → Reads dialect l a v x → Parts dialect l word a v (more x none)
    more_parts : {l : Level} {word a b : List ℕ} {v w : List Value} {x : Sql} {ys : Sqls} → Reads dialect l a v x → Parts dialect l word b w ys
        → Parts dialect l word (a ++ (word ++ b)) (v ++ w) (more x ys)
