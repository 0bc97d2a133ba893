-- The grammar of selects and bulk statements in three dialects of SQL, on whole texts: one case for each clause.
use Rattle.std.specs.Prelude.{◌≡◌, ℕ, ◌++◌, Bool, true, false, List, [], ◌∷◌, Option, Some, None, codes}
use Rattle.base_core.specs.declared.value.Value.{Value}
use Rattle.base_core.specs.declared.dialect.Dialect.{Dialect}
use Rattle.base_core.specs.declared.dialect.Dialect.TheVariants.{Sqlite, Postgresql, Mysql}
use Rattle.sql_text.specs.Words.{select_word, join_word}
use Rattle.script_laws.specs.Texts.Grammar.Trees.{Sql, Source}
use Rattle.script_laws.specs.Texts.Grammar.Reads.{IsName, IsMark, AreMarks, IsSource, Reads, Either}
use Rattle.script_laws.specs.Texts.Forms.Forms.{JoinForm, SelectForm, BulkForm, insert, update, delete, RowForm, fill, add, change, remove}

-- what a text and its values are read as
abbrev pub Reading : Type 0 → Type 1
Reading A = List ℕ → List Value → A → Type 0

-- any number of items with a word between each two
pub data Items {A : Type 0} (reads : Reading A) (word : List ℕ) : List ℕ → List Value → List A → Type 0 where
  no_items : Items reads word [] [] []
  one_item : {a : List ℕ} {v : List Value} {x : A} → reads a v x → Items reads word a v (x ∷ [])
  more_items : {a b : List ℕ} {v w : List Value} {x y : A} {ys : List A} → reads a v x → Items reads word b w (y ∷ ys) → Items reads word (a ++ (word ++ b)) (v ++ w) (x ∷ y ∷ ys)

-- a clause behind its word, or none
pub data Clause {A : Type 0} (reads : Reading A) (word : List ℕ) : List ℕ → List Value → Option A → Type 0 where
  no_clause : Clause reads word [] [] None
  clause : {a : List ℕ} {v : List Value} {x : A} → reads a v x → Clause reads word (word ++ a) v (Some x)

-- a clause of some items behind its word, or none
pub data Series {A : Type 0} (reads : Reading A) (word between : List ℕ) : List ℕ → List Value → List A → Type 0 where
  no_series : Series reads word between [] [] []
  series : {a : List ℕ} {v : List Value} {x : A} {xs : List A} → Items reads between a v (x ∷ xs) → Series reads word between (word ++ a) v (x ∷ xs)

-- ---- selects

-- `e` or `e AS name`
pub data Item (dialect : Dialect) : List ℕ → List Value → Sql × Option (List ℕ) → Type 0 where
  unnamed : {a : List ℕ} {v : List Value} {x : Sql} → Reads dialect Either a v x → Item dialect a v (x, None)
  as_name : {a b name : List ℕ} {v : List Value} {x : Sql} → Reads dialect Either a v x → IsName dialect b name → Item dialect (a ++ (codes " AS " ++ b)) v (x, Some name)

-- `e` or `e DESC`
pub data Order (dialect : Dialect) : List ℕ → List Value → Sql × Bool → Type 0 where
  rising : {a : List ℕ} {v : List Value} {x : Sql} → Reads dialect Either a v x → Order dialect a v (x, false)
  falling : {a : List ℕ} {v : List Value} {x : Sql} → Reads dialect Either a v x → Order dialect (a ++ codes " DESC") v (x, true)

-- each further source with its condition
pub data Joins (dialect : Dialect) : List ℕ → List Value → List JoinForm → Type 0 where
  no_joins : Joins dialect [] [] []
  join : {a b c : List ℕ} {v w : List Value} {source : Source} {x : Sql} {joins : List JoinForm} (left : Bool) → IsSource dialect a source → Reads dialect Either b v x → Joins dialect c w joins
      → Joins dialect ((join_word left ++ (a ++ (codes " ON " ++ b))) ++ c) (v ++ w) (record { left = left; source = source; on = x } ∷ joins)

-- limit and offset; MySQL writes the offset first
pub data Cut : Dialect → List ℕ → List Value → Option Value × Option Value → Type 0 where
  no_cut : {dialect : Dialect} → Cut dialect [] [] (None, None)
  limit_alone : {dialect : Dialect} {a : List ℕ} (l : Value) → IsMark dialect a → Cut dialect (codes " LIMIT " ++ a) (l ∷ []) (Some l, None)
  sqlite_offset : {a : List ℕ} (o : Value) → IsMark Sqlite a → Cut Sqlite (codes " LIMIT -1 OFFSET " ++ a) (o ∷ []) (None, Some o)
  postgresql_offset : {a : List ℕ} (o : Value) → IsMark Postgresql a → Cut Postgresql (codes " LIMIT ALL OFFSET " ++ a) (o ∷ []) (None, Some o)
  mysql_offset : {a : List ℕ} (o : Value) → IsMark Mysql a → Cut Mysql (codes " LIMIT " ++ (a ++ codes ", 18446744073709551615")) (o ∷ []) (None, Some o)
  sqlite_both : {a b : List ℕ} (l o : Value) → IsMark Sqlite a → IsMark Sqlite b → Cut Sqlite (codes " LIMIT " ++ (a ++ (codes " OFFSET " ++ b))) (l ∷ o ∷ []) (Some l, Some o)
  postgresql_both : {a b : List ℕ} (l o : Value) → IsMark Postgresql a → IsMark Postgresql b → Cut Postgresql (codes " LIMIT " ++ (a ++ (codes " OFFSET " ++ b))) (l ∷ o ∷ []) (Some l, Some o)
  mysql_both : {a b : List ℕ} (l o : Value) → IsMark Mysql a → IsMark Mysql b → Cut Mysql (codes " LIMIT " ++ (a ++ (codes ", " ++ b))) (o ∷ l ∷ []) (Some l, Some o)

-- the parts of a select's text with their values, in order
pub record ReadsSelect (dialect : Dialect) (text : List ℕ) (values : List Value) (it : SelectForm) : Type 0 where
  pub items_text : List ℕ
  pub source_text : List ℕ
  pub joins_text : List ℕ
  pub filter_text : List ℕ
  pub groups_text : List ℕ
  pub having_text : List ℕ
  pub order_text : List ℕ
  pub cut_text : List ℕ
  pub items_values : List Value
  pub joins_values : List Value
  pub filter_values : List Value
  pub groups_values : List Value
  pub having_values : List Value
  pub order_values : List Value
  pub cut_values : List Value
  pub items : Items (Item dialect) (codes ", ") items_text items_values it.items
  pub first : IsSource dialect source_text it.first
  pub joins : Joins dialect joins_text joins_values it.joins
  pub filter : Clause (Reads dialect Either) (codes " WHERE ") filter_text filter_values it.filter
  pub groups : Series (Reads dialect Either) (codes " GROUP BY ") (codes ", ") groups_text groups_values it.groups
  pub having : Clause (Reads dialect Either) (codes " HAVING ") having_text having_values it.having
  pub order : Series (Order dialect) (codes " ORDER BY ") (codes ", ") order_text order_values it.order
  pub cut : Cut dialect cut_text cut_values (it.limit, it.offset)
  pub text_is : text ≡ (select_word it.distinct ++ items_text) ++ ((codes " FROM " ++ source_text) ++ joins_text) ++ (filter_text ++ groups_text ++ having_text ++ order_text ++ cut_text)
  pub values_are : values ≡ items_values ++ joins_values ++ (filter_values ++ groups_values ++ having_values ++ order_values ++ cut_values)

-- ---- bulk statements

-- a row without columns
abbrev pub default_word : Dialect → List ℕ
default_word Sqlite = codes " DEFAULT VALUES"
default_word Postgresql = codes " DEFAULT VALUES"
default_word Mysql = codes " () VALUES ()"

-- a name by itself, without values
pub data Name (dialect : Dialect) : List ℕ → List Value → List ℕ → Type 0 where
  name : {a n : List ℕ} → IsName dialect a n → Name dialect a [] n

-- `column=e`
pub data Set (dialect : Dialect) : List ℕ → List Value → List ℕ × Sql → Type 0 where
  set : {a b n : List ℕ} {v : List Value} {x : Sql} → IsName dialect a n → Reads dialect Either b v x → Set dialect (a ++ (codes "=" ++ b)) v (n, x)

pub data ReadsBulk (dialect : Dialect) : List ℕ → List Value → BulkForm → Type 0 where
  insert_nothing : {a table : List ℕ} → IsName dialect a table → ReadsBulk dialect (codes "INSERT INTO " ++ (a ++ default_word dialect)) [] (insert table [] [])
  insert_row : {a b c table column : List ℕ} {columns : List (List ℕ)} {v : List Value} → IsName dialect a table → Items (Name dialect) (codes ", ") b [] (column ∷ columns) → AreMarks dialect c v
      → ReadsBulk dialect (codes "INSERT INTO " ++ (a ++ (codes " (" ++ (b ++ (codes ") VALUES (" ++ (c ++ codes ")")))))) v (insert table (column ∷ columns) v)
  update_rows : {a b c table : List ℕ} {cells : List (List ℕ × Sql)} {v w : List Value} {filter : Option Sql} → IsName dialect a table → Items (Set dialect) (codes ", ") b v cells
      → Clause (Reads dialect Either) (codes " WHERE ") c w filter → ReadsBulk dialect (codes "UPDATE " ++ (a ++ (codes " SET " ++ (b ++ c)))) (v ++ w) (update table cells filter)
  delete_rows : {a c table : List ℕ} {w : List Value} {filter : Option Sql} → IsName dialect a table → Clause (Reads dialect Either) (codes " WHERE ") c w filter
      → ReadsBulk dialect (codes "DELETE FROM " ++ (a ++ c)) w (delete table filter)

-- ---- statements on rows

-- `(?, ?)`
pub data Row (dialect : Dialect) : List ℕ → List Value → List Value → Type 0 where
  row : {a : List ℕ} {v : List Value} → AreMarks dialect a v → Row dialect (codes "(" ++ (a ++ codes ")")) v v

-- `column=?`
pub data Cell (dialect : Dialect) : List ℕ → List Value → List ℕ × Value → Type 0 where
  cell : {a m n : List ℕ} (x : Value) → IsName dialect a n → IsMark dialect m → Cell dialect (a ++ (codes "=" ++ m)) (x ∷ []) (n, x)

-- `table.column = ?`
pub data KeyCell (dialect : Dialect) : List ℕ → List Value → List ℕ × List ℕ × Value → Type 0 where
  key_cell : {a b m table n : List ℕ} (x : Value) → IsName dialect a table → IsName dialect b n → IsMark dialect m → KeyCell dialect (a ++ (codes "." ++ (b ++ (codes " = " ++ m)))) (x ∷ []) (table, n, x)

-- PostgreSQL tells the columns of a generated key
pub data Returned : Dialect → List ℕ → List (List ℕ × List ℕ) → Type 0 where
  none_returned : {dialect : Dialect} → Returned dialect [] []
  returned : {a b c table n : List ℕ} {others : List (List ℕ × List ℕ)} → IsName Postgresql a table → IsName Postgresql b n → Returned Postgresql c others
      → Returned Postgresql (codes " RETURNING " ++ (a ++ (codes "." ++ (b ++ c)))) ((table, n) ∷ others)

pub data ReadsRow (dialect : Dialect) : List ℕ → List Value → RowForm → Type 0 where
  fill_row : {a b table : List ℕ} {told : List (List ℕ × List ℕ)} → IsName dialect a table → Returned dialect b told
      → ReadsRow dialect (codes "INSERT INTO " ++ (a ++ (default_word dialect ++ b))) [] (fill table told)
  add_rows : {a b c d table column : List ℕ} {columns : List (List ℕ)} {rows : List (List Value)} {told : List (List ℕ × List ℕ)} {v : List Value} → IsName dialect a table
      → Items (Name dialect) (codes ", ") b [] (column ∷ columns) → Items (Row dialect) (codes ", ") c v rows → Returned dialect d told
      → ReadsRow dialect (codes "INSERT INTO " ++ (a ++ (codes " (" ++ (b ++ (codes ") VALUES " ++ (c ++ d)))))) v (add table (column ∷ columns) rows told)
  change_row : {a b c table : List ℕ} {cells : List (List ℕ × Value)} {key : List (List ℕ × List ℕ × Value)} {v w : List Value} → IsName dialect a table
      → Items (Cell dialect) (codes ", ") b v cells → Series (KeyCell dialect) (codes " WHERE ") (codes " AND ") c w key
      → ReadsRow dialect (codes "UPDATE " ++ (a ++ (codes " SET " ++ (b ++ c)))) (v ++ w) (change table cells key)
  remove_row : {a c table : List ℕ} {key : List (List ℕ × List ℕ × Value)} {w : List Value} → IsName dialect a table → Series (KeyCell dialect) (codes " WHERE ") (codes " AND ") c w key
      → ReadsRow dialect (codes "DELETE FROM " ++ (a ++ c)) w (remove table key)
