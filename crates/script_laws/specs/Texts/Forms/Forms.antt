-- The forms of statements: tables and columns by name, expressions as trees.
use Rattle.std.specs.Prelude.{ℕ, Bool, List, Option}
use Rattle.base_core.specs.declared.value.Value.{Value}
use Rattle.script_laws.specs.Texts.Grammar.Trees.{Sql, Source}

pub record JoinForm : Type 0 where
  pub left : Bool
  pub source : Source
  pub on : Sql

-- a select; the numbers of its cut are values
pub record SelectForm : Type 0 where
  pub distinct : Bool
  pub items : List (Sql × Option (List ℕ))
  pub first : Source
  pub joins : List JoinForm
  pub filter : Option Sql
  pub groups : List Sql
  pub having : Option Sql
  pub order : List (Sql × Bool)
  pub limit : Option Value
  pub offset : Option Value

-- a bulk statement; a SET to NULL is a mark with NULL
pub data BulkForm : Type 0 where
  insert : List ℕ → List (List ℕ) → List Value → BulkForm
  update : List ℕ → List (List ℕ × Sql) → Option Sql → BulkForm
  delete : List ℕ → Option Sql → BulkForm

-- a statement on rows; columns have their table's name where the text has it
pub data RowForm : Type 0 where
  -- one row without values, and the columns whose values it tells
  fill : List ℕ → List (List ℕ × List ℕ) → RowForm
  -- the columns, the rows, and the columns whose values are told
  add : List ℕ → List (List ℕ) → List (List Value) → List (List ℕ × List ℕ) → RowForm
  -- the columns that are written, and the key
  change : List ℕ → List (List ℕ × Value) → List (List ℕ × List ℕ × Value) → RowForm
  remove : List ℕ → List (List ℕ × List ℕ × Value) → RowForm
