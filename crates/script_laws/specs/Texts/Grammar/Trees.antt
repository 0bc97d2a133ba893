-- Trees of SQL expressions. Columns and tables stand by name, and what a dialect writes alike is one tree.
use Rattle.std.specs.Prelude.{ℕ, Bool, List, Option}
use Rattle.base_core.specs.declared.value.Value.{Value}

-- what stands between the two sums of a test; a negated form has `true`
pub data Test : Type 0 where
  Equal : Test
  NotEqual : Test
  Less : Test
  LessEqual : Test
  Greater : Test
  GreaterEqual : Test
  Like : Bool → Test
  Ilike : Bool → Test
  Distinct : Bool → Test

pub data Sign : Type 0 where
  Plus : Sign
  Minus : Sign
  Beside : Sign

pub data Function : Type 0 where
  Count : Function
  Sum : Function
  Min : Function
  Max : Function
  Lower : Function
  Upper : Function
  Length : Function
  Coalesce : Function
  Concat : Function

-- a table in an `exists` or a FROM, and the name that it is given there
pub record Source : Type 0 where
  pub table : List ℕ
  pub alias : Option (List ℕ)

mutual
  pub data Sql : Type 0 where
    column : List ℕ → List ℕ → Sql
    mark : Value → Sql
    test : Test → Sql → Sql → Sql
    null_test : Bool → Sql → Sql
    in_list : Bool → Sql → List Value → Sql
    between : Bool → Sql → Sql → Sql → Sql
    all_of : Sqls → Sql
    any_of : Sqls → Sql
    opposite : Sql → Sql
    sum : Sign → Sql → Sql → Sql
    product : Sql → Sql → Sql
    negative : Sql → Sql
    call : Function → Sqls → Sql
    count_all : Sql
    exists : Source → Sql → Sql

  pub data Sqls : Type 0 where
    none : Sqls
    more : Sql → Sqls → Sqls
