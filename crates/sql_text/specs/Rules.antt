-- What the dialects' texts are ruled by beside their words.
use Rattle.std.specs.Prelude.{ℕ, Bool, true, false}
use Rattle.base_core.specs.declared.value.ArithOp.{ArithOp}
use Rattle.base_core.specs.declared.value.ArithOp.TheVariants.{Add, Sub, Mul}
use Rattle.base_core.specs.declared.dialect.Dialect.{Dialect}
use Rattle.base_core.specs.declared.dialect.Dialect.TheVariants.{Sqlite, Postgresql, Mysql}

-- the least levels of an operator's operands
abbrev pub arith_least : ArithOp → ℕ × ℕ
arith_least Add = (5, 6)
arith_least Sub = (5, 6)
arith_least Mul = (6, 7)

-- of `EXISTS`, and of `NOT EXISTS`
abbrev pub exists_level : Bool → ℕ
exists_level false = 8
exists_level true = 3

-- whether an INSERT tells its key, where that is generated and where it is given
abbrev pub tells_key : Dialect → Bool → Bool
tells_key Sqlite generated = false
tells_key Postgresql generated = generated
tells_key Mysql generated = false
