-- A text with its values has one meaning.
use Rattle.std.specs.Prelude.{◌≡◌, ℕ, List}
use Rattle.base_core.specs.declared.value.Value.{Value}
use Rattle.base_core.specs.declared.dialect.Dialect.{Dialect}
use Rattle.script_laws.specs.Texts.Grammar.Trees.{Sql}
use Rattle.script_laws.specs.Texts.Grammar.Reads.{Level, Reads}

-- A text of a level is read with its values as one tree at most.
abbrev pub IsOneTree : Type 0
IsOneTree = (dialect : Dialect) (level : Level) (text : List ℕ) (values : List Value) (x y : Sql) → Reads dialect level text values x → Reads dialect level text values y → x ≡ y
