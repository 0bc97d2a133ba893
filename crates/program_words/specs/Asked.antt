-- What the words after the program's name ask for: `[--dialect D] [--echo] [--store FILE]`.
use Rattle.std.specs.Prelude.{Bool, false, List, [], Option, None, Some, if◌then◌else◌, codes, find, option_and_then, option_map}
use Rattle.std.specs.Str.{bytes_eq}
use Rattle.keeper_core.specs.declared.target.Target.{Target}
use Rattle.keeper_core.specs.declared.target.Target.TheVariants as targets
use Rattle.base_core.specs.declared.dialect.Dialect.{Dialect}
use Rattle.base_core.specs.declared.dialect.Dialect.TheVariants as dialects
use Rattle.program_words.specs.declared.options.Options.{Options}
use Rattle.program_words.specs.Reading.{AnOption, Given, Text, words_read}

-- ---- the values of options

-- what was given for each option
pub record Values : Type 0 where
  pub dialect : Option Text
  pub echo : Bool
  pub store : Option Text

-- a flag that was given has the value `true`
abbrev pub is_on : Option Text → Bool
is_on None = false
is_on (Some value) = bytes_eq value (codes "true")

abbrev pub values_by : (Text → Option Text) → Values
values_by value = record { dialect = value (codes "dialect"); echo = is_on (value (codes "echo")); store = value (codes "store") }

abbrev pub value_given : Text → List Given → Option Text
value_given name all = option_map (λ given. given.1) (find (λ given. bytes_eq given.0 name) all)

-- the values that the words give; none where they are not the program's
abbrev pub values_asked : List Text → Option Values
values_asked words = option_map (λ all. values_by (λ name. value_given name all)) (words_read AnOption [] words)

-- ---- what they mean

-- the dialect of this name
abbrev pub dialect_named : Text → Option Dialect
dialect_named name =
    if bytes_eq name (codes "sqlite") then Some dialects.Sqlite
    else (if bytes_eq name (codes "postgresql") then Some dialects.Postgresql
    else (if bytes_eq name (codes "mysql") then Some dialects.Mysql else None))

-- SQLite's, where none is named
abbrev pub dialect_asked : Option Text → Option Dialect
dialect_asked None = Some dialects.Sqlite
dialect_asked (Some name) = dialect_named name

-- memory, where no file is named
abbrev pub target_asked : Option Text → Target
target_asked None = targets.Memory
target_asked (Some name) = targets.File name

abbrev pub options_of : Values → Option Options
options_of values =
    option_map (λ dialect. record { dialect = dialect; echo = values.echo; target = target_asked values.store }) (dialect_asked values.dialect)

-- what the words ask for; none where they are not the program's
abbrev pub options_asked : List Text → Option Options
options_asked words = option_and_then options_of (values_asked words)
