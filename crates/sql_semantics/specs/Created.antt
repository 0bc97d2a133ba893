-- The created tables as a select sees them.
use Rattle.std.specs.Prelude.{map}
use Rattle.schema_core.specs.Tables as held
use Rattle.sql_semantics.specs.Eval.{Tables}

-- each table with its rows, ascending by key, without the keys before them
abbrev pub bare : held.Tables → Tables
bare tables = map (λ created. (created.0, map (λ entry. entry.1) created.1)) tables
