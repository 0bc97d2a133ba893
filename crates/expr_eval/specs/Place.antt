-- What a scope of the code stands for.
use Rattle.std.specs.Option.{option_copied}
use Rattle.expr_eval.specs.declared.scope.Scope.{Scope}
use Rattle.sql_semantics.specs.Eval.{Place}
use Rattle.table_rows.specs.Lent.{seen}

abbrev pub place_of : Scope → Place
place_of s = record { row = s.row.now; starts = s.starts.now; tables = seen s.tables; group = option_copied s.group }
