-- The created tables with their rows, as programs of the store and of the session beside it.
use Rattle.std.specs.Prelude.{List, [], ◌∷◌, ◌++◌, Option, None, Some}
use Rattle.base_core.specs.declared.ids.TableId.{TableId}
use Rattle.base_core.specs.declared.value.Value.{Value}
use Rattle.schema_core.specs.Catalog.{Catalog}
use Rattle.schema_core.specs.DependencyOrder.{table_ids}
use Rattle.keeper_core.specs.Store.{Store}
use Rattle.keeper_core.specs.Programs.{Run, ◌>>=◌, each, give}
use Rattle.keeper_core.specs.Beside.{by_own, no_note, on_store}
use Rattle.keeper_core.specs.Calls as call
use Rattle.session_calls.specs.Parts.{World}

-- tables, each with its rows
abbrev pub Filled : Type 0
Filled = List (TableId × List (List Value))

-- the tables with one more, where it was created
abbrev pub with_filled : Filled → TableId → Option (List (List Value)) → Filled
with_filled tables table None = tables
with_filled tables table (Some rows) = tables ++ (table, rows) ∷ []

unfoldable pub scan_one : TableId → Filled → Store → Run Store Filled
scan_one table tables = call.scan table >>= λ rows. give (with_filled tables table rows)

-- the created ones of the schema's tables, in the order of declaration
unfoldable pub scan_each : Catalog → Store → Run Store Filled
scan_each schema = each scan_one [] (table_ids schema)

-- the created ones of the session's tables; nothing is written before
unfoldable pub scan_tables : World → Run World Filled
scan_tables = by_own (λ session. on_store no_note (scan_each session.mapping.schema))
