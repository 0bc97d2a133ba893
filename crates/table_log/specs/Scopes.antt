-- What a change of the tables, and the start and the end of a scope, make of tables with scopes.
use Rattle.std.specs.Prelude.{◌∷◌, drop, slice_index_or}
use Rattle.schema_core.specs.Tables.{Tables}
use Rattle.keeper_core.specs.Store.{Store}

-- other tables in the same scopes
abbrev pub with_tables : Store → Tables → Store
with_tables store tables = record { tables = tables; scopes = store.scopes }

-- one scope more, inside the others
abbrev pub scope_started : Store → Store
scope_started store = record { tables = store.tables; scopes = store.tables ∷ store.scopes }

-- without the innermost scope, and the tables as they are
abbrev pub scope_ended : Store → Store
scope_ended store = record { tables = store.tables; scopes = drop 1 store.scopes }

-- without the innermost scope, and the tables as they were at its start
abbrev pub scope_undone : Store → Store
scope_undone store = record { tables = slice_index_or store.scopes 0 store.tables; scopes = drop 1 store.scopes }
