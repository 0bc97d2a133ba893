-- What a keeper that tells has: its tables, and those at the start of each scope in progress.
use Rattle.std.specs.Prelude.{ℕ, List, [], ◌∷◌, length}
use Rattle.std.specs.BTreeMap.{is_at}
use Rattle.std.specs.Map.{remove_entry}
use Rattle.base_core.specs.declared.ids.TableId.{TableId}
use Rattle.schema_core.specs.Tables.{Tables, table_cmp, with_rows}

-- the tables with one more, which has no rows
abbrev pub with_empty_table : Tables → TableId → Tables
with_empty_table tables table = with_rows tables table []

-- the tables without one
abbrev pub without_table : Tables → TableId → Tables
without_table tables table = remove_entry (is_at (table_cmp table)) tables

-- the tables now, and the tables at the start of each scope, the innermost first; the outermost scope is the transaction
pub record Store : Type 0 where
  pub tables : Tables
  pub scopes : List Tables

-- 0 without a scope, 1 in the transaction, one more for each savepoint
abbrev pub depth_of : Store → ℕ
depth_of store = length store.scopes

-- the tables at the start of the outermost scope, or the tables now
abbrev pub outermost : Tables → List Tables → Tables
outermost tables [] = tables
outermost tables (s ∷ scopes) = outermost s scopes

-- the tables that were committed last
abbrev pub committed_of : Store → Tables
committed_of store = outermost store.tables store.scopes
