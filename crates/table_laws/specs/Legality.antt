-- Stores whose tables are legal, and programs that leave them so.
use Rattle.std.specs.Prelude.{IfSome, List, Option}
use Rattle.std.specs.List.{AllByRecursion}
use Rattle.base_core.specs.declared.ids.TableId.{TableId}
use Rattle.schema_core.specs.Catalog.{Catalog}
use Rattle.schema_core.specs.Tables.{AreAscending, Legal, Tables}
use Rattle.keeper_core.specs.Beside.{Beside}
use Rattle.keeper_core.specs.Moment.{Told}
use Rattle.keeper_core.specs.Programs.{Run, ◌>>=◌, each, give}
use Rattle.keeper_core.specs.Store.{Store}
use Rattle.keeper_core.specs.Calls.{drop_table}

-- legal tables, ascending by number, and their rows by key
pub record AreSound (schema : Catalog) (tables : Tables) : Type 0 where
  pub legal : Legal schema tables
  pub ascending : AreAscending tables

-- the tables now, and those at the start of each scope, have the property
pub record Throughout (P : Tables → Type 0) (store : Store) : Type 0 where
  pub tables : P store.tables
  pub scopes : AllByRecursion P store.scopes

-- a store whose tables are legal and ascending, now and at the start of each scope
abbrev pub IsLegalStore : Catalog → Store → Type 0
IsLegalStore schema = Throughout (AreSound schema)

-- a store whose tables are ascending
abbrev pub IsAscendingStore : Store → Type 0
IsAscendingStore = Throughout AreAscending

-- the store that is told, where one is, has the property
abbrev pub IfTold : (Store → Type 0) → Option (Told Store) → Type 0
IfTold P told = IfSome told (λ t. P t.world)

-- a program that keeps a property of its world: what has it before has it after, whatever the program answers
pub record Keeps {W A : Type 0} (P : W → Type 0) (m : W → Run W A) : Type 0 where
  pub kept : (w : W) → P w → P (m w).after

-- a program of the store that leaves a legal store legal
abbrev pub KeepsLegal : {A : Type 0} → Catalog → (Store → Run Store A) → Type 0
KeepsLegal schema m = Keeps (IsLegalStore schema) m

-- a program of the store that leaves an ascending store ascending
abbrev pub KeepsAscending : {A : Type 0} → (Store → Run Store A) → Type 0
KeepsAscending m = Keeps IsAscendingStore m

-- a program that leaves a store legal, of a world in which it stands
abbrev pub KeepsLegalIn : {W A : Type 0} → (W → Store) → Catalog → (W → Run W A) → Type 0
KeepsLegalIn store_of schema m = Keeps (λ w. IsLegalStore schema (store_of w)) m

-- what stands beside a store may be anything
abbrev pub KeepsLegalBeside : {S A : Type 0} → Catalog → (Beside S → Run (Beside S) A) → Type 0
KeepsLegalBeside schema m = KeepsLegalIn (λ w. w.store) schema m

-- a table is dropped where it is there
unfoldable pub drop_one : TableId → Unit {0} → Store → Run Store (Unit {0})
drop_one table u = drop_table table >>= λ _. give tt

-- tables are dropped, one after another
unfoldable pub drop_each : List TableId → Store → Run Store (Unit {0})
drop_each order = each drop_one tt order
