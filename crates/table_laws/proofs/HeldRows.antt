-- The rows of a legal store fit the schema.
use Rattle.std.proofs.Common.{◌≡◌, true, List, [], ◌∷◌, map, Option, None, Some, IfSome}
use Rattle.std.specs.List.{AllByRecursion}
use Rattle.base_core.specs.declared.ids.TableId.{TableId}
use Rattle.base_core.specs.declared.value.Value.{Value}
use Rattle.schema_core.specs.Catalog.{Catalog, spec_of}
use Rattle.schema_core.specs.Tables.{Rows, Tables, is_legal_row}
use Rattle.schema_core.specs.WellFormed.{is_row}
use Rattle.sql_semantics.specs.Created.{bare}
use Rattle.sql_semantics.specs.Shapes.{AreLegalRows, AreRows}
use Rattle.keeper_core.specs.Moment.{Told}
use Rattle.keeper_core.specs.Store.{Store}
use Rattle.keeper_core.specs.Keeping.{HoldsLegalRows, HoldsRows}
use Rattle.table_laws.proofs.Legality.{may_from_fits}
use Rattle.table_laws.specs.Legality.{IsLegalStore}

bare_rows : (P : List Value → Type 0) (rows : Rows) → AllByRecursion (λ row. P row.1) rows → AllByRecursion P (map (λ entry. entry.1) rows)
bare_rows P [] all = tt
bare_rows P (row ∷ rows) all = (all.0, bare_rows P rows all.1)

bare_each : (P : TableId → List Value → Type 0) (tables : Tables) → AllByRecursion (λ c. AllByRecursion (λ row. P c.0 row.1) c.1) tables → AllByRecursion (λ table. AllByRecursion (P table.0) table.1) (bare tables)
bare_each P [] all = tt
bare_each P (c ∷ tables) all = (bare_rows (P c.0) c.1 all.0, bare_each P tables all.1)

pub legal_rows : (schema : Catalog) (tables : Tables) → AllByRecursion (λ c. AllByRecursion (λ row. is_legal_row (spec_of schema c.0) row.1 ≡ true) c.1) tables → AreLegalRows schema (bare tables)
legal_rows schema tables cells = bare_each (λ table row. is_legal_row (spec_of schema table) row ≡ true) tables cells

held_rows : (schema : Catalog) (row : Rows) (table : TableId) → AllByRecursion (λ row. is_legal_row (spec_of schema table) row.1 ≡ true) row → AllByRecursion (λ row. is_row (spec_of schema table) row.1 ≡ true) row
held_rows schema [] table all = tt
held_rows schema (row ∷ rows) table all = (may_from_fits (spec_of schema table).columns row.1 all.0, held_rows schema rows table all.1)

held_each : (schema : Catalog) (tables : Tables) → AllByRecursion (λ c. AllByRecursion (λ row. is_legal_row (spec_of schema c.0) row.1 ≡ true) c.1) tables
    → AllByRecursion (λ c. AllByRecursion (λ row. is_row (spec_of schema c.0) row.1 ≡ true) c.1) tables
held_each schema [] all = tt
held_each schema (c ∷ tables) all = (held_rows schema c.1 c.0 all.0, held_each schema tables all.1)

pub fitting_rows : (schema : Catalog) (tables : Tables) → AllByRecursion (λ c. AllByRecursion (λ row. is_legal_row (spec_of schema c.0) row.1 ≡ true) c.1) tables → AreRows schema (bare tables)
fitting_rows schema tables cells = bare_each (λ table row. is_row (spec_of schema table) row ≡ true) tables (held_each schema tables cells)

pub holds_rows : (schema : Catalog) (told : Option (Told Store)) → IfSome told (λ t. IsLegalStore schema t.world) → HoldsRows schema told
holds_rows schema None legal = tt
holds_rows schema (Some t) legal = fitting_rows schema t.world.tables legal.tables.legal.cells

pub holds_legal_rows : (schema : Catalog) (told : Option (Told Store)) → IfSome told (λ t. IsLegalStore schema t.world) → HoldsLegalRows schema told
holds_legal_rows schema None legal = tt
holds_legal_rows schema (Some t) legal = legal_rows schema t.world.tables legal.tables.legal.cells
