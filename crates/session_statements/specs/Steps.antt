-- What a session asks of its tables, and the bulk statements by which it writes them, as programs of the store and of the session beside it.
use Rattle.std.specs.Prelude.{ℕ, Bool, false, not, ◌&&◌, List, slice_get, Option, None, Some}
use Rattle.std.specs.List.{list_all, list_any}
use Rattle.base_core.specs.declared.ids.TableId.{TableId}
use Rattle.base_core.specs.declared.ids.ColumnNo.{ColumnNo}
use Rattle.base_core.specs.declared.value.Value.{Value}
use Rattle.base_core.specs.declared.refusal.RequestKind.TheVariants.{Discriminator, KeyChange}
use Rattle.base_core.specs.declared.refusal.Refusal.{Refusal}
use Rattle.base_core.specs.declared.refusal.Refusal.TheVariants.{InvalidRequestError}
use Rattle.schema_core.specs.declared.table.ColumnSpec.{ColumnSpec}
use Rattle.schema_core.specs.Catalog.{Catalog, spec_of}
use Rattle.class_types.specs.declared.declared.ClassSpec.{ClassSpec}
use Rattle.class_layouts.specs.Faults.{is_named}
use Rattle.class_mapping.specs.Mapped.{Mapped}
use Rattle.object_arena.specs.Graph.{either_fault}
use Rattle.expr_types.specs.declared.select.Bulk.{Bulk}
use Rattle.expr_types.specs.declared.select.Bulk.TheVariants as bulks
use Rattle.expr_types.specs.declared.select.Select.{Select}
use Rattle.sql_semantics.specs.Applied.{table_of}
use Rattle.sql_semantics.specs.Plain.{is_free_column}
use Rattle.keeper_core.specs.Programs.{Run, ◌>>=◌, give}
use Rattle.keeper_core.specs.Beside.{by_own, changes, on_store}
use Rattle.keeper_core.specs.Calls as call
use Rattle.session_scopes.specs.SessionState.{SessionState, with_notes}
use Rattle.session_calls.specs.Parts.{World, checked, fault_if}
use Rattle.session_calls.specs.Steps.{enter}
use Rattle.session_statements.specs.Rewriting.{session_reread}

-- ---- what is asked before the flush

-- an UPDATE writes a column of its table's key
abbrev pub writes_key : Catalog → Bulk → Bool
writes_key schema (bulks.Update table cells filter) = not (list_all (λ cell. is_free_column schema table cell.0) cells)
writes_key schema statement = false

-- the class heads a hierarchy, whose classes the column of a name tells apart in the table of a name
abbrev pub is_told_by : List ℕ → List ℕ → ClassSpec → Bool
is_told_by table column class = is_named class.table table && is_named class.discriminator column

abbrev pub tells_apart : List ClassSpec → List ℕ → Option ColumnSpec → Bool
tells_apart classes table None = false
tells_apart classes table (Some column) = list_any (is_told_by table column.name) classes

-- the column of a table tells the classes of a hierarchy apart
abbrev pub is_discriminator : Mapped → TableId → ColumnNo → Bool
is_discriminator mapped table column = tells_apart mapped.classes.specs (spec_of mapped.schema table).name (slice_get (spec_of mapped.schema table).columns column.0)

-- an UPDATE writes such a column
abbrev pub writes_discriminator : Mapped → Bulk → Bool
writes_discriminator mapped (bulks.Update table cells filter) = list_any (λ cell. is_discriminator mapped table cell.0) cells
writes_discriminator mapped statement = false

-- an UPDATE writes what no UPDATE may write
abbrev pub update_fault_in : Mapped → Bulk → Option Refusal
update_fault_in mapped statement =
    either_fault (fault_if (writes_key mapped.schema statement) (InvalidRequestError KeyChange)) (fault_if (writes_discriminator mapped statement) (InvalidRequestError Discriminator))

abbrev pub update_fault : Bulk → SessionState → Option Refusal
update_fault statement session = update_fault_in session.mapping statement

-- a transaction begins where none is in progress, and the statement writes no key and no discriminator
unfoldable pub enter_bulk : Bulk → World → Run World (Unit {0})
enter_bulk statement = enter >>= λ u. checked (update_fault statement)

-- ---- what is done behind it

-- the rows of a select over the tables now
unfoldable pub rows : Select → World → Run World (List (List Value))
rows select = by_own (λ session. on_store with_notes (call.query session.mapping.schema select))

-- a bulk statement is sent, and the number of its rows is answered
unfoldable pub send_bulk : Bulk → World → Run World ℕ
send_bulk statement = by_own (λ session. on_store with_notes (call.bulk session.mapping.schema statement))

-- the objects of the table that a statement wrote are to be read again then
unfoldable pub bulk : Bulk → World → Run World ℕ
bulk statement = send_bulk statement >>= λ count. (changes (session_reread (table_of statement)) >>= λ u. give count)
