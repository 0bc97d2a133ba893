-- How a violation, and a value of another kind, are told as refusals.
use Rattle.std.specs.Prelude.{Option, None, Some, if◌then◌else◌}
use Rattle.base_core.specs.declared.ids.TableId.{TableId}
use Rattle.base_core.specs.declared.refusal.Refusal.{Refusal}
use Rattle.base_core.specs.declared.refusal.Refusal.TheVariants as refusals
use Rattle.base_core.specs.declared.refusal.IntegrityKind.TheVariants as kinds
use Rattle.base_core.specs.declared.value.Kind.{Kind}
use Rattle.schema_core.specs.Catalog.{same_kind}
use Rattle.schema_core.specs.declared.statement.Violation.{Violation}
use Rattle.schema_core.specs.declared.statement.Violation.TheVariants as violations

-- the refusal of a statement on this table
abbrev pub violation_refusal : TableId → Violation → Refusal
violation_refusal table (violations.NoTable absent) = refusals.OperationalError absent
violation_refusal table violations.Missing = refusals.StaleDataError table
violation_refusal table violations.NotNull = refusals.IntegrityError kinds.NotNull table
violation_refusal table violations.KeysSpent = refusals.KeysSpent table
violation_refusal table violations.PrimaryKey = refusals.IntegrityError kinds.PrimaryKey table
violation_refusal table violations.Unique = refusals.IntegrityError kinds.Unique table
violation_refusal table violations.Foreign = refusals.IntegrityError kinds.Foreign table

-- a value of this kind, or NULL, does not go where another kind is wanted
abbrev pub kind_fault : Kind → Option Kind → Option Refusal
kind_fault wanted None = None
kind_fault wanted (Some found) = if same_kind wanted found then None else Some (refusals.TypeMismatch wanted found)
