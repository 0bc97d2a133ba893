-- What a bulk statement as it is written says, or why it is refused.
use Rattle.std.specs.Prelude.{Bool, true, List, ◌++◌, map, Result}
use Rattle.base_core.specs.declared.refusal.Refusal.{Refusal}
use Rattle.schema_core.specs.Catalog.{Catalog}
use Rattle.expr_types.specs.declared.select.Bulk.{Bulk}
use Rattle.expr_types.specs.declared.select.Bulk.TheVariants.{Insert, Update, Delete}
use Rattle.sql_semantics.specs.Plain.{are_apart}
use Rattle.script_types.specs.declared.select.SynBulk.{SynBulk}
use Rattle.statement_names.specs.BulkNames.{bulk_name_faults, named_bulk}
use Rattle.script_names.specs.Faults.{unless}
use Rattle.statement_kinds.specs.NormalBulk.{normal_bulk}
use Rattle.script_resolve.specs.JudgedBulks.{judged_bulk}

-- all faults of the statement, in the order in which they are told: its names, and then what is judged of it in numbers
abbrev pub bulk_faults : Catalog → SynBulk → List Refusal
bulk_faults schema b = bulk_name_faults schema b ++ judged_bulk schema (named_bulk schema b)

-- the statement in numbers and in normal form, or its first fault
unfoldable pub resolved_bulk : Catalog → SynBulk → Result Bulk Refusal
resolved_bulk schema b = unless (bulk_faults schema b) (normal_bulk (named_bulk schema b))

-- each column is given once
abbrev pub gives_once : Bulk → Bool
gives_once (Insert table columns values) = are_apart columns
gives_once (Update table cells filter) = are_apart (map (λ cell. cell.0) cells)
gives_once (Delete table filter) = true
