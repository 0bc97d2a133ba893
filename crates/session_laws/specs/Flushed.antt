-- What is left to write after success of a flush.
use Rattle.std.specs.Prelude.{◌≡◌, [], Ok}
use Rattle.object_rows.specs.declared.prepared.Prepared.{Prepared}
use Rattle.object_rows.specs.Rows.{changed_rows, new_rows}
use Rattle.flush_plan.specs.Planning.{plan}
use Rattle.row_project.specs.Changes.{project}
use Rattle.graph_flushed.specs.Flushed.{Written, graph_written}

-- a preparation that deletes and clears nothing
abbrev pub nothing_prepared : Prepared
nothing_prepared = record { deleted = []; transient = []; cleared = [] }

-- no object has a new row
abbrev pub NoRowIsNew : Type 0
NoRowIsNew = (written : Written) → new_rows written.mapping (graph_written written) nothing_prepared ≡ []

-- no object's row changes
abbrev pub NoRowChanges : Type 0
NoRowChanges = (written : Written) → changed_rows written.mapping (graph_written written) nothing_prepared ≡ []

-- no statement is sent
abbrev pub NoStatementIsPlanned : Type 0
NoStatementIsPlanned = (written : Written) → plan written.mapping.schema (project written.mapping (graph_written written) nothing_prepared) ≡ Ok []
