-- That all is known of the objects that are to be deleted, where the reading before a flush answers.
use Rattle.std.specs.Prelude.{◌≡◌, ◌≤◌, length, Ok}
use Rattle.schema_core.specs.Tables as held
use Rattle.class_mapping.specs.Mapped.{Mapped}
use Rattle.load_calls.specs.Reading.{World}
use Rattle.prepared_objects.specs.Known.{IsPrepared}
use Rattle.load_preparing.specs.Preparing.{read_going}
use Rattle.load_steps.specs.Based.{AreReadOfTables, IsRowOfTables}
use Rattle.load_steps.specs.Loads.{IsLoadStage}
use Rattle.load_steps.specs.Rows.{AnswerRows}

-- the rows that the selects of loads answer, where those of cells have a value for each attribute that was asked for
abbrev pub AnswerWideCells : Mapped → held.Tables → Type 0
AnswerWideCells mapped tables = AnswerRows mapped (IsRowOfTables mapped tables) (λ class attrs key row. length attrs ≤ length row) tables

-- Where the reading answers, the cells of each persistent object that is to be deleted are known, and its links are loaded along which
-- more is deleted, or lost.
abbrev pub ReadingsPrepare : Type 0
ReadingsPrepare =
    (mapped : Mapped) (w : World) → IsLoadStage mapped (IsRowOfTables mapped w.store.tables) (AreReadOfTables mapped w.store.tables) w → AnswerWideCells mapped w.store.tables
    → (read_going mapped w).answer ≡ Ok tt → IsPrepared mapped (read_going mapped w).after.own.graph
