-- Which rows the selects of loads answer over legal tables.
use Rattle.std.specs.Prelude.{◌≤◌, length}
use Rattle.schema_core.specs.Tables.{Tables}
use Rattle.expr_types.specs.declared.select.ObjectQuery.{ObjectQuery}
use Rattle.class_mapping.specs.Mapped.{Mapped}
use Rattle.class_mapping.specs.Related.{AreRelated}
use Rattle.mapping_laws.specs.Hierarchies.{HasHierarchies}
use Rattle.table_laws.specs.Legality.{AreSound}
use Rattle.load_steps.specs.Rows.{AnswerRows, AnswersJoined, AnswersOwn}
use Rattle.load_steps.specs.Based.{AreReadOfTables, IsRowOfTables}
use Rattle.known_queries.specs.Known.{ReadsClass, ReadsJoined}

-- The selects by which links and cells are loaded answer rows of their classes, and what these have stands in the tables.
abbrev pub SelectsAnswerTableRows : Type 0
SelectsAnswerTableRows = (mapped : Mapped) (tables : Tables) → HasHierarchies mapped → AreSound mapped.schema tables → AnswerRows mapped (IsRowOfTables mapped tables) (AreReadOfTables mapped tables) tables

-- So do the own selects of queries.
abbrev pub OwnSelectsAnswerTableRows : Type 0
OwnSelectsAnswerTableRows = (mapped : Mapped) (tables : Tables) (query : ObjectQuery) → HasHierarchies mapped → AreSound mapped.schema tables → ReadsClass mapped query → AnswersOwn mapped (IsRowOfTables mapped tables) tables query

-- The rows of main selects have such parts, of the query's class and of each target that they have.
abbrev pub MainSelectsAnswerTableRows : Type 0
MainSelectsAnswerTableRows =
    (mapped : Mapped) (tables : Tables) (query : ObjectQuery) → HasHierarchies mapped → AreRelated mapped → AreSound mapped.schema tables → ReadsJoined mapped query → AnswersJoined mapped (IsRowOfTables mapped tables) tables query

-- The rows of an object's cells have a value for each attribute that is asked for.
abbrev pub SelectsAnswerWideCells : Type 0
SelectsAnswerWideCells =
    (mapped : Mapped) (tables : Tables) → HasHierarchies mapped → AreSound mapped.schema tables → AnswerRows mapped (IsRowOfTables mapped tables) (λ class attrs key row. length attrs ≤ length row) tables
