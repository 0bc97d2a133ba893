-- The making of an object with values.
use Rattle.std.specs.Prelude.{List, [], ◌∷◌, Option, None, Some, Result, Ok, Err}
use Rattle.base_core.specs.declared.ids.AttrNo.{AttrNo}
use Rattle.base_core.specs.declared.ids.ClassId.{ClassId}
use Rattle.base_core.specs.declared.ids.ObjId.{ObjId}
use Rattle.base_core.specs.declared.value.Value.{Value}
use Rattle.base_core.specs.declared.refusal.Refusal.{Refusal}
use Rattle.schema_core.specs.Refusals.{kind_fault}
use Rattle.schema_core.specs.Tables.{kind_of_value}
use Rattle.class_mapping.specs.Mapped.{Mapped, attribute_of}
use Rattle.object_arena.specs.declared.object.Cell.{Cell}
use Rattle.object_arena.specs.declared.object.Object.{Object}
use Rattle.object_arena.specs.Graph.{Graph, cell_put, either_fault, make, object_at, with_object}
use Rattle.keeper_core.specs.Programs.{Run, quiet}
use Rattle.session_scopes.specs.SessionState.{SessionState}

-- a value for an attribute of a class is not NULL and of another kind
abbrev pub given_fault : Mapped → ClassId → AttrNo × Value → Option Refusal
given_fault mapped class given = kind_fault (attribute_of mapped class given.0).kind (kind_of_value given.1)

-- the first of some values for attributes that is of another kind
abbrev pub first_given_fault : Mapped → ClassId → List (AttrNo × Value) → Option Refusal
first_given_fault mapped class [] = None
first_given_fault mapped class (given ∷ others) = either_fault (given_fault mapped class given) (first_given_fault mapped class others)

-- a cell whose value no row holds yet
abbrev pub unwritten_cell : Value → Cell
unwritten_cell value = record { value = Some value; base = None }

-- the object with these values in their cells, one after another
abbrev pub object_with : Object → List (AttrNo × Value) → Object
object_with object [] = object
object_with object (given ∷ others) = object_with (cell_put object given.0 (unwritten_cell given.1)) others

abbrev pub with_given : Graph → ObjId → List (AttrNo × Value) → Graph
with_given graph object given = with_object graph object (object_with (object_at graph object) given)

abbrev pub made_with : List (AttrNo × Value) → SessionState → Result (ObjId × Graph) Refusal → Run SessionState ObjId
made_with given session (Ok made) = quiet (Ok made.0) (record session { graph = with_given made.1 made.0 given })
made_with given session (Err full) = quiet (Err full) session

abbrev pub made_unless : Option Refusal → List (AttrNo × Value) → SessionState → Result (ObjId × Graph) Refusal → Run SessionState ObjId
made_unless (Some fault) given session made = quiet (Err fault) session
made_unless None given session made = made_with given session made

-- a transient object of a class is made with these values; its other cells are NULL
unfoldable pub object_made : ClassId → List (AttrNo × Value) → SessionState → Run SessionState ObjId
object_made class given session = made_unless (first_given_fault session.mapping class given) given session (make session.graph session.mapping class)
