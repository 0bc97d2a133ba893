-- Why loads are refused, whatever is told of the store, by the objects that there are then.
use Rattle.std.specs.Prelude.{◌≡◌, ◌≤◌, List, length, None, IsTrue}
use Rattle.base_core.specs.declared.ids.ClassId.{ClassId}
use Rattle.base_core.specs.declared.ids.ObjId.{ObjId}
use Rattle.base_core.specs.declared.value.Value.{Value}
use Rattle.base_core.specs.declared.refusal.Refusal.{Refusal}
use Rattle.base_core.specs.declared.refusal.Refusal.TheVariants.{DataError, InvalidRequestError, KeeperFault, LimitReached, Memory, ObjectDeletedError, OperationalError}
use Rattle.base_core.specs.declared.refusal.LimitKind.TheVariants.{Objects}
use Rattle.base_core.specs.declared.refusal.RequestKind.TheVariants.{NoSuchIdentity}
use Rattle.schema_core.specs.Catalog.{IsTable}
use Rattle.expr_types.specs.declared.select.Select.{Select}
use Rattle.sql_semantics.specs.SelectRefusals.{calculates}
use Rattle.class_mapping.specs.Mapped.{Mapped}
use Rattle.object_arena.specs.Graph.{Graph, object_limit}
use Rattle.load_filling.specs.Rows.{class_named}
use Rattle.load_rows.specs.Reading.{IsRowOf}
use Rattle.load_calls.specs.Refreshing.{CanRefuseCells}

-- a row of a class names none at or under it
abbrev pub IsUnnamed : Mapped → ClassId → Type 0
IsUnnamed mapped class = (values : List Value) × IsRowOf mapped class values × (class_named mapped class values ≡ None)

-- a row of a class names none of its branch, there are as many objects as there may be, or memory ran out
abbrev pub CanRefuseRow : Mapped → Graph → Refusal → Type 0
CanRefuseRow mapped graph (InvalidRequestError NoSuchIdentity) = (class : ClassId) × IsUnnamed mapped class
CanRefuseRow mapped graph (LimitReached Objects) = object_limit ≤ length graph.objects
CanRefuseRow mapped graph Memory = Unit {0}
CanRefuseRow mapped graph e = ⊥

-- besides, a table was not created, or the store failed
abbrev pub CanRefuseRows : Mapped → Graph → Refusal → Type 0
CanRefuseRows mapped graph (OperationalError table) = IsTable mapped.schema table
CanRefuseRows mapped graph KeeperFault = Unit {0}
CanRefuseRows mapped graph e = CanRefuseRow mapped graph e

-- what refuses the select of a query: besides these, a result outside 64 bits where it calculates
abbrev pub CanRefuseSelect : Mapped → Select → Refusal → Type 0
CanRefuseSelect mapped select (DataError op a b) = IsTrue (calculates select)
CanRefuseSelect mapped select e = CanRefuseCells mapped e

-- and what refuses the objects of its rows
abbrev pub CanRefuseQuery : Mapped → Graph → Select → Refusal → Type 0
CanRefuseQuery mapped graph select (DataError op a b) = IsTrue (calculates select)
CanRefuseQuery mapped graph select e = CanRefuseRows mapped graph e

-- and the row of the object whose link is loaded is not there
abbrev pub CanRefuseLoad : Mapped → Graph → ObjId → Refusal → Type 0
CanRefuseLoad mapped graph object (ObjectDeletedError deleted) = deleted ≡ object
CanRefuseLoad mapped graph object e = CanRefuseRows mapped graph e
