-- What becomes of a session's objects where a bulk statement wrote a table.
use Rattle.std.specs.Prelude.{Bool, true, false, not, ◌&&◌, ◌==◌, List, [], is_none}
use Rattle.std.specs.List.{list_all, list_any}
use Rattle.base_core.specs.declared.ids.ObjId.{ObjId}
use Rattle.base_core.specs.declared.ids.TableId.{TableId}
use Rattle.class_mapping.specs.Mapped.{Mapped, tables_of}
use Rattle.object_arena.specs.declared.object.Cell.{Cell}
use Rattle.object_arena.specs.declared.object.Link.{Link}
use Rattle.object_arena.specs.declared.object.Link.TheVariants.{Unset, Unloaded, One, Many}
use Rattle.object_arena.specs.declared.object.Object.{Object}
use Rattle.object_arena.specs.Every.{each_object}
use Rattle.object_arena.specs.Graph.{Graph, is_persistent}
pub use Rattle.object_parts.specs.Expired.{expired_if}
use Rattle.session_scopes.specs.SessionState.{SessionState, with_graph}

-- the object is persistent, and the table is one of those of its class
abbrev pub is_reread : Mapped → TableId → Object → Bool
is_reread mapped table object = is_persistent object.state && list_any (λ own. own.0 == table.0) (tables_of mapped object.class)

-- a persistent object with rows in the table is to be read again
abbrev pub reread_of : Mapped → TableId → Object → Object
reread_of mapped table object = expired_if (is_reread mapped table object) object

-- each persistent object with rows in the table is to be read again
abbrev pub graph_reread : Mapped → TableId → Graph → Graph
graph_reread mapped table graph = each_object (reread_of mapped table) graph

abbrev pub session_reread : TableId → SessionState → SessionState
session_reread table session = with_graph (graph_reread session.mapping table session.graph) session

-- ---- which objects come to differ

-- neither the cell's value nor its row's is known
abbrev pub is_cell_expired : Cell → Bool
is_cell_expired cell = is_none cell.value && is_none cell.base

abbrev pub are_none : List ObjId → List ObjId → Bool
are_none [] [] = true
are_none added removed = false

-- the link is unloaded, with no change kept
abbrev pub is_link_unloaded : Link → Bool
is_link_unloaded Unset = false
is_link_unloaded (Unloaded added removed) = are_none added removed
is_link_unloaded (One end is_changed) = false
is_link_unloaded (Many members base) = false

-- nothing is known of the object's cells and links
abbrev pub is_expired : Object → Bool
is_expired object = not object.orphan && (list_all is_cell_expired object.cells && list_all is_link_unloaded object.links)
