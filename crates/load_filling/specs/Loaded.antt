-- An object that a load makes: persistent under a key, and nothing of it is known yet.
use Rattle.std.specs.Prelude.{◌+◌, false, List, [], ◌∷◌, ◌++◌, length, map, nat_lt, Some, Result, Ok, Err, if◌then◌else◌}
use Rattle.base_core.specs.declared.ids.ClassId.{ClassId}
use Rattle.base_core.specs.declared.ids.ObjId.{ObjId}
use Rattle.base_core.specs.declared.value.Value.{Value}
use Rattle.base_core.specs.declared.refusal.LimitKind.TheVariants.{Objects}
use Rattle.base_core.specs.declared.refusal.Refusal.{Refusal}
use Rattle.base_core.specs.declared.refusal.Refusal.TheVariants.{LimitReached}
use Rattle.class_mapping.specs.Mapped.{Mapped, attributes_of, relations_of, root_of}
use Rattle.object_arena.specs.declared.object.Link.TheVariants.{Unloaded}
use Rattle.object_arena.specs.declared.object.Object.{Object}
use Rattle.object_arena.specs.declared.object.State.TheVariants.{Persistent}
use Rattle.object_arena.specs.Graph.{Graph, expired_cell, object_limit}

-- an object of a class under a key, with expired cells and unloaded links
abbrev pub loaded_object : Mapped → ClassId → List Value → Object
loaded_object mapped class key = record {
  class = class;
  state = Persistent;
  identity = Some key;
  added = 0;
  marked = false;
  orphan = false;
  cells = map (λ attribute. expired_cell) (attributes_of mapped class);
  links = map (λ relation. Unloaded [] []) (relations_of mapped class);
}

-- the graph with one more object, which has the key
abbrev pub with_loaded : Mapped → ClassId → List Value → Graph → Graph
with_loaded mapped class key graph =
    record { objects = graph.objects ++ loaded_object mapped class key ∷ []; roots = graph.roots ++ root_of mapped class ∷ [] }

-- the answer to the making of an object for a key that no persistent object has: the next number with the graph then
unfoldable pub load : Mapped → ClassId → List Value → Graph → Result (ObjId × Graph) Refusal
load mapped class key graph =
    if nat_lt (length graph.objects) object_limit then Ok (record { 0 = length graph.objects + 1 }, with_loaded mapped class key graph)
    else Err (LimitReached Objects)
