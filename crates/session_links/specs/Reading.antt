-- What is read of a link.
use Rattle.std.specs.Prelude.{Bool, true, false, [], None, Some}
use Rattle.std.specs.List.{All}
use Rattle.base_core.specs.declared.ids.ObjId.{ObjId}
use Rattle.base_core.specs.declared.ids.RelNo.{RelNo}
use Rattle.object_arena.specs.Fit.{relation_of}
use Rattle.object_arena.specs.Graph.{Graph, IsObject, object_at}
use Rattle.session_scopes.specs.SessionState.{SessionState}
use Rattle.session_links.specs.declared.reading.Related.{Related}
use Rattle.session_links.specs.declared.reading.Related.TheVariants.{One, Many}

-- a link that was never set leads to none, and has no members
abbrev pub none_related : Bool → Related
none_related true = Many []
none_related false = One None

-- the relationship at a place of an object is a collection
abbrev pub is_many : SessionState → ObjId → RelNo → Bool
is_many session object place = (relation_of session.mapping (object_at session.graph object).class place).many

-- what is told are objects of the graph
abbrev pub AreToldMade : Graph → Related → Type 0
AreToldMade graph (One None) = Unit {0}
AreToldMade graph (One (Some end)) = IsObject graph end
AreToldMade graph (Many members) = All (IsObject graph) members
