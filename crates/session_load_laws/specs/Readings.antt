-- The calls of a session that read rows into its objects, or expire them.
use Rattle.std.specs.Prelude.{◌≡◌, ◌<◌, List, length, Option, Ok}
use Rattle.std.specs.List.{All, AllByRecursion}
use Rattle.base_core.specs.declared.ids.AttrNo.{AttrNo}
use Rattle.base_core.specs.declared.ids.ClassId.{ClassId}
use Rattle.base_core.specs.declared.ids.ObjId.{ObjId}
use Rattle.base_core.specs.declared.ids.RelNo.{RelNo}
use Rattle.base_core.specs.declared.value.Value.{Value}
use Rattle.class_mapping.specs.Mapped.{IsClass, relations_of}
use Rattle.expr_types.specs.declared.select.ObjectQuery.{ObjectQuery}
use Rattle.object_arena.specs.Graph.{IsObject, object_at}
use Rattle.relations.specs.declared.calls.LinkCall.{LinkCall}
use Rattle.relations.specs.Keys.{IsEnd}
use Rattle.load_queries.specs.Selectin.{IsOption}
use Rattle.known_queries.specs.Known.{ReadsJoined}
use Rattle.session_scopes.specs.SessionState.{GoesOn, SessionState}
use Rattle.session_calls.specs.Parts.{World}
use Rattle.session_links.specs.declared.reading.Related.{Related}
use Rattle.session_links.specs.Reading.{AreToldMade}
use Rattle.session_loads.specs.Queries.{select_objects}
use Rattle.session_loads.specs.Reads.{change_collection, expire, get, read_cell, read_related, refresh}
use Rattle.session_laws.specs.LinkCalls.{IsLinkCall}
use Rattle.session_laws.specs.Whole.{IsHale}

-- what is asked: the value of a cell, what a link leads to, the change of a collection, the object of a class under a key, the objects
-- of a query, an object that is to be read anew, and one that is to be expired
pub data Reading : Type 0 where
  Cell : ObjId → AttrNo → Reading
  Link : ObjId → RelNo → Reading
  Change : ObjId → RelNo → LinkCall → Reading
  Key : ClassId → List Value → Reading
  Objects : ObjectQuery → Reading
  Anew : ObjId → Reading
  Expiry : ObjId → Reading

-- the session and the store after it, whatever it answers
abbrev pub after_reading : Reading → World → World
after_reading (Cell object attr) world = (read_cell object attr world).after
after_reading (Link object place) world = (read_related object place world).after
after_reading (Change owner place call) world = (change_collection owner place call world).after
after_reading (Key class key) world = (get class key world).after
after_reading (Objects query) world = (select_objects query world).after
after_reading (Anew object) world = (refresh object world).after
after_reading (Expiry object) world = (expire object world).after

-- the relationship at a place of an object that has been made
pub record IsPlace (object : ObjId) (place : RelNo) (session : SessionState) : Type 0 where
  pub made : IsObject session.graph object
  pub there : place.0 < length (relations_of session.mapping (object_at session.graph object).class)

-- it names what is there, and a query of a class's own tables whose options are relationships of the class
abbrev pub MayRead : Reading → World → Type 0
MayRead (Cell object attr) world = IsObject world.own.graph object
MayRead (Link object place) world = IsPlace object place world.own
MayRead (Change owner place call) world = IsLinkCall world.own.mapping world.own.graph owner place call
MayRead (Key class key) world = IsClass world.own.mapping class
MayRead (Objects query) world =
    ReadsJoined world.own.mapping query × AllByRecursion (IsOption world.own.mapping query.class) query.joined × AllByRecursion (IsOption world.own.mapping query.class) query.selectin
MayRead (Anew object) world = IsObject world.own.graph object
MayRead (Expiry object) world = IsObject world.own.graph object

-- whatever it answers, a whole session stays whole
abbrev pub ReadingsKeepWhole : Type 0
ReadingsKeepWhole = (reading : Reading) (world : World) → MayRead reading world → IsHale world → IsHale (after_reading reading world)

-- and goes on: its mapping stays, and each object is there still, of its class
abbrev pub ReadingsGoOn : Type 0
ReadingsGoOn = (reading : Reading) (world : World) → MayRead reading world → IsHale world → GoesOn world.own (after_reading reading world).own

-- ---- what is answered

-- the object of a key has been made
abbrev pub GetsTellMade : Type 0
GetsTellMade = (class : ClassId) (key : List Value) (end : Option ObjId) (world : World) → IsClass world.own.mapping class → IsHale world → (get class key world).answer ≡ Ok end → IsEnd (get class key world).after.own.graph end

-- so have those of a query
abbrev pub QueriesTellMade : Type 0
QueriesTellMade =
    (query : ObjectQuery) (objects : List ObjId) (world : World) → MayRead (Objects query) world → IsHale world → (select_objects query world).answer ≡ Ok objects → All (IsObject (select_objects query world).after.own.graph) objects

-- and those to which a link leads
abbrev pub LinksTellMade : Type 0
LinksTellMade =
    (object : ObjId) (place : RelNo) (related : Related) (world : World) → IsPlace object place world.own → IsHale world → (read_related object place world).answer ≡ Ok related
    → AreToldMade (read_related object place world).after.own.graph related
