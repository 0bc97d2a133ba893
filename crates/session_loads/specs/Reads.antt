-- The session's calls that read rows into objects, each as a program of the store and of the session beside it: what is asked, the
-- flush, and the load.
use Rattle.std.specs.Prelude.{Bool, true, false, List, Option, None, Some, if◌then◌else◌}
use Rattle.base_core.specs.declared.ids.AttrNo.{AttrNo}
use Rattle.base_core.specs.declared.ids.ClassId.{ClassId}
use Rattle.base_core.specs.declared.ids.ObjId.{ObjId}
use Rattle.base_core.specs.declared.ids.RelNo.{RelNo}
use Rattle.base_core.specs.declared.value.Value.{Value}
use Rattle.schema_core.specs.Tables.{value_or_null}
use Rattle.class_mapping.specs.Mapped.{root_of}
use Rattle.object_arena.specs.declared.object.Link.{Link}
use Rattle.object_arena.specs.declared.object.Link.TheVariants as link
use Rattle.object_arena.specs.Graph.{cell_at}
use Rattle.object_arena.specs.Identity.{find_identity}
use Rattle.keeper_core.specs.Programs.{Run, ◌>>=◌, give}
use Rattle.keeper_core.specs.Beside.{by_own, changes}
use Rattle.relations.specs.declared.calls.LinkCall.{LinkCall}
use Rattle.relations.specs.Mirror.{is_of, link_at}
use Rattle.load_calls.specs.Refreshing as load_calls
use Rattle.load_targets.specs.Targets as load_targets
use Rattle.session_scopes.specs.Loads.{on_load}
use Rattle.session_scopes.specs.SessionState.{SessionState}
use Rattle.session_calls.specs.Parts.{World, checked}
use Rattle.session_calls.specs.Steps.{enter}
use Rattle.session_links.specs.declared.reading.Related.{Related}
use Rattle.session_links.specs.declared.reading.Related.TheVariants.{One, Many}
use Rattle.session_links.specs.Reading.{is_many, none_related}
use Rattle.session_links.specs.Steps.{change_inside}
use Rattle.session_acts.specs.Flush.{flush}
use Rattle.session_loads.specs.Asking.{asked_fault, cell_fault, is_expired_in, is_key_expired_in, is_unloaded_in, link_fault, persistence_fault}
use Rattle.session_loads.specs.Expiring.{session_expired}
use Rattle.session_loads.specs.Rows.{fill_row, read_row}

-- a program, where it is asked for
abbrev pub if_asked : Bool → (World → Run World (Unit {0})) → World → Run World (Unit {0})
if_asked true m = m
if_asked false m = give tt

-- ---- cells

-- the expired cells of an object are read
abbrev pub refresh_cells : ObjId → World → Run World (Unit {0})
refresh_cells object = by_own (λ session. on_load (load_calls.refresh session.mapping object))

unfoldable pub fill_cell : ObjId → AttrNo → World → Run World (Unit {0})
fill_cell object attr = by_own (λ session. if_asked (is_expired_in object attr session) (refresh_cells object))

-- what a cell holds
abbrev pub value_in : ObjId → AttrNo → SessionState → Value
value_in object attr session = value_or_null (cell_at session.graph object attr).value

-- in the transaction
unfoldable pub tell_cell : ObjId → AttrNo → World → Run World Value
tell_cell object attr = checked (cell_fault object attr) >>= λ u. (fill_cell object attr >>= λ u. by_own (λ session. give (value_in object attr session)))

-- the value of a cell; where it is expired all expired cells of its object are read, and nothing is written before that
unfoldable pub read_cell : ObjId → AttrNo → World → Run World Value
read_cell object attr = enter >>= λ u. tell_cell object attr

-- ---- links

-- a link is loaded, where it is not
abbrev pub load_link : ObjId → RelNo → World → Run World (Unit {0})
load_link object place = by_own (λ session. on_load (load_targets.load_lazy session.mapping object place))

unfoldable pub fill_link : ObjId → RelNo → World → Run World (Unit {0})
fill_link object place = by_own (λ session. if_asked (is_unloaded_in object place session) (load_link object place))

-- the same of an object that may have left the session
unfoldable pub fill_attached : ObjId → RelNo → World → Run World (Unit {0})
fill_attached object place = checked (link_fault object place) >>= λ u. fill_link object place

-- all that is to be written is written, and then the link is loaded
abbrev pub write_and_fill : ObjId → RelNo → World → Run World (Unit {0})
write_and_fill object place = flush >>= λ u. fill_attached object place

unfoldable pub fetch_link : ObjId → RelNo → World → Run World (Unit {0})
fetch_link object place = by_own (λ session. if_asked (is_unloaded_in object place session) (write_and_fill object place))

abbrev pub related_as : Bool → Option Link → Related
related_as many None = none_related many
related_as many (Some link.Unset) = none_related many
related_as many (Some (link.Unloaded added removed)) = none_related many
related_as many (Some (link.One end changed)) = One end
related_as many (Some (link.Many members base)) = Many members

-- the object to which a link leads, or the members of a collection
abbrev pub related_in : ObjId → RelNo → SessionState → Related
related_in object place session = related_as (is_many session object place) (link_at session.graph object place)

-- in the transaction
unfoldable pub tell_related : ObjId → RelNo → World → Run World Related
tell_related object place = checked (link_fault object place) >>= λ u. (fetch_link object place >>= λ u. by_own (λ session. give (related_in object place session)))

-- to what a link leads; where it is not loaded all is written, and then it is loaded
unfoldable pub read_related : ObjId → RelNo → World → Run World Related
read_related object place = enter >>= λ u. tell_related object place

-- ---- collections that change

-- the members of a collection are read, unless something is against its change
abbrev pub read_attached : ObjId → RelNo → LinkCall → World → Run World (Unit {0})
read_attached owner place call = checked (asked_fault owner place call) >>= λ u. fill_attached owner place

-- the same once all is written; what is against the change is asked before that too
abbrev pub read_members : ObjId → RelNo → LinkCall → World → Run World (Unit {0})
read_members owner place call = checked (asked_fault owner place call) >>= λ u. (flush >>= λ u. read_attached owner place call)

unfoldable pub fetch_members : ObjId → RelNo → LinkCall → World → Run World (Unit {0})
fetch_members owner place call = by_own (λ session. if_asked (is_unloaded_in owner place session) (read_members owner place call))

-- in the transaction
unfoldable pub change_loaded : ObjId → RelNo → LinkCall → World → Run World (Unit {0})
change_loaded owner place call = fetch_members owner place call >>= λ u. change_inside owner place call

-- a member is appended to a collection or removed from it; one that is not loaded is loaded first
unfoldable pub change_collection : ObjId → RelNo → LinkCall → World → Run World (Unit {0})
change_collection owner place call = enter >>= λ u. change_loaded owner place call

-- ---- an object by its key

unfoldable pub fill_key : ObjId → World → Run World (Unit {0})
fill_key object = by_own (λ session. if_asked (is_key_expired_in object session) (refresh_cells object))

-- the object that the identity map has: it is answered where it is of the class or of one under it, and read where its key is expired
abbrev pub found_under : ClassId → ObjId → World → Run World (Option ObjId)
found_under class object =
    by_own (λ session. if is_of session.graph session.mapping class object then (fill_key object >>= λ u. give (Some object)) else give None)

abbrev pub load_key : ClassId → List Value → World → Run World (Option ObjId)
load_key class key = by_own (λ session. on_load (load_targets.load_key session.mapping class key))

-- a key that the map lacks is asked for once all is written
abbrev pub read_lacking : ClassId → List Value → World → Run World (Option ObjId)
read_lacking class key = flush >>= λ u. load_key class key

abbrev pub found_for : ClassId → List Value → Option ObjId → World → Run World (Option ObjId)
found_for class key (Some object) = found_under class object
found_for class key None = read_lacking class key

-- in the transaction
unfoldable pub find_by_key : ClassId → List Value → World → Run World (Option ObjId)
find_by_key class key = by_own (λ session. found_for class key (find_identity session.graph (root_of session.mapping class) key))

-- the object of a class under a key, if there is one
unfoldable pub get : ClassId → List Value → World → Run World (Option ObjId)
get class key = enter >>= λ u. find_by_key class key

-- ---- an object that is expired

-- in the transaction
abbrev pub expire_inside : ObjId → World → Run World (Unit {0})
expire_inside object = checked (persistence_fault object) >>= λ u. changes (session_expired object)

-- a persistent object is to be read again, with all to which refresh-expire goes on from it; delete marks stay
unfoldable pub expire : ObjId → World → Run World (Unit {0})
expire object = enter >>= λ u. expire_inside object

-- ---- an object that is read anew

abbrev pub fill_anew : ObjId → List (List Value) → World → Run World (Unit {0})
fill_anew object rows = changes (session_expired object) >>= λ u. by_own (λ session. on_load (fill_row session.mapping object rows))

-- its row is read before it is expired with those that hang on it: a refused read leaves them
unfoldable pub read_anew : ObjId → World → Run World (Unit {0})
read_anew object = by_own (λ session. on_load (read_row session.mapping object)) >>= λ rows. fill_anew object rows

unfoldable pub refresh_written : ObjId → World → Run World (Unit {0})
refresh_written object = checked (persistence_fault object) >>= λ u. read_anew object

-- in the transaction
unfoldable pub refresh_inside : ObjId → World → Run World (Unit {0})
refresh_inside object = checked (persistence_fault object) >>= λ u. (flush >>= λ u. refresh_written object)

-- all is written, and then a persistent object is read anew, and those that hang on it are expired
unfoldable pub refresh : ObjId → World → Run World (Unit {0})
refresh object = enter >>= λ u. refresh_inside object
