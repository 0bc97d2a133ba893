-- The reading of the objects of a query with its joined options, as a program: one select, whose rows give the objects and what hangs on them.
use Rattle.std.specs.Prelude.{◌≡◌, ℕ, ◌<◌, ◌==◌, Bool, true, false, List, [], filter, filter_map, length, slice_get, Option, None, if◌then◌else◌}
use Rattle.std.specs.BTreeMap.{BTreeMap, get}
use Rattle.std.specs.List.{All, enumerate_from}
use Rattle.std.specs.Option.{unwrap_or}
use Rattle.std.specs.Ordering.{nat_cmp}
use Rattle.base_core.specs.declared.ids.ClassId.{ClassId}
use Rattle.base_core.specs.declared.ids.ObjId.{ObjId}
use Rattle.base_core.specs.declared.ids.RelNo.{RelNo}
use Rattle.base_core.specs.declared.value.Value.{Value}
use Rattle.expr_types.specs.declared.select.ObjectQuery.{ObjectQuery}
use Rattle.class_mapping.specs.Mapped.{Mapped, relations_of}
use Rattle.keeper_core.specs.Programs.{Run, ◌>>=◌, change, each, give}
use Rattle.keeper_core.specs.Beside.{on_own}
use Rattle.object_arena.specs.Fit.{relation_of}
use Rattle.object_arena.specs.Graph.{Graph, IsObject}
use Rattle.relations.specs.Mirror.{is_of}
use Rattle.load_rows.specs.Loading.{Loading}
use Rattle.load_rows.specs.Links.{collection_filled, end_filled}
use Rattle.main_selects.specs.MainSelect.{main_select}
use Rattle.joined_rows.specs.declared.parts.Part.{Part}
use Rattle.joined_rows.specs.Parts.{parts_of}
use Rattle.load_calls.specs.Reading.{World, read}
use Rattle.object_parts.specs.declared.answers.Taken.{Taken}
pub use Rattle.object_parts.specs.Answers.{answered}
use Rattle.joined_rows.specs.Taking.{IsMember, member_at, take_joined}

-- ---- what an owner is given

-- what a row gives an owner for the option of a number
abbrev pub given_by : ℕ → ObjId → Taken → Option ObjId
given_by number owner one = if one.owner.0 == owner.0 then member_at one.members number else None

-- what all rows give it, in their order
abbrev pub given_to : ℕ → List Taken → ObjId → List ObjId
given_to number taken owner = filter_map (given_by number owner) taken

-- the objects at a number in a map, none where it is not there
abbrev pub objects_at : BTreeMap ℕ (List ObjId) → ℕ → List ObjId
objects_at given number = unwrap_or (get nat_cmp given number) []

-- a map has at each owner's number what the rows give it
pub record HasGiven (number : ℕ) (taken : List Taken) (given : BTreeMap ℕ (List ObjId)) : Type 0 where
  pub same : (owner : ObjId) → objects_at given owner.0 ≡ given_to number taken owner

-- for an option, all rows give objects of its target's hierarchy, or none
pub record GiveMembers (mapped : Mapped) (roots : List ClassId) (option : ℕ × Part) (taken : List Taken) : Type 0 where
  pub all : All (λ one. IsMember mapped roots option.1 (member_at one.members option.0)) taken

-- ---- links

-- a collection holds what was given, a many-to-one link leads to the first of it; a link that is loaded stays
abbrev pub link_filled : Bool → ObjId → RelNo → List ObjId → Loading → Loading
link_filled true owner place given = collection_filled owner place given
link_filled false owner place given = end_filled owner place (slice_get given 0)

abbrev pub is_many : Mapped → ClassId → RelNo → Bool
is_many mapped class place = (relation_of mapped class place).many

-- the option of a relationship at its place in the class
pub record IsPartOf (mapped : Mapped) (class : ClassId) (part : Part) : Type 0 where
  pub within : part.place.0 < length (relations_of mapped class)
  pub target : part.target ≡ (relation_of mapped class part.place).target

-- the link of an option, of one owner
abbrev pub fill_owner : Mapped → ClassId → List Taken → ℕ × Part → ObjId → Unit {0} → Loading → Run Loading (Unit {0})
fill_owner mapped class taken option owner u = change (link_filled (is_many mapped class option.1.place) owner option.1.place (given_to option.0 taken owner))

-- of all owners
unfoldable pub fill_option : Mapped → ClassId → List Taken → List ObjId → ℕ × Part → Unit {0} → Loading → Run Loading (Unit {0})
fill_option mapped class taken owners option u = each (fill_owner mapped class taken option) tt owners

-- the links of all options, one option after the other
unfoldable pub fill_options : Mapped → ClassId → List Part → List Taken → List ObjId → Loading → Run Loading (Unit {0})
fill_options mapped class parts taken owners = each (fill_option mapped class taken owners) tt (enumerate_from 0 parts)

-- ---- the query

-- those of a class at or under another: what stands under a key of the hierarchy may be of another branch
abbrev pub owners_among : Mapped → ClassId → Graph → List ObjId → List ObjId
owners_among mapped class graph objects = filter (is_of graph mapped class) objects

-- an object that was made, of such a class
pub record IsOwner (mapped : Mapped) (graph : Graph) (class : ClassId) (object : ObjId) : Type 0 where
  pub made : IsObject graph object
  pub under : is_of graph mapped class object ≡ true

-- the links of the owners among objects
unfoldable pub fill_owners : Mapped → ClassId → List Part → List Taken → List ObjId → Loading → Run Loading (Unit {0})
fill_owners mapped class parts taken objects own = fill_options mapped class parts taken (owners_among mapped class own.graph objects) own

-- the links of the owners that rows give, which are answered with the other objects
abbrev pub fill_taken : Mapped → ClassId → List Part → List Taken → Loading → Run Loading (List ObjId)
fill_taken mapped class parts taken = fill_owners mapped class parts taken (answered taken) >>= λ u. give (answered taken)

-- rows give their objects, and then the owners' links are filled
unfoldable pub take_answers : Mapped → ClassId → List Part → List (List Value) → Loading → Run Loading (List ObjId)
take_answers mapped class parts rows = take_joined mapped class parts rows >>= fill_taken mapped class parts

-- the objects of a query: its main select is sent, and its rows give the objects and what the joined options' links hold
unfoldable pub load_joined : Mapped → ObjectQuery → World → Run World (List ObjId)
load_joined mapped query =
    read mapped.schema (main_select mapped query) >>= λ rows. on_own (take_answers mapped query.class (parts_of mapped query.class query.joined) rows)
