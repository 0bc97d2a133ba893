-- What a line asks for, with numbers in the place of its names, or the first refusal that needs no session.
use Rattle.std.specs.Prelude.{◌==◌, ℕ, Bool, true, false, not, ◌&&◌, List, ◌∷◌, length, Option, None, Some, Ok, Err, if◌then◌else◌, is_none}
use Rattle.base_core.specs.declared.refusal.Refusal.{Refusal}
use Rattle.base_core.specs.declared.refusal.Refusal.TheVariants.{NotBuilt}
use Rattle.base_core.specs.declared.ids.AttrNo.{AttrNo}
use Rattle.base_core.specs.declared.ids.ClassId.{ClassId}
use Rattle.base_core.specs.declared.ids.ObjId.{ObjId}
use Rattle.base_core.specs.declared.ids.RelNo.{RelNo}
use Rattle.base_core.specs.declared.value.Value.{Value}
use Rattle.schema_core.specs.Tables.{has_null, kind_of_value}
use Rattle.class_mapping.specs.Mapped.{Mapped, key_attributes}
use Rattle.relations.specs.declared.calls.LinkCall.TheVariants.{Set, Append, Remove}
use Rattle.sql_semantics.specs.Checked.{Checked, ◌>>=◌}
use Rattle.script_types.specs.declared.command.Command.{Command}
use Rattle.script_types.specs.declared.command.Command.TheVariants as line
use Rattle.script_types.specs.declared.command.Term.{Term}
use Rattle.script_types.specs.declared.select.SynBulk.{SynBulk}
use Rattle.script_types.specs.declared.select.SynQuery.{SynQuery}
use Rattle.script_types.specs.declared.select.SynSelect.{SynSelect}
use Rattle.script_resolve.specs.Bulks.{resolved_bulk}
use Rattle.script_resolve.specs.Selects.{resolved_select}
use Rattle.command_names.specs.declared.members.Member.{Member}
use Rattle.command_names.specs.declared.members.Member.TheVariants.{Attribute, One, Many}
use Rattle.command_names.specs.Attributes.{Giving, cells_of, class_named, first_of_two, link_named, member_named, unless_fault, value_fault}
use Rattle.command_names.specs.Terms.{Bindings, Named, handle_if_named, object_of, shown_of, wrong_kind}
use Rattle.query_names.specs.Queries.{resolved_query}
use Rattle.query_names.specs.Sources.{relation_named}
use Rattle.command_resolve.specs.declared.resolved.Resolved.{Resolved}
use Rattle.command_resolve.specs.declared.resolved.Resolved.TheVariants as resolved

abbrev pub resolved_new : Mapped → List ℕ → List ℕ → List Giving → Checked Resolved
resolved_new mapped name class given = class_named mapped class >>= λ class. (cells_of mapped class given >>= λ cells. Ok (resolved.New name class cells))

-- a link to one object takes `null`, and then leads to none
abbrev pub set_none : ObjId → RelNo → Value → Checked Resolved
set_none object relation value = if is_none (kind_of_value value) then Ok (resolved.ChangeLink object relation (Set None)) else wrong_kind

-- an attribute takes a value of its kind, or NULL
abbrev pub set_by : Mapped → Named → Value → Member → Checked Resolved
set_by mapped named value (Attribute attr) = unless_fault (value_fault mapped named.1 attr value) (resolved.SetCell named.0 attr value)
set_by mapped named value (One relation) = set_none named.0 relation value
set_by mapped named value (Many relation) = wrong_kind

abbrev pub resolved_set_at : Mapped → List ℕ → Value → Named → Checked Resolved
resolved_set_at mapped member value named = member_named mapped named.1 member >>= set_by mapped named value

abbrev pub resolved_set : Mapped → Bindings → Term → List ℕ → Value → Checked Resolved
resolved_set mapped names term member value = object_of names term >>= resolved_set_at mapped member value

-- a member of an object that is shown
abbrev pub show_by : ObjId → Member → Resolved
show_by object (Attribute attr) = resolved.ShowCell object attr
show_by object (One relation) = resolved.ShowLink object relation
show_by object (Many relation) = resolved.ShowLink object relation

abbrev pub resolved_show_at : Mapped → List ℕ → Named → Checked Resolved
resolved_show_at mapped member named = member_named mapped named.1 member >>= λ found. Ok (show_by named.0 found)

abbrev pub resolved_show : Mapped → Bindings → Term → List ℕ → Checked Resolved
resolved_show mapped names term member = object_of names term >>= resolved_show_at mapped member

-- what a relationship of an object leads to
abbrev pub resolved_related_at : Mapped → List ℕ → List ℕ → Named → Checked Resolved
resolved_related_at mapped name member named = relation_named mapped named.1 member >>= λ relation. Ok (resolved.Related name named.0 relation)

abbrev pub resolved_related : Mapped → Bindings → List ℕ → Term → List ℕ → Checked Resolved
resolved_related mapped names name term member = object_of names term >>= resolved_related_at mapped name member

-- a key has a value for each key column, none of them NULL
abbrev pub is_whole_key : Mapped → ClassId → List Value → Bool
is_whole_key mapped class key = length key == length (key_attributes mapped class) && not (has_null key)

-- the fault of the first value of a key that is of another kind than its column
abbrev pub parts_fault : Mapped → ClassId → List AttrNo → List Value → Option Refusal
parts_fault mapped class (attr ∷ attrs) (value ∷ values) = first_of_two (value_fault mapped class attr value) (parts_fault mapped class attrs values)
parts_fault mapped class attrs values = None

-- the key that a line gives for a class
abbrev pub resolved_key : Mapped → ClassId → List Value → Checked (List Value)
resolved_key mapped class key = if is_whole_key mapped class key then unless_fault (parts_fault mapped class (key_attributes mapped class) key) key else wrong_kind

-- an object of a class by its key
abbrev pub resolved_get : Mapped → List ℕ → List ℕ → List Value → Checked Resolved
resolved_get mapped name class key = class_named mapped class >>= λ class. (resolved_key mapped class key >>= λ key. Ok (resolved.Get name class key))

-- the objects of a query
abbrev pub resolved_objects : Mapped → List ℕ → SynQuery → Checked Resolved
resolved_objects mapped name written = resolved_query mapped written >>= λ query. Ok (resolved.Objects name query)

-- the object that a term stands for, of whatever class
abbrev pub id_of_term : Bindings → Term → Checked ObjId
id_of_term names term = object_of names term >>= λ named. Ok named.0

abbrev pub resolved_thing : Bindings → Term → Checked Resolved
resolved_thing names term = shown_of names term >>= λ thing. Ok (resolved.Show thing)

abbrev pub resolved_same : Bindings → Term → Term → Checked Resolved
resolved_same names term other = id_of_term names term >>= λ first. (id_of_term names other >>= λ second. Ok (resolved.Same first second))

-- an object, a relationship of it, and the object that is to come into this link or to leave it
abbrev pub Ends : Type 0
Ends = ObjId × RelNo × ObjId

-- the ends of a collection, or of a link to one object
abbrev pub ends_of : Mapped → Bindings → Bool → Term → List ℕ → Term → Checked Ends
ends_of mapped names many term member other =
    object_of names term >>= λ owner. (link_named mapped many owner.1 member >>= λ relation. (id_of_term names other >>= λ end. Ok (owner.0, relation, end)))

-- the link of an object is to lead to another
abbrev pub resolved_set_one : Mapped → Bindings → Term → List ℕ → Term → Checked Resolved
resolved_set_one mapped names term member other = ends_of mapped names false term member other >>= λ ends. Ok (resolved.ChangeLink ends.0 ends.1 (Set (Some ends.2)))

abbrev pub resolved_append : Mapped → Bindings → Term → List ℕ → Term → Checked Resolved
resolved_append mapped names term member other = ends_of mapped names true term member other >>= λ ends. Ok (resolved.ChangeLink ends.0 ends.1 (Append ends.2))

abbrev pub resolved_remove : Mapped → Bindings → Term → List ℕ → Term → Checked Resolved
resolved_remove mapped names term member other = ends_of mapped names true term member other >>= λ ends. Ok (resolved.ChangeLink ends.0 ends.1 (Remove ends.2))

-- the select of a line
abbrev pub resolved_rows : Mapped → SynSelect → Checked Resolved
resolved_rows mapped written = resolved_select mapped.schema written >>= λ select. Ok (resolved.Rows select)

-- the bulk statement of a line
abbrev pub resolved_statement : Mapped → SynBulk → Checked Resolved
resolved_statement mapped written = resolved_bulk mapped.schema written >>= λ statement. Ok (resolved.Bulk statement)

-- what the line asks for that changes an attribute or a link of an object
abbrev pub resolved_change : Mapped → Bindings → Command → Checked Resolved
resolved_change mapped names (line.SetValue term member value) = resolved_set mapped names term member value
resolved_change mapped names (line.SetTerm term member other) = resolved_set_one mapped names term member other
resolved_change mapped names (line.Append term member other) = resolved_append mapped names term member other
resolved_change mapped names (line.Remove term member other) = resolved_remove mapped names term member other
resolved_change mapped names other = Err NotBuilt

-- what the line asks for; its names are read in the order of the line, and kinds of values behind all of them
abbrev pub resolve : Mapped → Bindings → Command → Checked Resolved
resolve mapped names line.CreateAll = Ok resolved.CreateAll
resolve mapped names line.DropAll = Ok resolved.DropAll
resolve mapped names line.Dump = Ok resolved.Dump
resolve mapped names (line.New name class given) = resolved_new mapped name class given
resolve mapped names (line.Get name class key) = resolved_get mapped name class key
resolve mapped names (line.Objects name query) = resolved_objects mapped name query
resolve mapped names (line.Related name term member) = resolved_related mapped names name term member
resolve mapped names (line.BeginNested name) = Ok (resolved.BeginNested name)
resolve mapped names (line.Add term) = id_of_term names term >>= λ object. Ok (resolved.Add object)
resolve mapped names (line.Delete term) = id_of_term names term >>= λ object. Ok (resolved.Delete object)
resolve mapped names (line.Expunge term) = id_of_term names term >>= λ object. Ok (resolved.Expunge object)
resolve mapped names (line.Expire term) = id_of_term names term >>= λ object. Ok (resolved.Expire object)
resolve mapped names (line.Refresh term) = id_of_term names term >>= λ object. Ok (resolved.Refresh object)
resolve mapped names (line.Show term) = resolved_thing names term
resolve mapped names (line.ShowMember term member) = resolved_show mapped names term member
resolve mapped names (line.State term) = id_of_term names term >>= λ object. Ok (resolved.State object)
resolve mapped names (line.Same term other) = resolved_same names term other
resolve mapped names line.Flush = Ok resolved.Flush
resolve mapped names (line.Commit name) = handle_if_named names name >>= λ number. Ok (resolved.Commit number)
resolve mapped names (line.Rollback name) = handle_if_named names name >>= λ number. Ok (resolved.Rollback number)
resolve mapped names line.Close = Ok resolved.Close
resolve mapped names (line.Rows written) = resolved_rows mapped written
resolve mapped names (line.Bulk written) = resolved_statement mapped written
resolve mapped names other = resolved_change mapped names other
