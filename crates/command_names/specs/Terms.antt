-- What the terms of a line stand for.
use Rattle.std.specs.Prelude.{ℕ, List, slice_get, Option, None, Some, Ok, Err}
use Rattle.base_core.specs.declared.ids.ClassId.{ClassId}
use Rattle.base_core.specs.declared.ids.ObjId.{ObjId}
use Rattle.base_core.specs.declared.refusal.Refusal.TheVariants.{InvalidRequestError}
use Rattle.base_core.specs.declared.refusal.RequestKind.TheVariants.{Unknown, WrongKind}
use Rattle.sql_semantics.specs.Checked.{Checked, ◌>>=◌}
use Rattle.script_types.specs.declared.command.Term.{Term}
use Rattle.shell_parts.specs.declared.names.Bound.{Bound}
use Rattle.shell_parts.specs.declared.names.Bound.TheVariants.{Object, Objects, Saved}
use Rattle.shell_parts.specs.Bindings.{bound_to}

-- no such name is there
abbrev pub unknown : {A : Type 0} → List ℕ → Checked A
unknown name = Err (InvalidRequestError (Unknown name))

-- what is there is no thing of the kind that its place wants
abbrev pub wrong_kind : {A : Type 0} → Checked A
wrong_kind = Err (InvalidRequestError WrongKind)

abbrev pub found_or_unknown : {A : Type 0} → List ℕ → Option A → Checked A
found_or_unknown name None = unknown name
found_or_unknown name (Some a) = Ok a

-- the names that are bound, each with what it stands for
abbrev pub Bindings : Type 0
Bindings = List (List ℕ × Bound)

-- an object and its class
abbrev pub Named : Type 0
Named = ObjId × ClassId

abbrev pub found_or_wrong : {A : Type 0} → Option A → Checked A
found_or_wrong None = wrong_kind
found_or_wrong (Some a) = Ok a

-- a member of a list, counted from 0
abbrev pub member_at : ℕ → Bound → Checked Named
member_at place (Objects members) = found_or_wrong (slice_get members place)
member_at place other = wrong_kind

abbrev pub as_object : Bound → Checked Named
as_object (Object object class) = Ok (object, class)
as_object other = wrong_kind

-- the object that is bound, or a member of the list that is
abbrev pub object_at : Option ℕ → Bound → Checked Named
object_at None thing = as_object thing
object_at (Some place) thing = member_at place thing

-- the object that a term stands for
abbrev pub object_of : Bindings → Term → Checked Named
object_of names term = found_or_unknown term.name (bound_to names term.name) >>= object_at term.index

abbrev pub as_shown : Bound → Checked Bound
as_shown (Saved number) = wrong_kind
as_shown thing = Ok thing

-- what is shown of a thing that is bound: all of it, but for a savepoint, or a member of a list
abbrev pub shown_at : Option ℕ → Bound → Checked Bound
shown_at None thing = as_shown thing
shown_at (Some place) thing = member_at place thing >>= λ named. Ok (Object named.0 named.1)

-- what a term stands for that is shown
abbrev pub shown_of : Bindings → Term → Checked Bound
shown_of names term = found_or_unknown term.name (bound_to names term.name) >>= shown_at term.index

abbrev pub as_handle : Bound → Checked ℕ
as_handle (Saved number) = Ok number
as_handle other = wrong_kind

-- the number of the savepoint that a name stands for
abbrev pub handle_of : Bindings → List ℕ → Checked ℕ
handle_of names name = found_or_unknown name (bound_to names name) >>= as_handle

abbrev pub handle_if_named : Bindings → Option (List ℕ) → Checked (Option ℕ)
handle_if_named names None = Ok None
handle_if_named names (Some name) = handle_of names name >>= λ number. Ok (Some number)
