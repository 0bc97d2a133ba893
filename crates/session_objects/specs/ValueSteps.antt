-- Objects are made and cells set, where these are the rules of the validators: kinds are asked before validators, and both before anything
-- begins.
use Rattle.std.specs.Prelude.{List, Option, None, Some, Err}
use Rattle.base_core.specs.declared.ids.AttrNo.{AttrNo}
use Rattle.base_core.specs.declared.ids.ClassId.{ClassId}
use Rattle.base_core.specs.declared.ids.ObjId.{ObjId}
use Rattle.base_core.specs.declared.value.Value.{Value}
use Rattle.base_core.specs.declared.refusal.Refusal.{Refusal}
use Rattle.class_types.specs.Rules.{Rules}
use Rattle.class_mapping.specs.Mapped.{Mapped}
use Rattle.object_arena.specs.Graph.{either_fault, object_at, value_fault}
use Rattle.keeper_core.specs.Programs.{Run, ◌>>=◌, quiet}
use Rattle.session_scopes.specs.Making.{first_given_fault, object_made}
use Rattle.session_scopes.specs.SessionState.{SessionState}
use Rattle.session_calls.specs.Parts.{World, checked}
use Rattle.session_calls.specs.Refusals.{kept_fault}
use Rattle.session_calls.specs.Steps as calls
use Rattle.session_objects.specs.Judging.{discriminator_fault, discriminator_if, first_invalid, invalid_fault, is_discriminator}

-- ---- objects are made

-- why an object of a class is not made with these values: the first that is of another kind, a validator's refusal of the first as they
-- are given, or a discriminator
abbrev pub given_fault : Rules → Mapped → ClassId → List (AttrNo × Value) → Option Refusal
given_fault rules mapped class given =
    either_fault (first_given_fault mapped class given) (either_fault (first_invalid rules mapped class given) (discriminator_fault mapped class given))

abbrev pub made_unless : Option Refusal → ClassId → List (AttrNo × Value) → SessionState → Run SessionState ObjId
made_unless (Some fault) class given session = quiet (Err fault) session
made_unless None class given session = object_made class given session

-- an object of a class is made with values of their attributes' kinds that its validators take
unfoldable pub valid_made : Rules → ClassId → List (AttrNo × Value) → SessionState → Run SessionState ObjId
valid_made rules class given session = made_unless (given_fault rules session.mapping class given) class given session

-- ---- cells are set

-- a validator of an object's attribute does not take the value
abbrev pub value_untaken : Rules → ObjId → AttrNo → Value → SessionState → Option Refusal
value_untaken rules object attr value session = invalid_fault rules session.mapping (object_at session.graph object).class attr value

-- the value is of another kind than an object's attribute, or a validator of the attribute does not take it
abbrev pub value_invalid : Rules → ObjId → AttrNo → Value → SessionState → Option Refusal
value_invalid rules object attr value session =
    either_fault (value_fault session.mapping (object_at session.graph object) attr value) (value_untaken rules object attr value session)

-- the attribute is a discriminator
abbrev pub cell_kept : ObjId → AttrNo → SessionState → Option Refusal
cell_kept object attr session = discriminator_if (is_discriminator session.mapping (object_at session.graph object).class attr)

-- what is done in the transaction
abbrev pub set_inside : ObjId → AttrNo → Value → World → Run World (Unit {0})
set_inside object attr value = checked (cell_kept object attr) >>= λ u. calls.set_cell object attr value

abbrev pub set_judged : ObjId → AttrNo → Value → World → Run World (Unit {0})
set_judged object attr value = calls.enter >>= λ u. set_inside object attr value

-- a cell of an object gets a value of its attribute's kind that its validators take
unfoldable pub set_valid : Rules → ObjId → AttrNo → Value → World → Run World (Unit {0})
set_valid rules object attr value = checked (value_invalid rules object attr value) >>= λ u. set_judged object attr value

-- ---- why a cell is not set

-- in the transaction: it is the discriminator's, or of a kept key
abbrev pub judged_fault : ObjId → AttrNo → SessionState → Option Refusal
judged_fault object attr session = either_fault (cell_kept object attr session) (kept_fault object attr session)
