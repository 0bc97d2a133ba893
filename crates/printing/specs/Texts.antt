-- What is written of values, objects, warnings and refusals, byte by byte.
use Rattle.std.specs.Prelude.{ℕ, ℤ, List, [], ◌∷◌, ◌++◌, codes}
use Rattle.std.specs.List.{flat_map}
use Rattle.std.specs.Fmt.{decimal, signed_decimal}
use Rattle.base_core.specs.declared.ids.AttrNo.{AttrNo}
use Rattle.base_core.specs.declared.ids.ClassId.{ClassId}
use Rattle.base_core.specs.declared.ids.ColumnNo.{ColumnNo}
use Rattle.base_core.specs.declared.ids.ObjId.{ObjId}
use Rattle.base_core.specs.declared.ids.RelNo.{RelNo}
use Rattle.base_core.specs.declared.ids.TableId.{TableId}
use Rattle.base_core.specs.declared.refusal.ArgumentKind.{ArgumentKind}
use Rattle.base_core.specs.declared.refusal.ArgumentKind.TheVariants as argument
use Rattle.base_core.specs.declared.refusal.IntegrityKind.{IntegrityKind}
use Rattle.base_core.specs.declared.refusal.IntegrityKind.TheVariants as integrity
use Rattle.base_core.specs.declared.refusal.LimitKind.{LimitKind}
use Rattle.base_core.specs.declared.refusal.LimitKind.TheVariants as limit
use Rattle.base_core.specs.declared.refusal.Refusal.{Refusal}
use Rattle.base_core.specs.declared.refusal.Refusal.TheVariants as refusal
use Rattle.base_core.specs.declared.refusal.RequestKind.{RequestKind}
use Rattle.base_core.specs.declared.refusal.RequestKind.TheVariants as request
use Rattle.base_core.specs.declared.refusal.RowName.{RowName}
use Rattle.base_core.specs.declared.refusal.Warning.{Warning}
use Rattle.base_core.specs.declared.value.ArithOp.{ArithOp}
use Rattle.base_core.specs.declared.value.ArithOp.TheVariants as op
use Rattle.base_core.specs.declared.value.Kind.{Kind}
use Rattle.base_core.specs.declared.value.Kind.TheVariants as kind
use Rattle.base_core.specs.declared.value.Value.{Value}
pub use Rattle.value_texts.specs.Values.{bool_text, value_text}

-- The names of what refusals and warnings have by number.
pub record Names : Type 0 where
  pub table : TableId → List ℕ
  pub column : TableId → ColumnNo → List ℕ
  pub class : ClassId → List ℕ
  pub attribute : ClassId → AttrNo → List ℕ
  pub relation : ClassId → RelNo → List ℕ
  -- the name of an object's class
  pub class_of : ObjId → List ℕ

-- ---- lists

-- each text with the separator before it
abbrev pub with_leading_separators : {A : Type 0} → List ℕ → (A → List ℕ) → List A → List ℕ
with_leading_separators separator text items = flat_map (λ item. separator ++ text item) items

-- the texts with the separator between each two
abbrev pub with_separators : {A : Type 0} → List ℕ → (A → List ℕ) → List A → List ℕ
with_separators separator text [] = []
with_separators separator text (item ∷ items) = text item ++ with_leading_separators separator text items

-- the values of a row in parentheses
abbrev pub row_text : List Value → List ℕ
row_text row = 40 ∷ with_separators (codes ", ") value_text row ++ 41 ∷ []

-- a name, `@`, and a number
abbrev pub name_with_number : List ℕ → ObjId → List ℕ
name_with_number name object = name ++ 64 ∷ decimal object.0

abbrev pub object_text : Names → ObjId → List ℕ
object_text names object = name_with_number (names.class_of object) object

-- a list of objects in brackets
abbrev pub objects_text : Names → List ObjId → List ℕ
objects_text names objects = 91 ∷ with_separators (codes ", ") (object_text names) objects ++ 93 ∷ []

-- ---- refusals

abbrev pub kind_text : Kind → List ℕ
kind_text kind.Integer = codes "integer"
kind_text kind.Text = codes "text"
kind_text kind.Boolean = codes "boolean"
kind_text kind.Bytes = codes "bytes"

abbrev pub op_text : ArithOp → List ℕ
op_text op.Add = codes "+"
op_text op.Sub = codes "-"
op_text op.Mul = codes "*"

abbrev pub argument_text : ArgumentKind → List ℕ
argument_text argument.DuplicateName = codes "DuplicateName"
argument_text argument.UnknownColumn = codes "UnknownColumn"
argument_text argument.NoPrimaryKey = codes "NoPrimaryKey"
argument_text argument.SharedColumn = codes "SharedColumn"
argument_text argument.BadClass = codes "BadClass"
argument_text argument.NoDiscriminator = codes "NoDiscriminator"
argument_text argument.DuplicateIdentity = codes "DuplicateIdentity"
argument_text argument.BadCascade = codes "BadCascade"
argument_text argument.BadHook = codes "BadHook"
argument_text argument.BadTarget = codes "BadTarget"
argument_text argument.BadInheritance = codes "BadInheritance"
argument_text argument.BadSecondary = codes "BadSecondary"
argument_text argument.NoJoin = codes "NoJoin"
argument_text argument.TwoJoins = codes "TwoJoins"
argument_text argument.Overlap = codes "Overlap"
argument_text argument.PartnerDiffers = codes "PartnerDiffers"
argument_text argument.KeyForeign = codes "KeyForeign"
argument_text argument.BadPostUpdate = codes "BadPostUpdate"

-- the word of a request that does not fit the state that it meets
abbrev pub request_word : RequestKind → List ℕ
request_word request.NotConfigured = codes "NotConfigured"
request_word request.Configured = codes "Configured"
request_word (request.Unknown name) = codes "Unknown "
request_word request.WrongKind = codes "WrongKind"
request_word request.NotGrouped = codes "NotGrouped"
request_word request.DuplicateFrom = codes "DuplicateFrom"
request_word request.JoinedLimit = codes "JoinedLimit"
request_word request.InTransaction = codes "InTransaction"
request_word request.NotPersistent = codes "NotPersistent"
request_word request.NotInSession = codes "NotInSession"
request_word request.Deleted = codes "Deleted"
request_word request.IdentityConflict = codes "IdentityConflict"
request_word request.BadOwner = codes "BadOwner"
request_word request.BadMember = codes "BadMember"
request_word request.NotAMember = codes "NotAMember"
request_word request.KeyChange = codes "KeyChange"
request_word request.Discriminator = codes "Discriminator"
request_word request.NoSuchIdentity = codes "NoSuchIdentity"

-- the name that stands for nothing, where that is what does not fit
abbrev pub request_name : RequestKind → List ℕ
request_name (request.Unknown name) = name
request_name _ = []

abbrev pub request_text : RequestKind → List ℕ
request_text kind = request_word kind ++ request_name kind

abbrev pub limit_text : LimitKind → List ℕ
limit_text limit.Objects = codes "objects"
limit_text limit.Savepoints = codes "savepoints"

abbrev pub integrity_text : IntegrityKind → List ℕ
integrity_text integrity.NotNull = codes "NotNull"
integrity_text integrity.PrimaryKey = codes "PrimaryKey"
integrity_text integrity.Unique = codes "Unique"
integrity_text integrity.Foreign = codes "Foreign"

-- a row of a cycle: its table and its object's number
abbrev pub row_name_text : Names → RowName → List ℕ
row_name_text names row = name_with_number (names.table row.table) row.object

-- what stands in parentheses behind the refusal's name
abbrev pub with_details : List ℕ → List ℕ → List ℕ
with_details name inside = name ++ 40 ∷ inside ++ 41 ∷ []

-- a value of one kind was wanted, and one of another was found
abbrev pub mismatch_text : Kind → Kind → List ℕ
mismatch_text wanted found = with_details (codes "TypeMismatch") (kind_text wanted ++ codes ", " ++ kind_text found)

-- a result is outside 64 bits
abbrev pub outside_text : ArithOp → ℤ → ℤ → List ℕ
outside_text op a b = with_details (codes "DataError") (signed_decimal a ++ 32 ∷ op_text op ++ 32 ∷ signed_decimal b)

-- the generated keys of a table are spent
abbrev pub spent_text : Names → TableId → List ℕ
spent_text names table = with_details (codes "DataError") (codes "keys of " ++ names.table table)

abbrev pub compile_text : Names → TableId → ColumnNo → List ℕ
compile_text names table column = with_details (codes "CompileError") (names.table table ++ 46 ∷ names.column table column)

-- a validator refused a value of an attribute
abbrev pub validation_text : Names → ClassId → AttrNo → List ℕ → List ℕ
validation_text names class attribute hook = with_details (codes "ValidationError") (names.class class ++ 46 ∷ names.attribute class attribute ++ codes ", " ++ hook)

abbrev pub invalid_text : RequestKind → List ℕ
invalid_text kind = with_details (codes "InvalidRequestError") (request_text kind)

abbrev pub circular_text : Names → List RowName → List ℕ
circular_text names rows = with_details (codes "CircularDependencyError") (with_separators (codes " -> ") (row_name_text names) rows)

-- a constraint of a table is broken
abbrev pub violation_text : Names → IntegrityKind → TableId → List ℕ
violation_text names kind table = with_details (codes "IntegrityError") (integrity_text kind ++ codes ", " ++ names.table table)

-- the text of a refusal, with the names of what it has by number
abbrev pub refusal_text : Names → Refusal → List ℕ
refusal_text names refusal.Memory = codes "Memory"
refusal_text names (refusal.ArgumentError kind) = with_details (codes "ArgumentError") (argument_text kind)
refusal_text names (refusal.TypeMismatch wanted found) = mismatch_text wanted found
refusal_text names (refusal.DataError op a b) = outside_text op a b
refusal_text names (refusal.KeysSpent table) = spent_text names table
refusal_text names (refusal.CompileError table column) = compile_text names table column
refusal_text names (refusal.ValidationError class attribute hook) = validation_text names class attribute hook
refusal_text names (refusal.InvalidRequestError kind) = invalid_text kind
refusal_text names (refusal.LimitReached kind) = with_details (codes "LimitReached") (limit_text kind)
refusal_text names (refusal.ObjectDeletedError object) = with_details (codes "ObjectDeletedError") (object_text names object)
refusal_text names (refusal.DetachedInstanceError object) = with_details (codes "DetachedInstanceError") (object_text names object)
refusal_text names (refusal.CircularDependencyError rows) = circular_text names rows
refusal_text names refusal.ResourceClosedError = codes "ResourceClosedError"
refusal_text names (refusal.IntegrityError kind table) = violation_text names kind table
refusal_text names (refusal.StaleDataError table) = with_details (codes "StaleDataError") (names.table table)
refusal_text names refusal.PendingRollbackError = codes "PendingRollbackError"
refusal_text names (refusal.ScriptError line column) = with_details (codes "ScriptError") (decimal line ++ codes ", " ++ decimal column)
refusal_text names (refusal.OperationalError table) = with_details (codes "OperationalError") (names.table table)
refusal_text names refusal.KeeperFault = codes "KeeperFault"
refusal_text names refusal.NotBuilt = codes "NotBuilt"

-- that a relationship of a class was skipped
abbrev pub skipped_text : List ℕ → List ℕ → List ℕ
skipped_text class relation = codes " is not in the session, " ++ class ++ 46 ∷ relation ++ codes " skipped"

-- what a warning says behind its line's number
abbrev pub warning_text : Names → Warning → List ℕ
warning_text names warning = object_text names warning.object ++ skipped_text (names.class warning.class) (names.relation warning.class warning.relation)
