-- Which refusals the names of a statement may meet.
use Rattle.base_core.specs.declared.refusal.Refusal.{Refusal}
use Rattle.base_core.specs.declared.refusal.Refusal.TheVariants.{Memory, InvalidRequestError, TypeMismatch}
use Rattle.base_core.specs.declared.refusal.RequestKind.{RequestKind}
use Rattle.base_core.specs.declared.refusal.RequestKind.TheVariants.{DuplicateFrom, NotGrouped, Unknown, WrongKind}

abbrev pub IsOfNames : RequestKind → Type 0
IsOfNames (Unknown name) = Unit {0}
IsOfNames WrongKind = Unit {0}
IsOfNames NotGrouped = Unit {0}
IsOfNames DuplicateFrom = Unit {0}
IsOfNames kind = ⊥

-- a name, a number of operands, a kind, a place where SQL lets no such part stand, or memory that ran out
abbrev pub CanRefuse : Refusal → Type 0
CanRefuse (InvalidRequestError kind) = IsOfNames kind
CanRefuse (TypeMismatch wanted found) = Unit {0}
CanRefuse Memory = Unit {0}
CanRefuse e = ⊥
