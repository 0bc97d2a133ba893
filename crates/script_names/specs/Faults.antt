-- Faults of a statement, in the order in which they are told: the first one is the answer.
use Rattle.std.specs.Prelude.{◌≡◌, Bool, true, false, MatchBool, List, [], ◌∷◌, Option, None, Some, Result, Ok, Err}
use Rattle.base_core.specs.Answers.{is_memory}
use Rattle.base_core.specs.declared.refusal.Refusal.{Refusal}
use Rattle.base_core.specs.declared.refusal.Refusal.TheVariants.{InvalidRequestError}
use Rattle.base_core.specs.declared.refusal.RequestKind.{RequestKind}

-- the first fault, or what is asked for where there is none
abbrev pub unless : {A : Type 0} → List Refusal → A → Result A Refusal
unless [] a = Ok a
unless (fault ∷ faults) a = Err fault

abbrev pub first_fault : List Refusal → Option Refusal
first_fault [] = None
first_fault (fault ∷ faults) = Some fault

-- the refusal is the first fault, or memory ran out
abbrev pub IsFirst : Refusal → List Refusal → Type 0
IsFirst e faults = MatchBool (is_memory e) (Unit {0}) (first_fault faults ≡ Some e)

-- the call is answered where there is no fault, and else refused with the first one, unless memory ran out
abbrev pub TellsFirst : {X : Type 0} → List Refusal → Result X Refusal → Type 0
TellsFirst faults (Ok x) = faults ≡ []
TellsFirst faults (Err e) = IsFirst e faults

-- two answers in order, or the first refusal of the two
abbrev pub pair_or_refusal : {A B : Type 0} → Result A Refusal → Result B Refusal → Result (A × B) Refusal
pair_or_refusal (Err e) second = Err e
pair_or_refusal (Ok a) (Err e) = Err e
pair_or_refusal (Ok a) (Ok b) = Ok (a, b)

-- a fault of this kind, where the test holds
abbrev pub fault_if : Bool → RequestKind → List Refusal
fault_if true kind = InvalidRequestError kind ∷ []
fault_if false kind = []

-- the faults of a part that may be left out
abbrev pub faults_if_given : {A : Type 0} → (A → List Refusal) → Option A → List Refusal
faults_if_given faults None = []
faults_if_given faults (Some a) = faults a
