-- What is kept of the names of a script: what they stand for is there.
use Rattle.std.specs.Prelude.{◌≡◌, ℕ, ◌<◌, ◌≤◌, List, Option, None, Some}
use Rattle.std.specs.List.{All}
use Rattle.class_mapping.specs.Mapped.{IsClass, Mapped}
use Rattle.object_arena.specs.Graph.{Graph}
use Rattle.session_scopes.specs.SessionState.{IsMadeOf}
use Rattle.shell_parts.specs.declared.names.Bound.{Bound}
use Rattle.shell_parts.specs.declared.names.Bound.TheVariants.{Nothing, Object, Objects, Saved}
use Rattle.shell_parts.specs.Bindings.{bound_to}
use Rattle.command_names.specs.Terms.{Bindings}

-- so many savepoints have begun, and the number is that of one of them; numbers begin at 1
abbrev pub IsDrawn : ℕ → ℕ → Type 0
IsDrawn drawn number = (0 < number) × (number ≤ drawn)

abbrev pub IsDrawnIfNamed : ℕ → Option ℕ → Type 0
IsDrawnIfNamed drawn None = Unit {0}
IsDrawnIfNamed drawn (Some number) = IsDrawn drawn number

-- what is bound is there: its objects are of the classes with which they are bound, and its savepoint has begun
abbrev pub IsThere : Graph → ℕ → Bound → Type 0
IsThere graph drawn Nothing = Unit {0}
IsThere graph drawn (Object object class) = IsMadeOf graph object class
IsThere graph drawn (Objects members) = All (λ member. IsMadeOf graph member.0 member.1) members
IsThere graph drawn (Saved number) = IsDrawn drawn number

-- the objects that are bound are of declared classes
abbrev pub IsOfDeclared : Mapped → Bound → Type 0
IsOfDeclared mapped (Object object class) = IsClass mapped class
IsOfDeclared mapped (Objects members) = All (λ member. IsClass mapped member.1) members
IsOfDeclared mapped thing = Unit {0}

-- all objects that are bound are of declared classes
abbrev pub AreOfDeclared : Mapped → Bindings → Type 0
AreOfDeclared mapped names = (name : List ℕ) (thing : Bound) → bound_to names name ≡ Some thing → IsOfDeclared mapped thing

-- all that is bound is there
abbrev pub AreThere : Graph → ℕ → Bindings → Type 0
AreThere graph drawn names = (name : List ℕ) (thing : Bound) → bound_to names name ≡ Some thing → IsThere graph drawn thing
