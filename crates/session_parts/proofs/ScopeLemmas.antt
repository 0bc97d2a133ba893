-- A scope is in progress, or none is.
use Rattle.std.proofs.Common.{◌≡◌, ◌<◌, ◌≤◌, true, false, List, [], ◌∷◌, length, refl, sym, arith}
use Rattle.savepoints.specs.declared.scope.Scope.{Scope}
use Rattle.session_parts.specs.Depths.{has_scope}

pub inside : (scopes : List Scope) → 0 < length scopes → has_scope scopes ≡ true
inside [] less = absurd (omega arith)
inside (scope ∷ scopes) less = refl

pub outside : (scopes : List Scope) → length scopes ≤ 0 → scopes ≡ []
outside [] less = refl
outside (scope ∷ scopes) less = absurd (omega arith)

-- some scope is in progress, or none is
pub some_open : (scopes : List Scope) → 0 < length scopes → true ≡ has_scope scopes
some_open scopes less = sym (inside scopes less)

pub none_open : (scopes : List Scope) → length scopes ≤ 0 → false ≡ has_scope scopes
none_open [] less = refl
none_open (scope ∷ scopes) less = absurd (omega arith)

pub ruleset open_scopes = (some_open, none_open)
