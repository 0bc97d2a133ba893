-- How many scopes are in progress, in a session and in the keeper beside it.
use Rattle.std.specs.Prelude.{◌≡◌, ℕ, Bool, true, false, List, [], ◌∷◌, Result, Ok, Err}
use Rattle.base_core.specs.declared.refusal.Refusal.{Refusal}
use Rattle.keeper_core.specs.Programs.{ends_early}
use Rattle.keeper_core.specs.Moment.{Moment}
use Rattle.savepoints.specs.declared.scope.Scope.{Scope}

abbrev pub has_scope : List Scope → Bool
has_scope [] = false
has_scope (scope ∷ scopes) = true

-- the keeper took its target, and has so many scopes open
abbrev pub HasDepth : {W : Type 0} → ℕ → Moment W → Type 0
HasDepth depth moment = (moment.attached ≡ true) × (moment.depth ≡ depth)

-- a call leaves the keeper with so many scopes open, unless memory or the store ended it early
abbrev pub StaysAt : {A W : Type 0} → Result A Refusal → ℕ → Moment W → Type 0
StaysAt (Ok x) depth moment = HasDepth depth moment
StaysAt (Err e) depth moment = ends_early e ≡ false → HasDepth depth moment
