-- The statements that a keeper was sent, with those that start and end its scopes.
use Rattle.std.specs.Prelude.{ℕ, Bool, false, zero, suc, List, [], ◌∷◌, ◌++◌, Option, None, Some}
use Rattle.base_core.specs.declared.refusal.Refusal.{Refusal}
use Rattle.keeper_core.specs.declared.sent.Sent.{Sent}
use Rattle.keeper_core.specs.declared.sent.Sent.TheVariants.{Begin, Savepoint}
use Rattle.keeper_core.specs.Moment.{Refused}

-- the statements, the last one that was refused, how many scopes are open, and whether there is room for one statement more
pub record Logged : Type 0 where
  pub sent : List Sent
  pub last : Option Refused
  pub scopes : ℕ
  pub ready : Bool

-- no statement yet
abbrev pub no_statements : Logged
no_statements = record { sent = []; last = None; scopes = 0; ready = false }

-- a statement was sent, and so many scopes are open then
abbrev pub with_sent : Logged → Sent → ℕ → Logged
with_sent log statement scopes = record { sent = log.sent ++ statement ∷ []; last = log.last; scopes = scopes; ready = false }

-- a statement was sent, and refused
abbrev pub with_refused : Logged → Sent → Refusal → Logged
with_refused log statement refusal = record {
  sent = log.sent ++ statement ∷ [];
  last = Some (record { statement = statement; refusal = refusal });
  scopes = log.scopes;
  ready = false;
}

-- the statement that starts a scope, inside so many others
abbrev pub start_of : ℕ → Sent
start_of zero = Begin
start_of (suc n) = Savepoint (suc n)
