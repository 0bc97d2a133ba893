-- Sessions that stay whole: their objects fit their classes, and each savepoint in progress has a handle, whatever is called.
use Rattle.std.specs.Prelude.{List, [], ◌∷◌}
use Rattle.std.specs.List.{All, AllByRecursion}
use Rattle.base_core.specs.declared.ids.AttrNo.{AttrNo}
use Rattle.base_core.specs.declared.value.Value.{Value}
use Rattle.class_types.specs.Rules.{Rules}
use Rattle.class_mapping.specs.Mapped.{IsAttribute, IsClass, Mapped}
use Rattle.table_laws.specs.Legality.{IsLegalStore}
use Rattle.object_arena.specs.Fit.{IsFit}
use Rattle.object_arena.specs.Graph.{IsObject, object_at}
use Rattle.session_laws.specs.Graphs.{IsWellMapped}
use Rattle.savepoints.specs.Scopes.{HasKeys}
use Rattle.session_scopes.specs.SessionState.{SessionState, new_session}
use Rattle.session_calls.specs.Parts.{World}
use Rattle.session_acts.specs.Steps.{IsPlainButForKeys}
use Rattle.session_laws.specs.LinkCalls.{IsLinkCall}
use Rattle.session_laws.specs.Sound.{IsHandled}
use Rattle.session_laws.specs.Health.Calls.{Call, HasOneForEachKey, after_call, after_calls}
use Rattle.session_laws.specs.Health.Health.{IsHealthy}

-- The mapping is as every configured one is, with links, classes of several tables and discriminators as they may be. The objects fit
-- their classes, their links too, and had keys of these at the start of each scope.
pub record IsKeyed (own : SessionState) : Type 0 where
  pub well : IsWellMapped own.mapping
  pub fit : IsFit own.mapping own.graph
  pub keys : All (HasKeys own.mapping own.graph) own.frames.scopes

-- a healthy session that is whole
pub record IsHale (world : World) : Type 0 where
  pub healthy : IsHealthy world
  pub keyed : IsKeyed world.own
  pub handled : IsHandled world

-- the call names classes, attributes, relationships and objects that are there, and a statement that is plain unless it is refused for
-- a key
abbrev pub IsCallOf : Call → World → Type 0
IsCallOf (Call.Make class given) world = IsClass world.own.mapping class × AllByRecursion (λ (one : AttrNo × Value). IsAttribute world.own.mapping class one.0) given
IsCallOf (Call.Add object) world = IsObject world.own.graph object
IsCallOf (Call.Set object attr value) world = IsObject world.own.graph object × IsAttribute world.own.mapping (object_at world.own.graph object).class attr
IsCallOf (Call.Delete object) world = IsObject world.own.graph object
IsCallOf (Call.Expunge object) world = IsObject world.own.graph object
IsCallOf (Call.ChangeLink owner place call) world = IsLinkCall world.own.mapping world.own.graph owner place call
IsCallOf (Call.Write statement) world = IsPlainButForKeys world.own.mapping.schema statement
IsCallOf call world = Unit {0}

-- so does each of the calls when it is its turn
abbrev pub AreCallsOf : Rules → List Call → World → Type 0
AreCallsOf rules [] world = Unit {0}
AreCallsOf rules (call ∷ calls) world = IsCallOf call world × AreCallsOf rules calls (after_call rules call world)

-- over classes of any form, whatever is called of a healthy session that is whole, and whatever is answered, objects go on to fit
abbrev pub CallsKeepFit : Type 0
CallsKeepFit = (rules : Rules) (calls : List Call) (world : World) → IsHale world → AreCallsOf rules calls world → IsKeyed (after_calls rules calls world).own

-- whatever is called, and whatever is answered, legal tables are left legal, those at the start of each scope too
abbrev pub CallsKeepLegal : Type 0
CallsKeepLegal =
    (rules : Rules) (calls : List Call) (world : World) → IsLegalStore world.own.mapping.schema world.store → AreCallsOf rules calls world
    → IsLegalStore (after_calls rules calls world).own.mapping.schema (after_calls rules calls world).store

-- whatever is called, and whatever is answered, a healthy session that is whole stays so
abbrev pub CallsKeepWhole : Type 0
CallsKeepWhole = (rules : Rules) (calls : List Call) (world : World) → IsHale world → AreCallsOf rules calls world → IsHale (after_calls rules calls world)

-- a session over a mapping that has done nothing, and a store without tables
abbrev pub new_world : Mapped → World
new_world mapping = record { own = new_session mapping; store = record { tables = []; scopes = [] } }

-- whatever is called of a new session, one object stands for each key
abbrev pub SessionsHaveOneForEachKey : Type 0
SessionsHaveOneForEachKey = (mapping : Mapped) (rules : Rules) (calls : List Call) → IsWellMapped mapping → AreCallsOf rules calls (new_world mapping) → HasOneForEachKey (after_calls rules calls (new_world mapping))
