-- The calls of a session, one after another.
use Rattle.std.specs.Prelude.{ℕ, List, [], ◌∷◌}
use Rattle.base_core.specs.declared.ids.AttrNo.{AttrNo}
use Rattle.base_core.specs.declared.ids.ClassId.{ClassId}
use Rattle.base_core.specs.declared.ids.ObjId.{ObjId}
use Rattle.base_core.specs.declared.ids.RelNo.{RelNo}
use Rattle.base_core.specs.declared.value.Value.{Value}
use Rattle.class_types.specs.Rules.{Rules}
use Rattle.expr_types.specs.declared.select.Bulk.{Bulk}
use Rattle.expr_types.specs.declared.select.Select.{Select}
use Rattle.object_arena.specs.Graph.{IsObject}
use Rattle.object_arena.specs.Identity.{IsOne}
use Rattle.keeper_core.specs.Beside.{on_own}
use Rattle.relations.specs.declared.calls.LinkCall.{LinkCall}
use Rattle.relations.specs.Calls.{end_of}
use Rattle.relations.specs.Keys.{IsEnd}
use Rattle.session_calls.specs.Parts.{World}
use Rattle.session_calls.specs.Steps as calls
use Rattle.session_acts.specs.Steps as acts
use Rattle.session_objects.specs.Steps.{add, expunge}
use Rattle.session_links.specs.Steps.{change_link}
use Rattle.session_tables.specs.Steps.{change_all}
use Rattle.session_tables.specs.declared.tables.TableChange.{TableChange}
use Rattle.session_objects.specs.ValueSteps.{set_valid, valid_made}
use Rattle.session_laws.specs.Health.Health.{IsHealthy, IsWhole}

-- what is asked of a session, but for reads of rows into objects: objects are made with values, come in, get values, are to be deleted and
-- leave; their links change; all is written; the transaction and savepoints begin and end; tables are made and dropped; rows are asked for
-- and written in bulk
pub data Call : Type 0 where
  Make : ClassId → List (AttrNo × Value) → Call
  Add : ObjId → Call
  Set : ObjId → AttrNo → Value → Call
  Delete : ObjId → Call
  Expunge : ObjId → Call
  ChangeLink : ObjId → RelNo → LinkCall → Call
  Flush : Call
  Commit : Call
  Rollback : Call
  Close : Call
  BeginNested : Call
  CommitHandle : ℕ → Call
  RollbackHandle : ℕ → Call
  ChangeTables : TableChange → Call
  Rows : Select → Call
  Write : Bulk → Call

-- the session and the store after a call, where validators have these rules
abbrev pub after_call : Rules → Call → World → World
after_call rules (Make class given) world = (on_own (valid_made rules class given) world).after
after_call rules (Add object) world = (add object world).after
after_call rules (Set object attr value) world = (set_valid rules object attr value world).after
after_call rules (Delete object) world = (calls.delete object world).after
after_call rules (Expunge object) world = (expunge object world).after
after_call rules (ChangeLink owner place call) world = (change_link owner place call world).after
after_call rules Flush world = (acts.flush_now world).after
after_call rules Commit world = (acts.commit world).after
after_call rules Rollback world = (calls.rollback world).after
after_call rules Close world = (calls.close world).after
after_call rules BeginNested world = (acts.begin_nested world).after
after_call rules (CommitHandle handle) world = (acts.commit_handle handle world).after
after_call rules (RollbackHandle handle) world = (calls.rollback_handle handle world).after
after_call rules (ChangeTables change) world = (change_all change world).after
after_call rules (Rows select) world = (acts.rows select world).after
after_call rules (Write statement) world = (acts.bulk statement world).after

-- the call names objects that have been made, and a statement that is plain unless it is refused for a key
abbrev pub MayCall : Call → World → Type 0
MayCall (Add object) world = IsObject world.own.graph object
MayCall (Set object attr value) world = IsObject world.own.graph object
MayCall (Delete object) world = IsObject world.own.graph object
MayCall (Expunge object) world = IsObject world.own.graph object
MayCall (ChangeLink owner place call) world = IsObject world.own.graph owner × IsEnd world.own.graph (end_of call)
MayCall (Write statement) world = acts.IsPlainButForKeys world.own.mapping.schema statement
MayCall call world = Unit {0}

-- the session and the store after calls, in order
abbrev pub after_calls : Rules → List Call → World → World
after_calls rules [] world = world
after_calls rules (call ∷ calls) world = after_calls rules calls (after_call rules call world)

-- each of the calls may be made when it is its turn, of a session that is whole
abbrev pub MayCallAll : Rules → List Call → World → Type 0
MayCallAll rules [] world = Unit {0}
MayCallAll rules (call ∷ calls) world = IsWhole world × MayCall call world × MayCallAll rules calls (after_call rules call world)

-- whatever is called, and whatever is answered, a healthy session stays healthy
abbrev pub CallsKeepHealth : Type 0
CallsKeepHealth = (rules : Rules) (calls : List Call) (world : World) → IsHealthy world → MayCallAll rules calls world → IsHealthy (after_calls rules calls world)

-- one object stands for each root class and key
abbrev pub HasOneForEachKey : World → Type 0
HasOneForEachKey world = IsOne world.own.graph.objects world.own.graph.roots

abbrev pub CallsKeepOne : Type 0
CallsKeepOne = (rules : Rules) (calls : List Call) (world : World) → IsHealthy world → MayCallAll rules calls world → HasOneForEachKey (after_calls rules calls world)
