-- Links that change: the call that each case makes, and why it is refused.
use Rattle.std.proofs.Common.{◌≡◌, Option, Result, IfErr, refl}
use Rattle.base_core.specs.declared.ids.ObjId.{ObjId}
use Rattle.base_core.specs.declared.ids.RelNo.{RelNo}
use Rattle.base_core.specs.declared.refusal.Refusal.{Refusal}
use Rattle.class_types.specs.Rules.{Rules}
use Rattle.keeper_core.specs.Moment.{Moment}
use Rattle.keeper_core.specs.Store.{Store}
use Rattle.relations.specs.declared.calls.LinkCall.{LinkCall}
use Rattle.relations.specs.declared.calls.LinkCall.TheVariants.{Append, Remove, Set}
use Rattle.session_calls.specs.Refusals.{IsRefused}
use Rattle.session_calls.specs.Steps.{pending_fault}
use Rattle.session_links.specs.Linking.{change_fault}
use Rattle.session_links.specs.Steps as links
use Rattle.session_loads.specs.Reads as reads
use Rattle.session_loads.specs.Refusals.{IsRefusedChanging}
use Rattle.session_scopes.specs.SessionState.{SessionState}
use Rattle.command_resolve.specs.declared.resolved.Resolved.TheVariants as resolved
use Rattle.session_perform.specs.Performing.{change_link}
use Rattle.session_perform.specs.Refused.{IsRefusedLine}

module _ (owner : ObjId) (relation : RelNo) where
  pub set_is : (call : LinkCall) (end : Option ObjId) → call ≡ Set end → links.change_link owner relation call ≡ change_link owner relation call
  set_is (Set other) end is = refl
  set_is (Append member) end is = absurd cc
  set_is (Remove member) end is = absurd cc

  pub append_is : (call : LinkCall) (member : ObjId) → call ≡ Append member → reads.change_collection owner relation call ≡ change_link owner relation call
  append_is (Set other) member is = absurd cc
  append_is (Append other) member is = refl
  append_is (Remove other) member is = refl

  pub remove_is : (call : LinkCall) (member : ObjId) → call ≡ Remove member → reads.change_collection owner relation call ≡ change_link owner relation call
  remove_is (Set other) member is = absurd cc
  remove_is (Append other) member is = refl
  remove_is (Remove other) member is = refl

  module _ (rules : Rules) (old new : SessionState) (was now : Moment Store) (r : Result (Unit {0}) Refusal) where
    abbrev IsWhy : LinkCall → Type 0
    IsWhy call = IfErr r (λ e. IsRefusedLine rules (resolved.ChangeLink owner relation call) old was e new now)

    pub set_why : (call : LinkCall) (end : Option ObjId) → call ≡ Set end → IfErr r (λ e. IsRefused (pending_fault old) (change_fault owner relation call old) old e new) → IsWhy call
    set_why (Set other) end is h = h
    set_why (Append member) end is h = absurd cc
    set_why (Remove member) end is h = absurd cc

    pub append_why : (call : LinkCall) (member : ObjId) → call ≡ Append member → IfErr r (λ e. IsRefusedChanging owner relation call old was e new now) → IsWhy call
    append_why (Set other) member is h = absurd cc
    append_why (Append other) member is h = h
    append_why (Remove other) member is h = h

    pub remove_why : (call : LinkCall) (member : ObjId) → call ≡ Remove member → IfErr r (λ e. IsRefusedChanging owner relation call old was e new now) → IsWhy call
    remove_why (Set other) member is h = absurd cc
    remove_why (Append other) member is h = h
    remove_why (Remove other) member is h = h
