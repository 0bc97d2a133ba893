-- The links that a call changes fit their relationships.
use Rattle.std.proofs.Common.{◌≡◌, Bool, true, false, Option, None, Some, Result, Ok, Err, is_some, refl}
use Rattle.std.specs.Prelude.{if◌then◌else◌}
use Rattle.std.proofs.lemmas.Option.{slice_get-get_or}
use Rattle.base_core.specs.declared.ids.ObjId.{ObjId}
use Rattle.base_core.specs.declared.ids.RelNo.{RelNo}
use Rattle.base_core.specs.declared.refusal.Refusal.{Refusal}
use Rattle.base_core.specs.declared.refusal.Refusal.TheVariants.{InvalidRequestError}
use Rattle.base_core.specs.declared.refusal.RequestKind.TheVariants.{KeyChange, NotAMember}
use Rattle.class_types.specs.declared.mapped.Relation.{Relation}
use Rattle.class_mapping.specs.Mapped.{Mapped, partner_of, relations_of}
use Rattle.class_mapping.specs.Paired.{HasPairs, IsAt}
use Rattle.object_arena.specs.Fit.{IsFit, no_relation, relation_of}
use Rattle.object_arena.specs.Graph.{Graph, IsObject, object_at}
use Rattle.relations.specs.declared.calls.LinkCall.{LinkCall}
use Rattle.relations.specs.declared.calls.LinkCall.TheVariants.{Set, Append, Remove}
use Rattle.relations.specs.declared.change.Change.{Change}
use Rattle.relations.specs.declared.parents.OldParent.{OldParent}
use Rattle.relations.specs.Calls.{end_of, is_of_collection, lacks_member, link_change, links_appended, links_by, links_removed, links_set, links_set_by, no_change}
use Rattle.relations.specs.Fits.{ChangeFits, IsEndOf, IsManyAt, IsOneAt}
use Rattle.relations.specs.Keys.{IsEnd, changes_key}
use Rattle.relations.specs.Mirror.{end_fault, has_member, is_of, join_change, remove_change, set_change}
use Rattle.relations.specs.Parents.{old_parent}
use Rattle.relations.proofs.CallLemmas.{none_fits}
use Rattle.relations.proofs.ChangeLemmas.{end_taken, join_fits, partner_of_many, remove_fits, set_fits}
use Rattle.session_laws.proofs.Links.SetLemmas.{old_made}
use Rattle.session_laws.specs.LinkCalls.{IsLinkCall}
use Rattle.session_laws.proofs.LinkCalls.Placing.{Found, found_err, found_ok, found_unless}

module _ (graph : Graph) (mapped : Mapped) (pairs : HasPairs mapped) (fit : IsFit mapped graph) where
  abbrev FoundFits : Result Change Refusal → Type 0
  FoundFits found = Found (ChangeFits mapped graph) found

  unchanged : FoundFits (Ok no_change)
  unchanged = found_ok (ChangeFits mapped graph) no_change (none_fits mapped graph no_change refl)

  links_set_fit : (child : ObjId) (place : RelNo) (relation : Relation) (parent : Option ObjId) → IsObject graph child → IsOneAt graph mapped child place relation → IsEnd graph parent → IsEndOf graph mapped relation.target parent
      → FoundFits (links_set graph mapped child place relation parent)
  unfolding links_set
  links_set_fit child place relation parent made at end of = by (changes_key graph mapped child relation (old_parent graph mapped child place relation) parent)
    where
      old : OldParent
      old = old_parent graph mapped child place relation

      by : (b : Bool) → FoundFits (if b then Err (InvalidRequestError KeyChange) else Ok (set_change graph mapped child place relation old parent))
      by true = found_err (ChangeFits mapped graph) (InvalidRequestError KeyChange)
      by false =
          found_ok (ChangeFits mapped graph) (set_change graph mapped child place relation old parent)
          (set_fits mapped graph child place relation old parent pairs fit made at (old_made mapped graph child place relation fit made) end of)

  module _ (owner : ObjId) (place : RelNo) (relation : Relation) (member : ObjId) (owner_made : IsObject graph owner) (member_made : IsObject graph member) (at : IsManyAt graph mapped owner place relation) (of : is_of graph mapped relation.target member ≡ true) where
    set_by_fit : (link : Option Relation) → partner_of mapped relation ≡ link → is_some relation.far ≡ false → FoundFits (links_set_by graph mapped owner relation.partner member link)
    set_by_fit None is far = unchanged
    set_by_fit (Some link) is far =
        let known = partner_of_many mapped (object_at graph owner).class (object_at graph member).class place.0 relation link pairs at.at at.many of is in
        links_set_fit member relation.partner link (Some owner) member_made (record { at = known.0; one = known.2 far }) owner_made known.3

    appended_fit : FoundFits (links_appended graph mapped owner place relation member)
    appended_fit = by (has_member graph owner place member) (is_some relation.far) refl
      where
        by : (there far : Bool) → is_some relation.far ≡ far
            → FoundFits (if there then Ok no_change else if far then Ok (join_change graph owner place relation member) else links_set_by graph mapped owner relation.partner member (partner_of mapped relation))
        by true far is = unchanged
        by false true is = found_ok (ChangeFits mapped graph) (join_change graph owner place relation member) (join_fits mapped graph owner place relation member pairs fit owner_made member_made at of is)
        by false false is = set_by_fit (partner_of mapped relation) refl is

    removed_fit : FoundFits (links_removed graph owner place relation member)
    removed_fit = by (lacks_member graph owner place member)
      where
        by : (b : Bool) → FoundFits (if b then Err (InvalidRequestError NotAMember) else Ok (remove_change graph owner place relation member))
        by true = found_err (ChangeFits mapped graph) (InvalidRequestError NotAMember)
        by false = found_ok (ChangeFits mapped graph) (remove_change graph owner place relation member) (remove_fits mapped graph owner place relation member pairs fit owner_made member_made at of)

  -- ---- any call

  by_call_fit : (owner : ObjId) (place : RelNo) (relation : Relation) (call : LinkCall) → IsObject graph owner → IsAt mapped (object_at graph owner).class place.0 relation → relation.many ≡ is_of_collection call → IsEnd graph (end_of call)
      → IsEndOf graph mapped relation.target (end_of call) → FoundFits (links_by graph mapped owner place relation call)
  by_call_fit owner place relation (Set parent) made at form end of = links_set_fit owner place relation parent made (record { at = at; one = form }) end of
  by_call_fit owner place relation (Append member) made at form end of = appended_fit owner place relation member made end (record { at = at; many = form }) of
  by_call_fit owner place relation (Remove member) made at form end of = removed_fit owner place relation member made end (record { at = at; many = form }) of

  pub change_fits : (owner : ObjId) (place : RelNo) (call : LinkCall) (change : Change) → IsLinkCall mapped graph owner place call → link_change graph mapped owner place call ≡ Ok change → ChangeFits mapped graph change
  unfolding Found link_change
  change_fits owner place call change on is =
      let relation : Relation = relation_of mapped (object_at graph owner).class place in
      found_unless (ChangeFits mapped graph) (end_fault graph mapped owner relation.target (end_of call)) (links_by graph mapped owner place relation call)
      (λ none.
      by_call_fit owner place relation call on.made (slice_get-get_or (relations_of mapped (object_at graph owner).class) place.0 no_relation on.there) on.form on.end
      (end_taken graph mapped owner relation.target (end_of call) none)) change is
