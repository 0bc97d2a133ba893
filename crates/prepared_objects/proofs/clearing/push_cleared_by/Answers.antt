use Rattle.std.proofs.Common.{◌++◌, ◌∙◌, true, List, get_or, sym, ap, subst}
use Rattle.std.specs.List.{All}
use Rattle.base_core.specs.declared.ids.ObjId.{ObjId}
use Rattle.object_arena.specs.declared.object.Link.TheVariants.{Unset}
use Rattle.object_arena.specs.declared.object.Object.{Object}
use Rattle.object_arena.specs.Graph.{IsObject}
use Rattle.object_parts.specs.Ends.{ends_of, ends_with}
use Rattle.prepared_objects.proofs.Members.{members_made}
use Rattle.prepared_objects.proofs.clearing.push_cleared_by.Goals as goal

pub push_cleared-requires : goal.push_cleared-requires
push_cleared-requires c =
    subst (λ (objects : List ObjId). All (IsObject c.args.arena.now) objects)
    (sym (c.as_slice.ensures ∙ c.in_ok-add_ends.ensures ∙ ap (λ (objects : List ObjId). objects ++ ends_with true c.link_or.result.now) c.new-members.ensures ∙ ap ends_of (c.link_or.ensures ∙ ap (λ (o : Object). get_or o.links c.args.number Unset) c.object.ensures.is)))
    (members_made c.args.mapping.now c.args.arena.now c.args.owner c.args.number c.requires.fit c.requires.owner)
