use Rattle.std.proofs.Common.{List, ◌∷◌, ap, subst, sym, ◌∙◌}
use Rattle.std.specs.List.{All}
use Rattle.base_core.specs.declared.ids.ObjId.{ObjId}
use Rattle.cascades.specs.declared.closures.Flag.TheVariants.{SaveUpdate}
use Rattle.cascades.specs.Closures.{IsClosure, closure_of}
use Rattle.class_mapping.specs.Mapped.{Mapped}
use Rattle.object_arena.specs.Graph.{Graph, IsObject}
use Rattle.object_parts.specs.Sides.{without}
use Rattle.session_parts.proofs.ObjectLemmas.{if_ok}
use Rattle.session_objects.specs.Taking.{outsiders}
use Rattle.session_objects.proofs.ListLemmas.{coming_is, coming_once}
use Rattle.session_objects.proofs.coming.coming_objects.Goals as goal

pub with_others-requires-clause-made : goal.with_others-requires-clause-made
with_others-requires-clause-made c = subst (All (IsObject c.arena-arena.result.now)) (sym c.as_slice.ensures.members) c.in_ok-closure.ensures.closure.objects

pub returns-clause-objects : goal.returns-clause-objects
returns-clause-objects c =
    if_ok c.with_others.result
    (λ list told.
    coming_is c.args.session.now.mapping c.args.session.now.graph c.args.object c.in_ok-closure.closure list
    (c.in_ok-closure.ensures.is
    ∙ ap (λ (m : Mapped). closure_of SaveUpdate m c.arena-arena.result.now c.args.object) c.mapping.ensures
    ∙ ap (λ (g : Graph). closure_of SaveUpdate c.args.session.now.mapping g c.args.object) c.arena-arena.ensures.objects)
    (told ∙ ap (λ (os : List ObjId). outsiders c.arena-arena.result.now (c.args.object ∷ without os c.args.object)) c.as_slice.ensures.members
    ∙ ap (λ (g : Graph). outsiders g (c.args.object ∷ without c.in_ok-closure.closure c.args.object)) c.arena-arena.ensures.objects))
    c.with_others.ensures

pub returns-clause-once : goal.returns-clause-once
returns-clause-once c =
    if_ok c.with_others.result
    (λ list told.
    coming_once c.args.session.now.mapping c.args.session.now.graph c.args.object c.in_ok-closure.closure list c.requires
    (subst (λ (g : Graph). IsClosure SaveUpdate c.args.session.now.mapping g c.args.object c.in_ok-closure.closure) c.arena-arena.ensures.objects
    (subst (λ (m : Mapped). IsClosure SaveUpdate m c.arena-arena.result.now c.args.object c.in_ok-closure.closure) c.mapping.ensures c.in_ok-closure.ensures.closure))
    (told ∙ ap (λ (os : List ObjId). outsiders c.arena-arena.result.now (c.args.object ∷ without os c.args.object)) c.as_slice.ensures.members
    ∙ ap (λ (g : Graph). outsiders g (c.args.object ∷ without c.in_ok-closure.closure c.args.object)) c.arena-arena.ensures.objects))
    c.with_others.ensures
