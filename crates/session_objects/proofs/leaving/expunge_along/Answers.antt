use Rattle.std.proofs.Common.{List, ap, subst, sym, ◌∙◌}
use Rattle.std.specs.List.{All}
use Rattle.base_core.specs.declared.ids.ObjId.{ObjId}
use Rattle.cascades.specs.declared.closures.Flag.TheVariants.{Expunge}
use Rattle.cascades.specs.Closures.{closure_of}
use Rattle.class_mapping.specs.Mapped.{Mapped}
use Rattle.object_arena.specs.Graph.{Graph, IsObject}
use Rattle.session_parts.proofs.ObjectLemmas.{on_ok}
use Rattle.session_objects.specs.Leaving.{all_expunged, session_expunged}
use Rattle.session_objects.proofs.leaving.expunge_along.Goals as goal

pub expunge_all-requires : goal.expunge_all-requires
expunge_all-requires c =
    subst (λ (g : Graph). All (IsObject g) c.as_slice.result.now) c.arena.ensures.objects
    (subst (All (IsObject c.arena.result.now)) (sym c.as_slice.ensures.members) c.in_ok-closure.ensures.closure.objects)

pub returns-clause-ok : goal.returns-clause-ok
unfolding session_expunged
returns-clause-ok c =
    let own = c.args.session.now in
    on_ok c.expunge_all.result
    (λ left. left
    ∙ ap (λ (os : List ObjId). all_expunged os own)
    (c.as_slice.ensures.members ∙ c.in_ok-closure.ensures.is ∙ ap (λ (m : Mapped). closure_of Expunge m c.arena.result.now c.args.object) c.mapping.ensures
    ∙ ap (λ (g : Graph). closure_of Expunge own.mapping g c.args.object) c.arena.ensures.objects))
    c.expunge_all.ensures.ok
