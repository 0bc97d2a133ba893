use Rattle.std.proofs.Common.{List, ap, subst, sym, ◌∙◌}
use Rattle.std.specs.List.{All}
use Rattle.base_core.specs.declared.ids.ObjId.{ObjId}
use Rattle.cascades.specs.declared.closures.Flag.TheVariants.{RefreshExpire}
use Rattle.cascades.specs.Closures.{closure_of}
use Rattle.class_mapping.specs.Mapped.{Mapped}
use Rattle.object_arena.specs.Graph.{Graph, IsObject}
use Rattle.session_parts.proofs.ObjectLemmas.{on_ok}
use Rattle.session_loads.specs.Expiring.{all_expired, session_expired}
use Rattle.session_loads.proofs.expiring.expire_along.Goals as goal

pub expire_all-requires : goal.expire_all-requires
expire_all-requires c =
    subst (λ (g : Graph). All (IsObject g) c.as_slice.result.now) c.arena.ensures.objects
    (subst (All (IsObject c.arena.result.now)) (sym c.as_slice.ensures.members) c.in_ok-closure.ensures.closure.objects)

pub returns-clause-ok : goal.returns-clause-ok
unfolding session_expired
returns-clause-ok c =
    let own = c.args.session.now in
    on_ok c.expire_all.result
    (λ expired. expired
    ∙ ap (λ (os : List ObjId). all_expired os own)
    (c.as_slice.ensures.members ∙ c.in_ok-closure.ensures.is ∙ ap (λ (m : Mapped). closure_of RefreshExpire m c.arena.result.now c.args.object) c.mapping.ensures
    ∙ ap (λ (g : Graph). closure_of RefreshExpire own.mapping g c.args.object) c.arena.ensures.objects))
    c.expire_all.ensures.ok
