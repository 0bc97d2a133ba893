use Rattle.std.proofs.Common.{◌<◌, length, sym, subst}
use Rattle.base_core.specs.declared.ids.ClassId.{ClassId}
use Rattle.class_mapping.specs.Mapped.{relations_of}
use Rattle.command_resolve.proofs.queries.resolved_related.Goals as goal

pub returns-clause-stands : goal.returns-clause-stands
returns-clause-stands c = λ graph drawn there.
    let made = c.in_ok-object.ensures.there graph drawn there in
    (made.0, subst (λ (class : ClassId). c.in_ok-relation.relation.0 < length (relations_of c.args.mapping.now class)) (sym made.1) c.in_ok-relation.ensures.exists)
