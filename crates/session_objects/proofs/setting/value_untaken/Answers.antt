use Rattle.std.proofs.Common.{◌≡◌, IfOk, subst}
use Rattle.class_types.specs.Shown.{rules_of}
use Rattle.class_mapping.specs.Mapped.{Mapped}
use Rattle.object_arena.specs.declared.object.Object.{Object}
use Rattle.object_arena.specs.Graph.{object_at}
use Rattle.session_objects.specs.Judging.{invalid_fault}
use Rattle.session_objects.proofs.setting.value_untaken.Goals as goal

pub returns-clause-fault : goal.returns-clause-fault
returns-clause-fault g c =
    let rules = rules_of c.args.hooks.now in
    subst (λ (m : Mapped). IfOk c.invalid_fault.result (λ fault. fault ≡ invalid_fault rules m (object_at c.args.session.now.graph c.args.object).class c.args.attr c.args.value.now)) c.mapping.ensures
    (subst (λ (o : Object). IfOk c.invalid_fault.result (λ fault. fault ≡ invalid_fault rules c.mapping.result.now o.class c.args.attr c.args.value.now)) c.object.ensures.is c.invalid_fault.ensures.fault)
