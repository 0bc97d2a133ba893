use Rattle.std.proofs.Common.{◌≡◌, OnOk, subst, sym}
use Rattle.class_types.specs.declared.mapped.Relation.{Relation}
use Rattle.class_mapping.specs.Mapped.{IsClass}
use Rattle.main_selects.specs.MainSelect.{with_option}
use Rattle.main_selects.proofs.queries.push_joined.Goals as goal

pub push_option-requires-clause-target : goal.push_option-requires-clause-target
push_option-requires-clause-target c = subst (λ (r : Relation). IsClass c.args.mapping.now r.target) (sym c.relation_at.ensures.is) c.relation_at.ensures.target

pub returns : goal.returns
returns c =
    subst (λ (r : Relation). OnOk c.push_option.result (c.push_option.new.select ≡ with_option c.args.mapping.now c.args.class c.args.select.now r)) c.relation_at.ensures.is c.push_option.ensures
