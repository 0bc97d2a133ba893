use Rattle.std.proofs.Common.{◌≡◌, IfOk, subst, sym}
use Rattle.class_types.specs.declared.mapped.Relation.{Relation}
use Rattle.class_mapping.specs.Mapped.{IsClass}
use Rattle.object_arena.specs.Fit.{no_relation}
use Rattle.joined_rows.specs.Parts.{part_from}
use Rattle.joined_rows.proofs.parts.part_at.Goals as goal

pub part_from-requires : goal.part_from-requires
part_from-requires c = record {
  target =
      subst (λ (r : Relation). IsClass c.args.mapping.now r.target) (sym c.relation_at.ensures.is)
      (c.relation_at.ensures.related.each c.args.class c.requires.class c.args.place.0 no_relation c.requires.place).target;
}

pub returns : goal.returns
returns c =
    subst (λ (r : Relation). IfOk c.part_from.result (λ part. part ≡ part_from c.args.mapping.now c.args.place r c.args.first)) c.relation_at.ensures.is c.part_from.ensures
