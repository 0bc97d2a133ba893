use Rattle.class_mapping.specs.Configured.{IsConfigured}
use Rattle.sql_semantics.specs.Plain.{IsPlainSelect}
use Rattle.load_calls.proofs.ReadLemmas.{told_of}
use Rattle.load_calls.proofs.CollectionLemmas.{members_plain, select_is}
use Rattle.load_calls.proofs.collections.select_of_members.Goals as goal

pub returns-clause-select : goal.returns-clause-select
returns-clause-select c = select_is c.args.mapping.now c.args.arena.now c.args.owner c.args.relation.now c.in_ok-key.key c.members_select.result c.in_ok-key.ensures c.members_select.ensures

pub returns-clause-plain : goal.returns-clause-plain
returns-clause-plain c = told_of (IsConfigured c.args.mapping.now) (IsPlainSelect c.args.mapping.now.schema) c.members_select.result (λ configured.
    members_plain c.args.mapping.now c.args.arena.now c.args.owner c.args.place c.args.relation.now c.in_ok-key.key c.object.result.now c.members_select.result configured.hierarchies c.requires.related
    (c.object.ensures.fits c.args.mapping.now c.requires.fit) c.object.ensures.is c.requires.persistent c.object.ensures.identified c.in_ok-key.ensures c.requires.place c.requires.relation c.requires.many
    c.members_select.ensures)

pub members_select-requires : goal.members_select-requires
members_select-requires c = record { target = c.requires.related.target }
