use Rattle.load_calls.proofs.CollectionLemmas.{owned_related}
use Rattle.load_targets.proofs.TargetLemmas.{class_told, key_is, key_told}
use Rattle.load_targets.proofs.targets.target_key.Goals as goal

pub foreign_attrs-requires : goal.foreign_attrs-requires
foreign_attrs-requires c = record { class = (c.object-record.ensures.fits c.args.mapping.now c.requires.fit).class }

pub returns-clause-key : goal.returns-clause-key
returns-clause-key c =
    key_is c.args.mapping.now c.args.relation.now c.args.arena.now c.args.child c.object-record.result.now c.in_ok-attrs.attrs c.as_slice.result.now c.values_at.result c.object-record.ensures.is c.in_ok-attrs.ensures.attrs c.as_slice.ensures
    c.values_at.ensures

pub returns-clause-target : goal.returns-clause-target
returns-clause-target c =
    class_told c.args.mapping.now c.args.relation.now.target c.values_at.result
    (owned_related c.args.mapping.now c.args.arena.now c.args.child c.args.place c.args.relation.now c.object-record.result.now c.in_ok-attrs.ensures.configured.related
    (c.object-record.ensures.fits c.args.mapping.now c.requires.fit) c.object-record.ensures.is c.requires.place c.requires.relation).target

pub returns-clause-fits : goal.returns-clause-fits
returns-clause-fits c =
    key_told c.args.mapping.now c.args.relation.now c.args.arena.now c.args.child c.args.place c.object-record.result.now c.values_at.result c.in_ok-attrs.ensures.configured.hierarchies
    c.in_ok-attrs.ensures.configured.related (c.object-record.ensures.fits c.args.mapping.now c.requires.fit) c.object-record.ensures.is (c.object-record.ensures.cells c.args.mapping.now c.requires.fit) c.requires.place c.requires.relation
    c.requires.one (returns-clause-key c)
