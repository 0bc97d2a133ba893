use Rattle.std.proofs.Common.{◌≡◌, true, false, Some, arith, is_some, rules}
use Rattle.class_mapping.specs.Mapped.{partner_of}
use Rattle.object_arena.specs.Graph.{object_at}
use Rattle.relations.specs.Mirror.{join_change}
use Rattle.relations.proofs.CallLemmas.{fits_by, none_fits}
use Rattle.relations.proofs.ChangeLemmas.{join_fits, partner_of_many}
use Rattle.relations.proofs.calls.links_appended.Goals as goal

pub returns-then-has_member-clause-fits : goal.returns-then-has_member-clause-fits
returns-then-has_member-clause-fits c = λ pairs is of. none_fits c.args.mapping.now c.args.arena.now c.no_change.result c.no_change.ensures

pub returns-then-is_some-clause-fits : goal.returns-then-is_some-clause-fits
returns-then-is_some-clause-fits c = λ pairs is of.
    let far : is_some c.args.relation.now.far ≡ true = first_of (search rules, grind arith) in
    fits_by c.args.mapping.now c.args.arena.now c.in_ok-join_change.field-0 (join_change c.args.arena.now c.args.owner c.args.place c.args.relation.now c.args.member) c.in_ok-join_change.ensures.change
    (join_fits c.args.mapping.now c.args.arena.now c.args.owner c.args.place c.args.relation.now c.args.member pairs c.requires.fit c.requires.owner c.requires.member is of far)

pub returns-in-None-clause-fits : goal.returns-in-None-clause-fits
returns-in-None-clause-fits c = λ pairs is of. none_fits c.args.mapping.now c.args.arena.now c.no_change-in-None.result c.no_change-in-None.ensures

pub returns-in-Some-clause-fits : goal.returns-in-Some-clause-fits
returns-in-Some-clause-fits c = λ pairs is of.
    let far : is_some c.args.relation.now.far ≡ false = first_of (search rules, grind arith) in
    let partner : partner_of c.args.mapping.now c.args.relation.now ≡ Some c.in-Some.link.now = first_of (search rules, grind arith) in
    let known = partner_of_many c.args.mapping.now (object_at c.args.arena.now c.args.owner).class (object_at c.args.arena.now c.args.member).class c.args.place.0 c.args.relation.now c.in-Some.link.now pairs is.at is.many of partner in
    c.links_set.ensures.fits pairs (record { at = known.0; one = known.2 far }) known.3
