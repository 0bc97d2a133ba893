use Rattle.std.proofs.Common.{◌≡◌, Some, arith, rules, subst, sym}
use Rattle.std.specs.Prelude.{slice_get}
use Rattle.object_arena.specs.declared.object.Link.TheVariants.{Many, One}
use Rattle.object_arena.specs.Fit.{IsFit}
use Rattle.object_arena.specs.Graph.{Graph}
use Rattle.session_links.specs.declared.reading.Related.TheVariants as told
use Rattle.session_links.specs.Reading.{AreToldMade}
use Rattle.session_links.proofs.ReadLemmas.{end_told, members_told}
use Rattle.session_loads.proofs.links.related_in.Goals as goal

pub returns-in-Some-One-clause-made : goal.returns-in-Some-One-clause-made
returns-in-Some-One-clause-made c =
    let found : slice_get c.object-record.result.now.links c.args.place.0 ≡ Some (One c.in-Some-One.end c.in-Some-One.field-0-1) = first_of (search rules, grind arith) in
    subst (λ (g : Graph). AreToldMade g (told.One c.in-Some-One.end)) c.arena.ensures.objects
    (end_told c.args.session.now.mapping c.arena.result.now c.object-record.result.now c.args.place.0 c.in-Some-One.end c.in-Some-One.field-0-1 (subst (λ (g : Graph). IsFit c.args.session.now.mapping g) (sym c.arena.ensures.objects) c.arena.ensures.fit)
    (c.object-record.ensures.links c.args.session.now.mapping (subst (λ (g : Graph). IsFit c.args.session.now.mapping g) (sym c.arena.ensures.objects) c.arena.ensures.fit)) found)

pub returns-in_ok-copied-in-Some-Many-clause-made : goal.returns-in_ok-copied-in-Some-Many-clause-made
returns-in_ok-copied-in-Some-Many-clause-made c =
    let found : slice_get c.object-record.result.now.links c.args.place.0 ≡ Some (Many c.in-Some-Many.members c.in-Some-Many.field-0-1) = first_of (search rules, grind arith) in
    subst (λ (g : Graph). AreToldMade g (told.Many c.in_ok-copied-in-Some-Many.field-0)) c.arena.ensures.objects
    (members_told c.args.session.now.mapping c.arena.result.now c.object-record.result.now c.args.place.0 c.in-Some-Many.members c.in-Some-Many.field-0-1 c.in_ok-copied-in-Some-Many.field-0
    (subst (λ (g : Graph). IsFit c.args.session.now.mapping g) (sym c.arena.ensures.objects) c.arena.ensures.fit)
    (c.object-record.ensures.links c.args.session.now.mapping (subst (λ (g : Graph). IsFit c.args.session.now.mapping g) (sym c.arena.ensures.objects) c.arena.ensures.fit)) found c.in_ok-copied-in-Some-Many.ensures)
