use Rattle.std.proofs.Common.{◌≡◌, ◌∙◌, ◌<◌, ap, sym, subst, length, ℕ}
use Rattle.class_mapping.specs.Mapped.{relations_of}
use Rattle.object_arena.specs.declared.object.Object.{Object}
use Rattle.load_rows.proofs.LinkLemmas.{own_link_fits}
use Rattle.load_rows.proofs.collections.has_link.Goals as goal

pub returns-clause-link : goal.returns-clause-link
returns-clause-link c =
    subst (λ (n : ℕ). c.args.place.0 < n)
    (sym (ap (λ (o : Object). length o.links) (sym c.object.ensures.is) ∙ (c.object.ensures.fits c.args.mapping.now c.requires.fit).links ∙ ap (λ (o : Object). length (relations_of c.args.mapping.now o.class)) c.object.ensures.is))
    c.requires.place

pub returns-clause-fits : goal.returns-clause-fits
returns-clause-fits c =
    own_link_fits c.args.mapping.now c.args.arena.now c.args.object c.object.result.now c.args.place c.object.ensures.is c.requires.place (c.object.ensures.links c.args.mapping.now c.requires.fit)
