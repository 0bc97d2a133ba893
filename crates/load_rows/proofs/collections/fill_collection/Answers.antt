use Rattle.std.proofs.Common.{◌≡◌, ◌∙◌, ap, sym}
use Rattle.class_mapping.specs.Mapped.{root_of}
use Rattle.object_arena.specs.Fit.{link_fits, relation_of}
use Rattle.object_arena.specs.Graph.{object_at}
use Rattle.load_rows.proofs.LinkLemmas.{are_made, collection_fits}
use Rattle.load_rows.proofs.collections.fill_collection.Goals as goal

pub in_key_order-requires : goal.in_key_order-requires
in_key_order-requires c =
    are_made c.args.mapping.now c.args.arena.now (root_of c.args.mapping.now (relation_of c.args.mapping.now (object_at c.args.arena.now c.args.owner).class c.args.place).target) c.args.read.now c.requires.fit c.requires.read

pub returns-clause-fits : goal.returns-clause-fits
returns-clause-fits c =
    c.put_link.ensures.keeps.fits c.args.mapping.now
    (collection_fits c.args.mapping.now c.args.arena.now (relation_of c.args.mapping.now (object_at c.args.arena.now c.args.owner).class c.args.place) c.args.read.now c.in_ok-ordered.ordered c.link_at.result.now c.in-Some.link
    c.requires.many
    (ap (link_fits c.args.mapping.now c.args.arena.now.roots (relation_of c.args.mapping.now (object_at c.args.arena.now c.args.owner).class c.args.place)) c.link_at.ensures ∙ c.has_link.ensures.fits)
    c.requires.read c.in_ok-ordered.ensures (sym c.in-Some.is ∙ c.in_ok-link.ensures)) c.requires.fit
