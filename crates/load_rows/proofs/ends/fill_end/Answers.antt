use Rattle.std.proofs.Common.{◌∙◌, sym}
use Rattle.object_arena.specs.Fit.{relation_of}
use Rattle.object_arena.specs.Graph.{object_at}
use Rattle.load_rows.proofs.LinkLemmas.{end_link_fits}
use Rattle.load_rows.proofs.ends.fill_end.Goals as goal

pub returns-clause-fits : goal.returns-clause-fits
returns-clause-fits c =
    c.put_link.ensures.keeps.fits c.args.mapping.now
    (end_link_fits c.args.mapping.now c.args.arena.now (relation_of c.args.mapping.now (object_at c.args.arena.now c.args.owner).class c.args.place) c.args.end c.link_at.result.now c.in-Some.link
    c.requires.one c.requires.end (sym c.end_of.ensures ∙ c.in-Some.is)) c.requires.fit
