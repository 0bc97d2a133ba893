use Rattle.std.proofs.Common.{ap, subst, ◌∙◌}
use Rattle.relations.specs.declared.calls.LinkCall.{LinkCall}
use Rattle.relations.specs.Calls.{end_of, is_of_collection}
use Rattle.relations.specs.Fits.{IsEndOf}
use Rattle.relations.proofs.calls.links_by.Goals as goal

pub returns-in-Set-clause-fits : goal.returns-in-Set-clause-fits
returns-in-Set-clause-fits c = λ pairs at many of.
    c.links_set.ensures.fits pairs (record { at = at; one = many ∙ ap is_of_collection c.in-Set.is })
    (subst (λ (call : LinkCall). IsEndOf c.args.arena.now c.args.mapping.now c.args.relation.now.target (end_of call)) c.in-Set.is of)

pub returns-in-Append-clause-fits : goal.returns-in-Append-clause-fits
returns-in-Append-clause-fits c = λ pairs at many of.
    c.links_appended.ensures.fits pairs (record { at = at; many = many ∙ ap is_of_collection c.in-Append.is })
    (subst (λ (call : LinkCall). IsEndOf c.args.arena.now c.args.mapping.now c.args.relation.now.target (end_of call)) c.in-Append.is of)

pub returns-in-Remove-clause-fits : goal.returns-in-Remove-clause-fits
returns-in-Remove-clause-fits c = λ pairs at many of.
    c.links_removed.ensures.fits c.args.mapping.now pairs c.requires.fit (record { at = at; many = many ∙ ap is_of_collection c.in-Remove.is })
    (subst (λ (call : LinkCall). IsEndOf c.args.arena.now c.args.mapping.now c.args.relation.now.target (end_of call)) c.in-Remove.is of)
