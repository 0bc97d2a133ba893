use Rattle.std.proofs.Common.{ap, ◌∙◌}
use Rattle.session_calls.proofs.Joining.{same_more}
use Rattle.session_parts.proofs.ObjectLemmas.{on_ok}
use Rattle.session_links.specs.Linking.{session_put}
use Rattle.session_links.proofs.PutLemmas.{fits_there, placed_later, relinked_more}
use Rattle.session_links.proofs.putting.put_change.Goals as goal

pub put_link-requires-clause-placed : goal.put_link-requires-clause-placed
put_link-requires-clause-placed c = placed_later c.args.session.now.graph c.put_orphan.new.session.graph c.args.change.left c.in_ok-put_orphan.ensures.relinked c.requires.placed.left

pub put_link-requires-clause-fits : goal.put_link-requires-clause-fits
put_link-requires-clause-fits c = fits_there c.args.session.now c.put_orphan.new.session c.args.change.left c.put_orphan.ensures.same c.requires.placed.left c.requires.fits.left

pub put_link-requires-2-clause-placed : goal.put_link-requires-2-clause-placed
put_link-requires-2-clause-placed c =
    placed_later c.args.session.now.graph c.put_link.new.session.graph c.args.change.joined (relinked_more c.in_ok-put_orphan.ensures.relinked c.in_ok-put_link.ensures.relinked) c.requires.placed.joined

pub put_link-requires-2-clause-fits : goal.put_link-requires-2-clause-fits
put_link-requires-2-clause-fits c =
    fits_there c.args.session.now c.put_link.new.session c.args.change.joined (same_more c.put_orphan.ensures.same c.put_link.ensures.same) c.requires.placed.joined c.requires.fits.joined

pub put_link-requires-3-clause-placed : goal.put_link-requires-3-clause-placed
put_link-requires-3-clause-placed c =
    placed_later c.args.session.now.graph c.put_link-2.new.session.graph c.args.change.own
    (relinked_more (relinked_more c.in_ok-put_orphan.ensures.relinked c.in_ok-put_link.ensures.relinked) c.in_ok-put_link-2.ensures.relinked) c.requires.placed.own

pub put_link-requires-3-clause-fits : goal.put_link-requires-3-clause-fits
put_link-requires-3-clause-fits c =
    fits_there c.args.session.now c.put_link-2.new.session c.args.change.own
    (same_more (same_more c.put_orphan.ensures.same c.put_link.ensures.same) c.put_link-2.ensures.same) c.requires.placed.own c.requires.fits.own

pub returns-in_err-put_link-clause-same : goal.returns-in_err-put_link-clause-same
returns-in_err-put_link-clause-same c = same_more c.put_orphan.ensures.same c.put_link.ensures.same

pub returns-in_err-put_link-2-clause-same : goal.returns-in_err-put_link-2-clause-same
returns-in_err-put_link-2-clause-same c = same_more (same_more c.put_orphan.ensures.same c.put_link.ensures.same) c.put_link-2.ensures.same

pub returns-clause-same : goal.returns-clause-same
returns-clause-same c = same_more (same_more (same_more c.put_orphan.ensures.same c.put_link.ensures.same) c.put_link-2.ensures.same) c.put_link-3.ensures.same

pub returns-clause-ok : goal.returns-clause-ok
returns-clause-ok c =
    on_ok c.put_link-3.result
    (λ own. own
    ∙ ap (session_put c.args.change.own) (c.in_ok-put_link-2.ensures.ok
    ∙ ap (session_put c.args.change.joined) (c.in_ok-put_link.ensures.ok
    ∙ ap (session_put c.args.change.left) c.in_ok-put_orphan.ensures.ok)))
    c.put_link-3.ensures.ok

pub returns-clause-relinked : goal.returns-clause-relinked
returns-clause-relinked c =
    on_ok c.put_link-3.result
    (λ last. relinked_more (relinked_more (relinked_more c.in_ok-put_orphan.ensures.relinked c.in_ok-put_link.ensures.relinked) c.in_ok-put_link-2.ensures.relinked) last)
    c.put_link-3.ensures.relinked
