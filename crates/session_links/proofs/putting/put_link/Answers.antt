use Rattle.std.proofs.Common.{sym, ap, subst}
use Rattle.session_parts.proofs.ObjectLemmas.{on_ok}
use Rattle.session_scopes.specs.SessionState.{SessionState}
use Rattle.relations.specs.Places.{IsPutIn}
use Rattle.session_links.specs.Relinked.{IsRelinked}
use Rattle.session_links.proofs.PutLemmas.{relinked_put, relinked_same}
use Rattle.session_links.proofs.putting.put_link.Goals as goal

pub returns-in-None-clause-relinked : goal.returns-in-None-clause-relinked
returns-in-None-clause-relinked c = relinked_same c.args.session.now.graph

pub returns-in-Some-clause-relinked : goal.returns-in-Some-clause-relinked
returns-in-Some-clause-relinked c =
    on_ok c.step.result
    (λ put. subst (IsRelinked c.args.session.now.graph) (sym (ap (λ (s : SessionState). s.graph) put)) (relinked_put c.args.session.now.graph c.in-Some.put (subst (IsPutIn c.args.session.now.graph) c.in-Some.is c.requires.placed).0))
    c.step.ensures.ok
