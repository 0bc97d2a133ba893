use Rattle.std.proofs.Common.{List, length, ap, ◌∙◌, subst, sym}
use Rattle.base_core.specs.declared.ids.ClassId.{ClassId}
use Rattle.session_calls.proofs.Joining.{same_more}
use Rattle.session_parts.proofs.ObjectLemmas.{on_ok}
use Rattle.session_objects.specs.Taking.{session_joined}
use Rattle.session_objects.proofs.JoiningLemmas.{come_still, may_join}
use Rattle.session_scopes.specs.SessionState.{SessionState}
use Rattle.session_links.specs.Relinked.{IsRelinked}
use Rattle.session_links.proofs.PutLemmas.{stand_alike}
use Rattle.session_links.proofs.changing.put_all.Goals as goal

pub take_all-requires : goal.take_all-requires
take_all-requires c =
    let relinked = c.in_ok-put_change.ensures.relinked in
    may_join c.args.objects.now c.put_change.new.session
    (ap (λ (roots : List ClassId). length roots) relinked.roots ∙ c.requires.rooted ∙ sym relinked.places.objects)
    (come_still c.args.session.now.graph c.put_change.new.session.graph c.args.objects.now (stand_alike c.args.session.now.graph c.put_change.new.session.graph relinked) c.requires.free)

pub returns-clause-ok : goal.returns-clause-ok
returns-clause-ok c = on_ok c.take_all.result (λ joined. joined ∙ ap (session_joined c.args.objects.now) c.in_ok-put_change.ensures.ok) c.take_all.ensures.ok

pub returns-clause-relinked : goal.returns-clause-relinked
returns-clause-relinked c =
    on_ok c.take_all.result (λ joined. subst (IsRelinked c.args.session.now.graph) (ap (λ (s : SessionState). s.graph) c.in_ok-put_change.ensures.ok) c.in_ok-put_change.ensures.relinked) c.take_all.ensures.ok

pub returns-clause-same : goal.returns-clause-same
returns-clause-same c = same_more c.put_change.ensures.same c.take_all.ensures.same

pub returns-clause-scopes : goal.returns-clause-scopes
returns-clause-scopes c = c.take_all.ensures.scopes ∙ c.put_change.ensures.scopes
