use Rattle.std.proofs.Common.{ap, ◌∙◌}
use Rattle.object_arena.specs.declared.object.Object.{Object}
use Rattle.object_arena.specs.Graph.{object_at}
use Rattle.session_scopes.specs.Changes.{is_kept_cell}
use Rattle.session_scopes.specs.SessionState.{SessionState}
use Rattle.session_scopes.proofs.session.Session.is_kept.Goals as goal

pub returns-clause-kept : goal.returns-clause-kept
returns-clause-kept c =
    c.is_of_kept_key.ensures
    ∙ ap (λ (o : Object). is_kept_cell c.self.inside.mapping o c.args.attr) c.object.ensures.is
    ∙ ap (λ (s : SessionState). is_kept_cell s.mapping (object_at c.args.self.now.graph c.args.object) c.args.attr) c.self.view_is
