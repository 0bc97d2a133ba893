use Rattle.std.proofs.Common.{sym, ap, subst, ◌∙◌}
use Rattle.object_arena.specs.Graph.{Graph}
use Rattle.object_arena.specs.Identity.{IsGraph}
use Rattle.session_objects.specs.Conflicts.{has_conflict}
use Rattle.session_objects.specs.Taking.{AreMade}
use Rattle.session_objects.proofs.JoiningLemmas.{may_come, once_made}
use Rattle.session_objects.proofs.conflicts.conflict_fault.Goals as goal

pub has_conflict-requires : goal.has_conflict-requires
has_conflict-requires c = subst (λ (g : Graph). AreMade g c.args.objects.now) (sym c.arena-arena.ensures.objects) (once_made c.args.session.now.graph c.args.objects.now c.requires.once)

pub returns-then-has_conflict-clause-graph : goal.returns-then-has_conflict-clause-graph
returns-then-has_conflict-clause-graph c = subst (λ (g : Graph). IsGraph g.objects g.roots) c.arena-arena.ensures.objects c.count-count.ensures.graph

pub returns-clause-graph : goal.returns-clause-graph
returns-clause-graph c = subst (λ (g : Graph). IsGraph g.objects g.roots) c.arena-arena.ensures.objects c.count-count.ensures.graph

pub returns-clause-free : goal.returns-clause-free
returns-clause-free c = λ none.
    may_come c.args.session.now.graph c.args.objects.now
    (subst (λ (g : Graph). IsGraph g.objects g.roots) c.arena-arena.ensures.objects c.count-count.ensures.graph)
    (ap (λ (g : Graph). has_conflict g c.args.objects.now) (sym c.arena-arena.ensures.objects) ∙ sym c.has_conflict.ensures ∙ c.if-has_conflict.false) c.requires.once
