use Rattle.std.proofs.Common.{◌≡◌, map, take}
use Rattle.std.specs.List.{All}
use Rattle.class_mapping.specs.Mapped.{IsClass}
use Rattle.session_scopes.specs.SessionState.{IsMadeOf}
use Rattle.session_perform.specs.Performing.{with_class}
use Rattle.session_perform.proofs.links.with_classes.Given as goal

-- the objects so far, with their classes
abbrev pub invariant-loop-member : goal.invariant-loop-member
invariant-loop-member l = record {
  all : l.all ≡ map (with_class l.session.graph) (take l.member-index l.members);
  made : All (λ one. IsMadeOf l.session.graph one.0 one.1) l.all;
  declared : All (λ one. IsClass l.session.mapping one.1) l.all;
}
