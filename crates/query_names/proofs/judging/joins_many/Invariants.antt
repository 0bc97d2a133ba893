use Rattle.std.proofs.Common.{◌≡◌, drop}
use Rattle.std.specs.List.{list_any}
use Rattle.object_arena.specs.Fit.{relation_of}
use Rattle.query_names.proofs.judging.joins_many.Given as goal

abbrev pub invariant-loop-place : goal.invariant-loop-place
invariant-loop-place l = list_any (λ place. (relation_of l.mapping l.class place).many) (drop l.place-index l.places) ≡ list_any (λ place. (relation_of l.mapping l.class place).many) l.places
