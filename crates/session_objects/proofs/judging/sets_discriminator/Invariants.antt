use Rattle.std.proofs.Common.{◌≡◌, drop}
use Rattle.std.specs.List.{list_any}
use Rattle.session_objects.specs.Judging.{is_discriminator}
use Rattle.session_objects.proofs.judging.sets_discriminator.Given as goal

abbrev pub invariant-loop-one : goal.invariant-loop-one
invariant-loop-one l = list_any (λ one. is_discriminator l.mapping l.class one.0) (drop l.one-index l.given) ≡ list_any (λ one. is_discriminator l.mapping l.class one.0) l.given
