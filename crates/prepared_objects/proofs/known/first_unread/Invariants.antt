use Rattle.std.proofs.Common.{◌≡◌, drop}
use Rattle.std.specs.Prelude.{find, not}
use Rattle.prepared_objects.specs.Known.{is_read}
use Rattle.prepared_objects.proofs.known.first_unread.Given as goal

abbrev pub invariant-loop-object : goal.invariant-loop-object
invariant-loop-object l = find (λ object. not (is_read l.mapping l.arena object)) (drop l.object-index l.objects) ≡ find (λ object. not (is_read l.mapping l.arena object)) l.objects
