use Rattle.std.proofs.Common.{◌≡◌, false, take}
use Rattle.std.specs.List.{list_any}
use Rattle.class_mapping.specs.Mapped.{key_attributes}
use Rattle.object_arena.specs.Graph.{object_at}
use Rattle.session_loads.specs.Asking.{is_expired_in}
use Rattle.session_loads.proofs.asking.is_key_expired.Given as goal

abbrev pub invariant-loop-attr : goal.invariant-loop-attr
invariant-loop-attr l =
    list_any (λ attr. is_expired_in l.object attr l.session) (take l.attr-index (key_attributes l.session.mapping (object_at l.session.graph l.object).class)) ≡ false
