use Rattle.std.proofs.Common.{◌≡◌, length, drop}
use Rattle.std.specs.List.{list_any, range_with_len}
use Rattle.class_mapping.specs.Mapped.{relations_of}
use Rattle.object_rows.specs.Late.{is_late, is_late_by}
use Rattle.object_rows.proofs.late.is_late.Given as goal

abbrev pub invariant-loop-class : goal.invariant-loop-class
invariant-loop-class l =
    list_any (λ class. list_any (is_late_by l.table l.number) (relations_of l.mapping (record { 0 = class }))) (drop l.class (range_with_len 0 (length l.mapping.classes.specs)))
    ≡ is_late l.mapping l.table l.number
