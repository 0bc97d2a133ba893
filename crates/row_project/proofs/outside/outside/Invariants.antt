use Rattle.std.proofs.Common.{◌≡◌, [], fold, not, drop}
use Rattle.std.specs.List.{filter}
use Rattle.std.specs.BTreeSet.{insert_key}
use Rattle.object_rows.specs.Seen.{is_in_session}
use Rattle.row_project.specs.Warnings.{object_cmp}
use Rattle.row_project.proofs.outside.outside.Given as goal

abbrev pub invariant-loop-object : goal.invariant-loop-object
invariant-loop-object l =
    fold (insert_key object_cmp) l.set.keys (filter (λ object. not (is_in_session l.arena l.prepared object)) (drop l.object-index l.objects))
    ≡ fold (insert_key object_cmp) [] (filter (λ object. not (is_in_session l.arena l.prepared object)) l.objects)
