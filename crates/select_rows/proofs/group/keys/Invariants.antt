use Rattle.std.proofs.Common.{◌≡◌, [], drop, map}
use Rattle.sql_semantics.specs.Rows as spec
use Rattle.query_steps.specs.Seen.{HasSeen}
use Rattle.select_rows.proofs.group.keys.Given as goal

abbrev pub invariant-loop-keyed : goal.invariant-loop-keyed
invariant-loop-keyed l = record {
  left : spec.firsts_from l.keys.items (map (λ k. k.0) (drop l.keyed-index l.all)) ≡ spec.firsts_from [] (map (λ k. k.0) l.all);
  seen : HasSeen l.seen l.keys.items;
}
