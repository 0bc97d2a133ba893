use Rattle.std.proofs.Common.{◌≡◌, ◌++◌, map, drop}
use Rattle.graph_flushed.specs.Keys.{key_if_new}
use Rattle.graph_flushed.proofs.keys.RowKeys.all.Given as goal

abbrev pub invariant-loop-object : goal.invariant-loop-object
invariant-loop-object l =
    l.all.items ++ map (key_if_new l.mapping l.arena l.prepared l.self.changes.now l.self.keys.now) (drop l.object-index l.object-items)
    ≡ map (key_if_new l.mapping l.arena l.prepared l.self.changes.now l.self.keys.now) l.object-items
