use Rattle.std.proofs.Common.{◌≡◌, map, take}
use Rattle.load_targets.specs.ForeignKeys.{attr_named}
use Rattle.load_targets.proofs.keys.foreign_attrs.Given as goal

abbrev pub invariant-loop-name : goal.invariant-loop-name
invariant-loop-name l = l.attrs ≡ map (attr_named l.attributes l.relation.foreign.0) (take l.name-index l.names)
