-- The objects that rows with joined parts answer.
use Rattle.std.specs.Prelude.{List, map}
use Rattle.base_core.specs.declared.ids.ObjId.{ObjId}
use Rattle.object_parts.specs.declared.answers.Taken.{Taken}
use Rattle.object_parts.specs.Lists.{firsts}

-- the objects that rows give, each where it comes first
abbrev pub answered : List Taken → List ObjId
answered taken = firsts (map (λ one. one.owner) taken)
