-- The expiry of an object.
use Rattle.std.specs.Prelude.{Bool, true, false}
use Rattle.object_arena.specs.declared.object.Object.{Object}
use Rattle.object_arena.specs.Graph.{expired_object}

-- the object, where that is asked for as one of which nothing is known
abbrev pub expired_if : Bool → Object → Object
expired_if true object = expired_object object
expired_if false object = object
