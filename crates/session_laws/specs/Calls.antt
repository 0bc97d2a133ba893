-- What the coming in of objects keeps.
use Rattle.base_core.specs.declared.ids.ObjId.{ObjId}
use Rattle.session_calls.specs.Parts.{World}
use Rattle.session_objects.specs.Steps.{add}
use Rattle.session_objects.specs.Taking.{AreOnce, coming_objects}
use Rattle.session_laws.specs.Sound.{IsSound}

-- the coming in of an object keeps a sound session sound, where those that come in with it have been made
abbrev pub ComingInKeepsSound : Type 0
ComingInKeepsSound =
    (object : ObjId) (world : World) → AreOnce world.own.graph (coming_objects world.own.mapping world.own.graph object) → IsSound world → IsSound (add object world).after
