-- The calls on links, as programs of the store and of the session beside it.
use Rattle.base_core.specs.declared.ids.ObjId.{ObjId}
use Rattle.base_core.specs.declared.ids.RelNo.{RelNo}
use Rattle.keeper_core.specs.Programs.{Run, ◌>>=◌}
use Rattle.keeper_core.specs.Beside.{changes}
use Rattle.relations.specs.declared.calls.LinkCall.{LinkCall}
use Rattle.session_calls.specs.Parts.{World, checked}
use Rattle.session_calls.specs.Steps.{enter}
use Rattle.session_links.specs.Linking.{change_fault, session_changed}

-- what is done in the transaction
abbrev pub change_inside : ObjId → RelNo → LinkCall → World → Run World (Unit {0})
change_inside owner place call = checked (change_fault owner place call) >>= λ u. changes (session_changed owner place call)

-- a many-to-one link is set, or a collection appended to or removed from
unfoldable pub change_link : ObjId → RelNo → LinkCall → World → Run World (Unit {0})
change_link owner place call = enter >>= λ u. change_inside owner place call
