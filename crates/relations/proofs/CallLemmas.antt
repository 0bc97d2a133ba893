-- Which links change by a call, put together of its parts.
use Rattle.std.proofs.Common.{◌≡◌, Option, None, Result, sym, subst}
use Rattle.base_core.specs.Answers.{Gives}
use Rattle.base_core.specs.declared.ids.ObjId.{ObjId}
use Rattle.base_core.specs.declared.refusal.Refusal.{Refusal}
use Rattle.class_types.specs.declared.mapped.Relation.{Relation}
use Rattle.class_mapping.specs.Mapped.{Mapped}
use Rattle.object_arena.specs.Graph.{Graph}
use Rattle.relations.specs.Calls.{no_change, unless_fault}
use Rattle.relations.specs.Fits.{ChangeFits}
use Rattle.relations.specs.Mirror.{end_fault}
use Rattle.relations.specs.Places.{IsPlaced}
use Rattle.relations.specs.declared.change.Change.{Change}

-- a change that is told fits where that one does
pub fits_by : (mapped : Mapped) (graph : Graph) (change told : Change) → change ≡ told → ChangeFits mapped graph told → ChangeFits mapped graph change
fits_by mapped graph change told same fits = subst (ChangeFits mapped graph) (sym same) fits

-- where no link changes all fit
pub none_fits : (mapped : Mapped) (graph : Graph) (change : Change) → change ≡ no_change → ChangeFits mapped graph change
none_fits mapped graph change is = subst (ChangeFits mapped graph) (sym is) (record { left = tt; joined = tt; own = tt })

pub none_placed : (graph : Graph) (change : Change) → change ≡ no_change → IsPlaced graph change
none_placed graph change is = subst (IsPlaced graph) (sym is) (record { left = tt; joined = tt; own = tt })

-- the answer of a call whose ends are not refused
pub through_fault : (graph : Graph) (mapped : Mapped) (owner : ObjId) (end : Option ObjId) (relation found : Relation) (next : Relation → Result Change Refusal) (r : Result Change Refusal) → relation ≡ found → end_fault graph mapped owner found.target end ≡ None
    → Gives (λ change. change) r (next found) → Gives (λ change. change) r (unless_fault (end_fault graph mapped owner relation.target end) (next relation))
through_fault graph mapped owner end relation found next r same none step = rw same (rw none step)
