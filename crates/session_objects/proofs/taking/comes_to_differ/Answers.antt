use Rattle.std.proofs.Common.{refl}
use Rattle.object_arena.specs.declared.object.State.TheVariants.{Pending, Persistent, Deleted}
use Rattle.session_objects.proofs.TakingLemmas.{detached_differs, stays_alike, transient_differs}
use Rattle.session_objects.proofs.taking.comes_to_differ.Goals as goal

pub returns-in-Transient : goal.returns-in-Transient
returns-in-Transient c = λ number. transient_differs c.args.object.now number c.in-Transient.is

pub returns-in-Detached : goal.returns-in-Detached
returns-in-Detached c = λ number. detached_differs c.args.object.now number c.in-Detached.is

pub returns-in-Pending : goal.returns-in-Pending
returns-in-Pending c = λ number. stays_alike c.args.object.now number Pending c.in-Pending.is refl

pub returns-in-Persistent : goal.returns-in-Persistent
returns-in-Persistent c = λ number. stays_alike c.args.object.now number Persistent c.in-Persistent.is refl

pub returns-in-Deleted : goal.returns-in-Deleted
returns-in-Deleted c = λ number. stays_alike c.args.object.now number Deleted c.in-Deleted.is refl
