use Rattle.std.proofs.Common.{None, Some, inr, refl, sym, subst, ◌∙◌}
use Rattle.session_objects.specs.Conflicts.{add_fault}
use Rattle.session_objects.specs.Taking.{AreOnce, session_added}
use Rattle.session_objects.proofs.Acting.{added_as, fault_here, memory_done}
use Rattle.session_objects.proofs.adding.add_inside.Goals as goal

pub returns-in_err-objects-clause-done : goal.returns-in_err-objects-clause-done
returns-in_err-objects-clause-done c =
    memory_done (add_fault c.args.object c.args.session.now) (session_added c.args.object c.args.session.now) c.args.session.now c.args.session.now c.from_residual.result c.from_residual.ensures.1

pub add_fault-requires-clause-once : goal.add_fault-requires-clause-once
add_fault-requires-clause-once c = subst (AreOnce c.args.session.now.graph) (sym c.as_slice-coming.ensures) c.in_ok-objects.ensures.once

pub returns-in-Some-clause-done : goal.returns-in-Some-clause-done
returns-in-Some-clause-done c =
    inr (
      fault_here c.args.object c.as_slice-coming.result.now c.args.session.now (Some c.in-Some.fault) c.in-Some.ensures.graph (c.as_slice-coming.ensures ∙ c.in_ok-objects.ensures.objects) c.in-Some.ensures.fault,
      refl,
      c.in-Some.ensures.own,
    )

pub take_in-requires-clause-free : goal.take_in-requires-clause-free
take_in-requires-clause-free c = c.in-None.ensures.free refl

pub returns-clause-done : goal.returns-clause-done
returns-clause-done c =
    let coming = c.as_slice-coming.ensures ∙ c.in_ok-objects.ensures.objects in (
      fault_here c.args.object c.as_slice-coming.result.now c.args.session.now None c.in-None.ensures.graph coming c.in-None.ensures.fault,
      added_as c.args.object c.as_slice-coming.result.now c.args.session.now c.take_in.new.session coming c.in_ok-take_in-in-None.ensures.ok,
    )
