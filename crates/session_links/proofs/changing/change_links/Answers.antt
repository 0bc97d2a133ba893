use Rattle.std.proofs.Common.{None, Some, ap, inr, ◌∙◌, refl, subst, sym, Bool}
use Rattle.object_arena.specs.Graph.{IsObject}
use Rattle.session_calls.proofs.Joining.{same_itself}
use Rattle.session_objects.specs.Taking.{AreOnce, outsiders}
use Rattle.session_objects.proofs.Acting.{memory_done}
use Rattle.session_links.specs.Linking.{change_fault, coming_if, session_changed, session_linked}
use Rattle.session_links.proofs.Acting.{changed_as, child_made, fault_told}
use Rattle.session_links.proofs.PutLemmas.{stay_inside}
use Rattle.session_links.proofs.changing.change_links.Goals as goal

pub returns-in_err-objects-clause-done : goal.returns-in_err-objects-clause-done
returns-in_err-objects-clause-done c =
    memory_done (change_fault c.args.owner c.args.relation c.args.call c.args.session.now) (session_changed c.args.owner c.args.relation c.args.call c.args.session.now) c.args.session.now c.args.session.now c.from_residual.result c.from_residual.ensures.1

pub returns-in_err-objects-clause-same : goal.returns-in_err-objects-clause-same
returns-in_err-objects-clause-same c = same_itself c.args.session.now

pub conflict_fault-requires : goal.conflict_fault-requires
conflict_fault-requires c = record { once = subst (AreOnce c.args.session.now.graph) (sym c.as_slice-coming.ensures) c.in_ok-objects.ensures.once }

pub returns-in-Some-clause-done : goal.returns-in-Some-clause-done
returns-in-Some-clause-done c =
    inr (
      fault_told c.args.session.now c.args.owner c.args.relation c.args.call c.args.change c.as_slice-coming.result.now (Some c.in-Some.fault) c.requires.change c.in-Some.ensures.graph
          (c.as_slice-coming.ensures ∙ c.in_ok-objects.ensures.objects ∙ ap (λ (b : Bool). outsiders c.args.session.now.graph (coming_if b c.args.session.now c.args.owner c.args.relation c.args.call)) c.is_some.ensures)
          c.in-Some.ensures.fault,
      refl,
      c.in-Some.ensures.own,
    )

pub returns-in-Some-clause-same : goal.returns-in-Some-clause-same
returns-in-Some-clause-same c = same_itself c.args.session.now

pub put_all-requires-clause-child : goal.put_all-requires-clause-child
put_all-requires-clause-child c = subst (IsObject c.args.session.now.graph) (sym c.child.ensures) (child_made c.args.session.now.graph c.args.owner c.args.call c.requires.owner c.requires.end)

pub put_all-requires-clause-free : goal.put_all-requires-clause-free
put_all-requires-clause-free c = c.in-None.ensures.free refl

pub returns-in_ok-put_all-in-None-clause-done : goal.returns-in_ok-put_all-in-None-clause-done
returns-in_ok-put_all-in-None-clause-done c =
    let own = c.args.session.now in
    let coming = c.as_slice-coming.ensures ∙ c.in_ok-objects.ensures.objects ∙ ap (λ (b : Bool). outsiders own.graph (coming_if b own c.args.owner c.args.relation c.args.call)) c.is_some.ensures in (
      fault_told own c.args.owner c.args.relation c.args.call c.args.change c.as_slice-coming.result.now None c.requires.change c.in-None.ensures.graph coming c.in-None.ensures.fault,
      changed_as c.args.owner c.args.relation c.args.call c.args.change c.as_slice-coming.result.now c.child.result own c.put_all.new.session c.requires.change
          (stay_inside own.graph (session_linked c.child.result c.args.change own).graph c.in_ok-put_all-in-None.ensures.relinked) coming c.child.ensures c.in_ok-put_all-in-None.ensures.ok,
    )
