use Rattle.std.proofs.Common.{None, Some, Bool, ap, inr, refl, subst, sym, ◌∙◌}
use Rattle.session_objects.proofs.Acting.{memory_done}
use Rattle.session_objects.specs.Taking.{AreOnce, outsiders}
use Rattle.session_links.specs.Linking.{coming_if}
use Rattle.session_loads.specs.Asking.{asked_fault}
use Rattle.session_loads.proofs.AskLemmas.{asked_told, not_linked}
use Rattle.session_loads.proofs.asking.ask_change.Goals as goal

pub returns-in_err-change : goal.returns-in_err-change
returns-in_err-change c = not_linked c.args.session.now c.args.owner c.args.place c.args.call _ c.from_residual.result c.in_err-change.ensures.change c.from_residual.ensures.1

pub returns-in_err-objects : goal.returns-in_err-objects
returns-in_err-objects c =
    memory_done (asked_fault c.args.owner c.args.place c.args.call c.args.session.now) c.args.session.now c.args.session.now c.args.session.now c.from_residual-in_err-objects.result c.from_residual-in_err-objects.ensures.1

pub conflict_fault-requires : goal.conflict_fault-requires
conflict_fault-requires c = record { once = subst (AreOnce c.args.session.now.graph) (sym c.as_slice.ensures) c.in_ok-objects.ensures.once }

pub returns-in-Some : goal.returns-in-Some
returns-in-Some c =
    let own = c.args.session.now in
    inr (
      asked_told own c.args.owner c.args.place c.args.call c.in_ok-change.change c.as_slice.result.now (Some c.in-Some.fault) c.in_ok-change.ensures.change c.in-Some.ensures.graph
          (c.as_slice.ensures ∙ c.in_ok-objects.ensures.objects ∙ ap (λ (b : Bool). outsiders own.graph (coming_if b own c.args.owner c.args.place c.args.call)) c.is_some.ensures) c.in-Some.ensures.fault,
      refl,
      c.in-Some.ensures.own,
    )

pub returns : goal.returns
returns c =
    let own = c.args.session.now in (
      asked_told own c.args.owner c.args.place c.args.call c.in_ok-change.change c.as_slice.result.now None c.in_ok-change.ensures.change c.in-None.ensures.graph
          (c.as_slice.ensures ∙ c.in_ok-objects.ensures.objects ∙ ap (λ (b : Bool). outsiders own.graph (coming_if b own c.args.owner c.args.place c.args.call)) c.is_some.ensures) c.in-None.ensures.fault,
      refl,
    )
