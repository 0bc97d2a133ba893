use Rattle.std.proofs.Common.{ℕ, ◌<◌, ◌≤◌, ◌∙◌, ◌+◌, length, refl, ap, subst, sym}
use Rattle.base_core.specs.declared.ids.ObjId.{ObjId}
use Rattle.object_arena.specs.Graph.{object_at, with_object}
use Rattle.object_arena.proofs.ClassLemmas.{classes_long}
use Rattle.object_arena.proofs.KeepLemmas.{keeps_then}
use Rattle.object_arena.proofs.TurnLemmas.{placed_all, placed_more}
use Rattle.object_records.specs.Way.{aside}
use Rattle.object_records.proofs.StateSteps.{aside_at}
use Rattle.object_records.proofs.states.step_aside.Goals as goal

pub loop-number-preserved : goal.loop-number-preserved
loop-number-preserved c =
    let object : ObjId = record { 0 = c.loop-number.number + 1 } in
    let less : c.loop-number.number < length c.args.arena.now.objects = subst (λ (n : ℕ). c.loop-number.number < n) c.count-number-end.ensures.count c.loop-number-test.true in
    let within : c.loop-number.number < length c.args.records.now = subst (λ (n : ℕ). c.loop-number.number < n) (sym c.requires) less in (
      placed_more (aside c.args.records.now) c.args.arena.now c.loop-number.arena c.step_for.new.arena c.loop-number.number (c.loop-number.number + 1) less c.loop-number.invariant.0 refl
          (c.step_for.ensures.aside ∙ ap (with_object c.loop-number.arena object) (aside_at c.args.records.now c.loop-number.number c.index-records-number.result (object_at c.loop-number.arena object) c.index-records-number.is within)),
      classes_long c.loop-number.arena c.step_for.new.arena c.step_for.ensures.keeps.classes ∙ c.loop-number.invariant.1,
      keeps_then c.args.arena.now c.loop-number.arena c.step_for.new.arena c.loop-number.invariant.2 c.step_for.ensures.keeps,
    )

pub returns-clause-aside : goal.returns-clause-aside
returns-clause-aside c =
    placed_all (aside c.args.records.now) c.args.arena.now c.loop-number.arena c.loop-number.number
    (subst (λ (n : ℕ). n ≤ c.loop-number.number) c.count-number-end.ensures.count c.loop-number-test.false) c.loop-number.invariant.0
