use Rattle.std.proofs.Common.{ℕ, ◌<◌, ◌≤◌, ◌∙◌, length, subst, sym}
use Rattle.object_records.proofs.TouchSteps.{touched_all, touched_more}
use Rattle.object_records.proofs.touches.touch_all.Goals as goal

pub loop-number-preserved : goal.loop-number-preserved
loop-number-preserved c =
    let less : c.loop-number.number < length c.args.arena.now.objects = subst (λ (n : ℕ). c.loop-number.number < n) c.count-number-end.ensures.count c.loop-number-test.true in
    let within : c.loop-number.number < length c.args.records.now = subst (λ (n : ℕ). c.loop-number.number < n) (sym c.requires) less in (
      touched_more c.args.arena.now c.args.records.now c.args.frames.now c.loop-number.frames c.touch_for.new.frames c.loop-number.number c.index-records-number.result less c.index-records-number.is within c.loop-number.invariant.0 c.in_ok-touch_for.ensures.ok,
      c.touch_for.ensures.scopes ∙ c.loop-number.invariant.1,
    )

pub returns-clause-ok : goal.returns-clause-ok
returns-clause-ok c =
    touched_all c.args.arena.now c.args.records.now c.args.frames.now c.loop-number.frames c.loop-number.number
    (subst (λ (n : ℕ). n ≤ c.loop-number.number) c.count-number-end.ensures.count c.loop-number-test.false) c.loop-number.invariant.0
