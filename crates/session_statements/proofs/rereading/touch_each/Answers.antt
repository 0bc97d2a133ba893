use Rattle.std.proofs.Common.{ℕ, ◌+◌, ◌<◌, ◌≤◌, ◌∙◌, length, refl, subst}
use Rattle.session_statements.specs.Rewriting.{reread_of}
use Rattle.session_statements.proofs.Turns.{touched_all, touched_more}
use Rattle.session_statements.proofs.rereading.touch_each.Goals as goal

pub loop-number-preserved : goal.loop-number-preserved
loop-number-preserved c =
    let less : c.loop-number.number < length c.args.arena.now.objects = subst (λ (n : ℕ). c.loop-number.number < n) c.count-number-end.ensures.count c.loop-number-test.true in (
      touched_more (reread_of c.args.mapping.now c.args.table) c.args.arena.now c.args.frames.now c.loop-number.frames c.touch_one.new.frames c.loop-number.number (c.loop-number.number + 1) less refl c.loop-number.invariant.0 c.in_ok-touch_one.ensures.ok,
      c.touch_one.ensures.scopes ∙ c.loop-number.invariant.1,
    )

pub returns-clause-ok : goal.returns-clause-ok
returns-clause-ok c =
    touched_all (reread_of c.args.mapping.now c.args.table) c.args.arena.now c.args.frames.now c.loop-number.frames c.loop-number.number
    (subst (λ (n : ℕ). n ≤ c.loop-number.number) c.count-number-end.ensures.count c.loop-number-test.false) c.loop-number.invariant.0
