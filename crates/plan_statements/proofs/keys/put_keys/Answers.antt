use Rattle.std.proofs.Common.{ℕ, get_or, sym, ◌∙◌}
use Rattle.std.proofs.lemmas.List.{get_or_default}
use Rattle.plan_statements.proofs.KeyLemmas.{put_more, put_short}
use Rattle.plan_statements.proofs.keys.put_keys.Goals as goal

pub returns-in-None-clause-keys : goal.returns-in-None-clause-keys
returns-in-None-clause-keys c = λ keys are.
    put_short keys c.args.places.now c.args.answered.now c.loop-number.known c.loop-number.number (sym c.in-None.ensures) (c.loop-number.invariant.1 keys are)

pub loop-number-preserved : goal.loop-number-preserved
loop-number-preserved c =
    let place : ℕ = get_or c.args.places.now c.loop-number.number 0 in (
      c.in_ok-put_key-in-Some.ensures.long ∙ c.loop-number.invariant.0,
      λ keys are.
          put_more keys c.args.places.now c.args.answered.now c.loop-number.known c.put_key.new.known c.loop-number.number place c.in-Some.key.now c.loop-number-test.true
          (get_or_default c.args.places.now c.loop-number.number 0 place c.loop-number-test.true) (sym c.in-Some.ensures) c.in_ok-put_key-in-Some.ensures.keys (c.loop-number.invariant.1 keys are),
    )
