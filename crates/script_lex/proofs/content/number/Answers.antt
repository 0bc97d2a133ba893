use Rattle.std.proofs.Common.{◌-◌, ◌^◌, ◌∙◌, arith}
use Rattle.script_lex.proofs.Capped.{capped_step}
use Rattle.script_lex.proofs.content.number.Goals as goal

pub loop-b-preserved : goal.loop-b-preserved
loop-b-preserved c = record {
  fits = omega arith;
  value = capped_step (2 ^ 64 - 1) c.loop-b.b-index c.loop-b.n c.with_digit-n.result c.args.digits.now c.loop-b-test.true c.with_digit-n.ensures ∙ c.loop-b.invariant.value;
}
