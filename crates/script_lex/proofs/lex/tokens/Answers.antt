use Rattle.std.proofs.Common.{arith, rules, length-drop}
use Rattle.script_lex.proofs.TokensGo.{tokens_found}
use Rattle.script_lex.proofs.lex.tokens.Goals as goal

pub loop-rest-preserved : goal.loop-rest-preserved
loop-rest-preserved c = record {
  tokens = tokens_found c.loop-rest.found.items c.push.new.self.items _ c.loop-rest.at c.in_ok-token.len c.loop-rest.rest.now c.behind-rest.result.now c.in_ok-token.token
      c.in_ok-token.ensures.value c.loop-rest.invariant.tokens c.in_ok-push.ensures.items (omega arith) (search rules) (search rules)
      c.in_ok-token.ensures.within.0 c.in_ok-token.ensures.within.1 c.behind-rest.ensures;
  place = rw c.behind-rest.ensures (omega (arith, length-drop c.in_ok-token.len c.loop-rest.rest.now, c.in_ok-token.ensures.within, c.loop-rest.invariant.place));
}
