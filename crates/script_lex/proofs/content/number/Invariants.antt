use Rattle.std.proofs.Common.{◌≡◌, ◌-◌, ◌^◌, ◌≤◌, min, drop}
use Rattle.script_lex.specs.Content.{digits_value}
use Rattle.script_lex.proofs.content.number.Given as goal

abbrev pub invariant-loop-b : goal.invariant-loop-b
invariant-loop-b l = record {
  fits : l.n ≤ 2 ^ 64 - 1;
  value : min (digits_value l.n (drop l.b-index l.digits)) (2 ^ 64 - 1) ≡ min (digits_value 0 l.digits) (2 ^ 64 - 1);
}
