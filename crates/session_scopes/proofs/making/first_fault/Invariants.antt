use Rattle.std.proofs.Common.{◌≡◌, drop}
use Rattle.session_scopes.specs.Making.{first_given_fault}
use Rattle.session_scopes.proofs.making.first_fault.Given as goal

abbrev pub invariant-loop-attr : goal.invariant-loop-attr
invariant-loop-attr l = first_given_fault l.mapping l.class (drop l.attr-index l.given) ≡ first_given_fault l.mapping l.class l.given
