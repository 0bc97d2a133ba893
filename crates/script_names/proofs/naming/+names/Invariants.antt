use Rattle.std.proofs.Common.{◌≡◌, ◌+◌, ◌*◌, ◌++◌, max, map, drop}
use Rattle.script_types.specs.declared.expression.Syn.{size-Syn}
use Rattle.script_names.specs.Naming.{faults_in, name_faults, named_expression, said_in}
use Rattle.script_names.proofs.naming.+names.Given as goal

-- what was taken has no fault, and the rest is said behind it
abbrev pub invariant-all-loop-operand : goal.invariant-all-loop-operand
invariant-all-loop-operand l = record {
  said : l.named ++ said_in l.scope (map (named_expression l.schema) (drop l.operand-index l.operands)) ≡ said_in l.scope (map (named_expression l.schema) l.operands);
  rest : faults_in l.scope (map (name_faults l.schema) (drop l.operand-index l.operands)) ≡ faults_in l.scope (map (name_faults l.schema) l.operands);
}

abbrev pub decreases-expression_named : goal.decreases-expression_named
decreases-expression_named l = 4 * goal.size-expression_named l

abbrev pub decreases-one : goal.decreases-one
decreases-one l = 4 * goal.size-one l + 1

abbrev pub decreases-two : goal.decreases-two
decreases-two l = 4 * max (size-Syn l.a.now) (size-Syn l.b.now) + 2

abbrev pub decreases-three : goal.decreases-three
decreases-three l = 4 * max (size-Syn l.a.now) (max (size-Syn l.b.now) (size-Syn l.c.now)) + 3

abbrev pub decreases-all : goal.decreases-all
decreases-all l = 4 * goal.size-all l + 1

abbrev pub decreases-exists : goal.decreases-exists
decreases-exists l = 4 * goal.size-exists l + 2
