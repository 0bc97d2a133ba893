use Rattle.std.proofs.Common.{ap}
use Rattle.class_mapping.specs.Mapped.{Mapped}
use Rattle.class_mapping.specs.Declaring.{with_table}
use Rattle.class_mapping.proofs.LineLemmas.{lines_table}
use Rattle.class_mapping.proofs.PlainClassLemmas.{over_table, table_taken}
use Rattle.class_mapping.proofs.declarations.Declarations.declare_table.Goals as goal

pub invariant_of-self-2 : goal.invariant_of-self-2
invariant_of-self-2 c = record {
  few = c.self.invariant.few;
  lined = c.self.invariant.lined;
  lines = lines_table c.self.inside.schema c.args.spec c.in_ok-table.table c.declare_table.new.self c.self.inside.classes c.in_ok-table.ensures.step c.self.invariant.lines;
  alone = c.self.invariant.alone;
  over = over_table c.self.inside.schema c.args.spec c.in_ok-table.table c.declare_table.new.self c.self.inside.classes.specs c.in_ok-table.ensures.step c.self.invariant.over;
  orphans = c.self.invariant.orphans;
}

pub returns-clause-taken : goal.returns-clause-taken
returns-clause-taken c =
    rw (table_taken c.self.inside.schema c.args.spec c.in_ok-table.table c.declare_table.new.self c.in_ok-table.ensures.step)
    (ap (λ (m : Mapped). with_table m c.args.spec) c.self.view_is)
