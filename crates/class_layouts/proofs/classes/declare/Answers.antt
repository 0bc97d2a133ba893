use Rattle.class_layouts.proofs.DeclareLemmas.{declare_ok, declare_err}
use Rattle.class_layouts.proofs.classes.declare.Goals as goal

pub returns-in-Ok-None : goal.returns-in-Ok-None
returns-in-Ok-None g c =
    declare_ok _ c.args.schema.now.tables c.args.classes.now c.args.spec c.in_ok-line.line c.push_class.new.classes c.len-count.result
    c.requires c.in_ok-line.ensures c.in_ok-push_class.ensures.ok c.len-count.ensures (rw c.in-Ok-None.field-0-is at c.in-Ok-None.ensures)

pub returns-in-Ok-Some : goal.returns-in-Ok-Some
returns-in-Ok-Some g c =
    declare_err _ c.args.schema.now.tables c.args.classes.now c.args.spec c.in_ok-line.line c.push_class.new.classes c.pop_class.new.classes c.len-count.result c.in-Ok-Some.fault
    c.requires c.in_ok-line.ensures c.in_ok-push_class.ensures.ok c.pop_class.ensures c.len-count.ensures (rw c.in-Ok-Some.field-0-is at c.in-Ok-Some.ensures)
