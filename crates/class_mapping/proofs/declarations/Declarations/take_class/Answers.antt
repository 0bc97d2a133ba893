use Rattle.std.proofs.Common.{◌<◌, length, ap, subst, sym}
use Rattle.class_layouts.specs.declared.classes.Classes.{Classes}
use Rattle.class_mapping.specs.Configured.{AreDeclared}
use Rattle.class_mapping.specs.Mapped.{Mapped}
use Rattle.class_mapping.proofs.LineLemmas.{lines_class}
use Rattle.class_mapping.proofs.MappingLemmas.{few_more, lined_more, orphans_more, taken_is}
use Rattle.class_mapping.proofs.PlainClassLemmas.{alone_more, over_more}
use Rattle.class_mapping.proofs.declarations.Declarations.take_class.Goals as goal

pub invariant_of-self-2 : goal.invariant_of-self-2
invariant_of-self-2 g c =
    let less : length c.self.inside.classes.specs < 4294967295 = rw (ap (λ (m : Mapped). m.classes) c.self.view_is) c.requires.room in
    let new = taken_is _ c.self.inside.classes c.args.spec c.declare.new.classes c.in_ok-declare.ensures in
    record {
      few = few_more c.self.inside.classes c.args.spec c.declare.new.classes new less;
      lined = lined_more c.self.inside.classes c.args.spec c.declare.new.classes new c.self.invariant.lined;
      lines = lines_class _ c.self.inside.schema.tables c.self.inside.classes c.args.spec c.declare.new.classes c.in_ok-declare.ensures c.self.invariant.lined c.self.invariant.lines;
      alone = alone_more c.self.inside.classes c.args.spec c.declare.new.classes new c.self.invariant.alone;
      over = over_more _ c.self.inside.schema.tables c.self.inside.classes c.args.spec c.declare.new.classes c.in_ok-declare.ensures c.self.invariant.over;
      orphans = orphans_more _ c.self.inside.schema.tables c.self.inside.classes c.args.spec c.declare.new.classes c.in_ok-declare.ensures c.self.invariant.orphans;
    }

pub invariant_of-self : goal.invariant_of-self
invariant_of-self g c =
    subst (λ (classes : Classes). AreDeclared c.self.inside.schema classes)
    (sym c.in_err-declare.ensures.0) c.self.invariant
