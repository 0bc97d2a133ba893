use Rattle.std.proofs.Common.{IfOk, false, true, not, subst, sym}
use Rattle.base_core.specs.declared.ids.RelNo.{RelNo}
use Rattle.sql_semantics.specs.Checked.{Checked}
use Rattle.command_names.specs.Attributes.{IsMember, IsRelation}
use Rattle.command_names.proofs.Named.{not_true, unless_wrong}
use Rattle.command_names.proofs.members.as_link.Goals as goal

pub returns-in-One-clause-exists : goal.returns-in-One-clause-exists
returns-in-One-clause-exists c = λ mapped class is.
    subst (λ (r : Checked RelNo). IfOk r (λ relation. IsRelation mapped class relation c.args.many)) (sym c.unless.ensures.relation)
    (unless_wrong mapped class c.in-One.relation false c.args.many c.args.many (λ h. sym h) (subst (IsMember mapped class) c.in-One.is is))

pub returns-in-Many-clause-exists : goal.returns-in-Many-clause-exists
returns-in-Many-clause-exists c = λ mapped class is.
    subst (λ (r : Checked RelNo). IfOk r (λ relation. IsRelation mapped class relation c.args.many)) (sym c.unless-in-Many.ensures.relation)
    (unless_wrong mapped class c.in-Many.relation true c.args.many (not c.args.many) (not_true c.args.many) (subst (IsMember mapped class) c.in-Many.is is))
