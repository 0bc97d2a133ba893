use Rattle.std.proofs.Common.{◌≡◌, true, subst}
use Rattle.class_mapping.specs.Configured.{IsConfigured}
use Rattle.class_mapping.specs.Mapped.{Mapped}
use Rattle.class_mapping.proofs.mapping.Mapping.schema.Goals as goal

pub returns-clause-configured : goal.returns-clause-configured
returns-clause-configured c = subst IsConfigured c.self.view_is c.self.invariant.configured

pub returns-clause-resolved : goal.returns-clause-resolved
returns-clause-resolved c = subst (λ (m : Mapped). m.schema.resolved ≡ true) c.self.view_is c.self.invariant.configured.resolved
