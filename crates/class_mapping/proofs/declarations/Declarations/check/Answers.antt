use Rattle.std.proofs.Common.{◌≡◌, ◌∙◌, false, None, Ok, Result, ap, subst, sym, arith}
use Rattle.std.proofs.lemmas.Grind.{common_steps}
use Rattle.base_core.specs.declared.refusal.Refusal.{Refusal}
use Rattle.schema_core.specs.Declaration.{has_targets}
use Rattle.class_mapping.specs.Declaring.{configure}
use Rattle.class_mapping.specs.Mapped.{Mapped}
use Rattle.class_mapping.proofs.ConfiguredLemmas.{configured_by, declared_still, laid_by}
use Rattle.class_mapping.proofs.MappingLemmas.{refused_by_targets}
use Rattle.class_mapping.proofs.declarations.Declarations.check.Goals as goal

pub returns-then-not-has_targets-clause-refusal : goal.returns-then-not-has_targets-clause-refusal
returns-then-not-has_targets-clause-refusal c =
    let none : c.has_targets.result ≡ false = grind (arith, common_steps) in
    refused_by_targets c.args.self.now (ap (λ (mapped : Mapped). has_targets mapped.schema.tables) (sym c.self.view_is) ∙ sym c.has_targets.ensures ∙ none)

pub invariant_of-self-2 : goal.invariant_of-self-2
invariant_of-self-2 c = declared_still c.self.inside.schema c.resolve.new.self c.self.inside.classes c.in_ok-resolve.ensures.step c.self.invariant

pub returns-clause-mapping : goal.returns-clause-mapping
returns-clause-mapping c =
    let none : c.in_ok-found.found.fault ≡ None = grind (arith, common_steps) in
    subst (λ (m : Mapped). let r : Result Mapped Refusal = Ok (record { schema = c.resolve.new.self; classes = c.self.inside.classes }) in configure m ≡ r) c.self.view_is
    (configured_by c.self.inside.schema c.resolve.new.self c.self.inside.classes c.in_ok-found.found.fault c.in_ok-resolve.ensures.step c.in_ok-found.ensures.fault none)

pub returns-clause-laid : goal.returns-clause-laid
returns-clause-laid c =
    let none : c.in_ok-found.found.fault ≡ None = grind (arith, common_steps) in
    laid_by c.self.inside.schema c.resolve.new.self c.self.inside.classes c.in_ok-found.found.fault
    c.in_ok-found.found.layouts c.in_ok-found.found.relations c.in_ok-found.found.validators
    c.self.invariant c.in_ok-resolve.ensures.step c.declared_one_by_one.ensures c.in_ok-found.ensures.fault none
    c.in_ok-found.ensures.layouts c.in_ok-found.ensures.relations c.in_ok-found.ensures.validators
