use Rattle.std.proofs.Common.{◌∙◌, ℕ, List, ap}
use Rattle.std.specs.Prelude.{slice_get}
use Rattle.class_mapping.specs.Mapped.{Mapped, validators_or_none, validators_of}
use Rattle.class_mapping.proofs.mapping.Mapping.validators.Goals as goal

pub returns-in-Some : goal.returns-in-Some
returns-in-Some c =
    c.as_slice.ensures ∙ ap validators_or_none c.in-Some.ensures
    ∙ ap (λ (kept : List (List (List ℕ × List ℕ))). validators_or_none (slice_get kept c.args.class.0)) c.self.invariant.validated
    ∙ ap (λ (m : Mapped). validators_of m c.args.class) c.self.view_is

pub returns-in-None : goal.returns-in-None
returns-in-None c =
    ap validators_or_none c.in-None.ensures
    ∙ ap (λ (kept : List (List (List ℕ × List ℕ))). validators_or_none (slice_get kept c.args.class.0)) c.self.invariant.validated
    ∙ ap (λ (m : Mapped). validators_of m c.args.class) c.self.view_is
