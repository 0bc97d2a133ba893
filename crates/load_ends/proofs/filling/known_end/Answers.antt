use Rattle.std.proofs.Common.{◌≡◌, ◌∙◌, true, None, Some, Option, ap, sym, subst, refl}
use Rattle.base_core.specs.declared.ids.ClassId.{ClassId}
use Rattle.schema_core.specs.Tables.{has_null}
use Rattle.class_mapping.specs.Mapped.{root_of}
use Rattle.object_arena.specs.Fit.{end_fits}
use Rattle.object_arena.specs.Graph.{object_at, root_at}
use Rattle.object_arena.specs.Identity.{find_identity, holds}
use Rattle.load_targets.proofs.EndLemmas.{known_of}
use Rattle.load_ends.proofs.EndSteps.{end_found, end_null}
use Rattle.load_ends.proofs.filling.known_end.Goals as goal

pub returns-then-has_null-clause-end : goal.returns-then-has_null-clause-end
returns-then-has_null-clause-end c = end_null c.args.mapping.now c.args.class c.args.arena.now c.args.key.now (ap has_null (sym c.as_slice.ensures) ∙ sym c.has_null.ensures ∙ c.if-has_null.true)

pub returns-in-Some-clause-end : goal.returns-in-Some-clause-end
returns-in-Some-clause-end c =
    end_found c.args.mapping.now c.args.class c.args.arena.now c.args.key.now (Some c.in-Some.found) c.if_of.result (ap has_null (sym c.as_slice.ensures) ∙ sym c.has_null.ensures ∙ c.if-has_null.false)
    (ap (λ (root : ClassId). find_identity c.args.arena.now root c.args.key.now) (sym c.root_of.ensures.class) ∙ sym c.find_identity.ensures.found ∙ c.in-Some.is) c.if_of.ensures

pub returns-in-Some-clause-of : goal.returns-in-Some-clause-of
returns-in-Some-clause-of c =
    ap (end_fits c.args.arena.now.roots (root_of c.args.mapping.now c.args.class)) c.if_of.ensures
    ∙ known_of c.args.mapping.now c.args.arena.now c.args.class c.args.key.now c.in-Some.found c.requires.fit c.in-Some.ensures.made
    (subst (λ (root : ClassId). holds root c.args.key.now (object_at c.args.arena.now c.in-Some.found, root_at c.args.arena.now c.in-Some.found) ≡ true) c.root_of.ensures.class c.in-Some.ensures.holds)

pub returns-in-None-clause-end : goal.returns-in-None-clause-end
returns-in-None-clause-end c =
    end_found c.args.mapping.now c.args.class c.args.arena.now c.args.key.now None None (ap has_null (sym c.as_slice.ensures) ∙ sym c.has_null.ensures ∙ c.if-has_null.false)
    (ap (λ (root : ClassId). find_identity c.args.arena.now root c.args.key.now) (sym c.root_of.ensures.class) ∙ sym c.find_identity.ensures.found ∙ c.in-None.is) refl
