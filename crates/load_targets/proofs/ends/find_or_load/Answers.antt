use Rattle.std.proofs.Common.{◌≡◌, ◌∙◌, true, ap, sym, subst, refl}
use Rattle.base_core.specs.declared.ids.ClassId.{ClassId}
use Rattle.schema_core.specs.Tables.{has_null}
use Rattle.class_mapping.specs.Mapped.{root_of}
use Rattle.object_arena.specs.Fit.{end_fits}
use Rattle.object_arena.specs.Graph.{object_at, root_at}
use Rattle.object_arena.specs.Identity.{find_identity, holds}
use Rattle.load_filling.proofs.LoadedLemmas.{grows_same}
use Rattle.load_targets.proofs.EndLemmas.{known_end, known_of, null_key, read_end}
use Rattle.load_targets.proofs.ends.find_or_load.Goals as goal

pub returns-then-has_null-clause-step : goal.returns-then-has_null-clause-step
returns-then-has_null-clause-step g c =
    null_key g.K.Keeper.moment c.args.mapping.now c.args.class c.args.key.now (ap has_null (sym c.as_slice.ensures) ∙ sym c.has_null.ensures ∙ c.if-has_null.true)

pub returns-then-has_null-clause-grows : goal.returns-then-has_null-clause-grows
returns-then-has_null-clause-grows g c = grows_same c.args.arena.now c.args.arena.now refl

pub returns-in-Some-clause-step : goal.returns-in-Some-clause-step
returns-in-Some-clause-step g c =
    known_end g.K.Keeper.moment c.args.mapping.now c.args.class c.args.key.now c.args.arena.now c.in-Some.found c.if_of.result
    (ap has_null (sym c.as_slice.ensures) ∙ sym c.has_null.ensures ∙ c.if-has_null.false)
    (ap (λ (root : ClassId). find_identity c.args.arena.now root c.args.key.now) (sym c.root_of.ensures.class) ∙ sym c.find_identity.ensures.found ∙ c.in-Some.is) c.if_of.ensures

pub returns-in-Some-clause-of : goal.returns-in-Some-clause-of
returns-in-Some-clause-of g c =
    ap (end_fits c.args.arena.now.roots (root_of c.args.mapping.now c.args.class)) c.if_of.ensures
    ∙ known_of c.args.mapping.now c.args.arena.now c.args.class c.args.key.now c.in-Some.found c.requires.fit c.in-Some.ensures.made
    (subst (λ (root : ClassId). holds root c.args.key.now (object_at c.args.arena.now c.in-Some.found, root_at c.args.arena.now c.in-Some.found) ≡ true) c.root_of.ensures.class c.in-Some.ensures.holds)

pub returns-in-Some-clause-grows : goal.returns-in-Some-clause-grows
returns-in-Some-clause-grows g c = grows_same c.args.arena.now c.args.arena.now refl

pub returns-in-None-clause-step : goal.returns-in-None-clause-step
returns-in-None-clause-step g c =
    read_end g.K.Keeper.moment c.args.mapping.now c.args.class c.args.key.now c.args.arena.now
    (ap has_null (sym c.as_slice.ensures) ∙ sym c.has_null.ensures ∙ c.if-has_null.false)
    (ap (λ (root : ClassId). find_identity c.args.arena.now root c.args.key.now) (sym c.root_of.ensures.class) ∙ sym c.find_identity.ensures.found ∙ c.in-None.is) c.load_key.ensures.step
