use Rattle.std.proofs.Common.{None, Some, ap, ◌∙◌}
use Rattle.object_arena.specs.Graph.{Graph}
use Rattle.object_arena.specs.Identity.{find_identity}
use Rattle.base_core.specs.declared.ids.ClassId.{ClassId}
use Rattle.class_mapping.specs.Mapped.{Mapped, root_of}
use Rattle.session_loads.specs.Refusals.{IsRefusedCells, IsRefusedRows, IsRefusedWriting, no_fault}
use Rattle.session_loads.proofs.FindLemmas.{found_at, found_by}
use Rattle.session_loads.proofs.RefusedLemmas.{finding_by, thens_here}
use Rattle.session_loads.proofs.getting.find_by_key.Goals as goal

pub answer_found-requires : goal.answer_found-requires
answer_found-requires g c =
    let held = found_at c.arena.result.now c.args.session.now.graph c.root_of-root.result c.args.key.now c.in-Some.object c.arena.ensures.objects c.in-Some.ensures.made c.in-Some.ensures.holds in
    record { in_step = c.requires.in_step; inside = c.requires.inside; object = held.0; persistent = held.1 }

pub returns-in-Some-clause-call : goal.returns-in-Some-clause-call
returns-in-Some-clause-call g c =
    found_by g.K.Keeper.moment c.args.class c.args.key.now (Some c.in-Some.object)
    (c.in-Some.ensures.found ∙ ap (λ (a : Graph). find_identity a c.root_of-root.result c.args.key.now) c.arena.ensures.objects
    ∙ ap (λ (r : ClassId). find_identity c.args.session.now.graph r c.args.key.now) (c.root_of-root.ensures.class ∙ ap (λ (m : Mapped). root_of m c.args.class) c.mapping.ensures))
    c.answer_found.ensures.call

pub returns-in-None-clause-call : goal.returns-in-None-clause-call
returns-in-None-clause-call g c =
    found_by g.K.Keeper.moment c.args.class c.args.key.now None
    (c.in-None.ensures.found ∙ ap (λ (a : Graph). find_identity a c.root_of-root.result c.args.key.now) c.arena.ensures.objects
    ∙ ap (λ (r : ClassId). find_identity c.args.session.now.graph r c.args.key.now) (c.root_of-root.ensures.class ∙ ap (λ (m : Mapped). root_of m c.args.class) c.mapping.ensures))
    c.read_lacking.ensures.call

pub returns-in-Some-clause-refused : goal.returns-in-Some-clause-refused
returns-in-Some-clause-refused g c =
    finding_by c.args.class c.args.key.now (Some c.in-Some.object) c.args.session.now c.answer_found.new.session (g.K.Keeper.moment c.args.keeper.now) (g.K.Keeper.moment c.answer_found.new.keeper) c.answer_found.result
    (c.in-Some.ensures.found ∙ ap (λ (a : Graph). find_identity a c.root_of-root.result c.args.key.now) c.arena.ensures.objects
    ∙ ap (λ (r : ClassId). find_identity c.args.session.now.graph r c.args.key.now) (c.root_of-root.ensures.class ∙ ap (λ (m : Mapped). root_of m c.args.class) c.mapping.ensures))
    (thens_here (IsRefusedCells c.in-Some.object) None c.args.session.now c.answer_found.new.session (g.K.Keeper.moment c.args.keeper.now) (g.K.Keeper.moment c.answer_found.new.keeper) c.answer_found.result c.answer_found.ensures.refused)

pub returns-in-None-clause-refused : goal.returns-in-None-clause-refused
returns-in-None-clause-refused g c =
    finding_by c.args.class c.args.key.now None c.args.session.now c.read_lacking.new.session (g.K.Keeper.moment c.args.keeper.now) (g.K.Keeper.moment c.read_lacking.new.keeper) c.read_lacking.result
    (c.in-None.ensures.found ∙ ap (λ (a : Graph). find_identity a c.root_of-root.result c.args.key.now) c.arena.ensures.objects
    ∙ ap (λ (r : ClassId). find_identity c.args.session.now.graph r c.args.key.now) (c.root_of-root.ensures.class ∙ ap (λ (m : Mapped). root_of m c.args.class) c.mapping.ensures))
    (thens_here (IsRefusedWriting no_fault IsRefusedRows) None c.args.session.now c.read_lacking.new.session (g.K.Keeper.moment c.args.keeper.now) (g.K.Keeper.moment c.read_lacking.new.keeper) c.read_lacking.result c.read_lacking.ensures.refused)
