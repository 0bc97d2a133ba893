use Rattle.std.proofs.Common.{◌≡◌, true, List, subst, sym}
use Rattle.std.specs.List.{All}
use Rattle.base_core.specs.declared.ids.ClassId.{ClassId}
use Rattle.class_mapping.specs.Mapped.{root_of}
use Rattle.object_arena.specs.Fit.{is_of_root}
use Rattle.load_rows.specs.Loading.{loading}
use Rattle.load_queries.proofs.AnswerSteps.{answers_all, taken_filled}
use Rattle.load_queries.proofs.FillSteps.{still_said}
use Rattle.load_queries.proofs.joined.fill_taken.Goals as goal

pub fill_owners-requires-clause-of : goal.fill_owners-requires-clause-of
fill_owners-requires-clause-of c =
    subst (All (λ object. is_of_root c.args.arena.now.roots (root_of c.args.mapping.now c.args.class) object ≡ true)) (sym c.as_slice.ensures)
    (answers_all c.args.mapping.now c.args.arena.now.roots c.args.class c.args.parts.now c.args.taken.now c.in_ok-objects.objects c.in_ok-objects.ensures c.requires.taken)

pub returns-clause-step : goal.returns-clause-step
returns-clause-step c =
    taken_filled c.args.mapping.now c.args.class c.args.parts.now c.args.taken.now c.in_ok-objects.objects c.as_slice.result.now (loading c.args.arena.now c.args.notes.now) (loading c.fill_owners.new.arena c.fill_owners.new.notes)
    c.in_ok-objects.ensures c.as_slice.ensures c.in_ok-fill_owners.ensures.step

pub returns-clause-of : goal.returns-clause-of
returns-clause-of c =
    still_said (λ (roots : List ClassId). All (λ object. is_of_root roots (root_of c.args.mapping.now c.args.class) object ≡ true) c.in_ok-objects.objects) c.args.arena.now c.fill_owners.new.arena c.in_ok-fill_owners.ensures.classes
    (answers_all c.args.mapping.now c.args.arena.now.roots c.args.class c.args.parts.now c.args.taken.now c.in_ok-objects.objects c.in_ok-objects.ensures c.requires.taken)
