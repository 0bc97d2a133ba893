use Rattle.std.proofs.Common.{Err, List, Ok, ap, map, refl, subst, sym, ◌∙◌}
use Rattle.base_core.specs.declared.ids.AttrNo.{AttrNo}
use Rattle.class_mapping.specs.Mapped.{root_of}
use Rattle.keeper_core.proofs.Sequence.{no_memory, passed_on}
use Rattle.load_filling.proofs.LoadedLemmas.{grows_same}
use Rattle.load_filling.specs.Rows.{value_in}
use Rattle.load_rows.specs.Loading.{loading}
use Rattle.load_rows.specs.Reading.{IsRowOf}
use Rattle.load_calls.proofs.ReadLemmas.{passed_memory, passed_refusal}
use Rattle.load_calls.specs.Refusals.{CanRefuseRow}
use Rattle.load_calls.proofs.RefusalLemmas.{row_refuses}
use Rattle.load_calls.proofs.RowsLemmas.{more_of}
use Rattle.load_batches.specs.Batches.{objects_in}
use Rattle.load_batches.proofs.MemberSteps.{member_refused, member_taken, objects_pushed, values_behind}
use Rattle.base_core.specs.declared.refusal.Refusal.TheVariants.{Memory}
use Rattle.load_batches.proofs.members.take_member.Goals as goal

pub returns-in_err-owner-clause-step : goal.returns-in_err-owner-clause-step
returns-in_err-owner-clause-step c = passed_on c.from_residual.ensures.1 no_memory

pub returns-in_err-owner-clause-grows : goal.returns-in_err-owner-clause-grows
returns-in_err-owner-clause-grows c = grows_same c.args.arena.now c.args.arena.now refl

pub take_row-requires-clause-row : goal.take_row-requires-clause-row
take_row-requires-clause-row c =
    subst (IsRowOf c.args.mapping.now c.args.relation.now.target)
    (sym (values_behind c.args.mapping.now c.args.relation.now c.args.row.now c.rest_from-values.result.now c.args.width c.requires.width c.rest_from-values.ensures)) c.requires.row

pub returns-in_err-object-clause-step : goal.returns-in_err-object-clause-step
returns-in_err-object-clause-step c =
    passed_on c.from_residual-in_err-object.ensures.1
    (member_refused (λ (u : Unit {0}). c.args.members.now) c.args.mapping.now c.args.relation.now c.args.row.now c.rest_from-values.result.now c.args.members.now (loading c.args.arena.now c.args.notes.now)
    (loading c.take_row.new.arena c.take_row.new.notes) _ (values_behind c.args.mapping.now c.args.relation.now c.args.row.now c.rest_from-values.result.now c.args.width c.requires.width c.rest_from-values.ensures) c.in_err-object.ensures.step)

pub returns-clause-step : goal.returns-clause-step
returns-clause-step c =
    member_taken c.args.mapping.now c.args.relation.now c.args.row.now c.rest_from-values.result.now c.args.members.now c.push.new.self (loading c.args.arena.now c.args.notes.now) (loading c.take_row.new.arena c.take_row.new.notes) c.in_ok-object.object c.in_ok-owner.owner _
    (values_behind c.args.mapping.now c.args.relation.now c.args.row.now c.rest_from-values.result.now c.args.width c.requires.width c.rest_from-values.ensures)
    (c.in_ok-owner.ensures ∙ ap (λ (places : List AttrNo). map (value_in c.args.row.now) places) c.requires.places) c.in_ok-object.ensures.step c.in_ok-push.ensures.ok tt

pub returns-in_err-push-clause-step : goal.returns-in_err-push-clause-step
returns-in_err-push-clause-step c =
    passed_on c.from_residual-in_err-push.ensures.1
    (member_taken c.args.mapping.now c.args.relation.now c.args.row.now c.rest_from-values.result.now c.args.members.now c.push.new.self (loading c.args.arena.now c.args.notes.now) (loading c.take_row.new.arena c.take_row.new.notes) c.in_ok-object.object c.in_ok-owner.owner (Err Memory)
    (values_behind c.args.mapping.now c.args.relation.now c.args.row.now c.rest_from-values.result.now c.args.width c.requires.width c.rest_from-values.ensures)
    (c.in_ok-owner.ensures ∙ ap (λ (places : List AttrNo). map (value_in c.args.row.now) places) c.requires.places) c.in_ok-object.ensures.step tt refl)

pub returns-clause-of : goal.returns-clause-of
returns-clause-of c = λ all.
    more_of c.args.mapping.now c.args.arena.now c.take_row.new.arena (root_of c.args.mapping.now c.args.relation.now.target) (objects_in c.args.members.now) (objects_in c.push.new.self) c.in_ok-object.object (Ok tt)
    c.in_ok-object.ensures.grows c.in_ok-object.ensures.fits c.in_ok-object.ensures.exists c.in_ok-object.ensures.rooted
    (objects_pushed c.args.members.now c.push.new.self c.in_ok-owner.owner c.in_ok-object.object (Ok tt) c.in_ok-push.ensures.ok) all

pub returns-in_err-owner-clause-refuses : goal.returns-in_err-owner-clause-refuses
returns-in_err-owner-clause-refuses c = passed_memory (CanRefuseRow c.args.mapping.now c.args.arena.now) c.from_residual.result c.from_residual.ensures.1 tt

pub returns-in_err-object-clause-refuses : goal.returns-in_err-object-clause-refuses
returns-in_err-object-clause-refuses c =
    passed_refusal (CanRefuseRow c.args.mapping.now c.take_row.new.arena) _ c.from_residual-in_err-object.result c.from_residual-in_err-object.ensures.1
    (row_refuses c.args.mapping.now c.args.relation.now.target c.rest_from-values.result.now (loading c.args.arena.now c.args.notes.now) (loading c.take_row.new.arena c.take_row.new.notes) _
    (subst (IsRowOf c.args.mapping.now c.args.relation.now.target)
    (sym (values_behind c.args.mapping.now c.args.relation.now c.args.row.now c.rest_from-values.result.now c.args.width c.requires.width c.rest_from-values.ensures)) c.requires.row)
    c.in_err-object.ensures.step)

pub returns-in_err-push-clause-refuses : goal.returns-in_err-push-clause-refuses
returns-in_err-push-clause-refuses c = passed_memory (CanRefuseRow c.args.mapping.now c.take_row.new.arena) c.from_residual-in_err-push.result c.from_residual-in_err-push.ensures.1 tt
