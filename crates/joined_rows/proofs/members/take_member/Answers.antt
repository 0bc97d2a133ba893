use Rattle.std.proofs.Common.{◌∙◌, refl, sym, subst}
use Rattle.keeper_core.proofs.Sequence.{no_memory, passed_on}
use Rattle.load_filling.proofs.LoadedLemmas.{grows_same}
use Rattle.load_rows.specs.Loading.{loading}
use Rattle.load_rows.specs.Reading.{IsRowOf}
use Rattle.load_calls.proofs.ReadLemmas.{passed_memory, passed_refusal}
use Rattle.load_calls.specs.Refusals.{CanRefuseRow}
use Rattle.load_calls.proofs.RefusalLemmas.{row_refuses}
use Rattle.joined_rows.proofs.MemberLemmas.{is_member, member_refused, member_taken, none_taken}
use Rattle.joined_rows.proofs.members.take_member.Goals as goal

pub returns-in_err-is_there-clause-step : goal.returns-in_err-is_there-clause-step
returns-in_err-is_there-clause-step c = passed_on c.from_residual.ensures.1 no_memory

pub returns-in_err-is_there-clause-grows : goal.returns-in_err-is_there-clause-grows
returns-in_err-is_there-clause-grows c = grows_same c.args.arena.now c.args.arena.now refl

pub returns-then-not-is_there-clause-step : goal.returns-then-not-is_there-clause-step
returns-then-not-is_there-clause-step c =
    none_taken c.args.mapping.now c.args.row.now c.args.part (loading c.args.arena.now c.args.notes.now) (sym c.in_ok-is_there.ensures ∙ c.if-not-is_there.true)

pub returns-then-not-is_there-clause-grows : goal.returns-then-not-is_there-clause-grows
returns-then-not-is_there-clause-grows c = grows_same c.args.arena.now c.args.arena.now refl

pub take_row-requires-clause-row : goal.take_row-requires-clause-row
take_row-requires-clause-row c =
    subst (IsRowOf c.args.mapping.now c.args.part.target) (sym c.values_from-values.ensures) (c.requires.row (sym c.in_ok-is_there.ensures ∙ c.if-not-is_there.false))

pub returns-in_err-object-clause-step : goal.returns-in_err-object-clause-step
returns-in_err-object-clause-step c =
    passed_on c.from_residual-in_err-object.ensures.1
    (member_refused c.args.mapping.now c.args.row.now c.values_from-values.result.now c.args.part (loading c.args.arena.now c.args.notes.now) (loading c.take_row.new.arena c.take_row.new.notes) _
    (sym c.in_ok-is_there.ensures ∙ c.if-not-is_there.false) c.values_from-values.ensures c.in_err-object.ensures.step)

pub returns-clause-step : goal.returns-clause-step
returns-clause-step c =
    member_taken c.args.mapping.now c.args.row.now c.values_from-values.result.now c.args.part (loading c.args.arena.now c.args.notes.now) (loading c.take_row.new.arena c.take_row.new.notes) c.in_ok-object.object
    (sym c.in_ok-is_there.ensures ∙ c.if-not-is_there.false) c.values_from-values.ensures c.in_ok-object.ensures.step

pub returns-clause-of : goal.returns-clause-of
returns-clause-of c = is_member c.args.mapping.now c.take_row.new.arena c.args.part c.in_ok-object.object c.in_ok-object.ensures.fits c.in_ok-object.ensures.exists c.in_ok-object.ensures.rooted

pub returns-in_err-is_there-clause-refuses : goal.returns-in_err-is_there-clause-refuses
returns-in_err-is_there-clause-refuses c = passed_memory (CanRefuseRow c.args.mapping.now c.args.arena.now) c.from_residual.result c.from_residual.ensures.1 tt

pub returns-in_err-object-clause-refuses : goal.returns-in_err-object-clause-refuses
returns-in_err-object-clause-refuses c =
    passed_refusal (CanRefuseRow c.args.mapping.now c.take_row.new.arena) _ c.from_residual-in_err-object.result c.from_residual-in_err-object.ensures.1
    (row_refuses c.args.mapping.now c.args.part.target c.values_from-values.result.now (loading c.args.arena.now c.args.notes.now) (loading c.take_row.new.arena c.take_row.new.notes) _ (subst (IsRowOf c.args.mapping.now c.args.part.target) (sym c.values_from-values.ensures) (c.requires.row (sym c.in_ok-is_there.ensures ∙ c.if-not-is_there.false))) c.in_err-object.ensures.step)
