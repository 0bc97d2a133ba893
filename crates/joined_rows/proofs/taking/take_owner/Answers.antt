use Rattle.std.proofs.Common.{subst, sym}
use Rattle.keeper_core.proofs.Sequence.{passed_on}
use Rattle.load_rows.specs.Loading.{loading}
use Rattle.load_rows.specs.Reading.{IsRowOf}
use Rattle.load_calls.proofs.ReadLemmas.{passed_refusal}
use Rattle.load_calls.specs.Refusals.{CanRefuseRow}
use Rattle.load_calls.proofs.RefusalLemmas.{row_refuses}
use Rattle.load_calls.proofs.RowsLemmas.{grows_then}
use Rattle.joined_rows.proofs.TakenSteps.{is_taken, members_refused, owner_refused, owner_taken}
use Rattle.joined_rows.proofs.taking.take_owner.Goals as goal

pub take_row-requires-clause-row : goal.take_row-requires-clause-row
take_row-requires-clause-row c = subst (IsRowOf c.args.mapping.now c.args.class) (sym c.own_values-values.ensures) c.requires.row.own

pub take_members-requires-clause-rows : goal.take_members-requires-clause-rows
take_members-requires-clause-rows c = c.requires.row.targets

pub returns-in_err-owner-clause-step : goal.returns-in_err-owner-clause-step
returns-in_err-owner-clause-step c =
    passed_on c.from_residual.ensures.1
    (owner_refused c.args.mapping.now c.args.class c.args.parts.now c.args.row.now c.own_values-values.result.now (loading c.args.arena.now c.args.notes.now) (loading c.take_row.new.arena c.take_row.new.notes) _
    c.own_values-values.ensures c.in_err-owner.ensures.step)

pub returns-in_err-owner-clause-refuses : goal.returns-in_err-owner-clause-refuses
returns-in_err-owner-clause-refuses c =
    passed_refusal (CanRefuseRow c.args.mapping.now c.take_row.new.arena) _ c.from_residual.result c.from_residual.ensures.1
    (row_refuses c.args.mapping.now c.args.class c.own_values-values.result.now (loading c.args.arena.now c.args.notes.now) (loading c.take_row.new.arena c.take_row.new.notes) _ (subst (IsRowOf c.args.mapping.now c.args.class) (sym c.own_values-values.ensures) c.requires.row.own) c.in_err-owner.ensures.step)

pub returns-in_err-members-clause-step : goal.returns-in_err-members-clause-step
returns-in_err-members-clause-step c =
    passed_on c.from_residual-in_err-members.ensures.1
    (members_refused c.args.mapping.now c.args.class c.args.parts.now c.args.row.now c.own_values-values.result.now (loading c.args.arena.now c.args.notes.now) (loading c.take_row.new.arena c.take_row.new.notes)
    (loading c.take_members.new.arena c.take_members.new.notes) c.in_ok-owner.owner _ c.own_values-values.ensures c.in_ok-owner.ensures.step c.in_err-members.ensures.step)

pub returns-in_err-members-clause-grows : goal.returns-in_err-members-clause-grows
returns-in_err-members-clause-grows c = grows_then c.args.arena.now c.take_row.new.arena c.take_members.new.arena c.in_ok-owner.ensures.grows c.in_err-members.ensures.grows

pub returns-in_err-members-clause-refuses : goal.returns-in_err-members-clause-refuses
returns-in_err-members-clause-refuses c = passed_refusal (CanRefuseRow c.args.mapping.now c.take_members.new.arena) _ c.from_residual-in_err-members.result c.from_residual-in_err-members.ensures.1 c.in_err-members.ensures.refuses

pub returns-clause-step : goal.returns-clause-step
returns-clause-step c =
    owner_taken c.args.mapping.now c.args.class c.args.parts.now c.args.row.now c.own_values-values.result.now (loading c.args.arena.now c.args.notes.now) (loading c.take_row.new.arena c.take_row.new.notes)
    (loading c.take_members.new.arena c.take_members.new.notes) c.in_ok-owner.owner c.in_ok-members.members c.own_values-values.ensures c.in_ok-owner.ensures.step c.in_ok-members.ensures.step

pub returns-clause-of : goal.returns-clause-of
returns-clause-of c =
    is_taken c.args.mapping.now c.take_row.new.arena c.take_members.new.arena c.args.class c.args.parts.now c.in_ok-owner.owner c.in_ok-members.members c.in_ok-owner.ensures.fits c.in_ok-owner.ensures.exists c.in_ok-owner.ensures.rooted
    c.in_ok-members.ensures.grows c.in_ok-members.ensures.of

pub returns-clause-grows : goal.returns-clause-grows
returns-clause-grows c = grows_then c.args.arena.now c.take_row.new.arena c.take_members.new.arena c.in_ok-owner.ensures.grows c.in_ok-members.ensures.grows
