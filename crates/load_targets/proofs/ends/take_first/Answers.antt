use Rattle.std.proofs.Common.{◌∙◌, ap, sym, refl, List, Some}
use Rattle.std.specs.Option.{option_copied}
use Rattle.base_core.specs.declared.value.Value.{Value}
use Rattle.class_mapping.specs.Mapped.{root_of}
use Rattle.keeper_core.proofs.Sequence.{passed_on}
use Rattle.load_filling.proofs.LoadedLemmas.{grows_same}
use Rattle.load_rows.specs.Loading.{loading}
use Rattle.load_calls.proofs.ReadLemmas.{passed_refusal}
use Rattle.load_calls.specs.Refusals.{CanRefuseRow}
use Rattle.load_calls.proofs.RefusalLemmas.{row_refuses}
use Rattle.load_calls.proofs.RowsLemmas.{object_of}
use Rattle.load_targets.proofs.EndLemmas.{first_refused, first_row, first_taken, none_first}
use Rattle.load_targets.proofs.ends.take_first.Goals as goal

pub returns-in_err-object-in-Some-clause-step : goal.returns-in_err-object-in-Some-clause-step
returns-in_err-object-in-Some-clause-step c =
    passed_on c.from_residual.ensures.1
    (first_refused c.args.mapping.now c.args.class c.args.rows.now c.as_slice.result.now (loading c.args.arena.now c.args.notes.now) (loading c.take_row.new.arena c.take_row.new.notes) _
    (sym c.get.ensures ∙ ap option_copied c.in-Some.is ∙ ap (λ (row : List Value). Some row) (sym c.as_slice.ensures)) c.in_err-object-in-Some.ensures.step)

pub returns-in_ok-object-in-Some-clause-step : goal.returns-in_ok-object-in-Some-clause-step
returns-in_ok-object-in-Some-clause-step c =
    first_taken c.args.mapping.now c.args.class c.args.rows.now c.as_slice.result.now (loading c.args.arena.now c.args.notes.now) (loading c.take_row.new.arena c.take_row.new.notes) c.in_ok-object-in-Some.object
    (sym c.get.ensures ∙ ap option_copied c.in-Some.is ∙ ap (λ (row : List Value). Some row) (sym c.as_slice.ensures)) c.in_ok-object-in-Some.ensures.step

pub returns-in_ok-object-in-Some-clause-of : goal.returns-in_ok-object-in-Some-clause-of
returns-in_ok-object-in-Some-clause-of c =
    object_of c.args.mapping.now c.take_row.new.arena (root_of c.args.mapping.now c.args.class) c.in_ok-object-in-Some.object c.in_ok-object-in-Some.ensures.fits c.in_ok-object-in-Some.ensures.exists c.in_ok-object-in-Some.ensures.rooted

pub returns-in-None-clause-step : goal.returns-in-None-clause-step
returns-in-None-clause-step c = none_first c.args.mapping.now c.args.class c.args.rows.now (loading c.args.arena.now c.args.notes.now) (sym c.get.ensures ∙ ap option_copied c.in-None.is)

pub returns-in-None-clause-grows : goal.returns-in-None-clause-grows
returns-in-None-clause-grows c = grows_same c.args.arena.now c.args.arena.now refl

pub returns-in_err-object-in-Some-clause-refuses : goal.returns-in_err-object-in-Some-clause-refuses
returns-in_err-object-in-Some-clause-refuses c =
    passed_refusal (CanRefuseRow c.args.mapping.now c.take_row.new.arena) _ c.from_residual.result c.from_residual.ensures.1
    (row_refuses c.args.mapping.now c.args.class c.as_slice.result.now (loading c.args.arena.now c.args.notes.now) (loading c.take_row.new.arena c.take_row.new.notes) _
    (first_row c.args.mapping.now c.args.class c.args.rows.now c.as_slice.result.now c.requires.rows (sym c.get.ensures ∙ ap option_copied c.in-Some.is ∙ ap (λ (row : List Value). Some row) (sym c.as_slice.ensures)))
    c.in_err-object-in-Some.ensures.step)
