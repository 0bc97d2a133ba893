use Rattle.std.proofs.Common.{◌∙◌}
use Rattle.keeper_core.proofs.Sequence.{passed_on}
use Rattle.load_rows.specs.Loading.{loading}
use Rattle.load_calls.specs.Refreshing.{Scene}
use Rattle.load_calls.specs.Refusals.{CanRefuseLoad}
use Rattle.load_calls.proofs.CollectionLemmas.{owner_there}
use Rattle.load_calls.proofs.ReadLemmas.{passed_memory, passed_refusal}
use Rattle.load_calls.proofs.RefusalLemmas.{of_refresh}
use Rattle.load_calls.proofs.RowsLemmas.{grows_then}
use Rattle.load_preparing.specs.Preparing.{read_object}
use Rattle.load_preparing.specs.Refusals.{IsShownAfter}
use Rattle.load_preparing.proofs.ReadingLemmas.{if_shown_later, memory_same, memory_shown, object_read, object_refused, same_grow, shown_here, shown_later}
use Rattle.load_preparing.proofs.reading.read_object.Goals as goal

pub returns-in_err-reread-clause-step : goal.returns-in_err-reread-clause-step
returns-in_err-reread-clause-step g c = passed_on c.from_residual.ensures.1 (memory_same g.K.Keeper.moment (read_object c.args.mapping.now c.args.object) c.in_err-reread.ensures.err)

pub returns-in_err-reread-clause-grows : goal.returns-in_err-reread-clause-grows
returns-in_err-reread-clause-grows g c = same_grow c.args.arena.now c.reread.new.arena c.reread.ensures.classes

pub returns-in_err-reread-clause-shown : goal.returns-in_err-reread-clause-shown
returns-in_err-reread-clause-shown g c =
    let before : Scene = (loading c.args.arena.now c.args.notes.now, g.K.Keeper.moment c.args.keeper.now) in
    let after : Scene = (loading c.reread.new.arena c.reread.new.notes, g.K.Keeper.moment c.args.keeper.now) in
    passed_memory (IsShownAfter c.args.mapping.now c.args.object before after) c.from_residual.result c.from_residual.ensures.1 (memory_shown c.args.mapping.now c.args.object before after)

pub returns-in_err-refresh-clause-step : goal.returns-in_err-refresh-clause-step
returns-in_err-refresh-clause-step g c = passed_on c.from_residual-in_err-refresh.ensures.1 (object_refused g.K.Keeper.moment c.args.mapping.now c.args.object c.in_ok-reread.ensures.ok c.in_err-refresh.ensures.step)

pub returns-in_err-refresh-clause-grows : goal.returns-in_err-refresh-clause-grows
returns-in_err-refresh-clause-grows g c = same_grow c.args.arena.now c.refresh.new.arena (c.in_err-refresh.ensures.classes ∙ c.in_ok-reread.ensures.classes)

pub returns-in_err-refresh-clause-shown : goal.returns-in_err-refresh-clause-shown
returns-in_err-refresh-clause-shown g c =
    let before : Scene = (loading c.args.arena.now c.args.notes.now, g.K.Keeper.moment c.args.keeper.now) in
    let mid : Scene = (loading c.reread.new.arena c.reread.new.notes, g.K.Keeper.moment c.args.keeper.now) in
    let after : Scene = (loading c.refresh.new.arena c.refresh.new.notes, g.K.Keeper.moment c.refresh.new.keeper) in
    passed_refusal (IsShownAfter c.args.mapping.now c.args.object before after) _ c.from_residual-in_err-refresh.result c.from_residual-in_err-refresh.ensures.1
    (shown_later c.args.mapping.now c.args.object before mid after _ (same_grow c.args.arena.now c.reread.new.arena c.in_ok-reread.ensures.classes) (shown_here c.args.mapping.now c.args.object mid after _ c.in_err-refresh.ensures.shown))

pub returns-in_err-refresh-clause-refuses : goal.returns-in_err-refresh-clause-refuses
returns-in_err-refresh-clause-refuses g c =
    passed_refusal (CanRefuseLoad c.args.mapping.now c.refresh.new.arena c.args.object) _ c.from_residual-in_err-refresh.result c.from_residual-in_err-refresh.ensures.1 (of_refresh c.args.mapping.now c.args.object c.refresh.new.arena _ c.in_err-refresh.ensures.refuses)

pub read_links-requires-clause-object : goal.read_links-requires-clause-object
read_links-requires-clause-object g c =
    owner_there c.args.arena.now c.refresh.new.arena c.args.object (same_grow c.args.arena.now c.refresh.new.arena (c.in_ok-refresh.ensures.classes ∙ c.in_ok-reread.ensures.classes)) c.requires.object

pub returns-clause-grows : goal.returns-clause-grows
returns-clause-grows g c =
    grows_then c.args.arena.now c.refresh.new.arena c.read_links.new.arena (same_grow c.args.arena.now c.refresh.new.arena (c.in_ok-refresh.ensures.classes ∙ c.in_ok-reread.ensures.classes)) c.read_links.ensures.grows

pub returns-clause-shown : goal.returns-clause-shown
returns-clause-shown g c =
    let before : Scene = (loading c.args.arena.now c.args.notes.now, g.K.Keeper.moment c.args.keeper.now) in
    let mid : Scene = (loading c.refresh.new.arena c.refresh.new.notes, g.K.Keeper.moment c.refresh.new.keeper) in
    let after : Scene = (loading c.read_links.new.arena c.read_links.new.notes, g.K.Keeper.moment c.read_links.new.keeper) in
    if_shown_later c.args.mapping.now c.args.object before mid after c.read_links.result (same_grow c.args.arena.now c.refresh.new.arena (c.in_ok-refresh.ensures.classes ∙ c.in_ok-reread.ensures.classes)) c.read_links.ensures.shown

pub returns-clause-step : goal.returns-clause-step
returns-clause-step g c = object_read g.K.Keeper.moment c.args.mapping.now c.args.object c.in_ok-reread.ensures.ok c.in_ok-refresh.ensures.step c.read_links.ensures.step
