use Rattle.std.proofs.Common.{◌≡◌, ℕ, ◌+◌, [], ◌∷◌, length, sym, ap, ◌∙◌, subst}
use Rattle.keeper_core.specs.Calls as call
use Rattle.keeper_core.specs.Keeping.{IsCall}
use Rattle.keeper_core.specs.Programs.{Sends}
use Rattle.keeper_core.specs.Store.{committed_of}
use Rattle.schema_core.specs.Tables.{Tables}
use Rattle.keeper_core.specs.declared.sent.Sent.TheVariants as sent
use Rattle.session_calls.proofs.Noting.{no_note_room, noted_call}
use Rattle.session_acts.proofs.store.send_savepoint.Goals as goal

pub returns-in-Err : goal.returns-in-Err
returns-in-Err g c = no_note_room g.K.Keeper.moment call.savepoint (length c.args.session.now.frames.scopes + 1) c.in-Err.ensures.err

pub returns-in-Ok : goal.returns-in-Ok
unfolding call.savepoint
returns-in-Ok g c =
    let open_now : length c.args.session.now.frames.scopes ≡ (g.K.Keeper.moment c.args.keeper.now).depth = sym c.requires.in_step.1 in
    noted_call g.K.Keeper.moment call.savepoint (sent.Savepoint (c.open_scopes-number.result)) (length c.args.session.now.frames.scopes + 1) c.savepoint.result (g.met.K.Keeper.coherent c.args.keeper.now)
    (λ w deep. let tables : Tables = committed_of (record { tables = w.tables; scopes = w.tables ∷ w.scopes }) in (tables, ap (λ (n : ℕ). Sends (sent.Savepoint n) tables ∷ []) (sym deep ∙ c.requires.in_step.1 ∙ sym c.open_scopes-number.ensures.scopes))) c.in-Ok.ensures.ok c.requires.in_step.0
    (subst (λ (n : ℕ). IsCall g.K.Keeper.moment call.savepoint (n + 1) c.args.keeper.now c.savepoint.result c.savepoint.new.keeper) (sym open_now) c.savepoint.ensures)
