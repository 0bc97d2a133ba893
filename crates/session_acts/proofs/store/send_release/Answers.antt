use Rattle.std.proofs.Common.{◌≡◌, ℕ, ◌-◌, [], ◌∷◌, drop, length, sym, ap, ◌∙◌, subst}
use Rattle.keeper_core.specs.Calls as call
use Rattle.keeper_core.specs.Keeping.{IsCall}
use Rattle.keeper_core.specs.Programs.{Sends}
use Rattle.keeper_core.specs.Store.{committed_of}
use Rattle.schema_core.specs.Tables.{Tables}
use Rattle.keeper_core.specs.declared.sent.Sent.TheVariants as sent
use Rattle.session_calls.proofs.Noting.{no_note_room, noted_call}
use Rattle.session_acts.proofs.store.send_release.Goals as goal

pub returns-in-Err : goal.returns-in-Err
returns-in-Err g c = no_note_room g.K.Keeper.moment call.release (length c.args.session.now.frames.scopes - 1) c.in-Err.ensures.err

pub returns-in-Ok : goal.returns-in-Ok
unfolding call.release
returns-in-Ok g c =
    let open_now : length c.args.session.now.frames.scopes ≡ (g.K.Keeper.moment c.args.keeper.now).depth = sym c.requires.in_step.1 in
    noted_call g.K.Keeper.moment call.release (sent.Release (c.open_scopes-number.result - 1)) (length c.args.session.now.frames.scopes - 1) c.release.result (g.met.K.Keeper.coherent c.args.keeper.now)
    (λ w deep. let tables : Tables = committed_of (record { tables = w.tables; scopes = drop 1 w.scopes }) in (tables, ap (λ (n : ℕ). Sends (sent.Release (n - 1)) tables ∷ []) (sym deep ∙ c.requires.in_step.1 ∙ sym c.open_scopes-number.ensures.scopes))) c.in-Ok.ensures.ok c.requires.in_step.0
    (subst (λ (n : ℕ). IsCall g.K.Keeper.moment call.release (n - 1) c.args.keeper.now c.release.result c.release.new.keeper) (sym open_now) c.release.ensures)
