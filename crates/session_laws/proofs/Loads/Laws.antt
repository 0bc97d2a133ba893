-- The laws of loads.
use Rattle.std.proofs.Common.{◌≡◌, true, sym, subst}
use Rattle.keeper_core.specs.Store.{Store}
use Rattle.load_rows.specs.Loading.{Loading}
use Rattle.session_scopes.specs.Loads.{on_load}
use Rattle.session_scopes.specs.SessionState.{in_transaction}
use Rattle.session_calls.specs.Parts.{World}
use Rattle.session_laws.specs.Whole.{IsHale}
use Rattle.session_laws.specs.Loads.{IsRereadOf, LoadsKeepFit, LoadsKeepHealth, LoadsKeepSound, LoadsKeepWhole, SessionsGoOn, after_load, loading_of}
use Rattle.session_laws.proofs.Loads.Sessions.{loaded_goes_on, loaded_handled, loaded_keyed, loaded_orderly, loaded_sound}

pub sound_law : LoadsKeepSound
sound_law own world opened loads sound = loaded_sound world.own world.store own opened loads sound

pub health_law : LoadsKeepHealth
health_law own world opened loads healthy = record {
  sound = sound_law own world opened loads healthy.sound;
  tidy = record { own = loaded_orderly world.store.tables own world.own loads healthy.tidy.own; ascending = healthy.tidy.ascending };
}

pub fit_law : LoadsKeepFit
fit_law own session fit grows keyed = loaded_keyed own session fit grows keyed

pub go_on_law : SessionsGoOn
go_on_law own session grows = loaded_goes_on own session grows

-- ---- programs

-- a whole session has taken a load in
pub loaded_hale : (own : Loading) (world : World) → in_transaction world.own ≡ true → IsRereadOf world own → IsHale world → IsHale (after_load own world)
loaded_hale own world opened loads hale = record {
  healthy = health_law own world opened loads hale.healthy;
  keyed = loaded_keyed own world.own loads.fit loads.grows hale.keyed;
  handled = loaded_handled own world.own hale.handled;
}

pub whole_law : {A : Type 0} → LoadsKeepWhole A
unfolding on_load
whole_law m world opened load hale =
    let own : Loading = (m (loading_of world)).after.own in
    subst (λ (store : Store). IsHale (record { own = (after_load own world).own; store = store })) (sym load.store) (loaded_hale own world opened load.loads hale)
