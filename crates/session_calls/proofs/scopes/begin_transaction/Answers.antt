use Rattle.std.proofs.Common.{◌≡◌, true, Ok, Err, refl, ap, ◌∙◌, arith}
use Rattle.base_core.specs.declared.refusal.Refusal.TheVariants.{Memory}
use Rattle.keeper_core.specs.Programs.{ends_early}
use Rattle.keeper_core.specs.Beside.{changes}
use Rattle.session_scopes.specs.Scoping.{session_begun}
use Rattle.session_scopes.specs.SessionState.{SessionState}
use Rattle.session_calls.proofs.Acting.{begun_long}
use Rattle.session_calls.proofs.Joining.{noted_err, noted_then, passed_call}
use Rattle.session_calls.proofs.Refusing.{begun_alike, passed_on}
use Rattle.session_calls.proofs.scopes.begin_transaction.Goals as goal

pub begin-requires : goal.begin-requires
begin-requires g c = record {
  outside = ap (λ (s : SessionState). s.frames.scopes) c.in_ok-begin_store.ensures.alike ∙ c.requires.outside;
  well = ap (λ (s : SessionState). s.failed) c.in_ok-begin_store.ensures.alike ∙ c.requires.well;
}

pub returns-in_err-begin_store-clause-call : goal.returns-in_err-begin_store-clause-call
returns-in_err-begin_store-clause-call g c = passed_call c.from_residual.ensures.1 (noted_err g.K.Keeper.moment (λ u. changes session_begun) 1 c.in_err-begin_store.ensures)

-- there was no memory for the scope
pub returns-in_err-begin-clause-call : goal.returns-in_err-begin-clause-call
returns-in_err-begin-clause-call g c =
    passed_call c.from_residual-in_err-begin.ensures.1 (noted_then g.K.Keeper.moment session_begun 1 {r = Err Memory} c.in_ok-begin_store.ensures tt refl c.in_err-begin.ensures.same tt)

pub returns-in_err-begin-clause-stops : goal.returns-in_err-begin-clause-stops
returns-in_err-begin-clause-stops g c = passed_on (λ e. ends_early e ≡ true) c.from_residual-in_err-begin.result c.from_residual-in_err-begin.ensures.1 refl

-- it began
pub returns-clause-call : goal.returns-clause-call
returns-clause-call g c =
    noted_then g.K.Keeper.moment session_begun 1 {r = Ok tt} c.in_ok-begin_store.ensures c.in_ok-begin.ensures.ok tt c.in_ok-begin.ensures.same
    (begun_long c.args.session.now c.begin_store.new.session c.begin.new.self c.in_ok-begin_store.ensures.alike c.requires.outside c.in_ok-begin.ensures.ok)

pub returns-clause-inside : goal.returns-clause-inside
returns-clause-inside g c = omega (arith, begun_long c.args.session.now c.begin_store.new.session c.begin.new.self c.in_ok-begin_store.ensures.alike c.requires.outside c.in_ok-begin.ensures.ok)

pub returns-clause-well : goal.returns-clause-well
returns-clause-well g c = ap (λ (s : SessionState). s.failed) c.in_ok-begin.ensures.ok ∙ ap (λ (s : SessionState). s.failed) c.in_ok-begin_store.ensures.alike ∙ c.requires.well

pub returns-clause-begun : goal.returns-clause-begun
returns-clause-begun g c = begun_alike c.args.session.now c.begin_store.new.session c.begin.new.self c.in_ok-begin_store.ensures.alike c.in_ok-begin.ensures.ok
