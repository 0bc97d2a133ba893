use Rattle.std.proofs.Common.{inr, refl, sym}
use Rattle.session_loads.proofs.expiring.expire_inside.Goals as goal

pub returns-in-Some-clause-done : goal.returns-in-Some-clause-done
returns-in-Some-clause-done c = inr (sym c.in-Some.ensures.fault, refl, c.in-Some.ensures.own)

pub returns-in_ok-expire_along-in-None-clause-done : goal.returns-in_ok-expire_along-in-None-clause-done
returns-in_ok-expire_along-in-None-clause-done c = (sym c.in-None.ensures.fault, c.in_ok-expire_along-in-None.ensures.ok)
