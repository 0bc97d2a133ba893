-- The laws of a flush, of its parts.
use Rattle.std.proofs.Common.{refl}
use Rattle.flush_plan.specs.Flushing.{Sofar}
use Rattle.session_acts.specs.Flush.{flush}
use Rattle.session_laws.specs.Flushes.{AnswersWhereAccepted, LeavesLegalTables, SendsItsPlan, SendsNothingAgain, SendsPlannedStatements, prepared_world}
use Rattle.session_laws.proofs.Flushes.Accepting.{accepted_answers}
use Rattle.session_laws.proofs.Flushes.Again.{quiet_again}
use Rattle.session_laws.proofs.Flushes.Events.{flush_told}
use Rattle.session_laws.proofs.Flushes.Flushing.{IsFlushSent, flush_sent}
use Rattle.session_laws.proofs.Flushes.Legal.{flush_legal}

pub sends_law : SendsItsPlan
sends_law world is =
    let sent : IsFlushSent (prepared_world world) (flush world).after = (flush_sent world is).sent in
    let sofar : Sofar = record { tables = (flush world).after.store.tables; keys = sent.keys } in
    (sent.statements, sofar, sent.planned, sent.sent, refl)

pub statements_law : SendsPlannedStatements
statements_law world is = flush_told world is

pub answers_law : AnswersWhereAccepted
answers_law = accepted_answers

pub again_law : SendsNothingAgain
again_law world marks is = quiet_again world marks is

pub legal_law : LeavesLegalTables
legal_law world legal = flush_legal world legal

pub ruleset flush_laws = (sends_law, statements_law, answers_law, again_law, legal_law)
