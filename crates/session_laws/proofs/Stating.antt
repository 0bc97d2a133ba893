-- A flush that sent its plan whole leaves the stated rows, and one of which legal tables are stated answers.
use Rattle.std.proofs.Common.{sym, ap, ◌∙◌}
use Rattle.std.specs.Prelude.{Some}
use Rattle.flush_plan.specs.Flushing.{Sofar}
use Rattle.schema_core.specs.Tables.{Tables}
use Rattle.prepared_objects.specs.Leaving.{prepared_of}
use Rattle.session_calls.specs.Parts.{World}
use Rattle.session_laws.specs.Graphs.{AcceptedFlushIsStated, WholeFlushIsStated}
use Rattle.session_laws.specs.Flushes.{AnswersWhereAccepted, SendsItsPlan, prepared_world}
use Rattle.session_laws.specs.Stating.{AnswersWhereStated, LeavesStatedRows}

pub leaves_stated : AcceptedFlushIsStated → SendsItsPlan → LeavesStatedRows
leaves_stated stated sends world order ready is =
    let mid : World = prepared_world world in
    let sent = sends world is in
    let sofar : Sofar = sent.1 in
    stated mid.own.mapping mid.own.graph (prepared_of mid.own.mapping mid.own.graph) mid.store.tables order sent.0 sofar ready.mapped ready.own ready.sorted ready.legal ready.ordered sent.2 sent.3
    ∙ ap (λ (t : Tables). Some t) (sym sent.4)

pub answers_stated : WholeFlushIsStated → AnswersWhereAccepted → AnswersWhereStated
answers_stated whole answers world order placed after statements prepared can =
    let mid : World = prepared_world world in
    let sent =
    whole mid.own.mapping mid.own.graph (prepared_of mid.own.mapping mid.own.graph) mid.store.tables order placed after statements can.mapped can.told can.stated can.planned in
    let done = answers world statements sent.0 prepared can.planned can.fit sent.1 in
    (done.0, done.1 ∙ sent.2)
