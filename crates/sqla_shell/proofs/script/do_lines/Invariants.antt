use Rattle.std.proofs.Common.{◌≤◌, Ok}
use Rattle.byte_streams.specs.Cutting.{FitsSource, most_bytes, to_come}
use Rattle.shell_stage.specs.Stages.{IsReady}
use Rattle.class_types.specs.Shown.{rules_of}
use Rattle.sqla_shell.specs.Outcome.{moment_writing}
use Rattle.sqla_shell.specs.Seen.{Keeps, moment_seen}
use Rattle.sqla_shell.proofs.LinesLemmas.{OnLines}
use Rattle.sqla_shell.proofs.script.do_lines.Given as goal

abbrev pub invariant-loop-turn : goal.invariant-loop-turn
invariant-loop-turn g l = record {
  way : OnLines (rules_of l.hooks) (g.S.Source.left l.fn.source) (moment_writing g.K.Keeper.moment g.O.Sink.written) (l.fn.shell, l.fn.keeper, l.fn.sink) l._turn l.lines.taken (to_come l.lines (g.S.Source.left l.source)) (l.shell, l.keeper, l.sink);
  turns : l._turn ≤ l.lines.taken;
  few : l.lines.taken ≤ most_bytes;
  fits : FitsSource l.lines (g.S.Source.left l.source);
  ready : IsReady l.shell.stage (g.K.Keeper.moment l.keeper);
  keeps : Keeps {X = Unit {0}}
      (moment_seen (g.S.Source.left l.fn.source) (g.S.Source.faults l.fn.source) (g.O.Sink.written l.fn.sink) (g.O.Sink.faults l.fn.sink) (g.K.Keeper.moment l.fn.keeper))
      (Ok tt)
      (moment_seen (g.S.Source.left l.source) (g.S.Source.faults l.source) (g.O.Sink.written l.sink) (g.O.Sink.faults l.sink) (g.K.Keeper.moment l.keeper));
}
