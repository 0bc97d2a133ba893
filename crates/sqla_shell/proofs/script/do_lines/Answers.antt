use Rattle.std.proofs.Common.{◌≡◌, ◌≤◌, true, Ok, Err, refl, sym, subst, arith}
use Rattle.std.specs.Io.KnownBytes.{IsAtEnd}
use Rattle.keeper_core.specs.Moment.{Runs}
use Rattle.byte_streams.specs.Cutting.{IsNextOf, KeepsLimits, to_come}
use Rattle.shell_steps.specs.ShellState.{ShellState}
use Rattle.class_types.specs.Shown.{rules_of}
use Rattle.sqla_shell.specs.Causes.{stop_refusal}
use Rattle.sqla_shell.specs.Outcome.{moment_writing}
use Rattle.sqla_shell.specs.Reference.{do_and_reply}
use Rattle.sqla_shell.proofs.LinesLemmas.{OnLines, line_done, line_stopped_as, lines_ended, lines_start, lines_too_long, nothing_left}
use Rattle.sqla_shell.proofs.KeepsLemmas.{beside_source, err_is, keeper_same, keeps_passed, keeps_then, source_read, source_stopped}
use Rattle.sqla_shell.proofs.script.do_lines.Goals as goal

-- src/script.rt:78:5
pub loop-turn-init : goal.loop-turn-init
loop-turn-init g c = record {
  way = subst (λ p. OnLines (rules_of c.args.hooks.now) (g.S.Source.left c.args.source.now) (moment_writing {S = ShellState} g.K.Keeper.moment g.O.Sink.written) (c.args.shell.now, c.args.keeper.now, c.args.sink.now) 0 p.taken (to_come p (g.S.Source.left c.args.source.now)) (c.args.shell.now, c.args.keeper.now, c.args.sink.now)) (sym c.requires.start)
      (lines_start (rules_of c.args.hooks.now) (moment_writing {S = ShellState} g.K.Keeper.moment g.O.Sink.written) (c.args.shell.now, c.args.keeper.now, c.args.sink.now) (g.S.Source.left c.args.source.now));
  turns = omega arith;
  few = subst (λ p. p.taken ≤ 16777216) (sym c.requires.start) (omega arith);
  fits = subst (λ p. p.ended ≡ true → IsAtEnd (g.S.Source.left c.args.source.now)) (sym c.requires.start) (λ is. cc);
  ready = c.requires.ready;
  keeps = record { faults = (refl, refl, refl); keeper = keeper_same };
}

-- src/script.rt:80:30
pub returns-in-End-clause-reference : goal.returns-in-End-clause-reference
returns-in-End-clause-reference g c = lines_ended (rules_of c.args.hooks.now) (moment_writing {S = ShellState} g.K.Keeper.moment g.O.Sink.written) (c.args.shell.now, c.args.keeper.now, c.args.sink.now) (c.loop-turn.shell, c.loop-turn.keeper, c.loop-turn.sink)
    (g.S.Source.left c.args.source.now) c.loop-turn._turn c.loop-turn.lines.taken (to_come c.loop-turn.lines (g.S.Source.left c.loop-turn.source)) c.next_line.new.self.taken (to_come c.next_line.new.self (g.S.Source.left c.next_line.new.source))
    c.loop-turn.invariant.few c.loop-turn.invariant.way
    (subst (λ a. IsNextOf c.loop-turn.lines.taken (to_come c.loop-turn.lines (g.S.Source.left c.loop-turn.source)) a c.next_line.new.self.taken (to_come c.next_line.new.self (g.S.Source.left c.next_line.new.source))) c.in-End.is c.in_ok-next_line.ensures.next)

-- src/script.rt:81:34
pub returns-in-TooLong-clause-reference : goal.returns-in-TooLong-clause-reference
returns-in-TooLong-clause-reference g c = lines_too_long (rules_of c.args.hooks.now) (moment_writing {S = ShellState} g.K.Keeper.moment g.O.Sink.written) (c.args.shell.now, c.args.keeper.now, c.args.sink.now) (c.loop-turn.shell, c.loop-turn.keeper, c.loop-turn.sink)
    (g.S.Source.left c.args.source.now) c.loop-turn._turn c.loop-turn.lines.taken (to_come c.loop-turn.lines (g.S.Source.left c.loop-turn.source)) c.next_line.new.self.taken (to_come c.next_line.new.self (g.S.Source.left c.next_line.new.source))
    c.loop-turn.invariant.few c.loop-turn.invariant.way
    (subst (λ a. IsNextOf c.loop-turn.lines.taken (to_come c.loop-turn.lines (g.S.Source.left c.loop-turn.source)) a c.next_line.new.self.taken (to_come c.next_line.new.self (g.S.Source.left c.next_line.new.source))) c.in-TooLong.is c.in_ok-next_line.ensures.next)

-- src/script.rt:82:37
pub returns-in_err-answer_line-in-Line-clause-reference :
    goal.returns-in_err-answer_line-in-Line-clause-reference
returns-in_err-answer_line-in-Line-clause-reference g c =
    let limits = subst (λ a. KeepsLimits a c.loop-turn.lines.taken c.next_line.new.self.taken) c.in-Line.is c.in_ok-next_line.ensures.limits in
    line_stopped_as (rules_of c.args.hooks.now) (c.args.shell.now, c.args.keeper.now, c.args.sink.now)
    (g.S.Source.left c.args.source.now) c.loop-turn._turn c.loop-turn.lines.taken (to_come c.loop-turn.lines (g.S.Source.left c.loop-turn.source)) c.in-Line.line c.next_line.new.self.taken (to_come c.next_line.new.self (g.S.Source.left c.next_line.new.source))
    limits.1 limits.2 c.loop-turn.invariant.way
    (subst (λ a. IsNextOf c.loop-turn.lines.taken (to_come c.loop-turn.lines (g.S.Source.left c.loop-turn.source)) a c.next_line.new.self.taken (to_come c.next_line.new.self (g.S.Source.left c.next_line.new.source))) c.in-Line.is c.in_ok-next_line.ensures.next)
    c.in_err-answer_line-in-Line.field-0.0 c.from_residual-in_err-answer_line-in-Line.result c.from_residual-in_err-answer_line-in-Line.ensures.1
    (subst (λ line. Runs (moment_writing {S = ShellState} g.K.Keeper.moment g.O.Sink.written) (λ u. u) (do_and_reply (rules_of c.args.hooks.now) line tt) (c.loop-turn.shell, c.loop-turn.keeper, c.loop-turn.sink) (Err (stop_refusal c.in_err-answer_line-in-Line.field-0.0)) (c.answer_line.new.shell, c.answer_line.new.keeper, c.answer_line.new.sink)) c.as_slice.ensures c.in_err-answer_line-in-Line.ensures.step)

-- src/script.rt:78:5
pub loop-turn-preserved : goal.loop-turn-preserved
loop-turn-preserved g c =
    let limits = subst (λ a. KeepsLimits a c.loop-turn.lines.taken c.next_line.new.self.taken) c.in-Line.is c.in_ok-next_line.ensures.limits in
    record {
      way = line_done (rules_of c.args.hooks.now) (c.args.shell.now, c.args.keeper.now, c.args.sink.now)
          (g.S.Source.left c.args.source.now) c.loop-turn._turn c.loop-turn.lines.taken (to_come c.loop-turn.lines (g.S.Source.left c.loop-turn.source)) c.in-Line.line c.next_line.new.self.taken (to_come c.next_line.new.self (g.S.Source.left c.next_line.new.source))
          limits.1 limits.2 c.loop-turn.invariant.way
          (subst (λ a. IsNextOf c.loop-turn.lines.taken (to_come c.loop-turn.lines (g.S.Source.left c.loop-turn.source)) a c.next_line.new.self.taken (to_come c.next_line.new.self (g.S.Source.left c.next_line.new.source))) c.in-Line.is c.in_ok-next_line.ensures.next)
          (subst (λ line. Runs (moment_writing {S = ShellState} g.K.Keeper.moment g.O.Sink.written) (λ u. u) (do_and_reply (rules_of c.args.hooks.now) line tt) (c.loop-turn.shell, c.loop-turn.keeper, c.loop-turn.sink) (Ok tt) (c.answer_line.new.shell, c.answer_line.new.keeper, c.answer_line.new.sink)) c.as_slice.ensures c.in_ok-answer_line-in-Line.ensures.step);
      turns = omega (arith, c.loop-turn.invariant.turns, limits.1);
      few = limits.2;
      fits = c.in_ok-next_line.ensures.fits;
      ready = c.in_ok-answer_line-in-Line.ensures.ready;
      keeps = keeps_then c.loop-turn.invariant.keeps (beside_source (c.in_ok-next_line.ensures.quiet (λ is. cc)) c.in_ok-answer_line-in-Line.ensures.keeps);
    }

pub returns-in-End-clause-through : goal.returns-in-End-clause-through
returns-in-End-clause-through g c = λ is. nothing_left (rules_of c.args.hooks.now) (moment_writing {S = ShellState} g.K.Keeper.moment g.O.Sink.written) (c.args.shell.now, c.args.keeper.now, c.args.sink.now) (c.loop-turn.shell, c.loop-turn.keeper, c.loop-turn.sink)
    (g.S.Source.left c.args.source.now) c.loop-turn._turn c.loop-turn.lines.taken (to_come c.loop-turn.lines (g.S.Source.left c.loop-turn.source)) c.next_line.new.self.taken c.next_line.new.self.bytes (g.S.Source.left c.next_line.new.source)
    c.loop-turn.invariant.way
    (subst (λ a. IsNextOf c.loop-turn.lines.taken (to_come c.loop-turn.lines (g.S.Source.left c.loop-turn.source)) a c.next_line.new.self.taken (to_come c.next_line.new.self (g.S.Source.left c.next_line.new.source))) c.in-End.is c.in_ok-next_line.ensures.next)

pub returns-in-End-clause-keeps : goal.returns-in-End-clause-keeps
returns-in-End-clause-keeps g c = keeps_then c.loop-turn.invariant.keeps (source_read (c.in_ok-next_line.ensures.quiet (λ is. cc)))

pub returns-in-TooLong-clause-keeps : goal.returns-in-TooLong-clause-keeps
returns-in-TooLong-clause-keeps g c = keeps_then c.loop-turn.invariant.keeps (source_read (c.in_ok-next_line.ensures.quiet (λ is. cc)))

pub returns-in_err-answer_line-in-Line-clause-keeps : goal.returns-in_err-answer_line-in-Line-clause-keeps
returns-in_err-answer_line-in-Line-clause-keeps g c =
    keeps_passed c.from_residual-in_err-answer_line-in-Line.ensures.1 (keeps_then c.loop-turn.invariant.keeps (beside_source (c.in_ok-next_line.ensures.quiet (λ is. cc)) c.in_err-answer_line-in-Line.ensures.keeps))

pub returns-in_err-next_line-clause-keeps : goal.returns-in_err-next_line-clause-keeps
returns-in_err-next_line-clause-keeps g c =
    keeps_then c.loop-turn.invariant.keeps (source_stopped c.from_residual.ensures.1 c.in_err-next_line.ensures.faults c.in_err-next_line.ensures.cause (λ apart. c.in_err-next_line.ensures.quiet (λ is. apart (err_is is))))
