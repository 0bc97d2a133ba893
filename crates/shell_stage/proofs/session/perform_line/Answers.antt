use Rattle.std.proofs.Common.{subst}
use Rattle.class_mapping.specs.Mapped.{Mapped}
use Rattle.command_resolve.specs.Standing.{IsResolved}
use Rattle.class_types.specs.Shown.{rules_of}
use Rattle.shell_stage.proofs.Asking.{performs_line, refuses_line}
use Rattle.shell_stage.proofs.session.perform_line.Goals as goal

pub returns-in_err-resolved : goal.returns-in_err-resolved
returns-in_err-resolved g c =
    refuses_line g.K.Keeper.moment (rules_of c.args.hooks.now) c.args.dialect c.args.names.now c.args.command.now c.mapping.result.now c.args.session.now c.args.keeper.now c.in_err-resolved.field-0.0 c.from_residual.result c.from_residual.ensures.1
    c.mapping.ensures c.in_err-resolved.ensures.line c.in_err-resolved.ensures.cause c.requires.in_step

pub perform-requires-clause-ready : goal.perform-requires-clause-ready
perform-requires-clause-ready g c =
    subst (λ (mapped : Mapped). IsResolved mapped c.args.session.now.graph c.args.session.now.drawn.drawn c.in_ok-resolved.resolved) c.mapping.ensures
    (c.in_ok-resolved.ensures.stands c.args.session.now.graph c.args.session.now.drawn.drawn c.requires.there)

pub returns : goal.returns
returns g c =
    performs_line g.K.Keeper.moment (rules_of c.args.hooks.now) c.args.dialect c.args.names.now c.args.command.now c.mapping.result.now c.args.session.now c.perform.new.session c.args.keeper.now c.perform.new.keeper c.in_ok-resolved.resolved c.perform.result
    c.mapping.ensures c.in_ok-resolved.ensures.line c.perform.ensures.performed
