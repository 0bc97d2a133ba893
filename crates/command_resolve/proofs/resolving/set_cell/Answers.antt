use Rattle.std.proofs.Common.{sym, ap, ◌∙◌}
use Rattle.command_names.specs.Attributes.{value_fault}
use Rattle.command_resolve.proofs.Made.{has_value}
use Rattle.command_resolve.proofs.resolving.set_cell.Goals as goal

pub returns-in_ok-copied-in-None-clause-stands : goal.returns-in_ok-copied-in-None-clause-stands
returns-in_ok-copied-in-None-clause-stands c = λ graph drawn made.
    has_value c.args.mapping.now graph _ c.args.class c.args.attr _ made c.requires.attr
    (ap (value_fault c.args.mapping.now c.args.class c.args.attr) c.in_ok-copied-in-None.ensures ∙ sym c.in-None.ensures.fault)
