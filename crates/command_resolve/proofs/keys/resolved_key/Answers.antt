use Rattle.std.proofs.Common.{sym, ap, ◌∙◌}
use Rattle.object_arena.specs.Fit.{key_fits}
use Rattle.command_resolve.specs.Resolving.{parts_fault}
use Rattle.command_resolve.proofs.Keyed.{key_of_line}
use Rattle.command_resolve.proofs.keys.resolved_key.Goals as goal

pub returns-in_ok-copied-in-None-clause-fits : goal.returns-in_ok-copied-in-None-clause-fits
returns-in_ok-copied-in-None-clause-fits c =
    ap (key_fits c.args.mapping.now c.args.class) c.in_ok-copied-in-None.ensures
    ∙ key_of_line c.args.mapping.now c.args.class c.args.key.now (sym c.is_whole_key.ensures ∙ c.if-not-is_whole_key.false) (ap (λ attrs. parts_fault c.args.mapping.now c.args.class attrs c.args.key.now) (sym c.key_attributes.ensures.keys) ∙ ap (λ cells. parts_fault c.args.mapping.now c.args.class c.key_attributes.result.now cells) (sym c.as_slice.ensures) ∙ sym c.in-None.ensures.fault)
