use Rattle.class_types.specs.Shown.{rules_of}
use Rattle.script_laws.proofs.Told.{told_hale}
use Rattle.script_laws.proofs.lines.perform_whole.Goals as goal

pub returns : goal.returns
returns g c = record {
  hale = λ hale early.
      told_hale g.K.Keeper.moment c.lines_keep_whole.ensures (rules_of c.args.hooks.now) c.args.resolved c.args.session.now c.perform.new.session c.args.keeper.now c.perform.new.keeper c.perform.result
      c.requires.ready hale early c.perform.ensures.performed.step;
}
