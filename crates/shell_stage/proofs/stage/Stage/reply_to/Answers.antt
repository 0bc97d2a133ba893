use Rattle.shell_stage.proofs.Told.{tellable, untold}
use Rattle.shell_stage.proofs.stage.Stage.reply_to.Goals as goal

pub returns-in-Declaring : goal.returns-in-Declaring
returns-in-Declaring c = untold c.args.answer.now c.in-Declaring.is c.requires

pub reply_of-requires : goal.reply_of-requires
reply_of-requires c = record { declared = tellable c.mapping.result.now c.args.answer.now c.in-Configured.is c.mapping.ensures c.requires }
