use Rattle.std.proofs.Common.{refl}
use Rattle.object_arena.proofs.ClassLemmas.{classes_set}
use Rattle.object_arena.proofs.FitLemmas.{fit_registered}
use Rattle.object_arena.proofs.arena.Arena.register.Goals as goal

pub returns-clause-keeps : goal.returns-clause-keeps
returns-clause-keeps c = record {
  fits = λ mapped good fit. fit_registered mapped c.args.self.now c.settle_identity.new.self c.args.object c.args.key c.requires c.settle_identity.ensures fit good;
  classes = classes_set c.args.self.now c.settle_identity.new.self c.args.object _ refl c.settle_identity.ensures;
}
