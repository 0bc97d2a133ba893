use Rattle.std.proofs.Common.{◌≡◌, ◌∙◌, ap, subst, sym}
use Rattle.std.specs.List.{All}
use Rattle.object_arena.specs.Graph.{Graph}
use Rattle.savepoints.specs.Scopes.{HasKeys, put_back_all}
use Rattle.savepoints.specs.Restoring.{IsFree}
use Rattle.savepoints.proofs.BackLemmas.{free_back, free_left}
use Rattle.savepoints.proofs.KeyLemmas.{keys_kept}
use Rattle.savepoints.proofs.restoring.put_back_all.Goals as goal

pub put_each_back-requires-clause-free : goal.put_each_back-requires-clause-free
put_each_back-requires-clause-free c = subst (λ (g : Graph). All IsFree g.objects) (sym c.set_all_free.ensures.free) (free_left c.args.arena.now)

pub returns-clause-back : goal.returns-clause-back
returns-clause-back c = c.put_each_back.ensures.back ∙ ap (put_back_all c.args.scope c.args.traces.now) c.set_all_free.ensures.free ∙ free_back c.args.scope c.args.traces.now c.args.arena.now

pub returns-clause-keeps : goal.returns-clause-keeps
returns-clause-keeps c = record {
  fits = λ mapped has fit.
      c.put_each_back.ensures.keeps.fits mapped (keys_kept mapped c.args.arena.now c.set_all_free.new.arena c.args.scope c.set_all_free.ensures.keeps.classes has) (c.set_all_free.ensures.keeps.fits mapped fit);
  classes = c.put_each_back.ensures.keeps.classes ∙ c.set_all_free.ensures.keeps.classes;
}
