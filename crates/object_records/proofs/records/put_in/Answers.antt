use Rattle.std.proofs.Common.{◌≡◌, List, Option, ap, ◌∙◌, sym, length}
use Rattle.object_arena.specs.declared.object.Object.{Object}
use Rattle.object_arena.specs.Every.{each_placed}
use Rattle.object_arena.specs.Graph.{Graph}
use Rattle.savepoints.proofs.BackLemmas.{each_long}
use Rattle.object_records.specs.Way.{aside}
use Rattle.object_records.proofs.FreeSteps.{aside_puttable}
use Rattle.object_records.proofs.records.put_in.Goals as goal

pub put_all-requires-clause-long : goal.put_all-requires-clause-long
put_all-requires-clause-long c =
    c.requires.long ∙ sym (ap (λ (g : Graph). length g.objects) (c.step_aside.ensures.aside ∙ ap (λ (rs : List (Option Object)). each_placed (aside rs) c.args.arena.now) c.as_slice.ensures) ∙ each_long (aside c.args.records) c.args.arena.now)

pub put_all-requires-clause-puttable : goal.put_all-requires-clause-puttable
put_all-requires-clause-puttable c =
    aside_puttable c.args.arena.now c.step_aside.new.arena c.args.records (c.step_aside.ensures.aside ∙ ap (λ (rs : List (Option Object)). each_placed (aside rs) c.args.arena.now) c.as_slice.ensures) c.requires.follow c.count-count.ensures.graph.rooted
