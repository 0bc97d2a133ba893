use Rattle.std.proofs.Common.{◌≡◌, ℕ, ◌+◌, ◌<◌, ◌≤◌, ◌++◌, ◌∷◌, [], ◌∙◌, List, Option, length, get_or, ap, sym, subst, arith}
use Rattle.std.specs.Option.{unwrap_or}
use Rattle.std.proofs.lemmas.List.{length-append}
use Rattle.object_arena.specs.declared.object.Object.{Object}
use Rattle.object_arena.specs.Graph.{Graph, no_object}
use Rattle.object_arena.specs.Identity.{id_of_place}
use Rattle.graph_flushed.specs.Flushed.{Written, object_flushed}
use Rattle.graph_flushed.specs.Ready.{IsNarrow}
use Rattle.flush_settling.specs.Ready.{written_of}
use Rattle.graph_flushed.proofs.ObjectSteps.{object_here, pushed_more, records_whole}
use Rattle.flush_settling.proofs.flushing.Flushing.records.Goals as goal

pub loop-number-preserved : goal.loop-number-preserved
loop-number-preserved c =
    let written : Written = written_of c.args.self.now in
    let graph : Graph = c.args.self.now.projection.now.arena.now in
    let here = object_here graph c.loop-number.number in
    let it : Option Object = c.in_ok-narrow_record.field-0 in (
      pushed_more (λ place record_there. unwrap_or record_there (get_or graph.objects place no_object) ≡ object_flushed written (id_of_place place) (get_or graph.objects place no_object))
          c.loop-number.records c.push.new.self c.loop-number.number it c.loop-number.invariant.2 c.in_ok-push.ensures.ok
          (subst (λ (o : Object). unwrap_or it o ≡ object_flushed written (id_of_place c.loop-number.number) o) here c.in_ok-narrow_record.ensures.object) c.loop-number.invariant.0,
      pushed_more (λ place record_there. IsNarrow (unwrap_or record_there (get_or graph.objects place no_object)))
          c.loop-number.records c.push.new.self c.loop-number.number it c.loop-number.invariant.2 c.in_ok-push.ensures.ok
          (subst (λ (o : Object). IsNarrow (unwrap_or it o)) here c.in_ok-narrow_record.ensures.narrow) c.loop-number.invariant.1,
      ap (λ (rs : List (Option Object)). length rs) c.in_ok-push.ensures.ok ∙ length-append c.loop-number.records (it ∷ []) ∙ ap (λ (n : ℕ). n + 1) c.loop-number.invariant.2,
    )

pub returns-clause-records : goal.returns-clause-records
returns-clause-records c =
    records_whole (written_of c.args.self.now) c.loop-number.records c.loop-number.number
    (subst (λ (n : ℕ). n ≤ c.loop-number.number) c.count-number-end.ensures.count c.loop-number-test.false) c.loop-number.invariant.0
