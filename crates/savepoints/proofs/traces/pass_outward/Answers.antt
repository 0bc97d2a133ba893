use Rattle.std.proofs.Common.{ℕ, ◌<◌, ◌∙◌, length, ap, subst, arith}
use Rattle.std.specs.Prelude.{slice_set}
use Rattle.std.proofs.lemmas.List.{length-set}
use Rattle.savepoints.specs.declared.traces.Trace.{Trace}
use Rattle.savepoints.proofs.TraceLemmas.{outward_more}
use Rattle.savepoints.proofs.traces.pass_outward.Goals as goal

pub loop-place-preserved : goal.loop-place-preserved
loop-place-preserved c =
    let less : c.loop-place.place < length c.args.traces.now.items = omega (arith, c.len-place-end.ensures, c.loop-place-test.true, c.args.traces.now.ok) in (
      outward_more c.args.depth c.args.traces.now.items c.loop-place.traces.items (slice_set c.loop-place.traces.items c.loop-place.place c.outward.result) c.loop-place.place c.index.result.now less
          c.loop-place.invariant.0 c.index.ensures (ap (λ (t : Trace). slice_set c.loop-place.traces.items c.loop-place.place t) c.outward.ensures),
      length-set c.loop-place.traces.items c.loop-place.place c.outward.result ∙ c.loop-place.invariant.1,
    )
