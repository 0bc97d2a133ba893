use Rattle.std.proofs.Common.{rules}
use Rattle.pair_rows.specs.Pairs.{lost_row}
use Rattle.pair_rows.proofs.FirstLemmas.{firsts_end, firsts_more}
use Rattle.pair_rows.proofs.rows.first_rows.Goals as goal

pub loop-pair-preserved : goal.loop-pair-preserved
loop-pair-preserved c = record {
  left =
      firsts_more c.args.projection.now.mapping.now.schema (lost_row c.args.projection.now.mapping.now c.args.projection.now.arena.now) c.args.pairs.now c.loop-pair.pair-index _ c.in_ok-row.row c.loop-pair.rows c.keep_first.new.rows
      c.loop-pair-test.true (search rules) c.in_ok-row.ensures c.in_ok-keep_first.ensures.rows c.loop-pair.invariant.left;
  seen = c.in_ok-keep_first.ensures.places;
}

pub returns : goal.returns
returns c = firsts_end c.args.projection.now.mapping.now.schema (lost_row c.args.projection.now.mapping.now c.args.projection.now.arena.now) c.args.pairs.now c.loop-pair.pair-index c.loop-pair.rows c.loop-pair-test.false c.loop-pair.invariant.left
