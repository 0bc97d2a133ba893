use Rattle.std.proofs.Common.{◌≤◌, arith}
use Rattle.std.proofs.lemmas.Bool.Decides.{nat_tests}
use Rattle.std.proofs.lemmas.List.{length-take}
use Rattle.byte_streams.proofs.Pieces.{whole_too_long, whole_is, has_more}
use Rattle.byte_streams.proofs.cutting.whole_piece.Goals as goal

pub returns-then-passes_limit : goal.returns-then-passes_limit
returns-then-passes_limit c = λ more told. whole_too_long c.args.bytes.now more c.args.taken c.args.place c.requires.first c.requires.within cc

pub returns : goal.returns
returns c =
    let fits : c.without_return.result ≤ c.args.place = omega (arith, length-take c.args.place c.args.bytes.now) in (
      grind (arith, nat_tests),
      omega arith,
      omega arith,
      omega arith,
      grind (arith, nat_tests),
      λ more told. (whole_is c.args.bytes.now more c.args.taken c.args.place c.without_return.result c.requires.first c.requires.within fits c.without_return.ensures.front cc, λ going. has_more c.args.bytes.now more (omega arith)),
    )
