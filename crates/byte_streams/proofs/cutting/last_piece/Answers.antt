use Rattle.std.proofs.Common.{◌<◌, length, arith}
use Rattle.std.proofs.lemmas.Bool.Decides.{nat_tests}
use Rattle.byte_streams.proofs.Pieces.{open_too_long, ended_empty, ended_is}
use Rattle.byte_streams.proofs.cutting.last_piece.Goals as goal

pub returns-then-passes_limit : goal.returns-then-passes_limit
returns-then-passes_limit c = λ more told. open_too_long c.args.bytes.now more c.args.taken c.requires.few c.requires.bare cc

pub returns-then-is_empty : goal.returns-then-is_empty
returns-then-is_empty c = λ more told. ended_empty c.args.bytes.now more c.args.taken (told cc) (grind (arith, nat_tests))

pub returns : goal.returns
returns c =
    let some : 0 < length c.args.bytes.now = grind (arith, nat_tests) in (
      grind (arith, nat_tests),
      omega arith,
      omega arith,
      omega arith,
      grind (arith, nat_tests),
      λ more told. (ended_is c.args.bytes.now more c.args.taken (told cc) some c.requires.bare cc, λ going. cc),
    )
