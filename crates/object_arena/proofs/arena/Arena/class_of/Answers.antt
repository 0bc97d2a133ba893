use Rattle.object_arena.proofs.RowLemmas.{key_is}
use Rattle.object_arena.proofs.arena.Arena.class_of.Goals as goal

pub returns-clause-keys : goal.returns-clause-keys
returns-clause-keys c = λ mapped key plain. key_is mapped c.index.result.now.class key plain
