use Rattle.std.proofs.Common.{◌≡◌, true}
use Rattle.keeper_calls.proofs.playing.play_attached.Given as goal

abbrev pub invariant-loop-line : goal.invariant-loop-line
invariant-loop-line g l = (g.K.Keeper.moment l.keeper).attached ≡ true
