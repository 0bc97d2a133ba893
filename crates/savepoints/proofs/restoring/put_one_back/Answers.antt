use Rattle.std.proofs.Common.{◌-◌, List, refl, sym, subst}
use Rattle.std.specs.List.{All}
use Rattle.std.proofs.lemmas.List.Elements.{All-set}
use Rattle.savepoints.specs.declared.scope.Standing.{Standing}
use Rattle.savepoints.specs.Scopes.{IsStanding, made_since}
use Rattle.savepoints.proofs.restoring.put_one_back.Goals as goal

pub returns-then-place-len-clause-sound : goal.returns-then-place-len-clause-sound
returns-then-place-len-clause-sound c =
    subst (λ (xs : List Standing). All IsStanding xs) (sym c.take_standing.ensures.taken) (All-set IsStanding c.args.scope.now.standings (c.args.object.0 - 1) made_since refl c.requires.sound)
