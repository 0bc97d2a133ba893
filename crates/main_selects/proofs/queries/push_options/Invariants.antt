use Rattle.std.proofs.Common.{◌≡◌, fold, drop}
use Rattle.main_selects.specs.MainSelect.{with_joined}
use Rattle.main_selects.proofs.queries.push_options.Given as goal

abbrev pub invariant-loop-place : goal.invariant-loop-place
invariant-loop-place l =
    fold (with_joined l.mapping l.class) l.select (drop l.place-index l.places)
    ≡ fold (with_joined l.mapping l.class) l.fn.select l.places
