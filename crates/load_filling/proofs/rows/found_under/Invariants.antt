use Rattle.std.proofs.Common.{◌≡◌, ◌-◌, length}
use Rattle.std.specs.Option.{option_copied}
use Rattle.load_selects.specs.Branches.{class_numbered, is_under}
use Rattle.load_filling.specs.Rows.{has_identity}
use Rattle.load_filling.proofs.FoundLemmas.{found_from}
use Rattle.load_filling.proofs.rows.found_under.Given as goal

abbrev pub invariant-loop-number : goal.invariant-loop-number
invariant-loop-number l =
    found_from (is_under l.mapping l.class) (has_identity l.mapping (option_copied l.found)) class_numbered l.number (length l.mapping.classes.specs - l.number)
    ≡ found_from (is_under l.mapping l.class) (has_identity l.mapping (option_copied l.found)) class_numbered 0 (length l.mapping.classes.specs)
