-- One more value, behind those that are given before.
use Rattle.std.proofs.Common.{◌≡◌, [], ◌∷◌, ◌++◌, Ok, Err, refl, sym, ap, append_assoc}
use Rattle.base_core.specs.declared.ids.AttrNo.{AttrNo}
use Rattle.base_core.specs.declared.value.Value.{Value}
use Rattle.sql_semantics.specs.Checked.{Checked, ◌>>=◌}
use Rattle.command_names.specs.Attributes.{Cells}

-- the cells that come, behind those that are there
pub cells_more : (rest : Checked Cells) (cells : Cells) (cell : AttrNo × Value)
    → ((rest >>= λ more. Ok (cell ∷ more)) >>= λ more. Ok (cells ++ more)) ≡ (rest >>= λ more. Ok ((cells ++ cell ∷ []) ++ more))
cells_more (Ok more) cells cell = ap (λ list. Ok list) (sym (append_assoc cells (cell ∷ []) more))
cells_more (Err e) cells cell = refl

pub ruleset behind = (cells_more, append_assoc)
