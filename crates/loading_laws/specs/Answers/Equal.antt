-- Values that are equal as SQL sees it, and such keys.
use Rattle.std.specs.Prelude.{Bool, not, ◌&&◌, List}
use Rattle.std.specs.List.{list_all, zip}
use Rattle.base_core.specs.declared.value.Value.{Value}
use Rattle.base_core.specs.Order.{same_value}
use Rattle.schema_core.specs.Tables.{is_null}

-- a NULL equals nothing
abbrev pub are_equal : Value × Value → Bool
are_equal pair = not (is_null pair.0) && (not (is_null pair.1) && same_value pair.0 pair.1)

-- values equal those of a key, one by one
abbrev pub equals_key : List Value → List Value → Bool
equals_key values key = list_all are_equal (zip values key)
