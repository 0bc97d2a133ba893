-- What lines of a script can say of expressions and statements: `and` and `or` join two parts or more, NULL is no literal, and a
-- number of rows is less than 2^63.
use Rattle.std.specs.Prelude.{Bool, true, ◌&&◌, nat_lt, length, Option, None, Some}
use Rattle.std.specs.List.{list_all}
use Rattle.sql_semantics.specs.Plain.{is_given, is_limit}
use Rattle.script_types.specs.declared.expression.Syn.{Syn}
use Rattle.script_types.specs.declared.expression.Syn.TheOpen.{Syn-F}
use Rattle.script_types.specs.declared.expression.Syn.TheFolds.{fold-Syn}
use Rattle.script_types.specs.declared.select.SynSelect.{SynSelect}
use Rattle.script_types.specs.declared.select.SynBulk.{SynBulk}
use Rattle.script_types.specs.declared.select.SynBulk.TheVariants.{Insert, Update, Delete}
use Rattle.script_names.specs.Parts.{operands}

-- one level alone
abbrev pub can_stand : {A : Type 0} → Syn-F A → Bool
can_stand (Syn-F.And parts) = nat_lt 1 (length parts)
can_stand (Syn-F.Or parts) = nat_lt 1 (length parts)
can_stand (Syn-F.Lit value) = is_given value
can_stand (Syn-F.InList negated a values) = list_all is_given values
can_stand level = true

abbrev pub sayable_level : Syn-F Bool → Bool
sayable_level level = can_stand level && list_all (λ holds. holds) (operands level)

-- a line can say the expression
unfoldable pub is_sayable : Syn → Bool
is_sayable = fold-Syn Bool sayable_level

-- the same of one that may be left out
abbrev pub is_sayable_if_given : Option Syn → Bool
is_sayable_if_given None = true
is_sayable_if_given (Some e) = is_sayable e

-- a line can say the select
abbrev pub is_sayable_select : SynSelect → Bool
is_sayable_select s =
    list_all (λ item. is_sayable item.0) s.items && list_all (λ join. is_sayable join.on) s.joins && is_sayable_if_given s.filter
    && list_all is_sayable s.groups && is_sayable_if_given s.having && list_all (λ key. is_sayable key.0) s.order
    && is_limit s.limit && is_limit s.offset

-- a line can say the bulk statement
abbrev pub is_sayable_bulk : SynBulk → Bool
is_sayable_bulk (Insert table columns values) = true
is_sayable_bulk (Update table cells filter) = list_all (λ cell. is_sayable_if_given cell.1) cells && is_sayable_if_given filter
is_sayable_bulk (Delete table filter) = is_sayable_if_given filter
