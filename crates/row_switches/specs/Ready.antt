-- When it is known which rows of changes are switched.
use Rattle.std.specs.Prelude.{◌≡◌}
use Rattle.object_arena.specs.Fit.{IsFit}
use Rattle.flush_order.specs.Ready.{AreInRange, AreReady}
use Rattle.row_switches.specs.declared.cells.Switch.{Switch}
use Rattle.row_partners.specs.Partners.{partners}
use Rattle.row_switches.specs.Switch.{numbers_from}

-- the objects fit the mapping, the new rows are made ready, and the partners and numbers are those of the changes
pub record IsSwitch (switch : Switch) : Type 0 where
  pub fit : IsFit switch.mapping.now switch.arena.now
  pub schema : switch.new.now.schema.now ≡ switch.mapping.now.schema
  pub range : AreInRange switch.new.now.schema.now switch.new.now.changes.now
  pub ready : AreReady switch.new.now.schema.now switch.new.now.changes.now switch.new.now.rows.now
  pub partners : switch.partners.now ≡ partners switch.new.now.schema.now switch.new.now.changes.now
  pub numbers : switch.numbers.now ≡ numbers_from 0 switch.partners.now
