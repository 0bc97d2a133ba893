-- Steps of loops over what is left of a list.
pub use Rattle.class_blocks.proofs.Steps.{left_at, numbered_at}

pub ruleset steps = (left_at, numbered_at)
