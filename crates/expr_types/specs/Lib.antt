pub mod Level
pub mod Normal
pub mod NormalSelect
pub mod Same
