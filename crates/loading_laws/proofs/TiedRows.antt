pub mod Behind
pub mod Sources
pub mod Ranked
pub mod Owners
pub mod Partnered
pub mod EachKind
pub mod Options
pub mod Joined
