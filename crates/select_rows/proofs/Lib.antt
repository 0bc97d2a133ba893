pub mod Declared
pub mod Surveys
pub mod ItemKinds
pub mod Items
pub mod NotNull
mod OfChosen
pub mod ValueKinds
pub mod Refused
pub mod Shapes
