mod Answered
pub mod Firsts
pub mod Equations
mod Finding
pub mod Judged
pub mod Meant
mod Placed
pub mod Readable
mod Selectable
pub mod Standing
