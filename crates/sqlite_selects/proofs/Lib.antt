pub mod Items
mod Reading
