pub mod Causes
mod Keyed
mod Made
mod Named
