pub mod Steps
pub mod DeclareLemmas
