pub mod OneForm
pub mod OneReading
