pub mod Capped
pub mod TokensGo
