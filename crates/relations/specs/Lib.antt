pub mod Parents
pub mod Keys
pub mod Mirror
pub mod Places
pub mod Fits
pub mod Calls
