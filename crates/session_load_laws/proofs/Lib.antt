pub mod Laws
pub mod Going
pub mod Expiring
pub mod Expiry
pub mod Anew
pub mod Readings
