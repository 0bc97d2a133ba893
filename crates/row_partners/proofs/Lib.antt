pub mod PartnerSteps
