mod BulkSteps
mod Evaluated
mod Stored
mod TakenKeys
