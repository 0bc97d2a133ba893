pub mod SelectNames
pub mod BulkNames
