pub mod Reference
pub mod Tables
pub mod Calls
pub mod Entries
pub mod Runs
pub mod Lists
pub mod Laws
pub mod Ahead
