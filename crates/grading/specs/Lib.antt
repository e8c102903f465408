pub mod Laid
pub mod Ranks
pub mod Meaning
