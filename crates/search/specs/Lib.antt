pub mod Admissible
pub mod Derived
pub mod Narrowed
pub mod Objection
pub mod Listing
pub mod StableSets
