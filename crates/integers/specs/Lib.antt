-- What the contracts of this crate cite: `model` defines its own terms by Floor, Root and Plane; Signs is for the code only.
pub mod Floor
pub mod Signs
pub mod Root
pub mod Plane
