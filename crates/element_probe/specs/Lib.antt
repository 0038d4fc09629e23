-- For the measurement only: sums over positions and over whole square roots.
pub mod Sums
