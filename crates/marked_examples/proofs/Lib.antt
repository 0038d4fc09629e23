-- The marked examples, the printed one among them, and the programs shut out by name.
pub mod Examples
pub mod Program
pub mod WrongPrograms
pub mod SightingExample
