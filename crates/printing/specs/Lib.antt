-- How many bytes a line has at most, for all that print; and, for the code of this crate only, how it puts the text of document 01 into one.
pub mod Text
