-- The turns of the loop over the readings, what they are known to take and write, and a crest file that is longer than the room for it.
mod Telling
mod LongFiles
