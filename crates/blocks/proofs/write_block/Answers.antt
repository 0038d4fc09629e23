-- `blocks::write_block` meets its contract: the body, and the sums after it.
use Rattle.blocks.proofs.PutBlock.{sums_put}
use Rattle.blocks.proofs.write_block.Goals as goal

pub returns : goal.returns
returns c =
    rw (c.write_sums.ensures, c.write_body.ensures) (sums_put _ _ _ c.requires.room_len c.requires.records_len_bound)
