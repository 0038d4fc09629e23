-- `blocks::write_body` meets its contract: each field is put where the one before it ends.
use Rattle.blocks.proofs.PutBlock.{fields_put}
use Rattle.blocks.proofs.write_body.Goals as goal

pub returns : goal.returns
returns c =
    rw (c.clear_at-2.ensures, c.put_u32.ensures, c.put_u16-2.ensures, c.put_u16.ensures, c.clear_at.ensures, c.copy_at.ensures)
    (fields_put _ _ _ c.requires.records_len_bound)
