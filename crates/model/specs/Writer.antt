-- docs/RULES.md, chapters 2 and 8; document 01, "The crest file" and "Refusal numbers": the one file of record bytes, and what the writer leaves in its room.
use Rattle.std.specs.Prelude.{ℕ, zero, suc, ◌+◌, ◌-◌, ◌*◌, ◌/◌, ◌%◌, Bool, ◌&&◌, List, [], ◌∷◌, ◌++◌, length, take, drop, replicate, leb, eqb}
use Rattle.model.specs.declared.Outcome.{Outcome}
use Rattle.model.specs.declared.Outcome.TheVariants.{Done, Refused}
use Rattle.model.specs.Records.{block_size, record_size, most_records, edition, zero_count, records_end, fields_at, per_block, put, u16_bytes, u32_bytes, sum_a, sum_b, count_of}
use Rattle.model.specs.Refusals.{Rule, rule₀, verdict, record_count, wrong_room}
use Rattle.model.specs.Acceptance.{records_rules}

-- ---- the one file

-- Bytes 0 to 507 of block b, whose records are the given bytes, 15 at most: the records, zero up to 480, "480: block number .. 482: records in use .. 484: edition, u32, is 1. 488 to 507: zero."
unfoldable pub block_body : ℕ → List ℕ → List ℕ
block_body b records =
    records ++ (replicate (fields_at - length records) 0 ++ (u16_bytes b ++ (u16_bytes (count_of records) ++ (u32_bytes edition ++ replicate zero_count 0))))

-- "508: A .. 510: B": the body with its two sums
unfoldable pub with_sums : List ℕ → List ℕ
unfolding sum_a sum_b
with_sums body = body ++ (u16_bytes (sum_a body) ++ u16_bytes (sum_b body))

unfoldable pub block : ℕ → List ℕ → List ℕ
unfolding with_sums block_body
block b records = with_sums (block_body b records)

-- "Every block but the last uses 15 records, the last 1 to 15": the blocks from b on, n of them
unfoldable pub blocks_from : ℕ → ℕ → List ℕ → List ℕ
unfolding block
blocks_from zero b records = []
blocks_from (suc n) b records = block b (take records_end records) ++ blocks_from n (b + 1) (drop records_end records)

-- "the blocks needed": as many as hold the records, 15 in each
abbrev pub blocks_needed : List ℕ → ℕ
blocks_needed records = (count_of records + (per_block - 1)) / per_block

-- the one file of these records; demand 2: "the file of a crest is the one file possible"
unfoldable pub file_of : List ℕ → List ℕ
unfolding blocks_from
file_of records = blocks_from (blocks_needed records) 0 records

-- ---- the writer

-- "writer's record bytes not 32 times 1 to 60"
unfoldable pub count_fits : ℕ → Bool
count_fits n = eqb (n % record_size) 0 && leb 1 (n / record_size) && leb (n / record_size) most_records

-- "The writer gives 17, 4 to 9, 18": for room of the given length
unfoldable pub writer_rules : List ℕ → ℕ → List Rule
unfolding count_fits records_rules
writer_rules records room =
    rule₀ record_count (count_fits (length records))
    ∷ (records_rules records ++ (rule₀ wrong_room (leb (block_size * blocks_needed records) room) ∷ []))

unfoldable pub writer_outcome : List ℕ → ℕ → Outcome
unfolding verdict writer_rules
writer_outcome records room = verdict (writer_rules records room)

-- "and writes only the needed blocks": what the room holds afterwards; a refusal leaves it as it came.
unfoldable pub room_after : Outcome → List ℕ → List ℕ → List ℕ
unfolding file_of put
room_after Done records room = put room 0 (file_of records)
room_after (Refused r) records room = room

unfoldable pub written : List ℕ → List ℕ → List ℕ
unfolding writer_outcome room_after
written records room = room_after (writer_outcome records (length room)) records room
