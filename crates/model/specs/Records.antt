-- docs/RULES.md, chapter 2; document 01, "The crest file": fields, records, blocks and their sums. Bytes are lists of natural numbers.
use Rattle.std.specs.Prelude.{ℕ, zero, suc, ◌+◌, ◌-◌, ◌*◌, ◌/◌, ◌%◌, Bool, true, ◌&&◌, List, [], ◌∷◌, ◌++◌, length, take, drop, get_or, eqb, ℤ}
use Rattle.std.specs.Int.{w32}
use Rattle.std.proofs.Common.{to_z, of_z}

-- ---- the layout's numbers

-- "Blocks of 512 bytes"
abbrev pub block_size : ℕ
block_size = 512

-- "15 records of 32 bytes"
abbrev pub record_size : ℕ
record_size = 32

abbrev pub per_block : ℕ
per_block = 15

-- "Bytes 0 to 479 hold 15 records"
abbrev pub records_end : ℕ
records_end = 480

-- "A crest alignment is 1 to 60 elements"
abbrev pub most_records : ℕ
most_records = 60

-- "480: block number, u16, from 0. 482: records in use, u16. 484: edition, u32, is 1. 488 to 507: zero."
abbrev pub fields_at : ℕ
fields_at = 480

abbrev pub used_at : ℕ
used_at = 482

abbrev pub edition_at : ℕ
edition_at = 484

abbrev pub edition : ℕ
edition = 1

abbrev pub zeros_at : ℕ
zeros_at = 488

abbrev pub zero_count : ℕ
zero_count = 20

-- "508: A, u16, .. modulo 65,536. 510: B, u16, .. same modulus.": the sums stand last, and sum what is before them
abbrev pub sums_at : ℕ
sums_at = 508

abbrev pub sum_b_at : ℕ
sum_b_at = 510

abbrev pub sum_modulus : ℕ
sum_modulus = 65536

-- "Record: 0 kind; 1 to 3 zero; 4 length L, u32; 8 x; 12 y; 16 c; 20 s; 24 radius R in mm; 28 zero, u32."
abbrev pub kind_at : ℕ
kind_at = 0

abbrev pub first_zeros_at : ℕ
first_zeros_at = 1

abbrev pub first_zero_count : ℕ
first_zero_count = 3

abbrev pub record_length_at : ℕ
record_length_at = 4

abbrev pub x_at : ℕ
x_at = 8

abbrev pub y_at : ℕ
y_at = 12

abbrev pub c_at : ℕ
c_at = 16

abbrev pub s_at : ℕ
s_at = 20

abbrev pub radius_at : ℕ
radius_at = 24

abbrev pub last_zeros_at : ℕ
last_zeros_at = 28

abbrev pub last_zero_count : ℕ
last_zero_count = 4

-- ---- fields: "little-endian"

abbrev pub byte_at : List ℕ → ℕ → ℕ
byte_at l at = get_or l at 0

abbrev pub u16_at : List ℕ → ℕ → ℕ
u16_at l at = byte_at l at + 256 * byte_at l (at + 1)

abbrev pub u32_at : List ℕ → ℕ → ℕ
u32_at l at = byte_at l at + 256 * byte_at l (at + 1) + 65536 * byte_at l (at + 2) + 16777216 * byte_at l (at + 3)

-- two's complement: 2^31 and more are negative
abbrev pub i32_at : List ℕ → ℕ → ℤ
i32_at l at = to_z w32 (u32_at l at)

abbrev pub u16_bytes : ℕ → List ℕ
u16_bytes n = n % 256 ∷ n / 256 % 256 ∷ []

abbrev pub u32_bytes : ℕ → List ℕ
u32_bytes n = n % 256 ∷ n / 256 % 256 ∷ n / 65536 % 256 ∷ n / 16777216 % 256 ∷ []

abbrev pub i32_bytes : ℤ → List ℕ
i32_bytes z = u32_bytes (of_z w32 z)

-- the bytes from `at` on, `count` of them
abbrev pub part : List ℕ → ℕ → ℕ → List ℕ
part l at count = take count (drop at l)

-- the bytes with others written over them from `at` on
unfoldable pub put : List ℕ → ℕ → List ℕ → List ℕ
put l at bytes = take at l ++ (bytes ++ drop (at + length bytes) l)

-- a field: where it starts, and its bytes
pub record Field : Type 0 where
  pub at : ℕ
  pub bytes : List ℕ

abbrev pub field : ℕ → List ℕ → Field
field at bytes = record { at = at; bytes = bytes }

unfoldable pub put_all : List ℕ → List Field → List ℕ
unfolding put
put_all l [] = l
put_all l (f ∷ fs) = put_all (put l f.at f.bytes) fs

unfoldable pub all_zero : List ℕ → Bool
all_zero [] = true
all_zero (b ∷ l) = eqb b 0 && all_zero l

-- ---- the sums of a block

unfoldable pub sum_of : List ℕ → ℕ
sum_of [] = 0
sum_of (b ∷ l) = b + sum_of l

-- "the sum of (508 − i) times byte i", for the bytes from i on
unfoldable pub weighted_from : ℕ → List ℕ → ℕ
weighted_from i [] = 0
weighted_from i (b ∷ l) = (sums_at - i) * b + weighted_from (i + 1) l

-- "508: A, u16, the sum of bytes 0 to 507 modulo 65,536."
unfoldable pub sum_a : List ℕ → ℕ
unfolding sum_of
sum_a block = sum_of (take sums_at block) % sum_modulus

-- "510: B, u16, the sum of (508 − i) times byte i, i from 0 to 507, same modulus."
unfoldable pub sum_b : List ℕ → ℕ
unfolding weighted_from
sum_b block = weighted_from 0 (take sums_at block) % sum_modulus

-- ---- blocks of a file, and the record bytes in them

abbrev pub block_count : List ℕ → ℕ
block_count file = length file / block_size

abbrev pub block_of : List ℕ → ℕ → List ℕ
block_of file b = part file (block_size * b) block_size

-- "482: records in use, u16."
abbrev pub used_in : List ℕ → ℕ
used_in block = u16_at block used_at

-- The bytes of all used records, in order: "Bytes 0 to 479 hold 15 records of 32 bytes."
unfoldable pub used_bytes : ℕ → List ℕ → List ℕ
used_bytes zero file = []
used_bytes (suc n) file = take (record_size * used_in file) file ++ used_bytes n (drop block_size file)

unfoldable pub record_bytes : List ℕ → List ℕ
unfolding used_bytes
record_bytes file = used_bytes (block_count file) file

-- where record r, "counted from 0 over all blocks as every record number is", starts in a file
abbrev pub record_start : ℕ → ℕ
record_start r = block_size * (r / per_block) + record_size * (r % per_block)

-- ---- records as one list of bytes

abbrev pub count_of : List ℕ → ℕ
count_of records = length records / record_size

abbrev pub record_of : List ℕ → ℕ → List ℕ
record_of records r = part records (record_size * r) record_size
