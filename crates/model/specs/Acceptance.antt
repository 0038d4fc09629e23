-- docs/RULES.md, chapters 1, 2 and 8; document 01, "The crest file" and "Refusal numbers": when a block, a record, a join and a file are accepted, in this order.
use Rattle.std.specs.Prelude.{ℕ, zero, suc, ◌+◌, ◌-◌, ◌*◌, ◌^◌, Bool, true, false, not, cond, ◌&&◌, ◌||◌, List, [], ◌∷◌, ◌++◌, length, replicate, leb, eqb, ℤ, pos, nat_abs, ◌+ℤ◌, ◌-ℤ◌, ◌*ℤ◌}
use Rattle.model.specs.declared.Kind.{Kind}
use Rattle.model.specs.declared.Kind.TheVariants.{Line}
use Rattle.model.specs.declared.Shape.{Shape}
use Rattle.model.specs.declared.Shape.TheVariants.{Straight, Circular, Clothoid}
use Rattle.model.specs.declared.KindByte.{KindByte}
use Rattle.model.specs.declared.KindByte.TheVariants.{Damaged, Known, Later}
use Rattle.model.specs.declared.Element.{Element}
use Rattle.model.specs.declared.Point.{Point}
use Rattle.model.specs.Kinds.{decide, kind_byte, shape_of}
use Rattle.model.specs.Records.{byte_at, u16_at, u32_at, i32_at, u32_bytes, i32_bytes, part, all_zero, sum_a, sum_b, block_size, record_size, per_block, fields_at, edition_at, edition, zeros_at, zero_count, sums_at, sum_b_at, kind_at, first_zeros_at, first_zero_count, record_length_at, x_at, y_at, c_at, s_at, radius_at, last_zeros_at, last_zero_count, block_count, block_of, used_in, record_bytes, count_of, record_of, most_records}
use Rattle.model.specs.Refusals.{Rule, rule, rule₀, for_each, byte_count, checksum, block_field, damaged_record, later_kind, field_out_of_range, not_unit, gap, kink}
use Rattle.model.specs.Series.{whole_length, position_on, tangent_on}

-- ---- the limits

-- "L from 1 to 500,000"
abbrev pub longest_element : ℕ
longest_element = 500000

-- "A crest alignment is 1 to 60 elements": so long in all, at the most
abbrev pub longest_alignment : ℕ
longest_alignment = most_records * longest_element

-- "x and y within ±200,000,000", and "The frame: every given point lies within ±200,000,000 in both coordinates."
abbrev pub frame : ℕ
frame = 200000000

-- "|R| ≤ 10,000,000"
abbrev pub widest : ℕ
widest = 10000000

-- "c² + s² at most 2^31 from 2^60"
abbrev pub unit_square : ℕ
unit_square = 2 ^ 60

abbrev pub unit_slack : ℕ
unit_slack = 2 ^ 31

-- "differ by at most 100 grains in each coordinate"
abbrev pub widest_gap : ℕ
widest_gap = 100

-- "and their directions by at most 1,000,000 in each component"
abbrev pub widest_kink : ℕ
widest_kink = 1000000

-- ---- a block, in its file

-- "byte count not 512, 1024, 1536 or 2048"
unfoldable pub length_fits : ℕ → Bool
length_fits n = eqb n block_size || eqb n (2 * block_size) || eqb n (3 * block_size) || eqb n (4 * block_size)

-- "a block's A or B is wrong"
unfoldable pub sums_agree : List ℕ → Bool
unfolding sum_a sum_b
sums_agree block = eqb (u16_at block sums_at) (sum_a block) && eqb (u16_at block sum_b_at) (sum_b block)

-- "Every block but the last uses 15 records, the last 1 to 15": of block b of n
unfoldable pub use_fits : ℕ → ℕ → ℕ → Bool
use_fits n b used = cond (eqb (b + 1) n) (leb 1 used && leb used per_block) (eqb used per_block)

-- "480: block number, u16, from 0. 482: records in use, u16. 484: edition, u32, is 1. 488 to 507: zero. .. unused records are zero."
unfoldable pub fields_fit : ℕ → ℕ → List ℕ → Bool
unfolding use_fits all_zero
fields_fit n b block =
    eqb (u16_at block fields_at) b
    && use_fits n b (used_in block)
    && eqb (u32_at block edition_at) edition
    && all_zero (part block zeros_at zero_count)
    && all_zero (part block (record_size * used_in block) (fields_at - record_size * used_in block))

-- "2 for all blocks", with its place, "block for 2, 3": of block b
unfoldable pub sum_rules : List ℕ → ℕ → List Rule
unfolding sums_agree
sum_rules file b = rule checksum b (sums_agree (block_of file b)) ∷ []

-- "3 for all", with the same place
unfoldable pub field_rules : List ℕ → ℕ → List Rule
unfolding fields_fit
field_rules file b = rule block_field b (fields_fit (block_count file) b (block_of file b)) ∷ []

-- ---- a record, as an element

-- "0 and 16 to 255 are damage"
unfoldable pub is_damaged : KindByte → Bool
is_damaged Damaged = true
is_damaged (Known k) = false
is_damaged Later = false

-- "5 to 15 belong to later editions"
unfoldable pub is_later : KindByte → Bool
is_later Damaged = false
is_later (Known k) = false
is_later Later = true

-- the kind that a byte names; a byte that names none is refused before its element is used
unfoldable pub kind_in : KindByte → Kind
kind_in Damaged = Line
kind_in (Known k) = k
kind_in Later = Line

-- "Record: 0 kind; 1 to 3 zero; 4 length L, u32; 8 x; 12 y; 16 c; 20 s; 24 radius R in mm; 28 zero, u32. x, y, c, s and R are i32."
unfoldable pub element_of : List ℕ → Element
unfolding kind_in decide
element_of r = record { kind = kind_in (decide (byte_at r kind_at)); length = u32_at r record_length_at; x = i32_at r x_at; y = i32_at r y_at; c = i32_at r c_at; s = i32_at r s_at; radius = i32_at r radius_at }

-- the same fields, in their order, and the bytes that they make of an element
abbrev pub record_fields : ℕ → List ℕ → List ℕ → List ℕ → List ℕ → List ℕ → List ℕ → List ℕ → List ℕ → List ℕ
record_fields kind zeros long x y c s radius end = kind ∷ (zeros ++ (long ++ (x ++ (y ++ (c ++ (s ++ (radius ++ end)))))))

unfoldable pub element_bytes : Element → List ℕ
unfolding kind_byte
element_bytes e =
    record_fields (kind_byte e.kind) (replicate first_zero_count 0) (u32_bytes e.length) (i32_bytes e.x) (i32_bytes e.y) (i32_bytes e.c) (i32_bytes e.s) (i32_bytes e.radius) (replicate last_zero_count 0)

-- ---- a record, by itself

-- "a nonzero byte 1 to 3 or 28 to 31 of a used record"
unfoldable pub reserved_zero : List ℕ → Bool
unfolding all_zero
reserved_zero r = all_zero (part r first_zeros_at first_zero_count) && all_zero (part r last_zeros_at last_zero_count)

-- "The frame: every given point lies within ±200,000,000 in both coordinates."
unfoldable pub in_frame : ℤ → ℤ → Bool
in_frame x y = leb (nat_abs x) frame && leb (nat_abs y) frame

-- "L from 1 to 500,000"
unfoldable pub length_good : ℕ → Bool
length_good l = leb 1 l && leb l longest_element

-- "line R = 0; arc 2L ≤ |R| ≤ 10,000,000; spiral L ≤ |R| ≤ 10,000,000"
unfoldable pub radius_good : Shape → ℕ → ℕ → Bool
radius_good Straight l r = eqb r 0
radius_good Circular l r = leb (2 * l) r && leb r widest
radius_good Clothoid l r = leb l r && leb r widest

-- "length, radius, x or y out of range", where x and y are "within ±200,000,000"
unfoldable pub ranges_good : Element → Bool
unfolding length_good radius_good shape_of in_frame
ranges_good e = length_good e.length && radius_good (shape_of e.kind) (whole_length e) (nat_abs e.radius) && in_frame e.x e.y

-- "Direction: c² + s² at most 2^31 from 2^60."
unfoldable pub is_unit : ℤ → ℤ → Bool
is_unit c s = leb (nat_abs (c *ℤ c +ℤ s *ℤ s -ℤ pos unit_square)) unit_slack

-- "record by record its kind, reserved bytes, 6, 7": of record r with its bytes
unfoldable pub record_rules : List ℕ → ℕ → List Rule
unfolding is_damaged is_later reserved_zero ranges_good is_unit element_of decide
record_rules this r =
    let e = element_of this in
    rule damaged_record r (not (is_damaged (decide (byte_at this kind_at))))
    ∷ rule later_kind r (not (is_later (decide (byte_at this kind_at))))
    ∷ rule damaged_record r (reserved_zero this)
    ∷ rule field_out_of_range r (ranges_good e)
    ∷ rule not_unit r (is_unit e.c e.s)
    ∷ []

-- ---- a join

-- both coordinates, or both components, differ by at most n
unfoldable pub close_by : ℕ → Point → Point → Bool
close_by n p q = leb (nat_abs (p.x -ℤ q.x)) n && leb (nat_abs (p.y -ℤ q.y)) n

-- "At each join the last position of an element and the first of the next differ by at most 100 grains in each coordinate"
unfoldable pub meets : Element → Element → Bool
unfolding close_by position_on
meets e f = close_by widest_gap (position_on e e.length) (position_on f 0)

-- "and their directions by at most 1,000,000 in each component"
unfoldable pub continues : Element → Element → Bool
unfolding close_by tangent_on
continues e f = close_by widest_kink (tangent_on e e.length) (tangent_on f 0)

-- "then joins from the first, 8 before 9", "earlier record for 8, 9"
unfoldable pub join_rules : Element → Element → ℕ → List Rule
unfolding meets continues
join_rules e f r = rule gap r (meets e f) ∷ rule kink r (continues e f) ∷ []

-- ---- a file: its blocks, then its records and their joins

-- "1; 2 for all blocks; 3 for all"
unfoldable pub blocks_rules : List ℕ → List Rule
unfolding length_fits for_each sum_rules field_rules
blocks_rules file =
    rule₀ byte_count (length_fits (length file)) ∷ (for_each (sum_rules file) (block_count file) 0 ++ for_each (field_rules file) (block_count file) 0)

-- the element of record r of record bytes
unfoldable pub element_at : List ℕ → ℕ → Element
unfolding element_of
element_at bytes r = element_of (record_of bytes r)

-- "record by record its kind, reserved bytes, 6, 7", of record bytes
unfoldable pub each_record : List ℕ → List Rule
unfolding for_each record_rules
each_record bytes = for_each (λ r. record_rules (record_of bytes r) r) (count_of bytes) 0

-- "then joins from the first", of their elements
unfoldable pub each_join : List ℕ → List Rule
unfolding for_each join_rules element_at
each_join bytes = for_each (λ r. join_rules (element_at bytes r) (element_at bytes (r + 1)) r) (count_of bytes - 1) 0

-- 4 to 9 on record bytes
unfoldable pub records_rules : List ℕ → List Rule
unfolding each_record each_join
records_rules bytes = each_record bytes ++ each_join bytes

-- "Order: .. 1; 2 for all blocks; 3 for all; then record by record ..; then joins"
unfoldable pub crest_rules : List ℕ → List Rule
unfolding blocks_rules records_rules record_bytes
crest_rules file = blocks_rules file ++ records_rules (record_bytes file)

-- ---- its elements

-- the elements of n records from r on
unfoldable pub elements_from : ℕ → ℕ → List ℕ → List Element
unfolding element_at
elements_from zero r bytes = []
elements_from (suc n) r bytes = element_at bytes r ∷ elements_from n (r + 1) bytes

-- the elements of record bytes
unfoldable pub elements_of : List ℕ → List Element
unfolding elements_from
elements_of bytes = elements_from (count_of bytes) 0 bytes

-- "A crest alignment is 1 to 60 elements read from blocks."
unfoldable pub crest_elements : List ℕ → List Element
unfolding elements_of record_bytes
crest_elements file = elements_of (record_bytes file)

-- the bytes of elements, record by record
unfoldable pub elements_bytes : List Element → List ℕ
elements_bytes [] = []
elements_bytes (e ∷ es) = element_bytes e ++ elements_bytes es
