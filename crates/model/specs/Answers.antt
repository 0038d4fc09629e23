-- docs/RULES.md, chapters 4, 6 and 8; document 01, "Station, offset, inverse, stake-out" and "Refusal numbers": what each question is answered, refused ones
-- too. A question at a time: its formula, its order of refusals, and its answer with the paper's values.
use Rattle.std.specs.Prelude.{ℕ, ◌*◌, ◌+◌, not, ◌&&◌, List, [], ◌∷◌, ◌++◌, length, replicate, leb, ltb, eqb, ℤ, pos, neg_ℤ, nat_abs, ◌+ℤ◌, ◌-ℤ◌, ◌*ℤ◌}
use Rattle.std.specs.Int.Signed.{lt_z}
use Rattle.model.specs.declared.Element.{Element}
use Rattle.model.specs.declared.Point.{Point}
use Rattle.model.specs.declared.Refusal.{Refusal}
use Rattle.model.specs.declared.Outcome.{Outcome}
use Rattle.model.specs.declared.Outcome.TheVariants.{Done, Refused}
use Rattle.model.specs.declared.Placed.{Placed}
use Rattle.model.specs.declared.Placed.TheVariants.{At as PlacedAt, Refused as PlacedRefused}
use Rattle.model.specs.declared.Located.{Located}
use Rattle.model.specs.declared.Located.TheVariants.{At as LocatedAt, Refused as LocatedRefused}
use Rattle.model.specs.declared.Inverse.{Inverse}
use Rattle.model.specs.declared.Inverse.TheVariants.{At as InverseAt, Refused as InverseRefused}
use Rattle.model.specs.declared.Move.{Move}
use Rattle.model.specs.declared.Move.TheVariants.{By, Refused as MoveRefused}
use Rattle.model.specs.Rounding.{ONE, near}
use Rattle.model.specs.Records.{part, record_size, record_start, record_bytes, count_of}
use Rattle.model.specs.Refusals.{Rule, rule₀, verdict, not_unit, outside_frame, too_far, before_start, after_end, asked_out_of_range}
use Rattle.model.specs.Acceptance.{in_frame, is_unit, crest_rules}
use Rattle.model.specs.Crest.{Crest}
use Rattle.model.specs.Stations.{total, is_station, position_at, tangent_at, D}
use Rattle.model.specs.Judged.{judged, residual_at, offset_at, minus}
use Rattle.model.specs.Walk.{visit_count}

-- ---- the paper's number, place and values of an answer

-- "A refusal returns its number and a place .., all other numbers zero"; an answer has number 0.
pub record PaperAnswer : Type 0 where
  pub number : ℕ
  pub place : ℕ
  pub values : List ℤ

abbrev pub answered_with : List ℤ → PaperAnswer
answered_with values = record { number = 0; place = 0; values = values }

-- a refusal of a question that has n values
abbrev pub refused_with : Refusal → ℕ → PaperAnswer
refused_with r n = record { number = r.number; place = r.place; values = replicate n (pos 0) }

-- of an order that comes to this outcome, for a question that has these values
unfoldable pub paper_if : Outcome → List ℤ → PaperAnswer
paper_if Done values = answered_with values
paper_if (Refused r) values = refused_with r (length values)

-- "A C call returns the refusal number plus 256 times its place, or 0"
unfoldable pub code : PaperAnswer → ℕ
code p = p.number + 256 * p.place

-- a check and a writer have no values
unfoldable pub paper_of_outcome : Outcome → PaperAnswer
paper_of_outcome Done = answered_with []
paper_of_outcome (Refused r) = refused_with r 0

-- ---- a question

-- A question whose numbers and elements are known: its refusals in their order; where none applies its answer, and the paper's values of that; and how a refusal is answered.
pub record Question (A : Type 0) : Type 0 where
  pub order : List Rule
  pub answer : A
  pub values : List ℤ
  pub refused : Refusal → A

unfoldable pub answer_if : {A : Type 0} → Outcome → Question A → A
answer_if Done q = q.answer
answer_if (Refused r) q = q.refused r

-- "Order: .. 1; .. then 10; 11 or 15; ..": after the rules that come before its own
unfoldable pub answer_after : {A : Type 0} → List Rule → Question A → A
unfolding answer_if verdict
answer_after before q = answer_if (verdict (before ++ q.order)) q

-- the same by the paper's number, place and values
unfoldable pub paper_after : {A : Type 0} → List Rule → Question A → PaperAnswer
unfolding paper_if verdict
paper_after before q = paper_if (verdict (before ++ q.order)) q.values

-- Of a crest's elements, whose own refusals come first: "Every entry checks the alignment it is given."
abbrev pub asked : {A : Type 0} → (List Element → Question A) → Crest → A
asked question c = answer_after c.rules (question c.elements)

abbrev pub asked_paper : {A : Type 0} → (List Element → Question A) → Crest → PaperAnswer
asked_paper question c = paper_after c.rules (question c.elements)

-- on the elements of an accepted alignment, and where there is no crest
abbrev pub answer_of : {A : Type 0} → Question A → A
answer_of q = answer_after [] q

-- ---- the reader

-- "station, offset or record number out of range", after the crest's own
unfoldable pub reader_outcome : List ℕ → ℕ → Outcome
unfolding verdict crest_rules record_bytes
reader_outcome file r = verdict (crest_rules file ++ (rule₀ asked_out_of_range (ltb r (count_of (record_bytes file))) ∷ []))

-- "The reader hands back a record as that part of the lent bytes, not a copy; a refusal hands back an empty part":
-- where the part starts in the lent bytes, and its length
pub record Span : Type 0 where
  pub start : ℕ
  pub count : ℕ

unfoldable pub span_if : Outcome → ℕ → Span
span_if Done r = record { start = record_start r; count = record_size }
span_if (Refused why) r = record { start = 0; count = 0 }

unfoldable pub reader_span : List ℕ → ℕ → Span
unfolding span_if reader_outcome
reader_span file r = span_if (reader_outcome file r) r

unfoldable pub reader_part : List ℕ → ℕ → List ℕ
unfolding reader_span
reader_part file r = let span = reader_span file r in part file span.start span.count

-- ---- position and direction at a station

-- "station .. out of range"; "a position at a station isn't tested against the frame"
unfoldable pub station_rules : List Element → ℤ → List Rule
unfolding is_station
station_rules es s = rule₀ asked_out_of_range (is_station es s) ∷ []

-- X, Y, Tx, Ty
unfoldable pub station_question : ℤ → List Element → Question Placed
unfolding station_rules position_at tangent_at
station_question s es =
    let p = position_at es (nat_abs s) in
    let t = tangent_at es (nat_abs s) in
    record { order = station_rules es s; answer = PlacedAt p.x p.y t.x t.y; values = p.x ∷ p.y ∷ t.x ∷ t.y ∷ []; refused = PlacedRefused }

-- on the elements of an accepted alignment, and on a crest
abbrev pub placed_on : List Element → ℤ → Placed
placed_on es s = answer_of (station_question s es)

abbrev pub placed : Crest → ℤ → Placed
placed c s = asked (station_question s) c

unfoldable pub paper_of_placed : Placed → PaperAnswer
paper_of_placed (PlacedAt x y tx ty) = answered_with (x ∷ y ∷ tx ∷ ty ∷ [])
paper_of_placed (PlacedRefused r) = refused_with r 4

-- ---- station and offset of a point

-- "least D above 400,000,000,000,000"
abbrev pub farthest : ℕ
farthest = 400000000000000

-- "station judged 0 with residual below −100", "station judged T with residual above 100"
abbrev pub past_end : ℕ
past_end = 100

-- "11 .. ; 12; 13; 14", the last three at the station judged, s
unfoldable pub point_rules : List Element → Point → ℕ → List Rule
unfolding in_frame D residual_at total
point_rules es p s =
    rule₀ outside_frame (in_frame p.x p.y)
    ∷ rule₀ too_far (leb (D es p s) farthest)
    ∷ rule₀ before_start (not (eqb s 0 && lt_z (residual_at es p s) (neg_ℤ (pos past_end))))
    ∷ rule₀ after_end (not (eqb s (total es) && lt_z (pos past_end) (residual_at es p s)))
    ∷ []

-- "12 to 14 are decided there, and an answer gives that station." Station, offset, residual and the walk's count.
unfoldable pub point_question : Point → List Element → Question Located
unfolding point_rules judged offset_at residual_at visit_count
point_question p es =
    let s = judged es p in
    let w = offset_at es p s in
    let r = residual_at es p s in
    let n = visit_count es p in
    record { order = point_rules es p s; answer = LocatedAt s w r n; values = pos s ∷ w ∷ r ∷ pos n ∷ []; refused = LocatedRefused }

-- on the elements of an accepted alignment, and on a crest
abbrev pub located_on : List Element → Point → Located
located_on es p = answer_of (point_question p es)

abbrev pub located : Crest → Point → Located
located c p = asked (point_question p) c

-- "Every answer to a plane point carries it beside station, offset and residual; a refusal gives 0 for it"
unfoldable pub paper_of_located : Located → PaperAnswer
paper_of_located (LocatedAt station offset residual visits) = answered_with (pos station ∷ offset ∷ residual ∷ pos visits ∷ [])
paper_of_located (LocatedRefused r) = refused_with r 4

-- ---- the inverse

-- "|w| ≤ 20,000,000"
abbrev pub widest_offset : ℕ
widest_offset = 20000000

-- "Inverse of station s and offset w ..: (X − near(w·Ty, ONE), Y + near(w·Tx, ONE))."
unfoldable pub inverse_at : List Element → ℕ → ℤ → Point
unfolding position_at tangent_at near
inverse_at es s w =
    let p = position_at es s in
    let t = tangent_at es s in
    record { x = p.x -ℤ near (w *ℤ t.y) ONE; y = p.y +ℤ near (w *ℤ t.x) ONE }

-- "|w| ≤ 20,000,000"; stations run from 0 to T. "15; .. 11 for a resulting point": the point is the inverse's.
unfoldable pub line_rules : List Element → ℤ → ℤ → List Rule
unfolding is_station in_frame inverse_at
line_rules es s w =
    let q = inverse_at es (nat_abs s) w in
    rule₀ asked_out_of_range (is_station es s && leb (nat_abs w) widest_offset)
    ∷ rule₀ outside_frame (in_frame q.x q.y)
    ∷ []

-- X, Y
unfoldable pub place_question : ℤ → ℤ → List Element → Question Inverse
unfolding line_rules inverse_at
place_question s w es =
    let q = inverse_at es (nat_abs s) w in
    record { order = line_rules es s w; answer = InverseAt q.x q.y; values = q.x ∷ q.y ∷ []; refused = InverseRefused }

-- on the elements of an accepted alignment, and on a crest
abbrev pub inverse_on : List Element → ℤ → ℤ → Inverse
inverse_on es s w = answer_of (place_question s w es)

abbrev pub inverse : Crest → ℤ → ℤ → Inverse
inverse c s w = asked (place_question s w) c

unfoldable pub paper_of_inverse : Inverse → PaperAnswer
paper_of_inverse (InverseAt x y) = answered_with (x ∷ y ∷ [])
paper_of_inverse (InverseRefused r) = refused_with r 2

-- ---- the stake-out

-- "forward = near(c·dx + s·dy, ONE)", "(dx, dy) = target − own"
unfoldable pub forward_of : Point → Point → ℤ → ℤ → ℤ
unfolding near minus
forward_of own target c s = let d = minus target own in near (c *ℤ d.x +ℤ s *ℤ d.y) ONE

-- "left = near(−s·dx + c·dy, ONE)"
unfoldable pub left_of : Point → Point → ℤ → ℤ → ℤ
unfolding near minus
left_of own target c s = let d = minus target own in near (neg_ℤ s *ℤ d.x +ℤ c *ℤ d.y) ONE

-- 11 for either end of a move
abbrev pub end_rules : Point → Point → List Rule
end_rules own target = rule₀ outside_frame (in_frame own.x own.y) ∷ rule₀ outside_frame (in_frame target.x target.y) ∷ []

-- "11 ..; 7 for a heading"
unfoldable pub move_rules : Point → Point → ℤ → ℤ → List Rule
unfolding in_frame is_unit
move_rules own target c s = end_rules own target ++ (rule₀ not_unit (is_unit c s) ∷ [])

-- "Stake-out (source document 003), own point, target and heading (c, s)": forward, left
unfoldable pub move_question : Point → Point → ℤ → ℤ → Question Move
unfolding move_rules forward_of left_of
move_question own target c s =
    let f = forward_of own target c s in
    let l = left_of own target c s in
    record { order = move_rules own target c s; answer = By f l; values = f ∷ l ∷ []; refused = MoveRefused }

-- it has no crest
abbrev pub stake_out : Point → Point → ℤ → ℤ → Move
stake_out own target c s = answer_of (move_question own target c s)

unfoldable pub paper_of_move : Move → PaperAnswer
paper_of_move (By forward left) = answered_with (forward ∷ left ∷ [])
paper_of_move (MoveRefused r) = refused_with r 2
