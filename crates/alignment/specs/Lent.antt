-- Document 01, "The crest file": "The reader hands back a record as that part of the lent bytes, not a copy".
use Rattle.std.specs.Prelude.{ℕ, ◌+◌, List, ◌≡◌, length}
use Rattle.std.specs.Borrow.{Bor}
use Rattle.model.specs.Records.{part}
use Rattle.model.specs.Answers.{Span}

-- p is the part of the lent bytes that a span names: its bytes, how many they are, and where they lie. A pointer is a block of memory and an offset in it.
pub record Lent (bytes : Bor (List ℕ)) (span : Span) (p : Bor (List ℕ)) : Type 0 where
  pub content : p.now ≡ part bytes.now span.start span.count
  pub count : length p.now ≡ span.count
  pub place : p.ref_ptr ≡ (bytes.ref_ptr.0, span.start + bytes.ref_ptr.1)
