-- What a C call returns, in 32 bits, and the two numbers that it writes side by side.
use Rattle.std.specs.Prelude.{ℕ, ◌+◌, ◌≤◌, List, ◌≡◌, ℤ}
use Rattle.std.specs.Int.{w32}
use Rattle.std.proofs.Common.{SFits}
use Rattle.model.specs.declared.Move.{Move}
use Rattle.model.specs.declared.Move.TheVariants.{By}
use Rattle.model.specs.Records.{most_records, put, i32_bytes}
use Rattle.model.specs.Refusals.{last_number}
use Rattle.model.specs.Answers.{PaperAnswer, paper_of_move}

-- an answer or a refusal whose number is one of the table's, and whose place is a block or a record of a crest
pub record Codable (p : PaperAnswer) : Type 0 where
  pub number : p.number ≤ last_number
  pub place : p.place ≤ most_records

-- a move whose two values are numbers of 32 bits, or a refusal that has a code
pub record Movable (m : Move) : Type 0 where
  pub coded : Codable (paper_of_move m)
  pub values : {forward left : ℤ} → m ≡ By forward left → SFits w32 forward × SFits w32 left

-- two i32, one after the other at any place: 4 is the bytes of an i32, as in `i32_bytes`
abbrev pub put_two : List ℕ → ℕ → ℤ → ℤ → List ℕ
put_two l at a b = put (put l at (i32_bytes a)) (at + 4) (i32_bytes b)
