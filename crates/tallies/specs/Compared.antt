-- The tallies of the program: a difference is counted, and cannot be lost.
use Rattle.std.specs.Prelude.{ℕ, ◌+◌, ◌%◌, ◌^◌, Bool, cond, List, replicate, nat_le, slice_index_or, slice_set}
use Rattle.tallies.specs.declared.Tally.{Tally}
use Rattle.tallies.specs.declared.Tallies.{Tallies}

-- the sorts that have a tally of their own, at their number: 1 to 9
abbrev pub sorts : ℕ
sorts = 9

-- where the tally of a sort stands: at 0 for any other
abbrev pub tally_of : ℕ → ℕ
tally_of sort = cond (nat_le sort sorts) sort 0

-- a count that is held in 64 bits, with one more
abbrev pub one_more : ℕ → ℕ
one_more n = (n + 1) % 2 ^ 64

abbrev pub nothing : Tally
nothing = record { done = 0; differ = 0 }

abbrev pub nothing_compared : Tallies
nothing_compared = record { right = replicate (sorts + 1) nothing; wrong = replicate (sorts + 1) nothing }

-- one comparison more: whether both were the same
unfoldable pub compared : Tally → Bool → Tally
compared t same = record { done = one_more t.done; differ = cond same t.differ (one_more t.differ) }

-- the same in the tally at k; the others stay
abbrev pub in_tally : ℕ → List Tally → Bool → List Tally
in_tally k l same = slice_set l k (compared (slice_index_or l k nothing) same)

-- with a row that is wrong, or with one that is right
unfoldable pub counted_at : ℕ → Bool → Tallies → Bool → Tallies
counted_at k wrong t same =
    record { right = cond wrong t.right (in_tally k t.right same); wrong = cond wrong (in_tally k t.wrong same) t.wrong }
