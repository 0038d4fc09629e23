-- docs/RULES.md, chapters 2 and 3; document 01, "The crest file": what the kind byte says, and the curve of each kind.
use Rattle.std.specs.Prelude.{ℕ, Bool, true, false, cond, ◌||◌, ltb, eqb}
use Rattle.model.specs.declared.Kind.{Kind}
use Rattle.model.specs.declared.Kind.TheVariants.{Line, Arc, EntrySpiral, ExitSpiral}
use Rattle.model.specs.declared.Shape.{Shape}
use Rattle.model.specs.declared.Shape.TheVariants.{Straight, Circular, Clothoid}
use Rattle.model.specs.declared.KindByte.{KindByte}
use Rattle.model.specs.declared.KindByte.TheVariants.{Damaged, Known, Later}

-- "Kinds: 0 and 16 to 255 are damage, 1 line, 2 arc, 3 entry spiral, 4 exit spiral, 5 to 15 belong to later editions."
unfoldable pub decide : ℕ → KindByte
decide byte =
    cond (eqb byte 1) (Known Line)
    (cond (eqb byte 2) (Known Arc)
    (cond (eqb byte 3) (Known EntrySpiral)
    (cond (eqb byte 4) (Known ExitSpiral)
    (cond (eqb byte 0 || ltb 15 byte) Damaged Later))))

-- "1 line, 2 arc, 3 entry spiral, 4 exit spiral": the byte that names a kind
unfoldable pub kind_byte : Kind → ℕ
kind_byte Line = 1
kind_byte Arc = 2
kind_byte EntrySpiral = 3
kind_byte ExitSpiral = 4

-- ---- the kinds by their curve: its shape, and which end is the anchor

-- "1 line, 2 arc, 3 entry spiral, 4 exit spiral": both spirals have one shape, since "entry" and "exit" say only which end is straight.
unfoldable pub shape_of : Kind → Shape
shape_of Line = Straight
shape_of Arc = Circular
shape_of EntrySpiral = Clothoid
shape_of ExitSpiral = Clothoid

-- "for an exit spiral the anchor is its far end, where it is straight; for the others its start"
unfoldable pub anchored_far : Kind → Bool
anchored_far Line = false
anchored_far Arc = false
anchored_far EntrySpiral = false
anchored_far ExitSpiral = true
