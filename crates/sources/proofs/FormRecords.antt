-- The bytes of each form, once the rules of the layout hold: there are 1 to 60 records, and record r is 32 of the lent bytes themselves.
use Prim.Native.Nat.{ℕ, ◌+◌, ◌≤◌, ◌<◌}
use mathlib.Core.Bool.{true}
use mathlib.Core.List.{List}
use mathlib.Core.Path.{◌≡◌, refl, ap, ◌∙◌}
use native.Mathlib.Omega.{arith}
use lib.ListN.{length}
use Rattle.model.specs.Records.{record_size, most_records, part, record_of}
use Rattle.model.specs.Writer.{count_fits}
use Rattle.model.proofs.Verdict.{done→all}
use Rattle.fields.proofs.PartsOf.{length_part}
use Rattle.model.proofs.ForEach.{holds_one}
use Rattle.crestfile.proofs.SoundFile.{blocks→sound_file, count_fits_lem, sound_file_count}
use Rattle.crestfile.proofs.Part.{record_within}
use Rattle.sources.specs.declared.Form.{Form}
use Rattle.sources.specs.declared.Form.TheVariants.{File, Row}
use Rattle.sources.specs.Sources.{layout_rules, records_in, count_in, start_in, Readable}

pub records_fit : (form : Form) (crest amendment : List ℕ) → Readable form crest amendment → count_fits (length (records_in form crest amendment)) ≡ true
unfolding layout_rules records_in
records_fit File crest amendment e = (sound_file_count (blocks→sound_file crest e)).0
records_fit Row crest amendment e = holds_one (done→all _ e)

pub records_counted : (form : Form) (crest amendment : List ℕ) → Readable form crest amendment → (1 ≤ count_in form crest amendment) × (count_in form crest amendment ≤ most_records)
records_counted form crest amendment e =
    let k = (count_fits_lem (length (records_in form crest amendment))).0 (records_fit form crest amendment e) in
    (omega (arith, k.0.1), k.1)

-- record r where it lies
pub record_lies : (form : Form) (crest amendment : List ℕ) (r : ℕ) → Readable form crest amendment → r < count_in form crest amendment →
    (start_in form r + record_size ≤ length crest) × (part crest (start_in form r) record_size ≡ record_of (records_in form crest amendment) r)
unfolding layout_rules records_in start_in
record_lies File crest amendment r e h = let w = record_within crest r e h in (w.1, w.0)
record_lies Row crest amendment r e h = (omega arith, refl)

-- so what the way to record r asks holds, and the part that it finds is the record and has 32 bytes
module _ (form : Form) (crest amendment : List ℕ) (r : ℕ) (asked : Readable form crest amendment × (r < count_in form crest amendment)) where
  pub way_asks : (r < most_records) × (start_in form r + record_size ≤ length crest)
  way_asks = (omega (arith, records_counted form crest amendment asked.0), (record_lies form crest amendment r asked.0 asked.1).0)

  pub part_is_record : {p : List ℕ} → p ≡ part crest (start_in form r) record_size → (p ≡ record_of (records_in form crest amendment) r) × (length p ≡ record_size)
  part_is_record q = (q ∙ (record_lies form crest amendment r asked.0 asked.1).1, ap length q ∙ length_part crest (start_in form r) record_size way_asks.1)
