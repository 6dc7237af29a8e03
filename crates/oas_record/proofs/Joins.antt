-- The fields of two lists of parts, one after the other.
use Rattle.std.proofs.Common.{◌≡◌, ◌⊎◌, ◌<◌, ◌+◌, ℕ, IsTrue, List, [], ◌∷◌, ◌++◌, length, slice_index, inl, inr, subst, sym}
use Rattle.oas_record.specs.Faults.{NoBytes}
use Rattle.oas_record.specs.Parts.{NoInfoByte}
use Rattle.oas_record.specs.Records.{InfoFails}
use Rattle.oas_record.specs.Rows.{RecordRow, allows, Part, Field, HasFields, NoFields, switches_after}
use Rattle.oas_record.specs.Shapes.{through}
use Rattle.oas_record.specs.declared.faults.RecordBad.{RecordBad}

pub joined : (ps qs : List Part) (s t : ℕ) (bytes : List ℕ) (at : ℕ) (fs gs : List Field) (mid next : ℕ) → through ps fs s ≡ t
    → HasFields ps s bytes at fs mid → HasFields qs t bytes mid gs next → HasFields (ps ++ qs) s bytes at (fs ++ gs) next
joined [] qs s t bytes at [] gs mid next same h k =
    subst (λ n. HasFields qs n bytes at gs next) (sym same) (subst (λ n. HasFields qs t bytes n gs next) (sym h) k)
joined [] qs s t bytes at (f ∷ fs) gs mid next same h k = absurd h
joined (p ∷ ps) qs s t bytes at [] gs mid next same h k = absurd h
joined (p ∷ ps) qs s t bytes at (f ∷ fs) gs mid next same h k =
    (h.0, h.1, joined ps qs (switches_after p.form f s) t bytes h.0 fs gs mid next same h.2 k)

pub fails_first : (ps qs : List Part) (s : ℕ) (bytes : List ℕ) (at : ℕ) (bad : RecordBad) → NoFields ps s bytes at bad → NoFields (ps ++ qs) s bytes at bad
fails_first [] qs s bytes at bad h = absurd h
fails_first (p ∷ ps) qs s bytes at bad (inl h) = inl h
fails_first (p ∷ ps) qs s bytes at bad (inr h) = inr (h.0, h.1, h.2, fails_first ps qs (switches_after p.form h.0 s) bytes h.1 bad h.3)

pub fails_then : (ps qs : List Part) (s t : ℕ) (bytes : List ℕ) (at : ℕ) (fs : List Field) (mid : ℕ) (bad : RecordBad) → through ps fs s ≡ t
    → HasFields ps s bytes at fs mid → NoFields qs t bytes mid bad → NoFields (ps ++ qs) s bytes at bad
fails_then [] qs s t bytes at [] mid bad same h k =
    subst (λ n. NoFields qs n bytes at bad) (sym same) (subst (λ n. NoFields qs t bytes n bad) (sym h) k)
fails_then [] qs s t bytes at (f ∷ fs) mid bad same h k = absurd h
fails_then (p ∷ ps) qs s t bytes at [] mid bad same h k = absurd h
fails_then (p ∷ ps) qs s t bytes at (f ∷ fs) mid bad same h k =
    inr (f, h.0, h.1, fails_then ps qs (switches_after p.form f s) t bytes h.0 fs mid bad same h.2 k)

-- ---- the info byte before the fields

pub info_refused : (row : RecordRow) (bytes : List ℕ) (at : ℕ) (bad : RecordBad) → NoInfoByte row.info bytes at bad
    → NoBytes bytes at 1 bad ⊎ InfoFails row bytes at bad
info_refused row bytes at bad (inl short) = inl short
info_refused row bytes at bad (inr h) = inr (record { within = h.0; fails = inl (h.1, h.2) })

pub fields_refused : (row : RecordRow) (bytes : List ℕ) (at info : ℕ) (bad : RecordBad) → at < length bytes
    → info ≡ slice_index bytes at → IsTrue (allows row.info info)
    → NoFields row.parts info bytes (at + 1) bad → NoBytes bytes at 1 bad ⊎ InfoFails row bytes at bad
fields_refused row bytes at info bad within byte allowed f = inr (record {
  within = within;
  fails = inr (subst (λ i. IsTrue (allows row.info i)) byte allowed, subst (λ i. NoFields row.parts i bytes (at + 1) bad) byte f);
})
