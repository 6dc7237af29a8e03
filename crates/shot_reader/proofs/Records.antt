-- What a record's bytes say of its fault.
use Rattle.std.proofs.Common.{◌≡◌, ◌≢◌, ℕ, Option, List, ◌++◌, drop, get_or, refl, sym, subst, inl, inr}
use Rattle.layout_model.specs.declared.pair.Pair.{Pair}
use Rattle.oas_lex.specs.declared.fields.ShotFields.{ShotFields}
use Rattle.shot_reader.specs.declared.refusing.ShotBad.TheVariants as faults
use Rattle.oas_lex.specs.ShotText.{AreNarrow, text_of}
use Rattle.shot_reader.specs.Reading.{AgreesWithPair}
use Rattle.shot_reader.specs.Refusals.{BeginsEnd, IsShotRecordFault}
use Rattle.shot_reader.proofs.Ids.{byte_is}
use Rattle.shot_reader.proofs.Wholes.{text_whole}

pub not_begun : (bytes : List ℕ) (at : ℕ) → get_or bytes at 0 ≢ 2 → BeginsEnd (drop at bytes) → ⊥
not_begun bytes at h b = h (byte_is bytes b.0 at 2 b.1)

-- the fields that are spelled here are of another pair
pub other_pair : (first : Option Pair) (rest after : List ℕ) (at : ℕ) (f : ShotFields) → AreNarrow f
    → rest ≡ text_of f ++ after → ((g : ShotFields) (x : List ℕ) → AreNarrow g → rest ≡ text_of g ++ x → f ≡ g)
    → (AgreesWithPair first f.layer f.datatype → ⊥) → IsShotRecordFault first rest at (faults.Spelling at)
other_pair first rest after at f h e one other =
    inr (inr (inl (
      refl,
      text_whole f rest after h e,
      λ g s. other
          (subst (λ (k : ShotFields). AgreesWithPair first k.layer k.datatype) (sym (one g s.after s.narrow s.text)) s.agrees),
    )))
