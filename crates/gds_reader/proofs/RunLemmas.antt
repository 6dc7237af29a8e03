-- Two readings of the same bytes: one goes on where the other ends.
use Rattle.std.proofs.Common.{◌≡◌, ℕ, List, [], ◌∷◌, ◌++◌, reverse, refl, sym, ap, subst, ◌∙◌, append_assoc, ◌⊎◌, inl, inr}
use Rattle.std.specs.Prelude.{◌≢◌}
use Rattle.std.proofs.lemmas.List.{reverse-append, reverse-reverse, map-append}
use Rattle.layout_model.specs.declared.pair.Pair.{Pair}
use Rattle.gds_record.specs.Framing.{IsRecordAt}
use Rattle.gds_record.specs.Runs.{AreRecordsEndToEnd, NoRecordEnds, EndsOnlyLast, IsLibraryClosed}
use Rattle.gds_record.specs.declared.kinds.Kind.{Kind}
use Rattle.gds_record.specs.declared.kinds.Kind.TheVariants.{EndLib}
use Rattle.gds_record.specs.declared.records.Record.{Record}
use Rattle.gds_record.proofs.ForCallers.{record_unique}
use Rattle.gds_reader.specs.Grammar.{IsStreamOrder, IsBeginning}
use Rattle.gds_reader.specs.Reading.{kinds_of, IsRecordAllowed, AreRecordsAllowed}

pub reverse_more : (r : Record) (past : List Record) → reverse (r ∷ past) ≡ reverse past ++ r ∷ []
reverse_more r past = reverse-append (r ∷ []) past

pub kinds_more : (rs : List Record) (r : Record) → kinds_of (rs ++ r ∷ []) ≡ kinds_of rs ++ r.kind ∷ []
kinds_more rs r = map-append (λ (x : Record). x.kind) rs (r ∷ [])

pub kinds_reverse : (r : Record) (past : List Record) → kinds_of (reverse (r ∷ past)) ≡ kinds_of (reverse past) ++ r.kind ∷ []
kinds_reverse r past = ap kinds_of (reverse_more r past) ∙ kinds_more (reverse past) r

-- one run goes on with this record after the other
pub record GoesOn (bytes : List ℕ) (rs : List Record) (to : ℕ) (ss : List Record) (up : ℕ) : Type 0 where
  pub r : Record
  pub rest : List Record
  pub all : ss ≡ rs ++ r ∷ rest
  pub stands : IsRecordAt bytes to r
  pub run : AreRecordsEndToEnd bytes r.next rest up

pub compare_runs : (bytes : List ℕ) (from : ℕ) (rs ss : List Record) (to up : ℕ) → AreRecordsEndToEnd bytes from rs to → AreRecordsEndToEnd bytes from ss up
    → ((rs ≡ ss) × (to ≡ up)) ⊎ GoesOn bytes rs to ss up ⊎ GoesOn bytes ss up rs to
compare_runs bytes from [] [] to up p q = inl (refl, sym p ∙ q)
compare_runs bytes from [] (s ∷ ss) to up p q =
    inr (inl (record { r = s; rest = ss; all = refl; stands = subst (λ at. IsRecordAt bytes at s) p q.0; run = q.1 }))
compare_runs bytes from (r ∷ rs) [] to up p q =
    inr (inr (record { r = r; rest = rs; all = refl; stands = subst (λ at. IsRecordAt bytes at r) q p.0; run = p.1 }))
compare_runs bytes from (r ∷ rs) (s ∷ ss) to up p q =
    let first : r ≡ s = record_unique bytes from r s p.0 q.0 in
    elim (compare_runs bytes s.next rs ss to up (subst (λ (x : Record). AreRecordsEndToEnd bytes x.next rs to) first p.1) q.1) [
      | inl same ↦ inl (let tails : rs ≡ ss = same.0 in cc, same.1)
      | inr (inl on) ↦ inr (inl (record {
        r = on.r;
        rest = on.rest;
        all = ap (λ xs. s ∷ xs) on.all ∙ ap (λ (x : Record). x ∷ (rs ++ on.r ∷ on.rest)) (sym first);
        stands = on.stands;
        run = on.run;
      }))
      | inr (inr on) ↦ inr (inr (record {
        r = on.r;
        rest = on.rest;
        all = ap (λ xs. r ∷ xs) on.all ∙ ap (λ (x : Record). x ∷ (ss ++ on.r ∷ on.rest)) first;
        stands = on.stands;
        run = on.run;
      }))
    ]

-- ---- what goes before

pub allowed_suffix : (bytes : List ℕ) (unit : ℕ) (wanted : List Pair) (xs ys : List Record) → AreRecordsAllowed bytes unit wanted (xs ++ ys)
    → AreRecordsAllowed bytes unit wanted ys
allowed_suffix bytes unit wanted [] ys all = all
allowed_suffix bytes unit wanted (x ∷ xs) ys all = allowed_suffix bytes unit wanted xs ys all.1

pub begins_prefix : (kinds more : List Kind) → IsBeginning (kinds ++ more) → IsBeginning kinds
begins_prefix kinds more b = (more ++ b.0, subst IsStreamOrder (append_assoc kinds more b.0) b.1)

reverse_middle : (rs : List Record) (r : Record) (ts : List Record) → reverse (rs ++ r ∷ ts) ≡ reverse ts ++ (r ∷ reverse rs)
reverse_middle rs r ts =
    reverse-append rs (r ∷ ts) ∙ ap (λ xs. xs ++ reverse rs) (reverse_more r ts) ∙ append_assoc (reverse ts) (r ∷ []) (reverse rs)

-- the record after the past of a longer reading is allowed there
pub allowed_on : (bytes : List ℕ) (unit : ℕ) (wanted : List Pair) (past : List Record) (r : Record) (ss rest : List Record)
    → ss ≡ reverse past ++ r ∷ rest → AreRecordsAllowed bytes unit wanted (reverse ss) → IsRecordAllowed bytes unit wanted past r
allowed_on bytes unit wanted past r ss rest e all =
    let turned : reverse ss ≡ reverse rest ++ (r ∷ past) =
    ap reverse e ∙ reverse_middle (reverse past) r rest ∙ ap (λ xs. reverse rest ++ (r ∷ xs)) (reverse-reverse past) in
    (allowed_suffix bytes unit wanted (reverse rest) (r ∷ past) (subst (AreRecordsAllowed bytes unit wanted) turned all)).0

kinds_middle : (rs : List Record) (r : Record) (rest : List Record) → kinds_of (rs ++ r ∷ rest) ≡ kinds_of (rs ++ r ∷ []) ++ kinds_of rest
kinds_middle rs r rest =
    ap kinds_of (sym (append_assoc rs (r ∷ []) rest)) ∙ map-append (λ (x : Record). x.kind) (rs ++ r ∷ []) rest

pub begins_on : (past : List Record) (r : Record) (ss rest : List Record) → ss ≡ reverse past ++ r ∷ rest → IsBeginning (kinds_of ss)
    → IsBeginning (kinds_of (reverse (r ∷ past)))
begins_on past r ss rest e b =
    let split : kinds_of ss ≡ kinds_of (reverse (r ∷ past)) ++ kinds_of rest =
    ap kinds_of e ∙ kinds_middle (reverse past) r rest ∙ ap (λ xs. kinds_of xs ++ kinds_of rest) (sym (reverse_more r past)) in
    begins_prefix (kinds_of (reverse (r ∷ past))) (kinds_of rest) (subst IsBeginning split b)

-- ---- ends of the library

pub none_ends_at : (rs : List Record) (r : Record) (rest : List Record) → NoRecordEnds (rs ++ r ∷ rest) → r.kind ≢ EndLib
none_ends_at [] r rest none = none.0
none_ends_at (s ∷ rs) r rest none = none_ends_at rs r rest none.1

pub none_ends_front : (rs ss : List Record) → NoRecordEnds (rs ++ ss) → NoRecordEnds rs
none_ends_front [] ss none = tt
none_ends_front (r ∷ rs) ss none = (none.0, none_ends_front rs ss none.1)

pub not_closed : (rs : List Record) → NoRecordEnds rs → IsLibraryClosed rs → ⊥
not_closed [] none closed = closed
not_closed (r ∷ []) none closed = none.0 closed
not_closed (r ∷ s ∷ rs) none closed = not_closed (s ∷ rs) none.1 closed

-- an end of the library is the last record
pub last_ends : (rs : List Record) (r : Record) (rest : List Record) → EndsOnlyLast (rs ++ r ∷ rest) → r.kind ≡ EndLib → rest ≡ []
last_ends [] r [] only e = refl
last_ends [] r (s ∷ rest) only e = absurd (only.0 e)
last_ends (s ∷ []) r rest only e = last_ends [] r rest only.1 e
last_ends (s ∷ t ∷ rs) r rest only e = last_ends (t ∷ rs) r rest only.1 e
