-- The table of the structures' names, and the records that have them.
use Rattle.std.proofs.Common.{◌≡◌, ℕ, ◌-◌, Bool, true, false, cond, List, [], ◌∷◌, ◌++◌, Some, None, refl, sym, ap, subst, ◌∙◌, inl, inr}
use Rattle.std.proofs.lemmas.Slice.Eq.{bytes_eq-Decides}
use Rattle.layout_model.specs.declared.pair.Pair.{Pair}
use Rattle.gds_record.specs.declared.kinds.Kind.TheVariants.{StrName}
use Rattle.gds_record.specs.declared.records.Record.{Record}
use Rattle.gds_reader.specs.Names.{same_name, place_of}
use Rattle.gds_reader.specs.Past.{has_kind}
use Rattle.gds_reader.specs.Values.{name_in}
use Rattle.gds_reader.specs.Reading.{IsSameName, IsNamedBefore, IsRecordAllowed, AreRecordsAllowed}
use Rattle.gds_reader.proofs.KindLemmas.{same_kind_is, same_kind_refl}

-- the record that the table found
pub record Found (bytes : List ℕ) (r : Record) (first : ℕ) (past : List Record) : Type 0 where
  pub before : List Record
  pub earlier : Record
  pub after : List Record
  pub among : past ≡ before ++ earlier ∷ after
  pub same : IsSameName bytes r earlier
  pub first_is : first ≡ earlier.first - 4

found_behind : (bytes : List ℕ) (r : Record) (first : ℕ) (x : Record) (past : List Record) → Found bytes r first past → Found bytes r first (x ∷ past)
found_behind bytes r first x past f = record {
  before = x ∷ f.before;
  earlier = f.earlier;
  after = f.after;
  among = ap (λ xs. x ∷ xs) f.among;
  same = f.same;
  first_is = f.first_is;
}

found_here : (bytes : List ℕ) (r : Record) (first : ℕ) (x : Record) (past : List Record) → has_kind StrName x ≡ true
    → same_name (name_in bytes x) (name_in bytes r) ≡ true → Some (x.first - 4) ≡ Some first → Found bytes r first (x ∷ past)
found_here bytes r first x past kind name e = record {
  before = [];
  earlier = x;
  after = past;
  among = refl;
  same = (same_kind_is x.kind StrName kind, (bytes_eq-Decides (name_in bytes x) (name_in bytes r)).0 name);
  first_is = let is : x.first - 4 ≡ first = cc in sym is;
}

at_head : (bytes : List ℕ) (r : Record) (first : ℕ) (x : Record) (past : List Record) (k n : Bool) → has_kind StrName x ≡ k
    → same_name (name_in bytes x) (name_in bytes r) ≡ n → (place_of bytes (name_in bytes r) past ≡ Some first → Found bytes r first past)
    → cond k (cond n (Some (x.first - 4)) (place_of bytes (name_in bytes r) past)) (place_of bytes (name_in bytes r) past) ≡ Some first
    → Found bytes r first (x ∷ past)
at_head bytes r first x past true true kind name behind e = found_here bytes r first x past kind name e
at_head bytes r first x past true false kind name behind e = found_behind bytes r first x past (behind e)
at_head bytes r first x past false n kind name behind e = found_behind bytes r first x past (behind e)

pub found_name : (bytes : List ℕ) (r : Record) (first : ℕ) (past : List Record) → place_of bytes (name_in bytes r) past ≡ Some first
    → Found bytes r first past
found_name bytes r first [] e = absurd (cc)
found_name bytes r first (x ∷ past) e =
    at_head bytes r first x past (has_kind StrName x) (same_name (name_in bytes x) (name_in bytes r)) refl refl (found_name bytes r first past) e

none_head : (bytes : List ℕ) (r x : Record) (past : List Record) (k n : Bool) → has_kind StrName x ≡ k
    → same_name (name_in bytes x) (name_in bytes r) ≡ n → (place_of bytes (name_in bytes r) past ≡ None → ¬ IsNamedBefore bytes past r)
    → cond k (cond n (Some (x.first - 4)) (place_of bytes (name_in bytes r) past)) (place_of bytes (name_in bytes r) past) ≡ None
    → ¬ IsNamedBefore bytes (x ∷ past) r
none_head bytes r x past true true kind name behind e h = absurd (cc)
none_head bytes r x past true false kind name behind e (inl same) =
    absurd (let yes : same_name (name_in bytes x) (name_in bytes r) ≡ true = (bytes_eq-Decides (name_in bytes x) (name_in bytes r)).1 same.1 in cc)
none_head bytes r x past true false kind name behind e (inr h) = behind e h
none_head bytes r x past false n kind name behind e (inl same) =
    absurd (let yes : has_kind StrName x ≡ true = subst (λ k. has_kind StrName (record x { kind = k }) ≡ true) (sym same.0) (same_kind_refl StrName) in cc)
none_head bytes r x past false n kind name behind e (inr h) = behind e h

-- a name that isn't in the table is new
pub not_named : (bytes : List ℕ) (r : Record) (past : List Record) → place_of bytes (name_in bytes r) past ≡ None → ¬ IsNamedBefore bytes past r
not_named bytes r [] e h = h
not_named bytes r (x ∷ past) e h =
    none_head bytes r x past (has_kind StrName x) (same_name (name_in bytes x) (name_in bytes r)) refl refl (not_named bytes r past) e h

pub named_among : (bytes : List ℕ) (before : List Record) (earlier : Record) (after : List Record) (r : Record) → IsSameName bytes r earlier
    → IsNamedBefore bytes (before ++ earlier ∷ after) r
named_among bytes [] earlier after r same = inl same
named_among bytes (x ∷ before) earlier after r same = inr (named_among bytes before earlier after r same)

-- the first of some records has the name of no other, where it is allowed
head_new : (bytes : List ℕ) (unit : ℕ) (wanted : List Pair) (r d e : Record) (before after rest : List Record)
    → IsRecordAllowed bytes unit wanted rest d → rest ≡ before ++ e ∷ after → IsSameName bytes r d → IsSameName bytes r e → ⊥
head_new bytes unit wanted r d e before after rest allowed is one other =
    let same : IsSameName bytes d e = (other.0, other.1 ∙ sym one.1) in
    allowed.new_name one.0 (subst (λ xs. IsNamedBefore bytes xs d) (sym is) (named_among bytes before e after d same))

-- among allowed records one has this name
pub one_earlier : (bytes : List ℕ) (unit : ℕ) (wanted : List Pair) (r d e : Record) (b1 a1 b2 a2 : List Record)
    → AreRecordsAllowed bytes unit wanted (b1 ++ d ∷ a1) → b1 ++ d ∷ a1 ≡ b2 ++ e ∷ a2 → IsSameName bytes r d → IsSameName bytes r e → d ≡ e
one_earlier bytes unit wanted r d e [] a1 [] a2 allowed is one other = cc
one_earlier bytes unit wanted r d e [] a1 (y ∷ b2) a2 allowed is one other =
    absurd (let rest : a1 ≡ b2 ++ e ∷ a2 = cc in head_new bytes unit wanted r d e b2 a2 a1 allowed.0 rest one other)
one_earlier bytes unit wanted r d e (x ∷ b1) a1 [] a2 allowed is one other =
    absurd (
    let rest : b1 ++ d ∷ a1 ≡ a2 = cc in
    let head : x ≡ e = cc in
    head_new bytes unit wanted r e d b1 a1 a2
    (subst (λ xs. IsRecordAllowed bytes unit wanted xs e) rest
    (subst (IsRecordAllowed bytes unit wanted (b1 ++ d ∷ a1)) head allowed.0)) (sym rest) other one)
one_earlier bytes unit wanted r d e (x ∷ b1) a1 (y ∷ b2) a2 allowed is one other =
    let rest : b1 ++ d ∷ a1 ≡ b2 ++ e ∷ a2 = cc in
    one_earlier bytes unit wanted r d e b1 a1 b2 a2 allowed.1 rest one other
