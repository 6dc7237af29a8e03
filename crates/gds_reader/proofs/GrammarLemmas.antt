-- What may follow a record, by a rule: the rule's derivative by the record's kind.
use Rattle.std.proofs.Common.{◌≡◌, Bool, true, false, ◌&&◌, ◌||◌, cond, ◌⊎◌, inl, inr, List, [], ◌∷◌, ◌++◌, refl, sym, ap, subst, ◌∙◌, append_assoc}
use Rattle.std.specs.List.{AllByRecursion}
use Rattle.gds_record.specs.declared.kinds.Kind.{Kind}
use Rattle.gds_reader.specs.Grammar.{Rule, Never, Nothing, One, Then, Either, Repeated, joined, Follows}
use Rattle.gds_reader.specs.Past.{same_kind}
use Rattle.gds_reader.proofs.KindLemmas.{same_kind_is, same_kind_refl}

-- ---- rules that are put together as short as they can be

abbrev pub then : Rule → Rule → Rule
then Never after = Never
then Nothing after = after
then (Then first second) after = Then first (then second after)
then (One kind) after = Then (One kind) after
then (Either first second) after = Then (Either first second) after
then (Repeated rule) after = Then (Repeated rule) after

abbrev pub or : Rule → Rule → Rule
or Never second = second
or first Never = first
or first second = Either first second

-- the empty list follows the rule
abbrev pub may_end : Rule → Bool
may_end Never = false
may_end Nothing = true
may_end (One kind) = false
may_end (Then first second) = may_end first && may_end second
may_end (Either first second) = may_end first || may_end second
may_end (Repeated rule) = true

-- what follows after a record of this kind
abbrev pub behind : Kind → Rule → Rule
behind kind Never = Never
behind kind Nothing = Never
behind kind (One own) = cond (same_kind kind own) Nothing Never
behind kind (Then first second) = cond (may_end first) (or (then (behind kind first) second) (behind kind second)) (then (behind kind first) second)
behind kind (Either first second) = or (behind kind first) (behind kind second)
behind kind (Repeated rule) = then (behind kind rule) (Repeated rule)

-- ---- what follows them

pub then_from : (rule after : Rule) (kinds : List Kind) → Follows (Then rule after) kinds → Follows (then rule after) kinds
then_from Never after kinds f = absurd f.3
then_from Nothing after kinds f = let front : f.0 ≡ [] = f.3 in subst (Follows after) (sym (f.2 ∙ ap (λ x. x ++ f.1) front)) f.4
then_from (Then first second) after kinds f =
    let inner = f.3 in (
      inner.0,
      inner.1 ++ f.1,
      f.2 ∙ ap (λ x. x ++ f.1) inner.2 ∙ append_assoc inner.0 inner.1 f.1,
      inner.3,
      then_from second after (inner.1 ++ f.1) (inner.1, f.1, refl, inner.4, f.4),
    )
then_from (One kind) after kinds f = f
then_from (Either first second) after kinds f = f
then_from (Repeated rule) after kinds f = f

pub then_to : (rule after : Rule) (kinds : List Kind) → Follows (then rule after) kinds → Follows (Then rule after) kinds
then_to Never after kinds f = absurd f
then_to Nothing after kinds f = ([], kinds, refl, refl, f)
then_to (Then first second) after kinds f =
    let inner = then_to second after f.1 f.4 in
    (f.0 ++ inner.0, inner.1, f.2 ∙ ap (λ x. f.0 ++ x) inner.2 ∙ sym (append_assoc f.0 inner.0 inner.1), (f.0, inner.0, refl, f.3, inner.3), inner.4)
then_to (One kind) after kinds f = f
then_to (Either first second) after kinds f = f
then_to (Repeated rule) after kinds f = f

pub or_from : (first second : Rule) (kinds : List Kind) → Follows first kinds ⊎ Follows second kinds → Follows (or first second) kinds
or_from Never second kinds (inl f) = absurd f
or_from Never second kinds (inr f) = f
or_from first Never kinds (inr f) = absurd f
or_from first Never kinds (inl f) = f
or_from first second kinds f = f

pub or_to : (first second : Rule) (kinds : List Kind) → Follows (or first second) kinds → Follows first kinds ⊎ Follows second kinds
or_to Never second kinds f = inr f
or_to first Never kinds f = inl f
or_to first second kinds f = f

-- ---- tests

or_true : (a b : Bool) → b ≡ true → (a || b) ≡ true
or_true true b e = refl
or_true false b e = e

and_left : (a b : Bool) → (a && b) ≡ true → a ≡ true
and_left true b e = refl
and_left false b e = absurd (cc)

and_right : (a b : Bool) → (a && b) ≡ true → b ≡ true
and_right true b e = e
and_right false b e = absurd (cc)

or_cases : (a b : Bool) → (a || b) ≡ true → (a ≡ true) ⊎ (b ≡ true)
or_cases true b e = inl refl
or_cases false b e = inr e

-- ---- what may end

nil_append : (xs ys : List Kind) → [] ≡ xs ++ ys → (xs ≡ []) × (ys ≡ [])
nil_append [] ys e = (refl, sym e)
nil_append (x ∷ xs) ys e = absurd (cc)

pub ends_from : (rule : Rule) → Follows rule [] → may_end rule ≡ true
ends_from Never f = absurd f
ends_from Nothing f = refl
ends_from (One kind) f = cc
ends_from (Then first second) f =
    let both = nil_append f.0 f.1 f.2 in
    let e : may_end first ≡ true = ends_from first (subst (Follows first) both.0 f.3) in
    let g : may_end second ≡ true = ends_from second (subst (Follows second) both.1 f.4) in
    ap (λ b. b && may_end second) e ∙ g
ends_from (Either first second) (inl f) = ap (λ b. b || may_end second) (ends_from first f)
ends_from (Either first second) (inr f) = or_true (may_end first) (may_end second) (ends_from second f)
ends_from (Repeated rule) f = refl

pub ends_to : (rule : Rule) → may_end rule ≡ true → Follows rule []
ends_to Never e = absurd (cc)
ends_to Nothing e = refl
ends_to (One kind) e = absurd (cc)
ends_to (Then first second) e =
    ([], [], refl, ends_to first (and_left (may_end first) (may_end second) e), ends_to second (and_right (may_end first) (may_end second) e))
ends_to (Either first second) e =
    elim (or_cases (may_end first) (may_end second) e) [ inl h ↦ inl (ends_to first h) | inr h ↦ inr (ends_to second h) ]
ends_to (Repeated rule) e = ([], refl, tt)

-- ---- what follows a record

one_from : (kind own : Kind) (rest : List Kind) → kind ∷ rest ≡ own ∷ [] → Follows (cond (same_kind kind own) Nothing Never) rest
one_from kind own rest f =
    let same : kind ≡ own = cc in
    let none : rest ≡ [] = cc in
    let test : same_kind kind own ≡ true = subst (λ x. same_kind kind x ≡ true) same (same_kind_refl kind) in
    subst (λ b. Follows (cond b Nothing Never) rest) (sym test) none

one_to : (kind own : Kind) (rest : List Kind) (b : Bool) → same_kind kind own ≡ b → Follows (cond b Nothing Never) rest → kind ∷ rest ≡ own ∷ []
one_to kind own rest true e f = let same : kind ≡ own = same_kind_is kind own e in let none : rest ≡ [] = f in cc
one_to kind own rest false e f = absurd f

-- the first part isn't empty
repeated_part : (kind : Kind) (rule : Rule) (parts : List (List Kind)) (rest : List Kind)
    → ((xs : List Kind) → Follows rule (kind ∷ xs) → Follows (behind kind rule) xs)
    → kind ∷ rest ≡ joined parts → AllByRecursion (Follows rule) parts → Follows (Then (behind kind rule) (Repeated rule)) rest
repeated_part kind rule [] rest on e all = absurd (cc)
repeated_part kind rule ([] ∷ parts) rest on e all = repeated_part kind rule parts rest on e all.1
repeated_part kind rule ((x ∷ xs) ∷ parts) rest on e all =
    let same : x ≡ kind = cc in
    let tail : rest ≡ xs ++ joined parts = cc in
    (xs, joined parts, tail, on xs (subst (λ k. Follows rule (k ∷ xs)) same all.0), (parts, refl, all.1))

then_part : (kind : Kind) (first second : Rule) (front back rest : List Kind) (b : Bool) → may_end first ≡ b
    → ((xs : List Kind) → Follows first (kind ∷ xs) → Follows (behind kind first) xs)
    → ((xs : List Kind) → Follows second (kind ∷ xs) → Follows (behind kind second) xs)
    → kind ∷ rest ≡ front ++ back → Follows first front → Follows second back
    → Follows (cond b (or (then (behind kind first) second) (behind kind second)) (then (behind kind first) second)) rest
then_part kind first second [] back rest true end on_first on_second e f g =
    or_from (then (behind kind first) second) (behind kind second) rest (inr (on_second rest (subst (Follows second) (sym e) g)))
then_part kind first second [] back rest false end on_first on_second e f g = absurd (let h : may_end first ≡ true = ends_from first f in cc)
then_part kind first second (x ∷ xs) back rest b end on_first on_second e f g =
    let same : x ≡ kind = cc in
    let tail : rest ≡ xs ++ back = cc in
    let found : Follows (then (behind kind first) second) rest =
    then_from (behind kind first) second rest (xs, back, tail, on_first xs (subst (λ k. Follows first (k ∷ xs)) same f), g) in
    elim b as (λ b. Follows (cond b (or (then (behind kind first) second) (behind kind second)) (then (behind kind first) second)) rest) [
      | true ↦ or_from (then (behind kind first) second) (behind kind second) rest (inl found)
      | false ↦ found
    ]

pub behind_from : (kind : Kind) (rule : Rule) (rest : List Kind) → Follows rule (kind ∷ rest) → Follows (behind kind rule) rest
behind_from kind Never rest f = absurd f
behind_from kind Nothing rest f = absurd (cc)
behind_from kind (One own) rest f = one_from kind own rest f
behind_from kind (Then first second) rest f =
    then_part kind first second f.0 f.1 rest (may_end first) refl (behind_from kind first) (behind_from kind second) f.2 f.3 f.4
behind_from kind (Either first second) rest (inl f) = or_from (behind kind first) (behind kind second) rest (inl (behind_from kind first rest f))
behind_from kind (Either first second) rest (inr f) = or_from (behind kind first) (behind kind second) rest (inr (behind_from kind second rest f))
behind_from kind (Repeated rule) rest f =
    then_from (behind kind rule) (Repeated rule) rest (repeated_part kind rule f.0 rest (behind_from kind rule) f.1 f.2)

then_back : (kind : Kind) (first second : Rule) (rest : List Kind)
    → ((xs : List Kind) → Follows (behind kind first) xs → Follows first (kind ∷ xs))
    → Follows (then (behind kind first) second) rest → Follows (Then first second) (kind ∷ rest)
then_back kind first second rest on f =
    let g = then_to (behind kind first) second rest f in
    (kind ∷ g.0, g.1, ap (λ xs. kind ∷ xs) g.2, on g.0 g.3, g.4)

then_parts : (kind : Kind) (first second : Rule) (rest : List Kind) (b : Bool) → may_end first ≡ b
    → ((xs : List Kind) → Follows (behind kind first) xs → Follows first (kind ∷ xs))
    → ((xs : List Kind) → Follows (behind kind second) xs → Follows second (kind ∷ xs))
    → Follows (cond b (or (then (behind kind first) second) (behind kind second)) (then (behind kind first) second)) rest
    → Follows (Then first second) (kind ∷ rest)
then_parts kind first second rest true end on_first on_second f =
    elim (or_to (then (behind kind first) second) (behind kind second) rest f) [
      | inl g ↦ then_back kind first second rest on_first g
      | inr g ↦ ([], kind ∷ rest, refl, ends_to first end, on_second rest g)
    ]
then_parts kind first second rest false end on_first on_second f = then_back kind first second rest on_first f

pub behind_to : (kind : Kind) (rule : Rule) (rest : List Kind) → Follows (behind kind rule) rest → Follows rule (kind ∷ rest)
behind_to kind Never rest f = absurd f
behind_to kind Nothing rest f = absurd f
behind_to kind (One own) rest f = one_to kind own rest (same_kind kind own) refl f
behind_to kind (Then first second) rest f =
    then_parts kind first second rest (may_end first) refl (behind_to kind first) (behind_to kind second) f
behind_to kind (Either first second) rest f =
    elim (or_to (behind kind first) (behind kind second) rest f) [
      | inl g ↦ inl (behind_to kind first rest g)
      | inr g ↦ inr (behind_to kind second rest g)
    ]
behind_to kind (Repeated rule) rest f =
    let g = then_to (behind kind rule) (Repeated rule) rest f in
    let rest_of = g.4 in
    ((kind ∷ g.0) ∷ rest_of.0, ap (λ xs. kind ∷ xs) (g.2 ∙ ap (λ xs. g.0 ++ xs) rest_of.1), (behind_to kind rule g.0 g.3, rest_of.2))

-- ---- rules that some list follows

abbrev pub has_some : Rule → Bool
has_some Never = false
has_some Nothing = true
has_some (One kind) = true
has_some (Then first second) = has_some first && has_some second
has_some (Either first second) = has_some first || has_some second
has_some (Repeated rule) = true

pub some_list : (rule : Rule) → has_some rule ≡ true → (kinds : List Kind) × Follows rule kinds
some_list Never e = absurd (cc)
some_list Nothing e = ([], refl)
some_list (One kind) e = (kind ∷ [], refl)
some_list (Then first second) e =
    let f = some_list first (and_left (has_some first) (has_some second) e) in
    let g = some_list second (and_right (has_some first) (has_some second) e) in
    (f.0 ++ g.0, (f.0, g.0, refl, f.1, g.1))
some_list (Either first second) e =
    elim (or_cases (has_some first) (has_some second) e) [
      | inl h ↦ let f = some_list first h in (f.0, inl f.1)
      | inr h ↦ let f = some_list second h in (f.0, inr f.1)
    ]
some_list (Repeated rule) e = ([], ([], refl, tt))
