-- What is said through a buffer, as one more piece is put, said or refused.
use Rattle.std.proofs.Common.{◌≡◌, ℕ, ◌+◌, List, [], ◌∷◌, ◌++◌, length, take, drop, flat_map, sym, ap, subst, ◌∙◌, arith, append_assoc}
use Rattle.std.proofs.lemmas.List.{append-nil, length-append, take-append-le, take-append-drop, flat_map_more}
use Rattle.std.proofs.lemmas.Grind.{flat_map-append}
use Rattle.std.proofs.Math.Seq.{take-append-add}
use Rattle.depot.specs.Content.{Content, with_said, IsPartSaid}
use Rattle.depot.specs.Printing.{IsSaidButFor}

-- two pieces that are said one after another are said as one
with_said-twice : (c : Content) (a b : List ℕ) → with_said (with_said c a) b ≡ with_said c (a ++ b)
with_said-twice c a b = ap (λ said. record c { said = said }) (append_assoc c.said a b)

-- one more piece is put after what is held
pub hold_more : {old now : Content} {bytes held : List ℕ} (more : List ℕ) → IsSaidButFor old bytes held now
    → IsSaidButFor old (bytes ++ more) (held ++ more) now
hold_more {old} {now} {bytes} {held} more p = record {
  said = p.said;
  content = p.content;
  whole = sym (append_assoc p.said held more) ∙ ap (λ l. l ++ more) p.whole;
}

-- what was held is said
pub say_held : {old now : Content} {bytes held : List ℕ} (later : Content) → IsSaidButFor old bytes held now
    → later ≡ with_said now held → later ≡ with_said old bytes
say_held {old} {now} {bytes} {held} later p e =
    e ∙ ap (λ c. with_said c held) p.content ∙ with_said-twice old p.said held ∙ ap (with_said old) p.whole

-- one more piece is put after what is held, of which some is said before
pub said_then : {old now later : Content} {bytes held rest : List ℕ} (more : List ℕ) → IsSaidButFor old bytes held now
    → IsSaidButFor now (held ++ more) rest later → IsSaidButFor old (bytes ++ more) rest later
said_then {old} {now} {later} {bytes} {held} {rest} more p q = record {
  said = p.said ++ q.said;
  content = q.content ∙ ap (λ c. with_said c q.said) p.content ∙ with_said-twice old p.said q.said;
  whole = append_assoc p.said q.said rest ∙ ap (λ l. p.said ++ l) q.whole ∙ sym (append_assoc p.said held more) ∙ ap (λ l. l ++ more) p.whole;
}

-- a refusal of what was held leaves a prefix of all
pub part_held : {old now : Content} {bytes held : List ℕ} (later : Content) → IsSaidButFor old bytes held now
    → IsPartSaid now held later → IsPartSaid old bytes later
part_held {old} {now} {bytes} {held} later p part = (
  length p.said + part.0,
  omega (arith, ap length p.whole, length-append p.said held, part.1),
  part.2 ∙ ap (λ c. with_said c (take part.0 held)) p.content ∙ with_said-twice old p.said (take part.0 held)
      ∙ ap (with_said old) (sym (take-append-add p.said held part.0) ∙ ap (take (length p.said + part.0)) p.whole),
)

-- a prefix of a text is a prefix of a longer one
pub part_of_longer : (old later : Content) (bytes more : List ℕ) → IsPartSaid old bytes later → IsPartSaid old (bytes ++ more) later
part_of_longer old later bytes more part = (
  part.0,
  omega (arith, length-append bytes more, part.1),
  part.2 ∙ ap (with_said old) (sym (take-append-le part.0 bytes more part.1)),
)

-- the texts of a list after others, cut in two
texts_cut : {X : Type 0} (f : X → List ℕ) (bytes : List ℕ) (xs : List X) (i : ℕ)
    → (bytes ++ flat_map f (take i xs)) ++ flat_map f (drop i xs) ≡ bytes ++ flat_map f xs
texts_cut f bytes xs i =
    append_assoc bytes (flat_map f (take i xs)) (flat_map f (drop i xs))
    ∙ ap (λ l. bytes ++ l) (sym (flat_map-append f (take i xs) (drop i xs)) ∙ ap (flat_map f) (take-append-drop i xs))

-- one more text after those of the first items
pub texts_more : {X : Type 0} (f : X → List ℕ) (bytes : List ℕ) (xs : List X) (i : ℕ) (x : X)
    → take (i + 1) xs ≡ take i xs ++ x ∷ [] → (bytes ++ flat_map f (take i xs)) ++ f x ≡ bytes ++ flat_map f
    (take (i + 1) xs)
texts_more f bytes xs i x e = flat_map_more f bytes (take i xs) x ∙ ap (λ l. bytes ++ flat_map f l) (sym e)

-- a refusal after what was held is said leaves a prefix of it and of the next piece
pub flushed_part : (old now later : Content) (held more : List ℕ) → now ≡ with_said old held → IsPartSaid now more later → IsPartSaid old (held ++ more) later
flushed_part old now later held more e part = (
  length held + part.0,
  omega (arith, length-append held more, part.1),
  part.2 ∙ ap (λ c. with_said c (take part.0 more)) e ∙ with_said-twice old held (take part.0 more)
      ∙ ap (with_said old) (sym (take-append-add held more part.0)),
)

-- what was held and the next piece are said, and nothing is held
pub flushed_whole : (old now later : Content) (held more rest : List ℕ) → rest ≡ [] → now ≡ with_said old held → later ≡ with_said now more
    → IsSaidButFor old (held ++ more) rest later
flushed_whole old now later held more rest none e f = record {
  said = held ++ more;
  content = f ∙ ap (λ c. with_said c more) e ∙ with_said-twice old held more;
  whole = ap (λ r. (held ++ more) ++ r) none ∙ append-nil (held ++ more);
}

-- a refusal of what was held, as far as the first items, leaves a prefix of the texts of all
pub part_of_texts : {X : Type 0} {old now : Content} {held : List ℕ} (later : Content) (f : X → List ℕ)
    (bytes : List ℕ) (xs : List X) (i : ℕ) → IsSaidButFor old (bytes ++ flat_map f (take i xs)) held now
    → IsPartSaid now held later → IsPartSaid old (bytes ++ flat_map f xs) later
part_of_texts {X} {old} {now} {held} later f bytes xs i p part =
    subst (λ (l : List ℕ). IsPartSaid old l later) (texts_cut f bytes xs i)
    (part_of_longer old later (bytes ++ flat_map f (take i xs)) (flat_map f (drop i xs)) (part_held later p part))

-- the same where the text of one more item was to be said too
pub part_of_more_texts : {X : Type 0} {old now : Content} {held : List ℕ} (later : Content) (f : X → List ℕ)
    (bytes : List ℕ) (xs : List X) (i : ℕ) (x : X) → take (i + 1) xs ≡ take i xs ++ x ∷ []
    → IsSaidButFor old (bytes ++ flat_map f (take i xs)) held now → IsPartSaid now (held ++ f x) later
    → IsPartSaid old (bytes ++ flat_map f xs) later
part_of_more_texts {X} {old} {now} {held} later f bytes xs i x e p part =
    part_of_texts later f bytes xs (i + 1) (subst (λ (l : List ℕ). IsSaidButFor old l (held ++ f x) now) (texts_more f bytes xs i x e) (hold_more (f x) p)) part
