-- Facts about files and contents, for the proofs of callers: what a name has after a file was made, how pieces that are
-- written one after another add up, and how what was said and what a buffer holds do.
use Rattle.std.proofs.Common.{Result, Ok, Err, OnErr, ◌≡◌, ℕ, ◌+◌, ◌≤◌, ◌<◌, Bool, true, false, cond, List, [], ◌∷◌}
use Rattle.std.proofs.Common.{◌++◌, length, take, drop, Option, None, Some, unwrap_or, IsSomeAnd, refl, sym, ap, ◌∙◌}
use Rattle.std.proofs.Common.{arith, append_assoc, subst, inl, inr}
use Rattle.std.proofs.lemmas.List.{append-nil, take-take, drop-take, take-append-drop}
use Rattle.std.specs.Ordering.{nat_cmp, eq_by_cmp, is_eq}
use Rattle.std.specs.declared.cmp.Ordering.{Ordering}
use Rattle.std.specs.declared.cmp.Ordering.TheVariants.{Less, Equal, Greater}
use Rattle.std.proofs.lemmas.Bool.{false_from_ne_true}
use Rattle.std.specs.Cmp.{eq_by_cmp_equiv}
use Rattle.std.specs.Cmp.Lexicographic.{slice_cmp, nat_list_cmp_total}
use Rattle.std.specs.FinMap.{get, insert, get-insert, same_map, slice_cmp-IsAntisymmetric, nat_cmp-IsAntisymmetric}
use Rattle.depot.specs.Content.{Files, Content, appended, with_written, with_said, with_file, with_current, begun}
use Rattle.depot.specs.Content.{IsPartWritten, IsPartMade, IsNotThere, IsLongerThan}
use Rattle.depot.specs.Sure.{Sure, sure_content}
use Rattle.depot.specs.Counts.{Counts, NeverFall, Rose}
pub use Rattle.depot.proofs.SaidSoFar.{hold_more, part_held, part_of_longer, part_of_more_texts, part_of_texts, said_then, say_held, texts_more}

-- two names tie in the order of names
abbrev tie : List ℕ → List ℕ → Bool
tie a b = eq_by_cmp (slice_cmp nat_cmp) a b

pub same_files : (m n : Files) → ((q : List ℕ) → get m q ≡ get n q) → m ≡ n
same_files m n same = same_map nat_list_cmp_total (slice_cmp-IsAntisymmetric nat_cmp-IsAntisymmetric) m n same

pub get-insert-tie : (m : Files) (k v q : List ℕ) → get (insert m k v) q ≡ cond (tie q k) (Some v) (get m q)
get-insert-tie m k v q = get-insert nat_list_cmp_total m k v q

tie_refl : (k : List ℕ) → tie k k ≡ true
tie_refl k = (eq_by_cmp_equiv nat_list_cmp_total).refl k

-- the name that a file was put under has its bytes
pub get-insert_same : (m : Files) (k v : List ℕ) → get (insert m k v) k ≡ Some v
get-insert_same m k v = get-insert-tie m k v k ∙ ap (λ b. cond b (Some v) (get m k)) (tie_refl k)

overwritten : (b : Bool) (v w : List ℕ) (o : Option (List ℕ)) → cond b (Some w) (cond b (Some v) o) ≡ cond b (Some w) o
overwritten true v w o = refl
overwritten false v w o = refl

-- of two files put under one name the later stands
pub insert-insert_same : (m : Files) (k v w : List ℕ) → insert (insert m k v) k w ≡ insert m k w
insert-insert_same m k v w =
    same_files _ _ (λ q. get-insert-tie (insert m k v) k w q ∙ ap (cond (tie q k) (Some w)) (get-insert-tie m k v q)
    ∙ overwritten (tie q k) v w (get m q) ∙ sym (get-insert-tie m k w q))

-- two pieces that are written one after another are written as one
pub appended-appended : (m : Files) (current : Option (List ℕ)) (a b : List ℕ) → appended (appended m current a) current b ≡ appended m current (a ++ b)
appended-appended m current [] b = refl
appended-appended m current (x ∷ a) [] = ap (appended m current) (sym (append-nil (x ∷ a)))
appended-appended m None (x ∷ a) (y ∷ b) = refl
appended-appended m (Some k) (x ∷ a) (y ∷ b) =
    ap (λ o. insert (insert m k (unwrap_or (get m k) [] ++ x ∷ a)) k (unwrap_or o [] ++ y ∷ b)) (get-insert_same m k _)
    ∙ insert-insert_same m k _ _
    ∙ ap (insert m k) (append_assoc (unwrap_or (get m k) []) (x ∷ a) (y ∷ b))

-- writing to a name that was made with no bytes makes it with these bytes
pub appended-insert : (m : Files) (k bytes : List ℕ) → appended (insert m k []) (Some k) bytes ≡ insert m k bytes
appended-insert m k [] = refl
appended-insert m k (b ∷ bytes) =
    ap (λ o. insert (insert m k []) k (unwrap_or o [] ++ b ∷ bytes)) (get-insert_same m k []) ∙ insert-insert_same m k [] (b ∷ bytes)

-- a prefix of a list and then a prefix of the rest are one prefix
pub take-append-take_drop : (xs : List ℕ) (n m : ℕ) → take n xs ++ take m (drop n xs) ≡ take (n + m) xs
take-append-take_drop xs n m =
    ap (λ l. l ++ take m (drop n xs)) (sym (take-take n (n + m) xs (omega arith)))
    ∙ ap (λ l. take n (take (n + m) xs) ++ l) (sym (drop-take n m xs))
    ∙ take-append-drop n (take (n + m) xs)

-- a piece of which a prefix was written, and then a prefix of the rest
pub with_written-more : (c₀ c₁ c₂ : Content) (bytes : List ℕ) (n m : ℕ) → c₁ ≡ with_written c₀ (take n bytes)
    → c₂ ≡ with_written c₁ (take m (drop n bytes)) → c₂ ≡ with_written c₀ (take (n + m) bytes)
with_written-more c₀ c₁ c₂ bytes n m e f =
    f
    ∙ ap (λ c. with_written c (take m (drop n bytes))) e
    ∙ ap (λ files. record c₀ { made = files })
    (appended-appended c₀.made c₀.current (take n bytes) (take m (drop n bytes)) ∙ ap (appended c₀.made c₀.current)
    (take-append-take_drop bytes n m))

-- a piece of which a prefix was said, and then a prefix of the rest
pub with_said-more : (c₀ c₁ c₂ : Content) (bytes : List ℕ) (n m : ℕ) → c₁ ≡ with_said c₀ (take n bytes)
    → c₂ ≡ with_said c₁ (take m (drop n bytes)) → c₂ ≡ with_said c₀ (take (n + m) bytes)
with_said-more c₀ c₁ c₂ bytes n m e f =
    f
    ∙ ap (λ c. with_said c (take m (drop n bytes))) e
    ∙ ap (λ said. record c₀ { said = said })
    (append_assoc c₀.said (take n bytes) (take m (drop n bytes)) ∙ ap (λ l. c₀.said ++ l)
    (take-append-take_drop bytes n m))

-- a file that was begun, and whose bytes were then written, is made with these bytes
pub with_file-whole : (c₀ c₁ c₂ : Content) (name bytes : List ℕ) → c₁ ≡ begun c₀ name → c₂ ≡ with_written c₁ bytes → c₂ ≡ with_file c₀ name bytes
with_file-whole c₀ c₁ c₂ name bytes e f =
    f
    ∙ ap (λ c. with_written c bytes) e
    ∙ ap (λ files. record c₀ { made = files; current = Some name }) (appended-insert c₀.made name bytes)

-- a file that was begun, and of whose bytes a prefix was written, is made with a prefix
pub IsPartMade-part : (c₀ c₁ c₂ : Content) (name bytes : List ℕ) → c₁ ≡ begun c₀ name → IsPartWritten c₁ bytes c₂ → IsPartMade c₀ name bytes c₂
IsPartMade-part c₀ c₁ c₂ name bytes e part =
    let whole : c₂ ≡ with_file c₀ name (take part.0 bytes) = with_file-whole c₀ c₁ c₂ name (take part.0 bytes) e part.2 in
    inr (part.0, part.1, subst (λ (c : Content). c ≡ with_current (with_file c₀ name (take part.0 bytes)) c.current) (sym whole) refl)

pub NeverFall-trans : (a b c : Counts) → NeverFall a b → NeverFall b c → NeverFall a c
NeverFall-trans a b c p q = record { read_faults = omega arith; write_faults = omega arith; refused = omega arith }

-- what rose in a later part of a call rose in the call
pub Rose-later : (a b c : ℕ) → a ≤ b → Rose b c → Rose a c
Rose-later a b c le (inl lt) = inl (omega arith)
Rose-later a b c le (inr full) = inr full

-- what rose in an earlier part of a call rose in the call
pub Rose-earlier : (a b c : ℕ) → Rose a b → b ≤ c → Rose a c
Rose-earlier a b c (inl lt) le = inl (omega arith)
Rose-earlier a b c (inr full) le = inr (omega arith)

tied : (a b : List ℕ) → tie a b ≡ true → a ≡ b
tied a b e = slice_cmp-IsAntisymmetric nat_cmp-IsAntisymmetric a b (is_eq-true (slice_cmp nat_cmp a b) e)
  where
    is_eq-true : (r : Ordering) → is_eq r ≡ true → r ≡ Equal
    is_eq-true Less e = cc
    is_eq-true Equal e = refl
    is_eq-true Greater e = cc

-- another name keeps what it has
pub get-insert_other : (m : Files) (k q v : List ℕ) → (k ≡ q → ⊥) → get (insert m k v) q ≡ get m q
get-insert_other m k q v differs =
    get-insert-tie m k v q ∙ ap (λ b. cond b (Some v) (get m q)) (false_from_ne_true (tie q k) (λ e. differs (sym (tied q k e))))

chosen : (a b : Bool) (v w o : Option (List ℕ)) → (a ≡ true → b ≡ true → ⊥) → cond a v (cond b w o) ≡ cond b w (cond a v o)
chosen true true v w o apart = absurd (apart refl refl)
chosen true false v w o apart = refl
chosen false b v w o apart = refl

-- files of two names may be put in either order
pub insert_comm : (m : Files) (k j v w : List ℕ) → (k ≡ j → ⊥) → insert (insert m k v) j w ≡ insert (insert m j w) k v
insert_comm m k j v w differs =
    same_files _ _ (λ q.
    get-insert-tie (insert m k v) j w q ∙ ap (cond (tie q j) (Some w)) (get-insert-tie m k v q)
    ∙ chosen (tie q j) (tie q k) (Some w) (Some v) (get m q) (λ a b. differs (sym (tied q k b) ∙ tied q j a))
    ∙ sym (get-insert-tie (insert m j w) k v q ∙ ap (cond (tie q k) (Some v)) (get-insert-tie m j w q)))

as_it_was : (b : Bool) (v o : Option (List ℕ)) → (b ≡ true → o ≡ v) → cond b v o ≡ o
as_it_was true v o same = sym (same refl)
as_it_was false v o same = refl

-- to put what a name has already changes nothing
pub insert_same : (m : Files) (k v : List ℕ) → get m k ≡ Some v → insert m k v ≡ m
insert_same m k v had =
    same_files _ _ (λ q. get-insert-tie m k v q ∙ as_it_was (tie q k) (Some v) (get m q) (λ t. ap (get m) (tied q k t) ∙ had))

-- a name that isn't there holds nothing that is too long
pub longer_there : (limit : ℕ) (c : Content) (name : List ℕ) → IsNotThere c name → IsLongerThan limit c name → ⊥
longer_there limit c name missing long = subst (λ held. IsSomeAnd held (λ bytes. limit < length bytes)) missing long

-- a count that stays 0 hasn't risen
pub zero_stays : Rose 0 0 → ⊥
zero_stays (inl lt) = omega arith
zero_stays (inr full) = omega arith

-- over a depot that never fails each name is there
pub sure_there : (s : Sure) (name : List ℕ) → IsNotThere (sure_content s) name → ⊥
sure_there s name e = cc

-- what holds anyhow holds after a refusal
pub refused : {T E : Type 0} (r : Result T E) (P : Type 0) → P → OnErr r P
refused (Ok answer) P p = tt
refused (Err bad) P p = p
