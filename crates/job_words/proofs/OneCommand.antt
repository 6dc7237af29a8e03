-- Words are one command at most.
use Rattle.std.proofs.Common.{◌≡◌, ℕ, ◌+◌, ◌*◌, List, [], Option, get_or, refl, sym, ap, subst, ◌∙◌}
use Rattle.std.specs.Prelude.{◌==◌, if◌then◌else◌, unwrap_or}
use Rattle.deck_text.specs.Kinds.{digits_value}
use Rattle.job_words.specs.Words.{Command, Fracture, Check, Shots, Pack, Unpack, Split, Density, Generate, AreWordsOf}

word : ℕ → List (List ℕ) → List ℕ
word k words = get_or words k []

number : List ℕ → ℕ
number digits = unwrap_or (digits_value digits) 0

-- a number by which the names of commands differ, of their first two bytes
tag : List (List ℕ) → ℕ
tag words = 2 * get_or (word 0 words) 0 0 + get_or (word 0 words) 1 0

-- the command of this name with these words
shape : ℕ → List (List ℕ) → Command
shape t words =
    if t == 318 then Fracture (word 1 words) (word 2 words)
    else if t == 302 then Check (word 1 words) (word 2 words)
    else if t == 334 then Shots (word 1 words)
    else if t == 321 then Pack (word 1 words) (word 2 words)
    else if t == 344 then Unpack (word 1 words) (word 2 words)
    else if t == 342 then Split (number (word 1 words)) (word 2 words) (word 3 words)
    else if t == 301 then Density (number (word 1 words)) (word 2 words) (word 3 words)
    else Generate (number (word 1 words)) (word 2 words)

shaped : (words : List (List ℕ)) (command : Command) → AreWordsOf words command → shape (tag words) words ≡ command
unfolding shape tag word number digits_value
shaped words (Fracture layout deck) h = subst (λ (w : List (List ℕ)). shape (tag w) w ≡ Fracture layout deck) (sym h) refl
shaped words (Check layout deck) h = subst (λ (w : List (List ℕ)). shape (tag w) w ≡ Check layout deck) (sym h) refl
shaped words (Shots file) h = subst (λ (w : List (List ℕ)). shape (tag w) w ≡ Shots file) (sym h) refl
shaped words (Pack file out) h = subst (λ (w : List (List ℕ)). shape (tag w) w ≡ Pack file out) (sym h.are) refl
shaped words (Unpack file out) h = subst (λ (w : List (List ℕ)). shape (tag w) w ≡ Unpack file out) (sym h.are) refl
shaped words (Split size file out) h =
    subst (λ (w : List (List ℕ)). shape (tag w) w ≡ Split size file out) (sym h.are)
    (ap (λ (m : Option ℕ). Split (unwrap_or m 0) file out) h.number.value)
shaped words (Density size layout deck) h =
    subst (λ (w : List (List ℕ)). shape (tag w) w ≡ Density size layout deck) (sym h.are)
    (ap (λ (m : Option ℕ). Density (unwrap_or m 0) layout deck) h.number.value)
shaped words (Generate n file) h =
    subst (λ (w : List (List ℕ)). shape (tag w) w ≡ Generate n file) (sym h.are)
    (ap (λ (m : Option ℕ). Generate (unwrap_or m 0) file) h.number.value)

pub one_command : (words : List (List ℕ)) (c d : Command) → AreWordsOf words c → AreWordsOf words d → c ≡ d
one_command words c d h k = sym (shaped words c h) ∙ shaped words d k
