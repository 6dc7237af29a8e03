-- What the program's call knows at its end: the table of answers, and the line that was said after it.
use Rattle.std.proofs.Common.{◌≡◌, ◌≢◌, ◌⊎◌, inl, inr, ℕ, Bool, List, [], ◌++◌, length, take, Option, refl, sym, ap, subst, ◌∙◌, arith, append_assoc}
use Rattle.std.specs.Prelude.{IsTrue}
use Rattle.std.proofs.Math.Seq.{take-length}
use Rattle.depot.specs.Content.{Content, ChangesLeftOnly, with_left, with_said, with_file, with_current, IsPartSaid, IsPartMade}
use Rattle.depot.specs.Counts.{Counts, NeverFall, Rose}
use Rattle.shot_output.specs.Laws.{HasRules}
use Rattle.job_input.specs.Accepted.{HoldsInput}
use Rattle.job_input.specs.declared.reading.Input.{Input}
use Rattle.mdp_job.specs.Runs.{run_of}
use Rattle.deck_text.specs.declared.deck.Output.{Output}
use Rattle.job_words.specs.Lines.{file_word}
use Rattle.job_report.specs.Endings.{line_of, name_of, file_of}
use Rattle.mdp_job.specs.Parts.{CountsFor}
use Rattle.mdp_job.specs.Table.{IsAnswerTo, NamesFile}
use Rattle.mdp_job.specs.Clauses.{IsRefusedFileName}
use Rattle.job_report.specs.declared.status.Status.{Status}
use Rattle.job_report.specs.declared.status.Status.TheVariants as answers
use Rattle.mdp_job.proofs.FileRows.{memory_done, write_done}
use Rattle.mdp_job.proofs.Table.{file_named}
use Rattle.mdp_job.proofs.Written.{rules}

-- b, m, a are the contents before the command, after it and after the line, and o, p, q the counts; top is the name that
-- the line may need.
pub record Ends (tells : Bool) (b m a : Content) (o p q : Counts) (words : List (List ℕ)) (s : Status) (top : Option (List ℕ)) : Type 0 where
  pub told : IsTrue tells
  pub table : IsAnswerTo tells (run_of b m o p) words s top
  pub earlier : NeverFall o p
  pub later : NeverFall p q
  pub done : s ≡ answers.Done → a ≡ m
  pub file : List ℕ
  pub of_file : IsRefusedFileName (run_of b a o q) words s file
  pub part : IsPartSaid m (line_of file (name_of top) s) a
  pub whole : ((a ≡ with_said m (line_of file (name_of top) s)) × (q ≡ p)) ⊎ Rose p.write_faults q.write_faults ⊎ Rose p.refused q.refused
  pub counts : CountsFor o p s

-- from what the parts of the call say
pub ends_of : (tells : Bool) (b m a : Content) (o p q : Counts) (words : List (List ℕ)) (s : Status)
    (top : Option (List ℕ)) (outputs : Option (List Output)) → IsTrue tells
    → IsAnswerTo tells (run_of b m o p) words s top → NamesFile b words s outputs → CountsFor o p s → NeverFall o p → NeverFall p q → (s ≡ answers.Done → a ≡ m)
    → IsPartSaid m (line_of (file_of (file_word words) outputs s) (name_of top) s) a
    → ((a ≡ with_said m (line_of (file_of (file_word words) outputs s) (name_of top) s)) × (q ≡ p))
    ⊎ Rose p.write_faults q.write_faults ⊎ Rose p.refused q.refused
    → Ends tells b m a o p q words s top
ends_of tells b m a o p q words s top outputs told table file counts earlier later done part whole = record {
  told = told;
  table = table;
  earlier = earlier;
  later = later;
  done = done;
  file = file_of (file_word words) outputs s;
  of_file = file_named b a o q words s outputs file;
  part = part;
  whole = whole;
  counts = counts;
}

pub input_rules : (c : Content) (layout deck : List ℕ) (input : Input) → HoldsInput c layout deck input → HasRules input.deck
input_rules c layout deck input h = rules h.holds_deck.bytes layout deck input.deck h.holds_deck.is_deck

pub not_done : (s : Status) → (s ≡ answers.WriteFault) ⊎ (s ≡ answers.NoMemory) → s ≢ answers.Done
not_done s (inl e) f = write_done (sym e ∙ f)
not_done s (inr e) f = memory_done (sym e ∙ f)

-- ---- contents, but for what was said

-- the content after, but for what was said
abbrev pub unsaid : Content → Content → Content
unsaid b a = record a { said = b.said }

pub quiet_is : (b m a : Content) (x : List ℕ) → m.said ≡ b.said → a ≡ with_said m x → unsaid b a ≡ m
quiet_is b m a x same e = ap (unsaid b) e ∙ ap (λ (t : List ℕ). record m { said = t }) (sym same)

-- something was made while nothing was said, then a text was said, and then something more
pub made_quiet : (b c m a : Content) (front x : List ℕ) → c.said ≡ b.said → m ≡ with_said c front → a ≡ with_said m x → unsaid b a ≡ c
made_quiet b c m a front x same f e =
    ap (unsaid b) e ∙ ap (λ (d : Content). unsaid b (with_said d x)) f ∙ ap (λ (t : List ℕ). record c { said = t }) (sym same)

pub quiet_left : (b a : Content) (left x : List ℕ) → a ≡ record (with_left b left) { said = x } → ChangesLeftOnly b (unsaid b a)
quiet_left b a left x e = subst (λ (c : Content). ChangesLeftOnly b (unsaid b c)) (sym e) refl

-- nothing but what is left changed in the command, and then something was said
pub left_then : (b m a : Content) (x : List ℕ) → ChangesLeftOnly b m → a ≡ with_said m x → ChangesLeftOnly b (unsaid b a)
left_then b m a x e f = quiet_left b a m.left (m.said ++ x) (f ∙ ap (λ (c : Content). record c { said = m.said ++ x }) e)

-- a part of a text was said in the command, and then something more
pub said_then : (b m a : Content) (y x : List ℕ) → m ≡ with_said (with_left b []) y → a ≡ with_said m x → ChangesLeftOnly b (unsaid b a)
said_then b m a y x e f = quiet_left b a [] (m.said ++ x) (f ∙ ap (λ (c : Content). record c { said = m.said ++ x }) e)

pub part_said_then : (b m a : Content) (text x : List ℕ) → IsPartSaid (with_left b []) text m → a ≡ with_said m x → ChangesLeftOnly b (unsaid b a)
part_said_then b m a text x (n, few, e) f = said_then b m a (take n text) x e f

-- the report of `check` was said in part, and then something more
pub reported_then : (b m a : Content) (y x : List ℕ) → m ≡ with_said (with_left b m.left) y → a ≡ with_said m x → ChangesLeftOnly b (unsaid b a)
reported_then b m a y x e f = quiet_left b a m.left (m.said ++ x) (f ∙ ap (λ (c : Content). record c { said = m.said ++ x }) e)

pub left_said : (b m : Content) → ChangesLeftOnly b m → m.said ≡ b.said
left_said b m e = ap (λ (c : Content). c.said) e

pub part_made_said : (b m : Content) (file bytes : List ℕ) → IsPartMade b file bytes m → m.said ≡ b.said
part_made_said b m file bytes (inl e) = ap (λ (c : Content). c.said) e
part_made_said b m file bytes (inr (n, few, e)) = ap (λ (c : Content). c.said) e

-- a file is made in part, and then something was said
pub part_quiet : (b m a : Content) (file bytes x : List ℕ) → IsPartMade b file bytes m → a ≡ with_said m x → IsPartMade b file bytes (unsaid b a)
part_quiet b m a file bytes x part e =
    let quiet = quiet_is b m a x (part_made_said b m file bytes part) e in
    subst (λ (c : Content). IsPartMade b file bytes c) (sym quiet) part

pub whole_quiet : (b a : Content) (file bytes x : List ℕ) → a ≡ with_said (with_file b file bytes) x → IsPartMade b file bytes (unsaid b a)
whole_quiet b a file bytes x e = inr (
  length bytes,
  omega (arith),
  subst (λ (c : Content). unsaid b c ≡ with_current (with_file b file (take (length bytes) bytes)) (unsaid b c).current)
      (sym e) (ap (λ (t : List ℕ). with_file b file t) (sym (take-length bytes))),
)

-- a file is made and a part of its line said, and then something more
pub line_quiet : (b m a : Content) (file bytes line x : List ℕ) → IsPartSaid (with_file b file bytes) line m → a
    ≡ with_said m x → IsPartMade b file bytes (unsaid b a)
line_quiet b m a file bytes line x (n, few, f) e =
    let front = take n line in
    let made = with_file b file bytes in
    whole_quiet b a file bytes (front ++ x)
    (e ∙ ap (λ (c : Content). with_said c x) f ∙ ap (λ (t : List ℕ). record made { said = t }) (append_assoc made.said front x))
