-- The rows of the table of answers that speak of `density`, from its answer.
use Rattle.std.proofs.Common.{◌≡◌, ◌≢◌, ◌⊎◌, inl, inr, ℕ, ℤ, Bool, List, [], length, Option, refl, sym, subst, ◌∙◌, arith}
use Rattle.std.specs.Prelude.{IsTrue}
use Rattle.std.proofs.lemmas.Option.{same_Some, slice_get_within}
use Rattle.depot.specs.Content.{Content, with_left}
use Rattle.depot.specs.Counts.{Counts, NeverFall, Rose}
use Rattle.depot.specs.declared.outside.DepotBad.{DepotBad}
use Rattle.depot.specs.declared.outside.DepotBad.TheVariants as depot
use Rattle.depot.proofs.ForCallers.{Rose-earlier}
use Rattle.density_map.specs.Windows.{IsWindowSize}
use Rattle.density_report.specs.Tables.{Table, HasTrueNumbers}
use Rattle.density_report.specs.Texts.{tables_text}
use Rattle.density_report.specs.Saying.{AreTables, IsSaid, IsDensityCutShort}
use Rattle.density_report.proofs.ForCallers.{true_numbers}
use Rattle.deck_plan.specs.Plans.{Planned, planned_area}
use Rattle.job_input.specs.Accepted.{HoldsInput}
use Rattle.job_input.specs.Refused.{IsWanting}
use Rattle.job_input.specs.declared.reading.Input.{Input}
use Rattle.mdp_job.specs.Runs.{Run, run_of, ReadRose, WriteRose}
use Rattle.mdp_job.specs.Densities.{IsDensityText, AreTablesSaid, AreTablesCutShort, AreCounted, IsCounted, IsDensityAnswer}
use Rattle.mdp_job.specs.Denoted.{plan_of}
use Rattle.mdp_job.specs.Parts.{fault_status}
use Rattle.job_report.specs.declared.status.Status.{Status}
use Rattle.job_report.specs.declared.status.Status.TheVariants as answers
use Rattle.mdp_job.proofs.Rows.{KeepsInput, done_given, write_given, read_cause, input_due}
use Rattle.mdp_job.proofs.Made.{answer_later}

pub counted_keeps : (r : Run) (size : ℤ) → KeepsInput (IsCounted r size)
counted_keeps r size = record { deck = λ input fault x. x; layout = λ input fault x. x }

-- ---- what was said

-- the text of the tables of an input's outputs
text_of_tables : (size : ℤ) (input : Input) (tables : List Table) → IsWindowSize size
    → AreTables (plan_of input) size (length input.deck.outputs) tables
    → IsDensityText size input (tables_text size input.deck.outputs tables)
text_of_tables size input tables h are = record {
  tables = tables;
  are = are;
  numbers = λ k table here. (
      let inside = slice_get_within tables k table here in
      let own = are.each k (omega (arith, inside, are.count)) in
      subst (λ (t : Table). HasTrueNumbers (planned_area (plan_of input) k) size t) (same_Some own.0 table (sym own.1 ∙ here))
      (true_numbers (planned_area (plan_of input) k) size own.0 h own.2)
      );
  is = refl;
}

pub counted_done : (p : Planned) (size : ℤ) (tells : Bool) (b a : Content) (wr : Type 0) (input : Input) → p ≡ plan_of input → IsWindowSize size
    → IsTrue tells → IsSaid p size tells b a → AreCounted b a wr size input answers.Done
counted_done p size tells b a wr input same h told said =
    let all = subst (λ (q : Planned). IsSaid q size tells b a) same said in
    (tables_text size input.deck.outputs all.tables, text_of_tables size input all.tables h all.are, all.content told)

cut_by : (p : Planned) (size : ℤ) (b a : Content) (input : Input) → p ≡ plan_of input → IsWindowSize size → IsDensityCutShort p size b a
    → AreTablesCutShort b a size input
cut_by p size b a input same h cut =
    let all = subst (λ (q : Planned). IsDensityCutShort q size b a) same cut in
    inr (tables_text size input.deck.outputs all.tables, text_of_tables size input all.tables h all.are, all.part)

pub counted_cut : (p : Planned) (size : ℤ) (b a : Content) (wr : Type 0) (input : Input) (bad : DepotBad) → p ≡ plan_of input → IsWindowSize size
    → (bad ≡ depot.Failed → wr) → IsDensityCutShort p size b a → AreCounted b a wr size input (fault_status bad)
counted_cut p size b a wr input depot.Failed same h failed cut = (failed refl, cut_by p size b a input same h cut)
counted_cut p size b a wr input depot.NoMemory same h failed cut = cut_by p size b a input same h cut

-- ---- later, and from the content before the reading

counted_later : (b a : Content) (wr wr₁ : Type 0) (size : ℤ) (input : Input) (s : Status) → (wr₁ → wr)
    → AreCounted b a wr₁ size input s → AreCounted b a wr size input s
counted_later b a wr wr₁ size input answers.Done wider x = x
counted_later b a wr wr₁ size input answers.Words wider x = x
counted_later b a wr wr₁ size input (answers.Deck fault) wider x = x
counted_later b a wr wr₁ size input (answers.Layout fault) wider x = x
counted_later b a wr wr₁ size input answers.ReadFault wider x = x
counted_later b a wr wr₁ size input answers.WriteFault wider (rose, cut) = (wider rose, cut)
counted_later b a wr wr₁ size input answers.NoMemory wider x = x
counted_later b a wr wr₁ size input (answers.No place fault) wider x = x

pub density_later : (b m : Content) (o p q : Counts) (size : ℤ) (layout deck : List ℕ) (s : Status) (top : Option (List ℕ)) → NeverFall p q
    → IsDensityAnswer (run_of b m o p) size layout deck s top → IsDensityAnswer (run_of b m o q) size layout deck s top
density_later b m o p q size layout deck s top later h =
    answer_later (IsCounted (run_of b m o q) size) (IsCounted (run_of b m o p) size) b m o p q layout deck s top later
    (λ input t x. counted_later (with_left b []) m _ _ size input t
    (λ rose. Rose-earlier o.write_faults p.write_faults q.write_faults rose later.write_faults) x) h

pub counted_from : (b c a : Content) (o n p : Counts) (size : ℤ) (input : Input) (s : Status) → n ≡ o → c ≡ with_left b []
    → AreCounted c a (Rose n.write_faults p.write_faults) size input s → IsCounted (run_of b a o p) size input s
counted_from b c a o n p size input s same e x =
    subst (λ (d : Content). AreCounted d a (Rose o.write_faults p.write_faults) size input s) e
    (subst (λ (k : Counts). AreCounted c a (Rose k.write_faults p.write_faults) size input s) same x)

-- ---- what the answer tells of the counting

counted_where : (b a : Content) (wr : Type 0) (size : ℤ) (input : Input) (s : Status) → AreCounted b a wr size input s
    → (wr → ⊥) → s ≢ answers.NoMemory → s ≡ answers.Done
counted_where b a wr size input answers.Done x writes memory = refl
counted_where b a wr size input answers.Words x writes memory = absurd x
counted_where b a wr size input (answers.Deck fault) x writes memory = absurd x
counted_where b a wr size input (answers.Layout fault) x writes memory = absurd x
counted_where b a wr size input answers.ReadFault x writes memory = absurd x
counted_where b a wr size input answers.WriteFault (rose, cut) writes memory = absurd (writes rose)
counted_where b a wr size input answers.NoMemory x writes memory = absurd (memory refl)
counted_where b a wr size input (answers.No place fault) x writes memory = absurd x

-- the saying was cut short
pub record NotCounted (r : Run) (size : ℤ) (input : Input) (s : Status) : Type 0 where
  pub which : (s ≡ answers.WriteFault) ⊎ (s ≡ answers.NoMemory)
  pub cut : AreTablesCutShort (with_left r.before []) r.after size input

pub not_counted : (r : Run) (size : ℤ) (input : Input) (s : Status) → IsCounted r size input s → s ≢ answers.Done → NotCounted r size input s
not_counted r size input answers.Done x n = absurd (n refl)
not_counted r size input answers.Words x n = absurd x
not_counted r size input (answers.Deck fault) x n = absurd x
not_counted r size input (answers.Layout fault) x n = absurd x
not_counted r size input answers.ReadFault x n = absurd x
not_counted r size input answers.WriteFault (rose, cut) n = record { which = inl refl; cut = cut }
not_counted r size input answers.NoMemory cut n = record { which = inr refl; cut = cut }
not_counted r size input (answers.No place fault) x n = absurd x

-- ---- the rows

module _ (r : Run) (size : ℤ) (layout deck : List ℕ) (s : Status) (top : Option (List ℕ)) (h : IsDensityAnswer r size layout deck s top) where
  pub density_where : (ReadRose r → ⊥) → (WriteRose r → ⊥) → s ≢ answers.NoMemory → (input : Input) → HoldsInput r.before layout deck input → s ≡ answers.Done
  density_where reads writes memory input holds =
      elim (input_due (IsCounted r size) r layout deck s top h input holds) [
        | inl x ↦ counted_where (with_left r.before []) r.after (WriteRose r) size input s x writes memory
        | inr (inl e) ↦ absurd (memory e)
        | inr (inr (e, rose)) ↦ absurd (reads rose)
      ]

  pub density_cause : s ≡ answers.ReadFault → ReadRose r ⊎ IsWanting r.before layout deck
  density_cause e =
      elim (read_cause (IsCounted r size) r layout deck s top h e) [
        | inl rose ↦ inl rose
        | inr (inl want) ↦ inr want
        | inr (inr (input, holds, x)) ↦ absurd x
      ]

  pub density_write : s ≡ answers.WriteFault → WriteRose r × (input : Input) × HoldsInput r.before layout deck input
  density_write e =
      let given = write_given (IsCounted r size) r layout deck s top h e in
      let x : IsCounted r size given.input answers.WriteFault = subst (λ (t : Status). IsCounted r size given.input t) e given.is in
      (x.0, given.input, given.holds)

  pub density_done : s ≡ answers.Done → (input : Input) × HoldsInput r.before layout deck input × AreTablesSaid (with_left r.before []) r.after size input
  density_done e =
      let given = done_given (IsCounted r size) r layout deck s top h e in
      (given.input, given.holds, subst (λ (t : Status). IsCounted r size given.input t) e given.is)
