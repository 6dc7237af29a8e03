-- From the table of answers to each answer by itself.
use Rattle.std.proofs.Common.{◌≡◌, ◌⊎◌, inl, inr, ℕ, List, Ok, Err, refl, sym, ap, subst, ◌∙◌}
use Rattle.std.proofs.lemmas.Option.{none-some, same_Some}
use Rattle.depot.specs.Content.{Content, IsLongerThan}
use Rattle.geo_stream.specs.declared.refusal.Refusal.TheVariants.{Fault, NoMemory}
use Rattle.layout_model.specs.Layouts.{IsLayoutOnGrid}
use Rattle.layout_model.specs.declared.cells.Layout.{Layout}
use Rattle.gds_reader.specs.declared.refusing.GdsBad.{GdsBad}
use Rattle.oas_reader.specs.declared.refusing.OasBad.{OasBad}
use Rattle.cell_tree.specs.Trees.{Rooted}
use Rattle.cell_tree.specs.Faults.{IsFirstTreeFault, order_of}
use Rattle.cell_tree.specs.declared.faults.TreeBad.{TreeBad}
use Rattle.cell_tree.proofs.ForCallers.{no_fault, answered}
use Rattle.deck_text.specs.declared.refusal.DeckBad.{DeckBad}
use Rattle.deck_text.specs.declared.deck.Deck.{Deck}
use Rattle.job_input.specs.Accepted.{IsTreeFor, HoldsInput}
use Rattle.job_input.specs.Refused.{HoldsDeckFault, IsLongLayout, HoldsGdsFault, HoldsOasFault, IsTreeFaultFor, HoldsTreeFault, IsWanting}
use Rattle.job_input.specs.Clauses.{Answer, IsReadExactlyWhere, IsOfKind, ComesByKind}
use Rattle.job_input.specs.Parts.{IsInputAnswer}
use Rattle.job_input.specs.declared.formats.Format.{Format}
use Rattle.job_input.specs.declared.reading.Input.{Input}
use Rattle.job_input.specs.declared.refusing.InputBad.TheVariants as answers
use Rattle.job_input.specs.declared.refusing.DeckFault.TheVariants as deck_faults
use Rattle.job_input.specs.declared.refusing.LayoutFault.TheVariants as layout_faults
use Rattle.job_input.proofs.Causes.{LayoutClass, NoLayout, LongLayout, GdsFault, OasFault, GoodLayout, Class, NoDeck}
use Rattle.job_input.proofs.Causes.{LongDeck, BadDeck, GoodDeck, IsClass, OasisLaws, one_class, same_root}

-- ---- the tree

-- one fault, or none
one_kind : (d : Deck) (l : Layout) (bad other : TreeBad) → IsLayoutOnGrid l → IsTreeFaultFor d l bad → IsTreeFaultFor d l other → order_of other ≡ order_of bad
one_kind d l bad other grid (inl (e, none)) (inl (f, none')) = ap order_of (f ∙ sym e)
one_kind d l bad other grid (inl (e, none)) (inr (n, f, first)) = absurd (none-some n (sym none ∙ f))
one_kind d l bad other grid (inr (n, e, first)) (inl (f, none)) = absurd (none-some n (sym none ∙ e))
one_kind d l bad other grid (inr (n, e, first)) (inr (m, f, first_other)) =
    let same : m ≡ n = same_Some m n (sym f ∙ e) in
    let here : IsFirstTreeFault l.cells n other = subst (λ k. IsFirstTreeFault l.cells k other) same first_other in
    answered {T = Rooted} l.cells n (Err (Fault other)) bad grid.cells tt here first

no_tree_fault : (d : Deck) (t : Rooted) (bad : TreeBad) → IsLayoutOnGrid t.layout → IsTreeFor d t → IsTreeFaultFor d t.layout bad → ⊥
no_tree_fault d t bad grid tree (inl (e, none)) = none-some t.top (sym none ∙ tree.top)
no_tree_fault d t bad grid tree (inr (n, e, first)) =
    let same : n ≡ t.top = same_Some n t.top (sym e ∙ tree.top) in
    no_fault t.layout.cells t.top bad grid.cells tree.is_tree (subst (λ k. IsFirstTreeFault t.layout.cells k bad) same first)

-- ---- what is due

-- the tree of a layout, or a fault of it
abbrev DueTree : Deck → Format → Layout → Answer → Type 0
DueTree d f l r =
    IsLayoutOnGrid l
    × (((t : Rooted) × (t.layout ≡ l) × IsTreeFor d t × (r ≡ Ok (record { deck = d; format = f; tree = t })))
    ⊎ ((bad : TreeBad) × IsTreeFaultFor d l bad × (r ≡ Err (Fault (answers.Layout (layout_faults.Tree bad) d.top)))))

abbrev DueLayout : Deck → LayoutClass → Answer → Type 0
DueLayout d NoLayout r = r ≡ Err (Fault answers.ReadFault)
DueLayout d LongLayout r = r ≡ Err (Fault (answers.Layout layout_faults.Long d.top))
DueLayout d (GdsFault bad) r = r ≡ Err (Fault (answers.Layout (layout_faults.Gds bad) d.top))
DueLayout d (OasFault bad) r = r ≡ Err (Fault (answers.Layout (layout_faults.Oas bad) d.top))
DueLayout d (GoodLayout f l) r = DueTree d f l r

abbrev Due : Class → Answer → Type 0
Due NoDeck r = r ≡ Err (Fault answers.ReadFault)
Due LongDeck r = r ≡ Err (Fault (answers.Deck deck_faults.Long))
Due (BadDeck bad) r = r ≡ Err (Fault (answers.Deck (deck_faults.Bad bad)))
Due (GoodDeck d x) r = DueLayout d x r

-- want of memory, or a counted fault of reading
abbrev Aside : Type 0 → Answer → Type 0
Aside read_rose r = (r ≡ Err NoMemory) ⊎ ((r ≡ Err (Fault answers.ReadFault)) × read_rose)

module _ (laws : OasisLaws) (c : Content) (read_rose : Type 0) (layout deck : List ℕ) where
  abbrev Settled : Answer → Type 0
  Settled r = ((y : Class) × IsClass c layout deck y × Due y r) ⊎ Aside read_rose r

  settled : (r : Answer) → IsInputAnswer c read_rose layout deck r → Settled r
  settled (Ok input) (h, grid) = inl (
    GoodDeck input.deck (GoodLayout input.format input.tree.layout),
    (h.holds_deck, h.holds_layout),
    (grid, inl (input.tree, refl, h.is_tree, refl)),
  )
  settled (Err (Fault (answers.Deck deck_faults.Long))) a = inl (LongDeck, a, refl)
  settled (Err (Fault (answers.Deck (deck_faults.Bad bad)))) a = inl (BadDeck bad, a, refl)
  settled (Err (Fault (answers.Layout layout_faults.Long top))) a =
      inl (GoodDeck a.deck_is LongLayout, (a.holds_deck, a.long), ap (λ (t : List ℕ). Err (Fault (answers.Layout layout_faults.Long t))) a.top_is)
  settled (Err (Fault (answers.Layout (layout_faults.Gds bad) top))) a =
      inl (
        GoodDeck a.deck_is (GdsFault bad),
        (a.holds_deck, (a.bytes, a.holds, a.fault)),
        ap
            (λ (t : List ℕ). Err (Fault (answers.Layout (layout_faults.Gds bad) t))) a.top_is,
      )
  settled (Err (Fault (answers.Layout (layout_faults.Oas bad) top))) a =
      inl (
        GoodDeck a.deck_is (OasFault bad),
        (a.holds_deck, (a.bytes, a.holds, a.fault)),
        ap
            (λ (t : List ℕ). Err (Fault (answers.Layout (layout_faults.Oas bad) t))) a.top_is,
      )
  settled (Err (Fault (answers.Layout (layout_faults.Tree bad) top))) (a, grid) =
      inl (
        GoodDeck a.deck_is (GoodLayout a.format_is a.layout_is),
        (a.holds_deck, a.holds_layout),
        (grid, inr (bad, a.fault, ap (λ (t : List ℕ). Err (Fault (answers.Layout (layout_faults.Tree bad) t))) a.top_is)),
      )
  settled (Err (Fault answers.ReadFault)) (inl rose) = inr (inr (refl, rose))
  settled (Err (Fault answers.ReadFault)) (inr (inl missing)) = inl (NoDeck, missing, refl)
  settled (Err (Fault answers.ReadFault)) (inr (inr a)) = inl (GoodDeck a.deck_is NoLayout, (a.holds_deck, a.missing), refl)
  settled (Err NoMemory) a = inr (inl refl)

  due_by : (x : Class) (r : Answer) → IsClass c layout deck x → Settled r → Due x r ⊎ Aside read_rose r
  due_by x r holds (inl (y, is, due)) = inl (subst (λ (z : Class). Due z r) (one_class laws c layout deck y x is holds) due)
  due_by x r holds (inr aside) = inr aside

  module _ (r : Answer) (a : IsInputAnswer c read_rose layout deck r) where
    due : (x : Class) → IsClass c layout deck x → Due x r ⊎ Aside read_rose r
    due x holds = due_by x r holds (settled r a)

    told : (answer : Answer) → r ≡ answer → IsInputAnswer c read_rose layout deck answer
    told answer e = subst (λ (x : Answer). IsInputAnswer c read_rose layout deck x) e a

    -- the answer is the one that is due where it has this name
    named : (f : List ℕ → Answer) (name top : List ℕ) → top ≡ name → (r ≡ f name) ⊎ Aside read_rose r → (r ≡ f top) ⊎ Aside read_rose r
    named f name top same (inl e) = inl (e ∙ ap f (sym same))
    named f name top same (inr aside) = inr aside

    pub deck_long : IsReadExactlyWhere read_rose r (Err (Fault (answers.Deck deck_faults.Long))) (IsLongerThan 65536 c deck)
    deck_long = record { only = λ e. told (Err (Fault (answers.Deck deck_faults.Long))) e; whenever = λ h. due LongDeck h }

    pub deck_bad : (bad : DeckBad) → IsReadExactlyWhere read_rose r (Err (Fault (answers.Deck (deck_faults.Bad bad)))) (HoldsDeckFault c layout deck bad)
    deck_bad bad = record { only = λ e. told (Err (Fault (answers.Deck (deck_faults.Bad bad)))) e; whenever = λ h. due (BadDeck bad) h }

    pub layout_long : (top : List ℕ) → IsReadExactlyWhere read_rose r (Err (Fault (answers.Layout layout_faults.Long top))) (IsLongLayout c layout deck top)
    layout_long top = record {
      only = λ e. told (Err (Fault (answers.Layout layout_faults.Long top))) e;
      whenever = λ h. named (λ t. Err (Fault (answers.Layout layout_faults.Long t))) h.deck_is.top top h.top_is
          (due (GoodDeck h.deck_is LongLayout) (h.holds_deck, h.long));
    }

    pub layout_gds : (bad : GdsBad) (top : List ℕ)
        → IsReadExactlyWhere read_rose r (Err (Fault (answers.Layout (layout_faults.Gds bad) top)))
        (HoldsGdsFault c layout deck bad top)
    layout_gds bad top = record {
      only = λ e. told (Err (Fault (answers.Layout (layout_faults.Gds bad) top))) e;
      whenever = λ h. named (λ t. Err (Fault (answers.Layout (layout_faults.Gds bad) t))) h.deck_is.top top h.top_is
          (due (GoodDeck h.deck_is (GdsFault bad)) (h.holds_deck, (h.bytes, h.holds, h.fault)));
    }

    pub layout_oas : (bad : OasBad) (top : List ℕ)
        → IsReadExactlyWhere read_rose r (Err (Fault (answers.Layout (layout_faults.Oas bad) top)))
        (HoldsOasFault c layout deck bad top)
    layout_oas bad top = record {
      only = λ e. told (Err (Fault (answers.Layout (layout_faults.Oas bad) top))) e;
      whenever = λ h. named (λ t. Err (Fault (answers.Layout (layout_faults.Oas bad) t))) h.deck_is.top top h.top_is
          (due (GoodDeck h.deck_is (OasFault bad)) (h.holds_deck, (h.bytes, h.holds, h.fault)));
    }

    of_kind : (d : Deck) (f : Format) (l : Layout) (bad : TreeBad) (top : List ℕ) → top ≡ d.top
        → IsTreeFaultFor d l bad → DueTree d f l r ⊎ Aside read_rose r → IsOfKind bad top r ⊎ Aside read_rose r
    of_kind d f l bad top same fault (inl (grid, inl (t, of, tree, e))) =
        absurd (no_tree_fault d t bad (subst IsLayoutOnGrid (sym of) grid) tree (subst (λ (m : Layout). IsTreeFaultFor d m bad) (sym of) fault))
    of_kind d f l bad top same fault (inl (grid, inr (other, there, e))) = inl (record {
      other = other;
      answer = e ∙ ap (λ (t : List ℕ). Err (Fault (answers.Layout (layout_faults.Tree other) t))) (sym same);
      same = one_kind d l bad other grid fault there;
    })
    of_kind d f l bad top same fault (inr aside) = inr aside

    pub layout_tree : (bad : TreeBad) (top : List ℕ) → ComesByKind read_rose r bad top (HoldsTreeFault c layout deck bad top)
    layout_tree bad top = record {
      only = λ e. (told (Err (Fault (answers.Layout (layout_faults.Tree bad) top))) e).0;
      whenever = λ h. of_kind h.deck_is h.format_is h.layout_is bad top h.top_is h.fault
          (due (GoodDeck h.deck_is (GoodLayout h.format_is h.layout_is)) (h.holds_deck, h.holds_layout));
    }

    given_by : (input : Input) → HoldsInput c layout deck input → DueTree input.deck input.format input.tree.layout r
        ⊎ Aside read_rose r → (r ≡ Ok input) ⊎ Aside read_rose r
    given_by input h (inl (grid, inl (t, of, tree, e))) =
        inl (e ∙ ap (λ (u : Rooted). Ok (record { deck = input.deck; format = input.format; tree = u })) (same_root input.deck t input.tree of tree h.is_tree))
    given_by input h (inl (grid, inr (bad, fault, e))) = absurd (no_tree_fault input.deck input.tree bad grid h.is_tree fault)
    given_by input h (inr aside) = inr aside

    pub given : (input : Input) → IsReadExactlyWhere read_rose r (Ok input) (HoldsInput c layout deck input)
    given input = record {
      only = λ e. (told (Ok input) e).0;
      whenever = λ h. given_by input h (due (GoodDeck input.deck (GoodLayout input.format input.tree.layout)) (h.holds_deck, h.holds_layout));
    }

    faulted : (r ≡ Err (Fault answers.ReadFault)) ⊎ Aside read_rose r → (r ≡ Err (Fault answers.ReadFault)) ⊎ (r ≡ Err NoMemory)
    faulted (inl e) = inl e
    faulted (inr (inl e)) = inr e
    faulted (inr (inr (e, rose))) = inl e

    pub missing : IsWanting c layout deck → (r ≡ Err (Fault answers.ReadFault)) ⊎ (r ≡ Err NoMemory)
    missing (inl none) = faulted (due NoDeck none)
    missing (inr h) = faulted (due (GoodDeck h.deck_is NoLayout) (h.holds_deck, h.missing))
