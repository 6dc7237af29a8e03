-- From the layout of an accepted deck to both.
use Rattle.std.proofs.Common.{◌≡◌, inl, inr, ℕ, List, [], Err, refl, subst}
use Rattle.depot.specs.Content.{Content, with_left}
use Rattle.depot.specs.Counts.{Counts, Rose}
use Rattle.geo_stream.specs.declared.refusal.Refusal.TheVariants.{Fault}
use Rattle.layout_model.specs.Layouts.{IsLayoutOnGrid}
use Rattle.layout_model.specs.declared.cells.Layout.{Layout}
use Rattle.deck_text.specs.declared.deck.Deck.{Deck}
use Rattle.job_input.specs.Accepted.{Holds, HoldsDeck, HoldsLayout, IsTreeFor, HoldsInput}
use Rattle.job_input.specs.Parts.{IsTreeAnswer, IsInputAnswer, layout_refused}
use Rattle.job_input.specs.declared.formats.Format.{Format}
use Rattle.job_input.specs.declared.layouts.Found.{Found}
use Rattle.job_input.specs.declared.refusing.LayoutBad.{LayoutBad}
use Rattle.job_input.specs.declared.refusing.LayoutBad.TheVariants as layouts
use Rattle.job_input.specs.declared.refusing.LayoutFault.TheVariants as layout_faults

-- what a name holds doesn't rest on what is left to be read
same_held : (c : Content) (name : List ℕ) (limit : ℕ) (bytes : List ℕ) → Holds (with_left c []) name limit bytes → Holds c name limit bytes
same_held c name limit bytes h = record { held = h.held; short = h.short }

pub same_layout : (c : Content) (layout : List ℕ) (d : Deck) (f : Format) (l : Layout) → HoldsLayout (with_left c []) layout d f l → HoldsLayout c layout d f l
same_layout c layout d f l h = record { bytes = h.bytes; holds = same_held c layout 268435456 h.bytes h.holds; is_layout = h.is_layout }

refused_here : (c : Content) (read_rose : Type 0) (layout deck : List ℕ) (d : Deck) (bad : LayoutBad) → HoldsDeck c layout deck d
    → IsTreeAnswer (with_left c []) read_rose layout d (Err (Fault bad)) → IsInputAnswer c read_rose layout deck (Err (Fault (layout_refused bad d.top)))
refused_here c read_rose layout deck d (layouts.Refused layout_faults.Long) holds a = record { deck_is = d; top_is = refl; holds_deck = holds; long = a }
refused_here c read_rose layout deck d (layouts.Refused (layout_faults.Gds bad)) holds (bytes, h, fault) =
    record { deck_is = d; top_is = refl; holds_deck = holds; bytes = bytes; holds = same_held c layout 268435456 bytes h; fault = fault }
refused_here c read_rose layout deck d (layouts.Refused (layout_faults.Oas bad)) holds (bytes, h, fault) =
    record { deck_is = d; top_is = refl; holds_deck = holds; bytes = bytes; holds = same_held c layout 268435456 bytes h; fault = fault }
refused_here c read_rose layout deck d (layouts.Refused (layout_faults.Tree bad)) holds (f, l, h, fault, grid) =
    (record { deck_is = d; top_is = refl; holds_deck = holds; format_is = f; layout_is = l; holds_layout = same_layout c layout d f l h; fault = fault }, grid)
refused_here c read_rose layout deck d layouts.ReadFault holds (inl rose) = inl rose
refused_here c read_rose layout deck d layouts.ReadFault holds (inr missing) = inr (inr (record { deck_is = d; holds_deck = holds; missing = missing }))

-- what is told of a refused layout is told of both
pub refused_for : (c m : Content) (o n p : Counts) (layout deck : List ℕ) (d : Deck) (bad : LayoutBad) → HoldsDeck c layout deck d → m ≡ with_left c [] → n ≡ o
    → IsTreeAnswer m (Rose n.read_faults p.read_faults) layout d (Err (Fault bad))
    → IsInputAnswer c (Rose o.read_faults p.read_faults) layout deck (Err (Fault (layout_refused bad d.top)))
refused_for c m o n p layout deck d bad holds left same a =
    refused_here c (Rose o.read_faults p.read_faults) layout deck d bad holds
    (subst (λ (x : Counts). IsTreeAnswer (with_left c []) (Rose x.read_faults p.read_faults) layout d (Err (Fault bad))) same
    (subst (λ (x : Content). IsTreeAnswer x (Rose n.read_faults p.read_faults) layout d (Err (Fault bad))) left a))

given_here : (c : Content) (layout deck : List ℕ) (d : Deck) (x : Found) → HoldsDeck c layout deck d
    → HoldsLayout (with_left c []) layout d x.format x.tree.layout × IsTreeFor d x.tree × IsLayoutOnGrid x.tree.layout
    → HoldsInput c layout deck (record { deck = d; format = x.format; tree = x.tree }) × IsLayoutOnGrid x.tree.layout
given_here c layout deck d x holds (h, tree, grid) =
    (record { holds_deck = holds; holds_layout = same_layout c layout d x.format x.tree.layout h; is_tree = tree }, grid)

-- what is told of an accepted layout is told of both
pub given_for : (c m : Content) (layout deck : List ℕ) (d : Deck) (x : Found) → HoldsDeck c layout deck d → m ≡ with_left c []
    → HoldsLayout m layout d x.format x.tree.layout × IsTreeFor d x.tree × IsLayoutOnGrid x.tree.layout
    → HoldsInput c layout deck (record { deck = d; format = x.format; tree = x.tree }) × IsLayoutOnGrid x.tree.layout
given_for c m layout deck d x holds left a =
    given_here c layout deck d x holds
    (subst (λ (y : Content). HoldsLayout y layout d x.format x.tree.layout × IsTreeFor d x.tree
    × IsLayoutOnGrid x.tree.layout) left a)
