-- Labels of blocks stay, and so does the position of the block with a label.
use Rattle.std.proofs.Common.{◌≡◌, ℕ, zero, suc, Bool, true, false, List, [], ◌∷◌, length, refl, sym, ap, ◌∙◌}
use Rattle.std.specs.Prelude.{None, Option, Some, if◌then◌else◌, option_map, slice_get, unwrap_or, ◌==◌}
use Rattle.pass_frames_steps.specs.ir_model.Names.{block_labelled, first_where, position_of}
use Rattle.pass_frames_steps.specs.ir_model.declared.module.Block.{Block}
use Rattle.pass_frames_steps.proofs.code.Framed.{entry_made, others_made}
use Rattle.pass_frames_steps.specs.Places.{Framing, edged, framed}
use Rattle.pass_frames_steps.specs.run_step.Step.{label_of}

abbrev IsSame : Framing → ℕ → Block → Type 0
IsSame x k b = (c : Block) × (slice_get (framed x).blocks k ≡ Some c) × (c.label ≡ b.label)

pub same_label : (x : Framing) (k : ℕ) (b : Block) → slice_get (edged x).blocks k ≡ Some b → IsSame x k b
same_label x zero b e = let made = entry_made x b e in (made.0, made.1, made.2.label)
same_label x (suc k) b e = let made = others_made x (suc k) (λ z. absurd (cc)) b e in (made.0, made.1, made.2.label)

pub label_there : (x : Framing) (k : ℕ) (b : Block) → slice_get (edged x).blocks k ≡ Some b
    → label_of (slice_get (framed x).blocks k) ≡ b.label
label_there x k b e = let s = same_label x k b e in ap label_of s.1 ∙ s.2

-- ---- the first block with a label

abbrev found : List Block → ℕ → Option ℕ
found bs label = first_where (λ (b : Block). b.label == label) bs

abbrev AreSame : List Block → List Block → Type 0
AreSame bs cs = (j : ℕ) (b : Block) → slice_get bs j ≡ Some b
    → (c : Block) × (slice_get cs j ≡ Some c) × (c.label ≡ b.label)

found_same : (bs cs : List Block) (label k : ℕ) → AreSame bs cs → found bs label ≡ Some k → found cs label ≡ Some k
found_same [] cs label k same e = absurd (cc)
found_same (b ∷ bs) [] label k same e = let none = (same 0 b refl).1 in absurd (cc)
found_same (b ∷ bs) (c ∷ cs) label k same e =
    let one = same 0 b refl in
    let is : c ≡ one.0 = cc in
    let alike : c.label ≡ b.label = ap (λ (d : Block). d.label) is ∙ one.2 in
    ap (λ (n : ℕ). if n == label then Some 0 else option_map suc (found cs label)) alike
    ∙ on (b.label == label) (found bs label) refl e (λ j at. found_same bs cs label j (λ i d f. same (suc i) d f) at)
  where
    on : (t : Bool) (o : Option ℕ) → found bs label ≡ o
        → (if t then Some 0 else option_map suc (found bs label)) ≡ Some k
        → ((j : ℕ) → found bs label ≡ Some j → found cs label ≡ Some j)
        → (if t then Some 0 else option_map suc (found cs label)) ≡ Some k
    on true o is e more = e
    on false None is e more = let none : None ≡ Some k = sym (ap (option_map suc) is) ∙ e in absurd (cc)
    on false (Some j) is e more = ap (option_map suc) (more j is) ∙ sym (ap (option_map suc) is) ∙ e

pub position_same : (x : Framing) (label k : ℕ) → block_labelled (edged x) label ≡ Some k
    → position_of (framed x) label ≡ position_of (edged x) label
position_same x label k e =
    ap (λ (o : Option ℕ). unwrap_or o (length (framed x).blocks))
    (found_same (edged x).blocks (framed x).blocks label k (λ j b f. same_label x j b f) e)
    ∙ sym (ap (λ (o : Option ℕ). unwrap_or o (length (edged x).blocks)) e)
