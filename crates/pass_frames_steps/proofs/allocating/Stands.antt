-- An alloca whose slot lies in no frame stands in front of the entry, behind what comes of those before it.
use Rattle.std.proofs.Common.{◌≡◌, ◌∙◌, ◌+◌, ◌∷◌, ◌++◌, [], List, None, Some, ap, append_assoc, false, refl, suc, take, true, ℕ, Bool, if◌then◌else◌}
use Rattle.std.proofs.lemmas.List.Elements.{filter-append}
use Rattle.std.specs.Prelude.{drop, filter, not, option_to_list, slice_get}
use Rattle.pass_frames_code.specs.ir_model.Ty.{Ty}
use Rattle.pass_frames_code.specs.ir_model.declared.instr.Instr.{Instr}
use Rattle.pass_frames_code.specs.pass_addresses.Placing.{lies_outside}
use Rattle.pass_frames_code.specs.pass_cells.Kept.{entry}
use Rattle.pass_frames_steps.proofs.allocating.Lined.{code_is}
use Rattle.pass_frames_code.proofs.layers.Grown.{grown_append}
use Rattle.pass_frames_code.proofs.layers.Standing.{split_at, up_to_next}
use Rattle.pass_frames_code.specs.Entering.{allocas_up_to}
use Rattle.pass_frames_code.specs.Framings.{IsFraming}
use Rattle.pass_frames_code.specs.Layers.{Layer, becomes, grown, passed, state_at, up_to, woven}
use Rattle.pass_frames_code.specs.Places.{Framing, instrs_at, offsets, placed_layer, plan}
use Rattle.pass_frames_code.specs.Waking.{StandsInFront}
use Rattle.pass_frames_code.specs.pass_front.Front.{is_alloca}
use Rattle.pass_frames_code.specs.pass_proofs.addresses.rules.Addresses.{lies_in_frame}

module _ {S : Type 0} (L : Layer S) (is : List Instr) (at : ℕ) (i : Instr) (there : slice_get is at ≡ Some i) where
  -- what comes of those behind an instruction
  abbrev pub behind : List Instr
  behind = grown L (L.after (state_at L is at) i) (drop (suc at) is) ++ L.back (passed L L.start is)

  grown_is : grown L L.start is
      ≡ grown L L.start (take at is) ++ (becomes L (state_at L is at) i ++ grown L (L.after (state_at L is at) i) (drop (suc at) is))
  grown_is =
      ap (grown L L.start) (split_at is at i there) ∙ grown_append L L.start (take at is) (i ∷ drop (suc at) is)

  joined : (a b c d e : List Instr) → a ++ ((b ++ (c ++ d)) ++ e) ≡ (a ++ b) ++ (c ++ (d ++ e))
  joined a b c d e = simp append_assoc

  pub woven_around : woven L is ≡ up_to L is at ++ (becomes L (state_at L is at) i ++ behind)
  woven_around =
      ap (λ (js : List Instr). L.front ++ (js ++ L.back (passed L L.start is))) grown_is
      ∙ joined L.front (grown L L.start (take at is)) (becomes L (state_at L is at) i)
      (grown L (L.after (state_at L is at) i) (drop (suc at) is)) (L.back (passed L L.start is))

module _ (x : Framing) (is : IsFraming x) (at name align : ℕ) (ty : Ty)
    (there : slice_get (instrs_at x 0) at ≡ Some (Instr.Alloca name ty align))
    (unkept : entry (plan x).places name ≡ None) (outside : lies_in_frame (offsets x) name ≡ false) where
  abbrev i : Instr
  i = Instr.Alloca name ty align

  abbrev left : Bool → List Instr
  left c = (option_to_list (if c then Some i else None) ++ []) ++ []

  lies : (c : Bool) → not c ≡ false → left c ≡ i ∷ []
  lies true e = refl
  lies false e = absurd (cc)

  alone : becomes (placed_layer x 0) (state_at (placed_layer x 0) (instrs_at x 0) at) i ≡ i ∷ []
  alone = code_is x is at name align ty there unkept ∙ lies (lies_outside (offsets x) i) outside

  pub stands_in_front : StandsInFront x at name ty align
  stands_in_front = record {
    there = there;
    rest = filter is_alloca (behind (placed_layer x 0) (instrs_at x 0) at i there);
    is = ap (filter is_alloca) (woven_around (placed_layer x 0) (instrs_at x 0) at i there
        ∙ ap (λ (js : List Instr). up_to (placed_layer x 0) (instrs_at x 0) at ++ (js ++ behind (placed_layer x 0) (instrs_at x 0) at i there)) alone)
        ∙ filter-append is_alloca (up_to (placed_layer x 0) (instrs_at x 0) at) (i ∷ behind (placed_layer x 0) (instrs_at x 0) at i there);
  }

  -- so up to the next place it is one more
  pub one_further : allocas_up_to x (at + 1) ≡ allocas_up_to x at ++ (i ∷ [])
  one_further =
      ap (filter is_alloca)
      (up_to_next (placed_layer x 0) (instrs_at x 0) at i there
      ∙ ap (λ (js : List Instr). up_to (placed_layer x 0) (instrs_at x 0) at ++ js) alone)
      ∙ filter-append is_alloca (up_to (placed_layer x 0) (instrs_at x 0) at) (i ∷ [])
