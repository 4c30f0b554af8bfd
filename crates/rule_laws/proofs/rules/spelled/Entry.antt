-- In a source that breaks no rule each phi has an operand, and the first block has no phis; nor has it where frames are built.
use Rattle.std.proofs.Common.{◌≡◌, ℕ, ◌+◌, true, false, not, List, [], ◌∷◌, ◌++◌, length, refl, sym, ap, ◌∙◌, subst}
use Rattle.std.specs.List.{list_all, list_any}
use Rattle.std.specs.Prelude.{None, Option, slice_get}
use Rattle.ir_laws.specs.ir_base.declared.name.Name.{Name}
use Rattle.ir_laws.specs.ir_base.declared.outcome.Place.{Place}
use Rattle.rule_phis.specs.Edges.{breaks_edges, differs, first_wrong_edge, fits_edges, has, incoming_labels, into_block, is_empty, predecessors}
use Rattle.rule_laws.proofs.rules.local_rules.Carried.{passing}
use Rattle.ir_laws.proofs.facts.Truth.{and_first, holds}
use Rattle.ir_laws.proofs.facts.Members.{each_left}
use Rattle.ir_parts.specs.Parts.{Ending, Part, block_parts, blocks_parts, instr_parts, instr_place, parts_of, phi_parts}
use Rattle.ir_laws.specs.ir_model.declared.instr.Incoming.{Incoming}
use Rattle.ir_laws.specs.ir_model.declared.instr.Phi.{Phi}
use Rattle.ir_laws.specs.ir_model.declared.module.Block.{Block}
use Rattle.ir_laws.specs.ir_model.declared.module.Function.{Function}
use Rattle.ir_laws.specs.facts.spelled.Filled.{HasFilledPhis, HasNoEntryPhis, IsFilled}
use Rattle.ir_laws.specs.run_laws.changed.Changed.{Each}
use Rattle.rule_laws.proofs.texts.widths.Written.{some_blocks}
use Rattle.text_canonical.specs.order.Shape as shape

-- ---- sources

-- no block leads to the entry, so its phis have no labels
nothing_left : (ns : List ℕ) → is_empty ns ≡ true → ns ≡ []
nothing_left [] e = refl
nothing_left (n ∷ ns) e = absurd (cc)

no_labels : (is : List Incoming) → list_all (has []) (incoming_labels is) ≡ true → is ≡ []
no_labels [] e = refl
no_labels (i ∷ is) e = absurd (cc)

module _ (k : ℕ) (f : Function) (b : Block) (bs : List Block) (first : f.blocks ≡ b ∷ bs) where
  abbrev Kept : List (Place × Part) → Type 0
  Kept xs = Each (λ x. breaks_edges f x.0 x.1 ≡ false) xs

  unled : Kept (block_parts k 0 b) → predecessors f b.label ≡ []
  unfolding block_parts
  unled e = nothing_left (predecessors f b.label) (holds (is_empty (predecessors f b.label)) e.0)

  no_phi : (ps : List Phi) → predecessors f b.label ≡ [] → Each IsFilled ps → Kept (phi_parts k 0 0 ps) → ps ≡ []
  no_phi [] none h e = refl
  no_phi (p ∷ ps) none h e =
      let same = ap (λ (o : Option Block). not (fits_edges (into_block (predecessors f) o) p.incoming)) (ap (λ (cs : List Block). slice_get cs 0) first) in
      let there : fits_edges (predecessors f b.label) p.incoming ≡ true = holds (fits_edges (predecessors f b.label) p.incoming) (sym same ∙ e.0) in
      let fits : fits_edges [] p.incoming ≡ true = subst (λ (ns : List ℕ). fits_edges ns p.incoming ≡ true) none there in
      absurd (h.0 (no_labels p.incoming (and_first (list_all (has []) (incoming_labels p.incoming)) (not (list_any (differs p.incoming) p.incoming)) fits)))

  first_phis : Each IsFilled b.phis → Kept (block_parts k 0 b) → b.phis ≡ []
  unfolding block_parts
  first_phis h e =
      let P : Place × Part → Type 0 = λ x. breaks_edges f x.0 x.1 ≡ false in
      let instrs : List (Place × Part) = instr_parts k 0 (length b.phis) b.instrs in
      let last : List (Place × Part) = (instr_place k 0 (length b.phis + length b.instrs), Ending b.term) ∷ [] in
      no_phi b.phis (unled e) h (each_left P (phi_parts k 0 0 b.phis) (instrs ++ last) e.1)

some_left : {A : Type 0} (P : A → Type 0) (xs : List A) → shape.Some_of P xs → xs ≡ [] → ⊥
some_left P [] h e = h
some_left P (x ∷ xs) h e = absurd (cc)

phis_filled : (names : List Name) (ps : List Phi) → shape.Each (shape.IsPhi names) ps → Each IsFilled ps
phis_filled names [] h = tt
phis_filled names (p ∷ ps) h = (some_left (shape.IsIncoming names) p.incoming h.0.2, phis_filled names ps h.1)

blocks_filled : (names : List Name) (bs : List Block) → shape.Each (shape.IsBlock names) bs → Each (λ b. Each IsFilled b.phis) bs
blocks_filled names [] h = tt
blocks_filled names (b ∷ bs) h = (phis_filled names b.phis h.0.1, blocks_filled names bs h.1)

-- a function of the grammar has a block, and operands for its phis
pub shape_filled : (f : Function) → shape.IsFunction f → HasFilledPhis f
shape_filled f h = record { block = some_left (shape.IsBlock f.names) f.blocks h.2; phis = blocks_filled f.names f.blocks (some_blocks f.names f.blocks h.2) }

-- where no edge leads to the entry and phis have the labels of their predecessors, the entry has none
pub unled_entry : (k : ℕ) (f : Function) → first_wrong_edge k f ≡ None → HasFilledPhis f → HasNoEntryPhis f.blocks
unled_entry k f e h = on f.blocks refl (passing (breaks_edges f) (parts_of k f) e).1 h.phis
  where
    on : (bs : List Block) → f.blocks ≡ bs → Each (λ x. breaks_edges f x.0 x.1 ≡ false) (blocks_parts k 0 bs) → Each (λ b. Each IsFilled b.phis) bs → HasNoEntryPhis bs
    on [] first kept filled = tt
    on (b ∷ bs) first kept filled = first_phis k f b bs first filled.0 (each_left (λ x. breaks_edges f x.0 x.1 ≡ false) (block_parts k 0 b) (blocks_parts k 1 bs) kept)
