-- The parts of a renumbered function: each is the function's part, renumbered, at its place.
use Rattle.std.proofs.Common.{◌≡◌, ℕ, ◌+◌, Bool, List, [], ◌∷◌, ◌++◌, length, refl, sym, ap, ◌∙◌}
use Rattle.std.proofs.lemmas.List.{length-map, map-append}
use Rattle.std.specs.Prelude.{false, map, true, ◌==◌}
use Rattle.ir_laws.specs.ir_base.declared.name.Name.{Name}
use Rattle.ir_laws.specs.ir_base.declared.outcome.Place.{Place}
use Rattle.ir_parts.specs.Parts.{Ending, Head, OfInstr, OfPhi, Part, Signature, block_parts, block_place, blocks_parts, first_part, function_place, instr_parts, instr_place, or_place, parts_of, phi_parts, place_if}
use Rattle.ir_laws.specs.ir_model.declared.instr.Instr.{Instr}
use Rattle.ir_laws.specs.ir_model.declared.instr.Phi.{Phi}
use Rattle.ir_laws.specs.ir_model.declared.module.Block.{Block}
use Rattle.ir_laws.specs.ir_model.declared.module.Function.{Function}
use Rattle.ir_laws.specs.facts.order_rules.Renumbered.{StaysApart, renumbered_block, renumbered_function, renumbered_instr, renumbered_phi, renumbered_term}

abbrev pub renumbered_part : (ℕ → ℕ) → List Name → Part → Part
renumbered_part to names (Signature f) = Signature (renumbered_function to names f)
renumbered_part to names (Head b) = Head (renumbered_block to b)
renumbered_part to names (OfPhi p) = OfPhi (renumbered_phi to p)
renumbered_part to names (OfInstr i) = OfInstr (renumbered_instr to i)
renumbered_part to names (Ending t) = Ending (renumbered_term to t)

-- where a test of parts answers of renumbered parts what another one answers of the parts, both first pass at one place
pub first_over : (to : ℕ → ℕ) (names : List Name) (breaks now : Place → Part → Bool) → ((p : Place) (x : Part) → now p (renumbered_part to names x) ≡ breaks p x) → (xs : List (Place × Part)) → first_part now (map (λ (x : Place × Part). (x.0, renumbered_part to names x.1)) xs) ≡ first_part breaks xs
first_over to names breaks now h [] = refl
first_over to names breaks now h (x ∷ xs) = λ i. or_place (place_if (h x.0 x.1 i) x.0) (first_over to names breaks now h xs i)

module _ (to : ℕ → ℕ) (names : List Name) where
  abbrev at_place : Place × Part → Place × Part
  at_place x = (x.0, renumbered_part to names x.1)

  phis_over : (k block at : ℕ) (ps : List Phi) → phi_parts k block at (map (renumbered_phi to) ps) ≡ map at_place (phi_parts k block at ps)
  phis_over k block at [] = refl
  phis_over k block at (p ∷ ps) = ap (λ (xs : List (Place × Part)). (instr_place k block at, OfPhi (renumbered_phi to p)) ∷ xs) (phis_over k block (at + 1) ps)

  instrs_over : (k block at : ℕ) (is : List Instr) → instr_parts k block at (map (renumbered_instr to) is) ≡ map at_place (instr_parts k block at is)
  instrs_over k block at [] = refl
  instrs_over k block at (x ∷ is) = ap (λ (xs : List (Place × Part)). (instr_place k block at, OfInstr (renumbered_instr to x)) ∷ xs) (instrs_over k block (at + 1) is)

  block_over : (k block : ℕ) (b : Block) → block_parts k block (renumbered_block to b) ≡ map at_place (block_parts k block b)
  unfolding block_parts
  block_over k block b =
      let phis : List (Place × Part) = phi_parts k block 0 b.phis in
      let instrs : List (Place × Part) = instr_parts k block (length b.phis) b.instrs in
      let last : List (Place × Part) = (instr_place k block (length b.phis + length b.instrs), Ending b.term) ∷ [] in
      let p : length (map (renumbered_phi to) b.phis) ≡ length b.phis = length-map b.phis (renumbered_phi to) in
      let q : length (map (renumbered_instr to) b.instrs) ≡ length b.instrs = length-map b.instrs (renumbered_instr to) in
      (λ i. (block_place k block, Head (renumbered_block to b))
      ∷ (phi_parts k block 0 (map (renumbered_phi to) b.phis)
      ++ (instr_parts k block (p i) (map (renumbered_instr to) b.instrs)
      ++ ((instr_place k block (p i + q i), Ending (renumbered_term to b.term)) ∷ []))))
      ∙ (λ i. (block_place k block, Head (renumbered_block to b)) ∷ (phis_over k block 0 b.phis i ++ (instrs_over k block (length b.phis) b.instrs i ++ map at_place last)))
      ∙ ap (λ (xs : List (Place × Part)). (block_place k block, Head (renumbered_block to b)) ∷ (map at_place phis ++ xs)) (sym (map-append at_place instrs last))
      ∙ ap (λ (xs : List (Place × Part)). (block_place k block, Head (renumbered_block to b)) ∷ xs) (sym (map-append at_place phis (instrs ++ last)))

  blocks_over : (k block : ℕ) (bs : List Block) → blocks_parts k block (map (renumbered_block to) bs) ≡ map at_place (blocks_parts k block bs)
  blocks_over k block [] = refl
  blocks_over k block (b ∷ bs) =
      (λ i. block_over k block b i ++ blocks_over k (block + 1) bs i)
      ∙ sym (map-append at_place (block_parts k block b) (blocks_parts k (block + 1) bs))

  pub parts_over : (k : ℕ) (f : Function) → parts_of k (renumbered_function to names f) ≡ map (λ (x : Place × Part). (x.0, renumbered_part to names x.1)) (parts_of k f)
  parts_over k f = ap (λ (xs : List (Place × Part)). (function_place k, Signature (renumbered_function to names f)) ∷ xs) (blocks_over k 0 f.blocks)

  -- the same for the parts of a function
  pub first_of_parts : (k : ℕ) (f : Function) (breaks now : Place → Part → Bool) → ((p : Place) (x : Part) → now p (renumbered_part to names x) ≡ breaks p x) → first_part now (parts_of k (renumbered_function to names f)) ≡ first_part breaks (parts_of k f)
  first_of_parts k f breaks now h = ap (first_part now) (parts_over k f) ∙ first_over to names breaks now h (parts_of k f)
