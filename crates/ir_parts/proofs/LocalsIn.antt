-- The locals of two lists of parts, one behind the other.
use Rattle.std.proofs.Common.{◌≡◌, ℕ, ◌+◌, true, length, List, [], ◌∷◌, ◌++◌, refl, ap, sym, ◌∙◌, append_assoc}
use Rattle.ir_model.specs.ir_base.declared.outcome.Place.{Place}
use Rattle.ir_parts.specs.Parts.{Part, Ending, block_parts, block_place, blocks_parts, instr_parts, instr_place, phi_parts}
use Rattle.ir_parts.specs.declared.defined.Definition.{Definition}
use Rattle.ir_model.specs.declared.module.Block.{Block}
use Rattle.ir_model.specs.declared.instr.Instr.{Instr}
use Rattle.ir_model.specs.declared.instr.Phi.{Phi}
use Rattle.ir_model.specs.declared.instr.Terminator.{Terminator}
use Rattle.ir_parts.specs.Locals.{local_at, locals_at, locals_in, locals_in_blocks}

pub locals_in_append : (xs ys : List (Place × Part)) → locals_in (xs ++ ys) ≡ locals_in xs ++ locals_in ys
locals_in_append [] ys = refl
locals_in_append (x ∷ xs) ys =
    ap (λ l. locals_at x ++ l) (locals_in_append xs ys) ∙ sym (append_assoc (locals_at x) (locals_in xs) (locals_in ys))

-- a terminator defines nothing
pub block_locals : (xs ys : List (Place × Part)) (p : Place) (t : Terminator) → locals_in (xs ++ (ys ++ (p, Ending t) ∷ [])) ≡ locals_in xs ++ locals_in ys
block_locals xs ys p t =
    locals_in_append xs (ys ++ (p, Ending t) ∷ []) ∙ ap (λ l. locals_in xs ++ l) (locals_in_append ys ((p, Ending t) ∷ []) ∙ append_none (locals_in ys))
  where
    append_none : (l : List Definition) → l ++ [] ≡ l
    append_none [] = refl
    append_none (d ∷ ds) = ap (λ l. d ∷ l) (append_none ds)

pub locals_in_blocks_is : (func block : ℕ) (bs : List Block) → locals_in_blocks func block bs ≡ locals_in (blocks_parts func block bs)
locals_in_blocks_is func block [] = refl
locals_in_blocks_is func block (b ∷ bs) =
    ap (λ l. locals_in (block_parts func block b) ++ l) (locals_in_blocks_is func (block + 1) bs)
    ∙ sym (locals_in_append (block_parts func block b) (blocks_parts func (block + 1) bs))

assembled : (all x y : List Definition) (d : Definition) → ((all ++ d ∷ []) ++ x) ++ y ≡ all ++ d ∷ (x ++ y)
assembled all x y d = append_assoc (all ++ d ∷ []) x y ∙ append_assoc all (d ∷ []) (x ++ y)

pub block_pushed : (all a b c : List Definition) (func at : ℕ) (block : Block) (phis : List Phi) (instrs : List Instr) (d : Definition) → d ≡ local_at (block_place func at) true block.label → phis ≡ block.phis → instrs ≡ block.instrs → a ≡ all ++ d ∷ [] → b ≡ a ++ locals_in (phi_parts func at 0 phis) → c ≡ b ++ locals_in (instr_parts func at (length phis) instrs) → c ≡ all ++ locals_in (block_parts func at block)
unfolding block_parts
block_pushed all a b c func at block phis instrs d ed ep ei ea eb ec =
    let x = locals_in (phi_parts func at 0 block.phis) in
    let y = locals_in (instr_parts func at (length block.phis) block.instrs) in
    let head = local_at (block_place func at) true block.label in
    let ec' : c ≡ b ++ y = ec ∙ ap (λ (p : List Phi). b ++ locals_in (instr_parts func at (length p) instrs)) ep ∙ ap (λ (i : List Instr). b ++ locals_in (instr_parts func at (length block.phis) i)) ei in
    let eb' : b ≡ a ++ x = eb ∙ ap (λ (p : List Phi). a ++ locals_in (phi_parts func at 0 p)) ep in
    let ea' : a ≡ all ++ head ∷ [] = ea ∙ ap (λ (e : Definition). all ++ e ∷ []) ed in
    ec' ∙ ap (λ l. l ++ y) eb' ∙ ap (λ l. (l ++ x) ++ y) ea' ∙ assembled all x y head
    ∙ ap (λ l. all ++ head ∷ l) (sym (block_locals (phi_parts func at 0 block.phis) (instr_parts func at (length block.phis) block.instrs) (instr_place func at (length block.phis + length block.instrs)) block.term))
