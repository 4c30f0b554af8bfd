-- Rules that no part of a function breaks, by its blocks.
use Rattle.std.proofs.Common.{◌≡◌, ℕ, ◌+◌, Bool, false, List, [], ◌∷◌, ◌++◌, length}
use Rattle.std.specs.Prelude.{None}
use Rattle.ir_laws.specs.ir_base.declared.outcome.Place.{Place}
use Rattle.rule_laws.proofs.rules.local_rules.Carried.{Passing, passing}
use Rattle.ir_laws.proofs.facts.Members.{each_left, each_right}
use Rattle.ir_parts.specs.Parts.{Ending, OfInstr, Part, block_parts, blocks_parts, first_part, instr_parts, instr_place, parts_of, phi_parts}
use Rattle.ir_laws.specs.ir_model.declared.instr.Instr.{Instr}
use Rattle.ir_laws.specs.ir_model.declared.module.Block.{Block}
use Rattle.ir_laws.specs.ir_model.declared.module.Function.{Function}
use Rattle.ir_laws.specs.run_laws.changed.Changed.{Each}

-- the part breaks no rule at some place
abbrev pub Passes : (Place → Part → Bool) → Part → Type 0
Passes breaks x = (p : Place) × (breaks p x ≡ false)

pub record PassesIn (breaks : Place → Part → Bool) (b : Block) : Type 0 where
  pub of_instrs : Each (λ (i : Instr). Passes breaks (OfInstr i)) b.instrs
  pub of_term : Passes breaks (Ending b.term)

instrs_pass : (breaks : Place → Part → Bool) (k block at : ℕ) (is : List Instr) → Passing breaks (instr_parts k block at is) → Each (λ (i : Instr). Passes breaks (OfInstr i)) is
instrs_pass breaks k block at [] h = tt
instrs_pass breaks k block at (i ∷ is) h = ((instr_place k block at, h.0), instrs_pass breaks k block (at + 1) is h.1)

block_passes : (breaks : Place → Part → Bool) (k block : ℕ) (b : Block) → Passing breaks (block_parts k block b) → PassesIn breaks b
unfolding block_parts
block_passes breaks k block b h =
    let P : Place × Part → Type 0 = λ x. breaks x.0 x.1 ≡ false in
    let phis : List (Place × Part) = phi_parts k block 0 b.phis in
    let instrs : List (Place × Part) = instr_parts k block (length b.phis) b.instrs in
    let last : List (Place × Part) = (instr_place k block (length b.phis + length b.instrs), Ending b.term) ∷ [] in
    let behind : Passing breaks (instrs ++ last) = each_right P phis (instrs ++ last) h.1 in
    record { of_instrs = instrs_pass breaks k block (length b.phis) b.instrs (each_left P instrs last behind); of_term = (instr_place k block (length b.phis + length b.instrs), (each_right P instrs last behind).0) }

blocks_pass : (breaks : Place → Part → Bool) (k at : ℕ) (bs : List Block) → Passing breaks (blocks_parts k at bs) → Each (PassesIn breaks) bs
blocks_pass breaks k at [] h = tt
blocks_pass breaks k at (b ∷ bs) h =
    let P : Place × Part → Type 0 = λ x. breaks x.0 x.1 ≡ false in
    (block_passes breaks k at b (each_left P (block_parts k at b) (blocks_parts k (at + 1) bs) h), blocks_pass breaks k (at + 1) bs (each_right P (block_parts k at b) (blocks_parts k (at + 1) bs) h))

pub all_pass : (breaks : Place → Part → Bool) (k : ℕ) (f : Function) → first_part breaks (parts_of k f) ≡ None → Each (PassesIn breaks) f.blocks
all_pass breaks k f e = blocks_pass breaks k 0 f.blocks (passing breaks (parts_of k f) e).1
