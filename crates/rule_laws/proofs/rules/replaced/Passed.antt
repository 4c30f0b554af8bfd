-- A rule that looks at parts of a function one by one: what stands in the blocks of a function passes it, and what of that stands in others.
use Rattle.std.proofs.Common.{◌≡◌, ℕ, ◌+◌, Bool, false, List, [], ◌∷◌, ◌++◌, length}
use Rattle.ir_laws.specs.ir_base.declared.outcome.Place.{Place}
use Rattle.rule_laws.proofs.rules.local_rules.Carried.{Passing}
use Rattle.ir_laws.proofs.facts.Members.{each_joined, each_left, each_right}
use Rattle.ir_parts.specs.Parts.{Ending, Head, OfInstr, OfPhi, Part, block_parts, block_place, blocks_parts, instr_parts, instr_place, phi_parts}
use Rattle.ir_laws.specs.ir_model.declared.instr.Instr.{Instr}
use Rattle.ir_laws.specs.ir_model.declared.instr.Phi.{Phi}
use Rattle.ir_laws.specs.ir_model.declared.instr.Terminator.{Terminator}
use Rattle.ir_laws.specs.ir_model.declared.module.Block.{Block}
use Rattle.ir_laws.specs.run_laws.changed.Changed.{Each}

-- what is said of a block's phis, of its instructions and of its terminator
pub record IsAll (Q : Phi → Type 0) (P : Instr → Type 0) (T : Terminator → Type 0) (b : Block) : Type 0 where
  pub phis : Each Q b.phis
  pub instrs : Each P b.instrs
  pub term : T b.term

-- some place at which the part breaks no rule
abbrev pub Passes : (Place → Part → Bool) → Part → Type 0
Passes breaks x = (p : Place) × (breaks p x ≡ false)

-- no place at which it does
abbrev pub PassesAll : (Place → Part → Bool) → Part → Type 0
PassesAll breaks x = (p : Place) → breaks p x ≡ false

abbrev pub PassingBlock : (Place → Part → Bool) → Block → Type 0
PassingBlock breaks = IsAll (λ (x : Phi). Passes breaks (OfPhi x)) (λ (i : Instr). Passes breaks (OfInstr i)) (λ (t : Terminator). Passes breaks (Ending t))

abbrev pub AllPassingBlock : (Place → Part → Bool) → Block → Type 0
AllPassingBlock now = IsAll (λ (x : Phi). PassesAll now (OfPhi x)) (λ (i : Instr). PassesAll now (OfInstr i)) (λ (t : Terminator). PassesAll now (Ending t))

module _ (breaks : Place → Part → Bool) (func : ℕ) where
  abbrev One : Place × Part → Type 0
  One x = breaks x.0 x.1 ≡ false

  phis_pass : (block at : ℕ) (ps : List Phi) → Passing breaks (phi_parts func block at ps) → Each (λ (x : Phi). Passes breaks (OfPhi x)) ps
  phis_pass block at [] h = tt
  phis_pass block at (p ∷ ps) h = ((instr_place func block at, h.0), phis_pass block (at + 1) ps h.1)

  instrs_pass : (block at : ℕ) (is : List Instr) → Passing breaks (instr_parts func block at is) → Each (λ (i : Instr). Passes breaks (OfInstr i)) is
  instrs_pass block at [] h = tt
  instrs_pass block at (i ∷ is) h = ((instr_place func block at, h.0), instrs_pass block (at + 1) is h.1)

  block_passes : (block : ℕ) (b : Block) → Passing breaks (block_parts func block b) → PassingBlock breaks b
  unfolding block_parts
  block_passes block b h =
      let phis : List (Place × Part) = phi_parts func block 0 b.phis in
      let instrs : List (Place × Part) = instr_parts func block (length b.phis) b.instrs in
      let place : Place = instr_place func block (length b.phis + length b.instrs) in
      let last : List (Place × Part) = (place, Ending b.term) ∷ [] in
      let behind : Passing breaks (instrs ++ last) = each_right One phis (instrs ++ last) h.1 in
      record {
        phis = phis_pass block 0 b.phis (each_left One phis (instrs ++ last) h.1);
        instrs = instrs_pass block (length b.phis) b.instrs (each_left One instrs last behind);
        term = (place, (each_right One instrs last behind).0);
      }

  -- what stands in the blocks of a function passes the rule
  pub blocks_pass : (block : ℕ) (bs : List Block) → Passing breaks (blocks_parts func block bs) → Each (PassingBlock breaks) bs
  blocks_pass block [] h = tt
  blocks_pass block (b ∷ bs) h = (
    block_passes block b (each_left One (block_parts func block b) (blocks_parts func (block + 1) bs) h),
    blocks_pass (block + 1) bs (each_right One (block_parts func block b) (blocks_parts func (block + 1) bs) h),
  )

  -- ---- the other way round, where heads pass it

  module _ (heads : (p : Place) (b : Block) → breaks p (Head b) ≡ false) where
    all_phis : (block at : ℕ) (ps : List Phi) → Each (λ (x : Phi). PassesAll breaks (OfPhi x)) ps → Passing breaks (phi_parts func block at ps)
    all_phis block at [] h = tt
    all_phis block at (p ∷ ps) h = (h.0 (instr_place func block at), all_phis block (at + 1) ps h.1)

    all_instrs : (block at : ℕ) (is : List Instr) → Each (λ (i : Instr). PassesAll breaks (OfInstr i)) is → Passing breaks (instr_parts func block at is)
    all_instrs block at [] h = tt
    all_instrs block at (i ∷ is) h = (h.0 (instr_place func block at), all_instrs block (at + 1) is h.1)

    all_block : (block : ℕ) (b : Block) → AllPassingBlock breaks b → Passing breaks (block_parts func block b)
    unfolding block_parts
    all_block block b h =
        let place : Place = instr_place func block (length b.phis + length b.instrs) in (
          heads (block_place func block) b,
          each_joined One (phi_parts func block 0 b.phis) (instr_parts func block (length b.phis) b.instrs ++ (place, Ending b.term) ∷ [])
              (all_phis block 0 b.phis h.phis)
              (each_joined One (instr_parts func block (length b.phis) b.instrs) ((place, Ending b.term) ∷ []) (all_instrs block (length b.phis) b.instrs h.instrs) (h.term place, tt)),
        )

    pub blocks_all : (block : ℕ) (bs : List Block) → Each (AllPassingBlock breaks) bs → Passing breaks (blocks_parts func block bs)
    blocks_all block [] h = tt
    blocks_all block (b ∷ bs) h = each_joined One (block_parts func block b) (blocks_parts func (block + 1) bs) (all_block block b h.0) (blocks_all (block + 1) bs h.1)
