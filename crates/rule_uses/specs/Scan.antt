-- Uses that may be undefined, found in one walk through the text.
use Rattle.std.specs.Prelude.{ℕ, Bool, true, false, List, [], length, slice_get, slice_set, Some, None, Option, ◌+◌, ◌==◌, ◌||◌, ◌∷◌, ◌++◌}
use Rattle.ir_base.specs.declared.outcome.Place.{Place}
use Rattle.rule_uses.specs.Uses.{local_of, locals_in}
use Rattle.rule_uses.specs.declared.open_use.OpenUse.{OpenUse}
use Rattle.ir_parts.specs.Contents.{ending_operands, instr_operands, result_of}
use Rattle.ir_parts.specs.Parts.{instr_place}
use Rattle.ir_model.specs.Names.{position_of}
use Rattle.ir_model.specs.declared.instr.Incoming.{Incoming}
use Rattle.ir_model.specs.declared.instr.Instr.{Instr}
use Rattle.ir_model.specs.declared.instr.Phi.{Phi}
use Rattle.ir_model.specs.declared.module.Block.{Block}
use Rattle.ir_model.specs.declared.module.Function.{Function}
use Rattle.ir_model.specs.declared.operand.Operand.{Operand}

abbrev pub or_false : Option Bool → Bool
or_false None = false
or_false (Some b) = b

abbrev pub is_at : Option (Option ℕ) → ℕ → Bool
is_at (Some (Some at)) block = at == block
is_at _ block = false

-- the value is a parameter, or was last made in this block
abbrev pub is_known : List Bool → List (Option ℕ) → ℕ → ℕ → Bool
is_known params last block v = or_false (slice_get params v) || is_at (slice_get last v) block

abbrev pub open_use : Place → ℕ → Bool → ℕ → OpenUse
open_use p b end v = record { place = p; block = b; value = v; at_end = end }

-- the use, unless its value is known
abbrev pub use_unless : Bool → OpenUse → List OpenUse
use_unless true u = []
use_unless false u = u ∷ []

abbrev pub open_at : List Bool → List (Option ℕ) → Place → ℕ → List ℕ → List OpenUse
open_at params last p block [] = []
open_at params last p block (v ∷ vs) = use_unless (is_known params last block v) (open_use p block false v) ++ open_at params last p block vs

abbrev pub open_in : Function → List Bool → Place → ℕ → Option ℕ → List OpenUse
open_in f params p from None = []
open_in f params p from (Some v) = use_unless (or_false (slice_get params v)) (open_use p (position_of f from) true v)

abbrev pub open_incoming : Function → List Bool → Place → List Incoming → List OpenUse
open_incoming f params p [] = []
open_incoming f params p (i ∷ is) = open_in f params p i.from (local_of i.value) ++ open_incoming f params p is

abbrev pub open_phis : Function → List Bool → ℕ → ℕ → ℕ → List Phi → List OpenUse
open_phis f params func block at [] = []
open_phis f params func block at (p ∷ ps) = open_incoming f params (instr_place func block at) p.incoming ++ open_phis f params func block (at + 1) ps

abbrev pub noted : List (Option ℕ) → ℕ → Option ℕ → List (Option ℕ)
noted last block None = last
noted last block (Some v) = slice_set last v (Some block)

abbrev pub noted_phis : List (Option ℕ) → ℕ → List Phi → List (Option ℕ)
noted_phis last block [] = last
noted_phis last block (p ∷ ps) = noted_phis (slice_set last p.result (Some block)) block ps

abbrev pub noted_instrs : List (Option ℕ) → ℕ → List Instr → List (Option ℕ)
noted_instrs last block [] = last
noted_instrs last block (i ∷ is) = noted_instrs (noted last block (result_of i)) block is

abbrev pub open_instrs : List Bool → List (Option ℕ) → ℕ → ℕ → ℕ → List Instr → List OpenUse
open_instrs params last func block at [] = []
open_instrs params last func block at (i ∷ is) =
    open_at params last (instr_place func block at) block (locals_in (instr_operands i))
    ++ open_instrs params (noted last block (result_of i)) func block (at + 1) is

abbrev pub noted_block : List (Option ℕ) → ℕ → Block → List (Option ℕ)
noted_block last block b = noted_instrs (noted_phis last block b.phis) block b.instrs

unfoldable pub open_block : Function → List Bool → List (Option ℕ) → ℕ → ℕ → Block → List OpenUse
open_block f params last func block b =
    open_phis f params func block 0 b.phis
    ++ (open_instrs params (noted_phis last block b.phis) func block (length b.phis) b.instrs
    ++ open_at params (noted_block last block b) (instr_place func block (length b.phis + length b.instrs)) block (locals_in (ending_operands b.term)))

abbrev pub open_blocks : Function → List Bool → List (Option ℕ) → ℕ → ℕ → List Block → List OpenUse
open_blocks f params last func block [] = []
open_blocks f params last func block (b ∷ bs) = open_block f params last func block b ++ open_blocks f params (noted_block last block b) func (block + 1) bs
