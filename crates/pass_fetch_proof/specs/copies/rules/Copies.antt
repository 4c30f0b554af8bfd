-- What is asked of slots that are used before begin, so that a function that copies them at begin breaks no rule.
use Rattle.std.specs.Prelude.{◌≡◌, ℕ, Bool, true, false, List, [], length, slice_get, option_to_list, Some, ◌^◌, ◌<◌, ◌∷◌, ◌++◌}
use Rattle.pass_copies.specs.BeginCopies.{after_blocks, copied_function, copying_of, first_fetched}
use Rattle.pass_copies.specs.Slots.{early_slots, resumed_at}
use Rattle.pass_copies.specs.Uses.{flag_at, is_begin, used_before}
use Rattle.pass_copies.specs.declared.slot.EarlySlot.{EarlySlot}
use Rattle.pass_edges_proof.specs.rule_uses.Uses.{phi_values}
use Rattle.pass_edges_proof.specs.ir_parts.Contents.{result_of}
use Rattle.ir_model.specs.declared.instr.Instr.{Instr}
use Rattle.ir_model.specs.declared.module.Block.{Block}
use Rattle.ir_model.specs.declared.module.Function.{Function}
use Rattle.pass_edges_proof.specs.ir_locals.Tables.{first_in}
use Rattle.pass_edges_proof.specs.run_laws.changed.Changed.{Each}
use Rattle.pass_edges_proof.specs.rule_values.Kinds.{block_kind}
use Rattle.pass_edges_proof.specs.rule_laws.rules.woven_rules.Weaving.{IsThere, Weaving}
use Rattle.pass_edges_proof.specs.rule_names.declared.stage.Stage.{Stage}

-- the slots that get temporaries
abbrev pub copied_slots : Function → List Bool → List Bool → List ℕ → List EarlySlot
copied_slots f slots before sizes = early_slots f (used_before f slots before) sizes

-- where begin stands among these instructions of a block, each path from the entry has made the slots
abbrev pub HaveSlots : Function → List EarlySlot → ℕ → List ℕ → List Instr → Type 0
HaveSlots f slots block before [] = Unit {0}
HaveSlots f slots block before (i ∷ is) =
    (is_begin i ≡ true → Each (λ (s : EarlySlot). IsThere f block (option_to_list (result_of i) ++ before) s.slot) slots)
    × HaveSlots f slots block (option_to_list (result_of i) ++ before) is

-- Sizes are numbers of 64 bits, no suspend leads to the entry block, and begin stands behind the slots that are copied there.
pub record CopiesFit (f : Function) (slots : List EarlySlot) : Type 0 where
  pub small : Each (λ (s : EarlySlot). s.size < 2 ^ 64) slots
  pub entry : (b : Block) → slice_get f.blocks 0 ≡ Some b → flag_at (resumed_at f) b.label ≡ false
  pub begins : (at : ℕ) (b : Block) → slice_get f.blocks at ≡ Some b → HaveSlots f slots at (phi_values b) b.instrs

-- the names of temporaries and cells
abbrev pub front_names : List EarlySlot → List ℕ
front_names [] = []
front_names (s ∷ ss) = s.temporary ∷ s.cell ∷ front_names ss

-- the new names, whose kinds are those that the result gives them; nothing goes
abbrev pub copy_weaving : Function → List Bool → List EarlySlot → Weaving
copy_weaving f before slots =
    record {
      stage = Stage.Source;
      first = length f.names;
      after = after_blocks (copying_of f slots) before (first_fetched f (copying_of f slots)) f.blocks;
      kinds = first_in block_kind (copied_function f before (copying_of f slots)).blocks;
      fronts = front_names slots;
      goes = λ n. false;
    }
