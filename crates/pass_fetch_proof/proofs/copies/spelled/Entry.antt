-- Lemmas on entry.
use Rattle.std.proofs.Common.{ℕ, Bool, List, [], ◌∷◌}
use Rattle.pass_copies.specs.BeginCopies.{copied_blocks, with_begin_copies}
use Rattle.pass_copies.specs.declared.copying.Copying.{Copying}
use Rattle.ir_model.specs.declared.instr.Instr.{Instr}
use Rattle.ir_model.specs.declared.module.Block.{Block}
use Rattle.ir_model.specs.declared.module.Function.{Function}
use Rattle.pass_edges_proof.specs.ir_laws.facts.spelled.Filled.{HasNoEntryPhis}

copied_entry : (c : Copying) (before : List Bool) (front : List Instr) (n : ℕ) (bs : List Block) → HasNoEntryPhis bs → HasNoEntryPhis (copied_blocks c before front n bs)
copied_entry c before front n [] h = tt
copied_entry c before front n (b ∷ bs) h = h

pub copies_entry : (f : Function) (slots before : List Bool) (sizes : List ℕ) → HasNoEntryPhis f.blocks → HasNoEntryPhis (with_begin_copies f slots before sizes).blocks
copies_entry f slots before sizes h = copied_entry _ _ _ _ f.blocks h
