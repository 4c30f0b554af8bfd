-- Lemmas on entry.
use Rattle.std.proofs.Common.{ℕ, List, [], ◌∷◌, length}
use Rattle.ir_model.specs.declared.module.Block.{Block}
use Rattle.ir_model.specs.declared.module.Function.{Function}
use Rattle.pass_fetch_proof.specs.ir_laws.facts.spelled.Filled.{HasNoEntryPhis}
use Rattle.pass_split.specs.pass_exits.ExitBlocks.{blocks_by, with_exit_blocks}

exiting_entry : (f : Function) (at n : ℕ) (bs : List Block) → HasNoEntryPhis bs → HasNoEntryPhis (blocks_by f at n bs)
exiting_entry f at n [] h = tt
exiting_entry f at n (b ∷ bs) h = h

pub exits_entry : (f : Function) → HasNoEntryPhis f.blocks → HasNoEntryPhis (with_exit_blocks f).blocks
exits_entry f h = exiting_entry f 0 (length f.names) f.blocks h
