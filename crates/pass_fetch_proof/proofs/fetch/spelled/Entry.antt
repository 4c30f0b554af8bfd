-- Lemmas on entry.
use Rattle.std.proofs.Common.{ℕ, List, [], ◌∷◌, ap}
use Rattle.std.specs.Prelude.{Option}
use Rattle.ir_model.specs.declared.instr.Instr.{Instr}
use Rattle.ir_model.specs.declared.module.Block.{Block}
use Rattle.ir_model.specs.declared.module.Function.{Function}
use Rattle.pass_edges_proof.specs.ir_laws.facts.spelled.Filled.{HasNoEntryPhis}
use Rattle.pass_edges_proof.specs.pass_fetch.Blocks.{fetched_blocks, fetched_phis, with_fetches}
use Rattle.pass_edges_proof.specs.pass_fetch.declared.fetch.Fetch.{Fetch}

fetched_entry : (t : List (Option Fetch)) (ends : List (List Instr)) (m n : ℕ) (bs : List Block) → HasNoEntryPhis bs → HasNoEntryPhis (fetched_blocks t ends m n bs)
fetched_entry t ends m n [] h = tt
fetched_entry t ends m n (b ∷ bs) h = ap (fetched_phis t m) h

pub fetches_entry : (f : Function) (t : List (Option Fetch)) (word : List ℕ) → HasNoEntryPhis f.blocks → HasNoEntryPhis (with_fetches f t word).blocks
fetches_entry f t word h = fetched_entry t _ _ _ f.blocks h
