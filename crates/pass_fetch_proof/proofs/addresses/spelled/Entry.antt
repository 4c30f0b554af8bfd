-- Lemmas on entry.
use Rattle.std.proofs.Common.{ℕ, Bool, List, [], ◌∷◌}
use Rattle.std.specs.Prelude.{Option, codes, map}
use Rattle.pass_addresses.specs.Placing.{slot_fetches, turned_block, with_frame_addresses, without_markers, without_promise}
use Rattle.ir_model.specs.declared.instr.Instr.{Instr}
use Rattle.ir_model.specs.declared.module.Block.{Block}
use Rattle.ir_model.specs.declared.module.Function.{Function}
use Rattle.pass_edges_proof.specs.ir_laws.facts.spelled.Filled.{HasNoEntryPhis}
use Rattle.pass_edges_proof.specs.pass_fetch.Blocks.{with_fetches}
use Rattle.pass_fetch_proof.proofs.fetch.spelled.Entry.{fetches_entry}

turning_entry : (T : List Instr → List Instr) (bs : List Block) → HasNoEntryPhis bs → HasNoEntryPhis (map (turned_block T) bs)
turning_entry T [] h = tt
turning_entry T (b ∷ bs) h = h

pub addresses_entry : (f : Function) (begin : ℕ) (offsets : List (Option ℕ)) (marked : List Bool) → HasNoEntryPhis f.blocks → HasNoEntryPhis (with_frame_addresses f begin offsets marked).blocks
addresses_entry f begin offsets marked h =
    let unmarked : Function = without_markers marked f in
    let unpromised : Function = without_promise unmarked in
    turning_entry _ (with_fetches unpromised (slot_fetches begin offsets) (codes "$c.at.")).blocks (fetches_entry unpromised (slot_fetches begin offsets) (codes "$c.at.") (turning_entry _ unmarked.blocks (turning_entry _ f.blocks h)))
