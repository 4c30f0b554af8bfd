-- Lemmas on entry.
use Rattle.std.proofs.Common.{ℕ, Bool, List, [], ◌∷◌}
use Rattle.std.specs.Prelude.{codes}
use Rattle.ir_model.specs.declared.instr.Instr.{Instr}
use Rattle.ir_model.specs.declared.module.Block.{Block}
use Rattle.ir_model.specs.declared.module.Function.{Function}
use Rattle.ir_model.specs.declared.module.Module.{Module}
use Rattle.pass_edges_proof.specs.ir_laws.facts.spelled.Filled.{HasNoEntryPhis}
use Rattle.pass_edges_proof.specs.pass_cells.Cells.{fetched_function, fetches_of, named_function, with_cells}
use Rattle.pass_edges_proof.specs.pass_cells.Plan.{plan_of}
use Rattle.pass_edges_proof.specs.pass_cells.Written.{entry_blocks}
use Rattle.pass_edges_proof.specs.pass_cells.declared.plan.Plan.{Plan}
use Rattle.pass_fetch_proof.proofs.fetch.spelled.Entry.{fetches_entry}

written_entry : (m : Module) (p : Plan) (front : List Instr) (n : ℕ) (bs : List Block) → HasNoEntryPhis bs → HasNoEntryPhis (entry_blocks m p front n bs)
written_entry m p front n [] h = tt
written_entry m p front n (b ∷ bs) h = h

refetched_entry : (p : Plan) (f : Function) → HasNoEntryPhis f.blocks → HasNoEntryPhis (fetched_function p f).blocks
unfolding fetched_function
refetched_entry p f h = fetches_entry (named_function p f) (fetches_of p) (codes "$c.use.") h

pub cells_entry : (m : Module) (f : Function) (crossing : List (ℕ × ℕ)) (local : List Bool) → HasNoEntryPhis f.blocks → HasNoEntryPhis (with_cells m f crossing local).blocks
cells_entry m f crossing local h = let p : Plan = plan_of f crossing local in written_entry m p _ _ (fetched_function p f).blocks (refetched_entry p f h)
