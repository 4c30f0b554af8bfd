-- Phis are stored into their cells.
use Rattle.std.proofs.Common.{◌≡◌, ℕ, List, [], ◌∷◌, ◌++◌, refl, ap, sym, subst}
use Rattle.pass_proofs.specs.ir_model.declared.instr.Instr.{Instr}
use Rattle.pass_proofs.specs.ir_model.declared.instr.Phi.{Phi}
use Rattle.pass_proofs.specs.pass_cells.Written.{stored, stored_phis}
use Rattle.pass_proofs.specs.pass_cells.declared.plan.Plan.{Plan}
use Rattle.pass_frames_code.proofs.lines.Stored.{names_stored}
use Rattle.pass_frames_code.specs.Framings.{IsFraming}
use Rattle.pass_frames_code.specs.Lines.{HasOwnBlocks, at_work}
use Rattle.pass_frames_code.specs.Phis.{given_phis}
use Rattle.pass_frames_code.specs.Places.{Framing, plan}
use Rattle.pass_frames_code.specs.Related.{AreCellsRight}
use Rattle.pass_frames_code.specs.Stores.{AreNamesStored, IsNameGiven, stored_all}
use Rattle.pass_proofs.specs.run_laws.changed.Changed.{Each}
use Rattle.pass_proofs.specs.run_laws.memory.Pointers.{Home}
use Rattle.pass_proofs.specs.run_laws.memory.Standing.{AreByteRights}
use Rattle.pass_proofs.specs.run_memory.declared.pointer.Value.{Value}
use Rattle.pass_proofs.specs.run_source.declared.state.Activation.{Activation}
use Rattle.pass_proofs.specs.run_step.Step.{Context, Work, with_all}
use Rattle.pass_proofs.specs.run_step.Values.{Env}

phis_line : (p : Plan) (value : Phi → Value) (ps : List Phi) → stored_phis p ps ≡ stored_all p (given_phis value ps)
phis_line p value [] = refl
phis_line p value (x ∷ ps) = ap (λ (js : List Instr). stored p x.result ++ js) (phis_line p value ps)

pub phis_stored : (x : Framing) → IsFraming x → (homes : List Home) (c : Context) → AreByteRights c.rights
    → (old : Env) (a : Activation) (w : Work) (value : Phi → Value) (n : ℕ) (ps : List Phi) → HasOwnBlocks a
    → Each (IsNameGiven x homes w) (given_phis value ps)
    → AreCellsRight x homes c.rights w.world.memory old (at_work a w)
    → AreNamesStored x homes c w a (with_all old (given_phis value ps)) n (stored_phis (plan x) ps)
phis_stored x is homes c law old a w value n ps own given right =
    subst (AreNamesStored x homes c w a (with_all old (given_phis value ps)) n) (sym (phis_line (plan x) value ps))
    (names_stored x is homes c law a n own (given_phis value ps) old w given right)
