-- A block without phis is entered, and what stands behind the last alloca.
use Rattle.std.proofs.Common.{◌≡◌, ◌∷◌, ◌++◌, ◌∙◌, [], List, ap, refl, ℕ}
use Rattle.std.specs.Prelude.{slice_get}
use Rattle.pass_frames_steps.specs.ir_model.Names.{position_of}
use Rattle.pass_frames_steps.specs.ir_model.declared.instr.Instr.{Instr}
use Rattle.pass_frames_steps.specs.ir_model.declared.instr.Phi.{Phi}
use Rattle.pass_frames_steps.specs.ir_model.declared.module.Function.{Function}
use Rattle.pass_frames_steps.specs.ir_model.declared.module.Module.{Module}
use Rattle.pass_frames_steps.specs.Entering.{behind_alloca, behind_allocas}
use Rattle.pass_frames_steps.specs.run_framed.Framed.{FramedGiven}
use Rattle.pass_frames_steps.specs.run_source.declared.state.State.{State}
use Rattle.pass_frames_steps.specs.run_step.Step.{phi_values, phis_of, values_in, with_all}
use Rattle.pass_frames_steps.specs.run_step.Values.{Env}

pub enters : (m : Module) (f : Function) (label from : ℕ) (vs : Env) (n : ℕ) → position_of f label ≡ n
    → phis_of (slice_get f.blocks n) ≡ []
    → ◌≡◌ {A = ℕ × Env} (position_of f label, values_in m (slice_get f.blocks (position_of f label)) from vs) (n, vs)
enters m f label from vs n at none =
    ap (λ (q : ℕ). (q, values_in m (slice_get f.blocks q) from vs)) at
    ∙ ap (λ (ps : List Phi). (n, with_all vs (phi_values m vs from ps))) none

pub last_behind : (g : FramedGiven) (w : State) (ks : List Instr) (last : Instr)
    → behind_alloca g (behind_allocas g w ks) last ≡ behind_allocas g w (ks ++ (last ∷ []))
last_behind g w [] last = refl
last_behind g w (i ∷ ks) last = last_behind g (behind_alloca g w i) ks last
