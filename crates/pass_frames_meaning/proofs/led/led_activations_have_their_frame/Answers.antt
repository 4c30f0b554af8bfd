use Rattle.std.proofs.Common.{◌≡◌, ℕ, Bool, Some, Option, sym, ◌∙◌, subst}
use Rattle.std.specs.Prelude.{slice_get}
use Rattle.pass_frames_proof.specs.ir_model.Names.{function_at}
use Rattle.pass_frames_proof.specs.ir_model.declared.module.Module.{Module}
use Rattle.pass_frames_meaning.proofs.led.Values.{led_to}
use Rattle.pass_frames_meaning.proofs.led.led_activations_have_their_frame.Goals as goal
use Rattle.pass_frames_meaning.specs.Led.{AreLed, AreLedWith, IsLed}
use Rattle.pass_frames_proof.specs.run_source.State.{frame_address_of}
use Rattle.pass_frames_proof.specs.run_source.declared.state.Instance.{Instance}
use Rattle.pass_frames_proof.specs.run_source.declared.state.State.{State}
use Rattle.pass_frames_proof.specs.run_step.Values.{value_in}

own : (m : Module) (counts : ℕ → ℕ → Bool) (s : State) → IsLed m counts s → (i : ℕ) (x : Instance)
    → s.top.instance ≡ Some i → slice_get s.instances i ≡ Some x
    → AreLed (counts s.top.func) (function_at m s.top.func) x.slots (frame_address_of x) s.top.values
own m counts s h i x e there =
    let k = subst (λ (o : Option ℕ). AreLedWith (counts s.top.func) (function_at m s.top.func) s.instances o
    s.top.slots
    s.top.values) e h.stack.0 in
    let both : Some k.0 ≡ Some x = sym k.1 ∙ there in
    let same : k.0 ≡ x = cc in
    subst (λ (y : Instance). AreLed (counts s.top.func) (function_at m s.top.func) y.slots (frame_address_of y)
    s.top.values) same k.2

pub returns-clause-begun : goal.returns-clause-begun
returns-clause-begun c =
    λ g counts s h i x e there v named. (own g.given.code counts s h i x e there).begun v named

pub returns-clause-leads : goal.returns-clause-leads
returns-clause-leads c =
    λ g counts s h i x e there v counted.
    led_to x.slots v (value_in s.top.values v) ((own g.given.code counts s h i x e there).counted v counted)
