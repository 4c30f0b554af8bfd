-- What is known of states where begin or a save stands at the place.
use Rattle.std.proofs.Common.{◌≡◌, ◌⊎◌, inl, inr, ⊎_elim, ℕ, Bool, true, Option, Some, None, sym, ap, ◌∙◌, subst}
use Rattle.std.specs.Prelude.{slice_get}
use Rattle.compiler_theorem.proofs.kinds.Calls.{begin_named}
use Rattle.compiler_theorem.proofs.theorem.Framing.{sources_given}
use Rattle.compiler_theorem.proofs.kinds.Resumed.{resumed_later}
use Rattle.compiler_theorem.proofs.theorem.Slots.{split_slots}
use Rattle.compiler_theorem.proofs.narrow.Modules.{edged_steady}
use Rattle.compiler_theorem.specs.theorem.Anew.{Anew, IsAnewOf}
use Rattle.compiler_theorem.specs.theorem.Asked.{asking}
use Rattle.compiler_theorem.specs.theorem.Entries.{Run}
use Rattle.compiler_theorem.specs.theorem.Lowered.{HasFewBytes, IsLowered, Lowered, early, edged}
use Rattle.compiler.specs.ir_model.Names.{function_at}
use Rattle.compiler.specs.ir_model.declared.module.Module.{Module}
use Rattle.compiler.specs.pass_frames.Framed.{begin_of}
use Rattle.pass_frames_meaning.specs.Led.{AreLedWith, IsLed}
use Rattle.pass_frames_meaning.specs.pass_frames_proof.Related.{is_coroutine, is_first}
use Rattle.pass_frames_meaning.specs.pass_frames_proof.Stepping.{AreGiven}
use Rattle.pass_frames_meaning.specs.pass_renewed_proof.Beside.{IsBeside}
use Rattle.pass_frames_meaning.specs.pass_renewed_proof.Renewed.{Flags, Roots}
use Rattle.pass_frames_meaning.specs.pass_renewed_proof.SlotRules.{KeepsAllSlots}
use Rattle.compiler.specs.run_framed.Framed.{begin_name}
use Rattle.compiler.specs.run_source.State.{address_in, frame_address_of}
use Rattle.compiler.specs.run_source.declared.state.Activation.{Activation}
use Rattle.compiler.specs.run_source.declared.state.Instance.{Instance}
use Rattle.compiler.specs.run_source.declared.state.Mode.{Mode}
use Rattle.compiler.specs.run_source.declared.state.State.{State}
use Rattle.compiler.specs.run_step.Values.{value_in}

led_begun : (m : Module) (counts : ℕ → ℕ → Bool) (s : State) → IsLed m counts s → (i : ℕ) (x : Instance)
    → s.top.instance ≡ Some i → slice_get s.instances i ≡ Some x → (v : ℕ)
    → begin_name (function_at m s.top.func) ≡ Some v → value_in s.top.values v ≡ address_in x.block x.start
led_begun m counts s h i x e there v named =
    let k = subst (λ (o : Option ℕ). AreLedWith (counts s.top.func) (function_at m s.top.func) s.instances o
    s.top.slots s.top.values) e h.stack.0 in
    let both : Some k.0 ≡ Some x = sym k.1 ∙ there in
    let same : k.0 ≡ x = cc in
    k.2.begun v named ∙ ap frame_address_of same

-- begin's name has the address of the activation's frame
pub frame_named : (l : Lowered) (low : IsLowered l) (a : Anew) (r : Run) (counts : ℕ → ℕ → Bool) (s : State)
    → IsLed (edged l) counts s → is_coroutine (asking l low a r).b s.top.func ≡ true → (i : ℕ) (x : Instance)
    → s.top.instance ≡ Some i → slice_get s.instances i ≡ Some x
    → value_in s.top.values (begin_of ((asking l low a r).b.framing s.top.func).function)
    ≡ address_in x.block x.start
frame_named l low a r counts s led coroutine i x own there =
    led_begun (edged l) counts s led i x own there
    (begin_of ((asking l low a r).b.framing s.top.func).function)
    (ap begin_name (given.coroutines s.top.func coroutine)
    ∙ begin_named ((asking l low a r).b.framing s.top.func) (given.framings s.top.func coroutine))
  where
    given : AreGiven (asking l low a r).b (asking l low a r).g
    given = sources_given l low a r

-- where no instance is begun, an activation beside one of the run before is a ramp's
pub ramp_beside : (m : Module) (flags : Flags) (roots : Roots) (v s : State) → IsBeside m flags roots v s
    → (s.top.mode ≡ Mode.Plain → ⊥) → s.top.instance ≡ None → s.top.mode ≡ Mode.Ramp
ramp_beside m flags roots v s h other none = ⊎_elim
    (λ plain. absurd (other (same_mode ∙ plain)))
    (λ rest. ⊎_elim
    (λ ramp. same_mode ∙ ramp)
    (λ resumed. absurd (h.top.begins resumed (sym same_instance ∙ none)))
    rest)
    h.top.modes
  where
    same_mode : s.top.mode ≡ v.top.mode
    same_mode = ap (λ (a : Activation). a.mode) h.top.is

    same_instance : s.top.instance ≡ v.top.instance
    same_instance = ap (λ (a : Activation). a.instance) h.top.is

-- in the entry block an activation that stands beside one of the run before was called
pub called_beside : (l : Lowered) (low : IsLowered l) → HasFewBytes l → (a : Anew) → IsAnewOf (early l) a
    → (v s : State) → IsBeside (edged l) a.flags a.roots v s → s.top.block ≡ 0
    → (s.top.mode ≡ Mode.Plain) ⊎ (s.top.mode ≡ Mode.Ramp)
called_beside l low few a anew v s h entry_block = ⊎_elim
    (λ plain. inl (same_mode ∙ plain))
    (λ rest. ⊎_elim
    (λ ramp. inr (same_mode ∙ ramp))
    (λ resumed. absurd (resumed_later (edged l) (function_at (edged l) v.top.func) (a.flags v.top.func)
    (a.roots v.top.func) (kept.each v.top.func) (record { block = v.top.block; at = v.top.at }) (h.top.came resumed)
    (sym same_block ∙ entry_block)))
    rest)
    h.top.modes
  where
    kept : KeepsAllSlots (edged l) a.keep a.flags a.roots
    kept = split_slots l low a anew (edged_steady l low few)

    same_mode : s.top.mode ≡ v.top.mode
    same_mode = ap (λ (a : Activation). a.mode) h.top.is

    same_block : s.top.block ≡ v.top.block
    same_block = ap (λ (a : Activation). a.block) h.top.is

-- so one of a coroutine is a ramp's
pub first_beside : (l : Lowered) (low : IsLowered l) → HasFewBytes l → (a : Anew) → IsAnewOf (early l) a → (v s : State)
    → IsBeside (edged l) a.flags a.roots v s → (s.top.mode ≡ Mode.Plain → ⊥) → s.top.block ≡ 0
    → is_first s.top.mode ≡ true
first_beside l low few a anew v s h other entry_block = ⊎_elim
    (λ plain. absurd (other plain))
    (λ ramp. ap is_first ramp)
    (called_beside l low few a anew v s h entry_block)
