-- What an action does is what its effect does, on the work that it leaves.
use Rattle.std.proofs.Common.{◌≡◌, ℕ, ◌+◌, Bool, true, false, List, ◌∷◌, length, refl, ap, sym, ◌∙◌, Ok, Err, Option, Some, None}
use Rattle.std.specs.Prelude.{Result, OnOk, OnErr, IfErr, IsFalse, slice_get, ◌==◌}
use Rattle.std.proofs.lemmas.Bool.{false≢true, eq-eqb}
use Rattle.ir_model.specs.declared.instr.Instr.{Instr}
use Rattle.ir_model.specs.declared.module.Block.{Block}
use Rattle.ir_model.specs.declared.module.Function.{Function}
use Rattle.ir_model.specs.declared.operand.Arg.{Arg}
use Rattle.ir_base.specs.declared.cause.Cause.{Cause}
use Rattle.run_source_tables.specs.run_step.Effects.{IsEffect, effect_of, is_new_slot, work_after}
use Rattle.run_source_tables.specs.run_step.Step.{Action, Coro, Deallocate, Done, Enter, GoTo, NewSlot, Return, Stuck, Work, AtTerm, fetch, fetch_in, fetch_or}
use Rattle.run_source_tables.specs.run_step.Values.{arg_values}
use Rattle.run_source_tables.specs.run_step.declared.effect.Effect.{Effect}
use Rattle.run_source_tables.specs.run_step.declared.world.Slot.{Slot}
use Rattle.run_source.specs.Source.{act, continue, coro}
use Rattle.run_source.specs.State.{work_of}
use Rattle.run_source_tables.specs.Given.{Given}
use Rattle.run_source.specs.SourceEffects.{IsStop, OfCall, is_done, source_effect, with_work}
use Rattle.run_source.specs.declared.effects.Stop.{Stop}
use Rattle.run_source.specs.declared.state.State.{State}

act-effect : (g : Given) (s : State) (args : List Arg) (res : Option ℕ) (a : Action) → OfCall args res a → act g (continue g) s a ≡ source_effect g (with_work s (work_after (work_of s) a)) args res (effect_of a)
act-effect g s args res (Done w) h = refl
act-effect g s args res (NewSlot w slot) h = refl
act-effect g s args res (Enter func values result must_tail) h = refl
act-effect g s args res (Coro i its_args its_result) h =
    ap (λ l. coro g (continue g) s i l (arg_values g.code s.top.values l) its_result) h.0
    ∙ ap (λ r. coro g (continue g) s i args (arg_values g.code s.top.values args) r) h.1
act-effect g s args res (Deallocate p) h = refl
act-effect g s args res (GoTo label) h = refl
act-effect g s args res (Return v) h = refl
act-effect g s args res (Stuck cause) h = refl

pub performed : (g : Given) (s : State) (args : List Arg) (res : Option ℕ) (a : Action) (e : Effect) (w : Work) → OfCall args res a → IsEffect e (work_of s) w a → act g (continue g) s a ≡ source_effect g (with_work s w) args res e
performed g s args res a e w o h =
    act-effect g s args res a o
    ∙ ap (λ (x : Work). source_effect g (with_work s x) args res (effect_of a)) (sym h.work)
    ∙ ap (λ (x : Effect). source_effect g (with_work s w) args res x) (sym h.effect)

undone-work : (s : State) (a : Action) → is_done (effect_of a) ≡ false → is_new_slot (effect_of a) ≡ false → with_work s (work_after (work_of s) a) ≡ s
undone-work s (Done w) d n = absurd (false≢true (sym d))
undone-work s (NewSlot w slot) d n = absurd (false≢true (sym n))
undone-work s (Enter func args result must_tail) d n = refl
undone-work s (Coro i args result) d n = refl
undone-work s (Deallocate p) d n = refl
undone-work s (GoTo label) d n = refl
undone-work s (Return v) d n = refl
undone-work s (Stuck cause) d n = refl

pub undone : (s : State) (a : Action) (e : Effect) (w : Work) → IsEffect e (work_of s) w a → is_new_slot e ≡ false → is_done e ≡ false → with_work s w ≡ s
undone s a e w h n d =
    ap (λ (x : Work). with_work s x) h.work
    ∙ undone-work s a (ap is_done (sym h.effect) ∙ d) (ap is_new_slot (sym h.effect) ∙ n)

pub performed-done : (g : Given) (s : State) (args : List Arg) (res : Option ℕ) (b a : Action) (e : Effect) (w : Work) (r : Result (Unit {0}) Stop) (new : State) → b ≡ a → OfCall args res a → IsEffect e (work_of s) w a → OnOk r (source_effect g (with_work s w) args res e ≡ Ok new) → OnOk r (act g (continue g) s b ≡ Ok new)
performed-done g s args res b a e w (Ok u) new is o h d = ap (act g (continue g) s) is ∙ performed g s args res a e w o h ∙ d
performed-done g s args res b a e w (Err x) new is o h d = tt

pub is-stop : (stop : Stop) (r q : Result State Cause) → q ≡ r → IsStop stop r → IsStop stop q
is-stop Stop.NoMemory r q e h = tt
is-stop (Stop.Undefined cause) r q e h = e ∙ h

pub performed-refused : (g : Given) (s : State) (args : List Arg) (res : Option ℕ) (b a : Action) (e : Effect) (w : Work) (r : Result (Unit {0}) Stop) → b ≡ a → OfCall args res a → IsEffect e (work_of s) w a → IfErr r (λ stop. IsStop stop (source_effect g (with_work s w) args res e)) → IfErr r (λ stop. IsStop stop (act g (continue g) s b))
performed-refused g s args res b a e w (Ok u) is o h d = tt
performed-refused g s args res b a e w (Err stop) is o h d = is-stop stop (source_effect g (with_work s w) args res e) (act g (continue g) s b) (ap (act g (continue g) s) is ∙ performed g s args res a e w o h) d

pub performed-kept : (s : State) (a : Action) (e : Effect) (w : Work) (r : Result (Unit {0}) Stop) (new : State) → IsEffect e (work_of s) w a → IsFalse (is_new_slot e) → OnErr r (new ≡ with_work s w) → OnErr r (IsFalse (is_done e)) → OnErr r (new ≡ s)
performed-kept s a e w (Ok u) new h n k d = tt
performed-kept s a e w (Err stop) new h n k d = k ∙ undone s a e w h n d

pub fetch-term : (f : Function) (block at : ℕ) (b : Block) → slice_get f.blocks block ≡ Some b → slice_get b.instrs at ≡ None → at ≡ length b.instrs → fetch f block at ≡ AtTerm b.term
fetch-term f block at b e₁ e₂ e₃ =
    ap (λ (o : Option Block). fetch_in o at) e₁
    ∙ ap (λ (o : Option Instr). fetch_or o (at == length b.instrs) b.term) e₂
    ∙ ap (λ (v : Bool). fetch_or None v b.term) (eq-eqb at (length b.instrs) e₃)
