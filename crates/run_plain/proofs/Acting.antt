-- What an action does is what its effect does, on the work that it leaves.
use Rattle.std.proofs.Common.{◌≡◌, ℕ, ◌+◌, Bool, true, false, List, ◌∷◌, length, refl, ap, sym, ◌∙◌, Ok, Err, Option, Some, None}
use Rattle.std.specs.Prelude.{Result, OnOk, OnErr, IfErr, IsFalse, slice_get, ◌==◌}
use Rattle.std.proofs.lemmas.Bool.{false≢true, eq-eqb}
use Rattle.ir_model.specs.declared.instr.Instr.{Instr}
use Rattle.ir_model.specs.declared.module.Block.{Block}
use Rattle.ir_model.specs.declared.module.Function.{Function}
use Rattle.ir_base.specs.declared.cause.Cause.{Cause}
use Rattle.run_step.specs.Effects.{IsEffect, effect_of, is_new_slot, work_after}
use Rattle.run_step.specs.Step.{Action, Coro, Deallocate, Done, Enter, GoTo, NewSlot, Return, Stuck, Work, AtTerm, fetch, fetch_in, fetch_or}
use Rattle.run_step.specs.declared.effect.Effect.{Effect}
use Rattle.run_step.specs.declared.world.Slot.{Slot}
use Rattle.run_plain.specs.Plain.{PlainGiven, plain_act, plain_work}
use Rattle.run_plain.specs.PlainEffects.{IsStop, is_done, plain_effect, with_work}
use Rattle.run_plain.specs.declared.effects.Stop.{Stop}
use Rattle.run_plain.specs.declared.state.PlainState.{PlainState}

act-effect : (g : PlainGiven) (s : PlainState) (a : Action) → plain_act g s a ≡ plain_effect g (with_work s (work_after (plain_work s) a)) (effect_of a)
act-effect g s (Done w) = refl
act-effect g s (NewSlot w slot) = refl
act-effect g s (Enter func args result must_tail) = refl
act-effect g s (Coro i args result) = refl
act-effect g s (Deallocate p) = refl
act-effect g s (GoTo label) = refl
act-effect g s (Return v) = refl
act-effect g s (Stuck cause) = refl

pub performed : (g : PlainGiven) (s : PlainState) (a : Action) (e : Effect) (w : Work) → IsEffect e (plain_work s) w a → plain_act g s a ≡ plain_effect g (with_work s w) e
performed g s a e w h =
    act-effect g s a
    ∙ ap (λ (x : Work). plain_effect g (with_work s x) (effect_of a)) (sym h.work)
    ∙ ap (λ (x : Effect). plain_effect g (with_work s w) x) (sym h.effect)

undone-work : (s : PlainState) (a : Action) → is_done (effect_of a) ≡ false → is_new_slot (effect_of a) ≡ false → with_work s (work_after (plain_work s) a) ≡ s
undone-work s (Done w) d n = absurd (false≢true (sym d))
undone-work s (NewSlot w slot) d n = absurd (false≢true (sym n))
undone-work s (Enter func args result must_tail) d n = refl
undone-work s (Coro i args result) d n = refl
undone-work s (Deallocate p) d n = refl
undone-work s (GoTo label) d n = refl
undone-work s (Return v) d n = refl
undone-work s (Stuck cause) d n = refl

pub undone : (s : PlainState) (a : Action) (e : Effect) (w : Work) → IsEffect e (plain_work s) w a → is_new_slot e ≡ false → is_done e ≡ false → with_work s w ≡ s
undone s a e w h n d =
    ap (λ (x : Work). with_work s x) h.work
    ∙ undone-work s a (ap is_done (sym h.effect) ∙ d) (ap is_new_slot (sym h.effect) ∙ n)

pub performed-done : (g : PlainGiven) (s : PlainState) (b a : Action) (e : Effect) (w : Work) (r : Result (Unit {0}) Stop) (new : PlainState) → b ≡ a → IsEffect e (plain_work s) w a → OnOk r (plain_effect g (with_work s w) e ≡ Ok new) → OnOk r (plain_act g s b ≡ Ok new)
performed-done g s b a e w (Ok u) new is h d = ap (plain_act g s) is ∙ performed g s a e w h ∙ d
performed-done g s b a e w (Err x) new is h d = tt

is-stop : (stop : Stop) (r q : Result PlainState Cause) → q ≡ r → IsStop stop r → IsStop stop q
is-stop Stop.NoMemory r q e h = tt
is-stop (Stop.Undefined cause) r q e h = e ∙ h

pub performed-refused : (g : PlainGiven) (s : PlainState) (b a : Action) (e : Effect) (w : Work) (r : Result (Unit {0}) Stop) → b ≡ a → IsEffect e (plain_work s) w a → IfErr r (λ stop. IsStop stop (plain_effect g (with_work s w) e)) → IfErr r (λ stop. IsStop stop (plain_act g s b))
performed-refused g s b a e w (Ok u) is h d = tt
performed-refused g s b a e w (Err stop) is h d = is-stop stop (plain_effect g (with_work s w) e) (plain_act g s b) (ap (plain_act g s) is ∙ performed g s a e w h) d

pub performed-kept : (s : PlainState) (a : Action) (e : Effect) (w : Work) (r : Result (Unit {0}) Stop) (new : PlainState) → IsEffect e (plain_work s) w a → IsFalse (is_new_slot e) → OnErr r (new ≡ with_work s w) → OnErr r (IsFalse (is_done e)) → OnErr r (new ≡ s)
performed-kept s a e w (Ok u) new h n k d = tt
performed-kept s a e w (Err stop) new h n k d = k ∙ undone s a e w h n d

pub fetch-term : (f : Function) (block at : ℕ) (b : Block) → slice_get f.blocks block ≡ Some b → slice_get b.instrs at ≡ None → at ≡ length b.instrs → fetch f block at ≡ AtTerm b.term
fetch-term f block at b e₁ e₂ e₃ =
    ap (λ (o : Option Block). fetch_in o at) e₁
    ∙ ap (λ (o : Option Instr). fetch_or o (at == length b.instrs) b.term) e₂
    ∙ ap (λ (v : Bool). fetch_or None v b.term) (eq-eqb at (length b.instrs) e₃)

-- ---- an alloca

pub slot-placed : (g : PlainGiven) (s : PlainState) (w : Work) (a : Action) (x : Slot) (next len name : ℕ) (slots : List Slot) → a ≡ NewSlot w x → x ≡ record { alloca = name; block = length s.world.memory } → slots ≡ (record { alloca = name; block = len }) ∷ s.top.slots → len ≡ length s.world.memory → next ≡ s.top.at + 1 → plain_act g s a ≡ Ok (record s { world = w.world; top = record s.top { at = next; values = w.values; slots = slots } })
slot-placed g s w a x next len name slots is xs ps ls ns =
    ap (plain_act g s) is
    ∙ ap (λ (y : Slot). Ok (record s { world = w.world; top = record s.top { at = s.top.at + 1; values = w.values; slots = y ∷ s.top.slots } })) (xs ∙ ap (λ k. record { alloca = name; block = k }) (sym ls))
    ∙ ap (λ (l : List Slot). Ok (record s { world = w.world; top = record s.top { at = s.top.at + 1; values = w.values; slots = l } })) (sym ps)
    ∙ ap (λ k. Ok (record s { world = w.world; top = record s.top { at = k; values = w.values; slots = slots } })) (sym ns)
