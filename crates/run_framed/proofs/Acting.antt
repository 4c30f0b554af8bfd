-- What an action of a framed run does is what its effect does, on the work that it leaves.
use Rattle.std.proofs.Common.{◌≡◌, ℕ, false, List, refl, ap, sym, subst, ◌∙◌, Ok, Err, Option}
use Rattle.std.specs.Prelude.{Result, OnOk, IfErr}
use Rattle.std.proofs.lemmas.Bool.{false≢true}
use Rattle.run_source.proofs.Acting.{is-stop}
use Rattle.run_source.specs.SourceEffects.{IsStop, OfCall, with_work}
use Rattle.run_source.specs.State.{work_of}
use Rattle.run_source.specs.declared.effects.Stop.{Stop}
use Rattle.run_source.specs.declared.state.State.{State}
use Rattle.run_framed.specs.Framed.{FramedGiven, framed_act, framed_coro, framed_next}
use Rattle.run_framed.specs.FramedEffects.{framed_effect}
use Rattle.ir_model.specs.declared.operand.Arg.{Arg}
use Rattle.run_step.specs.Effects.{IsEffect, effect_of, is_new_slot, work_after}
use Rattle.run_step.specs.Step.{Action, Coro, Deallocate, Done, Enter, Fetched, GoTo, NewSlot, Return, Stuck, Work}
use Rattle.run_step.specs.Values.{arg_values}
use Rattle.run_step.specs.declared.effect.Effect.{Effect}

act-effect : (g : FramedGiven) (s : State) (args : List Arg) (res : Option ℕ) (a : Action) → OfCall args res a → is_new_slot (effect_of a) ≡ false → framed_act g s a ≡ framed_effect g (with_work s (work_after (work_of s) a)) args res (effect_of a)
act-effect g s args res (Done w) h n = refl
act-effect g s args res (NewSlot w slot) h n = absurd (false≢true (sym n))
act-effect g s args res (Enter func values result must_tail) h n = refl
act-effect g s args res (Coro i its_args its_result) h n =
    ap (λ l. framed_coro g s i l (arg_values g.given.code s.top.values l) its_result) h.0
    ∙ ap (λ r. framed_coro g s i args (arg_values g.given.code s.top.values args) r) h.1
act-effect g s args res (Deallocate p) h n = refl
act-effect g s args res (GoTo label) h n = refl
act-effect g s args res (Return v) h n = refl
act-effect g s args res (Stuck cause) h n = refl

pub performed : (g : FramedGiven) (s : State) (args : List Arg) (res : Option ℕ) (a : Action) (e : Effect) (w : Work) → OfCall args res a → is_new_slot e ≡ false → IsEffect e (work_of s) w a → framed_act g s a ≡ framed_effect g (with_work s w) args res e
performed g s args res a e w o n h =
    act-effect g s args res a o (ap is_new_slot (sym h.effect) ∙ n)
    ∙ ap (λ (x : Work). framed_effect g (with_work s x) args res (effect_of a)) (sym h.work)
    ∙ ap (λ (x : Effect). framed_effect g (with_work s w) args res x) (sym h.effect)

pub performed-done : (g : FramedGiven) (s : State) (args : List Arg) (res : Option ℕ) (b a : Action) (e : Effect) (w : Work) (r : Result (Unit {0}) Stop) (new : State) → b ≡ a → OfCall args res a → is_new_slot e ≡ false → IsEffect e (work_of s) w a → OnOk r (framed_effect g (with_work s w) args res e ≡ Ok new) → OnOk r (framed_act g s b ≡ Ok new)
performed-done g s args res b a e w (Ok u) new is o n h d = ap (framed_act g s) is ∙ performed g s args res a e w o n h ∙ d
performed-done g s args res b a e w (Err x) new is o n h d = tt

pub performed-refused : (g : FramedGiven) (s : State) (args : List Arg) (res : Option ℕ) (b a : Action) (e : Effect) (w : Work) (r : Result (Unit {0}) Stop) → b ≡ a → OfCall args res a → is_new_slot e ≡ false → IsEffect e (work_of s) w a → IfErr r (λ stop. IsStop stop (framed_effect g (with_work s w) args res e)) → IfErr r (λ stop. IsStop stop (framed_act g s b))
performed-refused g s args res b a e w (Ok u) is o n h d = tt
performed-refused g s args res b a e w (Err stop) is o n h d = is-stop stop (framed_effect g (with_work s w) args res e) (framed_act g s b) (ap (framed_act g s) is ∙ performed g s args res a e w o n h) d

pub next-done : (g : FramedGiven) (s new : State) (f h : Fetched) (r : Result (Unit {0}) Stop) → f ≡ h → OnOk r (framed_next g s h ≡ Ok new) → OnOk r (framed_next g s f ≡ Ok new)
next-done g s new f h r e d = subst (λ (x : Fetched). OnOk r (framed_next g s x ≡ Ok new)) (sym e) d

pub next-refused : (g : FramedGiven) (s : State) (f h : Fetched) (r : Result (Unit {0}) Stop) → f ≡ h → IfErr r (λ stop. IsStop stop (framed_next g s h)) → IfErr r (λ stop. IsStop stop (framed_next g s f))
next-refused g s f h r e d = subst (λ (x : Fetched). IfErr r (λ stop. IsStop stop (framed_next g s x))) (sym e) d
