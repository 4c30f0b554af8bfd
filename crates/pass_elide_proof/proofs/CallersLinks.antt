-- What activations have by their calls stays so.
use Rattle.std.proofs.Common.{◌≡◌, ◌+◌, ◌∙◌, ◌∷◌, ◌⊎◌, [], ap, inl, inr, List, Option, refl, subst, sym, ℕ}
use Rattle.std.specs.Prelude.{None, Some, slice_get, unwrap_or}
use Rattle.pass_elide_proof.proofs.CallersValues.{result_elsewhere}
use Rattle.pass_elide_proof.specs.Callers.{GoesOnward, WasBefore}
use Rattle.pass_elide_proof.specs.CallersStack.{AreCalled, AreCalledBy, HasBegunIn, IsCalledBy}
use Rattle.pass_elide_proof.specs.Elision.{Elision, function_in}
use Rattle.pass_proofs.specs.ir_model.declared.module.Module.{Module}
use Rattle.pass_proofs.specs.ir_base.declared.outcome.Word.{Word}
use Rattle.pass_proofs.specs.run_framed.Framed.{begin_name}
use Rattle.pass_proofs.specs.run_laws.changed.Changed.{Each}
use Rattle.pass_proofs.specs.run_memory.declared.pointer.Value.{Value}
use Rattle.pass_proofs.specs.run_source.Source.{first_state, given_back, returned}
use Rattle.pass_proofs.specs.run_source.State.{address_in}
use Rattle.pass_proofs.specs.run_source.declared.state.Activation.{Activation}
use Rattle.pass_proofs.specs.run_source.declared.state.Instance.{Instance}
use Rattle.pass_proofs.specs.run_source.declared.state.Mode.{Mode}
use Rattle.pass_proofs.specs.run_source.declared.state.State.{State}
use Rattle.pass_proofs.specs.run_step.Values.{value_in}
use Rattle.pass_proofs.specs.run_step.declared.world.World.{World}

-- ---- at the start

pub links_first : (e : Elision) (m : Module) (entry : ℕ) (args : List Word) → AreCalled e (first_state m entry args)
links_first e m entry args = record {
  calls = tt;
  begun = (
    record {
      frame = λ frame number x mode. absurd (cc);
      value = λ frame number v mode. absurd (cc);
    },
    tt,
  );
}

-- ---- instances with another status

module _ (e : Elision) (xs ys : List Instance)
    (was : (number : ℕ) (y : Instance) → slice_get ys number ≡ Some y → WasBefore xs number y) where
  pub begun_as : (c : Activation) → HasBegunIn e xs c → HasBegunIn e ys c
  begun_as c h = record {
    frame = λ frame number y mode own there.
        let old = was number y there in
        h.frame frame number old.before mode own old.there
        ∙ (λ j. address_in (sym old.block j) (sym old.start j));
    value = h.value;
  }

  pub all_begun : (rows : List Activation) → Each (HasBegunIn e xs) rows → Each (HasBegunIn e ys) rows
  all_begun [] h = tt
  all_begun (c ∷ rows) h = (begun_as c h.0, all_begun rows h.1)

-- ---- the topmost goes on

pub calls_on : (e : Elision) (c d : Activation) (below : List Activation) → d.result ≡ c.result
    → ((frame : Value) → c.mode ≡ Mode.GivenRamp frame → d.mode ≡ Mode.GivenRamp frame)
    → AreCalledBy e (c ∷ below) → AreCalledBy e (d ∷ below)
calls_on e c d [] result mode h = tt
calls_on e c d (b ∷ below) result mode h = (by h.0, h.1)
  where
    by : (c.result ≡ None) ⊎ IsCalledBy e c b → (d.result ≡ None) ⊎ IsCalledBy e d b
    by (inl none) = inl (result ∙ none)
    by (inr k) = inr (record {
      call = k.call;
      instr = k.instr;
      there = k.there;
      stands = k.stands;
      result = result ∙ k.result;
      room = λ v is. k.room v (sym result ∙ is);
      given = λ name site. mode (value_in b.values name) (k.given name site);
    })

module _ (e : Elision) (t u : State) (k : GoesOnward e t u) (instance : u.top.instance ≡ t.top.instance)
    (value : (v : ℕ) → begin_name (function_in e t.top.func) ≡ Some v
    → value_in u.top.values v ≡ value_in t.top.values v) where
  pub links_onward : AreCalled e t → AreCalled e u
  links_onward h = record {
    calls =
        subst (λ (below : List Activation). AreCalledBy e (u.top ∷ below)) (sym k.below)
        (calls_on e t.top u.top t.below k.goes.result k.goes.mode h.calls);
    begun =
        subst (λ (below : List Activation). Each (HasBegunIn e u.instances) (u.top ∷ below)) (sym k.below) (
          begun_as e t.instances u.instances k.instances u.top (record {
            frame = λ frame number x mode own there.
                h.begun.0.frame frame number x (k.goes.given frame mode) (sym instance ∙ own) there;
            value = λ frame number v mode own is.
                let name : begin_name (function_in e t.top.func) ≡ Some v
                = ap (λ (func : ℕ). begin_name (function_in e func)) (sym k.goes.func) ∙ is in
                value v name
                ∙ h.begun.0.value frame number v (k.goes.given frame mode) (sym instance ∙ own) name;
          }),
          all_begun e t.instances u.instances k.instances t.below h.begun.1,
        );
  }

-- ---- a call

module _ (e : Elision) (t : State) (new : Activation) (xs : List Instance)
    (was : (number : ℕ) (y : Instance) → slice_get xs number ≡ Some y → WasBefore t.instances number y)
    (called : (new.result ≡ None) ⊎ IsCalledBy e new (record t.top { at = t.top.at + 1 }))
    (begun : HasBegunIn e xs new) where
  abbrev further : Activation
  further = record t.top { at = t.top.at + 1 }

  pub links_pushed : AreCalled e t
      → AreCalled e (record t { top = new; below = record t.top { at = t.top.at + 1 } ∷ t.below; instances = xs })
  links_pushed h = record {
    calls = (called, calls_on e t.top further t.below refl (λ frame is. is) h.calls);
    begun = (
      begun,
      (
        begun_as e t.instances xs was further (record { frame = h.begun.0.frame; value = h.begun.0.value }),
        all_begun e t.instances xs was t.below h.begun.1,
      ),
    );
  }

-- what has not begun, or wasn't given its frame, has nothing to say
pub fresh_begun : (e : Elision) (xs : List Instance) (c : Activation) → c.instance ≡ None → HasBegunIn e xs c
fresh_begun e xs c none = record {
  frame = λ frame number x mode own there. absurd (no number (sym none ∙ own));
  value = λ frame number v mode own is. absurd (no number (sym none ∙ own));
}
  where
    no : (number : ℕ) → None ≡ Some number → ⊥
    no number e = cc

-- ---- a return

module _ (e : Elision) (t : State) (world : World) (ys : List Instance)
    (was : (number : ℕ) (y : Instance) → slice_get ys number ≡ Some y → WasBefore t.instances number y)
    (v : Option Value) (b : Activation) (rest : List Activation) (below : t.below ≡ b ∷ rest)
    (apart : (w : ℕ) → begin_name (function_in e b.func) ≡ Some w → t.top.result ≡ Some w → ⊥) where
  abbrev back : Activation
  back = given_back b t.top.result v

  pub links_back : AreCalled e t → AreCalled e (record (returned (record t { world = world; instances = ys })) {
    top = given_back b t.top.result v;
    below = rest;
  })
  links_back h =
      let calls = subst (λ (rows : List Activation). AreCalledBy e (t.top ∷ rows)) below h.calls in
      let begun = subst (λ (rows : List Activation). Each (HasBegunIn e t.instances) rows) below h.begun.1 in
      record {
        calls = calls_on e b back rest refl (λ frame is. is) calls.1;
        begun = (
          begun_as e t.instances ys was back (record {
            frame = begun.0.frame;
            value = λ frame number w mode own is.
                result_elsewhere b.values t.top.result (unwrap_or v Value.Poison) w (apart w is)
                ∙ begun.0.value frame number w mode own is;
          }),
          all_begun e t.instances ys was rest begun.1,
        );
      }
