-- A coroutine goes on in both runs, with its frame's address as its only value.
use Rattle.std.proofs.Common.{◌≡◌, ◌<◌, ◌≤◌, ◌∙◌, ◌∷◌, [], ap, arith, Bool, false, inl, inr, ⊎_elim, List, Option, refl, subst, suc, sym, zero, ℕ, length}
use Rattle.std.specs.Prelude.{None, Some, replicate, slice_get}
use Rattle.pass_elide_proof.proofs.Called.{AllStand}
use Rattle.pass_elide_proof.proofs.ElidedFound.{operand_stands}
use Rattle.pass_elide_proof.proofs.Unelided.{front_same, none_ahead}
use Rattle.pass_elide_proof.specs.Elision.{Elision, elided_code, function_in, rooms}
use Rattle.pass_elide_proof.specs.Match.{AreActivations, Beside, HasAlloca, Same, Sides, held_name, is_given_mode}
use Rattle.pass_elide_proof.specs.Places.{allocas_ahead}
use Rattle.pass_elide_proof.specs.Waking.{IsFreedName, WakesAlike}
use Rattle.pass_proofs.proofs.ir_laws.facts.Truth.{is_number}
use Rattle.pass_proofs.proofs.run_laws.transfer.Sets.{set_elsewhere, set_length, set_stands}
use Rattle.pass_proofs.specs.ir_model.Names.{function_at, position_of}
use Rattle.pass_proofs.specs.ir_model.declared.instr.Instr.{Instr}
use Rattle.pass_proofs.specs.ir_model.declared.instr.Phi.{Phi}
use Rattle.pass_proofs.specs.ir_model.declared.module.Function.{Function}
use Rattle.pass_proofs.specs.ir_model.declared.module.Module.{Module}
use Rattle.pass_proofs.specs.ir_paths.declared.point.Point.{Point}
use Rattle.pass_proofs.specs.run_framed.Framed.{FramedGiven, alloca_from, begin_name, continue_framed, enter_after, reentry_values}
use Rattle.pass_proofs.specs.run_laws.changed.Changed.{Each}
use Rattle.pass_proofs.specs.run_laws.embedded.Making.{whole_home}
use Rattle.pass_proofs.specs.run_laws.memory.Pointers.{Home, IsValue, home_of}
use Rattle.pass_proofs.specs.run_memory.declared.pointer.Value.{Value}
use Rattle.pass_proofs.specs.run_source.Source.{push, resumed}
use Rattle.pass_proofs.specs.run_source.State.{frame_address_of, with_status}
use Rattle.pass_proofs.specs.run_source.declared.state.Activation.{Activation}
use Rattle.pass_proofs.specs.run_source.declared.state.Instance.{Instance}
use Rattle.pass_proofs.specs.run_source.declared.state.Mode.{Mode}
use Rattle.pass_proofs.specs.run_source.declared.state.State.{State}
use Rattle.pass_proofs.specs.run_source.declared.state.Status.{Status}
use Rattle.pass_proofs.specs.run_step.Step.{incoming_from, label_of, phi_values, phis_of, values_in, with_all}
use Rattle.pass_proofs.specs.run_step.Values.{Env, operand_value, value_in, with_result, with_value}

-- ---- the activation that goes on

-- behind its next alloca, or at the label
abbrev pub woken : Module → Function → (func number : ℕ) → Value → (from label : ℕ) → Option Point → Activation
woken m f func number frame from label (Some p) =
    record {
      func = func;
      block = p.block;
      at = p.at;
      values = reentry_values f frame;
      slots = [];
      result = None;
      mode = Mode.Entering from label;
      instance = Some number;
      has_left = false;
    }
woken m f func number frame from label None =
    record {
      func = func;
      block = position_of f label;
      at = 0;
      values = values_in m (slice_get f.blocks (position_of f label)) (label_of (slice_get f.blocks from))
          (reentry_values f frame);
      slots = [];
      result = None;
      mode = Mode.Resumed;
      instance = Some number;
      has_left = false;
    }

pub goes_on : (g : FramedGiven) (s : State) (i : ℕ) (x : Instance) (p : Point) (values : Env) (label : ℕ)
    → continue_framed g s i x p values label
    ≡ push (with_status s i x Status.Running)
    (woken g.given.code (function_at g.given.code x.coroutine) x.coroutine i (frame_address_of x) p.block label
    (alloca_from (function_at g.given.code x.coroutine) 0))
goes_on g s i x p values label = on (alloca_from (function_at g.given.code x.coroutine) 0)
  where
    on : (o : Option Point)
        → enter_after g (push (with_status s i x Status.Running)
        (resumed i x p (reentry_values (function_at g.given.code x.coroutine) (frame_address_of x)))) p.block label o
        ≡ push (with_status s i x Status.Running)
        (woken g.given.code (function_at g.given.code x.coroutine) x.coroutine i (frame_address_of x) p.block label o)
    on None = refl
    on (Some q) = refl

-- ---- its values

module _ (homes : List Home) where
  set_all : (env other : Env) (name : ℕ) (v u : Value) → length env ≤ length other → IsValue homes v u
      → AllStand homes env other → AllStand homes (with_value env name v) (with_value other name u)
  set_all env other name v u room is h at =
      ⊎_elim
      (λ same. subst (λ (n : ℕ). IsValue homes (value_in (with_value env name v) n)
      (value_in (with_value other name u) n)) same (set_stands homes env other name v u room is))
      (λ ne. subst (λ (w : Value). IsValue homes w (value_in (with_value other name u) at))
      (sym (set_elsewhere env name at v ne))
      (subst (λ (w : Value). IsValue homes (value_in env at) w) (sym (set_elsewhere other name at u ne)) (h at)))
      (is_number name at)

  blank_stands : (n v : ℕ) → IsValue homes (value_in (replicate {A = Option Value} n None) v)
      (value_in (replicate {A = Option Value} n None) v)
  blank_stands zero v = tt
  blank_stands (suc n) zero = tt
  blank_stands (suc n) (suc v) = blank_stands n v

  reach : (n : ℕ) → n ≤ n
  reach n = omega arith

  module _ (f : Function) (v u : Value) (stands : IsValue homes v u) where
    again_stands : AllStand homes (reentry_values f v) (reentry_values f u)
    again_stands = on (begin_name f)
      where
        on : (o : Option ℕ) → AllStand homes (with_result (replicate (length f.names) None) o v)
            (with_result (replicate (length f.names) None) o u)
        on None at = blank_stands (length f.names) at
        on (Some name) at =
            set_all (replicate (length f.names) None) (replicate (length f.names) None) name v u
            (reach (length (replicate {A = Option Value} (length f.names) None))) stands
            (blank_stands (length f.names)) at

    again_long : length (reentry_values f v) ≡ length (reentry_values f u)
    again_long = on (begin_name f)
      where
        on : (o : Option ℕ) → length (with_result (replicate (length f.names) None) o v)
            ≡ length (with_result (replicate (length f.names) None) o u)
        on None = refl
        on (Some name) =
            set_length (replicate (length f.names) None) name v
            ∙ sym (set_length (replicate (length f.names) None) name u)

  module _ (e : Elision) (globals : (n : ℕ) → n < length e.code.globals → home_of homes n ≡ whole_home n)
      (label : ℕ) (env other : Env) (stand : AllStand homes env other) where
    phis_from : (start second : Env) (phis : List Phi) → length start ≤ length second → AllStand homes start second
        → AllStand homes (with_all start (phi_values e.code env label phis))
        (with_all second (phi_values (elided_code e) other label phis))
    phis_from start second [] le h = h
    phis_from start second (p ∷ phis) le h =
        let v = operand_value e.code env p.ty (incoming_from p.incoming label) in
        let u = operand_value (elided_code e) other p.ty (incoming_from p.incoming label) in
        let few = set_length start p.result v in
        let many = set_length second p.result u in
        phis_from (with_value start p.result v) (with_value second p.result u) phis (omega (arith, few, many, le))
        (set_all start second p.result v u le
        (operand_stands e homes globals env other (incoming_from p.incoming label) (λ n is. stand n) p.ty) h)

all_long : (m : Module) (env start : Env) (label : ℕ) (phis : List Phi)
    → length (with_all start (phi_values m env label phis)) ≡ length start
all_long m env start label [] = refl
all_long m env start label (p ∷ phis) =
    let v = operand_value m env p.ty (incoming_from p.incoming label) in
    all_long m env (with_value start p.result v) label phis ∙ set_length start p.result v

-- a name that nothing sets has no value
all_elsewhere : (m : Module) (env start : Env) (label : ℕ) (phis : List Phi) (v : ℕ)
    → Each (λ (p : Phi). p.result ≡ v → ⊥) phis
    → value_in (with_all start (phi_values m env label phis)) v ≡ value_in start v
all_elsewhere m env start label [] v h = refl
all_elsewhere m env start label (p ∷ phis) v h =
    let w = operand_value m env p.ty (incoming_from p.incoming label) in
    all_elsewhere m env (with_value start p.result w) label phis v h.1 ∙ set_elsewhere start p.result v w h.0

blank : (n v : ℕ) → value_in (replicate {A = Option Value} n None) v ≡ Value.Poison
blank zero v = refl
blank (suc n) zero = refl
blank (suc n) (suc v) = blank n v

again_poison : (f : Function) (frame : Value) (v : ℕ) → (begin_name f ≡ Some v → ⊥)
    → value_in (reentry_values f frame) v ≡ Value.Poison
again_poison f frame v ne = on (begin_name f) ne
  where
    on : (o : Option ℕ) → (o ≡ Some v → ⊥) → value_in (with_result (replicate (length f.names) None) o frame) v
        ≡ Value.Poison
    on None ne = blank (length f.names) v
    on (Some name) ne =
        set_elsewhere (replicate (length f.names) None) name v frame (λ same. ne (ap (λ (n : ℕ). Some n) same))
        ∙ blank (length f.names) v

-- ---- both activations

module _ (e : Elision) (homes : List Home) (hides : ℕ → Bool) (d : Sides) (func number : ℕ) (wakes : WakesAlike e func)
    (globals : (n : ℕ) → n < length e.code.globals → home_of homes n ≡ whole_home n) (x y : Value)
    (stands : IsValue homes x y) (from label : ℕ) where
  abbrev f : Function
  f = function_in e func

  none_there : (c : Activation) → Each (HasAlloca homes hides d c []) (allocas_ahead (rooms e func) f)
  none_there c =
      subst (λ (is : List Instr). Each (HasAlloca homes hides d c []) is)
      (sym (none_ahead (rooms e func) wakes.none f)) tt

  no_more : 0 ≡ length (allocas_ahead (rooms e func) f)
  no_more = sym (ap length (none_ahead (rooms e func) wakes.none f))

  abbrev phis : List Phi
  phis = phis_of (slice_get f.blocks (position_of f label))

  abbrev named : ℕ
  named = label_of (slice_get f.blocks from)

  pub woken_beside : (o : Option Point)
      → AreActivations e homes hides d (woken e.code f func number x from label o)
      (woken (elided_code e) f func number y from label o)
  woken_beside (Some p) = record {
    func = refl;
    result = refl;
    instance = refl;
    has_left = refl;
    mode = Same (Mode.Entering from label) refl;
    place = Beside refl (sym (front_same (rooms e func) wakes.none f p.block p.at));
    values = record {
      each = λ v h. again_stands homes f x y stands v;
      room = let long = again_long homes f x y stands in omega (arith, long);
    };
    asked = λ given. absurd (cc);
    released = λ given. record {
      freed = λ v is. inl (again_poison f x v (wakes.begins v (inl is)));
      tested = λ v is_eq is. inl (again_poison f x v (wakes.begins v (inr (is_eq, is))));
    };
    own = [];
    slots = refl;
    allocas = inr (none_there (woken (elided_code e) f func number y from label (Some p)), no_more);
    held = tt;
  }
  woken_beside None = record {
    func = refl;
    result = refl;
    instance = refl;
    has_left = refl;
    mode = Same Mode.Resumed refl;
    place = Beside refl refl;
    values = record {
      each = λ v h. phis_from homes e globals named (reentry_values f x) (reentry_values f y)
          (again_stands homes f x y stands) (reentry_values f x) (reentry_values f y) phis room
          (again_stands homes f x y stands) v;
      room =
          let few = all_long e.code (reentry_values f x) (reentry_values f x) named phis in
          let many = all_long (elided_code e) (reentry_values f y) (reentry_values f y) named phis in
          let long = again_long homes f x y stands in
          omega (arith, few, many, long);
    };
    asked = λ given. absurd (cc);
    released = λ given. record {
      freed = λ v is. inl (unset v (inl is));
      tested = λ v is_eq is. inl (unset v (inr (is_eq, is)));
    };
    own = [];
    slots = refl;
    allocas = inr (none_there (woken (elided_code e) f func number y from label None), no_more);
    held = tt;
  }
    where
      room : length (reentry_values f x) ≤ length (reentry_values f y)
      room = let long = again_long homes f x y stands in omega (arith, long)

      unset : (v : ℕ) → IsFreedName (e.shape func) v
          → value_in (with_all (reentry_values f x) (phi_values e.code (reentry_values f x) named phis)) v
          ≡ Value.Poison
      unset v is =
          all_elsewhere e.code (reentry_values f x) (reentry_values f x) named phis v
          (wakes.phis v is (position_of f label))
          ∙ again_poison f x v (wakes.begins v is)

  -- it holds no block
  pub woken_holds : (o : Option Point)
      → held_name e (is_given_mode (woken (elided_code e) f func number y from label o).mode)
      (woken e.code f func number x from label o) ≡ None
  woken_holds (Some p) = refl
  woken_holds None = refl
