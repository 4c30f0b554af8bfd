-- A function is entered in both runs.
use Rattle.std.proofs.Common.{◌≡◌, ◌≤◌, ⊎_elim, inl, inr, ℕ, zero, suc, Bool, true, false, List, [], ◌∷◌, ◌++◌, length, Option, refl, sym, ◌∙◌, subst, arith, length-append}
use Rattle.std.proofs.lemmas.List.{length-replicate}
use Rattle.std.specs.Prelude.{codes, None, replicate, if◌then◌else◌}
use Rattle.pass_elide.specs.Elided.{elided_function, function_frames}
use Rattle.pass_elide.specs.declared.given.GivenFrame.{GivenFrame}
use Rattle.pass_elide_proof.proofs.Modules.{finds_alike}
use Rattle.pass_elide_proof.specs.Calling.{IsSetApart, StartsAlike}
use Rattle.pass_elide_proof.specs.Elision.{Elision, elided_code, function_in, function_in_elided, rooms}
use Rattle.pass_elide_proof.specs.Match.{AreActivations, AreModes, Beside, Given, HoldsBlock, Same, Sides, held_name, is_given_mode}
use Rattle.pass_proofs.proofs.run_laws.transfer.Sets.{set_elsewhere, set_length, set_stands}
use Rattle.pass_proofs.proofs.ir_laws.facts.Truth.{is_number}
use Rattle.pass_proofs.specs.ir_model.declared.instr.Instr.{Instr}
use Rattle.pass_proofs.specs.ir_model.declared.module.Function.{Function}
use Rattle.pass_proofs.specs.ir_model.declared.module.Param.{Param}
use Rattle.pass_proofs.specs.pass_fetch.Blocks.{numbered_names}
use Rattle.pass_proofs.specs.run_laws.changed.Changed.{Each}
use Rattle.pass_proofs.specs.run_laws.embedded.Related.{AreValues}
use Rattle.pass_proofs.specs.run_laws.memory.Pointers.{Home, IsValue}
use Rattle.pass_proofs.specs.run_memory.declared.pointer.Value.{Value}
use Rattle.pass_proofs.specs.run_source.Source.{called, mode_of}
use Rattle.pass_proofs.specs.run_source.State.{address_in}
use Rattle.pass_proofs.specs.run_source.declared.state.Activation.{Activation}
use Rattle.pass_proofs.specs.run_source.declared.state.Mode.{Mode}
use Rattle.pass_proofs.specs.run_step.Step.{entry_values, with_params}
use Rattle.pass_proofs.specs.run_step.Values.{Env, value_in, with_value}

-- ---- values of the entry

module _ (homes : List Home) where
  abbrev pub AllStand : Env → Env → Type 0
  AllStand env other = (v : ℕ) → IsValue homes (value_in env v) (value_in other v)

  -- the arguments of the one, as far as there are parameters, stand in those of the other
  abbrev pub AreArgs : List Param → List Value → List Value → Type 0
  AreArgs [] vs us = Unit {0}
  AreArgs (p ∷ ps) [] [] = Unit {0}
  AreArgs (p ∷ ps) [] (u ∷ us) = ⊥
  AreArgs (p ∷ ps) (v ∷ vs) [] = ⊥
  AreArgs (p ∷ ps) (v ∷ vs) (u ∷ us) = IsValue homes v u × AreArgs ps vs us

  pub args_are : (ps : List Param) (vs us : List Value) → AreValues homes vs us → AreArgs ps vs us
  args_are [] vs us h = tt
  args_are (p ∷ ps) [] [] h = tt
  args_are (p ∷ ps) [] (u ∷ us) h = h
  args_are (p ∷ ps) (v ∷ vs) [] h = h
  args_are (p ∷ ps) (v ∷ vs) (u ∷ us) h = (h.0, args_are ps vs us h.1)

  -- one argument more isn't looked at
  pub args_more : (ps : List Param) (vs us : List Value) (w : Value) → AreValues homes vs us
      → length ps ≤ length vs → AreArgs ps vs (us ++ w ∷ [])
  args_more [] vs us w h le = tt
  args_more (p ∷ ps) [] us w h le = absurd (omega (arith, le))
  args_more (p ∷ ps) (v ∷ vs) [] w h le = absurd h
  args_more (p ∷ ps) (v ∷ vs) (u ∷ us) w h le = (h.0, args_more ps vs us w h.1 (omega (arith, le)))

  set_all : (env other : Env) (name : ℕ) (v u : Value) → length env ≤ length other → IsValue homes v u
      → AllStand env other → AllStand (with_value env name v) (with_value other name u)
  set_all env other name v u room is h at =
      ⊎_elim
      (λ same. subst (λ (n : ℕ). IsValue homes (value_in (with_value env name v) n)
      (value_in (with_value other name u) n)) same (set_stands homes env other name v u room is))
      (λ ne. subst (λ (w : Value). IsValue homes w (value_in (with_value other name u) at))
      (sym (set_elsewhere env name at v ne))
      (subst (λ (w : Value). IsValue homes (value_in env at) w) (sym (set_elsewhere other name at u ne)) (h at)))
      (is_number name at)

  params_stand : (env other : Env) (ps : List Param) (vs us : List Value) → AreArgs ps vs us
      → length env ≤ length other → AllStand env other
      → AllStand (with_params env ps vs) (with_params other ps us)
  params_stand env other [] vs us args le h = h
  params_stand env other (p ∷ ps) [] [] args le h = h
  params_stand env other (p ∷ ps) [] (u ∷ us) args le h = absurd args
  params_stand env other (p ∷ ps) (v ∷ vs) [] args le h = absurd args
  params_stand env other (p ∷ ps) (v ∷ vs) (u ∷ us) args le h =
      let long = set_length env p.name v in
      let wide = set_length other p.name u in
      params_stand (with_value env p.name v) (with_value other p.name u) ps vs us args.1 (omega (arith, long, wide, le))
      (set_all env other p.name v u le args.0 h)

  blank : (n v : ℕ) → value_in (replicate {A = Option Value} n None) v ≡ Value.Poison
  blank zero v = refl
  blank (suc n) zero = refl
  blank (suc n) (suc v) = blank n v

pub params_long : (env : Env) (ps : List Param) (vs : List Value) → length (with_params env ps vs) ≡ length env
params_long env [] vs = refl
params_long env (p ∷ ps) [] = refl
params_long env (p ∷ ps) (v ∷ vs) = params_long (with_value env p.name v) ps vs ∙ set_length env p.name v

-- a name of no parameter has no value
params_elsewhere : (env : Env) (ps : List Param) (vs : List Value) (v : ℕ)
    → Each (λ (p : Param). p.name ≡ v → ⊥) ps → value_in (with_params env ps vs) v ≡ value_in env v
params_elsewhere env [] vs v h = refl
params_elsewhere env (p ∷ ps) [] v h = refl
params_elsewhere env (p ∷ ps) (w ∷ vs) v h =
    params_elsewhere (with_value env p.name w) ps vs v h.1 ∙ set_elsewhere env p.name v w h.0

module _ (homes : List Home) (room : ℕ → ℕ → Instr → Option GivenFrame) (f : Function) (vs us : List Value)
    (args : AreArgs homes f.params vs us) where
  wide : length (replicate {A = Option Value} (length f.names) None)
      ≤ length (replicate {A = Option Value} (length (elided_function room f).names) None)
  wide =
      let few = length-replicate {A = Option Value} (length f.names) None in
      let many = length-replicate {A = Option Value} (length (elided_function room f).names) None in
      let more = length-append f.names (numbered_names (codes "$c.callee.") (length (function_frames room f))) in
      omega (arith, few, many, more)

  pub entry_stands : AllStand homes (entry_values f vs) (entry_values (elided_function room f) us)
  entry_stands =
      params_stand homes (replicate (length f.names) None)
      (replicate (length (elided_function room f).names) None) f.params vs us args wide
      (λ v. subst (λ (w : Value). IsValue homes w
      (value_in (replicate (length (elided_function room f).names) None) v))
      (sym (blank homes (length f.names) v)) tt)

  pub entry_room : length (entry_values f vs) ≤ length (entry_values (elided_function room f) us)
  entry_room =
      let few = params_long (replicate (length f.names) None) f.params vs in
      let many = params_long (replicate (length (elided_function room f).names) None) f.params us in
      let more = wide in
      omega (arith, few, many, more)

pub entry_poison : (f : Function) (vs : List Value) (v : ℕ) → Each (λ (p : Param). p.name ≡ v → ⊥) f.params
    → value_in (entry_values f vs) v ≡ Value.Poison
entry_poison f vs v h =
    params_elsewhere (replicate (length f.names) None) f.params vs v h ∙ blank [] (length f.names) v

-- ---- the activation

module _ (e : Elision) (homes : List Home) (hides : ℕ → Bool) (d : Sides) (func : ℕ) (vs us : List Value)
    (result : Option ℕ) (args : AreArgs homes (function_in e func).params vs us) where
  abbrev f : Function
  f = function_in e func

  -- the second, with the function of the elided module
  abbrev twin : Activation
  twin = record (called (elided_code e) func us result (mode_of f)) {
    values = entry_values (elided_function (rooms e func) f) us;
  }

  -- a function that doesn't differ
  pub plain_called : AreActivations e homes hides d (called e.code func vs result (mode_of (function_in e func)))
      (called (elided_code e) func us result (mode_of (function_in_elided e func)))
  plain_called =
      subst (λ (h : Function). AreActivations e homes hides d (called e.code func vs result (mode_of f))
      (record (called (elided_code e) func us result (mode_of h)) { values = entry_values h us }))
      (sym ((finds_alike e).functions func)) there
    where
      by : (b : Bool) → AreModes (if b then Mode.Ramp else Mode.Plain) (if b then Mode.Ramp else Mode.Plain)
      by true = Same Mode.Ramp refl
      by false = Same Mode.Plain refl

      ungiven : (b : Bool) → is_given_mode (if b then Mode.Ramp else Mode.Plain) ≡ true → ⊥
      ungiven true given = absurd (cc)
      ungiven false given = absurd (cc)

      was : (b : Bool) → (if is_given_mode (if b then Mode.Ramp else Mode.Plain) then true else false) ≡ true → ⊥
      was true given = absurd (cc)
      was false given = absurd (cc)

      held : (b : Bool) → HoldsBlock hides d.memory (called e.code func vs result (mode_of f))
          (held_name e (is_given_mode (if b then Mode.Ramp else Mode.Plain)) (called e.code func vs result (mode_of f)))
      held true = tt
      held false = tt

      there : AreActivations e homes hides d (called e.code func vs result (mode_of f)) twin
      there = record {
        func = refl;
        result = refl;
        instance = refl;
        has_left = refl;
        mode = by f.coroutine;
        place = Beside refl refl;
        values = record {
          each = λ v h. entry_stands homes (rooms e func) f vs us args v;
          room = entry_room homes (rooms e func) f vs us args;
        };
        asked = λ given. absurd (ungiven f.coroutine given);
        released = λ given. absurd (was f.coroutine given);
        own = [];
        slots = refl;
        allocas = inl (refl, refl, refl);
        held = held f.coroutine;
      }

  pub plain_holds : held_name e (is_given_mode (mode_of (function_in_elided e func)))
      (called e.code func vs result (mode_of (function_in e func))) ≡ None
  plain_holds =
      subst (λ (h : Function). held_name e (is_given_mode (mode_of h)) (called e.code func vs result (mode_of f))
      ≡ None) (sym ((finds_alike e).functions func)) (by f.coroutine)
    where
      by : (b : Bool) → held_name e (is_given_mode (if b then Mode.Ramp else Mode.Plain))
          (called e.code func vs result (mode_of f)) ≡ None
      by true = refl
      by false = refl

  -- a ramp that is given its frame
  module _ (starts : StartsAlike e func) (block offset : ℕ) where
    abbrev x : Activation
    x = called e.code func vs result (mode_of (function_in e func))

    none : (v : ℕ) → IsSetApart (e.shape func) v → value_in (entry_values f vs) v ≡ Value.Poison
    none v apart = entry_poison f vs v (starts.params v apart)

    ramp : AreModes (mode_of f) (Mode.GivenRamp (address_in block offset))
    ramp =
        subst (λ (b : Bool). AreModes (if b then Mode.Ramp else Mode.Plain) (Mode.GivenRamp (address_in block offset)))
        (sym starts.coroutine) (Given block offset)

    pub ramp_called : AreActivations e homes hides d (called e.code func vs result (mode_of (function_in e func)))
        (called (elided_code e) func us result (Mode.GivenRamp (address_in block offset)))
    ramp_called =
        subst (λ (h : Function). AreActivations e homes hides d x
        (record (called (elided_code e) func us result (Mode.GivenRamp (address_in block offset))) {
          values = entry_values h us;
        }))
        (sym ((finds_alike e).functions func)) there
      where
        there : AreActivations e homes hides d x
            (record (called (elided_code e) func us result (Mode.GivenRamp (address_in block offset))) {
              values = entry_values (elided_function (rooms e func) f) us;
            })
        there = record {
          func = refl;
          result = refl;
          instance = refl;
          has_left = refl;
          mode = ramp;
          place = Beside refl refl;
          values = record {
            each = λ v h. entry_stands homes (rooms e func) f vs us args v;
            room = entry_room homes (rooms e func) f vs us args;
          };
          asked = λ given v need. inl (none v (inl need));
          released = λ given. record {
            freed = λ v is. inl (none v (inr (inl is)));
            tested = λ v is_eq is. inl (none v (inr (inr (is_eq, is))));
          };
          own = [];
          slots = refl;
          allocas = inl (refl, refl, refl);
          held = subst (λ (o : Option ℕ). HoldsBlock hides d.memory x o) (sym starts.holds) tt;
        }

    pub ramp_holds : held_name e true (called e.code func vs result (mode_of (function_in e func))) ≡ None
    ramp_holds = starts.holds
