-- Values at the entry of a ramp: parameters have their arguments, and other names have none.
use Rattle.std.proofs.Common.{◌≡◌, ◌<◌, ◌≤◌, ◌∙◌, ◌∷◌, [], List, None, ap, arith, inl, inr, length, refl, replicate, subst, sym, ℕ, ⊎_elim}
use Rattle.std.proofs.lemmas.List.{length-replicate}
use Rattle.std.specs.Prelude.{map}
use Rattle.pass_frames_steps.specs.flow_solver.Paths.{IsListed}
use Rattle.pass_frames_steps.proofs.ir_laws.facts.Truth.{is_number}
use Rattle.pass_frames_steps.specs.ir_laws.paths.woven_rules.Pairs.{AreDifferent}
use Rattle.pass_frames_steps.specs.ir_model.declared.instr.Instr.{Instr}
use Rattle.pass_frames_steps.specs.ir_model.declared.module.Function.{Function}
use Rattle.pass_frames_steps.specs.ir_model.declared.module.Module.{Module}
use Rattle.pass_frames_steps.specs.ir_model.declared.module.Param.{Param}
use Rattle.pass_frames_steps.specs.pass_cells.Kept.{entry}
use Rattle.pass_frames_steps.proofs.stepping.Called.{no_value}
use Rattle.pass_frames_steps.specs.Entered.{IsAlloca, Made, made_all, made_one}
use Rattle.pass_frames_steps.specs.Lines.{IsNoRoot}
use Rattle.pass_frames_steps.specs.Places.{Framing, plan}
use Rattle.pass_frames_steps.specs.Ramps.{FitsParam}
use Rattle.pass_frames_steps.specs.Stores.{IsNameGiven, given_params}
use Rattle.pass_frames_steps.proofs.pass_renewed_proof.EnteredValues.{set_here}
use Rattle.pass_frames_steps.proofs.run_laws.transfer.Sets.{set_elsewhere, set_length}
use Rattle.pass_frames_steps.specs.run_laws.changed.Changed.{Each}
use Rattle.pass_frames_steps.specs.run_laws.embedded.Related.{AreValues}
use Rattle.pass_frames_steps.specs.run_laws.memory.Pointers.{Home, IsValue}
use Rattle.pass_frames_steps.specs.run_memory.declared.pointer.Value.{Value}
use Rattle.pass_frames_steps.specs.run_step.Step.{Work, with_params}
use Rattle.pass_frames_steps.specs.run_step.Values.{Env, pointer_to, value_in, with_value}

-- so many names without a value
abbrev pub no_values : ℕ → Env
no_values n = replicate n None

pub none_long : (n : ℕ) → length (no_values n) ≡ n
none_long n = length-replicate n None

-- the names of parameters
abbrev pub names_of : List Param → List ℕ
names_of ps = map (λ (p : Param). p.name) ps

-- ---- names below a bound, which both tables have, get values that stand for each other

pub record StandBelow (homes : List Home) (bound : ℕ) (env other : Env) : Type 0 where
  pub each : (v : ℕ) → IsValue homes (value_in env v) (value_in other v)
  pub room : bound ≤ length env
  pub room_too : bound ≤ length other

module _ (homes : List Home) (bound : ℕ) where
  one_below : (env other : Env) (name : ℕ) (v u : Value) → name < bound → IsValue homes v u
      → StandBelow homes bound env other → StandBelow homes bound (with_value env name v) (with_value other name u)
  one_below env other name v u lt e h = record {
    each = λ at. ⊎_elim
        (λ same. subst
        (λ (n : ℕ). IsValue homes (value_in (with_value env name v) n) (value_in (with_value other name u) n))
        (sym same)
        (subst (λ (p : Value × Value). IsValue homes p.0 p.1) (λ i. (here i, there i)) e))
        (λ no. subst (λ (p : Value × Value). IsValue homes p.0 p.1)
        (λ i. (
          sym (set_elsewhere env name at v (λ d. no (sym d))) i,
          sym (set_elsewhere other name at u (λ d. no (sym d))) i,
        )) (h.each at)) (is_number at name);
    room = let long = set_length env name v in let a = h.room in omega (arith, long, a);
    room_too = let long = set_length other name u in let a = h.room_too in omega (arith, long, a);
  }
    where
      here : v ≡ value_in (with_value env name v) name
      here = sym (set_here env name v (let a = h.room in omega (arith, a, lt)))

      there : u ≡ value_in (with_value other name u) name
      there = sym (set_here other name u (let a = h.room_too in omega (arith, a, lt)))

  params_below : (ps : List Param) (vs us : List Value) (env other : Env) → AreValues homes vs us
      → Each (λ (p : Param). p.name < bound) ps → StandBelow homes bound env other
      → StandBelow homes bound (with_params env ps vs) (with_params other ps us)
  params_below [] vs us env other v low h = h
  params_below (p ∷ ps) [] [] env other v low h = h
  params_below (p ∷ ps) [] (u ∷ us) env other v low h = absurd v
  params_below (p ∷ ps) (x ∷ vs) [] env other v low h = absurd v
  params_below (p ∷ ps) (x ∷ vs) (u ∷ us) env other v low h =
      params_below ps vs us (with_value env p.name x) (with_value other p.name u) v.1 low.1
      (one_below env other p.name x u low.0 v.0 h)

  pub entry_below : (n m : ℕ) (ps : List Param) (vs us : List Value) → bound ≤ n → bound ≤ m → AreValues homes vs us
      → Each (λ (p : Param). p.name < bound) ps
      → StandBelow homes bound (with_params (replicate n None) ps vs) (with_params (replicate m None) ps us)
  entry_below n m ps vs us le more v low =
      params_below ps vs us (replicate n None) (replicate m None) v low (record {
        each = λ at. subst (λ (u : Value). IsValue homes u (value_in (replicate m None) at)) (sym (no_value n at)) tt;
        room = let e = none_long n in omega (arith, e, le);
        room_too = let e = none_long m in omega (arith, e, more);
      })

-- ---- names that no parameter has

others_stay : (ps : List Param) (vs : List Value) (env : Env) (name : ℕ)
    → ((p : Param) → IsListed p ps → p.name ≡ name → ⊥) → value_in (with_params env ps vs) name ≡ value_in env name
others_stay [] vs env name none = refl
others_stay (p ∷ ps) [] env name none = refl
others_stay (p ∷ ps) (v ∷ vs) env name none =
    others_stay ps vs (with_value env p.name v) name (λ q l. none q (inr l))
    ∙ set_elsewhere env p.name name v (none p (inl refl))

pub unset_poison : (n : ℕ) (ps : List Param) (vs : List Value) (name : ℕ)
    → ((p : Param) → IsListed p ps → p.name ≡ name → ⊥)
    → value_in (with_params (replicate n None) ps vs) name ≡ Value.Poison
unset_poison n ps vs name none = others_stay ps vs (replicate n None) name none ∙ no_value n name

-- ---- each parameter has its argument

pub name_listed : (ps : List Param) (p : Param) → IsListed p ps → IsListed p.name (names_of ps)
name_listed [] p l = absurd l
name_listed (q ∷ ps) p (inl e) = inl (ap (λ (z : Param). z.name) e)
name_listed (q ∷ ps) p (inr l) = inr (name_listed ps p l)

pub params_given : (ps : List Param) (vs : List Value) (env : Env) → AreDifferent (names_of ps)
    → Each (λ (p : Param). p.name < length env) ps
    → Each (λ (q : ℕ × Value). value_in (with_params env ps vs) q.0 ≡ q.1) (given_params ps vs)
params_given [] vs env once low = tt
params_given (p ∷ ps) [] env once low = tt
params_given (p ∷ ps) (v ∷ vs) env once low = (
  others_stay ps vs (with_value env p.name v) p.name
      (λ q l same. once.0 (subst (λ (n : ℕ). IsListed n (names_of ps)) same (name_listed ps q l)))
      ∙ set_here env p.name v low.0,
  params_given ps vs (with_value env p.name v) once.1 (still ps low.1),
)
  where
    still : (qs : List Param) → Each (λ (q : Param). q.name < length env) qs
        → Each (λ (q : Param). q.name < length (with_value env p.name v)) qs
    still [] h = tt
    still (q ∷ qs) h =
        ((let lt = h.0 in let long = set_length env p.name v in omega (arith, lt, long)), still qs h.1)

-- ---- behind allocas, whose names have no value in the source

pub stand_on : (m : Module) (f : Function) (homes : List Home) (env : Env) (k : Made) (js : List Instr)
    (ups : Each IsAlloca js) → Each (λ (j : Instr). (a : IsAlloca j) → value_in env a.name ≡ Value.Poison) js
    → ((v : ℕ) → IsValue homes (value_in env v) (value_in k.values v)) → (v : ℕ)
    → IsValue homes (value_in env v) (value_in (made_all m f k js ups).values v)
stand_on m f homes env k [] ups none h v = h v
stand_on m f homes env k (j ∷ js) ups none h v =
    stand_on m f homes env (made_one m f k ups.0.name ups.0.ty ups.0.align) js ups.1 none.1 now v
  where
    now : (at : ℕ) → IsValue homes (value_in env at)
        (value_in (with_value k.values ups.0.name (pointer_to (length k.memory))) at)
    now at = ⊎_elim
        (λ same. subst (λ (u : Value). IsValue homes u
        (value_in (with_value k.values ups.0.name (pointer_to (length k.memory))) at))
        (sym (ap (value_in env) same ∙ none.0 ups.0)) tt)
        (λ no. subst (IsValue homes (value_in env at))
        (sym (set_elsewhere k.values ups.0.name at (pointer_to (length k.memory)) (λ d. no (sym d)))) (h at))
        (is_number at ups.0.name)

-- ---- what is to be stored

-- no distance is kept of it or goes on from it
pub record IsUnaddressed (x : Framing) (q : ℕ × Value) : Type 0 where
  pub no_root : IsNoRoot x q.0
  pub no_distance : entry (plan x).cells q.0 ≡ None

pub names_given : (x : Framing) (homes : List Home) (env : Env) (w : Work) (qs : List (ℕ × Value))
    → Each (FitsParam x) qs → Each (IsUnaddressed x) qs → Each (λ (q : ℕ × Value). value_in env q.0 ≡ q.1) qs
    → ((v : ℕ) → IsValue homes (value_in env v) (value_in w.values v)) → Each (IsNameGiven x homes w) qs
names_given x homes env w [] fit bare is h = tt
names_given x homes env w (q ∷ qs) fit bare is h = (
  record {
    stands = subst (λ (u : Value). IsValue homes u (value_in w.values q.0)) is.0 (h q.0);
    storable = fit.0.storable;
    no_root = bare.0.no_root;
    no_distance = bare.0.no_distance;
  },
  names_given x homes env w qs fit.1 bare.1 is.1 h,
)

-- ---- how many there are

pub params_long : (env : Env) (ps : List Param) (vs : List Value) → length (with_params env ps vs) ≡ length env
params_long env [] vs = refl
params_long env (p ∷ ps) [] = refl
params_long env (p ∷ ps) (v ∷ vs) = params_long (with_value env p.name v) ps vs ∙ set_length env p.name v
