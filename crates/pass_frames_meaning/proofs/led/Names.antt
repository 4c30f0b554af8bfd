-- What gives the names of allocas that count and of begin.
use Rattle.std.proofs.Common.{◌≡◌, inl, inr, ℕ, zero, suc, Bool, true, false, List, [], ◌∷◌, length, Option, Some}
use Rattle.std.proofs.Common.{None, refl, sym, ap, ◌∙◌, subst, if◌then◌else◌, arith, ◌==◌}
use Rattle.std.proofs.lemmas.Bool.{false≢true}
use Rattle.std.specs.List.{list_any}
use Rattle.std.specs.Prelude.{replicate, slice_get}
use Rattle.pass_frames_proof.specs.ir_base.declared.cause.Cause.{Cause}
use Rattle.pass_frames_proof.specs.ir_model.Layout.{size_of}
use Rattle.pass_frames_proof.specs.ir_model.Ty.{Ty}
use Rattle.pass_frames_proof.specs.ir_model.declared.instr.Instr.{Instr}
use Rattle.pass_frames_proof.specs.ir_model.declared.module.Function.{Function}
use Rattle.pass_frames_proof.specs.ir_model.declared.module.Module.{Module}
use Rattle.pass_frames_proof.specs.ir_model.declared.module.Param.{Param}
use Rattle.pass_frames_proof.specs.ir_model.declared.operand.Callee.{Callee}
use Rattle.pass_frames_proof.specs.ir_model.declared.operand.Intrinsic.{Intrinsic}
use Rattle.pass_frames_proof.specs.ir_parts.Contents.{result_of}
use Rattle.pass_frames_meaning.proofs.called.Voids.{void_intrinsic}
use Rattle.pass_frames_meaning.proofs.led.Values.{AreSame, IsWatched}
use Rattle.pass_frames_meaning.specs.Called.{IsBehindCall, IsCalling, IsCalm}
use Rattle.pass_frames_meaning.specs.Led.{IsBegin, IsLedBy, KeepsNames}
use Rattle.pass_frames_proof.specs.Stepping.{IsNotEntering}
use Rattle.pass_frames_proof.proofs.pass_kept_proof.Same.{neither}
use Rattle.pass_frames_proof.specs.pass_kept_proof.Crossing.{is_param}
use Rattle.pass_frames_proof.specs.pass_kept_proof.Needed.{given_by, phis_give}
use Rattle.pass_frames_proof.proofs.pass_renewed_proof.Sets.{result_elsewhere, set_elsewhere}
use Rattle.pass_frames_proof.specs.pass_renewed_proof.Steps.{given_at}
use Rattle.pass_frames_proof.specs.run_framed.Framed.{begin_name}
use Rattle.pass_renewed_meaning.proofs.run_hooks.alive.Changes.{phis_other}
use Rattle.pass_frames_proof.specs.run_memory.declared.pointer.Value.{Value}
use Rattle.pass_frames_proof.specs.run_source.declared.state.Activation.{Activation}
use Rattle.pass_frames_proof.specs.run_source.declared.state.Mode.{Mode}
use Rattle.pass_frames_proof.specs.run_step.Effects.{is_alloca}
use Rattle.pass_frames_proof.specs.run_step.Step.{Action, AtInstr, Context, NewSlot, Stuck, Work, action_of, alloca, entry_values, fetch}
use Rattle.pass_frames_proof.specs.run_step.Step.{is_alignment, phis_of, values_in, with_params}
use Rattle.pass_frames_proof.specs.run_step.Values.{Env, pointer_to, value_in, with_result, with_value}
use Rattle.pass_frames_proof.specs.run_step.declared.world.Slot.{Slot}
use Rattle.pass_renewed_meaning.specs.run_types.Rules.{KeepsTypes}

-- an alloca or a begin
abbrev pub IsMaker : Instr → Type 0
IsMaker (Instr.Alloca name ty align) = Unit {0}
IsMaker (Instr.Call result must_tail ty (Callee.Intrinsic Intrinsic.CoroBegin) args) = Unit {0}
IsMaker _ = ⊥

begin_makes : (i : Instr) → IsBegin i → IsMaker i
begin_makes (Instr.Call result must_tail ty (Callee.Intrinsic Intrinsic.CoroBegin) args) b = tt
begin_makes _ b = absurd b

call_makes : (i : Instr) → IsCalling i → IsMaker i → ⊥
call_makes (Instr.Call result must_tail ty (Callee.Intrinsic Intrinsic.CoroBegin) args) c b = c
call_makes (Instr.Alloca name ty align) c b = c
call_makes _ c b = absurd b

pub calm_still : (mode : Mode) → IsCalm mode → IsNotEntering mode
calm_still Mode.Plain h = tt
calm_still Mode.Ramp h = tt
calm_still Mode.Resumed h = tt
calm_still (Mode.GivenRamp frame) h = tt
calm_still (Mode.Entering from label) h = absurd h

-- ---- functions

module _ (counts : ℕ → Bool) (f : Function) (ramp : List ℕ) (rules : KeepsNames counts f ramp) where
  pub maker_at : (block at : ℕ) (i : Instr) → fetch f block at ≡ AtInstr i → (v : ℕ) → IsWatched counts f v
      → given_by i ≡ Some v → IsMaker i
  maker_at block at i stands v (inl c) e =
      let made = rules.made v c in
      let p = made.alone block at (ap given_at stands ∙ e) in
      let there : fetch f block at ≡ fetch f 0 made.at = λ j. fetch f (p.0 j) (p.1 j) in
      let both : AtInstr (Instr.Alloca v made.ty made.align) ≡ AtInstr i = sym made.stands ∙ sym there ∙ stands in
      let same : Instr.Alloca v made.ty made.align ≡ i = cc in
      subst IsMaker same tt
  maker_at block at i stands v (inr b) e = begin_makes i ((rules.begins v b).alone block at i stands e)

  -- an alloca that counts doesn't give begin's name
  pub apart : (v : ℕ) → counts v ≡ true → (begin_name f ≡ Some v) → ⊥
  apart v c b =
      let made = rules.made v c in
      (rules.begins v b).alone 0 made.at (Instr.Alloca v made.ty made.align) made.stands refl

  pub alloca_apart : (block at v align : ℕ) (ty : Ty) → fetch f block at ≡ AtInstr (Instr.Alloca v ty align)
      → (begin_name f ≡ Some v) → ⊥
  alloca_apart block at v align ty stands b =
      (rules.begins v b).alone block at (Instr.Alloca v ty align) stands refl

  pub no_phi : (v : ℕ) → IsWatched counts f v → (block : ℕ) → phis_give v (phis_of (slice_get f.blocks block)) ≡ false
  no_phi v (inl c) block = (rules.made v c).no_phi block
  no_phi v (inr b) block = (rules.begins v b).no_phi block

  no_param : (v : ℕ) → IsWatched counts f v → is_param f v ≡ false
  no_param v (inl c) = (rules.made v c).no_param
  no_param v (inr b) = (rules.begins v b).no_param

  -- ---- entry

  unset : (n v : ℕ) → value_in (replicate n None) v ≡ Value.Poison
  unset zero v = refl
  unset (suc n) zero = refl
  unset (suc n) (suc v) = unset n v

  not_same : (a b : ℕ) → (a == b) ≡ false → a ≡ b → ⊥
  not_same a b e h = grind arith

  params_other : (env : Env) (params : List Param) (vs : List Value) (v : ℕ)
      → list_any (λ p. p.name == v) params ≡ false → value_in (with_params env params vs) v ≡ value_in env v
  params_other env [] vs v e = refl
  params_other env (p ∷ params) [] v e = refl
  params_other env (p ∷ params) (w ∷ vs) v e =
      let n = neither (p.name == v) _ e in
      params_other (with_value env p.name w) params vs v n.1 ∙ set_elsewhere env p.name v w (not_same p.name v n.0)

  pub entry_poison : (args : List Value) (v : ℕ) → IsWatched counts f v
      → value_in (entry_values f args) v ≡ Value.Poison
  entry_poison args v w =
      params_other (replicate (length f.names) None) f.params args v (no_param v w) ∙ unset (length f.names) v

  -- ---- blocks

  pub same_entered : (m : Module) (label block : ℕ) (env : Env)
      → AreSame counts f env (values_in m (slice_get f.blocks block) label env)
  same_entered m label block env v w =
      phis_other m env label (phis_of (slice_get f.blocks block)) env v (no_phi v w block)

  -- ---- results

  abbrev pub IsFree : Option ℕ → Type 0
  IsFree result = (v : ℕ) → IsWatched counts f v → result ≡ Some v → ⊥

  pub same_result : (env : Env) (result : Option ℕ) (x : Value) → IsFree result
      → AreSame counts f env (with_result env result x)
  same_result env result x free v w = result_elsewhere env result v x (free v w)

  pub none_free : IsFree None
  none_free v w e = absurd (cc)

  pub free_at : (block at : ℕ) (i : Instr) → fetch f block at ≡ AtInstr i → (result : Option ℕ) → given_by i ≡ result
      → (IsMaker i → ⊥) → IsFree result
  free_at block at i stands result g never v w e = never (maker_at block at i stands v w (g ∙ e))

  -- the name that a return sets
  pub returned_free : (m : Module) → KeepsTypes m f → (a : Activation) (result : Option ℕ) → IsBehindCall f a result
      → IsFree result
  returned_free m types a result c v w e = by c.call c.there c.calls c.gives
    where
      none : Some v ≡ None → ⊥
      none d = absurd (cc)

      by : (i : Instr) → fetch f a.block c.at ≡ AtInstr i → IsCalling i → result_of i ≡ result → ⊥
      by (Instr.Call r must_tail ty (Callee.Named n) args) stands is gives =
          call_makes (Instr.Call r must_tail ty (Callee.Named n) args) is
          (maker_at a.block c.at (Instr.Call r must_tail ty (Callee.Named n) args) stands v w (gives ∙ e))
      by (Instr.Call r must_tail ty (Callee.Local n) args) stands is gives =
          call_makes (Instr.Call r must_tail ty (Callee.Local n) args) is
          (maker_at a.block c.at (Instr.Call r must_tail ty (Callee.Local n) args) stands v w (gives ∙ e))
      by (Instr.Call r must_tail ty (Callee.Intrinsic Intrinsic.CoroResume) args) stands is gives =
          none (sym e ∙ sym gives
          ∙ void_intrinsic m f types a.block c.at r must_tail ty Intrinsic.CoroResume args stands refl)
      by (Instr.Call r must_tail ty (Callee.Intrinsic Intrinsic.CoroDestroy) args) stands is gives =
          none (sym e ∙ sym gives
          ∙ void_intrinsic m f types a.block c.at r must_tail ty Intrinsic.CoroDestroy args stands refl)
      by _ stands is gives = absurd is

-- ---- what allocas and begin do

abbrev pub IsOfAlloca : Work → ℕ → Action → Type 0
IsOfAlloca w name (NewSlot x slot) =
    (slot.alloca ≡ name) × (x.values ≡ with_value w.values name (pointer_to slot.block))
IsOfAlloca w name (Stuck cause) = Unit {0}
IsOfAlloca w name _ = ⊥

pub of_alloca : (c : Context) (w : Work) (name align : ℕ) (ty : Ty) (a : Action)
    → action_of c w (AtInstr (Instr.Alloca name ty align)) ≡ a → IsOfAlloca w name a
of_alloca c w name align ty a e = subst (IsOfAlloca w name) e (on (is_alignment align))
  where
    on : (t : Bool) → IsOfAlloca w name (if t then alloca c w name (size_of c.code ty) align else Stuck
        Cause.Align)
    on true = (refl, refl)
    on false = tt

-- it makes a slot, or is undefined
abbrev pub IsMaking : Action → Type 0
IsMaking (NewSlot w slot) = Unit {0}
IsMaking (Stuck cause) = Unit {0}
IsMaking _ = ⊥

pub making : (w : Work) (name : ℕ) (a : Action) → IsOfAlloca w name a → IsMaking a
making w name (NewSlot x slot) k = tt
making w name (Stuck cause) k = tt
making w name _ k = absurd k

pub alloca_is : (i : Instr) → is_alloca i ≡ true
    → (name : ℕ) × (ty : Ty) × (align : ℕ) × (i ≡ Instr.Alloca name ty align)
alloca_is (Instr.Alloca name ty align) e = (name, ty, align, refl)
alloca_is (Instr.Binary name op flags ty a b) e = absurd (false≢true e)
alloca_is (Instr.Icmp name pred ty a b) e = absurd (false≢true e)
alloca_is (Instr.Select name x a b) e = absurd (false≢true e)
alloca_is (Instr.Cast name op nneg arg to) e = absurd (false≢true e)
alloca_is (Instr.Load name ty p align) e = absurd (false≢true e)
alloca_is (Instr.Store arg p align) e = absurd (false≢true e)
alloca_is (Instr.Gep name inbounds ty base indices) e = absurd (false≢true e)
alloca_is (Instr.Call result must_tail ty callee args) e = absurd (false≢true e)

-- the address of the new slot, or poison where there is no room
pub set_led : (env : Env) (name : ℕ) (s : Slot) → s.alloca ≡ name
    → IsLedBy (s ∷ []) name
    (value_in (with_value env name (pointer_to s.block)) name)
set_led [] name s e = inr refl
set_led (x ∷ env) zero s e = inl (e, refl)
set_led (x ∷ env) (suc name) s e = on (set_led env name (record { alloca = name; block = s.block }) refl)
  where
    on : IsLedBy (record { alloca = name; block = s.block } ∷ []) name
        (value_in (with_value env name (pointer_to s.block)) name)
        → IsLedBy (s ∷ []) (suc name)
        (value_in (with_value env name (pointer_to s.block)) name)
    on (inl h) = inl (e, h.1)
    on (inr h) = inr h
