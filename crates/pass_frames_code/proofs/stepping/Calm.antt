-- Arithmetic, loads and addresses leave the world as it is, and set no name but their own. A store sets none.
use Rattle.std.proofs.Common.{◌≡◌, ℕ, Bool, true, false, List, [], ◌∷◌, ◌++◌, refl, ap, ◌∙◌}
use Rattle.std.specs.Prelude.{Err, Ok, Result, if◌then◌else◌}
use Rattle.pass_proofs.specs.ir_base.declared.cause.Cause.{Cause}
use Rattle.pass_proofs.specs.ir_model.Ty.{ptr}
use Rattle.pass_proofs.specs.ir_model.declared.instr.Instr.{Instr}
use Rattle.pass_frames_code.proofs.led.Steps.{done_value, done_world, set_value_other, still_world}
use Rattle.pass_frames_code.specs.Led.{IsNotSet, RunsThrough}
use Rattle.pass_proofs.specs.run_ints.Numbers.{binary}
use Rattle.pass_proofs.specs.run_laws.access.Lines.{Runs}
use Rattle.pass_proofs.specs.run_laws.changed.Changed.{Each}
use Rattle.pass_proofs.specs.run_memory.Memory.{load, store}
use Rattle.pass_proofs.specs.run_step.Step.{Context, Done, Stuck, Work, cast_to, done, instr_action, is_alignment, set_memory, set_value, value_at}
use Rattle.pass_proofs.specs.run_step.Values.{access_of, address, arg_value, distance, element, indices_of, number_at, stored, value_in, value_of}

abbrev pub IsCalm : Instr → Type 0
IsCalm (Instr.Load r ty p align) = Unit {0}
IsCalm (Instr.Gep r inbounds ty p indices) = Unit {0}
IsCalm (Instr.Binary r op flags ty a b) = Unit {0}
IsCalm (Instr.Cast r op nneg a to) = Unit {0}
IsCalm _ = ⊥

-- or a store
abbrev pub IsWoven : Instr → Type 0
IsWoven (Instr.Store a p align) = Unit {0}
IsWoven i = IsCalm i

-- ---- one instruction

any_world : {A : Type 0} (f : A → Work) (r : Result A Cause) (u z : Work) → ((a : A) → (f a).world ≡ u.world)
    → done f r ≡ Done z → z.world ≡ u.world
any_world f (Err cause) u z same e = absurd (cc)
any_world f (Ok a) u z same e = done_world u (f a) z (same a) e

pub calm_world : (c : Context) (u z : Work) (i : Instr) → IsCalm i → instr_action c u i ≡ Done z → z.world ≡ u.world
calm_world c u z (Instr.Load r ty p align) h e = still_world c u z (Instr.Load r ty p align) tt e
calm_world c u z (Instr.Gep r inbounds ty p indices) h e = still_world c u z (Instr.Gep r inbounds ty p indices) tt e
calm_world c u z (Instr.Binary r op flags ty a b) h e =
    any_world (λ n. set_value u r (value_of n))
    (binary op flags (number_at ty (value_at c u ty a)) (number_at ty (value_at c u ty b))) u z (λ n. refl) e
calm_world c u z (Instr.Cast r op nneg a to) h e =
    done_world u (set_value u r (cast_to op nneg (number_at a.ty (arg_value c.code u.values a)) to)) z refl e
calm_world c u z (Instr.Icmp r pred ty a b) h e = absurd h
calm_world c u z (Instr.Select r x a b) h e = absurd h
calm_world c u z (Instr.Alloca r ty align) h e = absurd h
calm_world c u z (Instr.Store a p align) h e = absurd h
calm_world c u z (Instr.Call r must_tail ty callee args) h e = absurd h

any_value : {A : Type 0} (k : ℕ) (f : A → Work) (r : Result A Cause) (u z : Work)
    → ((a : A) → value_in (f a).values k ≡ value_in u.values k) → done f r ≡ Done z
    → value_in z.values k ≡ value_in u.values k
any_value k f (Err cause) u z same e = absurd (cc)
any_value k f (Ok a) u z same e = done_value u (f a) z k (same a) e

-- where an alignment is asked
if_value : {A : Type 0} (k : ℕ) (b : Bool) (f : A → Work) (r : Result A Cause) (cause : Cause) (u z : Work)
    → ((a : A) → value_in (f a).values k ≡ value_in u.values k) → (if b then done f r else Stuck cause) ≡ Done z
    → value_in z.values k ≡ value_in u.values k
if_value k true f r cause u z same e = any_value k f r u z same e
if_value k false f r cause u z same e = absurd (cc)

pub woven_value : (c : Context) (k : ℕ) (u z : Work) (i : Instr) → IsWoven i → IsNotSet k i
    → instr_action c u i ≡ Done z → value_in z.values k ≡ value_in u.values k
woven_value c k u z (Instr.Load r ty p align) h n e =
    if_value k (is_alignment align) (set_value u r)
    (load c.rights u.world.memory (address (value_at c u ptr p)) (access_of ty) align) Cause.Align u z
    (λ v. set_value_other u r k v n) e
woven_value c k u z (Instr.Gep r inbounds ty p indices) h n e =
    done_value u
    (set_value u r
    (element u.world.memory inbounds (value_at c u ptr p) (distance c.code ty (indices_of c.code u.values indices)))) z
    k
    (set_value_other u r k
    (element u.world.memory inbounds (value_at c u ptr p) (distance c.code ty (indices_of c.code u.values indices))) n)
    e
woven_value c k u z (Instr.Binary r op flags ty a b) h n e =
    any_value k (λ m. set_value u r (value_of m))
    (binary op flags (number_at ty (value_at c u ty a)) (number_at ty (value_at c u ty b))) u z
    (λ m. set_value_other u r k (value_of m) n) e
woven_value c k u z (Instr.Cast r op nneg a to) h n e =
    done_value u (set_value u r (cast_to op nneg (number_at a.ty (arg_value c.code u.values a)) to)) z k
    (set_value_other u r k (cast_to op nneg (number_at a.ty (arg_value c.code u.values a)) to) n) e
woven_value c k u z (Instr.Store a p align) h n e =
    if_value k (is_alignment align) (set_memory u)
    (store c.rights u.world.memory (address (value_at c u ptr p)) (stored (access_of a.ty) (arg_value c.code u.values a))
    (access_of a.ty) align) Cause.Align u z (λ m. refl) e
woven_value c k u z (Instr.Icmp r pred ty a b) h n e = absurd h
woven_value c k u z (Instr.Select r x a b) h n e = absurd h
woven_value c k u z (Instr.Alloca r ty align) h n e = absurd h
woven_value c k u z (Instr.Call r must_tail ty callee args) h n e = absurd h

-- ---- lines

pub woven_others : (c : Context) (k : ℕ) (line : List Instr) (w x : Work) → Each IsWoven line → Each (IsNotSet k) line
    → Runs c line w x → value_in x.values k ≡ value_in w.values k
woven_others c k [] w x s n r = ap (λ (u : Work). value_in u.values k) r
woven_others c k (i ∷ is) w x s n r =
    woven_others c k is r.0 x s.1 n.1 r.1.1 ∙ woven_value c k w r.0 i s.0 n.0 r.1.0

module _ (c : Context) (P : Work → Type 0) (y : Work) (holds : (u : Work) → u.world ≡ y.world → P u) where
  pub calm_through : (line : List Instr) (w x : Work) → Each IsCalm line → w.world ≡ y.world → Runs c line w x
      → RunsThrough c P line w x
  calm_through [] w x s e r = r
  calm_through (i ∷ is) w x s e r = (
    holds w e,
    (r.0, (r.1.0, calm_through is r.0 x s.1 (calm_world c w r.0 i s.0 r.1.0 ∙ e) r.1.1)),
  )

  -- and one instruction more at the end
  pub calm_last : (line : List Instr) (j : Instr) (w x : Work) → Each IsCalm line → w.world ≡ y.world
      → Runs c (line ++ (j ∷ [])) w x → RunsThrough c P (line ++ (j ∷ [])) w x
  calm_last [] j w x s e r = (holds w e, (r.0, (r.1.0, r.1.1)))
  calm_last (i ∷ is) j w x s e r = (
    holds w e,
    (r.0, (r.1.0, calm_last is j r.0 x s.1 (calm_world c w r.0 i s.0 r.1.0 ∙ e) r.1.1)),
  )
