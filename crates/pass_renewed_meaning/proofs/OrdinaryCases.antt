-- Ordinary instructions: the second run does what the first does.
use Rattle.std.proofs.Common.{◌≡◌, ℕ, ◌<◌, ◌^◌, ◌⊎◌, inl, inr, Bool, true, false, List, Option, Some, None, Result, Ok, Err}
use Rattle.std.proofs.Common.{refl, sym, ap, ◌∙◌, subst, if◌then◌else◌, arith}
use Rattle.std.specs.Prelude.{ℤ}
use Rattle.run_types.specs.ir_base.declared.cause.Cause.{Cause}
use Rattle.run_types.specs.ir_base.declared.ops.BinOp.{BinOp}
use Rattle.run_types.specs.ir_base.declared.ops.CastOp.{CastOp}
use Rattle.run_types.specs.ir_base.declared.ops.Flags.{Flags}
use Rattle.run_types.specs.ir_base.declared.ops.Pred.{Pred}
use Rattle.run_types.specs.ir_model.Names.{declaration_named, function_at, function_named, global_named, is_local}
use Rattle.run_types.specs.ir_model.Ty.{Ty, array, int, named, ptr, structure, token}
use Rattle.run_types.specs.ir_model.declared.instr.Instr.{Instr}
use Rattle.run_types.specs.ir_model.declared.module.Function.{Function}
use Rattle.run_types.specs.ir_model.declared.module.Module.{Module}
use Rattle.run_types.specs.ir_model.declared.operand.Arg.{Arg}
use Rattle.run_types.specs.ir_model.declared.operand.Callee.{Callee}
use Rattle.run_types.specs.ir_model.declared.operand.Intrinsic.{Intrinsic}
use Rattle.run_types.specs.ir_model.declared.operand.Operand.{Operand}
use Rattle.run_types.specs.ir_paths.Windows.{is_call_of}
use Rattle.run_types.specs.run_laws.embedded.Related.{HasNoSlot}
use Rattle.run_types.specs.run_memory.Memory.{copy}
use Rattle.run_types.specs.run_memory.declared.pointer.Value.{Value}
use Rattle.run_types.specs.run_source.Source.{context_of}
use Rattle.run_types.specs.run_source.State.{next, settled, work_of}
use Rattle.run_types.specs.run_source.declared.state.State.{State}
use Rattle.run_types.specs.run_step.Step.{Action, AtInstr, Context, Coro, Deallocate, Done, Enter, GoTo, NewSlot, Return}
use Rattle.run_types.specs.run_step.Step.{Stuck, Work, allocated, copied_bytes, done, fetch, fits_function, if_alignment, indirect_call}
use Rattle.run_types.specs.run_step.Step.{is_alignment, named_call, observed, set_memory, with_length, words_of}
use Rattle.run_types.specs.run_step.Values.{Env, address, address_from, arg_values, literal, nth, operand_value, value_in}
use Rattle.pass_renewed_meaning.proofs.Addresses.{address_on}
use Rattle.pass_renewed_meaning.proofs.Here.{Here, IsCase, first_act, first_action, keeps, left_asleep, none_below, other}
use Rattle.pass_renewed_meaning.proofs.Here.{second_action}
use Rattle.pass_renewed_meaning.proofs.OneStep.{IsOneStep}
use Rattle.pass_renewed_meaning.proofs.Points.{IsPlain, gives_address, no_part, ordinary}
use Rattle.pass_renewed_meaning.specs.Followed.{Goes}
use Rattle.pass_renewed_meaning.specs.Rules.{Setting}
use Rattle.pass_renewed_meaning.specs.Runs.{first_given, second_given}
use Rattle.run_types.proofs.pass_renewed_proof.History.{local_is}
use Rattle.run_types.proofs.pass_renewed_proof.Parts.{part_beside}
use Rattle.run_types.proofs.pass_renewed_proof.Settled.{settled_beside}
use Rattle.run_types.specs.pass_renewed_proof.Beside.{IsBeside, place_in}
use Rattle.run_types.specs.pass_renewed_proof.Ordinary.{IsBase, IsOrdinaryInstr, IsPart, with_part}
use Rattle.run_types.specs.pass_renewed_proof.Renewed.{is_idle, renewed_act}
use Rattle.run_types.specs.pass_renewed_proof.SlotRules.{IsAddressOf, Itself, KeepsSlots, Part}
use Rattle.run_types.specs.pass_renewed_proof.Small.{ComparesSmall, HasSmallOffset}
use Rattle.run_types.specs.pass_renewed_proof.Steps.{given_at}

-- the step is done or the run is stuck
abbrev pub IsQuiet : Action → Type 0
IsQuiet (Done w) = Unit {0}
IsQuiet (Stuck cause) = Unit {0}
IsQuiet _ = ⊥

quiet_done : {A : Type 0} (f : A → Work) (r : Result A Cause) → IsQuiet (done f r)
quiet_done f (Err cause) = tt
quiet_done f (Ok a) = tt

quiet_if : (align : ℕ) (a : Action) → IsQuiet a → IsQuiet (if_alignment align a)
quiet_if align a h = on (is_alignment align)
  where
    on : (b : Bool) → IsQuiet (if b then a else Stuck Cause.Align)
    on true = h
    on false = tt

pub quiet_length : (v : Value) (go : ℕ → Action) → ((n : ℕ) → IsQuiet (go n)) → IsQuiet (with_length v go)
quiet_length (Value.Int n) go h = h n.bits
quiet_length Value.Poison go h = tt
quiet_length (Value.Ptr p) go h = tt

quiet_copy : (c : Context) (w : Work) (vs : List Value) → IsQuiet (copied_bytes c w vs)
quiet_copy c w vs = quiet_length (nth vs 2) (λ n. done (set_memory w) (copy c.rights w.world.memory (address (nth vs 0))
    (address (nth vs 1)) n)) (λ n. quiet_done (set_memory w) (copy c.rights w.world.memory (address (nth vs 0)) (address
    (nth vs 1)) n))

-- ---- offsets

small_literal : (ty : Ty) (z : ℤ) → HasSmallOffset (literal ty z)
small_literal (int n) z = tt
small_literal ptr z = tt
small_literal token z = tt
small_literal (array n ty) z = tt
small_literal (structure tys) z = tt
small_literal (named n) z = tt

small_address : (m : Module) (f g d : Option ℕ) → HasSmallOffset (address_from m f g d)
small_address m (Some f) g d = tt
small_address m None (Some g) d = zero_small
  where
    zero_small : 0 < 2 ^ 64
    zero_small = omega arith
small_address m None None (Some d) = tt
small_address m None None None = tt

pub small_operand : (m : Module) (env : Env) → ((v : ℕ) → HasSmallOffset (value_in env v)) → (ty : Ty) (o : Operand)
    → HasSmallOffset (operand_value m env ty o)
small_operand m env small ty (Operand.Local v) = small v
small_operand m env small ty (Operand.Global n) = small_address m (function_named m n) (global_named m n)
    (declaration_named m n)
small_operand m env small ty (Operand.Number z) = small_literal ty z
small_operand m env small ty Operand.True = tt
small_operand m env small ty Operand.False = tt
small_operand m env small ty Operand.Null = tt
small_operand m env small ty Operand.None = tt
small_operand m env small ty Operand.Poison = tt

same_ok : {A : Type 0} {a b : A} → ◌≡◌ {A = Result A Cause} (Ok a) (Ok b) → a ≡ b
same_ok e = cc

module _ (c : Setting) (x : Here c) where
  -- ---- what is done

  pub done_case : (i : Instr) → IsOrdinaryInstr c.code c.roots x.s.top i → is_idle (c.flags x.s.top.func) (AtInstr i) ≡ false
      → (v : Work) → first_action c x (AtInstr i) ≡ Done v → (after : State) → settled x.s v ≡ after
      → IsOneStep (second_given c) (other c x) (AtInstr i) (first_given c) after
  done_case i is idle v done after same =
      let r = settled_beside c.code c.flags c.roots (keeps c x) c.answers x.s (other c x) x.beside i is (none_below c x)
      (left_asleep c x) v done in
      record {
        other = settled (other c x) r.0;
        goes = ap (λ b. if b then Ok (next (other c x)) else acts (second_action c x (AtInstr i))) idle ∙ ap acts r.1;
        related = Goes (subst (λ z. IsBeside c.code c.flags c.roots z (settled (other c x) r.0)) same r.2);
      }
    where
      acts : Action → Result State Cause
      acts a = renewed_act (second_given c) (other c x) a

  quiet_case : (i : Instr) → IsOrdinaryInstr c.code c.roots x.s.top i → is_idle (c.flags x.s.top.func) (AtInstr i) ≡ false
      → IsQuiet (first_action c x (AtInstr i)) → IsCase c x (AtInstr i)
  quiet_case i is idle quiet here after acts = on (first_action c x (AtInstr i)) refl quiet acts
    where
      on : (a : Action) → first_action c x (AtInstr i) ≡ a → IsQuiet a → first_act c x a ≡ Ok after
          → IsOneStep (second_given c) (other c x) (AtInstr i) (first_given c) after
      on (Done v) e h k = done_case i is idle v e after (same_ok k)
      on (Stuck cause) e h k = let z : Err cause ≡ Ok after = k in absurd (cc)
      on (NewSlot w slot) e h k = absurd h
      on (Enter func args result must_tail) e h k = absurd h
      on (Coro j args result) e h k = absurd h
      on (Deallocate p) e h k = absurd h
      on (GoTo label) e h k = absurd h
      on (Return v) e h k = absurd h

  -- ---- ordinary instructions

  pub plain_instr : (i : Instr) → fetch (function_at c.code x.s.top.func) x.s.top.block x.s.top.at ≡ AtInstr i → IsPlain i
      → HasNoSlot (AtInstr i) → is_call_of Intrinsic.CoroEnd i ≡ false → is_call_of Intrinsic.CoroSuspend i ≡ false
      → ((v slot : ℕ) → c.roots x.s.top.func v ≡ Some slot → IsBase v i → ⊥)
      → ComparesSmall c.code x.s.top.values (AtInstr i) → IsOrdinaryInstr c.code c.roots x.s.top i
  plain_instr i here plain no_slot no_end no_suspend no_base small =
      let f = function_at c.code x.s.top.func in
      let k = keeps c x x.s.top.func in
      record {
        place = ordinary c.code f (c.flags x.s.top.func) (c.roots x.s.top.func) k (place_in x.s.top) i here no_end
            no_suspend;
        here = here;
        no_slot = no_slot;
        bytes = (x.all.steps x.s.top.func).bytes x.s.top.block x.s.top.at i here;
        no_part = λ v slot root given. no_part c.code f (c.flags x.s.top.func) (c.roots x.s.top.func) k (place_in x.s.top)
            i here plain v slot root given;
        no_base = no_base;
        small = small;
      }

  -- it computes no address of a local
  abbrev NoLocal : Instr → Type 0
  NoLocal i = (n : ℕ) (inbounds : Bool) (ty : Ty) (u : ℕ) (indices : List Arg)
      → i ≡ Instr.Gep n inbounds ty (Operand.Local u) indices → ⊥

  abbrev NoSlot : Instr → Type 0
  NoSlot i = (a : ℕ) (ty : Ty) (align : ℕ) → i ≡ Instr.Alloca a ty align → ⊥

  simple_case : (i : Instr) → NoSlot i → NoLocal i → HasNoSlot (AtInstr i) → is_call_of Intrinsic.CoroEnd i ≡ false
      → is_call_of Intrinsic.CoroSuspend i ≡ false → ((v slot : ℕ) → c.roots x.s.top.func v ≡ Some slot → IsBase v i → ⊥)
      → ComparesSmall c.code x.s.top.values (AtInstr i) → is_idle (c.flags x.s.top.func) (AtInstr i) ≡ false
      → IsQuiet (first_action c x (AtInstr i)) → IsCase c x (AtInstr i)
  simple_case i no_alloca no_local no_slot no_end no_suspend no_base small idle quiet here = quiet_case i (plain_instr i
      here (record { no_slot = no_alloca; no_address = no_local }) no_slot no_end no_suspend no_base small) idle quiet here

  quiet_compare : (name : ℕ) (pred : _) (ty : Ty) (a b : Operand) → IsQuiet (first_action c x (AtInstr (Instr.Icmp name pred
      ty a b)))
  quiet_compare name pred (int n) a b = tt
  quiet_compare name pred ptr a b = quiet_done _ _
  quiet_compare name pred token a b = quiet_done _ _
  quiet_compare name pred (array n ty) a b = quiet_done _ _
  quiet_compare name pred (structure tys) a b = quiet_done _ _
  quiet_compare name pred (named n) a b = quiet_done _ _

  no_global_base : (v : ℕ) (base : Operand) → is_local v base ≡ true → ((u : ℕ) → base ≡ Operand.Local u → ⊥) → ⊥
  no_global_base v base is none = none v (local_is v base is)

  gep_other : (name : ℕ) (inbounds : Bool) (ty : Ty) (base : Operand) (indices : List Arg)
      → ((u : ℕ) → base ≡ Operand.Local u → ⊥) → IsCase c x (AtInstr (Instr.Gep name inbounds ty base indices))
  gep_other name inbounds ty base indices none = simple_case (Instr.Gep name inbounds ty base indices)
      (λ a ty align e. absurd (cc)) (λ n b t u args e. none u (same_base e)) tt refl refl
      (λ v slot root is. no_global_base v base is none) tt refl tt
    where
      same_base : {n : ℕ} {b : Bool} {t : Ty} {u : ℕ} {args : List Arg} → Instr.Gep name inbounds ty base indices ≡ Instr.Gep
          n b t (Operand.Local u) args → base ≡ Operand.Local u
      same_base e = cc

  -- ---- getelementptrs of a local

  module _ (name : ℕ) (inbounds : Bool) (ty : Ty) (u : ℕ) (indices : List Arg) where
    abbrev gep : Instr
    gep = Instr.Gep name inbounds ty (Operand.Local u) indices

    part_case : (a : ℕ) → c.roots x.s.top.func u ≡ Some a → IsCase c x (AtInstr gep)
    part_case a root here after acts =
        let k = keeps c x x.s.top.func in
        let f = function_at c.code x.s.top.func in
        let old = k.rooted u a root in
        let is : IsPart c.code c.roots x.s.top name inbounds ty u indices = record {
          place = ordinary c.code f (c.flags x.s.top.func) (c.roots x.s.top.func) k (place_in x.s.top) gep here refl refl;
          here = here;
          slot = a;
          root = k.addresses name a old.0 (address_on name inbounds ty u indices f a (place_in x.s.top) here old.1);
          of_slot = root;
        } in
        record {
          other = settled (other c x) (with_part c.code (work_of (other c x)) name inbounds ty u indices);
          goes = refl;
          related = Goes (subst (λ z. IsBeside c.code c.flags c.roots z (settled (other c x) (with_part c.code (work_of
              (other c x)) name inbounds ty u indices))) (same_ok acts) (part_beside c.code c.flags c.roots (keeps c x)
              c.answers x.s (other c x) x.beside name inbounds ty u indices is));
        }

    plain_gep : c.roots x.s.top.func u ≡ None → IsCase c x (AtInstr gep)
    plain_gep none here = quiet_case gep (record {
      place = ordinary c.code f (c.flags x.s.top.func) (c.roots x.s.top.func) k (place_in x.s.top) gep here refl refl;
      here = here;
      no_slot = tt;
      bytes = tt;
      no_part = λ v slot root given. on v slot root given (gives_address c.code f (c.flags x.s.top.func) (c.roots
          x.s.top.func) k (place_in x.s.top) gep here v slot root given);
      no_base = λ v slot root is. let same = same_local (local_is v (Operand.Local u) is) in let z : None ≡ Some slot = sym
          none ∙ ap (c.roots x.s.top.func) same ∙ root in absurd (cc);
      small = tt;
    }) refl tt here
      where
        f : Function
        f = function_at c.code x.s.top.func

        k : KeepsSlots c.code (function_at c.code x.s.top.func) (c.flags x.s.top.func) (c.roots x.s.top.func)
        k = keeps c x x.s.top.func

        same_local : {a b : ℕ} → Operand.Local a ≡ Operand.Local b → a ≡ b
        same_local e = cc

        on : (v slot : ℕ) → c.roots x.s.top.func v ≡ Some slot → given_at (AtInstr gep) ≡ Some v
            → IsAddressOf (function_at c.code x.s.top.func) (c.roots x.s.top.func) slot v x.s.top.block x.s.top.at → ⊥
        on v slot root given (Itself same) =
            let made = k.made slot (k.rooted v slot root).0 in
            let at = made.alone x.s.top.block x.s.top.at (ap given_at here ∙ given ∙ ap Some same) in
            let z : AtInstr gep ≡ AtInstr (Instr.Alloca slot made.ty made.align) = sym here ∙ (λ j. fetch f (at.0 j) (at.1
            j)) ∙ made.stands in
            absurd (cc)
        on v slot root given (Part b t w args at root') =
            let z : AtInstr gep ≡ AtInstr (Instr.Gep v b t (Operand.Local w) args) = sym here ∙ at in
            let same : u ≡ w = base_of z in
            let q : None ≡ Some slot = sym none ∙ ap (c.roots x.s.top.func) same ∙ root' in
            absurd (cc)
          where
            base_of : {n m : ℕ} {b d : Bool} {s t : Ty} {p q : ℕ} {k l : List Arg} → AtInstr (Instr.Gep n b s
                (Operand.Local p) k) ≡ AtInstr (Instr.Gep m d t (Operand.Local q) l) → p ≡ q
            base_of e = cc

    gep_local : IsCase c x (AtInstr gep)
    gep_local = on (c.roots x.s.top.func u) refl
      where
        on : (o : Option ℕ) → c.roots x.s.top.func u ≡ o → IsCase c x (AtInstr gep)
        on None e = plain_gep e
        on (Some a) e = part_case a e

  pub gep_case : (name : ℕ) (inbounds : Bool) (ty : Ty) (base : Operand) (indices : List Arg)
      → IsCase c x (AtInstr (Instr.Gep name inbounds ty base indices))
  gep_case name inbounds ty (Operand.Local u) indices = gep_local name inbounds ty u indices
  gep_case name inbounds ty (Operand.Global n) indices = gep_other name inbounds ty _ indices (λ u e. absurd (cc))
  gep_case name inbounds ty (Operand.Number n) indices = gep_other name inbounds ty _ indices (λ u e. absurd (cc))
  gep_case name inbounds ty Operand.True indices = gep_other name inbounds ty _ indices (λ u e. absurd (cc))
  gep_case name inbounds ty Operand.False indices = gep_other name inbounds ty _ indices (λ u e. absurd (cc))
  gep_case name inbounds ty Operand.Null indices = gep_other name inbounds ty _ indices (λ u e. absurd (cc))
  gep_case name inbounds ty Operand.None indices = gep_other name inbounds ty _ indices (λ u e. absurd (cc))
  gep_case name inbounds ty Operand.Poison indices = gep_other name inbounds ty _ indices (λ u e. absurd (cc))

  -- ---- all of them

  pub binary_case : (name : ℕ) (op : BinOp) (how : Flags) (ty : Ty) (a b : Operand)
      → IsCase c x (AtInstr (Instr.Binary name op how ty a b))
  binary_case name op how ty a b = simple_case (Instr.Binary name op how ty a b) (λ a ty align e. absurd (cc)) (λ n i t u l
      e. absurd (cc)) tt refl refl (λ v slot root h. h) tt refl (quiet_done _ _)

  pub compare_case : ((v : ℕ) → HasSmallOffset (value_in x.s.top.values v)) → (name : ℕ) (pred : Pred) (ty : Ty) (a b :
      Operand) → IsCase c x (AtInstr (Instr.Icmp name pred ty a b))
  compare_case small name pred ty a b = simple_case (Instr.Icmp name pred ty a b) (λ a ty align e. absurd (cc)) (λ n i t u
      l e. absurd (cc)) tt refl refl (λ v slot root h. h) (
        small_operand c.code x.s.top.values small ty a,
        small_operand
            c.code x.s.top.values small ty b,
      ) refl (quiet_compare name pred ty a b)

  pub select_case : (name : ℕ) (z : Operand) (a b : Arg) → IsCase c x (AtInstr (Instr.Select name z a b))
  select_case name z a b = simple_case (Instr.Select name z a b) (λ a ty align e. absurd (cc)) (λ n i t u l e. absurd (cc))
      tt refl refl (λ v slot root h. h) tt refl tt

  pub cast_case : (name : ℕ) (op : CastOp) (nneg : Bool) (arg : Arg) (to : Ty)
      → IsCase c x (AtInstr (Instr.Cast name op nneg arg to))
  cast_case name op nneg arg to = simple_case (Instr.Cast name op nneg arg to) (λ a ty align e. absurd (cc)) (λ n i t u l
      e. absurd (cc)) tt refl refl (λ v slot root h. h) tt refl tt

  pub load_case : (name : ℕ) (ty : Ty) (p : Operand) (align : ℕ) → IsCase c x (AtInstr (Instr.Load name ty p align))
  load_case name ty p align = simple_case (Instr.Load name ty p align) (λ a ty align e. absurd (cc)) (λ n i t u l e. absurd
      (cc)) tt refl refl (λ v slot root h. h) tt refl (quiet_if align _ (quiet_done _ _))

  pub store_case : (arg : Arg) (p : Operand) (align : ℕ) → IsCase c x (AtInstr (Instr.Store arg p align))
  store_case arg p align = simple_case (Instr.Store arg p align) (λ a ty align e. absurd (cc)) (λ n i t u l e. absurd (cc))
      tt refl refl (λ v slot root h. h) tt refl (quiet_if align _ (quiet_done _ _))

  pub copy_case : (j : Intrinsic) → (j ≡ Intrinsic.MemcpyI64) ⊎ (j ≡ Intrinsic.MemcpyI32) → (result : Option ℕ) (must_tail
      : Bool) (ty : Option Ty) (args : List Arg) → IsCase c x (AtInstr (Instr.Call result must_tail ty (Callee.Intrinsic j)
      args))
  copy_case j (inl e) result must_tail ty args = subst (λ k. IsCase c x (AtInstr (Instr.Call result must_tail ty
      (Callee.Intrinsic k) args))) (sym e) (simple_case (Instr.Call result must_tail ty (Callee.Intrinsic
      Intrinsic.MemcpyI64) args) (λ a ty align e. absurd (cc)) (λ n i t u l e. absurd (cc)) tt refl refl (λ v slot root h.
      h) tt refl (quiet_copy (context_of (first_given c) x.s) (work_of x.s) (arg_values c.code x.s.top.values args)))
  copy_case j (inr e) result must_tail ty args = subst (λ k. IsCase c x (AtInstr (Instr.Call result must_tail ty
      (Callee.Intrinsic k) args))) (sym e) (simple_case (Instr.Call result must_tail ty (Callee.Intrinsic
      Intrinsic.MemcpyI32) args) (λ a ty align e. absurd (cc)) (λ n i t u l e. absurd (cc)) tt refl refl (λ v slot root h.
      h) tt refl (quiet_copy (context_of (first_given c) x.s) (work_of x.s) (arg_values c.code x.s.top.values args)))
