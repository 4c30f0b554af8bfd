-- A memcpy that is done in the first run is done in the framed one: both change bytes alone, and what is free there
-- stays.
use Rattle.std.proofs.Common.{◌≡◌, ◌∙◌, Bool, Err, List, None, Ok, Option, Result, ap, false, refl, subst, sym, true, ℕ}
use Rattle.pass_frames_code.specs.ir_base.declared.cause.Cause.{Cause}
use Rattle.pass_frames_code.specs.ir_model.Ty.{Ty}
use Rattle.pass_frames_code.specs.ir_model.declared.instr.Instr.{Instr}
use Rattle.pass_frames_code.specs.ir_model.declared.operand.Arg.{Arg}
use Rattle.pass_frames_code.specs.ir_model.declared.operand.Callee.{Callee}
use Rattle.pass_frames_code.specs.ir_model.declared.operand.Intrinsic.{Intrinsic}
use Rattle.pass_frames_steps.proofs.here.Intrinsics.{pair_stands}
use Rattle.pass_frames_code.proofs.ordinary.Stores.{stands_shown}
use Rattle.pass_frames_code.specs.Copying.{IsCopying}
use Rattle.pass_frames_code.proofs.run_laws.access.Touched.{free_untouched}
use Rattle.pass_frames_code.proofs.run_laws.embedded.Refills.{step_only}
use Rattle.pass_frames_code.proofs.run_laws.embedded.Values.{address_kept}
use Rattle.pass_frames_code.proofs.run_laws.transfer.Muted.{copy_muted, muted_result, shown_address}
use Rattle.pass_frames_code.proofs.run_laws.transfer.Over.{step_over}
use Rattle.pass_frames_code.specs.run_laws.access.Changed.{IsDefined, KeepsFree, LeavesFree}
use Rattle.pass_frames_code.specs.run_laws.access.Touched.{AreTouches, CopiesTo, Touch, intrinsic_touches, touch_of}
use Rattle.pass_frames_code.specs.run_laws.embedded.Refilled.{AreRefilled, OnlyRefills}
use Rattle.pass_frames_code.specs.run_laws.embedded.Related.{HasNoSlot}
use Rattle.pass_frames_code.specs.run_laws.memory.Pointers.{Home, IsValue}
use Rattle.pass_frames_code.specs.run_laws.memory.Standing.{AreByteRights}
use Rattle.pass_frames_code.specs.run_laws.transfer.Muted.{IsShown, muted, muted_work}
use Rattle.pass_frames_code.specs.run_laws.transfer.Shapes.{ArgStays, Call, Direct, InstrStays, Pairwise}
use Rattle.pass_frames_code.specs.run_laws.transfer.Transfer.{AreJoined, AreOver, GoesOver, IsTransferred, StandsFor, given_at, looks_in, same_maps}
use Rattle.pass_frames_code.specs.run_memory.Memory.{copy}
use Rattle.pass_frames_code.specs.run_memory.declared.block.MemoryBlock.{MemoryBlock}
use Rattle.pass_frames_code.specs.run_memory.declared.pointer.Value.{Value}
use Rattle.pass_frames_code.specs.run_step.Step.{Action, AtInstr, Context, Done, Work, action_of, copied_bytes, done, instr_action, intrinsic_call, is_lifetime, set_memory, with_length}
use Rattle.pass_frames_code.specs.run_step.Values.{address, arg_values, nth}

-- ---- what a memcpy is

pub record IsMemcpy (i : Intrinsic) : Type 0 where
  pub looks : looks_in i ≡ true
  pub copies : (c : Context) (w : Work) (result : Option ℕ) (args : List Arg) (vs : List Value)
      → intrinsic_call c w i result args vs ≡ copied_bytes c w vs
  pub touches : (vs : List Value)
      → intrinsic_touches i vs ≡ CopiesTo (address (nth vs 0)) (address (nth vs 1)) (nth vs 2)
  pub no_slot : (result : Option ℕ) (must_tail : Bool) (ty : Option Ty) (args : List Arg)
      → HasNoSlot (AtInstr (Instr.Call result must_tail ty (Callee.Intrinsic i) args))
  pub no_marker : is_lifetime (Callee.Intrinsic i) ≡ false

pub memcpy_of : (i : Intrinsic) → IsCopying i → IsMemcpy i
memcpy_of Intrinsic.MemcpyI64 q = record {
  looks = refl;
  copies = λ c w result args vs. refl;
  touches = λ vs. refl;
  no_slot = λ result must_tail ty args. tt;
  no_marker = refl;
}
memcpy_of Intrinsic.MemcpyI32 q = record {
  looks = refl;
  copies = λ c w result args vs. refl;
  touches = λ vs. refl;
  no_slot = λ result must_tail ty args. tt;
  no_marker = refl;
}
memcpy_of _ q = absurd q

-- ---- one that is done changes the memory alone

pub record IsCopied (w z : Work) : Type 0 where
  pub memory : List MemoryBlock
  pub is : z ≡ set_memory w memory

by_result : (w z : Work) (r : Result (List MemoryBlock) Cause) → done (set_memory w) r ≡ Done z → IsCopied w z
by_result w z (Err cause) e = absurd (cc)
by_result w z (Ok m) e = record { memory = m; is = same e }
  where
    same : Done (set_memory w m) ≡ Done z → z ≡ set_memory w m
    same d = cc

pub copied_work : (c : Context) (w z : Work) (vs : List Value) → copied_bytes c w vs ≡ Done z → IsCopied w z
copied_work c w z vs e = on (nth vs 2) e
  where
    on : (v : Value)
        → with_length v
        (λ n. done (set_memory w) (copy c.rights w.world.memory (address (nth vs 0)) (address (nth vs 1)) n)) ≡ Done z
        → IsCopied w z
    on (Value.Int n) d =
        by_result w z (copy c.rights w.world.memory (address (nth vs 0)) (address (nth vs 1)) n.bits) d
    on Value.Poison d = absurd (cc)
    on (Value.Ptr p) d = absurd (cc)

-- where hidden blocks count as dead it is done too
copy_defined : (hides : ℕ → Bool) (c : Context) (w z : Work) (vs : List Value)
    → IsShown hides (address (nth vs 0)) → IsShown hides (address (nth vs 1)) → copied_bytes c w vs ≡ Done z
    → IsDefined (copied_bytes c (muted_work hides w) vs)
copy_defined hides c w z vs to from e = on (nth vs 2) e
  where
    by_copy : (n : ℕ) (r : Result (List MemoryBlock) Cause)
        → copy c.rights w.world.memory (address (nth vs 0)) (address (nth vs 1)) n ≡ r
        → done (set_memory w) r ≡ Done z
        → IsDefined (done (set_memory (muted_work hides w))
        (copy c.rights (muted hides w.world.memory) (address (nth vs 0)) (address (nth vs 1)) n))
    by_copy n (Err cause) is d = absurd (cc)
    by_copy n (Ok m) is d =
        subst (λ (q : Result (List MemoryBlock) Cause). IsDefined (done (set_memory (muted_work hides w)) q))
        (sym (copy_muted hides c.rights w.world.memory (address (nth vs 0)) (address (nth vs 1)) n to from
        ∙ ap (muted_result hides) is)) tt

    on : (v : Value)
        → with_length v
        (λ n. done (set_memory w) (copy c.rights w.world.memory (address (nth vs 0)) (address (nth vs 1)) n)) ≡ Done z
        → IsDefined (with_length v
        (λ n. done (set_memory (muted_work hides w))
        (copy c.rights (muted hides w.world.memory) (address (nth vs 0)) (address (nth vs 1)) n)))
    on (Value.Int n) d =
        by_copy n.bits (copy c.rights w.world.memory (address (nth vs 0)) (address (nth vs 1)) n.bits) refl d
    on Value.Poison d = absurd (cc)
    on (Value.Ptr p) d = absurd (cc)

-- ---- over related works

pub record CopiesToo (c d : Context) (homes : List Home) (hides : ℕ → Bool) (w S z : Work) (us : List Value) : Type 0
  where
    pub source : IsCopied w z
    pub memory : List MemoryBlock
    pub does : copied_bytes d S us ≡ Done (set_memory S memory)
    pub over : AreOver c.rights d.rights homes hides (λ k. k) z.world (record S.world { memory = memory })
    pub refilled : AreRefilled w.world.memory z.world.memory
    pub keeps : KeepsFree c.rights homes (muted hides w.world.memory) S.world.memory memory

module _ (homes : List Home) (hides : ℕ → Bool) (c d : Context) (law : AreByteRights c.rights)
    (law' : AreByteRights d.rights) (w S z : Work) (i : Intrinsic) (m : IsMemcpy i) (must_tail : Bool) (ty : Option Ty)
    (args now : List Arg) (joined : AreJoined homes hides same_maps c d w S)
    (pairs : Pairwise (ArgStays (StandsFor true (IsValue homes) c d w.values S.values)) args now)
    (does : copied_bytes c w (arg_values c.code w.values args) ≡ Done z) where
  abbrev one : Instr
  one = Instr.Call None must_tail ty (Callee.Intrinsic i) args

  abbrev other : Instr
  other = Instr.Call None must_tail ty (Callee.Intrinsic i) now

  abbrev vs : List Value
  vs = arg_values c.code w.values args

  abbrev us : List Value
  us = arg_values d.code S.values now

  stands : (n : ℕ) → IsValue homes (nth vs n) (nth us n)
  stands n = pair_stands homes c d w.values S.values args now pairs n

  transferred : IsTransferred (IsValue homes) same_maps c d w.values S.values (AtInstr one) (AtInstr other)
  transferred = record {
    shape = subst (λ (k : Bool). InstrStays (StandsFor k (IsValue homes) c d w.values S.values) one other)
        (sym m.looks) (Call None must_tail ty (Callee.Intrinsic i) (Callee.Intrinsic i) args now
        (Direct (Callee.Intrinsic i) refl) pairs);
    callee = tt;
    pointed = tt;
    distance = tt;
    cases = tt;
    no_slot = m.no_slot None must_tail ty args;
    bytes = tt;
  }

  went : GoesOver c.rights d.rights homes hides same_maps (given_at (AtInstr one)) args now w S (Done z)
      (instr_action d S other)
  went =
      subst
      (λ (act : Action). GoesOver c.rights d.rights homes hides same_maps (given_at (AtInstr one)) args now w S act
      (instr_action d S other)) (m.copies c w None args vs ∙ does)
      (step_over homes hides same_maps c d w S (AtInstr one) (AtInstr other) law law' joined transferred)

  copied : IsCopied S went.0
  copied = copied_work d S went.0 us (sym (m.copies d S None now us) ∙ went.1)

  touches : AreTouches homes (touch_of c (muted_work hides w) (AtInstr one)) (touch_of d S (AtInstr other))
  touches =
      subst (λ (p : Touch × Touch). AreTouches homes p.0 p.1) (λ k. (sym (m.touches vs) k, sym (m.touches us) k)) (
        (address (nth us 0), address (nth us 1), nth us 2),
        (
          refl,
          (
            address_kept homes (nth vs 0) (nth us 0) (stands 0),
            (address_kept homes (nth vs 1) (nth us 1) (stands 1), stands 2),
          ),
        ),
      )

  shown : (n : ℕ) → IsShown hides (address (nth vs n))
  shown n = shown_address hides (nth vs n) (stands_shown homes hides joined.hidden (nth vs n) (nth us n) (stands n))

  defined : IsDefined (action_of c (muted_work hides w) (AtInstr one))
  defined =
      subst IsDefined (sym (m.copies c (muted_work hides w) None args vs))
      (copy_defined hides c w z vs (shown 0) (shown 1) does)

  keeps : KeepsFree c.rights homes (muted hides w.world.memory) S.world.memory went.0.world.memory
  keeps =
      subst (λ (act : Action). LeavesFree c.rights homes (muted hides w.world.memory) S.world.memory act) went.1
      (free_untouched homes c d (muted_work hides w) S (AtInstr one) (AtInstr other) law joined.over.memory
      (m.no_slot None must_tail ty args) (m.no_slot None must_tail ty now) touches defined)

  pub copies_too : CopiesToo c d homes hides w S z us
  copies_too = record {
    source = copied_work c w z vs does;
    memory = copied.memory;
    does = sym (m.copies d S None now us) ∙ went.1 ∙ ap Done copied.is;
    over = subst (λ (y : Work). AreOver c.rights d.rights homes hides (λ k. k) z.world y.world) copied.is went.2;
    refilled = subst (OnlyRefills w.world.memory) (m.copies c w None args vs ∙ does)
        (step_only c w (AtInstr one) (m.no_slot None must_tail ty args));
    keeps = subst (λ (y : Work). KeepsFree c.rights homes (muted hides w.world.memory) S.world.memory y.world.memory)
        copied.is keeps;
  }
