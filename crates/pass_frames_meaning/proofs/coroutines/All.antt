-- Each step of a coroutine is followed, where the steps that are other cases are.
use Rattle.std.proofs.Common.{◌≡◌, ◌⊎◌, inl, inr, ℕ, Bool, true, false, List, [], ◌∷◌, Option, Some, None, refl, sym, ap, ◌∙◌, subst}
use Rattle.pass_frames_proof.specs.ir_base.declared.cause.Cause.{Cause}
use Rattle.pass_frames_proof.specs.ir_base.declared.outcome.Outcome.{Outcome}
use Rattle.pass_frames_proof.specs.ir_model.Names.{function_at}
use Rattle.pass_frames_proof.specs.ir_model.Ty.{Ty}
use Rattle.pass_frames_proof.specs.ir_model.declared.instr.Instr.{Instr}
use Rattle.pass_frames_proof.specs.ir_model.declared.instr.Terminator.{Terminator}
use Rattle.pass_frames_proof.specs.ir_model.declared.operand.Arg.{Arg}
use Rattle.pass_frames_proof.specs.ir_model.declared.operand.Callee.{Callee}
use Rattle.pass_frames_proof.specs.ir_model.declared.operand.Intrinsic.{Intrinsic}
use Rattle.pass_frames_proof.specs.ir_model.declared.operand.Operand.{Operand}
use Rattle.pass_frames_proof.specs.ir_parts.Contents.{instr_operands, result_of}
use Rattle.pass_frames_proof.specs.pass_cells.Kept.{entry}
use Rattle.pass_frames_proof.specs.pass_copies.Uses.{is_access}
use Rattle.pass_frames_proof.specs.pass_fetch.Fetching.{fetch_of}
use Rattle.pass_frames_proof.specs.pass_fetch.declared.fetch.Fetch.{Fetch}
use Rattle.pass_frames_meaning.proofs.coroutines.Calls.{allocator_followed, asking_followed, copying_followed, free_followed, named_followed}
use Rattle.pass_frames_meaning.proofs.coroutines.Ends.{end_followed}
use Rattle.pass_frames_meaning.proofs.coroutines.Marks.{marker_at}
use Rattle.pass_frames_meaning.proofs.coroutines.Steps.{next_is, quiet_followed, store_followed}
use Rattle.pass_frames_meaning.proofs.coroutines.Suspends.{suspend_at}
use Rattle.pass_frames_meaning.proofs.others.AtPlace.{called_by_name, function_there}
use Rattle.pass_frames_meaning.proofs.others.Names.{no_distance}
use Rattle.pass_frames_meaning.proofs.others.Others.{no_ok}
use Rattle.pass_frames_meaning.proofs.others.Returns.{instr_in}
use Rattle.pass_frames_meaning.proofs.others.Unlocated.{begun_unlocated, unaccessed}
use Rattle.pass_frames_proof.proofs.early.Unlocated.{unused_unlocated}
use Rattle.pass_frames_meaning.specs.Coroutines.{AreOthersFollowed, IsUnlocatedHere, MayFollow}
use Rattle.pass_frames_meaning.specs.Others.{EntersCoroutines}
use Rattle.pass_frames_meaning.specs.Plain.{IsNoGep}
use Rattle.pass_frames_meaning.specs.Setting.{AreOfRuns, KeepsAll, Setting}
use Rattle.pass_frames_proof.specs.Asking.{IsAsking}
use Rattle.pass_frames_proof.specs.Code.{is_ahead, loaded}
use Rattle.pass_frames_proof.specs.Copying.{IsCopying}
use Rattle.pass_frames_proof.specs.Followed.{IsFollowed}
use Rattle.pass_frames_proof.specs.Framings.{IsFraming}
use Rattle.pass_frames_proof.specs.Led.{LeavesMemory}
use Rattle.pass_frames_proof.specs.Places.{Framing, copies, plan}
use Rattle.pass_frames_proof.specs.Related.{AreBuiltOf, is_coroutine}
use Rattle.pass_frames_proof.specs.Stepping.{IsCommon, IsNotEntering, state_in}
use Rattle.pass_frames_proof.specs.pass_proofs.fetch.rules.Fetches.{AreUnfetched}
use Rattle.pass_frames_proof.specs.pass_renewed_proof.Renewed.{is_idle, renewed_act, renewed_step}
use Rattle.pass_frames_proof.specs.run_agreement.Machines.{IsFine}
use Rattle.pass_frames_proof.specs.run_source.Source.{context_of}
use Rattle.pass_frames_proof.specs.run_source.State.{work_of}
use Rattle.pass_frames_proof.specs.run_source.declared.state.State.{State}
use Rattle.pass_frames_proof.specs.run_step.Step.{AtInstr, AtTerm, Fetched, Nowhere, Stuck, action_of, fetch}

same_name : (p q : ℕ) → Some p ≡ Some q → p ≡ q
same_name p q e = cc

unfetched_or_not : (t : List (Option Fetch)) (os : List Operand) → AreUnfetched t os ⊎ (AreUnfetched t os → ⊥)
unfetched_or_not t [] = inl tt
unfetched_or_not t (a ∷ os) = on (fetch_of t a) refl (unfetched_or_not t os)
  where
    on : (q : Option Fetch) → fetch_of t a ≡ q → AreUnfetched t os ⊎ (AreUnfetched t os → ⊥)
        → AreUnfetched t (a ∷ os) ⊎ (AreUnfetched t (a ∷ os) → ⊥)
    on None e (inl h) = inl (e, h)
    on None e (inr some) = inr (λ z. some z.1)
    on (Some y) e rest = inr (λ z. let both : Some y ≡ None = sym e ∙ z.0 in absurd (cc))

module _ (c : Setting) (all : KeepsAll c) (s t : State) (r : AreBuiltOf c.b s t) (k : AreOfRuns c s t r)
    (runs : s.outcome ≡ Outcome.Running) (fine : IsFine (renewed_step c.g s).outcome)
    (coroutine : is_coroutine c.b s.top.func ≡ true) (mode : IsNotEntering s.top.mode) (o : MayFollow c s)
    (enters : EntersCoroutines c s t) (others : AreOthersFollowed c s t) where
  abbrev x : Framing
  x = c.b.framing s.top.func

  abbrev Follows : Type 0
  Follows = IsFollowed c.b c.g s t

  abbrev Stands : Instr → Type 0
  Stands i = fetch (function_at c.g.given.code s.top.func) s.top.block s.top.at ≡ AtInstr i

  is : IsFraming x
  is = all.given.framings s.top.func coroutine

  plain : (i : Instr) → is_access i ≡ false → IsUnlocatedHere c s i
  plain i e = unaccessed x (state_in x s.top.block s.top.at) i e

  undistanced : (i : Instr) → Stands i → IsNoGep i → (q : ℕ) → result_of i ≡ Some q → entry (plan x).cells q ≡ None
  undistanced i there no_gep q e = no_distance x is s.top.block s.top.at i
      (instr_in x (function_at c.g.given.code s.top.func) (all.given.coroutines s.top.func coroutine) s.top.block
      s.top.at i there) q e no_gep

  quiet : (i : Instr) → Stands i → IsCommon i → LeavesMemory (context_of c.g.given s) i → IsNoGep i
      → is_access i ≡ false → Follows
  quiet i there common leaves no_gep unaccessing =
      quiet_followed c all s t r k runs fine coroutine mode o i there common leaves (plain i unaccessing)
      (undistanced i there no_gep)

  -- behind begin no access goes by a cell's address, nor does one of another slot
  accesses : (i : Instr) → Stands i → is_access i ≡ true → IsUnlocatedHere c s i ⊎ Follows
  accesses i there access = on (is_ahead (state_in x s.top.block s.top.at)) refl
    where
      by : is_ahead (state_in x s.top.block s.top.at) ≡ true
          → AreUnfetched (copies x).fetches (instr_operands (loaded x (state_in x s.top.block s.top.at) i))
          ⊎ (AreUnfetched (copies x).fetches (instr_operands (loaded x (state_in x s.top.block s.top.at) i)) → ⊥)
          → IsUnlocatedHere c s i ⊎ Follows
      by e (inl h) = inl (unused_unlocated x (state_in x s.top.block s.top.at) i h)
      by e (inr some) = inr (others.located i there access e some)

      on : (b : Bool) → is_ahead (state_in x s.top.block s.top.at) ≡ b → IsUnlocatedHere c s i ⊎ Follows
      on false e = inl (begun_unlocated x (state_in x s.top.block s.top.at) i e)
      on true e = by e (unfetched_or_not (copies x).fetches
          (instr_operands (loaded x (state_in x s.top.block s.top.at) i)))

  loads : (r : ℕ) (ty : Ty) (p : Operand) (align : ℕ) → Stands (Instr.Load r ty p align) → Follows
  loads r' ty p align there = on (accesses (Instr.Load r' ty p align) there refl)
    where
      on : IsUnlocatedHere c s (Instr.Load r' ty p align) ⊎ Follows → Follows
      on (inl u) = quiet_followed c all s t r k runs fine coroutine mode o (Instr.Load r' ty p align) there tt tt u
          (undistanced (Instr.Load r' ty p align) there tt)
      on (inr f) = f

  stores : (arg : Arg) (p : Operand) (align : ℕ) → Stands (Instr.Store arg p align) → Follows
  stores arg p align there = on (accesses (Instr.Store arg p align) there refl)
    where
      on : IsUnlocatedHere c s (Instr.Store arg p align) ⊎ Follows → Follows
      on (inl u) = store_followed c all s t r k runs fine coroutine mode o arg p align there u
      on (inr f) = f

  geps : (q : ℕ) (inbounds : Bool) (ty : Ty) (base : Operand) (indices : List Arg)
      → Stands (Instr.Gep q inbounds ty base indices) → Follows
  geps q inbounds ty base indices there = on (entry (plan x).cells q) refl
    where
      on : (z : Option ℕ) → entry (plan x).cells q ≡ z → Follows
      on None e = quiet_followed c all s t r k runs fine coroutine mode o (Instr.Gep q inbounds ty base indices) there
          tt tt (plain (Instr.Gep q inbounds ty base indices) refl)
          (λ p d. subst (λ (j : ℕ). entry (plan x).cells j ≡ None) (same_name q p d) e)
      on (Some cell) e = others.measured q inbounds ty base indices cell there e

  module _ (result : Option ℕ) (must_tail : Bool) (ty : Option Ty) (args : List Arg) where
    asks : (y : Intrinsic) → IsAsking y → Stands (Instr.Call result must_tail ty (Callee.Intrinsic y) args) → Follows
    asks y asking there =
        asking_followed c all s t r k runs fine coroutine mode o result must_tail ty args y asking there

    memcpys : (y : Intrinsic) → IsCopying y
        → is_access (Instr.Call result must_tail ty (Callee.Intrinsic y) args) ≡ true
        → Stands (Instr.Call result must_tail ty (Callee.Intrinsic y) args) → Follows
    memcpys y copying is_one there =
        on (accesses (Instr.Call result must_tail ty (Callee.Intrinsic y) args) there is_one)
      where
        on : IsUnlocatedHere c s (Instr.Call result must_tail ty (Callee.Intrinsic y) args) ⊎ Follows → Follows
        on (inl u) =
            copying_followed c all s t r k runs fine coroutine mode o result must_tail ty args y copying there u
        on (inr f) = f

    intrinsics : (y : Intrinsic) → Stands (Instr.Call result must_tail ty (Callee.Intrinsic y) args) → Follows
    intrinsics Intrinsic.MemcpyI64 there = memcpys Intrinsic.MemcpyI64 tt refl there
    intrinsics Intrinsic.MemcpyI32 there = memcpys Intrinsic.MemcpyI32 tt refl there
    intrinsics Intrinsic.LifetimeStart there = marker_at c all s t r k runs coroutine mode true (others.marks r true)
        result must_tail ty args there
    intrinsics Intrinsic.LifetimeEnd there = marker_at c all s t r k runs coroutine mode false (others.marks r false)
        result must_tail ty args there
    intrinsics Intrinsic.CoroDone there = asks Intrinsic.CoroDone tt there
    intrinsics Intrinsic.CoroPromise there = asks Intrinsic.CoroPromise tt there
    intrinsics Intrinsic.CoroResume there =
        enters.wakes Intrinsic.CoroResume (inl refl) result must_tail ty args there
    intrinsics Intrinsic.CoroDestroy there =
        enters.wakes Intrinsic.CoroDestroy (inr refl) result must_tail ty args there
    intrinsics Intrinsic.CoroId there = others.intrinsics Intrinsic.CoroId tt result must_tail ty args there
    intrinsics Intrinsic.CoroSizeI32 there = asks Intrinsic.CoroSizeI32 tt there
    intrinsics Intrinsic.CoroSizeI64 there = asks Intrinsic.CoroSizeI64 tt there
    intrinsics Intrinsic.CoroAlignI32 there = asks Intrinsic.CoroAlignI32 tt there
    intrinsics Intrinsic.CoroAlignI64 there = asks Intrinsic.CoroAlignI64 tt there
    intrinsics Intrinsic.CoroAlloc there = asks Intrinsic.CoroAlloc tt there
    intrinsics Intrinsic.CoroBegin there = others.intrinsics Intrinsic.CoroBegin tt result must_tail ty args there
    intrinsics Intrinsic.CoroFree there =
        free_followed c all s t r k runs fine coroutine mode o result must_tail ty args there
    intrinsics Intrinsic.CoroFrame there = asks Intrinsic.CoroFrame tt there
    intrinsics Intrinsic.CoroSave there = others.intrinsics Intrinsic.CoroSave tt result must_tail ty args there
    intrinsics Intrinsic.CoroSuspend there =
        suspend_at c all s t r k runs coroutine mode result must_tail ty args
        (others.suspends result must_tail ty args there) there
    intrinsics Intrinsic.CoroEnd there =
        end_followed c all s t r k runs fine coroutine mode o (others.end_calls result must_tail ty args there) result
        must_tail ty args there

    called : (callee : Callee) → Stands (Instr.Call result must_tail ty callee args) → Follows
    called (Callee.Named n) there =
        named_followed c all s t r k runs fine coroutine mode o enters result must_tail ty args n there
    called (Callee.Local v) there =
        absurd (called_by_name c.g.given.code s.top.func (function_at c.g.given.code s.top.func)
        (all.rules s.top.func (function_at c.g.given.code s.top.func)
        (function_there c.g.given.code s.top.func s.top.block s.top.at
        (Instr.Call result must_tail ty (Callee.Local v) args) there)) s.top.block s.top.at result must_tail ty args v
        there)
    called (Callee.Allocator a) there =
        allocator_followed c all s t r k runs fine coroutine mode o result must_tail ty args a there
    called (Callee.Intrinsic y) there = intrinsics y there

  -- ---- all of them

  pub coroutines_followed : Follows
  coroutines_followed = by (fetch (function_at c.g.given.code s.top.func) s.top.block s.top.at) refl
    where
      stops : (y : Fetched) → fetch (function_at c.g.given.code s.top.func) s.top.block s.top.at ≡ y
          → is_idle (c.g.flags s.top.func) y ≡ false
          → action_of (context_of c.g.given s) (work_of s) y
          ≡ Stuck Cause.Unreachable → Follows
      stops y e awake stuck =
          let z = next_is c all s t r k runs fine coroutine mode o y e awake in
          absurd (no_ok Cause.Unreachable z.after
          (sym (ap (renewed_act c.g s) stuck) ∙ z.acts))

      by : (y : Fetched) → fetch (function_at c.g.given.code s.top.func) s.top.block s.top.at ≡ y → Follows
      by Nowhere e = stops Nowhere e refl refl
      by (AtTerm (Terminator.Jump label)) e = others.ends (Terminator.Jump label) tt e
      by (AtTerm (Terminator.Branch y a b)) e = others.ends (Terminator.Branch y a b) tt e
      by (AtTerm (Terminator.Switch arg default cases)) e = others.ends (Terminator.Switch arg default cases) tt e
      by (AtTerm (Terminator.Ret arg)) e = others.ends (Terminator.Ret arg) tt e
      by (AtTerm Terminator.Unreachable) e = stops (AtTerm Terminator.Unreachable) e refl refl
      by (AtInstr (Instr.Binary name op flags ty a b)) e =
          quiet (Instr.Binary name op flags ty a b) e tt tt tt refl
      by (AtInstr (Instr.Icmp name pred ty a b)) e = quiet (Instr.Icmp name pred ty a b) e tt tt tt refl
      by (AtInstr (Instr.Select name y a b)) e = quiet (Instr.Select name y a b) e tt tt tt refl
      by (AtInstr (Instr.Cast name op nneg arg to)) e = quiet (Instr.Cast name op nneg arg to) e tt tt tt refl
      by (AtInstr (Instr.Alloca name ty align)) e = others.allocas name ty align e
      by (AtInstr (Instr.Load name ty p align)) e = loads name ty p align e
      by (AtInstr (Instr.Store arg p align)) e = stores arg p align e
      by (AtInstr (Instr.Gep name inbounds ty base indices)) e = geps name inbounds ty base indices e
      by (AtInstr (Instr.Call result must_tail ty callee args)) e = called result must_tail ty args callee e
