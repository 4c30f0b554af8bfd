-- Each instruction's step is of a known kind.
use Rattle.std.proofs.Common.{◌≡◌, ◌⊎◌, ℕ, Bool, true, List, Option, inl, inr, refl}
use Rattle.pass_elide_known.proofs.Apart.{freeing_known, waiting_known}
use Rattle.pass_elide_known.proofs.Asides.{aside_known}
use Rattle.pass_elide_known.proofs.Besides.{alloca_known, comparison_known, deallocation_known}
use Rattle.pass_elide_known.proofs.Coroutines.{own_known}
use Rattle.pass_elide_known.proofs.Fronting.{known_there}
use Rattle.pass_elide_known.proofs.ReadyPlaces.{allocator_ready, look_ready, marker_ready, named_ready, ordinary_ready, pointed_ready, waking_ready}
use Rattle.pass_elide_known.specs.Keeping.{KeepsMore}
use Rattle.pass_elide_known.specs.States.{IsKnownFramed, IsKnownGiving, IsReadyGiving}
use Rattle.pass_elide_proof.specs.Calling.{AreReady}
use Rattle.pass_elide_proof.specs.Elision.{Elision, framed, function_in, rooms}
use Rattle.pass_elide_proof.specs.Match.{Aside, Beside, Freeing, IsAt, Waiting, sides, was_given}
use Rattle.pass_elide_proof.specs.Places.{front_at}
use Rattle.pass_elide_proof.specs.Placing.{KeepsPlaces, is_own}
use Rattle.pass_elide_proof.specs.Statement.{AreRelated}
use Rattle.pass_elide_proof.specs.Stepping.{IsKnownStep, IsReadyFor}
use Rattle.pass_elide_proof.specs.pass_proofs.ir_base.declared.outcome.Outcome.{Outcome}
use Rattle.pass_elide_proof.specs.pass_proofs.ir_model.Ty.{Ty}
use Rattle.pass_elide_proof.specs.pass_proofs.ir_model.declared.instr.Instr.{Instr}
use Rattle.pass_elide_proof.specs.pass_proofs.ir_model.declared.operand.Allocator.{Allocator}
use Rattle.pass_elide_proof.specs.pass_proofs.ir_model.declared.operand.Arg.{Arg}
use Rattle.pass_elide_proof.specs.pass_proofs.ir_model.declared.operand.Callee.{Callee}
use Rattle.pass_elide_proof.specs.pass_proofs.ir_model.declared.operand.Intrinsic.{Intrinsic}
use Rattle.pass_elide_proof.specs.pass_proofs.run_agreement.Machines.{IsFine}
use Rattle.pass_elide_proof.specs.pass_proofs.run_framed.Framed.{framed_step}
use Rattle.pass_elide_proof.specs.pass_proofs.run_source.State.{function_of}
use Rattle.pass_elide_proof.specs.pass_proofs.run_source.declared.state.State.{State}
use Rattle.pass_elide_proof.specs.pass_proofs.run_step.Step.{AtInstr, fetch}

module _ (e : Elision) (keeps : KeepsPlaces e) (more : KeepsMore e) (s t : State) (r : AreRelated e s t)
    (known : IsKnownFramed e s) (giving : IsKnownGiving e t) (runs : s.outcome ≡ Outcome.Running)
    (fine : IsFine (framed_step (framed e) s).outcome) where
  -- ---- where both stand beside each other

  module _ (block : t.top.block ≡ s.top.block)
      (stands : t.top.at ≡ front_at (rooms e s.top.func) (function_in e s.top.func) s.top.block s.top.at) where
    -- what is put in front is executed before
    behind : (i : Instr) → fetch (function_of (framed e).given s) s.top.block s.top.at ≡ AtInstr i
        → ((u : State) (ready : AreReady e s u) → IsReadyGiving e s u → IsReadyFor e s u ready)
        → IsKnownStep e s t r.beside
    behind i there place = known_there e keeps more s t r known giving runs i there block stands place

    allocator_known : (a : Allocator) (result : Option ℕ) (must_tail : Bool) (ty : Option Ty) (args : List Arg)
        → fetch (function_of (framed e).given s) s.top.block s.top.at
        ≡ AtInstr (Instr.Call result must_tail ty (Callee.Allocator a) args) → IsKnownStep e s t r.beside
    allocator_known Allocator.Malloc result must_tail ty args there =
        behind (Instr.Call result must_tail ty (Callee.Allocator Allocator.Malloc) args) there (λ u ready here.
        allocator_ready e keeps s known runs fine u ready here Allocator.Malloc result must_tail ty args there refl)
    allocator_known Allocator.Znwm result must_tail ty args there =
        behind (Instr.Call result must_tail ty (Callee.Allocator Allocator.Znwm) args) there (λ u ready here.
        allocator_ready e keeps s known runs fine u ready here Allocator.Znwm result must_tail ty args there refl)
    allocator_known Allocator.Free result must_tail ty args there =
        deallocation_known e keeps more s t r known giving runs fine block stands Allocator.Free result must_tail ty
        args refl there
    allocator_known Allocator.ZdlPv result must_tail ty args there =
        deallocation_known e keeps more s t r known giving runs fine block stands Allocator.ZdlPv result must_tail ty
        args refl there
    allocator_known Allocator.ZdlPvm result must_tail ty args there =
        deallocation_known e keeps more s t r known giving runs fine block stands Allocator.ZdlPvm result must_tail ty
        args refl there

    module _ (result : Option ℕ) (must_tail : Bool) (ty : Option Ty) (args : List Arg) where
      -- the framed run's activation stands at the intrinsic
      abbrev At : Intrinsic → Type 0
      At j =
          fetch (function_of (framed e).given s) s.top.block s.top.at
          ≡ AtInstr (Instr.Call result must_tail ty (Callee.Intrinsic j) args)

      marks : (j : Intrinsic) → At j → (j ≡ Intrinsic.LifetimeStart) ⊎ (j ≡ Intrinsic.LifetimeEnd)
          → IsKnownStep e s t r.beside
      marks j there is =
          behind (Instr.Call result must_tail ty (Callee.Intrinsic j) args) there (λ u ready here.
          marker_ready e keeps s known runs fine u ready here j result must_tail ty args there is)

      looks : (j : Intrinsic) → At j → (j ≡ Intrinsic.CoroDone) ⊎ (j ≡ Intrinsic.CoroPromise)
          → IsKnownStep e s t r.beside
      looks j there is =
          behind (Instr.Call result must_tail ty (Callee.Intrinsic j) args) there (λ u ready here.
          look_ready e keeps s known runs fine u ready here result must_tail ty args j there is)

      wakes : (j : Intrinsic) → At j → (j ≡ Intrinsic.CoroResume) ⊎ (j ≡ Intrinsic.CoroDestroy)
          → IsKnownStep e s t r.beside
      wakes j there is =
          behind (Instr.Call result must_tail ty (Callee.Intrinsic j) args) there (λ u ready here.
          waking_ready e keeps s known runs fine u ready here result must_tail ty args j there is)

      own : (j : Intrinsic) → At j → is_own j ≡ true → IsKnownStep e s t r.beside
      own j there is =
          own_known e keeps more s t r known giving runs fine block stands result must_tail ty args j there is

      intrinsic_known : (j : Intrinsic) → At j → IsKnownStep e s t r.beside
      intrinsic_known Intrinsic.CoroId there = own Intrinsic.CoroId there refl
      intrinsic_known Intrinsic.CoroSizeI32 there = own Intrinsic.CoroSizeI32 there refl
      intrinsic_known Intrinsic.CoroSizeI64 there = own Intrinsic.CoroSizeI64 there refl
      intrinsic_known Intrinsic.CoroAlignI32 there = own Intrinsic.CoroAlignI32 there refl
      intrinsic_known Intrinsic.CoroAlignI64 there = own Intrinsic.CoroAlignI64 there refl
      intrinsic_known Intrinsic.CoroFrame there = own Intrinsic.CoroFrame there refl
      intrinsic_known Intrinsic.CoroAlloc there = own Intrinsic.CoroAlloc there refl
      intrinsic_known Intrinsic.CoroBegin there = own Intrinsic.CoroBegin there refl
      intrinsic_known Intrinsic.CoroFree there = own Intrinsic.CoroFree there refl
      intrinsic_known Intrinsic.CoroSave there = own Intrinsic.CoroSave there refl
      intrinsic_known Intrinsic.CoroSuspend there = own Intrinsic.CoroSuspend there refl
      intrinsic_known Intrinsic.CoroEnd there = own Intrinsic.CoroEnd there refl
      intrinsic_known Intrinsic.CoroResume there = wakes Intrinsic.CoroResume there (inl refl)
      intrinsic_known Intrinsic.CoroDestroy there = wakes Intrinsic.CoroDestroy there (inr refl)
      intrinsic_known Intrinsic.CoroDone there = looks Intrinsic.CoroDone there (inl refl)
      intrinsic_known Intrinsic.CoroPromise there = looks Intrinsic.CoroPromise there (inr refl)
      intrinsic_known Intrinsic.LifetimeStart there = marks Intrinsic.LifetimeStart there (inl refl)
      intrinsic_known Intrinsic.LifetimeEnd there = marks Intrinsic.LifetimeEnd there (inr refl)
      intrinsic_known Intrinsic.MemcpyI64 there =
          behind (Instr.Call result must_tail ty (Callee.Intrinsic Intrinsic.MemcpyI64) args) there (λ u ready here.
          ordinary_ready e keeps s known runs fine u ready here
          (Instr.Call result must_tail ty (Callee.Intrinsic Intrinsic.MemcpyI64) args) there refl (inl refl))
      intrinsic_known Intrinsic.MemcpyI32 there =
          behind (Instr.Call result must_tail ty (Callee.Intrinsic Intrinsic.MemcpyI32) args) there (λ u ready here.
          ordinary_ready e keeps s known runs fine u ready here
          (Instr.Call result must_tail ty (Callee.Intrinsic Intrinsic.MemcpyI32) args) there refl (inl refl))

    pub beside_known : (i : Instr) → fetch (function_of (framed e).given s) s.top.block s.top.at ≡ AtInstr i
        → IsKnownStep e s t r.beside
    beside_known (Instr.Binary name op flags ty a b) there =
        behind (Instr.Binary name op flags ty a b) there (λ u ready here.
        ordinary_ready e keeps s known runs fine u ready here (Instr.Binary name op flags ty a b) there refl (inl refl))
    beside_known (Instr.Icmp name pred ty a b) there =
        comparison_known e keeps more s t r known giving runs fine block stands name pred ty a b there
    beside_known (Instr.Select name x a b) there =
        behind (Instr.Select name x a b) there (λ u ready here.
        ordinary_ready e keeps s known runs fine u ready here (Instr.Select name x a b) there refl (inl refl))
    beside_known (Instr.Cast name op nneg arg to) there =
        behind (Instr.Cast name op nneg arg to) there (λ u ready here.
        ordinary_ready e keeps s known runs fine u ready here (Instr.Cast name op nneg arg to) there refl (inl refl))
    beside_known (Instr.Alloca name ty align) there =
        alloca_known e keeps more s t r known giving runs fine block stands name ty align there
    beside_known (Instr.Load name ty p align) there =
        behind (Instr.Load name ty p align) there (λ u ready here.
        ordinary_ready e keeps s known runs fine u ready here (Instr.Load name ty p align) there refl (inl refl))
    beside_known (Instr.Store arg p align) there =
        behind (Instr.Store arg p align) there (λ u ready here.
        ordinary_ready e keeps s known runs fine u ready here (Instr.Store arg p align) there refl (inl refl))
    beside_known (Instr.Gep name inbounds ty base indices) there =
        behind (Instr.Gep name inbounds ty base indices) there (λ u ready here.
        ordinary_ready e keeps s known runs fine u ready here (Instr.Gep name inbounds ty base indices) there refl
        (inl refl))
    beside_known (Instr.Call result must_tail ty (Callee.Named n) args) there =
        behind (Instr.Call result must_tail ty (Callee.Named n) args) there (λ u ready here.
        named_ready e keeps s known runs fine u ready here result must_tail ty n args there)
    beside_known (Instr.Call result must_tail ty (Callee.Local v) args) there =
        behind (Instr.Call result must_tail ty (Callee.Local v) args) there (λ u ready here.
        pointed_ready e keeps s known runs fine u ready here result must_tail ty v args there)
    beside_known (Instr.Call result must_tail ty (Callee.Allocator a) args) there =
        allocator_known a result must_tail ty args there
    beside_known (Instr.Call result must_tail ty (Callee.Intrinsic j) args) there =
        intrinsic_known result must_tail ty args j there

  -- ---- all places

  module _ (i : Instr) (there : fetch (function_of (framed e).given s) s.top.block s.top.at ≡ AtInstr i) where
    by_place : IsAt e r.beside.homes (was_given (sides s t) t.top) s.top t.top → IsKnownStep e s t r.beside
    by_place (Beside block stands) = beside_known block stands i there
    by_place (Waiting given waits stays) =
        IsKnownStep.Waiting (waiting_known e keeps s t known runs fine
        (record { runs = runs; given = given; waits = waits; stays = stays }) i there)
    by_place (Freeing given waits stays) =
        IsKnownStep.Waiting (freeing_known e keeps more s t r known giving runs fine given waits stays i there)
    by_place (Aside given aside level alike) =
        IsKnownStep.Going (aside_known e keeps more s t r known giving runs fine given aside level i there)

    pub instruction_known : IsKnownStep e s t r.beside
    instruction_known = by_place r.beside.top.place
