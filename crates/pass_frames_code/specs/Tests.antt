-- Instructions that pass a test, and passes that leave each of them in its place and put in no other.
use Rattle.std.specs.Prelude.{◌≡◌, Bool, true, false, List, Some, None, Option}
use Rattle.pass_proofs.specs.ir_model.declared.instr.Instr.{Instr}
use Rattle.pass_proofs.specs.ir_model.declared.operand.Intrinsic.{Intrinsic}
use Rattle.pass_frames_code.specs.Layers.{Layer}
use Rattle.pass_proofs.specs.run_laws.changed.Changed.{Each}

abbrev pub AllFail : (Instr → Bool) → List Instr → Type 0
AllFail test is = Each (λ (j : Instr). test j ≡ false) is

-- what stands in the place of an instruction passes where the instruction does; one that passes doesn't go
abbrev pub PassesLike : (Instr → Bool) → Instr → Option Instr → Type 0
PassesLike test i None = test i ≡ false
PassesLike test i (Some j) = test j ≡ test i

pub record KeepsTest {S : Type 0} (test : Instr → Bool) (L : Layer S) : Type 0 where
  pub front : AllFail test L.front
  pub before : (s : S) (i : Instr) → AllFail test (L.before s i)
  pub here : (s : S) (i : Instr) → PassesLike test i (L.here s i)
  pub behind : (s : S) (i : Instr) → AllFail test (L.behind s i)
  pub back : (s : S) → AllFail test (L.back s)

-- the intrinsics of which no pass puts in a call or takes one away: all but copies and markers
abbrev pub is_steady : Intrinsic → Bool
is_steady Intrinsic.MemcpyI64 = false
is_steady Intrinsic.MemcpyI32 = false
is_steady Intrinsic.LifetimeStart = false
is_steady Intrinsic.LifetimeEnd = false
is_steady _ = true
