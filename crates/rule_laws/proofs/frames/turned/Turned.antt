-- Lemmas on turned, that speak of no pass.
use Rattle.std.proofs.Common.{◌≡◌, ℕ, ◌+◌, Bool, true, false, List, [], ◌∷◌, ◌++◌}
use Rattle.std.specs.Prelude.{None, Option, Some}
use Rattle.ir_laws.specs.ir_calls.Calls.{is_true}
use Rattle.pass_intrinsics.specs.Lowered.{done_test, destroy_call, lowered, names_taken, operand_at, promise_distance, resume_call, set_address}
use Rattle.pass_intrinsics.specs.declared.shape.Part.{Part}
use Rattle.pass_intrinsics.specs.declared.shape.Shape.{Shape}
use Rattle.ir_laws.specs.ir_model.Ty.{Ty}
use Rattle.ir_laws.specs.ir_model.declared.instr.Instr.{Instr}
use Rattle.ir_laws.specs.ir_model.declared.module.Block.{Block}
use Rattle.ir_laws.specs.ir_model.declared.operand.Arg.{Arg}
use Rattle.ir_laws.specs.ir_model.declared.operand.Callee.{Callee}
use Rattle.ir_laws.specs.ir_model.declared.operand.Intrinsic.{Intrinsic}
use Rattle.ir_laws.specs.run_laws.changed.Changed.{Each}
use Rattle.rule_laws.proofs.rules.turned.Turned.{IsOuter}

-- What an instruction becomes, with so many new names from n on.
pub data Becomes (n : ℕ) : Instr → List Instr → ℕ → Type 0 where
  Same : (i : Instr) → Becomes n i (i ∷ []) 0
  Resumed : (must_tail : Bool) (ty : Option Ty) (args : List Arg) → Becomes n (Instr.Call None must_tail ty (Callee.Intrinsic Intrinsic.CoroResume) args) (resume_call n (operand_at args 0)) 1
  Destroyed : (must_tail : Bool) (ty : Option Ty) (args : List Arg) → Becomes n (Instr.Call None must_tail ty (Callee.Intrinsic Intrinsic.CoroDestroy) args) (destroy_call n (operand_at args 0)) 2
  Tested : (r : Option ℕ) (must_tail : Bool) (ty : Option Ty) (args : List Arg) → Becomes n (Instr.Call r must_tail ty (Callee.Intrinsic Intrinsic.CoroDone) args) (done_test n r (operand_at args 0)) 1
  Promised : (r : Option ℕ) (must_tail : Bool) (ty : Option Ty) (args : List Arg) → Becomes n (Instr.Call r must_tail ty (Callee.Intrinsic Intrinsic.CoroPromise) args) (set_address r (operand_at args 0) (promise_distance (is_true (operand_at args 2)))) 0

called : (s : Shape) (n : ℕ) (x : Intrinsic) (r : Option ℕ) (must_tail : Bool) (ty : Option Ty) (args : List Arg) → IsOuter (Instr.Call r must_tail ty (Callee.Intrinsic x) args)
    → Becomes n (Instr.Call r must_tail ty (Callee.Intrinsic x) args) (lowered s Part.Ramp n (Instr.Call r must_tail ty (Callee.Intrinsic x) args)) (names_taken (Instr.Call r must_tail ty (Callee.Intrinsic x) args))
called s n Intrinsic.CoroResume None must_tail ty args o = Resumed must_tail ty args
called s n Intrinsic.CoroResume (Some r) must_tail ty args o = let bad : false ≡ true = o.1 in absurd (cc)
called s n Intrinsic.CoroDestroy None must_tail ty args o = Destroyed must_tail ty args
called s n Intrinsic.CoroDestroy (Some r) must_tail ty args o = let bad : false ≡ true = o.1 in absurd (cc)
called s n Intrinsic.CoroDone r must_tail ty args o = Tested r must_tail ty args
called s n Intrinsic.CoroPromise r must_tail ty args o = Promised r must_tail ty args
called s n Intrinsic.CoroSizeI32 r must_tail ty args o = let bad : false ≡ true = o.0 in absurd (cc)
called s n Intrinsic.CoroSizeI64 r must_tail ty args o = let bad : false ≡ true = o.0 in absurd (cc)
called s n Intrinsic.CoroAlignI32 r must_tail ty args o = let bad : false ≡ true = o.0 in absurd (cc)
called s n Intrinsic.CoroAlignI64 r must_tail ty args o = let bad : false ≡ true = o.0 in absurd (cc)
called s n Intrinsic.CoroAlloc r must_tail ty args o = let bad : false ≡ true = o.0 in absurd (cc)
called s n Intrinsic.CoroBegin r must_tail ty args o = let bad : false ≡ true = o.0 in absurd (cc)
called s n Intrinsic.CoroFree r must_tail ty args o = let bad : false ≡ true = o.0 in absurd (cc)
called s n Intrinsic.CoroFrame r must_tail ty args o = let bad : false ≡ true = o.0 in absurd (cc)
called s n Intrinsic.CoroSave r must_tail ty args o = let bad : false ≡ true = o.0 in absurd (cc)
called s n Intrinsic.CoroSuspend r must_tail ty args o = let bad : false ≡ true = o.0 in absurd (cc)
called s n Intrinsic.CoroEnd r must_tail ty args o = let bad : false ≡ true = o.0 in absurd (cc)
called s n x r must_tail ty args o = Same (Instr.Call r must_tail ty (Callee.Intrinsic x) args)

pub becomes : (s : Shape) (n : ℕ) (i : Instr) → IsOuter i → Becomes n i (lowered s Part.Ramp n i) (names_taken i)
becomes s n (Instr.Call r must_tail ty (Callee.Intrinsic x) args) o = called s n x r must_tail ty args o
becomes s n i o = Same i

-- ---- the instructions of a block

abbrev pub turned : Shape → ℕ → List Instr → List Instr
turned s n [] = []
turned s n (i ∷ is) = lowered s Part.Ramp n i ++ turned s (n + names_taken i) is

abbrev pub names_behind : ℕ → List Instr → ℕ
names_behind n [] = n
names_behind n (i ∷ is) = names_behind (n + names_taken i) is

-- ---- blocks

-- the block has the label, the phis and the terminator of the other, and its instructions, turned
pub record IsTurned (s : Shape) (n : ℕ) (b c : Block) : Type 0 where
  pub label : c.label ≡ b.label
  pub phis : c.phis ≡ b.phis
  pub instrs : c.instrs ≡ turned s n b.instrs
  pub term : c.term ≡ b.term
  pub outer : Each IsOuter b.instrs

pub data AreTurned (s : Shape) : ℕ → List Block → List Block → Type 0 where
  NoneTurned : (n : ℕ) → AreTurned s n [] []
  OneTurned : (n : ℕ) (b c : Block) (bs cs : List Block) → IsTurned s n b c → AreTurned s (names_behind n b.instrs) bs cs → AreTurned s n (b ∷ bs) (c ∷ cs)
