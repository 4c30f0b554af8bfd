-- Ordinary steps: what stands in the framed form for an instruction does the same over the related memory, and keeps
-- the cells.
use Rattle.std.specs.Prelude.{◌≡◌, ◌<◌, ◌≤◌, ℕ, Bool, List, ◌∷◌, ◌++◌, length, Some, None, Option}
use Rattle.std.specs.List.{Contains}
use Rattle.pass_proofs.specs.ir_model.Names.{function_named}
use Rattle.pass_proofs.specs.ir_model.Ty.{Ty}
use Rattle.pass_proofs.specs.ir_model.declared.instr.Instr.{Instr}
use Rattle.pass_proofs.specs.ir_model.declared.operand.Callee.{Callee}
use Rattle.pass_proofs.specs.ir_model.declared.operand.Operand.{Operand}
use Rattle.pass_proofs.specs.ir_parts.Contents.{instr_operands, result_of}
use Rattle.pass_proofs.specs.pass_cells.Cells.{fetches_of}
use Rattle.pass_proofs.specs.pass_cells.Kept.{entry}
use Rattle.pass_proofs.specs.pass_cells.Written.{stored_result}
use Rattle.pass_proofs.specs.pass_cells.declared.plan.KeptValue.{KeptValue}
use Rattle.pass_proofs.specs.pass_fetch.Fetching.{fetches_of_all, next_after_all}
use Rattle.pass_proofs.specs.pass_fetch.Instrs.{with_fetched}
use Rattle.pass_proofs.specs.pass_fetch.declared.fetch.Fetch.{Fetch}
use Rattle.pass_frames_code.specs.Distances.{IsBelow, SetsFrom}
use Rattle.pass_frames_code.specs.Fetched.{AreSeenAs, CanFetch, seen_of}
use Rattle.pass_frames_code.specs.Lines.{HasOwnBlocks, IsCellOf, IsNoRoot, IsStorable, at_work}
use Rattle.pass_frames_code.specs.Places.{Framing, edged, named, plan}
use Rattle.pass_frames_code.specs.Related.{AreCellsRight, IsFreeOf, IsKeptValue}
use Rattle.pass_proofs.specs.run_laws.access.Lines.{Runs}
use Rattle.pass_proofs.specs.run_laws.changed.Changed.{Each, callee_at}
use Rattle.pass_proofs.specs.run_laws.embedded.Related.{HasBytes, HasNoSlot}
use Rattle.pass_proofs.specs.run_laws.memory.Pointers.{Home, IsValue}
use Rattle.pass_proofs.specs.run_laws.transfer.Transfer.{AreJoined, AreOver, AreSameDistances, GoesOver, IsNamedAlike, IsPointedAlike, Maps, args_at, given_at, same_maps}
use Rattle.pass_proofs.specs.run_memory.declared.pointer.Value.{Value}
use Rattle.pass_proofs.specs.run_source.declared.state.Activation.{Activation}
use Rattle.pass_proofs.specs.run_step.Step.{AtInstr, Context, Done, Work, instr_action}
use Rattle.pass_proofs.specs.run_step.Values.{operand_value, value_in}
use Rattle.pass_proofs.specs.run_step.declared.world.Slot.{Slot}

-- ---- over fetched operands

-- what is seen of an operand stands for what it is in the source
abbrev pub IsSeenFor : List Home → List (Option Fetch) → (ℕ → Value) → (c d : Context) → (w y : Work) → Operand → Type 0
IsSeenFor homes t given c d w y a =
    (ty : Ty) → IsValue homes (operand_value c.code w.values ty a) (seen_of t given d y ty a)

-- what is asked of an instruction whose operands are fetched, and of the works
pub record MayBeMade (homes : List Home) (hides : ℕ → Bool) (maps : Maps) (t : List (Option Fetch)) (given : ℕ → Value)
    (c d : Context) (w y : Work) (n : ℕ) (i : Instr) : Type 0 where
  pub joined : AreJoined homes hides maps c d w y
  pub can : Each (CanFetch t given n d y) (instr_operands i)
  pub below : Each (IsBelow n) (instr_operands i)
  pub room : next_after_all t n (instr_operands i) ≤ length y.values
  pub seen : Each (IsSeenFor homes t given c d w y) (instr_operands i)
  pub callee : IsNamedAlike maps c d (callee_at (AtInstr i))
  pub pointed : IsPointedAlike maps c d w.values (AtInstr i)
  pub distance : (z : Work) → SetsFrom n y z → AreSeenAs t given d y z n (instr_operands i)
      → AreSameDistances c d w.values z.values (AtInstr i) (AtInstr (with_fetched t n i))
  pub no_slot : HasNoSlot (AtInstr i)
  pub bytes : HasBytes (AtInstr i)

-- operands are fetched, and then the instruction does the same
pub record IsMade (homes : List Home) (hides : ℕ → Bool) (maps : Maps) (t : List (Option Fetch)) (c d : Context)
    (w y : Work) (n : ℕ) (i : Instr) : Type 0 where
  pub work : Work
  pub runs : Runs d (fetches_of_all t n (instr_operands i)) y work
  pub sets : SetsFrom n y work
  pub goes : GoesOver c.rights d.rights homes hides maps (given_at (AtInstr i)) (args_at (AtInstr i))
      (args_at (AtInstr (with_fetched t n i))) w work (instr_action c w i) (instr_action d work (with_fetched t n i))

-- ---- arithmetic, loads, and calls of outside functions

-- the instruction changes no memory, and makes no address from another one
abbrev pub IsQuiet : Context → Instr → Type 0
IsQuiet c (Instr.Binary r op flags ty a b) = Unit {0}
IsQuiet c (Instr.Icmp r pred ty a b) = Unit {0}
IsQuiet c (Instr.Select r x a b) = Unit {0}
IsQuiet c (Instr.Cast r op nneg a to) = Unit {0}
IsQuiet c (Instr.Load r ty p align) = Unit {0}
IsQuiet c (Instr.Call r must_tail ty (Callee.Named name) args) = function_named c.code name ≡ None
IsQuiet c _ = ⊥

-- an operand that is kept in no cell stands for what it is in the source
abbrev pub StandsUnkept : Framing → List Home → (c d : Context) → (w y : Work) → Operand → Type 0
StandsUnkept x homes c d w y (Operand.Local v) =
    entry (plan x).places v ≡ None → IsValue homes (value_in w.values v) (value_in y.values v)
StandsUnkept x homes c d w y a =
    (ty : Ty) → IsValue homes (operand_value c.code w.values ty a) (operand_value d.code y.values ty a)

-- the name that is set is one of the coroutine's, and no distance goes on from it
pub record IsResultName (x : Framing) (r : ℕ) : Type 0 where
  pub low : r < length (edged x).names
  pub no_root : IsNoRoot x r

-- nor has it a cell of a distance
pub record IsPlainName (x : Framing) (r : ℕ) : Type 0 where
  pub name : IsResultName x r
  pub no_distance : entry (plan x).cells r ≡ None

-- what is asked of the works, and of the operands of an instruction
pub record MayFetch (x : Framing) (homes : List Home) (hides : ℕ → Bool) (c d : Context) (w y : Work) (a : Activation)
    (n : ℕ) (i : Instr) : Type 0 where
  pub joined : AreJoined homes hides same_maps c d w y
  pub cells : AreCellsRight x homes d.rights y.world.memory w.values (at_work a y)
  pub free : (slot : Slot) → Contains a.slots slot → IsCellOf x slot.alloca
      → IsFreeOf homes hides w.world.memory slot.block
  pub own : HasOwnBlocks a
  pub low : length (named x).names ≤ n
  pub below : Each (IsBelow n) (instr_operands i)
  pub room : next_after_all (fetches_of (plan x)) n (instr_operands i) ≤ length y.values
  pub stands : Each (StandsUnkept x homes c d w y) (instr_operands i)
  pub callee : IsNamedAlike same_maps c d (callee_at (AtInstr i))
  pub bytes : HasBytes (AtInstr i)
  pub storable : (v : Work) → instr_action c w i ≡ Done v → (r : ℕ) (k : KeptValue) → result_of i ≡ Some r
      → IsKeptValue x r k → IsStorable k.ty (value_in v.values r)

-- and of its result
pub record MayStep (x : Framing) (homes : List Home) (hides : ℕ → Bool) (c d : Context) (w y : Work) (a : Activation)
    (n : ℕ) (i : Instr) : Type 0 where
  pub operands : MayFetch x homes hides c d w y a n i
  pub result : (r : ℕ) → result_of i ≡ Some r → IsPlainName x r

-- operands are loaded, the instruction is executed, and what stands behind it is: the relation holds there
pub record StepsBy (x : Framing) (homes : List Home) (hides : ℕ → Bool) (c d : Context) (y v : Work) (a : Activation)
    (n : ℕ) (i : Instr) (behind : List Instr) : Type 0 where
  pub work : Work
  pub runs : Runs d
      (fetches_of_all (fetches_of (plan x)) n (instr_operands i)
      ++ (with_fetched (fetches_of (plan x)) n i ∷ behind)) y work
  pub over : AreOver c.rights d.rights homes hides (λ k. k) v.world work.world
  pub cells : AreCellsRight x homes d.rights work.world.memory v.values (at_work a work)
  pub set : (r : ℕ) → result_of i ≡ Some r → IsValue homes (value_in v.values r) (value_in work.values r)
  pub others : (u : ℕ) → u < n → (result_of i ≡ Some u → ⊥) → value_in work.values u ≡ value_in y.values u
  pub room : length work.values ≡ length y.values

-- behind it its result is stored
abbrev pub Steps : Framing → List Home → (ℕ → Bool) → (c d : Context) → (y v : Work) → Activation → ℕ → Instr → Type 0
Steps x homes hides c d y v a n i = StepsBy x homes hides c d y v a n i (stored_result (plan x) (result_of i))
