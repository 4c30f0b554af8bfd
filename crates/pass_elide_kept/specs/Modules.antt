-- What a framed module keeps beside its places, so that what is related stays related: names of begin, blocks that are
-- passed by, and ends.
use Rattle.std.specs.Prelude.{◌≡◌, ◌≢◌, ℕ, true, false, IsFalse, slice_get, Some}
use Rattle.elide_sites.specs.Destroyed.{IsOn, has_at, is_stop}
use Rattle.elide_sites.specs.declared.destroyed.Way.{Way}
use Rattle.pass_elide_proof.specs.CallersStack.{KeepAllHandles, ReturnsFrame}
use Rattle.pass_elide_proof.specs.Edges.{phis_at}
use Rattle.pass_elide_proof.specs.EdgesFreeing.{FreesFrame}
use Rattle.pass_elide_proof.specs.Elision.{Elision, function_in}
use Rattle.pass_elide_proof.specs.Places.{instrs_of}
use Rattle.pass_elide_proof.specs.Placing.{HasShape}
use Rattle.pass_elide_proof.specs.pass_proofs.flow_solver.Paths.{IsListed}
use Rattle.pass_elide_proof.specs.pass_proofs.ir_model.Names.{position_of}
use Rattle.pass_elide_proof.specs.pass_proofs.ir_model.declared.instr.Instr.{Instr}
use Rattle.pass_elide_proof.specs.pass_proofs.ir_model.declared.instr.Phi.{Phi}
use Rattle.pass_elide_proof.specs.pass_proofs.ir_model.declared.module.Block.{Block}
use Rattle.pass_elide_proof.specs.pass_proofs.ir_model.declared.module.Function.{Function}
use Rattle.pass_elide_proof.specs.pass_proofs.ir_model.declared.operand.Intrinsic.{Intrinsic}
use Rattle.pass_elide_proof.specs.pass_proofs.ir_parts.Contents.{result_of}
use Rattle.pass_elide_proof.specs.pass_proofs.ir_paths.Paths.{targets}
use Rattle.pass_elide_proof.specs.pass_proofs.ir_paths.Windows.{is_call_of}
use Rattle.pass_elide_proof.specs.pass_proofs.run_framed.Framed.{begin_name}
use Rattle.pass_elide_proof.specs.pass_proofs.run_laws.changed.Changed.{Each}

-- ---- begin's name

-- Begin's name is given by each call of coro.begin, and by nothing else.
pub record BeginsAlone (f : Function) : Type 0 where
  -- what gives it is a call of coro.begin
  pub alone : (block at v : ℕ) (i : Instr) → begin_name f ≡ Some v → slice_get (instrs_of f block) at ≡ Some i
      → result_of i ≡ Some v → is_call_of Intrinsic.CoroBegin i ≡ true
  -- no phi gives it
  pub phis : (v : ℕ) → begin_name f ≡ Some v → (block : ℕ) → Each (λ (x : Phi). x.result ≡ v → ⊥) (phis_at f block)
  -- each call of coro.begin gives it
  pub named : (block at v : ℕ) (i : Instr) → slice_get (instrs_of f block) at ≡ Some i
      → is_call_of Intrinsic.CoroBegin i ≡ true → begin_name f ≡ Some v → result_of i ≡ Some v

-- ---- edges

-- a label to which the end of a block leads
pub record LeadsOut (f : Function) (from label : ℕ) : Type 0 where
  pub block : Block
  pub there : slice_get f.blocks from ≡ Some block
  pub among : IsListed label (targets block.term)

-- a block is entered from no other block than this one
abbrev pub IsEnteredFrom : Function → (to from : ℕ) → Type 0
IsEnteredFrom f to from =
    (other label : ℕ) → LeadsOut f other label → position_of f label ≡ to → other ≡ from

-- ---- blocks that are passed by

-- The allocator's block is entered from where coro.alloc is asked, and from nowhere else. It isn't the block beside it.
pub record PassesAllocation (e : Elision) (func : ℕ) (k : HasShape e func) : Type 0 where
  pub entered : IsEnteredFrom (function_in e func) k.asks.allocates k.asks.asks
  pub apart : k.asks.beside ≢ k.asks.allocates

-- A block that frees is entered from where what coro.free gave is tested, and from nowhere else. It isn't the block
-- beside it, and no coroutine begins there.
pub record PassesFree (e : Elision) (func block : ℕ) : Type 0 where
  pub frees : FreesFrame (function_in e func) (e.shape func)
  pub is : frees.frees ≡ block
  pub entered : IsEnteredFrom (function_in e func) block frees.tests
  pub apart : frees.beside ≢ block
  pub calm : (at : ℕ) (i : Instr) → slice_get (instrs_of (function_in e func) block) at ≡ Some i
      → is_call_of Intrinsic.CoroBegin i ≡ false

-- ---- the module

pub record KeepsHandlesAndEnds (e : Elision) : Type 0 where
  -- functions that are no coroutines destroy the handles of their sites
  pub handles : KeepAllHandles e
  -- a coroutine that may be given its frame returns its address
  pub returns : (func : ℕ) → HasShape e func → ReturnsFrame (function_in e func)
  -- begin's name is begin's alone
  pub begins : (func : ℕ) → BeginsAlone (function_in e func)
  -- no end of a block leads to the entry block
  pub entries : (func from label : ℕ) → LeadsOut (function_in e func) from label
      → position_of (function_in e func) label ≢ 0
  -- the blocks that allocate and free are passed by
  pub allocations : (func : ℕ) (k : HasShape e func) → PassesAllocation e func k
  pub frees : (func block other : ℕ) → (e.shape func).frees block ≡ Some other → PassesFree e func block
  -- no path from a destroy edge of a coroutine that may be given its frame meets a save or a suspend
  pub still : (func : ℕ) → HasShape e func → (b : ℕ) → IsOn Way.Destroyed (function_in e func) b
      → IsFalse (has_at is_stop (function_in e func) b)
