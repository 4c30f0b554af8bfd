-- Where the names that a form tells are used, apart from what paths show.
use Rattle.std.specs.Prelude.{◌≡◌, ◌≢◌, ◌≤◌, ℕ, true, false, List, [], ◌∷◌, None, Some, is_some, slice_get}
use Rattle.pass_elide_edges.specs.Keeping.{HasEdge, LeavesNone, MeetsPlain}
use Rattle.elide_shape.specs.Calls.{deals_by}
use Rattle.elide_shape.specs.declared.calls.Dealing.{Dealing}
use Rattle.pass_elide_ready.specs.Form.{Asking, Freeing, IsFormed, MeetsSo, frees_name, shape_by, tested_of}
use Rattle.pass_elide_ready.specs.pass_elide_proof.Edges.{phis_at}
use Rattle.pass_elide_ready.specs.pass_elide_proof.Elision.{Elision, function_in}
use Rattle.pass_elide_ready.specs.pass_elide_proof.Places.{instrs_of}
use Rattle.pass_elide_ready.specs.pass_elide_proof.Placing.{IsQuiet}
use Rattle.pass_elide_ready.specs.pass_elide_proof.pass_proofs.flow_blocks.Reach.{IsReached as IsReachedBlock}
use Rattle.pass_elide_ready.specs.pass_elide_proof.pass_proofs.flow_solver.Paths.{IsListed}
use Rattle.pass_elide_ready.specs.pass_elide_proof.pass_proofs.frame_crossing.EdgeUses.{IsUsedOn}
use Rattle.pass_elide_ready.specs.pass_elide_proof.pass_proofs.frame_crossing.Paths.{used_by}
use Rattle.pass_elide_ready.specs.pass_elide_proof.pass_proofs.ir_base.declared.ops.Pred.{Pred}
use Rattle.pass_elide_ready.specs.pass_elide_proof.pass_proofs.ir_model.Ty.{Ty}
use Rattle.pass_elide_ready.specs.pass_elide_proof.pass_proofs.ir_model.declared.instr.Instr.{Instr}
use Rattle.pass_elide_ready.specs.pass_elide_proof.pass_proofs.ir_model.declared.instr.Phi.{Phi}
use Rattle.pass_elide_ready.specs.pass_elide_proof.pass_proofs.ir_model.declared.module.Function.{Function}
use Rattle.pass_elide_ready.specs.pass_elide_proof.pass_proofs.ir_model.declared.operand.Operand.{Operand}
use Rattle.pass_elide_ready.specs.pass_elide_proof.pass_proofs.rule_shape.Uses.{uses_of}
use Rattle.pass_elide_ready.specs.pass_elide_proof.pass_proofs.run_laws.changed.Changed.{Each}
use Rattle.pass_elide_ready.specs.pass_elide_proof.pass_proofs.run_step.Step.{fetch}

-- what a place does with what a coro.free gave: a deallocator takes it, or a test compares it
pub data HandsBack (f : Function) (qs : List Freeing) (block at : ℕ) : Type 0 where
  ToDeallocator : (i : Instr) → slice_get (instrs_of f block) at ≡ Some i → deals_by Dealing.Frees i ≡ true
      → HandsBack f qs block at
  ToTest : (name : ℕ) (pred : Pred) (ty : Ty) (a b : Operand)
      → slice_get (instrs_of f block) at ≡ Some (Instr.Icmp name pred ty a b) → is_some (tested_of qs name) ≡ true
      → HandsBack f qs block at

-- The answer of coro.alloc, begin's memory and each test have one use. What a coro.free gave is handed back. No phis
-- stand behind a block that frees.
pub record UsesAlone (f : Function) (a : Asking) (qs : List Freeing) : Type 0 where
  pub need : uses_of f a.need ≤ 1
  pub memory : uses_of f a.memory ≤ 1
  pub tested : (q : Freeing) → IsListed q qs → uses_of f q.tested ≤ 1
  pub freed : (block at v : ℕ) → frees_name f v ≡ true → IsListed v (used_by (fetch f block at))
      → HandsBack f qs block at
  pub freed_on : (from to v : ℕ) → frees_name f v ≡ true → IsUsedOn f v from to → ⊥
  pub bare : (q : Freeing) → IsListed q qs → phis_at f q.after ≡ []
  pub bare_beside : (q : Freeing) → IsListed q qs → phis_at f q.beside ≡ []

-- A terminator of a block looks at a name that differs nowhere. Or it asks for the answer of coro.alloc where that is
-- asked, or branches on a test where that stands.
pub data LooksSo (f : Function) (a : Asking) (qs : List Freeing) (block v : ℕ) : Type 0 where
  LooksQuiet : IsQuiet (shape_by f a qs) v → LooksSo f a qs block v
  LooksAsked : block ≡ a.asks → (shape_by f a qs).freed v ≡ false → (shape_by f a qs).tested v ≡ None
      → (shape_by f a qs).passed v ≡ false → LooksSo f a qs block v
  LooksTested : (q : Freeing) → IsListed q qs → block ≡ q.tests → v ≡ q.tested → LooksSo f a qs block v

-- A phi takes a name from a block, which isn't one of those behind the ways and beside them.
pub record TakesSo (f : Function) (a : Asking) (qs : List Freeing) (from v : ℕ) : Type 0 where
  pub need : (shape_by f a qs).need v ≡ false
  pub freed : (shape_by f a qs).freed v ≡ false
  pub tested : (shape_by f a qs).tested v ≡ None
  pub made : from ≢ a.after → from ≢ a.beside → (shape_by f a qs).made v ≡ false
  pub passed : ((q : Freeing) → IsListed q qs → MeetsSo f q → (from ≢ q.after) × (from ≢ q.beside))
      → (shape_by f a qs).passed v ≡ false

-- The blocks whose edges are looked at: where the frame is asked for and allocated, and where it is freed. Blocks behind
-- that count where they are two.
pub data OfForm (f : Function) (a : Asking) (qs : List Freeing) : ℕ → Type 0 where
  OfAsks : OfForm f a qs a.asks
  OfAllocates : OfForm f a qs a.allocates
  OfAfter : OfForm f a qs a.after
  OfBeside : OfForm f a qs a.beside
  OfTests : (q : Freeing) → IsListed q qs → OfForm f a qs q.tests
  OfFrees : (q : Freeing) → IsListed q qs → OfForm f a qs q.frees
  OfFreed : (q : Freeing) → IsListed q qs → MeetsSo f q → OfForm f a qs q.after
  OfPassed : (q : Freeing) → IsListed q qs → MeetsSo f q → OfForm f a qs q.beside

-- No window is left over these edges (K6), and the phis behind two ways take the same from both.
pub record EndsPlain (f : Function) (a : Asking) (qs : List Freeing) : Type 0 where
  pub stays : (block label : ℕ) → OfForm f a qs block → HasEdge f block label → LeavesNone f block label
  pub asked : IsReachedBlock f (0 ∷ []) [] a.after
      → Each (MeetsPlain f (shape_by f a qs) a.after a.beside (shape_by f a qs).made) (phis_at f a.begins)
  pub freed : (q : Freeing) → IsListed q qs → (w : MeetsSo f q) → IsReachedBlock f (0 ∷ []) [] q.after
      → Each (MeetsPlain f (shape_by f a qs) q.after q.beside (shape_by f a qs).passed) (phis_at f w.ends)
  -- one phi gives begin's memory
  pub once : (j k : ℕ) (p r : Phi) → slice_get (phis_at f a.begins) j ≡ Some p → slice_get (phis_at f a.begins) k ≡ Some r
      → p.result ≡ a.memory → r.result ≡ a.memory → j ≡ k

-- so it is in each coroutine of a module that has a form
abbrev pub EndPlain : Elision → Type 0
EndPlain e = (func : ℕ) (k : IsFormed e func) → EndsPlain (function_in e func) k.asking k.freeing

abbrev pub UseAlone : Elision → Type 0
UseAlone e = (func : ℕ) (k : IsFormed e func) → UsesAlone (function_in e func) k.asking k.freeing
