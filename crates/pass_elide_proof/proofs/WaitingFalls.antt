-- The second run doesn't wait for ever: what is left of the block in which it waits grows less.
use Rattle.std.proofs.Common.{◌≡◌, ◌+◌, ◌-◌, ◌<◌, ◌≤◌, ◌∙◌, ◌||◌, ⊎_elim, ℕ, zero, suc, Bool, true, false, List, [], ◌∷◌, Err, Ok, Result, Some, None, Option, ap, arith, if◌then◌else◌, is_some, length, refl, slice_get, subst, sym}
use Rattle.std.specs.Prelude.{pos}
use Rattle.pass_elide_proof.proofs.Allocated.{allocates_here}
use Rattle.pass_elide_proof.proofs.AtCalls.{in_block}
use Rattle.pass_elide_proof.proofs.EdgeAsked.{leads as asks_lead}
use Rattle.pass_elide_proof.proofs.EdgeBare.{enters_bare}
use Rattle.pass_elide_proof.proofs.EdgeTested.{leads as tests_lead}
use Rattle.pass_elide_proof.proofs.FreedAlone.{steps as frees_here}
use Rattle.pass_elide_proof.proofs.Sized.{stepped}
use Rattle.pass_elide_proof.specs.Assembling.{WaitsBehind, instrs_total, waiting_left, waits_in}
use Rattle.pass_elide_proof.specs.Elision.{Elision, Shape, framed, function_in}
use Rattle.pass_elide_proof.specs.Match.{AreElided}
use Rattle.pass_elide_proof.specs.Places.{instrs_in, instrs_of}
use Rattle.pass_elide_proof.specs.Sizes.{IsAtSize}
use Rattle.pass_elide_proof.specs.Stepping.{IsWaitedFor}
use Rattle.pass_proofs.proofs.ir_laws.facts.Lists.{below}
use Rattle.pass_proofs.specs.ir_base.declared.cause.Cause.{Cause}
use Rattle.pass_proofs.specs.ir_model.Ty.{Ty}
use Rattle.pass_proofs.specs.ir_model.declared.instr.Instr.{Instr}
use Rattle.pass_proofs.specs.ir_model.declared.module.Block.{Block}
use Rattle.pass_proofs.specs.ir_model.declared.operand.Arg.{Arg}
use Rattle.pass_proofs.specs.ir_model.declared.operand.Callee.{Callee}
use Rattle.pass_proofs.specs.ir_model.declared.operand.Intrinsic.{Intrinsic}
use Rattle.pass_proofs.specs.run_framed.Framed.{framed_next, framed_step}
use Rattle.pass_proofs.specs.run_memory.declared.block.MemoryBlock.{MemoryBlock}
use Rattle.pass_proofs.specs.run_memory.declared.pointer.Value.{Value}
use Rattle.pass_proofs.specs.run_source.Source.{deallocate, if_let_go, let_go, may_be_freed}
use Rattle.pass_proofs.specs.run_source.State.{function_of, gives, instance_at, next, own_frame, with_memory}
use Rattle.pass_proofs.specs.run_source.declared.state.Instance.{Instance}
use Rattle.pass_proofs.specs.run_source.declared.state.State.{State}
use Rattle.pass_proofs.specs.run_step.Results.{and_then}
use Rattle.pass_proofs.specs.run_step.Step.{AtInstr, Fetched, deallocated, fetch}
use Rattle.pass_proofs.specs.run_step.Values.{address, integer, value_in}

-- ---- the activation goes on in its block

pub record GoesOnHere (s u : State) : Type 0 where
  pub func : u.top.func ≡ s.top.func
  pub block : u.top.block ≡ s.top.block
  pub at : u.top.at ≡ s.top.at + 1

here_by : (s u v : State) → v ≡ u → GoesOnHere s u → GoesOnHere s v
here_by s u v same h = subst (GoesOnHere s) (sym same) h

abbrev state_of : State → Result State Cause → State
state_of s (Ok u) = u
state_of s (Err cause) = s

-- a deallocation leaves the activation behind its call
let_go_here : (s : State) (o : Option (ℕ × Instance)) → (if_let_go s o).top ≡ s.top
let_go_here s None = refl
let_go_here s (Some (i, x)) = by (may_be_freed x)
  where
    by : (b : Bool) → (if b then let_go s i x else s).top ≡ s.top
    by true = refl
    by false = refl

memory_here : (s v u : State) (r : Result (List MemoryBlock) Cause) → v.top ≡ s.top
    → and_then r (λ memory. Ok (next (with_memory v memory))) ≡ Ok u → GoesOnHere s u
memory_here s v u (Err cause) same h = absurd (cc)
memory_here s v u (Ok memory) same h =
    let is : next (with_memory v memory) ≡ u = ap (state_of v) h in
    record {
      func = ap (λ (w : State). w.top.func) (sym is) ∙ ap (λ a. a.func) same;
      block = ap (λ (w : State). w.top.block) (sym is) ∙ ap (λ a. a.block) same;
      at = ap (λ (w : State). w.top.at) (sym is) ∙ ap (λ a. a.at + 1) same;
    }

deallocated_here : (s u : State) (p : Value) → deallocate s p ≡ Ok u → GoesOnHere s u
deallocated_here s u p h =
    memory_here s (if_let_go s (instance_at s.instances p)) u
    (deallocated (if_let_go s (instance_at s.instances p)).world.memory p)
    (let_go_here s (instance_at s.instances p)) h

module _ (e : Elision) (s t : State) (i : Intrinsic) (result : Option ℕ) (must_tail : Bool) (ty : Option Ty)
    (args : List Arg) (at : IsAtSize e s t i result must_tail ty args) where
  abbrev call : Intrinsic → Fetched
  call j = AtInstr (Instr.Call result must_tail ty (Callee.Intrinsic j) args)

  abbrev sized : ℕ → State
  sized bits = gives s result (integer bits (pos (own_frame (framed e).given s).size))

  size_by : (bits : ℕ) → framed_next (framed e) s (call i) ≡ Ok (sized bits)
      → GoesOnHere s (framed_step (framed e) s)
  size_by bits goes =
      here_by s (sized bits) (framed_step (framed e) s)
      (stepped (framed e) s (sized bits) (call i) at.runs at.there goes)
      (record { func = refl; block = refl; at = refl })

  size_here : GoesOnHere s (framed_step (framed e) s)
  size_here =
      ⊎_elim (λ is. size_by 32 (ap (λ (j : Intrinsic). framed_next (framed e) s (call j)) is))
      (λ is. size_by 64 (ap (λ (j : Intrinsic). framed_next (framed e) s (call j)) is)) at.size

-- ---- what is left grows less

-- a block has no more instructions than all have
few_in : (bs : List Block) (n : ℕ) → length (instrs_in (slice_get bs n)) ≤ instrs_total bs
few_in [] n = omega arith
few_in (b ∷ bs) zero = omega arith
few_in (b ∷ bs) (suc n) = let few = few_in bs n in omega (arith, few)

chosen : (b : Bool) (x y : ℕ) → b ≡ true → (if b then x else y) ≡ x
chosen true x y h = refl
chosen false x y h = absurd (cc)

other : (b : Bool) (x y : ℕ) → b ≡ false → (if b then x else y) ≡ y
other true x y h = absurd (cc)
other false x y h = refl

-- in a block in which it waits, at an instruction
falls_here : (e : Elision) (s u : State) → waits_in (e.shape s.top.func) s.top.block ≡ true
    → s.top.at < length (instrs_of (function_in e s.top.func) s.top.block) → GoesOnHere s u
    → waiting_left e u < waiting_left e s
falls_here e s u waits lt h =
    let waits_too : waits_in (e.shape u.top.func) u.top.block ≡ true
    = (λ j. waits_in (e.shape (h.func j)) (h.block j)) ∙ waits in
    let mine = chosen (waits_in (e.shape s.top.func) s.top.block)
    (length (instrs_of (function_in e s.top.func) s.top.block) - s.top.at)
    (1 + instrs_total (function_in e s.top.func).blocks) waits in
    let yours = chosen (waits_in (e.shape u.top.func) u.top.block)
    (length (instrs_of (function_in e u.top.func) u.top.block) - u.top.at)
    (1 + instrs_total (function_in e u.top.func).blocks) waits_too in
    let same : length (instrs_of (function_in e u.top.func) u.top.block)
    ≡ length (instrs_of (function_in e s.top.func) s.top.block)
    = λ j. length (instrs_of (function_in e (h.func j)) (h.block j)) in
    let behind = h.at in
    omega (arith, mine, yours, same, behind, lt)

-- on the edge to such a block
falls_there : (e : Elision) (s u : State) (block : ℕ) → waits_in (e.shape s.top.func) s.top.block ≡ false
    → waits_in (e.shape s.top.func) block ≡ true → u ≡ record s { top = record s.top { block = block; at = 0 } }
    → waiting_left e u < waiting_left e s
falls_there e s u block stays waits is =
    let v = record s { top = record s.top { block = block; at = 0 } } in
    let same : waiting_left e u ≡ waiting_left e v = ap (waiting_left e) is in
    let mine = other (waits_in (e.shape s.top.func) s.top.block)
    (length (instrs_of (function_in e s.top.func) s.top.block) - s.top.at)
    (1 + instrs_total (function_in e s.top.func).blocks) stays in
    let yours = chosen (waits_in (e.shape s.top.func) block)
    (length (instrs_of (function_in e s.top.func) block) - 0)
    (1 + instrs_total (function_in e s.top.func).blocks) waits in
    let few = few_in (function_in e s.top.func).blocks block in
    omega (arith, same, mine, yours, few)

-- ---- each step that is waited for

still_waits : (x : Shape) (block target : ℕ) → x.waits block ≡ Some target → waits_in x block ≡ true
still_waits x block target is = ap (λ (o : Option ℕ). is_some o || is_some (x.frees block)) is

still_frees : (x : Shape) (block target : ℕ) → x.frees block ≡ Some target → waits_in x block ≡ true
still_frees x block target is = ap (λ (o : Option ℕ). is_some (x.waits block) || is_some o) is ∙ or_true (is_some (x.waits block))
  where
    or_true : (b : Bool) → (b || true) ≡ true
    or_true true = refl
    or_true false = refl

pub waiting_falls : (e : Elision) (s t : State) → WaitsBehind (function_in e s.top.func) (e.shape s.top.func)
    → AreElided e s t → IsWaitedFor e s t → waiting_left e (framed_step (framed e) s) < waiting_left e s
waiting_falls e s t behind r (IsWaitedFor.Size i result must_tail ty args at) =
    falls_here e s (framed_step (framed e) s) (still_waits (e.shape s.top.func) s.top.block t.top.block at.waits)
    (below (instrs_of (function_in e s.top.func) s.top.block) s.top.at _
    (in_block (slice_get (function_in e s.top.func).blocks s.top.block) s.top.at _ at.there))
    (size_here e s t i result must_tail ty args at)
waiting_falls e s t behind r (IsWaitedFor.Allocation a result must_tail ty args at) =
    falls_here e s (framed_step (framed e) s) (still_waits (e.shape s.top.func) s.top.block t.top.block at.waits)
    (below (instrs_of (function_in e s.top.func) s.top.block) s.top.at _
    (in_block (slice_get (function_in e s.top.func).blocks s.top.block) s.top.at _ at.there))
    (here_by s _ (framed_step (framed e) s) (allocates_here e s t a result must_tail ty args r at)
    (record { func = refl; block = refl; at = refl }))
waiting_falls e s t behind r (IsWaitedFor.Made result w i there at) =
    falls_here e s (framed_step (framed e) s) (still_waits (e.shape s.top.func) s.top.block t.top.block at.waits)
    (below (instrs_of (function_in e s.top.func) s.top.block) s.top.at i there)
    (here_by s (gives s result w) (framed_step (framed e) s)
    (stepped (framed e) s (gives s result w) (fetch (function_of (framed e).given s) s.top.block s.top.at) at.runs refl
    at.goes) (record { func = refl; block = refl; at = refl }))
waiting_falls e s t behind r (IsWaitedFor.Question k label at) =
    falls_there e s (framed_step (framed e) s) k.allocates
    (ap (waits_in (e.shape s.top.func)) at.asks ∙ behind.asks k)
    (still_waits (e.shape s.top.func) k.allocates k.asks k.waits)
    (enters_bare e s label k.allocates at.enters (asks_lead e s t r k label at) at.bare)
waiting_falls e s t behind r (IsWaitedFor.Test k label at) =
    falls_there e s (framed_step (framed e) s) k.frees
    (ap (waits_in (e.shape s.top.func)) at.tests ∙ behind.tests k)
    (still_frees (e.shape s.top.func) k.frees k.tests k.waits)
    (enters_bare e s label k.frees at.enters (tests_lead e s t r k label at) at.bare)
waiting_falls e s t behind r (IsWaitedFor.Free a result must_tail ty args at) =
    falls_here e s (framed_step (framed e) s) (still_frees (e.shape s.top.func) s.top.block t.top.block at.waits)
    (below (instrs_of (function_in e s.top.func) s.top.block) s.top.at _
    (in_block (slice_get (function_in e s.top.func).blocks s.top.block) s.top.at _ at.frees.there))
    (here_by s at.frees.after (framed_step (framed e) s) (frees_here e s t a result must_tail ty args r at.frees)
    (deallocated_here s at.frees.after (address (value_in s.top.values at.frees.name)) at.frees.goes))
waiting_falls e s t behind r (IsWaitedFor.Passed result w i there at) =
    falls_here e s (framed_step (framed e) s) (still_frees (e.shape s.top.func) s.top.block t.top.block at.waits)
    (below (instrs_of (function_in e s.top.func) s.top.block) s.top.at i there)
    (here_by s (gives s result w) (framed_step (framed e) s)
    (stepped (framed e) s (gives s result w) (fetch (function_of (framed e).given s) s.top.block s.top.at) at.runs refl
    at.goes) (record { func = refl; block = refl; at = refl }))
