-- A function with its frames' allocas in front: its calls with rooms give frames, and all else stays.
use Rattle.std.proofs.Common.{◌≡◌, ℕ, zero, suc, ◌+◌, ◌<◌, ◌≤◌, Bool, true, false, List, [], ◌∷◌, ◌++◌, length, refl, sym, ap, ◌∙◌, subst, arith, ◌⊎◌, inl, inr, ⊎_elim, Some, None, Option, length-append}
use Rattle.std.specs.Prelude.{is_some, option_to_list, slice_get}
use Rattle.compiler.proofs.whole.elided_forms.Allocas.{IsInFront, stands_in_front}
use Rattle.compiler.proofs.whole.elided_forms.Rooms.{IsAllocaFrame}
use Rattle.ir_base.specs.declared.name.Name.{Name}
use Rattle.ir_base.specs.declared.outcome.Place.{Place}
use Rattle.ir_model.specs.Names.{noalloc_of}
use Rattle.ir_model.specs.Ty.{Ty, array, int}
use Rattle.ir_model.specs.declared.instr.Instr.{Instr}
use Rattle.ir_model.specs.declared.module.Block.{Block}
use Rattle.ir_model.specs.declared.module.Function.{Function}
use Rattle.ir_model.specs.declared.module.Module.{Module}
use Rattle.ir_model.specs.declared.operand.Arg.{Arg}
use Rattle.ir_model.specs.declared.operand.Callee.{Callee}
use Rattle.pass_elide.specs.Elided.{block_frames, blocks_frames, elided_block, elided_blocks, elided_by, elided_instrs, frames_by, instr_frames, with_front}
use Rattle.pass_elide.specs.declared.given.GivenFrame.{GivenFrame}
use Rattle.pass_proofs.proofs.ir_laws.paths.source_rules.Locals.{listed_left, listed_right}
use Rattle.pass_proofs.specs.flow_solver.Paths.{IsListed}
use Rattle.pass_proofs.specs.ir_parts.Contents.{result_of}
use Rattle.pass_proofs.specs.rule_laws.rules.given_calls.Given.{AreGiven, AreGivenBlocks, Gives, IsFrameThere, MayBeCalled, NoBlock, NoneLeft, OneBlock, Same, frame_arg, with_instrs}
use Rattle.pass_proofs.specs.rule_laws.rules.woven_rules.Fronts.{with_front_block}
use Rattle.pass_proofs.specs.rule_uses.Uses.{made_by_instrs, phi_values}

-- a call that may give its callee any frame
pub record IsGivable (R : Module) (i : Instr) : Type 0 where
  pub result : Option ℕ
  pub ty : Option Ty
  pub name : Name
  pub args : List Arg
  pub is : i ≡ Instr.Call result false ty (Callee.Named name) args
  pub may : (n : ℕ) → MayBeCalled R ty (noalloc_of name) (args ++ frame_arg n ∷ [])

module _ (R : Module) (k : ℕ) (f : Function) (frame : ℕ → ℕ → Instr → Option GivenFrame) (first last : ℕ) where
  -- ---- what is asked

  abbrev pub FitsOne : ℕ → ℕ → Instr → Type 0
  FitsOne block at i = (r : GivenFrame) → frame block at i ≡ Some r → IsGivable R i × IsAllocaFrame r

  abbrev pub Fits : ℕ → ℕ → List Instr → Type 0
  Fits block at [] = Unit {0}
  Fits block at (i ∷ is) = FitsOne block at i × Fits block (at + 1) is

  abbrev pub FitsBlocks : ℕ → List Block → Type 0
  FitsBlocks block [] = Unit {0}
  FitsBlocks block (b ∷ bs) = Fits block (length b.phis) b.instrs × FitsBlocks (block + 1) bs

  -- all new names are there, whatever the block makes further
  abbrev pub Ready : ℕ → List ℕ → Type 0
  Ready block before =
      (later : List ℕ) → ((y : ℕ) → IsListed y before → IsListed y later) → (v : ℕ) → first ≤ v → v < last
      → IsFrameThere k f block later v

  grows : (block : ℕ) (before more : List ℕ) → Ready block before → Ready block (more ++ before)
  grows block before more h later up = h later (λ y l. up y (listed_right y more before l))

  -- ---- instructions

  abbrev Given : ℕ → List ℕ → List Instr → List Instr → Type 0
  Given = AreGiven R k f

  instrs_given : (block at v : ℕ) (before : List ℕ) (is : List Instr) → first ≤ v
      → v + length (instr_frames (frame block) at is) ≤ last → Ready block before → Fits block at is
      → Given block before is (elided_instrs (frame block) at v is)
  instrs_given block at v before [] low high ready fits = NoneLeft before
  instrs_given block at v before (i ∷ is) low high ready fits =
      on (frame block at i) refl high
      (λ w b l h r. instrs_given block (at + 1) w b is l h r fits.1)
    where
      on : (o : Option GivenFrame) → frame block at i ≡ o
          → v + length (frames_by o ++ instr_frames (frame block) (at + 1) is) ≤ last
          → ((w : ℕ) (b : List ℕ) → first ≤ w → w + length (instr_frames (frame block) (at + 1) is) ≤ last
          → Ready block b → Given block b is (elided_instrs (frame block) (at + 1) w is))
          → Given block before (i ∷ is)
          (elided_by v o i ++ elided_instrs (frame block) (at + 1) (length (frames_by o) + v) is)
      on None e high again =
          let same : 0 + v ≡ v = omega arith in
          subst (λ (w : ℕ). Given block before (i ∷ is) (i ∷ elided_instrs (frame block) (at + 1) w is)) (sym same)
          (Same before i is (elided_instrs (frame block) (at + 1) v is)
          (again v (option_to_list (result_of i) ++ before) low high
          (grows block before (option_to_list (result_of i)) ready)))
      on (Some r) e high again =
          let g = (fits.0 r e).0 in
          let a = (fits.0 r e).1 in
          let here : v < last = omega (arith, high) in
          let lower : first ≤ 1 + v = omega (arith, low) in
          let higher : (1 + v) + length (instr_frames (frame block) (at + 1) is) ≤ last = omega (arith, high) in
          subst
          (λ (x : GivenFrame).
          Given block before (i ∷ is)
          (elided_by v (Some x) i ++ elided_instrs (frame block) (at + 1) (length (frames_by (Some x)) + v) is))
          (sym a.is)
          (subst
          (λ (j : Instr).
          Given block before (j ∷ is)
          (elided_by v (Some (GivenFrame.Alloca a.size a.align)) j ++ elided_instrs (frame block) (at + 1) (1 + v) is))
          (sym g.is)
          (Gives before g.result g.ty g.name (noalloc_of g.name) g.args v is
          (elided_instrs (frame block) (at + 1) (1 + v) is) (g.may v) (ready before (λ y l. l) v low here)
          (again (1 + v) (option_to_list g.result ++ before) lower higher
          (grows block before (option_to_list g.result) ready))))

  -- ---- the blocks behind the entry

  module _ (ready : (block : ℕ) → (block ≡ 0 → ⊥) → (before : List ℕ) → Ready block before) where
    blocks_given : (block v : ℕ) (bs : List Block) → (block ≡ 0 → ⊥) → first ≤ v
        → v + length (blocks_frames frame block bs) ≤ last → FitsBlocks block bs
        → AreGivenBlocks R k f block bs (elided_blocks frame block v bs)
    blocks_given block v [] other low high fits = NoBlock block
    blocks_given block v (b ∷ bs) other low high fits =
        let here : List GivenFrame = block_frames frame block b in
        let more : List GivenFrame = blocks_frames frame (block + 1) bs in
        let joined : length (here ++ more) ≡ length here + length more = length-append here more in
        let high_here : v + length here ≤ last = omega (arith, high, joined) in
        let low_more : first ≤ length here + v = omega (arith, low) in
        let high_more : (length here + v) + length more ≤ last = omega (arith, high, joined) in
        let later : block + 1 ≡ 0 → ⊥ = λ e. absurd (omega (arith, e)) in
        OneBlock block b (elided_instrs (frame block) (length b.phis) v b.instrs) bs
        (elided_blocks frame (block + 1) (length here + v) bs)
        (instrs_given block (length b.phis) v (phi_values b) b.instrs low high_here
        (ready block other (phi_values b)) fits.0)
        (blocks_given (block + 1) (length here + v) bs later low_more high_more fits.1)

    -- ---- the entry, behind its allocas

    front_same : (before : List ℕ) (front is js : List Instr) → Given 0 (made_by_instrs before front) is js
        → Given 0 before (front ++ is) (front ++ js)
    front_same before [] is js h = h
    front_same before (i ∷ front) is js h =
        Same before i (front ++ is) (front ++ js)
        (front_same (option_to_list (result_of i) ++ before) front is js h)

    pub all_given : (front : List Instr) (bs : List Block)
        → ((b : Block) → slice_get bs 0 ≡ Some b → Ready 0 (made_by_instrs (phi_values b) front))
        → first + length (blocks_frames frame 0 bs) ≤ last → FitsBlocks 0 bs
        → AreGivenBlocks R k f 0 (with_front_block front bs) (with_front front (elided_blocks frame 0 first bs))
    all_given front [] entry high fits = NoBlock 0
    all_given front (b ∷ bs) entry high fits =
        let here : List GivenFrame = block_frames frame 0 b in
        let more : List GivenFrame = blocks_frames frame 1 bs in
        let joined : length (here ++ more) ≡ length here + length more = length-append here more in
        let low : first ≤ first = omega arith in
        let high_here : first + length here ≤ last = omega (arith, high, joined) in
        let low_more : first ≤ length here + first = omega arith in
        let high_more : (length here + first) + length more ≤ last = omega (arith, high, joined) in
        let later : 1 ≡ 0 → ⊥ = λ e. absurd (omega (arith, e)) in
        OneBlock 0 (with_instrs (front ++ b.instrs) b)
        (front ++ elided_instrs (frame 0) (length b.phis) first b.instrs) bs
        (elided_blocks frame 1 (length here + first) bs)
        (front_same (phi_values b) front b.instrs (elided_instrs (frame 0) (length b.phis) first b.instrs)
        (instrs_given 0 (length b.phis) first (made_by_instrs (phi_values b) front) b.instrs low high_here
        (entry b refl) fits.0))
        (blocks_given 1 (length here + first) bs later low_more high_more fits.1)
