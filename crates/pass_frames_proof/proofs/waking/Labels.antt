-- The switch behind a suspend leads to the same labels in the framed form.
use Rattle.std.proofs.Common.{◌≡◌, ◌+◌, ◌==◌, ◌∙◌, Bool, List, None, Option, Some, ap, false, length, refl, sym, true, ℕ}
use Rattle.std.specs.Prelude.{slice_get, unwrap_or}
use Rattle.pass_frames_steps.proofs.ir_laws.facts.Members.{at_each}
use Rattle.pass_frames_steps.proofs.ir_laws.paths.alike_functions.Lists.{each_where}
use Rattle.pass_frames_steps.specs.ir_model.declared.instr.Instr.{Instr}
use Rattle.pass_frames_steps.specs.ir_model.declared.instr.Terminator.{Terminator}
use Rattle.pass_frames_steps.specs.ir_model.declared.module.Block.{Block}
use Rattle.pass_frames_steps.specs.ir_model.declared.module.Function.{Function}
use Rattle.pass_frames_steps.specs.ir_model.declared.operand.Intrinsic.{Intrinsic}
use Rattle.pass_frames_steps.specs.ir_paths.Windows.{instr_at, instr_in, is_call_of, label_at, label_of_term, points_where}
use Rattle.pass_frames_steps.specs.ir_paths.declared.point.Point.{Point}
use Rattle.pass_frames_steps.specs.pass_cells.Cells.{fetches_of}
use Rattle.pass_frames_steps.specs.pass_fetch.Instrs.{fetched_term}
use Rattle.pass_frames_steps.specs.pass_fetch.declared.fetch.Fetch.{Fetch}
use Rattle.pass_frames_proof.proofs.jumping.Places.{ends_there}
use Rattle.pass_frames_steps.specs.Code.{address_state, end_code, end_term, last_state, load_name, slot_table}
use Rattle.pass_frames_steps.specs.Framings.{IsFraming}
use Rattle.pass_frames_steps.specs.Passes.{block_at, no_block}
use Rattle.pass_frames_steps.specs.Places.{Framing, edged, framed, instrs_at, is_return, place, plan}
use Rattle.pass_frames_steps.specs.Related.{IsSuspendNumber}
use Rattle.pass_frames_steps.proofs.run_laws.memory.Written.{same_some}
use Rattle.pass_frames_steps.specs.run_step.Step.{AtTerm, Fetched, fetch_in, fetch_or}

-- fetches change no case
label_fetched : (t : List (Option Fetch)) (m n : ℕ) (e : Terminator)
    → label_of_term n (fetched_term t m e) ≡ label_of_term n e
label_fetched t m n (Terminator.Jump label) = refl
label_fetched t m n (Terminator.Branch c a b) = refl
label_fetched t m n (Terminator.Switch arg default cases) = refl
label_fetched t m n (Terminator.Ret value) = refl
label_fetched t m n Terminator.Unreachable = refl

-- a terminator that stands in a block is the block's
abbrev term_of : Fetched → Option Terminator
term_of (AtTerm e) = Some e
term_of _ = None

label_there : (n : ℕ) (o : Option Block) (at : ℕ) (e : Terminator) → fetch_in o at ≡ AtTerm e
    → label_at n o ≡ label_of_term n e
label_there n None at e h = absurd (cc)
label_there n (Some b) at e h = on (slice_get b.instrs at) (at == length b.instrs) h
  where
    on : (o : Option Instr) (c : Bool) → fetch_or o c b.term ≡ AtTerm e → label_of_term n b.term ≡ label_of_term n e
    on (Some i) c h = absurd (cc)
    on None false h = absurd (cc)
    on None true h =
        ap (label_of_term n) (same_some b.term e (ap term_of h))

block_is : (f : Function) (k : ℕ) (i : Instr) (at : ℕ) → instr_in (slice_get f.blocks k) at ≡ Some i
    → slice_get f.blocks k ≡ Some (block_at f k)
block_is f k i at e = on (slice_get f.blocks k) refl e
  where
    on : (o : Option Block) → slice_get f.blocks k ≡ o → instr_in o at ≡ Some i
        → slice_get f.blocks k ≡ Some (block_at f k)
    on None d h = absurd (cc)
    on (Some b) d h = d ∙ ap Some (sym (ap (λ (o : Option Block). unwrap_or o no_block) d))

module _ (x : Framing) (is : IsFraming x) (n : ℕ) where
  abbrev Same : Point → Type 0
  Same p = is_return x p.block ≡ false
      → label_at n (slice_get (framed x).blocks p.block) ≡ label_at n (slice_get (edged x).blocks p.block)

  one_same : (p : Point) (i : Instr) → instr_at (edged x) p ≡ Some i → is_call_of Intrinsic.CoroSuspend i ≡ true
      → Same p
  one_same p i e call unreturned =
      let there = block_is (edged x) p.block i p.at e in
      let ends = ends_there x is p.block there unreturned in
      label_there n (slice_get (framed x).blocks p.block)
      ((place x (record { block = p.block; at = length (instrs_at x p.block) })).at
      + length (end_code x p.block (last_state x p.block)))
      (end_term x (last_state x p.block) (block_at (edged x) p.block).term) ends.term
      ∙ label_fetched (slot_table x) (address_state (last_state x p.block)).0 n
      (fetched_term (fetches_of (plan x)) (load_name (last_state x p.block)) (block_at (edged x) p.block).term)
      ∙ label_fetched (fetches_of (plan x)) (load_name (last_state x p.block)) n (block_at (edged x) p.block).term
      ∙ sym (ap (label_at n) there)

  pub labels_same : (j : ℕ) (p : Point) → IsSuspendNumber x j p → Same p
  labels_same j p e =
      at_each Same (points_where (is_call_of Intrinsic.CoroSuspend) (edged x)) j p
      (each_where Same (is_call_of Intrinsic.CoroSuspend) (edged x) one_same) e
