-- What stands in a block on a resume or destroy edge: its front, its end, and the jump.
use Rattle.std.proofs.Common.{◌≡◌, ◌≢◌, ◌+◌, ◌∷◌, ◌++◌, ◌∙◌, [], List, Option, Some, ap, length, subst, sym, ℕ, None}
use Rattle.std.specs.Prelude.{slice_get}
use Rattle.pass_frames_steps.proofs.ir_laws.facts.Members.{each_joined, each_turns}
use Rattle.pass_frames_steps.specs.ir_model.declared.instr.Instr.{Instr}
use Rattle.pass_frames_steps.specs.ir_model.declared.instr.Terminator.{Terminator}
use Rattle.pass_frames_steps.specs.ir_model.declared.module.Module.{Module}
use Rattle.pass_frames_steps.specs.pass_cells.Moves.{address_again, again_one, again_values}
use Rattle.pass_frames_steps.specs.pass_cells.declared.plan.KeptValue.{KeptValue}
use Rattle.pass_frames_steps.specs.pass_copies.BeginCopies.{puts}
use Rattle.pass_frames_steps.specs.pass_copies.declared.slot.EarlySlot.{EarlySlot}
use Rattle.pass_frames_steps.proofs.code.Ends.{back_is, front_is, last_far, term_is}
use Rattle.pass_frames_steps.proofs.code.Framed.{others_made}
use Rattle.pass_frames_steps.proofs.code.Left.{IsMove}
use Rattle.pass_frames_proof.proofs.jumping.Places.{made_front, made_stand, made_term, made_whole}
use Rattle.pass_frames_steps.proofs.layers.Standing.{first_place}
use Rattle.pass_frames_steps.proofs.saving.Becoming.{easy_move, addressed_moves}
use Rattle.pass_frames_steps.specs.Code.{end_code, end_term, front_code, last_state}
use Rattle.pass_frames_steps.specs.Costs.{whole}
use Rattle.pass_frames_steps.specs.Framings.{IsFraming}
use Rattle.pass_frames_steps.specs.FromEdges.{agains_line, slots_line}
use Rattle.pass_frames_steps.specs.Layers.{Layer, place_in}
use Rattle.pass_frames_steps.specs.Lined.{GivesNone}
use Rattle.pass_frames_steps.specs.Passes.{IsBlockMade, block_at}
use Rattle.pass_frames_steps.specs.Places.{Framing, Placed, edged, framed, instrs_at, placed_layer, plan}
use Rattle.pass_frames_steps.specs.run_laws.access.Lines.{StandAt}
use Rattle.pass_frames_steps.specs.run_laws.changed.Changed.{Each}
use Rattle.pass_frames_steps.specs.run_step.Step.{AtTerm, fetch}

pub record ReturnsInPlace (x : Framing) (k : ℕ) : Type 0 where
  pub front : StandAt (framed x) k 0 (front_code x k)
  pub stand : StandAt (framed x) k (length (front_code x k)) (end_code x k (last_state x k))
  pub term : fetch (framed x) k (length (front_code x k) + length (end_code x k (last_state x k)))
      ≡ AtTerm (end_term x (last_state x k) (block_at (edged x) k).term)
  pub whole_is : whole x k ≡ length (front_code x k) + length (end_code x k (last_state x k)) + 1

module _ (x : Framing) (is : IsFraming x) (k : ℕ) (later : k ≢ 0)
    (there : slice_get (edged x).blocks k ≡ Some (block_at (edged x) k)) (none : instrs_at x k ≡ []) where
  abbrev L : Layer Placed
  L = placed_layer x k

  abbrev line : List Instr
  line = end_code x k (last_state x k)

  abbrev term : Terminator
  term = end_term x (last_state x k) (block_at (edged x) k).term

  made : IsBlockMade L (edged x) (framed x) k
  made = others_made x k later

  back : L.back (last_state x k) ≡ line
  back = back_is x is k (last_state x k) (last_far x is k)

  term_there : L.term (last_state x k) (block_at (edged x) k).term ≡ term
  term_there = term_is x is k (last_state x k) (last_far x is k) (block_at (edged x) k).term

  last_is : place_in L (instrs_at x k) (length (instrs_at x k)) ≡ length (front_code x k)
  last_is =
      ap (λ (q : ℕ). place_in L (instrs_at x k) q) (ap length none)
      ∙ first_place L (instrs_at x k) ∙ ap length (front_is x is k)

  pub return_there : ReturnsInPlace x k
  return_there = record {
    front = subst (StandAt (framed x) k 0) (front_is x is k) (made_front L (edged x) (framed x) k made there);
    stand = subst (λ (q : ℕ). StandAt (framed x) k q line) last_is
        (made_stand L (edged x) (framed x) k made there line back);
    term = ap (λ (q : ℕ). fetch (framed x) k (q + length line)) (sym last_is)
        ∙ made_term L (edged x) (framed x) k made there line back term term_there;
    whole_is = made_whole L (edged x) (framed x) k made there line back
        ∙ ap (λ (q : ℕ). q + length line + 1) last_is;
  }

-- ---- its front gives no frame

module _ (x : Framing) (k : ℕ) where
  puts_moves : (ss : List EarlySlot) → Each IsMove (puts ss)
  puts_moves [] = tt
  puts_moves (z ∷ ss) = (tt, puts_moves ss)

  again_moves : (kept : List KeptValue) (n : ℕ) (row : List ℕ) → Each IsMove (again_values kept n row)
  again_moves kept n [] = tt
  again_moves kept n (v ∷ row) =
      each_joined IsMove (again_one n (slice_get kept v)) (again_values kept (n + 2) row) (on (slice_get kept v))
      (again_moves kept (n + 2) row)
    where
      back_again : (q : KeptValue) (o : Option ℕ) → Each IsMove (address_again n q.cell o)
      back_again q None = tt
      back_again q (Some slot) = (tt, (tt, tt))

      on : (o : Option KeptValue) → Each IsMove (again_one n o)
      on None = tt
      on (Some q) = (tt, (tt, back_again q q.slot))

  pub line_gives : (m : Module) (n at : ℕ) (ss : List EarlySlot) (row : List ℕ)
      → Each (GivesNone m) (slots_line x k at ss ++ agains_line x k n (at + length ss) row)
  line_gives m n at ss row =
      each_turns IsMove (GivesNone m) (λ j q. (easy_move m j q).gives)
      (slots_line x k at ss ++ agains_line x k n (at + length ss) row)
      (each_joined IsMove (slots_line x k at ss) (agains_line x k n (at + length ss) row)
      (addressed_moves x k (at, tt) (puts ss) (puts_moves ss))
      (addressed_moves x k (at + length ss, tt) (again_values (plan x).kept n row) (again_moves (plan x).kept n row)))
