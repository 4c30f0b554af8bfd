-- In front of most blocks nothing stands but the stores of their phis.
use Rattle.std.proofs.Common.{◌≡◌, ℕ, Bool, true, false, refl, List, [], ap, ◌∙◌, ◌++◌}
use Rattle.std.specs.Prelude.{if◌then◌else◌, ◌==◌, length, take}
use Rattle.std.proofs.lemmas.Bool.{eqb-true}
use Rattle.pass_proofs.specs.ir_model.declared.instr.Instr.{Instr}
use Rattle.pass_proofs.specs.pass_cells.Moves.{again_values}
use Rattle.pass_proofs.specs.pass_cells.Written.{after_blocks as after_written, entry_front as cells_front, row_at, stored_phis}
use Rattle.pass_proofs.specs.pass_copies.BeginCopies.{entry_front as copies_front, puts}
use Rattle.pass_frames_code.proofs.code.Ends.{phis_each}
use Rattle.pass_frames_code.proofs.code.Left.{calm_addressed}
use Rattle.pass_frames_code.proofs.layers.Idle.{all_stay}
use Rattle.pass_frames_code.specs.Code.{addressed, front_code, front_moves}
use Rattle.pass_frames_code.specs.Framings.{IsFraming}
use Rattle.pass_frames_code.specs.Layers.{IsIdle}
use Rattle.pass_frames_code.specs.Passes.{at_entry, block_at}
use Rattle.pass_frames_code.specs.Phis.{IsOrdinaryBlock}
use Rattle.pass_frames_code.specs.Places.{Framing, addressing_layer, copies, edged, fetched, plan}

module _ (x : Framing) (is : IsFraming x) (k : ℕ) (o : IsOrdinaryBlock x k) where
  no_entry : (front : List Instr) → at_entry k front ≡ []
  no_entry front = ap (λ (b : Bool). if b then front else []) (on (k == 0) refl)
    where
      on : (b : Bool) → (k == 0) ≡ b → b ≡ false
      on false e = refl
      on true e = absurd (o.later (eqb-true k 0 e))

  abbrev all : List Instr
  all = stored_phis (plan x) (block_at (fetched x) k).phis

  abbrev first : ℕ
  first = after_written x.code (plan x) (length (fetched x).names) (take k (fetched x).blocks)

  moves_are : front_moves x k ≡ all
  moves_are = λ i.
      (no_entry (copies_front (copies x).slots) i ++ (if o.unresumed i then puts (copies x).slots else []))
      ++ ((no_entry (cells_front (plan x) (edged x).params) i
      ++ again_values (plan x).kept first (row_at (plan x).rows (o.unreturned i))) ++ all)

  pub stores_alone : front_code x k ≡ all
  stores_alone =
      ap (addressed x k (addressing_layer x k).start) moves_are
      ∙ all_stay (addressing_layer x k) all
      (phis_each x is k (IsIdle (addressing_layer x k)) (calm_addressed x is k) (block_at (fetched x) k).phis)
      (addressing_layer x k).start
