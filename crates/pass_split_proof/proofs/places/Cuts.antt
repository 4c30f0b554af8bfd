-- The pieces of what is left of a block, by its first instruction.
use Rattle.std.proofs.Common.{◌≡◌, ℕ, ◌+◌, ◌≤◌, true, false, List, [], ◌∷◌, refl, arith}
use Rattle.std.specs.Prelude.{None}
use Rattle.pass_proofs.specs.ir_model.declared.instr.Instr.{Instr}
use Rattle.pass_proofs.specs.ir_model.declared.instr.Phi.{Phi}
use Rattle.pass_proofs.specs.ir_model.declared.instr.Terminator.{Terminator}
use Rattle.pass_proofs.specs.ir_model.declared.module.Block.{Block}
use Rattle.pass_proofs.specs.pass_intrinsics.Cuts.{cut_at}
use Rattle.pass_proofs.specs.pass_intrinsics.Lowered.{lowered, names_taken}
use Rattle.pass_proofs.specs.pass_intrinsics.Shapes.{pass_label}
use Rattle.pass_proofs.specs.pass_intrinsics.declared.cuts.Cut.{Cut}
use Rattle.pass_proofs.specs.pass_intrinsics.declared.shape.Part.{Part}
use Rattle.pass_proofs.specs.pass_intrinsics.declared.shape.Shape.{Shape}
use Rattle.pass_proofs.specs.split.rules.Pieced.{ArePieces, BeginsAgain, Ends, Marks, Returns, Stays, Suspends, Transfers, block_with, in_front}
use Rattle.pass_proofs.specs.pass_split.Pieces.{begins_again, pass_block, redirected_term, stop_label}

module _ (s : Shape) (part : Part) (t : Terminator) where
  -- where the pass cuts at the first instruction, and what is left behind it
  pub data IsCut (label : ℕ) (phis : List Phi) (n last : ℕ) (i : Instr) (is : List Instr) (cs : List Block) : Type 0
    where
      AsOne : (c : Block) (ds : List Block) → begins_again part i ≡ false → cut_at s part i is ≡ Cut.Stays
          → ArePieces s part t label phis (n + names_taken i) is (c ∷ ds) last → cs ≡ in_front (lowered s part n i) c ∷ ds
          → IsCut label phis n last i is cs
      AtMark : (mark : ℕ) (ds : List Block) → begins_again part i ≡ false → cut_at s part i is ≡ Cut.Marks mark
          → ArePieces s part t mark [] (n + names_taken i) is ds last
          → cs ≡ block_with label phis (lowered s part n i) (Terminator.Jump mark) ∷ ds → IsCut label phis n last i is cs
      AtSuspend : begins_again part i ≡ false → cut_at s part i is ≡ Cut.Suspends
          → cs ≡ block_with label phis [] (Terminator.Jump (stop_label t)) ∷ [] → IsCut label phis n last i is cs
      AtReturn : begins_again part i ≡ false → cut_at s part i is ≡ Cut.Returns
          → cs ≡ block_with label phis [] (Terminator.Ret None) ∷ [] → IsCut label phis n last i is cs
      AtTransfer : (j : ℕ) → begins_again part i ≡ false → cut_at s part i is ≡ Cut.Transfers j
          → last ≡ n + names_taken i → cs ≡ block_with label phis [] (Terminator.Jump (pass_label s j)) ∷ pass_block
          (pass_label s j) (lowered s part n i) ∷ [] → IsCut label phis n last i is cs
      AtBegin : begins_again part i ≡ true → cs ≡ block_with label phis [] Terminator.Unreachable ∷ []
          → IsCut label phis n last i is cs

  abbrev pub FirstCut : ℕ → List Phi → ℕ → ℕ → List Instr → List Block → Type 0
  FirstCut label phis n last [] cs = cs ≡ block_with label phis [] (redirected_term s t) ∷ []
  FirstCut label phis n last (i ∷ is) cs = IsCut label phis n last i is cs

  pub first_cut : (label : ℕ) (phis : List Phi) (n last : ℕ) (is : List Instr) (cs : List Block)
      → ArePieces s part t label phis n is cs last → FirstCut label phis n last is cs
  first_cut _ _ _ _ _ _ (Ends label n phis) = refl
  first_cut _ _ _ _ _ _ (Stays label n last phis i is c cs e d rest) = AsOne c cs e d rest refl
  first_cut _ _ _ _ _ _ (Marks label n last mark phis i is cs e d rest) = AtMark mark cs e d rest refl
  first_cut _ _ _ _ _ _ (Suspends label n phis i is e d) = AtSuspend e d refl
  first_cut _ _ _ _ _ _ (Returns label n phis i is e d) = AtReturn e d refl
  first_cut _ _ _ _ _ _ (Transfers label n j phis i is e d) = AtTransfer j e d refl refl
  first_cut _ _ _ _ _ _ (BeginsAgain label n phis i is e) = AtBegin e refl

  -- new names only grow
  pub names_grow : (label : ℕ) (phis : List Phi) (n last : ℕ) (is : List Instr) (cs : List Block)
      → ArePieces s part t label phis n is cs last → n ≤ last
  names_grow _ _ _ _ _ _ (Ends label n phis) = omega arith
  names_grow _ _ _ _ _ _ (Stays label n last phis i is c cs e d rest)
      = let more : n + names_taken i ≤ last = names_grow label phis (n + names_taken i) last is (c ∷ cs) rest
      in omega (arith, more)
  names_grow _ _ _ _ _ _ (Marks label n last mark phis i is cs e d rest)
      = let more : n + names_taken i ≤ last = names_grow mark [] (n + names_taken i) last is cs rest
      in omega (arith, more)
  names_grow _ _ _ _ _ _ (Suspends label n phis i is e d) = omega arith
  names_grow _ _ _ _ _ _ (Returns label n phis i is e d) = omega arith
  names_grow _ _ _ _ _ _ (Transfers label n j phis i is e d) = omega arith
  names_grow _ _ _ _ _ _ (BeginsAgain label n phis i is e) = omega arith
