-- What is said of all that stands in the blocks of a coroutine, and so of all that stands in the blocks of its parts.
use Rattle.std.proofs.Common.{◌≡◌, ℕ, ◌+◌, ◌≤◌, Bool, true, false, List, [], ◌∷◌, ◌++◌, refl, ◌∙◌, arith}
use Rattle.std.specs.Prelude.{Option, None, Some, filter, map, if◌then◌else◌}
use Rattle.pass_split.specs.Parts.{back_blocks, done_block, entry_instrs, entry_term, later_head}
use Rattle.pass_split.specs.Pieces.{begins_again, pieced_phi, redirected_term}
use Rattle.pass_split.specs.Reached.{is_flagged, kept_block, kept_blocks, kept_phi, reached}
use Rattle.pass_split.specs.declared.origin.Origin.{Origin}
use Rattle.pass_fetch_proof.proofs.ir_laws.facts.Members.{each_joined, each_filtered, each_mapped}
use Rattle.pass_fetch_proof.specs.pass_intrinsics.Cuts.{cut_at, cut_call, goes_on, marks_save, next_suspend, transfers}
use Rattle.pass_fetch_proof.specs.pass_intrinsics.Lowered.{lowered, names_taken, number_of_save}
use Rattle.pass_fetch_proof.specs.pass_intrinsics.declared.cuts.Cut.{Cut}
use Rattle.pass_fetch_proof.specs.pass_intrinsics.declared.shape.Part.{Part}
use Rattle.pass_fetch_proof.specs.pass_intrinsics.declared.shape.Shape.{Shape}
use Rattle.pass_fetch_proof.specs.pass_intrinsics.declared.shape.SuspendPoint.{SuspendPoint}
use Rattle.ir_model.specs.declared.instr.Instr.{Instr}
use Rattle.ir_model.specs.declared.instr.Phi.{Phi}
use Rattle.ir_model.specs.declared.instr.Terminator.{Terminator}
use Rattle.ir_model.specs.declared.module.Block.{Block}
use Rattle.ir_model.specs.declared.module.Function.{Function}
use Rattle.ir_model.specs.declared.operand.Callee.{Callee}
use Rattle.ir_model.specs.declared.operand.Intrinsic.{Intrinsic}
use Rattle.pass_fetch_proof.proofs.rule_laws.rules.replaced.Passed.{IsAll}
use Rattle.pass_exits_proof.specs.split.rules.Pieced.{ArePieces, ArePiecesOf, BeginsAgain, Ends, Marks, NoBlock, OneBlock, Returns, Stays, Suspends, Transfers}
use Rattle.pass_fetch_proof.specs.run_laws.changed.Changed.{Each}

-- ---- where a block ends with a return, the part goes on behind a suspend

module _ (s : Shape) (part : Part) where
  marked_alone : (o : Option ℕ) (c : Cut) → marks_save s o ≡ c → c ≡ Cut.Returns → goes_on part ≡ true
  marked_alone None c e d = let t : Cut.Stays ≡ Cut.Returns = e ∙ d in absurd (cc)
  marked_alone (Some j) c e d = absurd (cc)

  call_returns : (r : Option ℕ) (after : List Instr) (x : Intrinsic) → cut_call s part r after x ≡ Cut.Returns → goes_on part ≡ true
  call_returns r after Intrinsic.CoroEnd e = on (goes_on part) refl e
    where
      on : (b : Bool) → goes_on part ≡ b → (if b then Cut.Returns else Cut.Stays) ≡ Cut.Returns → goes_on part ≡ true
      on true d e = d
      on false d e = absurd (cc)
  call_returns r after Intrinsic.CoroResume e = on (goes_on part) refl e
    where
      on : (b : Bool) → goes_on part ≡ b → (if b then transfers (next_suspend s after) else Cut.Stays) ≡ Cut.Returns → goes_on part ≡ true
      on true d e = d
      on false d e = absurd (cc)
  call_returns r after Intrinsic.CoroSave e = marked_alone (number_of_save s r) (marks_save s (number_of_save s r)) refl e
  call_returns r after _ e = absurd (cc)

  pub cut_returns : (i : Instr) (after : List Instr) → cut_at s part i after ≡ Cut.Returns → goes_on part ≡ true
  cut_returns (Instr.Call r must_tail ty (Callee.Intrinsic x) args) after e = call_returns r after x e
  cut_returns _ after e = absurd (cc)

  call_transfers : (j : ℕ) (r : Option ℕ) (after : List Instr) (x : Intrinsic) → cut_call s part r after x ≡ Cut.Transfers j → goes_on part ≡ true
  call_transfers j r after Intrinsic.CoroEnd e = on (goes_on part) refl e
    where
      on : (b : Bool) → goes_on part ≡ b → (if b then Cut.Returns else Cut.Stays) ≡ Cut.Transfers j → goes_on part ≡ true
      on true d e = d
      on false d e = absurd (cc)
  call_transfers j r after Intrinsic.CoroResume e = on (goes_on part) refl e
    where
      on : (b : Bool) → goes_on part ≡ b → (if b then transfers (next_suspend s after) else Cut.Stays) ≡ Cut.Transfers j → goes_on part ≡ true
      on true d e = d
      on false d e = absurd (cc)
  call_transfers j r after Intrinsic.CoroSave e = on (number_of_save s r) e
    where
      on : (o : Option ℕ) → marks_save s o ≡ Cut.Transfers j → goes_on part ≡ true
      on None e = absurd (cc)
      on (Some k) e = absurd (cc)
  call_transfers j r after _ e = absurd (cc)

  pub cut_transfers : (j : ℕ) (i : Instr) (after : List Instr) → cut_at s part i after ≡ Cut.Transfers j → goes_on part ≡ true
  cut_transfers j (Instr.Call r must_tail ty (Callee.Intrinsic x) args) after e = call_transfers j r after x e
  cut_transfers j _ after e = absurd (cc)

-- ---- new names are taken one after the other

module _ (s : Shape) (part : Part) where
  pub rises : (t : Terminator) (label n last : ℕ) (phis : List Phi) (is : List Instr) (cs : List Block) → ArePieces s part t label phis n is cs last → n ≤ last
  rises t _ _ _ _ _ _ (Ends label n phis) = omega arith
  rises t _ _ _ _ _ _ (Stays label n last phis i is c cs e d rest) = let up : n + names_taken i ≤ last = rises t label (n + names_taken i) last phis is (c ∷ cs) rest in omega (arith, up)
  rises t _ _ _ _ _ _ (Marks label n last mark phis i is cs e d rest) = let up : n + names_taken i ≤ last = rises t mark (n + names_taken i) last [] is cs rest in omega (arith, up)
  rises t _ _ _ _ _ _ (Suspends label n phis i is e d) = omega arith
  rises t _ _ _ _ _ _ (Returns label n phis i is e d) = omega arith
  rises t _ _ _ _ _ _ (Transfers label n j phis i is e d) = omega arith
  rises t _ _ _ _ _ _ (BeginsAgain label n phis i is e) = omega arith

-- ---- what stands in the pieces

-- what is asked of the terminators that the pass makes
pub record AreEnds (part : Part) (T : Terminator → Type 0) : Type 0 where
  pub jump : (label : ℕ) → T (Terminator.Jump label)
  pub return : goes_on part ≡ true → T (Terminator.Ret None)
  pub stop : T Terminator.Unreachable

module _ (s : Shape) (part : Part) (Q : Phi → Type 0) (P : Instr → Type 0) (T : Terminator → Type 0) (ends : AreEnds part T) (low : ℕ) where
  -- what is lowered in the place of an instruction that the part has
  abbrev pub AllLowered : Instr → Type 0
  AllLowered i = begins_again part i ≡ false → (n : ℕ) → low ≤ n → Each P (lowered s part n i)

  front_all : (js : List Instr) (c : Block) → Each P js → IsAll Q P T c → IsAll Q P T (record { label = c.label; phis = c.phis; instrs = js ++ c.instrs; term = c.term })
  front_all js c h k = record { phis = k.phis; instrs = each_joined P js c.instrs h k.instrs; term = k.term }

  pieces_all : (t : Terminator) (label : ℕ) (phis : List Phi) (n last : ℕ) (is : List Instr) (cs : List Block) → ArePieces s part t label phis n is cs last → T (redirected_term s t) → Each Q phis → Each AllLowered is → low ≤ n → Each (IsAll Q P T) cs
  pieces_all t _ _ _ _ _ _ (Ends label n phis) u q h a = (record { phis = q; instrs = tt; term = u }, tt)
  pieces_all t _ _ _ _ _ _ (Stays label n last phis i is c cs e d rest) u q h a =
      let k = pieces_all t label phis (n + names_taken i) last is (c ∷ cs) rest u q h.1 (omega (arith, a)) in
      (front_all (lowered s part n i) c (h.0 e n a) k.0, k.1)
  pieces_all t _ _ _ _ _ _ (Marks label n last mark phis i is cs e d rest) u q h a =
      (record { phis = q; instrs = h.0 e n a; term = ends.jump mark }, pieces_all t mark [] (n + names_taken i) last is cs rest u tt h.1 (omega (arith, a)))
  pieces_all t _ _ _ _ _ _ (Suspends label n phis i is e d) u q h a = (record { phis = q; instrs = tt; term = ends.jump _ }, tt)
  pieces_all t _ _ _ _ _ _ (Returns label n phis i is e d) u q h a = (record { phis = q; instrs = tt; term = ends.return (cut_returns s part i is d) }, tt)
  pieces_all t _ _ _ _ _ _ (Transfers label n j phis i is e d) u q h a =
      (record { phis = q; instrs = tt; term = ends.jump _ }, (record { phis = tt; instrs = h.0 e n a; term = ends.return (cut_transfers s part j i is d) }, tt))
  pieces_all t _ _ _ _ _ _ (BeginsAgain label n phis i is e) u q h a = (record { phis = q; instrs = tt; term = ends.stop }, tt)

  -- blocks whose phis, instructions and terminators become such
  pub blocks_all : (origins : List Origin) (n last : ℕ) (bs cs : List Block) → ArePiecesOf s part origins n bs cs last → Each (λ (b : Block). IsAll (λ (x : Phi). Q (pieced_phi s part origins b.label x)) AllLowered (λ (t : Terminator). T (redirected_term s t)) b) bs → low ≤ n → Each (IsAll Q P T) cs
  blocks_all origins _ _ _ _ (NoBlock n) h a = tt
  blocks_all origins _ _ _ _ (OneBlock n next last b bs cs ds k rest) h a =
      each_joined (IsAll Q P T) cs ds
      (pieces_all b.term b.label (map (pieced_phi s part origins b.label) b.phis) n next b.instrs cs k h.0.term
      (each_mapped (λ (x : Phi). Q (pieced_phi s part origins b.label x)) Q (pieced_phi s part origins b.label) (λ x y. y) b.phis h.0.phis) h.0.instrs a)
      (blocks_all origins next last bs ds rest h.1 (let up : n ≤ next = rises s part b.term b.label n next (map (pieced_phi s part origins b.label) b.phis) b.instrs cs k in omega (arith, up, a)))

-- ---- the blocks that are kept

module _ (Q : Phi → Type 0) (P : Instr → Type 0) (T : Terminator → Type 0) where
  pub kept_all : (flags : List Bool) → ((x : Phi) → Q x → Q (kept_phi flags x)) → (bs : List Block) → Each (IsAll Q P T) bs → Each (IsAll Q P T) (kept_blocks flags bs)
  kept_all flags phi bs h =
      each_mapped (IsAll Q P T) (IsAll Q P T) (kept_block flags)
      (λ b k. record { phis = each_mapped Q Q (kept_phi flags) phi b.phis k.phis; instrs = k.instrs; term = k.term })
      (filter (λ b. is_flagged flags b.label) bs) (each_filtered (IsAll Q P T) (λ b. is_flagged flags b.label) bs h)

-- ---- the blocks that a part begins with

module _ (s : Shape) (part : Part) (Q : Phi → Type 0) (P : Instr → Type 0) (T : Terminator → Type 0) (ends : AreEnds part T) where
  back_all : (j : ℕ) (ps : List SuspendPoint) → Each (IsAll Q P T) (back_blocks s part j ps)
  back_all j [] = tt
  back_all j (p ∷ ps) = (record { phis = tt; instrs = tt; term = ends.jump _ }, back_all (j + 1) ps)

  pub head_all : (f : Function) → Each P (entry_instrs s f.blocks) → T (entry_term s (reached f) part) → Each (IsAll Q P T) (later_head s (reached f) part f.blocks)
  head_all f h t = (record { phis = tt; instrs = h; term = t }, (record { phis = tt; instrs = tt; term = ends.stop }, back_all 0 s.suspends))

  pub done_all : IsAll Q P T (done_block s)
  done_all = record { phis = tt; instrs = tt; term = ends.jump s.end }
