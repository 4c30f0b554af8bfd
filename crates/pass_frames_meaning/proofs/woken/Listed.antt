-- Suspends in order of the text are those that the passes list, and lead to the same labels.
use Rattle.std.proofs.Common.{◌≡◌, ℕ, zero, suc, ◌+◌, Bool, List, [], ◌∷◌, ◌++◌, Some, append-nil, append_assoc, refl, sym, ap, ◌∙◌, subst, arith}
use Rattle.std.specs.Prelude.{slice_get}
use Rattle.pass_frames_proof.specs.ir_model.declared.instr.Instr.{Instr}
use Rattle.pass_frames_proof.specs.ir_model.declared.module.Block.{Block}
use Rattle.pass_frames_proof.specs.ir_model.declared.module.Function.{Function}
use Rattle.pass_frames_proof.specs.ir_model.declared.operand.Callee.{Callee}
use Rattle.pass_frames_proof.specs.ir_model.declared.operand.Intrinsic.{Intrinsic}
use Rattle.pass_frames_proof.specs.ir_paths.Windows.{destroy_label, is_call_of, label_at, points_from, points_in, points_where, resume_label}
use Rattle.pass_frames_proof.specs.ir_paths.declared.point.Point.{Point}
use Rattle.pass_frames_meaning.specs.Woken.{IsListedSuspend}
use Rattle.pass_frames_proof.specs.Places.{Framing, edged}
use Rattle.pass_frames_proof.specs.Related.{IsSuspendNumber}
use Rattle.pass_frames_proof.specs.pass_intrinsics.Shapes.{suspends_of, with_suspend, with_suspends_by, with_suspends_in}
use Rattle.pass_frames_proof.specs.pass_intrinsics.declared.shape.SuspendPoint.{SuspendPoint}

abbrev is_suspend : Instr → Bool
is_suspend i = is_call_of Intrinsic.CoroSuspend i

-- ---- what is listed of a part of the text comes behind what was

one_more : (all : List SuspendPoint) (b : Block) (i : Instr)
    → with_suspend all b i ≡ all ++ with_suspend [] b i
one_more all b (Instr.Call r must_tail ty (Callee.Intrinsic Intrinsic.CoroSuspend) args) = refl
one_more all b _ = sym (append-nil all)

in_more : (all : List SuspendPoint) (b : Block) (is : List Instr)
    → with_suspends_in all b is ≡ all ++ with_suspends_in [] b is
in_more all b [] = sym (append-nil all)
in_more all b (i ∷ is) =
    in_more (with_suspend all b i) b is
    ∙ ap (λ (ss : List SuspendPoint). ss ++ with_suspends_in [] b is) (one_more all b i)
    ∙ append_assoc all (with_suspend [] b i) (with_suspends_in [] b is)
    ∙ ap (λ (ss : List SuspendPoint). all ++ ss) (sym (in_more (with_suspend [] b i) b is))

by_more : (all : List SuspendPoint) (bs : List Block) → with_suspends_by all bs ≡ all ++ with_suspends_by [] bs
by_more all [] = sym (append-nil all)
by_more all (b ∷ bs) =
    by_more (with_suspends_in all b b.instrs) bs
    ∙ ap (λ (ss : List SuspendPoint). ss ++ with_suspends_by [] bs) (in_more all b b.instrs)
    ∙ append_assoc all (with_suspends_in [] b b.instrs) (with_suspends_by [] bs)
    ∙ ap (λ (ss : List SuspendPoint). all ++ ss) (sym (by_more (with_suspends_in [] b b.instrs) bs))

-- ---- points beside what is listed

module _ (f : Function) where
  abbrev IsBeside : Point → SuspendPoint → Type 0
  IsBeside p s = (resume_label f p ≡ s.resume) × (destroy_label f p ≡ s.destroy)

  abbrev AreBeside : List Point → List SuspendPoint → Type 0
  AreBeside [] [] = Unit {0}
  AreBeside [] (s ∷ ss) = ⊥
  AreBeside (p ∷ ps) [] = ⊥
  AreBeside (p ∷ ps) (s ∷ ss) = IsBeside p s × AreBeside ps ss

  joined : (ps : List Point) (ss : List SuspendPoint) (qs : List Point) (ts : List SuspendPoint) → AreBeside ps ss
      → AreBeside qs ts → AreBeside (ps ++ qs) (ss ++ ts)
  joined [] [] qs ts h k = k
  joined [] (s ∷ ss) qs ts h k = absurd h
  joined (p ∷ ps) [] qs ts h k = absurd h
  joined (p ∷ ps) (s ∷ ss) qs ts h k = (h.0, joined ps ss qs ts h.1 k)

  in_block : (k : ℕ) (b : Block) → slice_get f.blocks k ≡ Some b → (at : ℕ) (is : List Instr)
      → AreBeside (points_from is_suspend k at is) (with_suspends_in [] b is)
  in_block k b there at [] = tt
  in_block k b there at (Instr.Call r must_tail ty (Callee.Intrinsic Intrinsic.CoroSuspend) args ∷ is) =
      subst (AreBeside (points_from is_suspend k at
      (Instr.Call r must_tail ty (Callee.Intrinsic Intrinsic.CoroSuspend) args ∷ is)))
      (sym (in_more (with_suspend [] b
      (Instr.Call r must_tail ty (Callee.Intrinsic Intrinsic.CoroSuspend) args)) b is))
      ((ap (label_at 0) there, ap (label_at 1) there), in_block k b there (suc at) is)
  in_block k b there at (_ ∷ is) = in_block k b there (suc at) is

  in_blocks : (k : ℕ) (bs : List Block)
      → ((j : ℕ) (b : Block) → slice_get bs j ≡ Some b → slice_get f.blocks (k + j) ≡ Some b)
      → AreBeside (points_in is_suspend k bs) (with_suspends_by [] bs)
  in_blocks k [] h = tt
  in_blocks k (b ∷ bs) h =
      subst (AreBeside (points_in is_suspend k (b ∷ bs))) (sym (by_more (with_suspends_in [] b b.instrs) bs))
      (joined (points_from is_suspend k 0 b.instrs) (with_suspends_in [] b b.instrs) (points_in is_suspend (suc k) bs)
      (with_suspends_by [] bs)
      (in_block k b (let same : k ≡ k + 0 = omega arith in ap (slice_get f.blocks) same ∙ h 0 b refl) 0 b.instrs)
      (in_blocks (suc k) bs (λ j c e.
      let same : suc k + j ≡ k + suc j = omega arith in ap (slice_get f.blocks) same ∙ h (suc j) c e)))

  at_number : (ps : List Point) (ss : List SuspendPoint) → AreBeside ps ss → (j : ℕ) (p : Point)
      → slice_get ps j ≡ Some p → (s : SuspendPoint) × (slice_get ss j ≡ Some s) × IsBeside p s
  at_number [] ss h j p e = absurd (cc)
  at_number (q ∷ ps) [] h j p e = absurd h
  at_number (q ∷ ps) (s ∷ ss) h zero p e =
      let same : q ≡ p = cc in (s, refl, subst (λ (z : Point). IsBeside z s) same h.0)
  at_number (q ∷ ps) (s ∷ ss) h (suc j) p e = at_number ps ss h.1 j p e

pub listed_suspend : (x : Framing) (j : ℕ) (p : Point) → IsSuspendNumber x j p → IsListedSuspend x j p
listed_suspend x j p e =
    let all = in_blocks (edged x) 0 (edged x).blocks
    (λ k b d. let same : 0 + k ≡ k = omega arith in ap (slice_get (edged x).blocks) same ∙ d) in
    let z = at_number (edged x) (points_where is_suspend (edged x)) (suspends_of (edged x)) all j p e in
    record { suspend = z.0; there = z.1; resume = z.2.0; destroy = z.2.1 }
