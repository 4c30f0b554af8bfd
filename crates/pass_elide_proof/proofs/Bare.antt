-- A function that gives its callees no frames stays as it is.
use Rattle.std.proofs.Common.{◌≡◌, ◌+◌, ℕ, zero, suc, List, [], ◌∷◌, ◌++◌, append-nil, length, refl, sym, ap, ◌∙◌, arith}
use Rattle.std.specs.Prelude.{None, Option, Some, codes, slice_get}
use Rattle.pass_elide.specs.Elided.{block_frames, blocks_frames, elided_blocks, elided_by, elided_function, elided_instrs, frame_allocas, frames_by, function_frames, instr_frames, with_front}
use Rattle.pass_elide.specs.declared.given.GivenFrame.{GivenFrame}
use Rattle.pass_elide_proof.proofs.Modules.{finds_alike}
use Rattle.pass_elide_proof.specs.Elision.{Elision, function_in, function_in_elided, rooms}
use Rattle.pass_elide_proof.specs.Looking.{GivesNone}
use Rattle.pass_elide_proof.specs.Match.{own_point}
use Rattle.pass_elide_proof.specs.Places.{Rooms, ahead, instrs_in, instrs_of, own_at, phi_count, put_by, put_up_to}
use Rattle.pass_proofs.specs.ir_model.declared.instr.Instr.{Instr}
use Rattle.pass_proofs.specs.ir_model.declared.module.Block.{Block}
use Rattle.pass_proofs.specs.ir_model.declared.module.Function.{Function}
use Rattle.pass_proofs.specs.ir_paths.declared.point.Point.{Point}
use Rattle.pass_proofs.specs.pass_fetch.Blocks.{numbered_names}
use Rattle.pass_proofs.specs.run_step.Step.{phis_of}

both_none : {A : Type 0} (xs ys : List A) → xs ++ ys ≡ [] → (xs ≡ []) × (ys ≡ [])
both_none [] ys e = (refl, e)
both_none (x ∷ xs) ys e = absurd (cc)

-- ---- instructions

module _ (room : ℕ → Instr → Option GivenFrame) where
  instrs_same : (at n : ℕ) (is : List Instr) → instr_frames room at is ≡ [] → elided_instrs room at n is ≡ is
  instrs_same at n [] e = refl
  instrs_same at n (i ∷ is) e = by (room at i) e (λ k h. instrs_same (at + 1) k is h)
    where
      by : (o : Option GivenFrame) → frames_by o ++ instr_frames room (at + 1) is ≡ []
          → ((k : ℕ) → instr_frames room (at + 1) is ≡ [] → elided_instrs room (at + 1) k is ≡ is)
          → elided_by n o i ++ elided_instrs room (at + 1) (length (frames_by o) + n) is ≡ i ∷ is
      by None h again = ap (λ (js : List Instr). i ∷ js) (again (0 + n) h)
      by (Some r) h again = absurd (cc)

  put_none : (at : ℕ) (is : List Instr) (k : ℕ) → instr_frames room at is ≡ [] → put_up_to room at is k ≡ 0
  put_none at [] k e = refl
  put_none at (i ∷ is) zero e = by (room at i) e
    where
      by : (o : Option GivenFrame) → frames_by o ++ instr_frames room (at + 1) is ≡ [] → put_by o ≡ 0
      by None h = refl
      by (Some r) h = absurd (cc)
  put_none at (i ∷ is) (suc k) e = by (room at i) e (λ h. put_none (at + 1) is k h)
    where
      by : (o : Option GivenFrame) → frames_by o ++ instr_frames room (at + 1) is ≡ []
          → (instr_frames room (at + 1) is ≡ [] → put_up_to room (at + 1) is k ≡ 0)
          → put_by o + put_up_to room (at + 1) is k ≡ 0
      by None h again = let rest = again h in omega (arith, rest)
      by (Some r) h again = absurd (cc)

-- ---- blocks

module _ (room : Rooms) where
  blocks_same : (s n : ℕ) (bs : List Block) → blocks_frames room s bs ≡ [] → elided_blocks room s n bs ≡ bs
  blocks_same s n [] e = refl
  blocks_same s n (b ∷ bs) e =
      let parts = both_none (block_frames room s b) (blocks_frames room (s + 1) bs) e in
      let rest = blocks_same (s + 1) (length (block_frames room s b) + n) bs parts.1 in
      λ i. record {
        label = b.label;
        phis = b.phis;
        instrs = instrs_same (room s) (length b.phis) n b.instrs parts.0 i;
        term = b.term;
      } ∷ rest i

  block_none : (s : ℕ) (bs : List Block) (k p : ℕ) (b : Block) → blocks_frames room s bs ≡ []
      → slice_get bs k ≡ Some b → p ≡ s + k → block_frames room p b ≡ []
  block_none s [] k p b e at place = absurd (cc)
  block_none s (c ∷ bs) zero p b e at place =
      let parts = both_none (block_frames room s c) (blocks_frames room (s + 1) bs) e in
      let same : c ≡ b = cc in
      let from : s ≡ p = omega (arith, place) in
      (λ i. block_frames room (sym from i) (sym same i)) ∙ parts.0
  block_none s (c ∷ bs) (suc k) p b e at place =
      let parts = both_none (block_frames room s c) (blocks_frames room (s + 1) bs) e in
      block_none (s + 1) bs k p b parts.1 at (omega (arith, place))

  front_none : (bs : List Block) → with_front [] bs ≡ bs
  front_none [] = refl
  front_none (b ∷ bs) = refl

  module _ (f : Function) (none : function_frames room f ≡ []) where
    pub function_same : elided_function room f ≡ f
    function_same =
        (λ i. record {
          name = f.name;
          result = f.result;
          params = f.params;
          coroutine = f.coroutine;
          blocks = with_front (frame_allocas (length f.names) (none i))
              (elided_blocks room 0 (length f.names) f.blocks);
          names = f.names ++ numbered_names (codes "$c.callee.") (length (none i));
        })
        ∙ (λ i. record f {
          blocks = (front_none (elided_blocks room 0 (length f.names) f.blocks)
              ∙ blocks_same 0 (length f.names) f.blocks none) i;
          names = append-nil f.names i;
        })

    none_ahead : (block : ℕ) → ahead room f block ≡ 0
    none_ahead zero = ap (λ (rs : List GivenFrame). length (frame_allocas (length f.names) rs)) none
    none_ahead (suc block) = refl

    none_put : (block at : ℕ) → put_up_to (room block) (phi_count f block) (instrs_of f block) at ≡ 0
    none_put block at = by (slice_get f.blocks block) refl
      where
        by : (o : Option Block) → slice_get f.blocks block ≡ o
            → put_up_to (room block) (length (phis_of o)) (instrs_in o) at ≡ 0
        by None eo = refl
        by (Some b) eo =
            let from : block ≡ 0 + block = omega arith in
            put_none (room block) (length b.phis) b.instrs at (block_none 0 f.blocks block block b none eo from)

    pub places_same : (block at : ℕ) → own_at room f block at ≡ at
    places_same block at = let a = none_ahead block in let p = none_put block at in omega (arith, a, p)

module _ (e : Elision) (func : ℕ) (none : GivesNone e func) where
  pub same_function : function_in_elided e func ≡ function_in e func
  same_function = (finds_alike e).functions func ∙ function_same (rooms e func) (function_in e func) none

  pub same_place : (p : Point) → own_point e func p ≡ p
  same_place p = λ i. record {
    block = p.block;
    at = places_same (rooms e func) (function_in e func) none p.block p.at i;
  }
