-- A suspend has a number in order of the text.
use Rattle.std.proofs.Common.{◌≡◌, inl, inr, ℕ, zero, suc, ◌+◌, Bool, true, false, List, [], ◌∷◌, Some, None, Option, refl, sym, ap, ◌∙◌, subst, arith, if◌then◌else◌}
use Rattle.std.specs.Prelude.{slice_get}
use Rattle.pass_frames_proof.specs.flow_solver.Paths.{IsListed}
use Rattle.pass_frames_proof.proofs.ir_laws.paths.source_rules.Locals.{listed_left, listed_right}
use Rattle.pass_frames_proof.specs.ir_model.declared.instr.Instr.{Instr}
use Rattle.pass_frames_proof.specs.ir_model.declared.module.Block.{Block}
use Rattle.pass_frames_proof.specs.ir_model.declared.module.Function.{Function}
use Rattle.pass_frames_proof.specs.ir_paths.Windows.{instr_at, instr_in, points_from, points_in, points_where}
use Rattle.pass_frames_proof.specs.ir_paths.declared.point.Point.{Point}

-- what is listed stands at a position
index_of : {A : Type 0} (xs : List A) (x : A) → IsListed x xs → (k : ℕ) × (slice_get xs k ≡ Some x)
index_of [] x l = absurd l
index_of (y ∷ xs) x (inl e) = (0, ap Some (sym e))
index_of (y ∷ xs) x (inr l) = let more = index_of xs x l in (suc more.0, more.1)

abbrev at_point : ℕ → ℕ → Point
at_point block at = record { block = block; at = at }

in_block : (test : Instr → Bool) (block at : ℕ) (is : List Instr) (k : ℕ) (i : Instr) → slice_get is k ≡ Some i
    → test i ≡ true → IsListed (at_point block (at + k)) (points_from test block at is)
in_block test block at [] k i e t = absurd (cc)
in_block test block at (j ∷ is) zero i e t =
    let same : i ≡ j = cc in
    let here : at + 0 ≡ at = omega arith in
    subst (λ (b : Bool). IsListed (at_point block (at + 0))
    (if b then at_point block at ∷ points_from test block (suc at) is else points_from test block (suc at) is))
    (sym (ap test (sym same) ∙ t)) (inl (ap (at_point block) here))
in_block test block at (j ∷ is) (suc k) i e t = on (test j) (in_block test block (suc at) is k i e t)
  where
    there : at + suc k ≡ suc at + k
    there = omega arith

    on : (b : Bool) → IsListed (at_point block (suc at + k)) (points_from test block (suc at) is)
        → IsListed (at_point block (at + suc k))
        (if b then at_point block at ∷ points_from test block (suc at) is else points_from test block (suc at) is)
    on true l = inr (subst (λ (n : ℕ). IsListed (at_point block n) (points_from test block (suc at) is)) (sym there) l)
    on false l = subst (λ (n : ℕ). IsListed (at_point block n) (points_from test block (suc at) is)) (sym there) l

in_blocks : (test : Instr → Bool) (first : ℕ) (bs : List Block) (k at : ℕ) (b : Block) (i : Instr)
    → slice_get bs k ≡ Some b → slice_get b.instrs at ≡ Some i → test i ≡ true
    → IsListed (at_point (first + k) at) (points_in test first bs)
in_blocks test first [] k at b i e d t = absurd (cc)
in_blocks test first (c ∷ bs) zero at b i e d t =
    let same : b ≡ c = cc in
    let here : first ≡ first + 0 = omega arith in
    let near : 0 + at ≡ at = omega arith in
    let l = in_block test first 0 c.instrs at i (ap (λ (x : Block). slice_get x.instrs at) (sym same) ∙ d) t in
    listed_left (at_point (first + 0) at) (points_from test first 0 c.instrs) (points_in test (suc first) bs)
    (subst (λ (p : Point). IsListed p (points_from test first 0 c.instrs)) (λ j. at_point (here j) (near j)) l)
in_blocks test first (c ∷ bs) (suc k) at b i e d t =
    let there : first + suc k ≡ suc first + k = omega arith in
    listed_right (at_point (first + suc k) at) (points_from test first 0 c.instrs) (points_in test (suc first) bs)
    (subst (λ (n : ℕ). IsListed (at_point n at) (points_in test (suc first) bs)) (sym there)
    (in_blocks test (suc first) bs k at b i e d t))

pub numbered : (test : Instr → Bool) (f : Function) (p : Point) (i : Instr) → instr_at f p ≡ Some i → test i ≡ true
    → (k : ℕ) × (slice_get (points_where test f) k ≡ Some p)
numbered test f p i e t = on (slice_get f.blocks p.block) refl e
  where
    on : (o : Option Block) → slice_get f.blocks p.block ≡ o → instr_in o p.at ≡ Some i
        → (k : ℕ) × (slice_get (points_where test f) k ≡ Some p)
    on None d h = absurd (cc)
    on (Some b) d h =
        let here : 0 + p.block ≡ p.block = omega arith in
        index_of (points_where test f) p
        (subst (λ (n : ℕ). IsListed (at_point n p.at) (points_where test f)) here
        (in_blocks test 0 f.blocks p.block p.at b i d h t))
