-- Lemmas on points, that speak of no pass.
use Rattle.std.proofs.Common.{◌≡◌, ℕ, suc, ◌+◌, Bool, true, false, List, [], ◌∷◌, ◌++◌, refl, sym, ap, ◌∙◌, arith}
use Rattle.std.proofs.lemmas.List.{map-append}
use Rattle.std.specs.Prelude.{map, if◌then◌else◌}
use Rattle.run_laws.specs.ir_model.declared.instr.Instr.{Instr}
use Rattle.run_laws.specs.ir_model.declared.module.Block.{Block}
use Rattle.run_laws.specs.ir_paths.Windows.{points_from, points_in}
use Rattle.run_laws.specs.ir_paths.declared.point.Point.{Point}
use Rattle.ir_laws.proofs.facts.Lists.{map_map, map_same, places}

abbrev pub point : ℕ → ℕ → Point
point block at = record { block = block; at = at }

pub points_are : (test : Instr → Bool) (block at : ℕ) (is : List Instr) → points_from test block at is ≡ map (λ k. point block (at + k)) (places test is)
points_are test block at [] = refl
points_are test block at (i ∷ is) = on (test i) (points_are test block (suc at) is ∙ map_same _ _ (λ k. ap (point block) (next k)) (places test is) ∙ sym (map_map (λ k. point block (at + k)) suc (places test is)))
  where
    next : (k : ℕ) → suc at + k ≡ at + suc k
    next k = omega arith

    here : at ≡ at + 0
    here = omega arith

    on : (b : Bool) → points_from test block (suc at) is ≡ map (λ k. point block (at + k)) (map suc (places test is)) → (if b then point block at ∷ points_from test block (suc at) is else points_from test block (suc at) is) ≡ map (λ k. point block (at + k)) (if b then 0 ∷ map suc (places test is) else map suc (places test is))
    on true e = λ j. point block (here j) ∷ e j
    on false e = e

-- ---- blocks one further on

abbrev pub shifted : Point → Point
shifted p = record { block = suc p.block; at = p.at }

shift_from : (test : Instr → Bool) (block at : ℕ) (is : List Instr) → points_from test (suc block) at is ≡ map shifted (points_from test block at is)
shift_from test block at [] = refl
shift_from test block at (i ∷ is) = on (test i) (shift_from test block (suc at) is)
  where
    on : (b : Bool) → points_from test (suc block) (suc at) is ≡ map shifted (points_from test block (suc at) is) → (if b then point (suc block) at ∷ points_from test (suc block) (suc at) is else points_from test (suc block) (suc at) is) ≡ map shifted (if b then point block at ∷ points_from test block (suc at) is else points_from test block (suc at) is)
    on true e = ap (λ (ps : List Point). point (suc block) at ∷ ps) e
    on false e = e

pub shift_in : (test : Instr → Bool) (block : ℕ) (bs : List Block) → points_in test (suc block) bs ≡ map shifted (points_in test block bs)
shift_in test block [] = refl
shift_in test block (b ∷ bs) =
    let first = shift_from test block 0 b.instrs in
    let rest = shift_in test (suc block) bs in
    (λ i. first i ++ rest i) ∙ sym (map-append shifted (points_from test block 0 b.instrs) (points_in test (suc block) bs))
