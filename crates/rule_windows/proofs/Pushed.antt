-- One more point of a list by a test.
use Rattle.std.proofs.Common.{◌≡◌, ℕ, suc, ◌+◌, Bool, true, false, List, [], ◌∷◌, ◌++◌, refl, ap, sym, ◌∙◌, append_assoc, add-one}
use Rattle.std.specs.Prelude.{if◌then◌else◌}
use Rattle.ir_parts.specs.ir_model.declared.instr.Instr.{Instr}
use Rattle.flow_points.specs.ir_paths.Windows.{points_from}
use Rattle.flow_points.specs.ir_paths.declared.point.Point.{Point}
use Rattle.rule_windows.specs.Points.{pushed_if}

by_test : (b : Bool) (all rest : List Point) (p : Point) → pushed_if b all p ++ rest ≡ all ++ (if b then p ∷ rest else rest)
by_test true all rest p = append_assoc all (p ∷ []) rest
by_test false all rest p = refl

pub pushed_step : (test : Instr → Bool) (all : List Point) (block at : ℕ) (i : Instr) (is : List Instr) → pushed_if (test i) all (record { block = block; at = at }) ++ points_from test block (at + 1) is ≡ all ++ points_from test block at (i ∷ is)
pushed_step test all block at i is =
    ap (λ (n : ℕ). pushed_if (test i) all (record { block = block; at = at }) ++ points_from test block n is) (add-one at)
    ∙ by_test (test i) all (points_from test block (suc at) is) (record { block = block; at = at })
