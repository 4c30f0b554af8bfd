-- Lemmas on lists, that speak of no pass.
use Rattle.std.proofs.Common.{◌≡◌, Bool, true, List, [], ◌∷◌, Some, None, Option, refl}
use Rattle.ir_laws.proofs.paths.renamed.Outside.{where_pass}
use Rattle.ir_laws.specs.facts.renamed.Regular.{passes}
use Rattle.run_laws.specs.ir_model.declared.instr.Instr.{Instr}
use Rattle.run_laws.specs.ir_model.declared.module.Function.{Function}
use Rattle.run_laws.proofs.ir_paths.Search.{or_left, or_right, same_point-itself}
use Rattle.run_laws.specs.ir_paths.Paths.{has_point, same_point}
use Rattle.run_laws.specs.ir_paths.Windows.{instr_at, points_where}
use Rattle.run_laws.specs.ir_paths.declared.point.Point.{Point}
use Rattle.run_laws.specs.changed.Changed.{Each}

-- ---- points at which a test passes

each_of : (Q : Point → Type 0) (ps : List Point) → ((p : Point) → has_point ps p ≡ true → Q p) → Each Q ps
each_of Q [] h = tt
each_of Q (p ∷ ps) h = (
  h p (or_left (same_point p p) (has_point ps p) (same_point-itself p)),
  each_of Q ps (λ q e. h q (or_right (same_point q p) (has_point ps q) e)),
)

pub each_where : (Q : Point → Type 0) (t : Instr → Bool) (f : Function) → ((p : Point) (i : Instr) → instr_at f p ≡ Some i → t i ≡ true → Q p) → Each Q (points_where t f)
each_where Q t f h = each_of Q (points_where t f) (λ p e. on p (instr_at f p) refl (where_pass t f p e))
  where
    on : (p : Point) (o : Option Instr) → instr_at f p ≡ o → passes t o ≡ true → Q p
    on p None e k = absurd (cc)
    on p (Some i) e k = h p i e k
