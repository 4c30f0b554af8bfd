-- The points at which a test of instructions passes.
use Rattle.std.proofs.Common.{◌≡◌, Bool, true, false, Some, None, Option, refl, sym, ◌∙◌}
use Rattle.ir_laws.proofs.paths.renamed.Outside.{where_none, where_pass}
use Rattle.ir_laws.specs.facts.renamed.Regular.{passes}
use Rattle.ir_laws.specs.ir_model.declared.instr.Instr.{Instr}
use Rattle.ir_laws.specs.ir_model.declared.module.Function.{Function}
use Rattle.ir_laws.specs.ir_paths.Paths.{has_point}
use Rattle.ir_laws.specs.ir_paths.Windows.{instr_at, points_where}
use Rattle.ir_laws.specs.ir_paths.declared.point.Point.{Point}
use Rattle.frame_contents.proofs.frame_slots.Points.{where_complete}

pub where_is : (t : Instr → Bool) (f : Function) (p : Point) → has_point (points_where t f) p ≡ passes t (instr_at f p)
where_is t f p = on (passes t (instr_at f p)) refl
  where
    found : (o : Option Instr) → instr_at f p ≡ o → passes t o ≡ true → has_point (points_where t f) p ≡ true
    found None e h = absurd (cc)
    found (Some i) e h = where_complete t f p i e h

    on : (b : Bool) → passes t (instr_at f p) ≡ b → has_point (points_where t f) p ≡ passes t (instr_at f p)
    on true e = found (instr_at f p) refl e ∙ sym e
    on false e = where_none t f p e ∙ sym e

-- an instruction stands at the point and passes
pub record IsPassed (t : Instr → Bool) (f : Function) (p : Point) : Type 0 where
  pub instr : Instr
  pub is : instr_at f p ≡ Some instr
  pub passes_it : t instr ≡ true

pub passed : (t : Instr → Bool) (f : Function) (p : Point) → has_point (points_where t f) p ≡ true → IsPassed t f p
passed t f p h = on (instr_at f p) refl (where_pass t f p h)
  where
    on : (o : Option Instr) → instr_at f p ≡ o → passes t o ≡ true → IsPassed t f p
    on None e k = absurd (cc)
    on (Some i) e k = record { instr = i; is = e; passes_it = k }
