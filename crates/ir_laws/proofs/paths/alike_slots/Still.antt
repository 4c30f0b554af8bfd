-- Functions in which the same stands at the same points.
use Rattle.std.proofs.Common.{◌≡◌, inl, List, refl, sym, ap, ◌∙◌}
use Rattle.ir_laws.proofs.paths.alike_slots.SlotsAlike.{AreLone}
use Rattle.ir_laws.proofs.paths.alike_slots.Strands.{AreCarried, AreStrands}
use Rattle.run_laws.specs.ir_model.declared.module.Function.{Function}
use Rattle.run_laws.specs.ir_paths.Paths.{has_point, nexts}
use Rattle.run_laws.specs.ir_paths.declared.point.Point.{Point}

abbrev pub stay : Point → Point
stay p = p

pub still_strands : (f g : Function) → ((p : Point) → nexts g p ≡ nexts f p) → AreStrands f g stay stay
still_strands f g same = record {
  ways = record {
    forth = λ p q h. ap (λ (ps : List Point). has_point ps q) (same p) ∙ h;
    home = λ p y h. record { point = y; is = refl; edge = ap (λ (ps : List Point). has_point ps y) (sym (same p)) ∙ h };
    within = λ p. inl refl;
  };
  fronts = λ p q e. e;
  backs = λ p q e. e;
  mixed = λ p q e. e;
}

pub still_carried : (ps us : List Point) → us ≡ ps → AreCarried stay stay ps us
still_carried ps us e = record {
  fronts = λ p. ap (λ (qs : List Point). has_point qs p) e;
  backs = λ p. ap (λ (qs : List Point). has_point qs p) e;
}

pub still_lone : (ps us : List Point) → us ≡ ps → AreLone stay stay ps us
still_lone ps us e = record { carried = still_carried ps us e; clear = λ q. inl refl; found = λ x h. (x, refl) }
