-- Lemmas on windows, that speak of no pass.
use Rattle.std.proofs.Common.{◌≡◌, ◌⊎◌, inl, inr, ℕ, zero, suc, Bool, true, List, [], ◌∷◌, sym, ap, ◌∙◌, subst}
use Rattle.std.specs.Prelude.{Some, slice_get}
use Rattle.run_laws.specs.ir_model.declared.instr.Instr.{Instr}
use Rattle.run_laws.specs.ir_model.declared.operand.Intrinsic.{Intrinsic}
use Rattle.run_laws.proofs.ir_paths.Search.{either, or_left, or_right, same_point-itself, same_point-same}
use Rattle.run_laws.specs.ir_paths.Paths.{has_point, same_point}
use Rattle.run_laws.specs.ir_paths.Windows.{is_call_of}
use Rattle.run_laws.specs.ir_paths.declared.point.Point.{Point}
use Rattle.run_laws.specs.changed.Changed.{Each}

abbrev pub is_save : Instr → Bool
is_save i = is_call_of Intrinsic.CoroSave i

pub each_point : (P : Point → Type 0) (ps : List Point) (p : Point) → Each P ps → has_point ps p ≡ true → P p
each_point P [] p h e = absurd (cc)
each_point P (q ∷ ps) p h e = on (either (same_point p q) (has_point ps p) e) (each_point P ps p h.1)
  where
    on : (same_point p q ≡ true) ⊎ (has_point ps p ≡ true) → (has_point ps p ≡ true → P p) → P p
    on (inl s) again = subst P (sym (same_point-same p q s)) h.0
    on (inr s) again = again s

pub got_has : (ps : List Point) (n : ℕ) (p : Point) → slice_get ps n ≡ Some p → has_point ps p ≡ true
got_has [] n p e = absurd (cc)
got_has (q ∷ ps) zero p e = let same : q ≡ p = cc in or_left (same_point p q) (has_point ps p) (ap (same_point p) same ∙ same_point-itself p)
got_has (q ∷ ps) (suc n) p e = or_right (same_point p q) (has_point ps p) (got_has ps n p e)
