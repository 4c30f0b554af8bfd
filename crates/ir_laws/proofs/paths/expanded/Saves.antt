-- Lemmas on saves, that speak of no pass.
use Rattle.std.proofs.Common.{◌≡◌, ℕ, ◌+◌, Bool, List, [], ◌∷◌, sym, ap, ◌∙◌, subst, arith}
use Rattle.std.specs.Prelude.{Option, map, slice_get}
use Rattle.run_laws.specs.ir_model.declared.instr.Instr.{Instr}
use Rattle.run_laws.specs.ir_model.declared.module.Block.{Block}
use Rattle.run_laws.specs.ir_paths.Windows.{points_from, points_in}
use Rattle.run_laws.specs.ir_paths.declared.point.Point.{Point}
use Rattle.run_laws.specs.changed.Changed.{Each}
use Rattle.ir_laws.proofs.facts.Lists.{map_same, places}
use Rattle.ir_laws.proofs.paths.expanded.Points.{points_are, shift_in, shifted}
use Rattle.ir_laws.specs.facts.expanded.Spots.{instrs_in}
use Rattle.ir_laws.proofs.facts.Members.{each_joined as each_append, each_map, passing_places}
use Rattle.ir_laws.proofs.facts.Options.{IsPassing}

abbrev pub here_in : List Block → Point → Option Instr
here_in bs p = slice_get (instrs_in (slice_get bs p.block)) p.at

abbrev pub at_zero : ℕ → Point
at_zero k = record { block = 0; at = k }

pub points_at_zero : (test : Instr → Bool) (is : List Instr) → points_from test 0 0 is ≡ map at_zero (places test is)
points_at_zero test is = points_are test 0 0 is ∙ map_same _ _ (λ k. ap at_zero (zero-first k)) (places test is)
  where
    zero-first : (k : ℕ) → 0 + k ≡ k
    zero-first k = omega arith

pub passing_in : (test : Instr → Bool) (bs : List Block) → Each (λ p. IsPassing test (here_in bs p)) (points_in test 0 bs)
passing_in test [] = tt
passing_in test (b ∷ bs) =
    each_append (λ p. IsPassing test (here_in (b ∷ bs) p)) (points_from test 0 0 b.instrs) (points_in test 1 bs)
    (subst (λ (ps : List Point). Each (λ p. IsPassing test (here_in (b ∷ bs) p)) ps) (sym (points_at_zero test b.instrs))
    (each_map (λ p. IsPassing test (here_in (b ∷ bs) p)) at_zero (places test b.instrs) (passing_places test b.instrs)))
    (subst (λ (ps : List Point). Each (λ p. IsPassing test (here_in (b ∷ bs) p)) ps) (sym (shift_in test 0 bs))
    (each_map (λ p. IsPassing test (here_in (b ∷ bs) p)) shifted (points_in test 0 bs) (passing_in test bs)))
