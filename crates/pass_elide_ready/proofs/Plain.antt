-- A function that is no coroutine has no saves, and no begin (K1).
use Rattle.std.proofs.Common.{◌≡◌, ℕ, true, false, List, [], ◌∷◌, refl, sym, ap, ◌∙◌}
use Rattle.std.specs.Prelude.{None, Some, option_and_then, slice_get}
use Rattle.pass_elide_kept.specs.Modules.{BeginsAlone}
use Rattle.pass_elide_edges.proofs.pass_elide_proof.pass_proofs.early.save_simulation.Suspending.{fetch_at}
use Rattle.pass_elide_edges.proofs.pass_elide_proof.pass_proofs.ir_paths.Search.{or_left, same_point-itself}
use Rattle.pass_elide_edges.proofs.pass_elide_proof.pass_proofs.kept.sources.Names.{StaysInside, none_outside, save_inside}
use Rattle.pass_elide_edges.proofs.pass_elide_proof.pass_proofs.rule_laws.frames.alike_slots.Tests.{passed}
use Rattle.pass_elide_edges.specs.pass_elide_proof.pass_proofs.ir_model.declared.module.Function.{Function}
use Rattle.pass_elide_edges.specs.pass_elide_proof.pass_proofs.ir_model.declared.module.Module.{Module}
use Rattle.pass_elide_edges.specs.pass_elide_proof.pass_proofs.ir_model.declared.operand.Intrinsic.{Intrinsic}
use Rattle.pass_elide_edges.specs.pass_elide_proof.pass_proofs.ir_paths.Paths.{has_point, same_point}
use Rattle.pass_elide_edges.specs.pass_elide_proof.pass_proofs.ir_paths.Windows.{call_result, instr_at, is_call_of, points_where}
use Rattle.pass_elide_edges.specs.pass_elide_proof.pass_proofs.ir_paths.declared.point.Point.{Point}
use Rattle.pass_elide_edges.specs.pass_elide_proof.pass_proofs.rule_laws.rules.function_rules.Kept.{KeepsFunctionRules}
use Rattle.pass_elide_edges.specs.pass_elide_proof.pass_proofs.run_framed.Framed.{begin_name}
use Rattle.run_accepted.proofs.Plain.{begin_inside}

-- a list of points that has none is empty
none_had : (ps : List Point) → ((p : Point) → has_point ps p ≡ true → ⊥) → ps ≡ []
none_had [] h = refl
none_had (p ∷ ps) h = absurd (h p (or_left (same_point p p) (has_point ps p) (same_point-itself p)))

module _ (m : Module) (k : ℕ) (f : Function) (rules : KeepsFunctionRules m k f) (plain : f.coroutine ≡ false) where
  none_where : (x : Intrinsic) → StaysInside x → points_where (is_call_of x) f ≡ []
  none_where x inside = none_had (points_where (is_call_of x) f) (λ p h.
      let y = passed (is_call_of x) f p h in
      none_outside m k f rules plain p.block p.at y.instr x inside (fetch_at f p y.instr y.is) y.passes_it)

  pub no_saves : points_where (is_call_of Intrinsic.CoroSave) f ≡ []
  no_saves = none_where Intrinsic.CoroSave save_inside

  never_begins : begin_name f ≡ None
  never_begins = ap (λ (ps : List Point). option_and_then call_result (option_and_then (instr_at f) (slice_get ps 0)))
      (none_where Intrinsic.CoroBegin begin_inside)

  unnamed : (v : ℕ) → begin_name f ≡ Some v → ⊥
  unnamed v e = let both : None ≡ Some v = sym never_begins ∙ e in absurd (cc)

  pub begins_never : BeginsAlone f
  begins_never = record {
    alone = λ block at v i e there gives. absurd (unnamed v e);
    phis = λ v e block. absurd (unnamed v e);
    named = λ block at v i there begins e. absurd (unnamed v e);
  }
