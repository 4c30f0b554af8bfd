-- A function that is no coroutine has no begin, save, suspend or end (rule K1).
use Rattle.std.proofs.Common.{◌≡◌, inl, inr, ℕ, true, false, List, [], ◌∷◌, refl, ap, subst}
use Rattle.std.specs.Prelude.{filter_map, option_map}
use Rattle.pass_proofs.specs.ir_model.declared.module.Function.{Function}
use Rattle.pass_proofs.specs.ir_model.declared.module.Module.{Module}
use Rattle.pass_proofs.specs.ir_model.declared.operand.Intrinsic.{Intrinsic}
use Rattle.pass_proofs.proofs.ir_paths.Search.{or_left, same_point-itself}
use Rattle.pass_proofs.specs.ir_paths.Paths.{has_point, same_point}
use Rattle.pass_proofs.specs.ir_paths.Windows.{is_call_of, points_where, saves_of, suspend_of}
use Rattle.pass_proofs.specs.ir_paths.declared.point.Point.{Point}
use Rattle.pass_proofs.specs.pass_kept_proof.SuspendRules.{IsCallAt}
use Rattle.pass_proofs.proofs.early.save_simulation.Suspending.{fetch_at}
use Rattle.pass_proofs.proofs.kept.sources.Names.{StaysInside, end_inside, none_outside, save_inside}
use Rattle.pass_proofs.proofs.rule_laws.frames.alike_slots.Tests.{passed}
use Rattle.pass_proofs.specs.rule_laws.rules.function_rules.Kept.{KeepsFunctionRules}
use Rattle.pass_proofs.specs.rule_slots.Closed.{IsClosed, IsInOneOf}
use Rattle.pass_proofs.specs.rule_windows.Sets.{IsAfterEnd, RunsOut}

pub begin_inside : StaysInside Intrinsic.CoroBegin
begin_inside Intrinsic.CoroBegin e = refl
begin_inside _ e = absurd (cc)

-- a list of points that has none is empty
none_had : (ps : List Point) → ((p : Point) → has_point ps p ≡ true → ⊥) → ps ≡ []
none_had [] h = refl
none_had (p ∷ ps) h = absurd (h p (or_left (same_point p p) (has_point ps p) (same_point-itself p)))

module _ (m : Module) (k : ℕ) (f : Function) (rules : KeepsFunctionRules m k f) (outside : f.coroutine ≡ false) where
  pub no_call : (x : Intrinsic) → StaysInside x → (p : Point) → IsCallAt x f p → ⊥
  no_call x inside p c = none_outside m k f rules outside p.block p.at c.instr x inside c.stands c.is

  none_where : (x : Intrinsic) → StaysInside x → points_where (is_call_of x) f ≡ []
  none_where x inside = none_had (points_where (is_call_of x) f) (λ p h.
      let y = passed (is_call_of x) f p h in
      no_call x inside p (record { instr = y.instr; stands = fetch_at f p y.instr y.is; is = y.passes_it }))

  pub none_behind_end : (p : Point) → IsAfterEnd f p → ⊥
  none_behind_end p a =
      let none : has_point [] a.start ≡ true =
      subst (λ (ps : List Point). has_point ps a.start ≡ true) (none_where Intrinsic.CoroEnd end_inside) a.is_start in
      absurd (cc)

  pub never_begun : (p : Point) → RunsOut f p → ⊥
  never_begun p r =
      let none : has_point [] r.start ≡ true =
      subst (λ (ps : List Point). has_point ps r.start ≡ true) (none_where Intrinsic.CoroBegin begin_inside) r.is_start
      in absurd (cc)

  no_saves : saves_of f ≡ []
  no_saves = ap (filter_map (λ save. option_map (λ suspend. (save, suspend)) (suspend_of f save)))
      (none_where Intrinsic.CoroSave save_inside)

  pub never_closed : (p : Point) → IsClosed f p → ⊥
  never_closed p (inl a) = none_behind_end p a
  never_closed p (inr w) = subst (λ ps. IsInOneOf f ps p) no_saves w
