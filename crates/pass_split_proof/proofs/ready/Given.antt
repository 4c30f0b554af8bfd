-- What each function of a module has whose runs may be followed in its parts.
use Rattle.std.proofs.Common.{◌≡◌, inl, inr, ℕ, Bool, true, false, Some, refl, sym, ap, ◌∙◌}
use Rattle.std.proofs.lemmas.Bool.{false≢true}
use Rattle.std.specs.Prelude.{ℤ, List, Option, slice_get, unwrap_or}
use Rattle.pass_proofs.specs.frame_layout.declared.layout.Layouts.{Layouts}
use Rattle.pass_proofs.specs.ir_model.Calls.{first_result}
use Rattle.pass_proofs.specs.ir_model.Names.{function_at, no_function}
use Rattle.pass_proofs.specs.ir_model.declared.module.Function.{Function}
use Rattle.pass_proofs.specs.ir_model.declared.module.Module.{Module}
use Rattle.pass_proofs.specs.ir_model.declared.operand.Intrinsic.{Intrinsic}
use Rattle.pass_proofs.specs.pass_intrinsics.declared.shape.Shape.{Shape}
use Rattle.pass_split_proof.proofs.ready.Begins.{BeginsBy, Named, New}
use Rattle.pass_split_proof.specs.ready.Module.{IsFollowableIn, IsRuled}
use Rattle.pass_split_proof.specs.simulation.Statement.{IsRulerOf}
use Rattle.pass_split_proof.specs.states.Activations.{IsShapeOf}
use Rattle.pass_proofs.specs.run_framed.Framed.{framed_given}
use Rattle.pass_proofs.proofs.rule_laws.rules.function_rules.Stages.{rules_larger}
use Rattle.pass_proofs.specs.rule_names.declared.stage.Stage.{Stage}

pub there_is : (m : Module) (k : ℕ) (f : Function) → slice_get m.functions k ≡ Some f → function_at m k ≡ f
there_is m k f e = ap (λ (o : Option Function). unwrap_or o no_function) e

-- a module is judged by its own rules
pub own_ruler : (m : Module) → IsRulerOf m m
own_ruler m = record { types = refl; globals = refl; known = λ x none knows. knows }

module _ {stage : Stage} {ruler : Module} (ls : Layouts) (m : Module) (w : IsFollowableIn stage ruler ls m) where
  pub ruled_at : (k : ℕ) (f : Function) → slice_get m.functions k ≡ Some f → IsRuled ruler k f
  ruled_at k f there = on f.coroutine refl
    where
      on : (c : Bool) → f.coroutine ≡ c → IsRuled ruler k f
      on true e = let x = w.partable.coroutines k f there e in record {
        rules = rules_larger Stage.Source ruler k f x.splittable.rules;
        widths = w.widths k f there;
        calls = λ c. x.splittable.calls;
        switches = λ c. x.splittable.switches;
      }
      on false e = record {
        rules = rules_larger stage ruler k f (w.partable.plain k f there e);
        widths = w.widths k f there;
        calls = λ c. absurd (false≢true (sym e ∙ c));
        switches = λ c. absurd (false≢true (sym e ∙ c));
      }

  -- the name of the shape is begin's, or new
  pub begins_by : (answers : List ℤ) (k : ℕ) (f : Function) (s : Shape) → function_at m k ≡ f
      → slice_get m.functions k ≡ Some f → IsShapeOf (framed_given m ls.coroutines answers) k f s → BeginsBy f s.begin
  begins_by answers k f s is there (inl h) =
      let x = w.partable.coroutines k f there h.0 in
      let named = x.splittable.named in
      let own : s.begin ≡ x.begin = ap (λ (y : Shape). y.begin) h.1
      ∙ ap (λ (g : Function). unwrap_or (first_result Intrinsic.CoroBegin g) 0) is
      ∙ ap (λ (o : Option ℕ). unwrap_or o 0) named in
      Named h.0 (named ∙ ap Some (sym own))
  begins_by answers k f s is there (inr h) = New h.0 (ap (λ (y : Shape). y.begin) h.1)
