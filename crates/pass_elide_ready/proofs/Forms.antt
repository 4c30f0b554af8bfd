-- What a framed module keeps where each shape is that of a form, or of none.
use Rattle.std.proofs.Common.{◌≡◌, ◌⊎◌, inl, inr, ⊎_elim, ◌<◌, ◌^◌, ℕ, Bool, true, false, length, refl, ap, ◌∙◌}
use Rattle.std.specs.Prelude.{None, Option, Some, slice_get}
use Rattle.pass_elide_edges.specs.Keeping.{EntersAlone, SetsKnown}
use Rattle.pass_elide_kept.specs.Modules.{PassesAllocation, PassesFree}
use Rattle.pass_elide_known.specs.Keeping.{KeepsAside, KeepsFreeing, KeepsTest}
use Rattle.pass_elide_edges.specs.pass_elide_proof.Assembling.{WaitsBehind}
use Rattle.pass_elide_edges.specs.pass_elide_proof.Calling.{StartsAlike}
use Rattle.pass_elide_edges.specs.pass_elide_proof.Edges.{phis_at}
use Rattle.pass_elide_edges.specs.pass_elide_proof.Elision.{Elision, Shape, differs_in, function_in, no_shape}
use Rattle.pass_elide_edges.specs.pass_elide_proof.Match.{frame_size}
use Rattle.pass_elide_edges.specs.pass_elide_proof.Places.{instrs_of}
use Rattle.pass_elide_edges.specs.pass_elide_proof.Placing.{HasShape, SetsPlain}
use Rattle.pass_elide_edges.specs.pass_elide_proof.Releasing.{IsFreeing}
use Rattle.pass_elide_edges.specs.pass_elide_proof.Waking.{GivesNone, IsFreedName, WakesAlike}
use Rattle.pass_elide_ready.proofs.Entries.{enters_no_start}
use Rattle.pass_elide_ready.proofs.Formed.{plain_alloca, sets_plain}
use Rattle.pass_elide_ready.proofs.FreedForm.{frees_at_once}
use Rattle.pass_elide_ready.proofs.Modules.{all_rules, once}
use Rattle.pass_elide_ready.proofs.Names.{at_point}
use Rattle.pass_elide_ready.proofs.Shaped.{form_enters_alone, form_waits_behind, has_shape, keeps_aside, keeps_freeing, keeps_test, passes_allocation, passes_free, sets_known, starts_alike, wakes_alike}
use Rattle.pass_elide_ready.specs.Form.{AreFormed, IsFormed}
use Rattle.pass_elide_ready.specs.Ruled.{IsRuled}
use Rattle.pass_elide_runs.specs.Marks.{HasPlainAllocas}
use Rattle.pass_elide_edges.proofs.pass_elide_proof.pass_proofs.ir_laws.paths.woven_rules.Unbroken.{each_listed, of_listed}
use Rattle.pass_elide_edges.proofs.pass_elide_proof.pass_proofs.rule_laws.rules.sources.Places.{point}
use Rattle.pass_elide_edges.specs.pass_elide_proof.pass_proofs.ir_base.declared.ops.Pred.{Pred}
use Rattle.pass_elide_edges.specs.pass_elide_proof.pass_proofs.ir_model.Ty.{Ty}
use Rattle.pass_elide_edges.specs.pass_elide_proof.pass_proofs.ir_model.declared.instr.Instr.{Instr}
use Rattle.pass_elide_edges.specs.pass_elide_proof.pass_proofs.ir_model.declared.instr.Phi.{Phi}
use Rattle.pass_elide_edges.specs.pass_elide_proof.pass_proofs.ir_model.declared.operand.Operand.{Operand}
use Rattle.pass_elide_edges.specs.pass_elide_proof.pass_proofs.ir_parts.Contents.{result_of}
use Rattle.pass_elide_edges.specs.pass_elide_proof.pass_proofs.rule_laws.rules.function_rules.Kept.{KeepsFunctionRules}
use Rattle.pass_elide_edges.specs.pass_elide_proof.pass_proofs.run_laws.changed.Changed.{Each}
use Rattle.pass_split_proof.proofs.ready.Entering.{coroutine_there}

-- ---- the shape of none

not_there : {A : Type 0} (o : Option A) (y : A) → o ≡ None → o ≡ Some y → ⊥
not_there o y none some = absurd (cc)

not_true : (b : Bool) → b ≡ false → b ≡ true → ⊥
not_true b one other = absurd (cc)

module _ (x : Shape) (p : x ≡ no_shape) where
  none_waits : (b y : ℕ) → x.waits b ≡ Some y → ⊥
  none_waits b y e = not_there (x.waits b) y (ap (λ (z : Shape). z.waits b) p) e

  none_frees : (b y : ℕ) → x.frees b ≡ Some y → ⊥
  none_frees b y e = not_there (x.frees b) y (ap (λ (z : Shape). z.frees b) p) e

  none_aside : (b y : ℕ) → x.aside b ≡ Some y → ⊥
  none_aside b y e = not_there (x.aside b) y (ap (λ (z : Shape). z.aside b) p) e

  none_tested : (v : ℕ) (y : Bool) → x.tested v ≡ Some y → ⊥
  none_tested v y e = not_there (x.tested v) y (ap (λ (z : Shape). z.tested v) p) e

  none_holds : (b at y : ℕ) → x.holds b at ≡ Some y → ⊥
  none_holds b at y e = not_there (x.holds b at) y (ap (λ (z : Shape). z.holds b at) p) e

  none_freed : (v : ℕ) → IsFreedName x v → ⊥
  none_freed v (inl freed) = not_true (x.freed v) (ap (λ (z : Shape). z.freed v) p) freed
  none_freed v (inr tested) = none_tested v tested.0 tested.1

  none_differs : (ramp given : Bool) (v : ℕ) → differs_in x ramp given v ≡ false
  none_differs ramp given v = ap (λ (z : Shape). differs_in z ramp given v) p ∙ last ramp given
    where
      last : (r g : Bool) → differs_in no_shape r g v ≡ false
      last true true = refl
      last true false = refl
      last false true = refl
      last false false = refl

module _ (e : Elision) (ruled : IsRuled e.code) where
  -- ---- of a form

  module _ (func : ℕ) (w : IsFormed e func) where
    abbrev form_rules : KeepsFunctionRules e.code func (function_in e func)
    form_rules = all_rules e.code ruled func (function_in e func) (coroutine_there e.code func w.form.coroutine)

    pub form_sets : (block at v : ℕ) (i : Instr) → slice_get (instrs_of (function_in e func) block) at ≡ Some i
        → result_of i ≡ Some v → SetsPlain (function_in e func) (e.shape func) block at i v
    form_sets = sets_plain e.code func (function_in e func) form_rules w.asking w.freeing w.form (e.shape func) w.shape

    pub form_plain : HasPlainAllocas e func
    form_plain place name ramp given a =
        plain_alloca e.code func (function_in e func) form_rules w.asking w.freeing w.form (e.shape func) w.shape place
        name a.align a.ty ramp given a.there

    pub form_frees : IsFreeing e func
    form_frees = frees_at_once (function_in e func) w.asking w.freeing (e.shape func) w.shape w.form.soon

  -- ---- of a module

  module _ (forms : AreFormed e) where
    pub shapes : ((func : ℕ) → frame_size e func < 2 ^ 32) → (func : ℕ)
        → (e.shape func ≡ no_shape) ⊎ HasShape e func
    shapes small func = ⊎_elim
        (λ (p : e.shape func ≡ no_shape). inl p)
        (λ (w : IsFormed e func). inr (has_shape e ruled func w (small func)))
        (forms func)

    pub sets : (func block at v : ℕ) (i : Instr) → slice_get (instrs_of (function_in e func) block) at ≡ Some i
        → result_of i ≡ Some v → SetsPlain (function_in e func) (e.shape func) block at i v
    sets func block at v i there one = ⊎_elim
        (λ (p : e.shape func ≡ no_shape). record {
          low = (once e.code ruled func).names (point block at) i v (at_point (function_in e func) block at i there)
              one;
          need = λ other. ap (λ (z : Shape). z.need v) p;
          freed = λ other. ap (λ (z : Shape). z.freed v) p;
          tested = λ other. ap (λ (z : Shape). z.tested v) p;
          kept = λ name held. absurd (none_holds (e.shape func) p block at name held);
        })
        (λ (w : IsFormed e func). form_sets func w block at v i there one)
        (forms func)

    pub phis : (func block : ℕ) → Each (SetsKnown (function_in e func) (e.shape func))
        (phis_at (function_in e func) block)
    phis func block = ⊎_elim
        (λ (p : e.shape func ≡ no_shape).
        each_listed (SetsKnown (function_in e func) (e.shape func)) (phis_at (function_in e func) block)
        (λ z l. record {
          known = of_listed (λ (y : Phi). y.result < length (function_in e func).names)
              (phis_at (function_in e func) block) ((once e.code ruled func).phi_names block) z l;
          answers = record {
            need = ap (λ (y : Shape). y.need z.result) p;
            freed = ap (λ (y : Shape). y.freed z.result) p;
            tested = ap (λ (y : Shape). y.tested z.result) p;
          };
        }))
        (λ (w : IsFormed e func). sets_known e ruled func w block)
        (forms func)

    pub plain : (func : ℕ) → HasPlainAllocas e func
    plain func place name ramp given a = ⊎_elim
        (λ (p : e.shape func ≡ no_shape). none_differs (e.shape func) p ramp given name)
        (λ (w : IsFormed e func). form_plain func w place name ramp given a)
        (forms func)

    pub wakes : (func : ℕ) → GivesNone e func → WakesAlike e func
    wakes func none = ⊎_elim
        (λ (p : e.shape func ≡ no_shape). record {
          none = none;
          begins = λ v freed begin. none_freed (e.shape func) p v freed;
          phis = λ v freed block. absurd (none_freed (e.shape func) p v freed);
        })
        (λ (w : IsFormed e func). wakes_alike e ruled func w none)
        (forms func)

    pub starts : (func : ℕ) → HasShape e func → StartsAlike e func
    starts func k = ⊎_elim
        (λ (p : e.shape func ≡ no_shape).
        absurd (none_waits (e.shape func) p k.asks.allocates k.asks.asks k.asks.waits))
        (λ (w : IsFormed e func). starts_alike e ruled func w)
        (forms func)

    pub waits : (func : ℕ) → WaitsBehind (function_in e func) (e.shape func)
    waits func = ⊎_elim
        (λ (p : e.shape func ≡ no_shape). record {
          asks = λ k. absurd (none_waits (e.shape func) p k.allocates k.asks k.waits);
          tests = λ q. absurd (none_frees (e.shape func) p q.frees q.tests q.waits);
        })
        (λ (w : IsFormed e func). form_waits_behind e ruled func w)
        (forms func)

    pub enters : (func : ℕ) → EntersAlone (function_in e func) (e.shape func)
    enters func = ⊎_elim
        (λ (p : e.shape func ≡ no_shape). record {
          entry = enters_no_start e.code (all_rules e.code ruled) func;
          into_after = λ k block label edge leads.
              absurd (none_waits (e.shape func) p k.allocates k.asks k.waits);
          into_beside = λ k block label edge leads.
              absurd (none_waits (e.shape func) p k.allocates k.asks k.waits);
          into_freed = λ q aside block label edge leads.
              absurd (none_frees (e.shape func) p q.frees q.tests q.waits);
          into_tested = λ q aside block label edge leads.
              absurd (none_frees (e.shape func) p q.frees q.tests q.waits);
          unfreed = λ q aside. absurd (none_frees (e.shape func) p q.frees q.tests q.waits);
          allocates = λ k. absurd (none_waits (e.shape func) p k.allocates k.asks k.waits);
        })
        (λ (w : IsFormed e func). form_enters_alone e ruled func w)
        (forms func)

    pub freeing : (func block other : ℕ) → (e.shape func).frees block ≡ Some other → KeepsFreeing e func block
    freeing func block other told = ⊎_elim
        (λ (p : e.shape func ≡ no_shape). absurd (none_frees (e.shape func) p block other told))
        (λ (w : IsFormed e func). keeps_freeing e ruled func w block other told)
        (forms func)

    pub tests : (func block at name : ℕ) (pred : Pred) (ty : Ty) (a b : Operand) (is_eq : Bool)
        → slice_get (instrs_of (function_in e func) block) at ≡ Some (Instr.Icmp name pred ty a b)
        → (e.shape func).tested name ≡ Some is_eq → KeepsTest e func name pred ty a b
    tests func block at name pred ty a b is_eq stands told = ⊎_elim
        (λ (p : e.shape func ≡ no_shape). absurd (none_tested (e.shape func) p name is_eq told))
        (λ (w : IsFormed e func). keeps_test e ruled func w block at name pred ty a b is_eq stands told)
        (forms func)

    pub asides : (func block other : ℕ) → (e.shape func).aside block ≡ Some other → KeepsAside e func block other
    asides func block other told = ⊎_elim
        (λ (p : e.shape func ≡ no_shape). absurd (none_aside (e.shape func) p block other told))
        (λ (w : IsFormed e func). keeps_aside e ruled func w block other told)
        (forms func)

    pub allocations : (func : ℕ) (k : HasShape e func) → PassesAllocation e func k
    allocations func k = ⊎_elim
        (λ (p : e.shape func ≡ no_shape).
        absurd (none_waits (e.shape func) p k.asks.allocates k.asks.asks k.asks.waits))
        (λ (w : IsFormed e func). passes_allocation e ruled func w k)
        (forms func)

    pub frees : (func block other : ℕ) → (e.shape func).frees block ≡ Some other → PassesFree e func block
    frees func block other told = ⊎_elim
        (λ (p : e.shape func ≡ no_shape). absurd (none_frees (e.shape func) p block other told))
        (λ (w : IsFormed e func). passes_free e ruled func w block other told)
        (forms func)
