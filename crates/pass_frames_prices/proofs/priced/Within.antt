-- The names of the function that has most, and the step factor's operands, bound those of each coroutine with blocks on
-- edges.
use Rattle.std.proofs.Common.{◌≡◌, ℕ, ◌+◌, ◌≤◌, true, false, Option, Some, None, refl, sym, ap, ◌∙◌, subst}
use Rattle.std.proofs.Common.{arith}
use Rattle.std.specs.Prelude.{option_map, slice_get, unwrap_or}
use Rattle.std.proofs.lemmas.Option.{slice_get-map}
use Rattle.pass_frames_proof.specs.ir_model.Names.{function_at, no_function}
use Rattle.pass_frames_proof.specs.ir_model.declared.module.Function.{Function}
use Rattle.pass_frames_proof.specs.ir_model.declared.module.Module.{Module}
use Rattle.pass_frames_proof.specs.pass_early.Early.{early_function, early_module}
use Rattle.pass_frames_proof.specs.pass_edges.EdgeBlocks.{with_edge_blocks}
use Rattle.pass_frames_prices.proofs.bounds.Edges.{edged_names}
use Rattle.pass_frames_prices.proofs.priced.Names.{early_function_names, most_counted, names_counted, names_in}
use Rattle.pass_frames_prices.proofs.priced.Short.{IsShort, edged_short, operands_in, operands_low, phis_in, phis_low}
use Rattle.pass_frames_prices.specs.FramePrices.{AreWithin, frames_factor}
use Rattle.pass_frames_prices.specs.Numbers.{most_names, names_of}
use Rattle.pass_frames_proof.specs.Places.{edged}
use Rattle.pass_frames_proof.specs.Related.{AreBuilt, Building, is_coroutine}
use Rattle.pass_frames_proof.specs.rule_types.Signatures.{first_otherwise}
use Rattle.pass_frames_proof.specs.run_agreement.Factor.{most_operands_of_functions, most_phis_of_functions, size_factor}
use Rattle.pass_frames_proof.specs.run_laws.changed.Changed.{Each}

module _ (b : Building) (m : Module) (built : AreBuilt b) (code : b.code ≡ early_module m) where
  abbrev operands : ℕ
  operands = most_operands_of_functions m.functions

  abbrev phis : ℕ
  phis = most_phis_of_functions m.functions

  -- what a coroutine comes from
  record ComesFrom (func : ℕ) : Type 0 where
    source : Function
    there : slice_get m.functions func ≡ Some source
    is : (b.framing func).function ≡ early_function source

  early_at : (func : ℕ) (o : Option Function) → slice_get m.functions func ≡ o
      → function_at (early_module m) func ≡ unwrap_or (option_map early_function o) no_function
  early_at func o e =
      ap (λ (z : Option Function). unwrap_or z no_function)
      (slice_get-map early_function m.functions func ∙ ap (option_map early_function) e)

  comes : (func : ℕ) → is_coroutine b func ≡ true → ComesFrom func
  comes func coroutine = on (slice_get m.functions func) refl
    where
      function_is : function_at b.code func ≡ function_at (early_module m) func
      function_is = ap (λ (n : Module). function_at n func) code

      on : (o : Option Function) → slice_get m.functions func ≡ o → ComesFrom func
      on None e =
          let z : false ≡ true =
          sym (ap (λ (f : Function). f.coroutine) (function_is ∙ early_at func None e)) ∙ coroutine in absurd (cc)
      on (Some f) e = record {
        source = f;
        there = e;
        is = (built.coroutines func coroutine).function ∙ function_is ∙ early_at func (Some f) e;
      }

  module _ (func : ℕ) (c : ComesFrom func) where
    edged_is : edged (b.framing func) ≡ with_edge_blocks (early_function c.source)
    edged_is = ap with_edge_blocks c.is

    names_few : names_of (edged (b.framing func)) ≤ most_names m.functions
    names_few =
        let a = ap names_of edged_is in
        let d = edged_names (early_function c.source) in
        let e = early_function_names c.source in
        let f = names_in m.functions func c.source c.there in
        omega (arith, a, d, e, f)

    short : Each (IsShort operands phis) (with_edge_blocks (early_function c.source)).blocks
    short = edged_short operands phis c.source (operands_in m.functions func c.source c.there)
        (phis_in m.functions func c.source c.there)

    short_here : Each (IsShort operands phis) (edged (b.framing func)).blocks
    short_here = subst (λ (f : Function). Each (IsShort operands phis) f.blocks) (sym edged_is) short

  pub within : AreWithin b (most_names m.functions) (operands + phis)
  within = record {
    each = λ func coroutine.
        let c : ComesFrom func = comes func coroutine in
        record {
          few = names_few func c;
          operand = λ k at i e.
              let a = operands_low operands phis (edged (b.framing func)) (short_here func c) k at i e in
              omega (arith, a);
          phi = λ k. let a = phis_low operands phis (edged (b.framing func)) (short_here func c) k in omega (arith, a);
        };
  }

-- the factor is at most the step factor's
pub factor_less : (m : Module)
    → ((k : ℕ) (f : Function) → slice_get m.functions k ≡ Some f → first_otherwise m k f ≡ None)
    → frames_factor m ≤ size_factor m
factor_less m calls =
    let a = most_counted m.functions (λ k f e. names_counted m k f (calls k f e)) in omega (arith, a)
