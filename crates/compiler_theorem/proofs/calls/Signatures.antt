-- Functions that are no coroutines keep their names and types where coroutines are split.
use Rattle.std.proofs.Common.{◌≡◌, ℕ, zero, suc, ◌+◌, Bool, true, false, List, [], ◌∷◌, ◌++◌, Some, length, refl, ap, ◌∙◌, subst}
use Rattle.std.specs.Prelude.{if◌then◌else◌, slice_get}
use Rattle.compiler.proofs.ir_laws.facts.Lists.{get_behind}
use Rattle.compiler.specs.frame_layout.declared.layout.Layout.{Layout}
use Rattle.compiler.specs.frame_layout.declared.layout.Layouts.{Layouts}
use Rattle.compiler.specs.ir_model.declared.module.Function.{Function}
use Rattle.compiler.specs.ir_model.declared.module.Module.{Module}
use Rattle.compiler.specs.pass_exits.ExitBlocks.{with_exit_blocks}
use Rattle.compiler.specs.pass_split.Given.{has_given_call}
use Rattle.compiler.specs.pass_split.Parts.{first_layout, layouts_after, marked_parts, plain_of, plain_shape, split_function, split_functions, split_module}
use Rattle.compiler_theorem.specs.Calls.{HasFunctionLike, KeepsSignatures}

at_front : (l : Layout) (given b : Bool) (f : Function) (rest : List Function) → b ≡ false
    → HasFunctionLike f ((if b then marked_parts l given (with_exit_blocks f) else plain_of (plain_shape f) f ∷ []) ++ rest)
at_front l given true f rest d = absurd (cc)
at_front l given false f rest d =
    record { at = 0; function = plain_of (plain_shape f) f; there = refl; name = refl; result = refl; params = refl }

stands : (ls : List Layout) (m : Module) (fs : List Function) (k : ℕ) (f : Function) → slice_get fs k ≡ Some f
    → f.coroutine ≡ false → HasFunctionLike f (split_functions ls m fs)
stands ls m [] k f e d = absurd (cc)
stands ls m (g ∷ fs) zero f e d =
    let same : g ≡ f = cc in
    subst (λ (x : Function). HasFunctionLike x (split_functions ls m (g ∷ fs))) same
    (at_front (first_layout ls) (has_given_call m g) g.coroutine g (split_functions (layouts_after g ls) m fs)
    (ap (λ (x : Function). x.coroutine) same ∙ d))
stands ls m (g ∷ fs) (suc k) f e d =
    let x = stands (layouts_after g ls) m fs k f e d in
    let here : List Function = split_function (first_layout ls) (has_given_call m g) g in
    record {
      at = length here + x.at;
      function = x.function;
      there = get_behind here (split_functions (layouts_after g ls) m fs) x.at ∙ x.there;
      name = x.name;
      result = x.result;
      params = x.params;
    }

pub signatures_kept : (ls : Layouts) (m : Module) → KeepsSignatures m (split_module ls m)
signatures_kept ls m k f there d = stands ls.coroutines m m.functions k f there d
