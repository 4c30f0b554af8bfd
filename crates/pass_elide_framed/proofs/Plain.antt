-- Functions that are no coroutines are in the framed form what they are in the source, and names stay.
use Rattle.std.proofs.Common.{◌≡◌, ℕ, suc, Bool, false, List, [], ◌∷◌, refl, sym, ap, ◌∙◌}
use Rattle.std.proofs.lemmas.Option.{slice_get-map}
use Rattle.std.specs.Prelude.{None, Option, Some, map, option_map, slice_get, unwrap_or, if◌then◌else◌}
use Rattle.compiler_theorem.proofs.compiler.ir_laws.facts.Truth.{not_both}
use Rattle.compiler_theorem.proofs.compiler.pass_proofs.early.widths.Headings.{early_names}
use Rattle.compiler_theorem.proofs.compiler.pass_proofs.frames.headings.Headings.{framed_names}
use Rattle.compiler_theorem.proofs.compiler.pass_proofs.frames.unnamed.Positions.{Becomes, FramedBy, Unchanged, stands_as}
use Rattle.compiler_theorem.specs.compiler.ir_base.declared.name.Name.{Name}
use Rattle.compiler_theorem.specs.compiler.ir_laws.facts.same_names.Same.{naming}
use Rattle.compiler_theorem.specs.compiler.ir_model.Names.{first_where, function_at, function_named, no_function, same_name}
use Rattle.compiler_theorem.specs.compiler.ir_model.declared.module.Function.{Function}
use Rattle.compiler_theorem.specs.compiler.pass_early.Early.{early_function, early_named}
use Rattle.compiler_theorem.specs.compiler.pass_early.BeginName.{with_begin_name}
use Rattle.compiler_theorem.specs.theorem.Lowered.{IsLowered, Lowered, early}

named_alike : (x : Name) (fs gs : List Function) → map naming gs ≡ map naming fs
    → first_where (λ (f : Function). same_name f.name x) gs ≡ first_where (λ (f : Function). same_name f.name x) fs
named_alike x [] [] e = refl
named_alike x [] (g ∷ gs) e = absurd (cc)
named_alike x (f ∷ fs) [] e = absurd (cc)
named_alike x (f ∷ fs) (g ∷ gs) e =
    let one : naming g ≡ naming f = cc in
    let rest : map naming gs ≡ map naming fs = cc in
    λ i. if same_name (one i).0 x then Some 0 else option_map suc (named_alike x fs gs rest i)

module _ (l : Lowered) (low : IsLowered l) where
  names_same : map naming l.framed.functions ≡ map naming l.source.functions
  names_same = (framed_names l.layouts (early l) l.framed low.is_framed).functions
      ∙ (early_names l.source).functions

  pub names_stay : (n : Name) → function_named l.framed n ≡ function_named l.source n
  names_stay n = named_alike n l.source.functions l.framed.functions names_same

  early_plain : (f : Function) → f.coroutine ≡ false → early_function f ≡ f
  early_plain f plain = ap (λ (b : Bool). if b then early_named (with_begin_name f) else f) plain

  framed_plain : (f g : Function) → Becomes (early l) l.layouts.coroutines f g → f.coroutine ≡ false → g ≡ f
  framed_plain f _ (Unchanged plain) c = refl
  framed_plain f g (FramedBy taken _ marked framed) c = absurd (not_both f.coroutine c marked)

  -- where the framed form has no function the other one has none
  pub none_early : (func : ℕ) → slice_get l.framed.functions func ≡ None → slice_get (early l).functions func ≡ None
  none_early func e = on (slice_get (early l).functions func) refl
      (sym (slice_get-map naming (early l).functions func)
      ∙ sym (ap (λ (xs : List (Name × Bool)). slice_get xs func)
      (framed_names l.layouts (early l) l.framed low.is_framed).functions)
      ∙ slice_get-map naming l.framed.functions func ∙ ap (option_map naming) e)
    where
      on : (o : Option Function) → slice_get (early l).functions func ≡ o → option_map naming o ≡ None
          → slice_get (early l).functions func ≡ None
      on None d h = d
      on (Some f) d h = absurd (cc)

  pub framed_at : (func : ℕ) → (function_at (early l) func).coroutine ≡ false
      → function_at l.framed func ≡ function_at (early l) func
  framed_at func plain = on (slice_get l.framed.functions func) refl
    where
      on : (o : Option Function) → slice_get l.framed.functions func ≡ o
          → unwrap_or o no_function ≡ function_at (early l) func
      on None e = sym (ap (λ (o : Option Function). unwrap_or o no_function) (none_early func e))
      on (Some g) e =
          let x = stands_as (early l) l.layouts.coroutines low.is_framed.functions.count (early l).functions
          l.framed.functions low.is_framed.functions.framed func g e in
          let was : function_at (early l) func ≡ x.source =
          ap (λ (o : Option Function). unwrap_or o no_function) x.stands in
          framed_plain x.source g x.becomes (sym (ap (λ (f : Function). f.coroutine) was) ∙ plain) ∙ sym was

  early_at : (func : ℕ) → (function_at l.source func).coroutine ≡ false
      → function_at (early l) func ≡ function_at l.source func
  early_at func plain =
      ap (λ (o : Option Function). unwrap_or o no_function) (slice_get-map early_function l.source.functions func)
      ∙ on (slice_get l.source.functions func) plain
    where
      on : (o : Option Function) → (unwrap_or o no_function).coroutine ≡ false
          → unwrap_or (option_map early_function o) no_function ≡ unwrap_or o no_function
      on None c = refl
      on (Some f) c = early_plain f c

  pub plain_stays : (func : ℕ) → (function_at l.source func).coroutine ≡ false
      → function_at l.framed func ≡ function_at l.source func
  plain_stays func plain =
      let one = early_at func plain in
      framed_at func (ap (λ (f : Function). f.coroutine) one ∙ plain) ∙ one

  pub framed_named : (n : Name) → function_named l.framed n ≡ function_named (early l) n
  framed_named n = named_alike n (early l).functions l.framed.functions
      (framed_names l.layouts (early l) l.framed low.is_framed).functions
