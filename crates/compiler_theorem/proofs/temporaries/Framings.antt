-- What is no coroutine has no temporaries.
use Rattle.std.proofs.Common.{◌≡◌, ℕ, zero, suc, Bool, true, false, List, [], ◌∷◌, ◌++◌, length, Option, Some}
use Rattle.std.proofs.Common.{refl, sym, ap, ◌∙◌, subst, if◌then◌else◌, ◌==◌, arith}
use Rattle.std.specs.List.{Contains}
use Rattle.std.specs.Prelude.{slice_get, unwrap_or}
use Rattle.compiler_theorem.specs.theorem.Built.{building, framing_in, no_framing}
use Rattle.compiler_theorem.specs.theorem.Entries.{Run}
use Rattle.compiler_theorem.specs.theorem.Lowered.{IsLowered, Lowered, early}
use Rattle.compiler.specs.frame_layout.declared.layout.Layout.{Layout}
use Rattle.compiler.specs.ir_model.Names.{function_at, no_function}
use Rattle.compiler.specs.ir_model.declared.module.Function.{Function}
use Rattle.compiler.specs.ir_model.declared.module.Module.{Module}
use Rattle.compiler.specs.pass_cells.Cells.{fetched_function}
use Rattle.compiler.specs.pass_copies.declared.slot.EarlySlot.{EarlySlot}
use Rattle.compiler.specs.pass_frames.Framed.{AreFramed, Coroutine, NoneYet, Other, layout_at}
use Rattle.pass_frames_meaning.proofs.pass_frames_proof.lines.Cells.{contained}
use Rattle.pass_frames_meaning.specs.pass_frames_proof.Places.{Framing, copies, framing_of}

none_early : (m : Module) (e : EarlySlot) → Contains (copies (no_framing m)).slots e → ⊥
unfolding fetched_function
none_early m e c = contained (copies (no_framing m)).slots e c

in_front : (fs gs : List Function) (k : ℕ) (f : Function) → slice_get fs k ≡ Some f → slice_get (fs ++ gs) k ≡ Some f
in_front [] gs k f e = absurd (cc)
in_front (g ∷ fs) gs zero f e = e
in_front (g ∷ fs) gs (suc k) f e = in_front fs gs k f e

last_one : (fs : List Function) (f : Function) → slice_get (fs ++ f ∷ []) (length fs) ≡ Some f
last_one [] f = refl
last_one (g ∷ fs) f = last_one fs f

not_here : (f : Function) → f.coroutine ≡ true → f.coroutine ≡ false → ⊥
not_here f is plain = let no : true ≡ false = sym is ∙ plain in absurd (cc)

module _ (m : Module) (ls : List Layout) (k : ℕ) where
  plain_framing : (c : ℕ) (fs gs : List Function) (h : AreFramed m ls c fs gs)
      → ((f : Function) → slice_get fs k ≡ Some f → f.coroutine ≡ false) → framing_in m ls c fs gs h k ≡ no_framing m
  plain_framing _ _ _ NoneYet plain = refl
  plain_framing _ _ _ (Other c f fs gs rest is) plain =
      plain_framing c fs gs rest (λ g e. plain g (in_front fs (f ∷ []) k g e))
  plain_framing _ _ _ (Coroutine c f g fs gs rest coroutine is) plain =
      on (k == length fs) refl (plain_framing c fs gs rest (λ h d. plain h (in_front fs (f ∷ []) k h d)))
    where
      same_number : (a b : ℕ) → (a == b) ≡ true → a ≡ b
      same_number a b e = grind arith

      on : (b : Bool) → (k == length fs) ≡ b → framing_in m ls c fs gs rest k ≡ no_framing m
          → (if b then framing_of m (layout_at ls c) f g is else framing_in m ls c fs gs rest k) ≡ no_framing m
      on true e d = absurd (not_here f coroutine (plain f
          (ap (slice_get (fs ++ f ∷ [])) (same_number k (length fs) e) ∙ last_one fs f)))
      on false e d = d

module _ (l : Lowered) (low : IsLowered l) (r : Run) where
  pub plain_has_none : (func : ℕ) → (function_at (early l) func).coroutine ≡ false → (e : EarlySlot)
      → Contains (copies ((building l low.is_framed r.answers).framing func)).slots e → ⊥
  plain_has_none func plain e c =
      none_early (early l) e
      (subst (λ (x : Framing). Contains (copies x).slots e)
      (plain_framing (early l) l.layouts.coroutines func low.is_framed.functions.count (early l).functions
      l.framed.functions low.is_framed.functions.framed
      (λ f there. ap (λ (g : Function). g.coroutine)
      (sym (ap (λ (o : Option Function). unwrap_or o no_function) there))
      ∙ plain)) c)
