-- Good layouts are those of the coroutines in order, also of the framed form.
use Rattle.std.proofs.Common.{◌≡◌, inl, inr, ℕ, ◌+◌, Bool, List, [], ◌∷◌, ap, ◌∙◌}
use Rattle.std.specs.Prelude.{map}
use Rattle.compiler_theorem.proofs.parts.Found.{found_in_order}
use Rattle.compiler_theorem.specs.theorem.GoodLayouts.{AreGoodLayouts}
use Rattle.compiler.specs.frame_layout.declared.layout.Layout.{Layout}
use Rattle.compiler.specs.frame_layout.declared.layout.Layouts.{Layouts}
use Rattle.compiler.specs.ir_base.declared.name.Name.{Name}
use Rattle.compiler.specs.ir_laws.facts.same_names.Same.{naming}
use Rattle.compiler.specs.ir_model.declared.module.Function.{Function}
use Rattle.compiler.specs.ir_model.declared.module.Module.{Module}
use Rattle.compiler.specs.pass_frames.Framed.{IsFramedForm}
use Rattle.compiler.proofs.pass_proofs.frames.headings.Headings.{framed_names}
use Rattle.pass_split_proof.specs.ready.Layouts.{AreLayoutsOf}

-- ---- framed forms

same_first : (f g : Function) (fs gs : List Function) → map naming (g ∷ gs) ≡ map naming (f ∷ fs)
    → (g.coroutine ≡ f.coroutine) × (map naming gs ≡ map naming fs)
same_first f g fs gs e =
    let first : naming g ≡ naming f = cc in
    let rest : map naming gs ≡ map naming fs = cc in
    (ap (λ (n : Name × Bool). n.1) first, rest)

-- layouts in order go by which functions are coroutines
by_names : (k : ℕ) (fs gs : List Function) (ls : List Layout) → map naming gs ≡ map naming fs → AreLayoutsOf k fs ls
    → AreLayoutsOf k gs ls
by_names k [] [] ls e h = h
by_names k [] (g ∷ gs) ls e h = absurd (cc)
by_names k (f ∷ fs) [] ls e h = absurd (cc)
by_names k (f ∷ fs) (g ∷ gs) [] e h =
    let x = same_first f g fs gs e in
    (x.0 ∙ h.0, by_names (k + 1) fs gs [] x.1 h.1)
by_names k (f ∷ fs) (g ∷ gs) (l ∷ ls) e (inl h) =
    let x = same_first f g fs gs e in
    inl (x.0 ∙ h.0, by_names (k + 1) fs gs (l ∷ ls) x.1 h.1)
by_names k (f ∷ fs) (g ∷ gs) (l ∷ ls) e (inr h) =
    let x = same_first f g fs gs e in
    inr (x.0 ∙ h.0, h.1, by_names (k + 1) fs gs ls x.1 h.2)

pub framed_in_order : (layouts : Layouts) (m n : Module) → IsFramedForm layouts m n
    → AreGoodLayouts m layouts.coroutines → AreLayoutsOf 0 n.functions layouts.coroutines
framed_in_order layouts m n is good =
    by_names 0 m.functions n.functions layouts.coroutines (framed_names layouts m n is).functions
    (found_in_order m 0 m.functions layouts.coroutines good)
