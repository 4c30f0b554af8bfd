-- The functions of a framed form, one for one with those of the module.
use Rattle.std.proofs.Common.{◌≡◌, ◌⊎◌, ⊎_elim, inl, inr, ℕ, zero, suc, List, [], ◌∷◌, ◌++◌, length, refl, sym, ap, ◌∙◌, subst}
use Rattle.std.specs.Prelude.{Some, IsFalse, IsTrue, slice_get}
use Rattle.pass_exits_proof.specs.frame_layout.declared.layout.Layout.{Layout}
use Rattle.ir_model.specs.declared.module.Function.{Function}
use Rattle.ir_model.specs.declared.module.Module.{Module}
use Rattle.pass_frames.specs.Framed.{AreFramed, Coroutine, IsFramedCoroutine, NoneYet, Other, layout_at}
use Rattle.pass_exits_proof.proofs.ir_laws.facts.Lists.{one_longer}

-- the last of a list, or one before it
last_or_before : {A : Type 0} (xs : List A) (x : A) (k : ℕ) (y : A) → slice_get (xs ++ x ∷ []) k ≡ Some y → (slice_get xs k ≡ Some y) ⊎ ((k ≡ length xs) × (x ≡ y))
last_or_before [] x zero y e = inr (refl, cc)
last_or_before [] x (suc k) y e = absurd (cc)
last_or_before (z ∷ xs) x zero y e = inl e
last_or_before (z ∷ xs) x (suc k) y e = ⊎_elim (λ h. inl h) (λ h. inr (ap suc h.0, h.1)) (last_or_before xs x k y e)

stays : {A : Type 0} (xs ys : List A) (k : ℕ) (y : A) → slice_get xs k ≡ Some y → slice_get (xs ++ ys) k ≡ Some y
stays [] ys k y e = absurd (cc)
stays (x ∷ xs) ys zero y e = e
stays (x ∷ xs) ys (suc k) y e = stays xs ys k y e

at_end : {A : Type 0} (xs : List A) (x : A) → slice_get (xs ++ x ∷ []) (length xs) ≡ Some x
at_end [] x = refl
at_end (y ∷ xs) x = at_end xs x

-- what a function at a position has become
pub data Becomes (m : Module) (layouts : List Layout) (f : Function) : Function → Type 0 where
  Unchanged : IsFalse f.coroutine → Becomes m layouts f f
  FramedBy : (taken : ℕ) (g : Function) → IsTrue f.coroutine → IsFramedCoroutine m (layout_at layouts taken) f g → Becomes m layouts f g

pub record StandsAs (m : Module) (layouts : List Layout) (fs : List Function) (k : ℕ) (g : Function) : Type 0 where
  pub source : Function
  pub stands : slice_get fs k ≡ Some source
  pub becomes : Becomes m layouts source g

same_length : (m : Module) (layouts : List Layout) (c : ℕ) (fs gs : List Function) → AreFramed m layouts c fs gs → length gs ≡ length fs
same_length m layouts _ _ _ NoneYet = refl
same_length m layouts _ _ _ (Other k f fs gs rest plain) = one_longer gs f ∙ ap suc (same_length m layouts k fs gs rest) ∙ sym (one_longer fs f)
same_length m layouts _ _ _ (Coroutine k f g fs gs rest coroutine is) = one_longer gs g ∙ ap suc (same_length m layouts k fs gs rest) ∙ sym (one_longer fs f)

module _ (m : Module) (layouts : List Layout) where
  further : (fs : List Function) (f : Function) (k : ℕ) (g : Function) → StandsAs m layouts fs k g → StandsAs m layouts (fs ++ f ∷ []) k g
  further fs f k g h = record { source = h.source; stands = stays fs (f ∷ []) k h.source h.stands; becomes = h.becomes }

  -- one function more on both sides
  one_more : (fs gs : List Function) (f h : Function) (k : ℕ) (g : Function) → length gs ≡ length fs → Becomes m layouts f h → (slice_get gs k ≡ Some g → StandsAs m layouts fs k g) → slice_get (gs ++ h ∷ []) k ≡ Some g → StandsAs m layouts (fs ++ f ∷ []) k g
  one_more fs gs f h k g lengths b before e =
      ⊎_elim
      (λ there. further fs f k g (before there))
      (λ last.
      record {
        source = f;
        stands = ap (slice_get (fs ++ f ∷ [])) (last.0 ∙ lengths) ∙ at_end fs f;
        becomes = subst (Becomes m layouts f) last.1 b;
      })
      (last_or_before gs h k g e)

  pub stands_as : (c : ℕ) (fs gs : List Function) → AreFramed m layouts c fs gs → (k : ℕ) (g : Function) → slice_get gs k ≡ Some g → StandsAs m layouts fs k g
  stands_as _ _ _ NoneYet k g e = absurd (cc)
  stands_as _ _ _ (Other c f fs gs rest plain) k g e = one_more fs gs f f k g (same_length m layouts c fs gs rest) (Unchanged plain) (stands_as c fs gs rest k g) e
  stands_as _ _ _ (Coroutine c f h fs gs rest coroutine is) k g e = one_more fs gs f h k g (same_length m layouts c fs gs rest) (FramedBy c h coroutine is) (stands_as c fs gs rest k g) e
