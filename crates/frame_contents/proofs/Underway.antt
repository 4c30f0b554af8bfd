-- Layouts of the first functions.
use Rattle.std.proofs.Common.{◌≡◌, ℕ, zero, suc, ◌+◌, ◌<◌, ◌≤◌, Bool, List, [], ◌∷◌, ◌++◌, length, drop, get_or, Some, Ok, Err, Result, sym, ap, ◌∙◌, subst, ⊎_elim, append_assoc, append-nil, arith}
use Rattle.std.specs.Prelude.{slice_get, IsTrue, IsFalse}
use Rattle.std.proofs.lemmas.List.{drop_all}
use Rattle.std.proofs.lemmas.Option.{same_Some, slice_get-get_or}
use Rattle.frame_contents.specs.Frames.{AreLaid, AreLayouts, IsLayout, IsPushed, IsTooLarge, NoMore, Other, Coroutine, Here, BehindOther, BehindFrame}
use Rattle.frame_contents.specs.declared.module_frames.LayoutsError.{LayoutsError}
use Rattle.frame_layout.specs.declared.layout.Layout.{Layout}
use Rattle.ir_model.specs.declared.module.Function.{Function}
use Rattle.ir_model.specs.declared.module.Module.{Module}

-- with what is laid of the functions from the k-th on, the layouts so far are those of all; and a frame among those that is too large is the first
pub record IsUnderway (m : Module) (share : Bool) (fs : List Function) (k : ℕ) (all : List Layout) : Type 0 where
  pub laid : (rest : List Layout) → AreLaid m share k (drop k fs) rest → AreLaid m share 0 fs (all ++ rest)
  pub fails : (n : ℕ) → IsTooLarge m share n k (drop k fs) → IsTooLarge m share n 0 fs

pub begun : (m : Module) (share : Bool) (fs : List Function) (all : List Layout) → all ≡ [] → IsUnderway m share fs 0 all
begun m share fs all none = record {
  laid = λ rest h. subst (AreLaid m share 0 fs) (ap (λ (l : List Layout). l ++ rest) (sym none)) h;
  fails = λ n h. h;
}

pub split : {A : Type 0} (xs : List A) (k : ℕ) (x : A) → slice_get xs k ≡ Some x → drop k xs ≡ x ∷ drop (suc k) xs
split [] k x e = absurd (cc)
split (y ∷ ys) zero x e = ap (λ z. z ∷ ys) (same_Some y x e)
split (y ∷ ys) (suc k) x e = split ys k x e

pub cut : {A : Type 0} (xs : List A) (k : ℕ) (x : A) → slice_get xs k ≡ Some x → drop k xs ≡ x ∷ drop (k + 1) xs
cut xs k x e = let one : suc k ≡ k + 1 = omega arith in split xs k x e ∙ ap (λ (n : ℕ). x ∷ drop n xs) one

passed : (m : Module) (share : Bool) (fs : List Function) (k : ℕ) (f : Function) (old new : List Layout) → IsUnderway m share fs k old → slice_get fs k ≡ Some f → IsFalse f.coroutine → new ≡ old → IsUnderway m share fs (k + 1) new
passed m share fs k f old new u at is same = record {
  laid = λ rest h. subst (λ (l : List Layout). AreLaid m share 0 fs (l ++ rest)) (sym same)
      (u.laid rest (subst (λ (l : List Function). AreLaid m share k l rest) (sym (cut fs k f at)) (Other k f (drop (k + 1) fs) rest is h)));
  fails = λ n h. u.fails n (subst (IsTooLarge m share n k) (sym (cut fs k f at)) (BehindOther k f (drop (k + 1) fs) is h));
}

added : (m : Module) (share : Bool) (fs : List Function) (k : ℕ) (f : Function) (old new : List Layout) (layout : Layout) → IsUnderway m share fs k old → slice_get fs k ≡ Some f → IsTrue f.coroutine →
    IsLayout m share k f (Ok layout) → new ≡ old ++ layout ∷ [] → IsUnderway m share fs (k + 1) new
added m share fs k f old new layout u at is known grown = record {
  laid = λ rest h. subst (λ (l : List Layout). AreLaid m share 0 fs (l ++ rest)) (sym grown)
      (subst (AreLaid m share 0 fs) (sym (append_assoc old (layout ∷ []) rest))
      (u.laid (layout ∷ rest) (subst (λ (l : List Function). AreLaid m share k l (layout ∷ rest)) (sym (cut fs k f at)) (Coroutine k f (drop (k + 1) fs) layout rest is known h))));
  fails = λ n h. u.fails n (subst (IsTooLarge m share n k) (sym (cut fs k f at)) (BehindFrame k f (drop (k + 1) fs) layout is known h));
}

pub kept : (m : Module) (share : Bool) (fs : List Function) (k : ℕ) (f : Function) (old new : List Layout) → IsUnderway m share fs k old → slice_get fs k ≡ Some f → IsPushed m share k f old new (Ok tt) → IsUnderway m share fs (k + 1) new
kept m share fs k f old new u at pushed = ⊎_elim
    (λ p. passed m share fs k f old new u at p.0 p.1)
    (λ p. added m share fs k f old new p.1.0 u at p.0 p.1.1 p.1.2)
    pushed

pub all_laid : (m : Module) (share : Bool) (fs : List Function) (k : ℕ) (all : List Layout) → fs ≡ m.functions → IsUnderway m share fs k all → length fs ≤ k → AreLaid m share 0 m.functions all
all_laid m share fs k all is u le =
    subst (λ (l : List Function). AreLaid m share 0 l all) is
    (subst (AreLaid m share 0 fs) (append-nil all) (u.laid [] (subst (λ (l : List Function). AreLaid m share k l []) (sym (drop_all k fs le)) (NoMore k))))

pub failed : (m : Module) (share : Bool) (fs : List Function) (k : ℕ) (f : Function) (old new : List Layout) (e : LayoutsError) → fs ≡ m.functions → IsUnderway m share fs k old → slice_get fs k ≡ Some f → IsPushed m share k f old new (Err e) → AreLayouts m share (Err e)
failed m share fs k f old new (LayoutsError.TooLarge n) is u at p =
    subst (λ (l : List Function). IsTooLarge m share n 0 l) is
    (subst (λ (x : ℕ). IsTooLarge m share x 0 fs) (sym p.0) (u.fails k (subst (IsTooLarge m share k k) (sym (cut fs k f at)) (Here f (drop (k + 1) fs) p.1 p.2))))
failed m share fs k f old new LayoutsError.OutOfMemory is u at p = tt

pub stands : {A : Type 0} (xs : List A) (k : ℕ) (x : A) → k < length xs → x ≡ get_or xs k x → slice_get xs k ≡ Some x
stands xs k x lt e = slice_get-get_or xs k x lt ∙ ap (λ z. Some z) (sym e)

pub kept_by : (m : Module) (share : Bool) (fs : List Function) (k : ℕ) (f : Function) (old new : List Layout) (r : Result (Unit {0}) LayoutsError) (u : Unit {0}) → IsUnderway m share fs k old → k < length fs → f ≡ get_or fs k f → r ≡ Ok u → IsPushed m share k f old new r → IsUnderway m share fs (k + 1) new
kept_by m share fs k f old new r u way lt at is pushed = kept m share fs k f old new way (stands fs k f lt at) (subst (IsPushed m share k f old new) is pushed)

pub failed_by : (m : Module) (share : Bool) (fs : List Function) (k : ℕ) (f : Function) (old new : List Layout) (r : Result (Unit {0}) LayoutsError) (e : LayoutsError) → fs ≡ m.functions → IsUnderway m share fs k old → k < length fs → f ≡ get_or fs k f → r ≡ Err e → IsPushed m share k f old new r →
    AreLayouts m share (Err e)
failed_by m share fs k f old new r e same way lt at is pushed = failed m share fs k f old new e same way (stands fs k f lt at) (subst (IsPushed m share k f old new) is pushed)
