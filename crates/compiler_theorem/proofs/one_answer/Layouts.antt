-- The layouts of a module's coroutines are one list, or one coroutine is the first whose frame is too large.
use Rattle.std.proofs.Common.{◌≡◌, ◌≢◌, ℕ, ◌+◌, Bool, true, false, List, [], ◌∷◌, Result, Ok, Err, refl, sym, ◌∙◌, subst}
use Rattle.std.proofs.lemmas.Bool.{false≢true}
use Rattle.compiler_theorem.proofs.one_answer.Ordered.{pairs_one}
use Rattle.compiler_theorem.proofs.one_answer.Placings.{IsKnown, laid_out_one, laid_out_plain_one}
use Rattle.compiler_theorem.proofs.theorem.shown.Contents.{classes_once, crossing_once}
use Rattle.compiler.specs.frame_conflicts.Conflicts.{AliveAt, ConflictAt}
use Rattle.compiler.specs.frame_contents.Frames.{AreLaid, AreLayouts, IsFrame, IsLaid, IsLayout, IsShared, IsTooLarge, conflicts_of}
use Rattle.compiler.specs.frame_contents.Held.{fields_of, held_of}
use Rattle.compiler.specs.frame_contents.declared.held.Holding.{Holding}
use Rattle.compiler.specs.frame_contents.declared.module_frames.LayoutsError.{LayoutsError}
use Rattle.compiler.specs.frame_crossing.Values.{values_of}
use Rattle.compiler.specs.frame_layout.Layouts.{IsLaidOut}
use Rattle.compiler.specs.frame_layout.declared.layout.Layout.{Layout}
use Rattle.compiler.specs.frame_layout.declared.layout.Layouts.{Layouts}
use Rattle.compiler.specs.frame_layout.declared.laying.LayoutError.{LayoutError}
use Rattle.compiler.specs.ir_model.declared.module.Function.{Function}
use Rattle.compiler.specs.ir_model.declared.module.Module.{Module}
use Rattle.compiler.specs.ir_paths.Slots.{allocas_of}

-- ---- one coroutine

shared_one : (f : Function) (func : ℕ) (held : List Holding) (crossing : List (ℕ × ℕ)) (r s : Result Layout LayoutError)
    → IsKnown r → IsKnown s → IsShared f func held crossing r → IsShared f func held crossing s → r ≡ s
shared_one f func held crossing r s x y p q =
    let alive : p.alive ≡ q.alive = pairs_one (AliveAt f) p.alive q.alive p.alive_are q.alive_are in
    let conflicts : p.conflicts ≡ q.conflicts =
    pairs_one (ConflictAt f) p.conflicts q.conflicts p.conflicts_are q.conflicts_are in
    let same : conflicts_of f held crossing p.alive p.conflicts ≡ conflicts_of f held crossing q.alive q.conflicts =
    λ i. conflicts_of f held crossing (alive i) (conflicts i) in
    laid_out_one func (fields_of f held) (conflicts_of f held crossing p.alive p.conflicts) r s x y p.laid
    (subst (λ (c : List (ℕ × ℕ)). IsLaidOut func (fields_of f held) c s) (sym same) q.laid)

laid_one : (share : Bool) (f : Function) (func : ℕ) (held : List Holding) (crossing : List (ℕ × ℕ))
    (r s : Result Layout LayoutError) → IsKnown r → IsKnown s → IsLaid share f func held crossing r
    → IsLaid share f func held crossing s → r ≡ s
laid_one true f func held crossing r s x y p q = shared_one f func held crossing r s x y p q
laid_one false f func held crossing r s x y p q = laid_out_plain_one func (fields_of f held) r s x y p q

module _ (m : Module) (share : Bool) where
  frame_one : (func : ℕ) (f : Function) (held other : List Holding) (r s : Result Layout LayoutError) → IsKnown r
      → IsKnown s → IsFrame m share func f held r → IsFrame m share func f other s → r ≡ s
  frame_one func f held other r s x y p q =
      let crossing : p.crossing ≡ q.crossing =
      crossing_once f (values_of f) p.crossing q.crossing p.crossing_are q.crossing_are in
      let one = p.classes_are in
      let two = q.classes_are in
      let classes : p.classes ≡ q.classes =
      classes_once f (allocas_of f) p.classes q.classes one.count two.count one.each two.each in
      let both : held_of m f p.classes p.crossing ≡ held_of m f q.classes q.crossing =
      λ i. held_of m f (classes i) (crossing i) in
      let same : held ≡ other = p.held_are ∙ both ∙ sym q.held_are in
      laid_one share f func held p.crossing r s x y p.laid
      (subst (λ (h : List Holding). IsLaid share f func h p.crossing s) (sym same)
      (subst (λ (c : List (ℕ × ℕ)). IsLaid share f func other c s) (sym crossing) q.laid))

  layout_one : (func : ℕ) (f : Function) (r s : Result Layout LayoutError) → IsKnown r → IsKnown s
      → IsLayout m share func f r → IsLayout m share func f s → r ≡ s
  layout_one func f r s x y p q = frame_one func f p.held q.held r s x y p.frame q.frame

  same_layout : (func : ℕ) (f : Function) (l k : Layout) → IsLayout m share func f (Ok l)
      → IsLayout m share func f (Ok k) → l ≡ k
  same_layout func f l k p q =
      let same : ◌≡◌ {A = Result Layout LayoutError} (Ok l) (Ok k) = layout_one func f (Ok l) (Ok k) tt tt p q in
      cc

  never_both : (func : ℕ) (f : Function) (l : Layout) → IsLayout m share func f (Ok l)
      → IsLayout m share func f (Err LayoutError.FrameTooLarge) → ⊥
  never_both func f l p q =
      let same : ◌≡◌ {A = Result Layout LayoutError} (Ok l) (Err LayoutError.FrameTooLarge) =
      layout_one func f (Ok l) (Err LayoutError.FrameTooLarge) tt tt p q in
      cc

  not_both : (b : Bool) → b ≡ false → b ≡ true → ⊥
  not_both b unset set = false≢true (sym unset ∙ set)

  -- ---- all coroutines

  all_one : (k : ℕ) (fs : List Function) (a b : List Layout) → AreLaid m share k fs a → AreLaid m share k fs b → a ≡ b
  all_one k _ _ _ (AreLaid.NoMore _) (AreLaid.NoMore _) = refl
  all_one k _ _ _ (AreLaid.Other _ f fs a plain rest) (AreLaid.Other _ f2 fs2 b plain2 rest2) =
      all_one (k + 1) fs a b rest rest2
  all_one k _ _ _ (AreLaid.Other _ f fs a plain rest) (AreLaid.Coroutine _ f2 fs2 l b is laid rest2) =
      absurd (not_both f.coroutine plain is)
  all_one k _ _ _ (AreLaid.Coroutine _ f fs l a is laid rest) (AreLaid.Other _ f2 fs2 b plain rest2) =
      absurd (not_both f.coroutine plain is)
  all_one k _ _ _ (AreLaid.Coroutine _ f fs l a is laid rest) (AreLaid.Coroutine _ f2 fs2 l2 b is2 laid2 rest2) =
      λ i. same_layout k f l l2 laid laid2 i ∷ all_one (k + 1) fs a b rest rest2 i

  -- the first coroutine whose frame is too large is the first function or behind it
  data Begins (n k : ℕ) (f : Function) (fs : List Function) : Type 0 where
    First : n ≡ k → f.coroutine ≡ true → IsLayout m share k f (Err LayoutError.FrameTooLarge) → Begins n k f fs
    BehindPlain : f.coroutine ≡ false → IsTooLarge m share n (k + 1) fs → Begins n k f fs
    BehindLaid : (l : Layout) → f.coroutine ≡ true → IsLayout m share k f (Ok l) → IsTooLarge m share n (k + 1) fs
        → Begins n k f fs

  begins : (n k : ℕ) (f : Function) (fs : List Function) → IsTooLarge m share n k (f ∷ fs) → Begins n k f fs
  begins n _ _ _ (IsTooLarge.Here f fs is large) = First refl is large
  begins n _ _ _ (IsTooLarge.BehindOther k f fs plain rest) = BehindPlain plain rest
  begins n _ _ _ (IsTooLarge.BehindFrame k f fs l is laid rest) = BehindLaid l is laid rest

  none_there : (n k : ℕ) (fs : List Function) → IsTooLarge m share n k fs → fs ≡ [] → ⊥
  none_there n _ _ (IsTooLarge.Here f fs is large) e = cc
  none_there n _ _ (IsTooLarge.BehindOther k f fs plain rest) e = cc
  none_there n _ _ (IsTooLarge.BehindFrame k f fs l is laid rest) e = cc

  pub large_one : (n o k : ℕ) (fs : List Function) → IsTooLarge m share n k fs → IsTooLarge m share o k fs → n ≡ o
  large_one n o _ _ (IsTooLarge.Here f fs is large) q = on (begins o n f fs q)
    where
      on : Begins o n f fs → n ≡ o
      on (First same is2 large2) = sym same
      on (BehindPlain plain rest) = absurd (not_both f.coroutine plain is)
      on (BehindLaid l is2 laid rest) = absurd (never_both n f l laid large)
  large_one n o _ _ (IsTooLarge.BehindOther k f fs plain rest) q =
      on (λ z. large_one n o (k + 1) fs rest z) (begins o k f fs q)
    where
      on : (IsTooLarge m share o (k + 1) fs → n ≡ o) → Begins o k f fs → n ≡ o
      on again (First same is large) = absurd (not_both f.coroutine plain is)
      on again (BehindPlain plain2 rest2) = again rest2
      on again (BehindLaid l is laid rest2) = absurd (not_both f.coroutine plain is)
  large_one n o _ _ (IsTooLarge.BehindFrame k f fs l is laid rest) q =
      on (λ z. large_one n o (k + 1) fs rest z) (begins o k f fs q)
    where
      on : (IsTooLarge m share o (k + 1) fs → n ≡ o) → Begins o k f fs → n ≡ o
      on again (First same is2 large) = absurd (never_both k f l laid large)
      on again (BehindPlain plain rest2) = absurd (not_both f.coroutine plain is)
      on again (BehindLaid l2 is2 laid2 rest2) = again rest2

  pub laid_or_large : (n k : ℕ) (fs : List Function) (all : List Layout) → AreLaid m share k fs all
      → IsTooLarge m share n k fs → ⊥
  laid_or_large n _ _ _ (AreLaid.NoMore k) q = none_there n k [] q refl
  laid_or_large n _ _ _ (AreLaid.Other k f fs all plain rest) q =
      on (λ z. laid_or_large n (k + 1) fs all rest z) (begins n k f fs q)
    where
      on : (IsTooLarge m share n (k + 1) fs → ⊥) → Begins n k f fs → ⊥
      on again (First same is large) = not_both f.coroutine plain is
      on again (BehindPlain plain2 rest2) = again rest2
      on again (BehindLaid l is laid rest2) = not_both f.coroutine plain is
  laid_or_large n _ _ _ (AreLaid.Coroutine k f fs l all is laid rest) q =
      on (λ z. laid_or_large n (k + 1) fs all rest z) (begins n k f fs q)
    where
      on : (IsTooLarge m share n (k + 1) fs → ⊥) → Begins n k f fs → ⊥
      on again (First same is2 large) = never_both k f l laid large
      on again (BehindPlain plain rest2) = not_both f.coroutine plain is
      on again (BehindLaid l2 is2 laid2 rest2) = again rest2

  pub laid_out_once : (a b : Layouts) → AreLayouts m share (Ok a) → AreLayouts m share (Ok b) → a ≡ b
  laid_out_once a b p q =
      let same : a.coroutines ≡ b.coroutines = all_one 0 m.functions a.coroutines b.coroutines p q in
      λ i. record { coroutines = same i }

pub layouts_one : (m : Module) (share : Bool) (r s : Result Layouts LayoutsError) → r ≢ Err LayoutsError.OutOfMemory
    → s ≢ Err LayoutsError.OutOfMemory → AreLayouts m share r → AreLayouts m share s → r ≡ s
layouts_one m share (Ok a) (Ok b) x y p q = λ i. Ok (laid_out_once m share a b p q i)
layouts_one m share (Ok a) (Err (LayoutsError.TooLarge n)) x y p q =
    absurd (laid_or_large m share n 0 m.functions a.coroutines p q)
layouts_one m share (Ok a) (Err LayoutsError.OutOfMemory) x y p q = absurd (y refl)
layouts_one m share (Err (LayoutsError.TooLarge n)) (Ok b) x y p q =
    absurd (laid_or_large m share n 0 m.functions b.coroutines q p)
layouts_one m share (Err (LayoutsError.TooLarge n)) (Err (LayoutsError.TooLarge o)) x y p q =
    let same : n ≡ o = large_one m share n o 0 m.functions p q in
    λ i. Err (LayoutsError.TooLarge (same i))
layouts_one m share (Err (LayoutsError.TooLarge n)) (Err LayoutsError.OutOfMemory) x y p q = absurd (y refl)
layouts_one m share (Err LayoutsError.OutOfMemory) s x y p q = absurd (x refl)
