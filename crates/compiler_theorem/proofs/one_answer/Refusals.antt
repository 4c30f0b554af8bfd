-- A source has one acceptance, and is refused for one rule at one place, K12 among the rules.
use Rattle.std.proofs.Common.{◌≡◌, ℕ, ◌<◌, Bool, false, Option, Some, None, Ok, Err, refl, sym, ap, subst, arith}
use Rattle.compiler.proofs.rule_laws.rules.refusals.Once.{refused_once}
use Rattle.compiler_theorem.proofs.one_answer.Layouts.{laid_or_large, laid_out_once, large_one}
use Rattle.compiler.specs.frame_acceptance.Acceptance.{AreAllFine, AreFine, ComesAlone, ComesBefore, ComesFor, ComesOf, IsAcceptance, IsRefusedFor}
use Rattle.compiler.specs.frame_acceptance.Order.{looked_at, too_large}
use Rattle.compiler.specs.frame_acceptance.declared.accepting.Acceptance.{Acceptance}
use Rattle.compiler.specs.frame_contents.Frames.{AreLayouts}
use Rattle.compiler.specs.frame_contents.declared.module_frames.LayoutsError.{LayoutsError}
use Rattle.compiler.specs.frame_layout.declared.layout.Layouts.{Layouts}
use Rattle.compiler.specs.ir_model.declared.module.Module.{Module}
use Rattle.compiler.specs.rule_laws.rule_modules.declared.order.Refusal.{Refusal}
use Rattle.compiler.specs.rule_names.declared.stage.Stage.{Stage}

module _ (m : Module) where
  abbrev IsLarge : Bool → ℕ → Type 0
  IsLarge share n = AreLayouts m share (Err (LayoutsError.TooLarge n))

  same_large : (share : Bool) (n o : ℕ) → IsLarge share n → IsLarge share o → n ≡ o
  same_large share n o p q = large_one m share n o 0 m.functions p q

  large_never : (share : Bool) (n : ℕ) (l : Layouts) → AreLayouts m share (Ok l) → IsLarge share n → ⊥
  large_never share n l laid large = laid_or_large m share n 0 m.functions l.coroutines laid large

  -- none of the first functions has too large a frame, and one of them has
  fine_never : (count n : ℕ) → AreFine m count → n < count → IsLarge false n → ⊥
  fine_never count n (AreFine.NoneThere none) lt large = omega (arith, lt, none)
  fine_never count n (AreFine.All l laid) lt large = large_never false n l laid large
  fine_never count n (AreFine.Later o le later) lt large =
      let same = same_large false n o large later in
      omega (arith, lt, le, same)
  fine_never count n (AreFine.NoneLarge never) lt large = never n large

  before_one : (r a b : Refusal) → ComesBefore m r a → ComesBefore m r b → a ≡ b
  before_one r _ _ (ComesBefore.Large n lt large) (ComesBefore.Large o lt2 large2) =
      ap too_large (same_large false n o large large2)
  before_one r _ _ (ComesBefore.Large n lt large) (ComesBefore.Same fine) =
      absurd (fine_never (looked_at r) n fine lt large)
  before_one r _ _ (ComesBefore.Same fine) (ComesBefore.Large n lt large) =
      absurd (fine_never (looked_at r) n fine lt large)
  before_one r _ _ (ComesBefore.Same fine) (ComesBefore.Same fine2) = refl

  alone_one : (share : Bool) (a b : Refusal) → ComesAlone m share a → ComesAlone m share b → a ≡ b
  alone_one share _ _ (ComesAlone.Large n large) (ComesAlone.Large o large2) =
      ap too_large (same_large share n o large large2)

  alone_never : (share : Bool) (a : Refusal) (l : Layouts) → ComesAlone m share a → AreLayouts m share (Ok l) → ⊥
  alone_never share _ l (ComesAlone.Large n large) laid = large_never share n l laid large

  alone_or_fine : (a : Refusal) → ComesAlone m false a → AreAllFine m → ⊥
  alone_or_fine _ (ComesAlone.Large n large) (AreAllFine.Laid l laid) = large_never false n l laid large
  alone_or_fine _ (ComesAlone.Large n large) (AreAllFine.NoneLarge never) = never n large

  -- ---- with layouts

  comes_one : (share : Bool) (o : Option Refusal) (a b : Acceptance) → ComesOf m share o a → ComesOf m share o b → a ≡ b
  comes_one share (Some r) (Acceptance.Refused x) (Acceptance.Refused y) p q =
      λ i. Acceptance.Refused (before_one r x y p q i)
  comes_one share (Some r) (Acceptance.Refused x) (Acceptance.Accepted k) p q = absurd q
  comes_one share (Some r) (Acceptance.Accepted l) b p q = absurd p
  comes_one share None (Acceptance.Refused x) (Acceptance.Refused y) p q =
      λ i. Acceptance.Refused (alone_one share x y p q i)
  comes_one share None (Acceptance.Refused x) (Acceptance.Accepted k) p q = absurd (alone_never share x k p q)
  comes_one share None (Acceptance.Accepted l) (Acceptance.Refused y) p q = absurd (alone_never share y l q p)
  comes_one share None (Acceptance.Accepted l) (Acceptance.Accepted k) p q =
      λ i. Acceptance.Accepted (laid_out_once m share l k p q i)

  -- ---- without layouts

  for_one : (o a b : Option Refusal) → ComesFor m o a → ComesFor m o b → a ≡ b
  for_one (Some r) (Some x) (Some y) p q = λ i. Some (before_one r x y p q i)
  for_one (Some r) (Some x) None p q = absurd q
  for_one (Some r) None b p q = absurd p
  for_one None (Some x) (Some y) p q = λ i. Some (alone_one false x y p q i)
  for_one None (Some x) None p q = absurd (alone_or_fine x p q)
  for_one None None (Some y) p q = absurd (alone_or_fine y q p)
  for_one None None None p q = refl

pub acceptances_one : (m : Module) (share : Bool) (a b : Acceptance) → IsAcceptance m share a → IsAcceptance m share b
    → a ≡ b
acceptances_one m share a b p q =
    let same : p.refusal ≡ q.refusal = refused_once Stage.Source m p.refusal q.refusal p.refused q.refused in
    comes_one m share p.refusal a b p.comes (subst (λ (o : Option Refusal). ComesOf m share o b) (sym same) q.comes)

pub refusals_one : (m : Module) (r s : Option Refusal) → IsRefusedFor m r → IsRefusedFor m s → r ≡ s
refusals_one m r s p q =
    let same : p.refusal ≡ q.refusal = refused_once Stage.Source m p.refusal q.refusal p.refused q.refused in
    for_one m p.refusal r s p.comes (subst (λ (o : Option Refusal). ComesFor m o s) (sym same) q.comes)
