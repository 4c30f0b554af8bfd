-- An alloca makes one slot of those that are copied at begin.
use Rattle.std.proofs.Common.{◌≡◌, ℕ, suc, ◌+◌, Bool, true, false, List, [], ◌∷◌, ◌++◌, length, Some, refl, sym}
use Rattle.std.proofs.Common.{inl, inr, ap, ◌∙◌, arith}
use Rattle.std.specs.Prelude.{if◌then◌else◌, map, slice_get}
use Rattle.compiler.specs.flow_solver.Paths.{IsListed}
use Rattle.compiler.specs.frame_classes.declared.class.SlotClass.{SlotClass}
use Rattle.compiler.specs.ir_laws.paths.woven_rules.Pairs.{AreDifferent}
use Rattle.compiler.specs.ir_model.declared.instr.Instr.{Instr}
use Rattle.compiler.specs.ir_model.declared.module.Block.{Block}
use Rattle.compiler.specs.ir_parts.Contents.{result_of}
use Rattle.compiler.specs.ir_paths.Windows.{instr_in}
use Rattle.compiler.specs.ir_paths.declared.point.Point.{Point}
use Rattle.compiler.specs.pass_copies.Slots.{early_slot, entry_instrs, slots_from}
use Rattle.compiler.specs.pass_copies.Uses.{flag_at, used_before}
use Rattle.compiler.specs.pass_copies.declared.slot.EarlySlot.{EarlySlot}
use Rattle.compiler.specs.pass_frames.Framed.{celled}
use Rattle.compiler.specs.pass_frames.Tables.{class_flags, sizes_by_name}
use Rattle.pass_frames_meaning.specs.pass_frames_proof.Framings.{IsFraming}
use Rattle.pass_frames_meaning.specs.pass_frames_proof.Places.{Framing, before_labels, copies, with_copies, written}
use Rattle.compiler.proofs.pass_proofs.frames.begin_order.Framed.{celled_keeps}
use Rattle.compiler.proofs.rule_laws.rules.source_rules.Locals.{same_result}
use Rattle.compiler.proofs.rule_laws.rules.sources.Places.{point}
use Rattle.compiler.specs.rule_laws.rules.function_rules.Kept.{KeepsFunctionRules}

-- ---- instructions that give values of their own

abbrev AreOwnResults : List Instr → Type 0
AreOwnResults is = (v n m : ℕ) (i j : Instr) → slice_get is n ≡ Some i → slice_get is m ≡ Some j
    → result_of i ≡ Some v → result_of j ≡ Some v → n ≡ m

same_less : (n m : ℕ) → suc n ≡ suc m → n ≡ m
same_less n m e = omega (arith, e)

further : (i : Instr) (is : List Instr) → AreOwnResults (i ∷ is) → AreOwnResults is
further i is once v n m j k d e gives too = same_less n m (once v (suc n) (suc m) j k d e gives too)

module _ (used : List Bool) (sizes : List ℕ) where
  abbrev slots : ℕ → List Instr → List ℕ
  slots n is = map (λ (e : EarlySlot). e.slot) (slots_from used sizes n is)

  record IsGivenIn (is : List Instr) (v : ℕ) : Type 0 where
    at : ℕ
    instr : Instr
    there : slice_get is at ≡ Some instr
    gives : result_of instr ≡ Some v

  later : (i : Instr) (is : List Instr) (v : ℕ) → IsGivenIn is v → IsGivenIn (i ∷ is) v
  later i is v z = record { at = suc z.at; instr = z.instr; there = z.there; gives = z.gives }

  given_in : (n : ℕ) (is : List Instr) (v : ℕ) → IsListed v (slots n is) → IsGivenIn is v
  given_in n [] v l = absurd l
  given_in n (Instr.Alloca r ty align ∷ is) v l = on (flag_at used r) (given_in n is v) (given_in (n + 2) is v) l
    where
      on : (b : Bool) → (IsListed v (slots n is) → IsGivenIn is v) → (IsListed v (slots (n + 2) is) → IsGivenIn is v)
          → IsListed v (map (λ (e : EarlySlot). e.slot)
          ((if b then early_slot sizes n r ty align ∷ [] else []) ++ slots_from used sizes (if b then n + 2 else n) is))
          → IsGivenIn (Instr.Alloca r ty align ∷ is) v
      on true same next (inl e) = record {
        at = 0;
        instr = Instr.Alloca r ty align;
        there = refl;
        gives = ap (λ (u : ℕ). Some u) (sym e);
      }
      on true same next (inr k) = later (Instr.Alloca r ty align) is v (next k)
      on false same next k = later (Instr.Alloca r ty align) is v (same k)
  given_in n (i ∷ is) v l = later i is v (given_in n is v l)

  all_differ : (n : ℕ) (is : List Instr) → AreOwnResults is → AreDifferent (slots n is)
  all_differ n [] once = tt
  all_differ n (Instr.Alloca r ty align ∷ is) once =
      on (flag_at used r) (all_differ n is (further (Instr.Alloca r ty align) is once))
      (all_differ (n + 2) is (further (Instr.Alloca r ty align) is once))
    where
      on : (b : Bool) → AreDifferent (slots n is) → AreDifferent (slots (n + 2) is)
          → AreDifferent (map (λ (e : EarlySlot). e.slot)
          ((if b then early_slot sizes n r ty align ∷ [] else []) ++ slots_from used sizes (if b then n + 2 else n) is))
      on true same next = (
        λ l.
            let z = given_in (n + 2) is r l in
            let here : 0 ≡ suc z.at = once r 0 (suc z.at) (Instr.Alloca r ty align) z.instr refl z.there refl z.gives in
            absurd (omega (arith, here)),
        next,
      )
      on false same next = same
  all_differ n (i ∷ is) once = all_differ n is (further i is once)

-- ---- a framing

module _ (x : Framing) (is : IsFraming x) where
  rules : KeepsFunctionRules x.code is.position (written x)
  unfolding celled
  rules = celled_keeps x.code is.position x.layout x.function x.contents is.begin (length (with_copies x).names)
      is.frameable

  abbrev used : List Bool
  used = used_before (written x) (class_flags x.function x.contents.classes SlotClass.Frame) (before_labels x)

  abbrev sizes : List ℕ
  sizes = sizes_by_name x.function x.contents.held

  own : (bs : List Block) → (written x).blocks ≡ bs → AreOwnResults (entry_instrs bs)
  own [] e v n m i j d k gives too = absurd (cc)
  own (b ∷ bs) e v n m i j d k gives too =
      ap (λ (p : Point). p.at) (same_result is.position (written x) rules.definitions (point 0 n) (point 0 m) i j v
      (ap (λ (cs : List Block). instr_in (slice_get cs 0) n) e ∙ d)
      (ap (λ (cs : List Block). instr_in (slice_get cs 0) m) e ∙ k) gives too)

  pub early_once : AreDifferent (map (λ (e : EarlySlot). e.slot) (copies x).slots)
  early_once = all_differ used sizes (length (written x).names) (entry_instrs (written x).blocks)
      (own (written x).blocks refl)
