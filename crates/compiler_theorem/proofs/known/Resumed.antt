-- Where a resumed activation stands no marker of a ramp slot stands.
use Rattle.std.proofs.Common.{◌≡◌, ℕ, Bool, true, false, List, [], ◌∷◌, ◌++◌, refl, sym, ap, ◌∙◌}
use Rattle.std.proofs.lemmas.Bool.{false≢true}
use Rattle.std.specs.Prelude.{Option, filter, not, if◌then◌else◌, ◌==◌, ◌||◌}
use Rattle.compiler_theorem.proofs.known.Names.{there_of}
use Rattle.compiler_theorem.proofs.known.Plain.{marker_reads}
use Rattle.compiler_theorem.specs.known.Counts.{is_slot_of, own, stays_own}
use Rattle.compiler_theorem.specs.theorem.Anew.{Anew, IsAnewOf}
use Rattle.compiler_theorem.specs.theorem.Entries.{IsEntryCall, Run}
use Rattle.compiler_theorem.specs.theorem.Lowered.{HasFewBytes, IsLowered, Lowered, early, edged}
use Rattle.compiler.proofs.ir_laws.facts.Truth.{and_first, and_second, equal_numbers}
use Rattle.compiler.specs.ir_model.Names.{function_at}
use Rattle.compiler.specs.ir_model.Ty.{Ty}
use Rattle.compiler.specs.ir_model.declared.operand.Arg.{Arg}
use Rattle.compiler.specs.ir_paths.Slots.{IsRampSlot, allocas_of, has_name}
use Rattle.compiler.specs.ir_paths.declared.point.Facts.{Facts}
use Rattle.pass_frames_meaning.specs.pass_frames_proof.Marking.{marking}
use Rattle.compiler.specs.pass_kept_proof.Needed.{reads_at}
use Rattle.compiler.proofs.pass_proofs.kept.sources.Whole.{split_named}
use Rattle.pass_frames_meaning.proofs.pass_renewed_meaning.Tables.{facts_are, renewed_are}
use Rattle.pass_frames_meaning.specs.pass_renewed_proof.Way.{IsResumedAt}
use Rattle.compiler.proofs.rule_laws.rules.sources.Places.{point}
use Rattle.run_accepted.proofs.RampSlots.{ramp_unread}
use Rattle.compiler.specs.run_step.Step.{AtInstr, fetch}

behind_filter : (p : ℕ → Bool) (xs ys : List ℕ) (v : ℕ) → p v ≡ false → has_name (filter p xs ++ ys) v ≡ true
    → has_name ys v ≡ true
behind_filter p [] ys v off h = h
behind_filter p (x ∷ xs) ys v off h = on (p x) refl h (behind_filter p xs ys v off)
  where
    same : (b : Bool) → p x ≡ true → (x == v) ≡ b → (b || has_name (filter p xs ++ ys) v) ≡ true
        → (has_name (filter p xs ++ ys) v ≡ true → has_name ys v ≡ true) → has_name ys v ≡ true
    same true is e k rest = absurd (false≢true (sym off ∙ sym (ap p (equal_numbers x v e)) ∙ is))
    same false is e k rest = rest k

    on : (b : Bool) → p x ≡ b
        → has_name ((if b then x ∷ filter p xs else filter p xs) ++ ys) v ≡ true
        → (has_name (filter p xs ++ ys) v ≡ true → has_name ys v ≡ true) → has_name ys v ≡ true
    on true e k rest = same (x == v) e refl k rest
    on false e k rest = rest k

module _ (l : Lowered) (low : IsLowered l) (few : HasFewBytes l) (a : Anew) (anew : IsAnewOf (early l) a) (r : Run)
    (entered : IsEntryCall l.source r) (func : ℕ) (coroutine : (function_at (early l) func).coroutine ≡ true) where
  -- an own slot that isn't made anew is a ramp slot
  module _ (v : ℕ) (off : a.flags func v ≡ false) (is_own : own l a r func v ≡ true) where
    slot : is_slot_of l func v ≡ true
    slot = and_first (is_slot_of l func v) _ is_own

    stays : stays_own l a r func v ≡ true
    stays = ap (λ (b : Bool). not b || stays_own l a r func v) (sym coroutine)
        ∙ and_second (is_slot_of l func v) _ is_own

    ramp : IsRampSlot (function_at (edged l) func) v
    ramp =
        let there = there_of l low few a anew r entered func v slot in
        let listed = sym (ap (λ (z : Facts). has_name z.ramp_slots v) (renewed_are (edged l) a.flags func there))
        ∙ stays in
        (((facts_are (edged l) func there).ramp_slots v).0
        (behind_filter (a.flags func) (allocas_of (function_at (edged l) func)) _ v off listed)).1

  pub none_resumed : (block at : ℕ) (starts must_tail : Bool) (ty : Option Ty) (size : Arg) (u : Ty) (name : ℕ)
      → fetch (function_at (edged l) func) block at ≡ AtInstr (marking starts must_tail ty size u name)
      → a.flags func name ≡ false → own l a r func name ≡ true
      → IsResumedAt (function_at (edged l) func) (point block at) → ⊥
  none_resumed block at starts must_tail ty size u name there off is_own resumed =
      ramp_unread (function_at (edged l) func)
      (split_named l.text l.source low.source.stands low.source.accepted func) name (ramp name off is_own) block at
      resumed (ap (reads_at name) there ∙ marker_reads starts must_tail ty size u name)
