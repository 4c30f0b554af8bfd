-- What the first pass leaves as it is of slots.
use Rattle.std.proofs.Common.{◌≡◌, ℕ, List, Some, None, Option, length, refl, ◌↔◌}
use Rattle.pass_early_proof.proofs.early.begin_naming.NamedParts.{with_begin}
use Rattle.pass_early_proof.specs.early.renaming.Passes.{renamed_coroutine}
use Rattle.pass_early_proof.specs.early.renaming.Regular.{IsPlain, IsRegular}
use Rattle.rule_laws.proofs.frames.alike_slots.Classes.{classes_same}
use Rattle.rule_laws.proofs.frames.alike_slots.Conflicts.{alive_same, conflicts_same}
use Rattle.pass_early_proof.proofs.early.slots.NamedSlots.{IsAny, named_slots_alike}
use Rattle.pass_early_proof.proofs.early.slots.RenamedSlots.{renamed_slots_alike}
use Rattle.pass_early_proof.proofs.early.slots.SavedSlots.{IsName, saved_slots_alike}
use Rattle.rule_laws.proofs.ir_laws.paths.alike_slots.Still.{stay}
use Rattle.pass_early.specs.BeginName.{if_unnamed, with_begin_name}
use Rattle.pass_early.specs.declared.renaming.Renaming.{Renaming}
use Rattle.ir_model.specs.Calls.{first_result}
use Rattle.ir_model.specs.declared.module.Function.{Function}
use Rattle.ir_model.specs.declared.operand.Intrinsic.{Intrinsic}
use Rattle.pass_early_proof.specs.early.saves.SavesWritten.{saved_function}
use Rattle.pass_early_proof.specs.early.saves.Spots.{back_of, front_of}
use Rattle.rule_laws.specs.ir_laws.paths.expanded.Tokens.{HasNamedTokens}
use Rattle.rule_laws.specs.frame_conflicts.Conflicts.{AreAliveAt, AreConflicts}
use Rattle.rule_laws.specs.frame_classes.Classes.{AreClasses}
use Rattle.rule_laws.specs.frame_classes.declared.class.SlotClass.{SlotClass}
use Rattle.rule_laws.specs.ir_laws.facts.sound_states.Named.{HasNamedOperands}

pub classes_saved : (f : Function) → HasNamedTokens f → (classes : List SlotClass) → AreClasses f classes ↔ AreClasses (saved_function f) classes
classes_saved f named classes = classes_same f (saved_function f) (front_of f) (back_of f) (IsName f named) (saved_slots_alike f named) classes

pub alive_saved : (f : Function) → HasNamedTokens f → (pairs : List (ℕ × ℕ)) → AreAliveAt f pairs ↔ AreAliveAt (saved_function f) pairs
alive_saved f named pairs = alive_same f (saved_function f) (front_of f) (back_of f) (IsName f named) (saved_slots_alike f named) pairs

pub conflicts_saved : (f : Function) → HasNamedTokens f → (pairs : List (ℕ × ℕ)) → AreConflicts f pairs ↔ AreConflicts (saved_function f) pairs
conflicts_saved f named pairs = conflicts_same f (saved_function f) (front_of f) (back_of f) (IsName f named) (saved_slots_alike f named) pairs

pub classes_renamed : (f : Function) (r : Renaming) → IsRegular f r → (classes : List SlotClass) → AreClasses f classes ↔ AreClasses (renamed_coroutine r f) classes
classes_renamed f r ok classes = classes_same f (renamed_coroutine r f) stay stay (IsPlain r) (renamed_slots_alike r f ok) classes

pub alive_renamed : (f : Function) (r : Renaming) → IsRegular f r → (pairs : List (ℕ × ℕ)) → AreAliveAt f pairs ↔ AreAliveAt (renamed_coroutine r f) pairs
alive_renamed f r ok pairs = alive_same f (renamed_coroutine r f) stay stay (IsPlain r) (renamed_slots_alike r f ok) pairs

pub conflicts_renamed : (f : Function) (r : Renaming) → IsRegular f r → (pairs : List (ℕ × ℕ)) → AreConflicts f pairs ↔ AreConflicts (renamed_coroutine r f) pairs
conflicts_renamed f r ok pairs = conflicts_same f (renamed_coroutine r f) stay stay (IsPlain r) (renamed_slots_alike r f ok) pairs

-- ---- begin's value gets a name

-- what holds of a function stays where begins without names get one
by_name : (P : Function → Type 0) (f : Function) → (first_result Intrinsic.CoroBegin f ≡ None → P f ↔ P (with_begin (length f.names) f)) → P f ↔ P (with_begin_name f)
by_name P f h = on (first_result Intrinsic.CoroBegin f) refl
  where
    on : (o : Option ℕ) → first_result Intrinsic.CoroBegin f ≡ o → P f ↔ P (if_unnamed o f)
    on None e = h e
    on (Some n) e = ((λ p. p), (λ p. p))

pub classes_named : (f : Function) → HasNamedOperands f → (classes : List SlotClass) → AreClasses f classes ↔ AreClasses (with_begin_name f) classes
classes_named f named classes = by_name (λ h. AreClasses h classes) f (λ none. classes_same f (with_begin (length f.names) f) stay stay (IsAny f named none) (named_slots_alike f named none) classes)

pub alive_named : (f : Function) → HasNamedOperands f → (pairs : List (ℕ × ℕ)) → AreAliveAt f pairs ↔ AreAliveAt (with_begin_name f) pairs
alive_named f named pairs = by_name (λ h. AreAliveAt h pairs) f (λ none. alive_same f (with_begin (length f.names) f) stay stay (IsAny f named none) (named_slots_alike f named none) pairs)

pub conflicts_named : (f : Function) → HasNamedOperands f → (pairs : List (ℕ × ℕ)) → AreConflicts f pairs ↔ AreConflicts (with_begin_name f) pairs
conflicts_named f named pairs = by_name (λ h. AreConflicts h pairs) f (λ none. conflicts_same f (with_begin (length f.names) f) stay stay (IsAny f named none) (named_slots_alike f named none) pairs)
